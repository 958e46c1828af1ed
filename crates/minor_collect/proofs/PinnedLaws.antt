-- The pinned objects are listed by rising place, and the nursery is made anew around them.
use Rattle.std.proofs.Common.{◌≡◌, ℕ, suc, ◌+◌, ◌<◌, ◌≤◌, false, IsTrue, List, [], ◌∷◌, ◌++◌, map, length, take, get_or, append_assoc, nat_eq, refl, sym, ap, ◌∙◌, subst, inl, inr, arith}
use Rattle.std.specs.Prelude.{◌==◌, not, nat_lt, slice_index_or, sum_by}
use Rattle.std.proofs.lemmas.List.{map-append}
use Rattle.std.specs.List.{IsDistinct, AllByRecursion}
use Rattle.std.specs.List.Sorted.{IsPermutation, IsNonDecreasing}
use Rattle.std.proofs.lemmas.Bool.Decides.{nat_tests}
use Rattle.std.proofs.lemmas.List.Sums.{sum_by-cons}
use Rattle.std.proofs.lemmas.List.Sorted.{IsPermutation-sym, sum_by-IsPermutation, list_any-IsPermutation}
use Rattle.std.proofs.lemmas.Map.Keys.{IsDistinct-IsPermutation}
use Rattle.nursery_gaps.specs.Ranges.{Range, AreRising}
use Rattle.nursery_gaps.specs.Nursery.{IsLaidOut}
use Rattle.object_model.specs.Sets.{is_in}
use Rattle.object_model.proofs.Members.{is_in-head, is_in-tail, is_in-cases, is_in-nil}
use Rattle.object_model.proofs.Distinct.{differ-in}
use Rattle.heap_parts.specs.Parts.{HeapParts, word_in, pinned_places}
use Rattle.heap_parts.specs.Places.{block_at}
use Rattle.minor_collect.proofs.PlacesSteps.{take_more}
use Rattle.minor_collect.specs.Remade.{AreObjectsAt, CanRemake, ListsPinned, Remakes, words_of}

same-members : (x : ℕ) (xs ys : List ℕ) → IsPermutation xs ys → is_in x xs ≡ is_in x ys
same-members x xs ys p = list_any-IsPermutation (λ (y : ℕ). y == x) xs ys p

pub objects_permuted : (now : HeapParts) (listed sorted : List ℕ) → AreObjectsAt now (pinned_places now) → listed ≡ pinned_places now → IsPermutation listed sorted → AreObjectsAt now sorted
objects_permuted now listed sorted objects are permuted p t = objects p (subst (λ (xs : List ℕ). IsTrue (is_in p xs)) are (same-members p listed sorted permuted ∙ t))

ones : (xs : List ℕ) → sum_by (λ x. 1) xs ≡ length xs
ones [] = refl
ones (x ∷ xs) = let more = ones xs in let one = sum_by-cons (λ (y : ℕ). 1) x xs in omega (arith, more, one)

many-permuted : (xs ys : List ℕ) → IsPermutation xs ys → length ys ≡ length xs
many-permuted xs ys p = sym (ones ys) ∙ (sum_by-IsPermutation (λ x. 1) xs ys p ∙ ones xs)

pub lists_pinned : (now : HeapParts) (words : ℕ) (listed sorted : List ℕ) (ranges : List Range) → listed ≡ pinned_places now → words ≡ sum_by (words_of now) listed → IsPermutation listed sorted → IsNonDecreasing sorted
    → ranges ≡ map (block_at now.setup.types (word_in now)) sorted → ListsPinned now words ranges
lists_pinned now words listed sorted ranges are count permuted rise blocks = record {
  sorted = sorted;
  permuted = subst (λ (xs : List ℕ). IsPermutation xs sorted) are permuted;
  many = many-permuted listed sorted permuted ∙ ap length are;
  rise = rise;
  are = blocks;
  words_are = count ∙ ap (sum_by (words_of now)) are;
}

-- a member stands at an index
record StandsIn (x : ℕ) (xs : List ℕ) : Type 0 where
  pub index : ℕ
  pub below : index < length xs
  pub is : get_or xs index 0 ≡ x

stands-in : (x : ℕ) (xs : List ℕ) → IsTrue (is_in x xs) → StandsIn x xs
stands-in x [] t = absurd (is_in-nil x t)
stands-in x (y ∷ ys) t = elim (is_in-cases x y ys t) [
  | inl e ↦ record { index = 0; below = omega arith; is = sym e }
  | inr u ↦ let m = stands-in x ys u in record { index = suc m.index; below = (let b = m.below in omega (arith, b)); is = m.is }
]

tail-sorted : (x : ℕ) (xs : List ℕ) → IsNonDecreasing (x ∷ xs) → IsNonDecreasing xs
tail-sorted x xs s i j d le lt = s (suc i) (suc j) d (omega (arith, le)) (omega (arith, lt))

-- the first is below each other
head-least : (p : ℕ) (ps : List ℕ) → IsNonDecreasing (p ∷ ps) → AllByRecursion (λ y. nat_eq p y ≡ false) ps → (q : ℕ) → IsTrue (is_in q ps) → p < q
head-least p ps s apart q t =
    let m = stands-in q ps t in
    let up = s 0 (suc m.index) 0 (omega arith) (let b = m.below in omega (arith, b)) in
    let at = m.is in
    less (omega (arith, up, at)) (λ e. differ-in p ps apart (subst (λ (k : ℕ). IsTrue (is_in k ps)) (sym e) t))
  where
    less : p ≤ q → (p ≡ q → ⊥) → p < q
    less l ne = omega (arith, l, ne)

-- blocks that stand apart rise where their places do
pub blocks_rise : (size : ℕ → ℕ) (words from : ℕ) (sorted : List ℕ) → IsNonDecreasing sorted → IsDistinct nat_eq sorted
    → ((p : ℕ) → IsTrue (is_in p sorted) → 0 < size p) → ((p q : ℕ) → IsTrue (is_in p sorted) → IsTrue (is_in q sorted) → p < q → p + size p ≤ q)
    → ((p : ℕ) → IsTrue (is_in p sorted) → p + size p ≤ words + 1) → ((p : ℕ) → IsTrue (is_in p sorted) → from ≤ p) → from ≤ words + 1
    → AreRising from (words + 1) (map (λ p. (p, size p)) sorted)
unfolding IsDistinct
blocks_rise size words from [] s d some apart inside least fits = fits
blocks_rise size words from (p ∷ ps) s d some apart inside least fits = (
  least p (is_in-head p ps),
  some p (is_in-head p ps),
  blocks_rise size words (p + size p) ps (tail-sorted p ps s) d.1 (λ q t. some q (is_in-tail q p ps t))
      (λ q r t u l. apart q r (is_in-tail q p ps t) (is_in-tail r p ps u) l) (λ q t. inside q (is_in-tail q p ps t))
      (λ q t. apart p q (is_in-head p ps) (is_in-tail q p ps t) (head-least p ps s d.0 q t)) (inside p (is_in-head p ps)),
)

some-pinned : (n : ℕ) → not (n == 0) ≡ nat_lt 0 n
some-pinned n = grind (arith, nat_tests)

-- one block more is listed
pub blocks_more : (f : ℕ → Range) (before now new : List Range) (xs : List ℕ) (k : ℕ) → k < length xs → now ≡ before ++ map f (take k xs) → new ≡ now ++ map f (slice_index_or xs k 0 ∷ []) → new ≡ before ++ map f (take (k + 1) xs)
blocks_more f before now new xs k l so_far one =
    one ∙ (ap (λ (ys : List Range). ys ++ map f (slice_index_or xs k 0 ∷ [])) so_far ∙ (append_assoc before (map f (take k xs)) (map f (slice_index_or xs k 0 ∷ []))
    ∙ ap (λ (ys : List Range). before ++ ys) (sym (map-append f (take k xs) (slice_index_or xs k 0 ∷ [])) ∙ ap (map f) (sym (take_more xs k l)))))

module _ {now : HeapParts} (c : CanRemake now) {words : ℕ} {ranges : List Range} (l : ListsPinned now words ranges) where
  pinned : (p : ℕ) → IsTrue (is_in p l.sorted) → IsTrue (is_in p (pinned_places now))
  pinned p t = same-members p (pinned_places now) l.sorted l.permuted ∙ t

  pub pinned_rising : AreRising 1 (now.nursery.words + 1) ranges
  pinned_rising = subst (AreRising 1 (now.nursery.words + 1)) (sym l.are)
      (blocks_rise (words_of now) now.nursery.words 1 l.sorted l.rise (IsDistinct-IsPermutation nat_eq (λ x y. grind (arith, nat_tests)) (pinned_places now) l.sorted l.permuted c.differ)
      (λ p t. (c.above p (pinned p t)).1) (λ p q t u less. c.apart p q (pinned p t) (pinned q u) less) (λ p t. c.inside p (pinned p t)) (λ p t. (c.above p (pinned p t)).0) (omega arith))

  pub pinned_few : length ranges ≡ length now.pins
  pinned_few = ap length l.are ∙ (many (block_at now.setup.types (word_in now)) l.sorted ∙ (l.many ∙ many (λ (e : ℕ × ℕ). e.0) now.pins))
    where
      many : {X Y : Type 0} (f : X → Y) (xs : List X) → length (map f xs) ≡ length xs
      many f [] = refl
      many f (x ∷ xs) = ap suc (many f xs)

  pub remade : {new : HeapParts} → new ≡ record now {
    nursery = record now.nursery { used = ranges; gap = 1; cursor = 1 };
    unsettled = words;
    gapped = not (length now.pins == 0);
  } → IsLaidOut new.nursery → Remakes now new
  remade is laid = record {
    sorted = l.sorted;
    sorted_are = IsPermutation-sym (pinned_places now) l.sorted l.permuted;
    is = is ∙ (λ i. record now {
      nursery = record now.nursery { used = l.are i; gap = 1; cursor = 1 };
      unsettled = l.words_are i;
      gapped = some-pinned (length now.pins) i;
    });
    laid_out = laid;
  }
