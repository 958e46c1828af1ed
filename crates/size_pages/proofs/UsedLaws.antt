-- The pages in use, gathered from the lists of all classes and sorted.
use Rattle.std.proofs.Common.{◌≡◌, ◌≢◌, ℕ, zero, suc, ◌+◌, ◌-◌, ◌*◌, ◌<◌, ◌≤◌, inl, inr, List, [], ◌∷◌, ◌++◌, length, length-append, slice_index, get_or, vec_capacity, arith, refl, sym, ◌∙◌, ap, subst}
use Rattle.std.proofs.lemmas.Bool.{cases_lt}
use Rattle.std.proofs.lemmas.Bool.Decides.{eqb_tells}
use Rattle.std.specs.List.Sorted.{IsPermutation, IsNonDecreasing}
use Rattle.heap_space.specs.Memory.{Memory}
use Rattle.size_pages.specs.PageWords.{Words, word_in, CanStore}
use Rattle.size_pages.specs.LiveBlocks.{page_at}
use Rattle.size_pages.specs.PageLists.{EachPlace, IsIn, IsPage, list_number, list_of, IsListedRightly, ListsFit}
use Rattle.size_pages.specs.Calls.{NoneWaits}
use Rattle.size_pages.specs.Gathering.{IsListFrom, CanGather, IsUsed, IsOrder}
use Rattle.size_pages.specs.declared.Pages.{Pages}
use Rattle.size_pages.proofs.ListLaws.{places_map}
use Rattle.size_pages.proofs.ResultLaws.{index_default}
use Rattle.size_pages.proofs.FitsLaws.{header_has, places_of, below_of}
use Rattle.size_pages.proofs.EndLaws.{heads_long, number_of_list}
use Rattle.size_pages.proofs.WaitLaws.{each_in, waits_exactly}
use Rattle.size_pages.proofs.TimesLaws.{times, times_append, times_moved, in_times, times_in, times_once, each_from, pages_few, sorted_rises}

-- the first n lists of classes, one behind the other
abbrev pub gathered : (ℕ → List ℕ) → ℕ → List ℕ
gathered lists zero = []
gathered lists (suc n) = gathered lists n ++ lists (n + 2)

each_append : (P : ℕ → Type 0) (xs ys : List ℕ) → EachPlace P xs → EachPlace P ys → EachPlace P (xs ++ ys)
each_append P [] ys p q = q
each_append P (x ∷ xs) ys p q = (p.0, each_append P xs ys p.1 q)

pages_gathered : (size count : ℕ) (lists : ℕ → List ℕ) → ((s : ℕ) → EachPlace (IsPage size count) (lists s)) → (n : ℕ) → EachPlace (IsPage size count) (gathered lists n)
pages_gathered size count lists all zero = tt
pages_gathered size count lists all (suc n) = each_append (IsPage size count) (gathered lists n) (lists (n + 2)) (pages_gathered size count lists all n) (all (n + 2))

-- what is gathered once, and from which lists
record IsOnce (w : Words) (lists : ℕ → List ℕ) (n p : ℕ) : Type 0 where
  once : times p (gathered lists n) ≤ 1
  low : 1 ≤ times p (gathered lists n) → 2 ≤ list_of w p
  high : 1 ≤ times p (gathered lists n) → list_of w p < n + 2

module _ (w : Words) (size count : ℕ) (heads waiting : List ℕ) (f : ListsFit w size count heads waiting 0) where
  its_list : (p s : ℕ) → IsIn p (f.lists s) → list_of w p ≡ s
  its_list p s i = (each_in (λ q. (list_of w q ≡ s) × (q ≢ 0)) (f.lists s) p (f.right s) i).0

  is_once : (n p : ℕ) → IsOnce w f.lists n p
  is_once zero p = record { once = omega arith; low = λ some. absurd (omega (arith, some)); high = λ some. absurd (omega (arith, some)) }
  is_once (suc n) p =
      let h = is_once n p in
      let both = times_append p (gathered f.lists n) (f.lists (n + 2)) in
      elim (cases_lt 0 (times p (f.lists (n + 2)))) [
        | inl some ↦ (let e : list_of w p ≡ n + 2 = its_list p (n + 2) (times_in p (f.lists (n + 2)) some) in
            let none : times p (gathered f.lists n) ≡ 0 = elim (cases_lt 0 (times p (gathered f.lists n))) [ inl a ↦ absurd (omega (arith, e, h.high a)) | inr b ↦ omega (arith, b) ] in
            record { once = omega (arith, both, none, times_once p (f.lists (n + 2)) (f.distinct (n + 2))); low = λ some. omega (arith, e); high = λ some. omega (arith, e) })
        | inr none ↦ record { once = omega (arith, both, none, h.once); low = λ some. h.low (omega (arith, both, none, some)); high = λ some. omega (arith, h.high (omega (arith, both, none, some))) }
      ]

  pub gathered_few : (n : ℕ) → length (gathered f.lists n) ≤ count
  gathered_few n = pages_few size count (gathered f.lists n) (λ p. (is_once n p).once) (pages_gathered size count f.lists f.pages n)

  in_gathered : (n s p : ℕ) → 2 ≤ s → s < n + 2 → IsIn p (f.lists s) → 1 ≤ times p (gathered f.lists n)
  in_gathered zero s p low high i = absurd (omega (arith, low, high))
  in_gathered (suc n) s p low high i =
      let both = times_append p (gathered f.lists n) (f.lists (n + 2)) in
      elim (cases_lt s (n + 2)) [
        | inl less ↦ omega (arith, both, in_gathered n s p low less i)
        | inr more ↦ (let e : s ≡ n + 2 = omega (arith, more, high) in omega (arith, both, in_times p (f.lists (n + 2)) (subst (λ (t : ℕ). IsIn p (f.lists t)) e i)))
      ]

list_none : (kind class : ℕ) → 2 ≤ list_number kind class → kind ≢ 0
list_none kind class two z = let e : list_number kind class ≡ 0 = ap (λ (k : ℕ). list_number k class) z in omega (arith, two, e)

not_none : (n : ℕ) → 2 ≤ n → n ≢ 0
not_none n h e = omega (arith, h, e)

some_kind : (kind class : ℕ) → class ≢ 0 → (kind ≡ 0 → class ≡ 0) → 1 ≤ kind
some_kind kind class n h = elim (eqb_tells kind 0) [ inl a ↦ absurd (n (h a.1)) | inr b ↦ omega (arith, b.1) ]

pub head_is : (heads now : List ℕ) (list read : ℕ) → read ≡ get_or now list read → now ≡ heads → list < length heads → read ≡ slice_index heads list
head_is heads now list read is same small = index_default heads list read (is ∙ ap (λ (xs : List ℕ). get_or xs list read) same) small

pub list_from : (pages : Pages) (m : Memory) (c : NoneWaits pages m) (list first : ℕ) → first ≡ slice_index pages.heads.items list → IsListFrom m first (c.fits.lists.lists list)
list_from pages m c list first is =
    let f = c.fits in
    record {
      starts = is ∙ f.lists.heads_are list;
      before = 0;
      linked = f.lists.linked list;
      words = places_map (IsPage pages.page pages.count) (λ p. CanStore m (p + 4)) (λ p is. header_has m pages.page pages.count p f.blocks.size_low (places_of f) (below_of f) is (p + 4) (omega arith) (omega arith)) (f.lists.lists list) (f.lists.pages list);
    }

-- the next list can be gathered
pub can_gather : (pages : Pages) (m : Memory) (c : NoneWaits pages m) (list first places room : ℕ) → 2 ≤ list → first ≡ slice_index pages.heads.items list → places ≡ length (gathered c.fits.lists.lists (list - 2)) → vec_capacity pages.order ≤ room → CanGather m first places room
can_gather pages m c list first places room low is few up =
    let f = c.fits in
    let lists = f.lists.lists in
    let e : list ≡ (list - 2) + 2 = omega (arith, low) in
    let most : length (gathered lists (suc (list - 2))) ≤ pages.count = gathered_few (word_in m) pages.page pages.count pages.heads.items [] f.lists (suc (list - 2)) in
    let same : length (lists list) ≡ length (lists ((list - 2) + 2)) = ap (λ (t : ℕ). length (lists t)) e in
    record {
      list = lists list;
      is_list = list_from pages m c list first is;
      enough = omega (arith, few, most, same, length-append (gathered lists (list - 2)) (lists ((list - 2) + 2)), f.room, up);
    }

-- the gathered pages, sorted
pub in_order : (pages : Pages) (m : Memory) (c : NoneWaits pages m) (n : ℕ) (items order : List ℕ) → items ≡ gathered c.fits.lists.lists n → length pages.heads.items ≤ n + 2 → IsPermutation items order → IsNonDecreasing order → IsOrder pages m order
in_order pages m c n items order is long moved sorted =
    let f = c.fits in
    let w = word_in m in
    let size = pages.page in
    let all = gathered f.lists.lists n in
    let same : (p : ℕ) → times p order ≡ times p all = λ p. times_moved p items order moved ∙ ap (times p) is in
    let once : (p : ℕ) → times p order ≤ 1 = λ p. omega (arith, same p, (is_once w size pages.count pages.heads.items [] f.lists n p).once) in
    record {
      rising = sorted_rises order sorted once;
      used = each_from (IsUsed pages m) order (λ p i.
          let some : 1 ≤ times p all = omega (arith, same p, in_times p order i) in
          let page : IsPage size pages.count p = each_in (IsPage size pages.count) all p (pages_gathered size pages.count f.lists.lists f.lists.pages n) (times_in p all some) in
          let right : IsListedRightly w size p = subst (λ (q : ℕ). IsListedRightly w size q) (sym page.is) (f.lists.rightly page.number page.below (omega arith)) in
          let kind : w (p + 6) ≢ 0 = list_none (w (p + 6)) (w p) ((is_once w size pages.count pages.heads.items [] f.lists n p).low some) in
          record { is_page = page; used = not_none (w p) (right.used kind) });
      every = λ k below used.
          let p = page_at size k in
          let right : IsListedRightly w size p = f.lists.rightly k below (omega arith) in
          let low : 1 ≤ w (p + 6) = some_kind (w (p + 6)) (w p) used right.unused in
          let two : 2 ≤ w p = right.used (λ e. omega (arith, low, e)) in
          let page : IsPage size pages.count p = record { number = k; below = below; is = refl } in
          let no3 : w (p + 6) ≢ 3 = λ three. (waits_exactly pages m p c.live [] f page).0 three in
          let number : 2 * w p + (w (p + 6) - 1) ≡ list_of w p = number_of_list (w (p + 6)) (w p) (w p) refl low no3 in
          let most : list_of w p < length pages.heads.items = heads_long f p (list_of w p) page (omega (arith, number, f.classes.small k below, right.known, no3)) in
          times_in p order (omega (arith, same p, in_gathered w size pages.count pages.heads.items [] f.lists n (list_of w p) p (omega (arith, number, two)) (omega (arith, most, long)) (f.lists.listed k below used (omega arith))));
    }

pub gathered_next : (m : Memory) (lists : ℕ → List ℕ) (list first : ℕ) (was now : List ℕ) → 2 ≤ list → IsListFrom m first (lists list) → was ≡ gathered lists (list - 2) → ((xs : List ℕ) → IsListFrom m first xs → now ≡ was ++ xs) → now ≡ gathered lists ((list + 1) - 2)
gathered_next m lists list first was now low is before more =
    let e : list ≡ (list - 2) + 2 = omega (arith, low) in
    let s : suc (list - 2) ≡ (list + 1) - 2 = omega (arith, low) in
    more (lists list) is ∙ ap (λ (xs : List ℕ). xs ++ lists list) before ∙ ap (λ (t : ℕ). gathered lists (list - 2) ++ lists t) e ∙ ap (gathered lists) s
