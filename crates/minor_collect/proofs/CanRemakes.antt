-- The nursery can be made anew around pinned objects that have their words of some middle. (`can_remake_dropped` of DropLaws is what
-- `remake_nursery` asks for, right after `drop_vanished`.)
use Rattle.std.proofs.Common.{◌≡◌, ℕ, suc, ◌+◌, ◌*◌, ◌≤◌, Bool, false, IsTrue, List, [], ◌∷◌, map, length, nat_eq, refl, sym, ap, ◌∙◌, subst, inl, inr, arith}
use Rattle.std.specs.Prelude.{sum_by}
use Rattle.std.specs.List.{IsDistinct, AllByRecursion}
use Rattle.std.proofs.lemmas.Bool.{cases_lt}
use Rattle.std.proofs.lemmas.Bool.Decides.{eqb_tells}
use Rattle.std.proofs.lemmas.List.Sums.{sum_by-cons}
use Rattle.heap_space.specs.Places.{word_at}
use Rattle.object_view.specs.Views.{HasObject}
use Rattle.object_view.proofs.LayoutLaws.{laid_out}
use Rattle.object_model.specs.Sets.{is_in}
use Rattle.object_model.specs.ObjectWords.{words_at}
use Rattle.object_model.proofs.Members.{is_in-head, is_in-tail}
use Rattle.store_model.specs.Store.{Store}
use Rattle.store_model.specs.Sound.{ArePinsSound}
use Rattle.birth_laws.proofs.BirthNames.{entries-names}
use Rattle.heap_parts.specs.Parts.{HeapParts, pinned_places}
use Rattle.heap_parts.specs.Places.{young_places}
use Rattle.frame_laws.proofs.PlaceLaws.{young-is_in}
use Rattle.minor_collect.specs.Carried.{Moved}
use Rattle.minor_collect.specs.Midway.{Midway, Changing, Owes, Placing}
use Rattle.minor_collect.specs.Remade.{CanRemake, words_of}

-- places of which the names differ
distinct-places : (name : ℕ → ℕ) (ps : List ℕ) → IsDistinct nat_eq (map name ps) → IsDistinct nat_eq ps
unfolding IsDistinct
distinct-places name [] d = tt
distinct-places name (p ∷ ps) d = (all-apart ps d.0, distinct-places name ps d.1)
  where
    apart : (q : ℕ) → nat_eq (name p) (name q) ≡ false → nat_eq p q ≡ false
    apart q n = elim (eqb_tells p q) [
      | inl e ↦ absurd (let same : nat_eq (name p) (name p) ≡ false = subst (λ (k : ℕ). nat_eq (name p) (name k) ≡ false) (sym e.1) n in not-same (name p) same)
      | inr e ↦ e.0
    ]
      where
        not-same : (k : ℕ) → nat_eq k k ≡ false → ⊥
        not-same k z = elim (eqb_tells k k) [
          | inl e ↦ let no : ⊥ = cc in no
          | inr e ↦ e.1 refl
        ]

    all-apart : (qs : List ℕ) → AllByRecursion (λ y. nat_eq (name p) y ≡ false) (map name qs) → AllByRecursion (λ y. nat_eq p y ≡ false) qs
    all-apart [] a = tt
    all-apart (q ∷ qs) a = (apart q a.0, all-apart qs a.1)

sum-few : (f : ℕ → ℕ) (xs : List ℕ) → ((x : ℕ) → IsTrue (is_in x xs) → f x ≤ 1048577) → sum_by f xs ≤ length xs * 1048577
sum-few f [] small = omega arith
sum-few f (x ∷ xs) small =
    let first = sum_by-cons f x xs in
    let one = small x (is_in-head x xs) in
    let more = sum-few f xs (λ y t. small y (is_in-tail y x xs t)) in
    let long : length (x ∷ xs) ≡ suc (length xs) = refl in
    omega (arith, first, one, more, long)

many : {X Y : Type 0} (f : X → Y) (xs : List X) → length (map f xs) ≡ length xs
many f [] = refl
many f (x ∷ xs) = ap suc (many f xs)

module _ {start : HeapParts} {store : Store} {remembered : ℕ → ℕ → Bool} {now : Changing} {todo held left : List ℕ} {owes : Owes} {moved : Moved}
    {placing : Placing} (mid : Midway start store remembered now placing todo held left owes moved []) (sound : ArePinsSound start.setup.settings.pins store.kept store.settled store.pinned)
    (h : HeapParts) (pins : h.pins ≡ start.pins) (nursery : h.nursery ≡ start.nursery)
    (size : (q : ℕ) → IsTrue (is_in q (young_places placing.places)) → words_of h q ≡ words_at start.setup.types (word_at now.memory.blocks) q)
    (whole : (q : ℕ) → IsTrue (is_in q (young_places placing.places)) → HasObject h.memory h.setup.types q) where
  abbrev w : ℕ → ℕ
  w = word_at now.memory.blocks

  at : (p : ℕ) → IsTrue (is_in p (pinned_places h)) → IsTrue (is_in p (young_places placing.places))
  at p t = mid.pins.there p (subst (λ (es : List (ℕ × ℕ)). IsTrue (is_in p (map (λ (e : ℕ × ℕ). e.0) es))) pins t)

  inside : (p : ℕ) → IsTrue (is_in p (pinned_places h)) → p + words_of h p ≤ h.nursery.words + 1
  inside p t =
      let i = mid.words.inside p (at p t) in
      let s = size p (at p t) in
      let n : h.nursery.words ≡ start.nursery.words = ap (λ n. n.words) nursery in
      omega (arith, i, s, n)

  some-pinned : length store.pinned ≡ length start.pins
  some-pinned = sym (many (λ (e : ℕ × ℕ). e.0) store.pinned) ∙ (ap (λ (es : List (ℕ × ℕ)). length (map (λ (e : ℕ × ℕ). e.0) es)) mid.pins.named
      ∙ (ap length (entries-names placing.name start.pins) ∙ (many placing.name (pinned_places start) ∙ many (λ (e : ℕ × ℕ). e.0) start.pins)))

  few-pins : length h.pins ≤ start.setup.settings.pins
  few-pins = let l : length h.pins ≡ length start.pins = ap length pins in omega (arith, l, some-pinned, sound.few)

  pub can_remake : CanRemake h
  can_remake = record {
    objects = λ p t. whole p (at p t);
    few =
        let sum = sum-few (words_of h) (pinned_places h) (λ p t. let i = inside p t in let n : h.nursery.words ≡ start.nursery.words = ap (λ n. n.words) nursery in omega (arith, i, n, mid.made.words, mid.made.ranges.1)) in
        let long = many (λ (e : ℕ × ℕ). e.0) h.pins in
        let most = mid.made.ranges.2.2.2.2.2.2.1 in
        omega (arith, sum, long, few-pins, most);
    differ = subst (λ (es : List (ℕ × ℕ)). IsDistinct nat_eq (map (λ (e : ℕ × ℕ). e.0) es)) (sym pins)
        (distinct-places placing.name (pinned_places start) (subst (IsDistinct nat_eq) (ap (map (λ (e : ℕ × ℕ). e.0)) mid.pins.named ∙ entries-names placing.name start.pins) sound.differ));
    above = λ p t. (
      mid.words.objects.above p (young-is_in placing.places p (at p t)).0,
      (let s = size p (at p t) in let two = (laid_out start.setup.types w p).header in omega (arith, s, two)),
    );
    apart = λ p q t u less. elim (cases_lt q (p + words_of h p)) [
      | inl inner ↦
          let s = size p (at p t) in
          let same : p ≡ q = mid.words.objects.apart p q q (young-is_in placing.places p (at p t)).0 (young-is_in placing.places q (at q u)).0
          (omega (arith, less), omega (arith, inner, s)) (omega arith, omega (arith, (laid_out start.setup.types w q).header)) in
          absurd (omega (arith, same, less))
      | inr out ↦ out
    ];
    inside = inside;
    allowed = let n : h.nursery.pins ≡ start.nursery.pins = ap (λ n. n.pins) nursery in omega (arith, n, mid.made.pins, few-pins);
  }
