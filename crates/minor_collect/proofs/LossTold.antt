-- What the code tells of what is gone, and of targets that are, is what the lines ask for.
use Rattle.std.proofs.Common.{◌≡◌, ℕ, suc, ◌+◌, ◌<◌, ◌≤◌, Bool, false, IsTrue, List, [], ◌∷◌, map, filter, length, get_or, nat_eq, refl, sym, ap, ap₂, ◌∙◌, subst, inl, inr, arith}
use Rattle.std.specs.List.{IsDistinct, AllByRecursion}
use Rattle.std.specs.List.Sorted.{IsPermutation, IsNonDecreasing}
use Rattle.std.proofs.lemmas.Bool.{ne_eqb}
use Rattle.std.proofs.lemmas.Map.Keys.{IsDistinct-IsPermutation}
use Rattle.heap_space.specs.Places.{word_at}
use Rattle.object_view.specs.Moving.{place_now}
use Rattle.object_model.proofs.Members.{is_in-head, is_in-tail, is_in-cases, is_in-nil, filter-part, filter-agree, map-same, is_in-named, not-in}
use Rattle.object_model.proofs.Distinct.{differ-in}
use Rattle.object_model.specs.ObjectWords.{info_at}
use Rattle.object_model.specs.Sets.{is_in, AreDifferent}
use Rattle.store_model.specs.Store.{Store}
use Rattle.weak_lists.specs.Cleared.{births_losing}
use Rattle.weak_lists.proofs.Once.{once-different}
use Rattle.weak_lists.specs.Targets as targets
use Rattle.heap_parts.specs.Parts.{HeapParts, pinned_places}
use Rattle.heap_parts.specs.Places.{is_weak_at, RiseBetween}
use Rattle.frame_laws.proofs.Births.{rise-differ, rise-bounds, rise-end}
use Rattle.frame_laws.proofs.PlaceLaws.{named-by}
use Rattle.minor_collect.specs.Carried.{Moved, weak_births, births_read}
use Rattle.minor_collect.specs.Lines.{TellsLoss, loses_target}
use Rattle.minor_collect.specs.Midway.{Midway, Changing, with_changing, Owes, is_lasting, Placing}
use Rattle.minor_collect.specs.Walks.{births_destroyed}
use Rattle.minor_collect.specs.WeakPass.{PassesWeaks}
use Rattle.minor_collect.proofs.EndBirths.{rise_part}
use Rattle.minor_collect.proofs.NamedObjects.{weak_named, eq-flips}
use Rattle.minor_collect.proofs.PassLaws.{left_are, listed_weak, gone_same, target_pointer}
use Rattle.object_model.proofs.SameMembers.{names_differ, part_differs}
use Rattle.minor_collect.proofs.Weaks.{now_place, permuted-from}

-- a member stands at an index
record StandsIn (x : ℕ) (xs : List ℕ) : Type 0 where
  pub index : ℕ
  pub below : index < length xs
  pub is : get_or xs index 0 ≡ x

stands-in : (x : ℕ) (xs : List ℕ) → IsTrue (is_in x xs) → StandsIn x xs
stands-in x [] t = absurd (is_in-nil x t)
stands-in x (y ∷ ys) t = elim (is_in-cases x y ys t) [
  | inl e ↦ record { index = 0; below = omega arith; is = sym e }
  | inr u ↦ let m = stands-in x ys u in record { index = suc m.index; below = (let b = m.below in omega (arith, b)); is = m.is }
]

-- Distinct births in rising order, between bounds.
pub rise_sorted : (least next : ℕ) (xs : List ℕ) → IsNonDecreasing xs → IsDistinct nat_eq xs → ((x : ℕ) → IsTrue (is_in x xs) → (least ≤ x) × (x < next)) → least ≤ next → RiseBetween least xs next
unfolding IsDistinct
rise_sorted least next [] s d within fits = fits
rise_sorted least next (x ∷ xs) s d within fits =
    let here = within x (is_in-head x xs) in (
      here.0,
      rise_sorted (x + 1) next xs (λ i j k le lt. s (suc i) (suc j) k (omega (arith, le)) (omega (arith, lt))) d.1 (λ y t.
          let m = stands-in y xs t in
          let up = s 0 (suc m.index) 0 (omega arith) (let b = m.below in omega (arith, b)) in
          let at = m.is in
          let apart : x ≡ y → ⊥ = λ e. differ-in x xs d.0 (subst (λ (k : ℕ). IsTrue (is_in k xs)) (sym e) t) in
          (omega (arith, up, at, apart), (within y (is_in-tail y x xs t)).1)) (let h = here.1 in omega (arith, h)),
    )

-- births of places that differ, by names that do
distinct-named : (name : ℕ → ℕ) (ps : List ℕ) → AreDifferent ps → ((p q : ℕ) → IsTrue (is_in p ps) → IsTrue (is_in q ps) → name p ≡ name q → p ≡ q) → IsDistinct nat_eq (map name ps)
unfolding IsDistinct
distinct-named name [] d apart = tt
distinct-named name (p ∷ ps) d apart = (all-apart ps (λ q t. t), distinct-named name ps d.1 (λ a b t u. apart a b (is_in-tail a p ps t) (is_in-tail b p ps u)))
  where
    all-apart : (qs : List ℕ) → ((q : ℕ) → IsTrue (is_in q qs) → IsTrue (is_in q ps)) → AllByRecursion (λ y. nat_eq (name p) y ≡ false) (map name qs)
    all-apart [] among = tt
    all-apart (q ∷ qs) among = (differs q (among q (is_in-head q qs)), all-apart qs (λ x t. among x (is_in-tail x q qs t)))
      where
        differs : (q : ℕ) → IsTrue (is_in q ps) → nat_eq (name p) (name q) ≡ false
        differs q t = ne_eqb (name p) (name q) (λ e. absurd (let same : p ≡ q = apart p q (is_in-head p ps) (is_in-tail q p ps t) e in not-in p ps d.0 (subst (λ (k : ℕ). IsTrue (is_in k ps)) (sym same) t)))

module _ {start : HeapParts} {store : Store} {remembered : ℕ → ℕ → Bool} {now : Changing} {todo held left : List ℕ} {owes : Owes} {moved : Moved}
    {placing : Placing} (mid : Midway start store remembered now placing todo held left owes moved [])
    {passed : HeapParts} {cleared : List ℕ} (same : now.weaks ≡ start.weaks) (gray : List ℕ)
    (passes : PassesWeaks (with_changing start (record now { gray = gray })) passed [] cleared) where
  -- births of objects lie before the next one, and are distinct where the places differ
  births-rise : (ps births : List ℕ) → AreDifferent ps → ((p : ℕ) → IsTrue (is_in p ps) → IsTrue (is_in p placing.places)) → IsPermutation (map (λ p. word_at now.memory.blocks (p + 1)) ps) births → IsNonDecreasing births
      → RiseBetween 1 births start.next
  births-rise ps births differ among are sorted =
      let named : map placing.name ps ≡ map (λ p. word_at now.memory.blocks (p + 1)) ps = map-same placing.name (λ p. word_at now.memory.blocks (p + 1)) ps (λ p t. mid.words.objects.named p (among p t)) in
      let distinct : IsDistinct nat_eq births = IsDistinct-IsPermutation nat_eq eq-flips (map (λ p. word_at now.memory.blocks (p + 1)) ps) births are
      (subst (IsDistinct nat_eq) named (distinct-named placing.name ps differ (λ p q t u e. mid.words.objects.differ p q (among p t) (among q u) e))) in
      rise_sorted 1 start.next births sorted distinct
      (λ x t.
      let from = permuted-from x (map (λ p. word_at now.memory.blocks (p + 1)) ps) births are t in
      let n = named-by placing.name x ps (subst (λ (xs : List ℕ). IsTrue (is_in x xs)) (sym named) from) in
      rise-bounds 1 start.next x (map placing.name placing.places) mid.rise
      (subst (λ (k : ℕ). IsTrue (is_in k (map placing.name placing.places))) (sym n.is) (is_in-named placing.name n.place placing.places (among n.place n.there))))
      (rise-end 1 start.next (map placing.name placing.places) mid.rise)

  map-twice : (ps : List ℕ) → ((p : ℕ) → IsTrue (is_in p ps) → IsTrue (is_in p placing.met)) → map placing.name (map (place_now (word_at now.memory.blocks)) ps) ≡ map placing.name ps
  map-twice [] among = refl
  map-twice (p ∷ ps) among = ap₂ (λ (b : ℕ) (bs : List ℕ). b ∷ bs) (now_place mid.words.objects mid.words.moving p (among p (is_in-head p ps))).1
      (map-twice ps (λ q t. among q (is_in-tail q p ps t)))

  weaks-differ : AreDifferent (map (place_now (word_at now.memory.blocks)) start.weaks)
  weaks-differ =
      let rises = rise_part placing.name (is_weak_at start.setup.types (word_at now.memory.blocks)) 1 start.next placing.places mid.rise in
      let born : IsDistinct nat_eq (weak_births store.kept) = subst (IsDistinct nat_eq) (sym (weak_named mid.words.objects)) (rise-differ 1 start.next _ rises) in
      let read : IsDistinct nat_eq (births_read start start.weaks) = IsDistinct-IsPermutation nat_eq eq-flips (weak_births store.kept) (births_read start start.weaks) mid.carried.weak_are born in
      names_differ placing.name (map (place_now (word_at now.memory.blocks)) start.weaks) (subst (IsDistinct nat_eq) (sym (map-twice start.weaks mid.carried.weaks_are.there ∙ sym mid.carried.weaks_are.named)) read)

  left-differ : AreDifferent passed.weaks
  left-differ = subst AreDifferent (sym (left_are mid same gray passes)) (part_differs (λ q. is_lasting (pinned_places start) q) (map (place_now (word_at now.memory.blocks)) start.weaks) weaks-differ)

  -- the births of those that lose their targets
  losing-are : births_losing start.setup.types (word_at now.memory.blocks) (targets.is_gone start.nursery.words (word_at now.memory.blocks)) passed.weaks
      ≡ map (λ p. word_at now.memory.blocks (p + 1)) (filter (loses_target start.setup.types (word_at now.memory.blocks) (pinned_places start)) passed.weaks)
  losing-are =
      ap (λ (xs : List ℕ). map (λ (p : ℕ). word_at now.memory.blocks (p + 1)) (filter (λ (p : ℕ). targets.is_gone start.nursery.words (word_at now.memory.blocks) (targets.target_at start.setup.types (word_at now.memory.blocks) p)) xs))
      (once-different passed.weaks left-differ)
      ∙ ap (map (λ (p : ℕ). word_at now.memory.blocks (p + 1)))
      (filter-agree (λ (p : ℕ). targets.is_gone start.nursery.words (word_at now.memory.blocks) (targets.target_at start.setup.types (word_at now.memory.blocks) p))
      (loses_target start.setup.types (word_at now.memory.blocks) (pinned_places start)) passed.weaks
      (λ p t. gone_same mid (targets.target_at start.setup.types (word_at now.memory.blocks) p) (target_pointer mid same gray passes p t)))

  cleared-told : IsPermutation (map (λ p. word_at now.memory.blocks (p + 1)) (filter (loses_target start.setup.types (word_at now.memory.blocks) (pinned_places start)) passed.weaks)) cleared
  cleared-told = subst (λ (xs : List ℕ). IsPermutation xs cleared) losing-are (subst (IsPermutation _) (sym passes.told.behind) passes.told.just)

  -- What the lines ask for.
  pub loss_told : (dead destroyed : List ℕ) → AreDifferent dead → ((p : ℕ) → IsTrue (is_in p dead) → IsTrue (is_in p placing.places) × (is_lasting (pinned_places start) p ≡ false))
      → ((p : ℕ) → IsTrue (is_in p placing.places) → is_lasting (pinned_places start) p ≡ false → IsTrue (is_in p dead))
      → IsPermutation (births_destroyed (with_changing start now) dead) destroyed → IsNonDecreasing destroyed
      → TellsLoss start.setup.types (word_at now.memory.blocks) (pinned_places start) placing.places start.weaks start.next dead cleared destroyed
  loss_told dead destroyed once just all are rise = record {
    once = once;
    just = just;
    all = all;
    destroyed_rise = births-rise (filter (λ p. (info_at start.setup.types (word_at now.memory.blocks) p).destructor) dead) destroyed
        (part_differs (λ p. (info_at start.setup.types (word_at now.memory.blocks) p).destructor) dead once)
        (λ p t. (just p (filter-part (λ p. (info_at start.setup.types (word_at now.memory.blocks) p).destructor) dead p t).0).0) are rise;
    destroyed_are = are;
    cleared_rise = births-rise (filter (loses_target start.setup.types (word_at now.memory.blocks) (pinned_places start)) passed.weaks) cleared
        (part_differs (loses_target start.setup.types (word_at now.memory.blocks) (pinned_places start)) passed.weaks left-differ)
        (λ p t. (listed_weak mid same gray passes p (filter-part (loses_target start.setup.types (word_at now.memory.blocks) (pinned_places start)) passed.weaks p t).0).0)
        cleared-told (subst IsNonDecreasing (sym passes.told.behind) passes.told.rising);
    cleared_are = subst (λ (ps : List ℕ). IsPermutation (map (λ p. word_at now.memory.blocks (p + 1)) (filter (loses_target start.setup.types (word_at now.memory.blocks) (pinned_places start)) ps)) cleared)
        (left_are mid same gray passes) cleared-told;
  }
