-- References are copied from the object in one slot to that in another, as through a buffer: one run of words.
use Rattle.std.proofs.Common.{◌≡◌, ◌≢◌, ℕ, suc, ◌+◌, ◌-◌, ◌<◌, ◌≤◌, Bool, true, false, IsTrue, List, [], ◌∷◌, ◌++◌, length, map, Option, Some, nat_eq, refl, sym, ap, ◌∙◌, subst, inl, inr, arith}
use Rattle.std.specs.Prelude.{◌==◌, ◌&&◌, not}
use Rattle.std.specs.List.{IsDistinct, AllByRecursion, list_any}
use Rattle.std.proofs.lemmas.Bool.{eq-eqb, cases_Bool, cases_lt}
use Rattle.std.proofs.lemmas.Bool.Decides.{eqb_tells}
use Rattle.heap_space.specs.Places.{Placed, has, word_at, with_word, with_run, run_at}
use Rattle.object_model.specs.Layout.{Layout}
use Rattle.object_model.specs.Object.{Object}
use Rattle.object_model.specs.Fields.{refs_of}
use Rattle.object_model.specs.Sets.{is_in}
use Rattle.object_model.specs.ObjectWords.{updated, layout_at, words_at}
use Rattle.object_view.proofs.SpaceLaws.{word_at-written, lies-at}
use Rattle.object_view.proofs.LayoutLaws.{laid_out}
use Rattle.object_view.proofs.ChangeLaws.{Changes, changes-updated, each-keeps}
use Rattle.object_view.proofs.FoundLaws.{ref-pointer, length-refs}
use Rattle.object_view.proofs.CopyingLaws.{run-on, run-back}
use Rattle.store_model.specs.Store.{Store}
use Rattle.store_model.specs.Slots.{held}
use Rattle.store_model.specs.Steps.{ref_at, put_ref}
use Rattle.store_model.specs.PlainCommands.{copy_refs}
use Rattle.store_model.proofs.CopyLaws.{copy-none, copy-on, copy-back, refs_in_slot}
use Rattle.remember_cards.specs.Remembered.{Held, holds_item, is_held}
use Rattle.parts_model.specs.Parts.{HeapParts, word_in, place_in}
use Rattle.parts_model.specs.Places.{is_young}
use Rattle.parts_model.specs.StandsFor.{PartsStandFor}
use Rattle.parts_model.specs.Effects.{ref_place, layout_in}
use Rattle.parts_model.specs.Copies.{heap_with, with_copy}
use Rattle.object_model.proofs.Members.{or_cases, or_first, or_second}
use Rattle.frame_laws.proofs.PlaceLaws.{settled-old}
use Rattle.frame_laws.proofs.StandLaws.{in_slot}
use Rattle.frame_laws.proofs.RootStands.{object-found}
use Rattle.command_laws.proofs.CopyStands.{copy_step_stands}

items-cover : (card : ℕ) (hs : List Held) (name : ℕ → ℕ) (p i : ℕ) → IsTrue (list_any (λ h. h.place == p && holds_item card h i) hs)
    → IsTrue (list_any (λ h. name h.place == name p && holds_item card h i) hs)
items-cover card [] name p i t = t
items-cover card (h ∷ hs) name p i t = elim (or_cases (h.place == p && holds_item card h i) (list_any (λ g. g.place == p && holds_item card g i) hs) t) [
  | inl here ↦ or_first (name h.place == name p && holds_item card h i) (list_any (λ g. name g.place == name p && holds_item card g i) hs)
      (elim (eqb_tells h.place p) [
        | inl e ↦ rw (eq-eqb (name h.place) (name p) (ap name e.1)) (subst (λ (b : Bool). IsTrue (b && holds_item card h i)) e.0 here)
        | inr e ↦ absurd (let f : (h.place == p && holds_item card h i) ≡ false = rw e.0 refl in let no : ⊥ = cc in no)
      ])
  | inr there ↦ or_second (name h.place == name p && holds_item card h i) (list_any (λ g. name g.place == name p && holds_item card g i) hs) (items-cover card hs name p i there)
]

-- The heap with these words stands for a store, and the two objects have their parts where they had them.
record CopyStands (heap : HeapParts) (after : Store) (root from : ℕ) (blocks : List Placed) : Type 0 where
  stands : PartsStandFor (heap_with heap blocks) after
  root_layout : layout_in (heap_with heap blocks) root ≡ layout_in heap root
  from_layout : layout_in (heap_with heap blocks) from ≡ layout_in heap from

-- One reference more is copied.
copy-once : (heap : HeapParts) (after : Store) (root item from oi : ℕ) (blocks : List Placed) → place_in heap root ≢ 0 → place_in heap from ≢ 0
    → item < (layout_in heap root).ref_count → oi < (layout_in heap from).ref_count
    → (is_young (place_in heap root) ≡ false → IsTrue (is_held heap.remembered (place_in heap root) item)) → CopyStands heap after root from blocks
    → CopyStands heap (put_ref after root item (ref_at after from oi)) root from (with_word blocks (ref_place heap root item) (word_at blocks (ref_place heap from oi)))
copy-once heap after root item from oi blocks full from_full l m covered h =
    let now : HeapParts = heap_with heap blocks in
    let s = h.stands in let types = heap.setup.types in let w : ℕ → ℕ = word_at blocks in
    let p : ℕ = place_in heap root in let q : ℕ = place_in heap from in
    let here = in_slot now after root s full in let there = in_slot now after from s from_full in
    let l_now : item < (layout_in now root).ref_count = subst (λ (k : Layout). item < k.ref_count) (sym h.root_layout) l in
    let m_now : oi < (layout_in now from).ref_count = subst (λ (k : Layout). oi < k.ref_count) (sym h.from_layout) m in
    let at : ℕ = ref_place now root item in let read : ℕ = ref_place now from oi in let x : ℕ = w read in
    let old : IsTrue (is_in (s.name p) after.settled) → is_young p ≡ false = λ t. (elim (cases_Bool (is_young p)) [
      | inl e ↦ absurd (let in_old = ap (is_in (s.name p)) s.births.settled_are ∙ settled-old s.name s.places p here.there s.words.objects.differ ∙ ap not e in let no : ⊥ = cc in no)
      | inr e ↦ e
    ]) in
    let base = copy_step_stands now after root item from oi s full from_full l_now m_now
    (λ t. items-cover heap.remembered.card heap.remembered.held s.name p item (covered (old t))) in
    let next : List Placed = with_word blocks at x in
    let laid = laid_out types w p in
    let changes : Changes types (updated w at x) w s.places s.places p =
    changes-updated p at x s.words.objects here.there (omega (arith, laid.ordered)) (omega (arith, l_now, laid.refs, laid.pointers))
    (λ j k e. ref-pointer q oi s.words.objects there.there m_now) in
    let whole = (s.words.whole p here.there).whole in
    let inside : has blocks at ≡ true = lies-at blocks p (words_at types w p) at whole (omega (arith, laid.begins, laid.ordered)) (omega (arith, l_now, laid.refs, laid.pointers)) in
    let words : word_at next ≡ updated w at x = word_at-written blocks at x inside in
    let keeps : (place : ℕ) → IsTrue (is_in place s.places) → layout_at types (word_at next) place ≡ layout_at types w place = λ place t.
    ap (λ (f : ℕ → ℕ). layout_at types f place) words ∙ (each-keeps s.words.objects changes place t).layout_stays in
    let same : next ≡ with_word blocks (ref_place heap root item) (w (ref_place heap from oi)) =
    ap (λ (k : Layout). with_word blocks (k.ref_start + item) x) h.root_layout ∙ ap (λ (k : Layout). with_word blocks (ref_place heap root item) (w (k.ref_start + oi))) h.from_layout in
    subst (λ (bs : List Placed). CopyStands heap (put_ref after root item (ref_at after from oi)) root from bs) same (record {
      stands = base;
      root_layout = keeps p here.there ∙ h.root_layout;
      from_layout = keeps q there.there ∙ h.from_layout;
    })

-- References can be copied: so many items of the one object, and as many of the other, which are remembered where it is settled.
pub record CanCopy (heap : HeapParts) (root item from oi n : ℕ) : Type 0 where
  pub full : place_in heap root ≢ 0
  pub from_full : place_in heap from ≢ 0
  pub items : item + n ≤ (layout_in heap root).ref_count
  pub from_items : oi + n ≤ (layout_in heap from).ref_count
  pub covered : is_young (place_in heap root) ≡ false → (k : ℕ) → k < n → IsTrue (is_held heap.remembered (place_in heap root) (item + k))

-- how many references the object in a slot has
refs-count : (heap : HeapParts) (store : Store) (root : ℕ) (s : PartsStandFor heap store) → place_in heap root ≢ 0 → length (refs_in_slot store root) ≡ (layout_in heap root).ref_count
refs-count heap store root s full =
    ap (λ (o : Option Object). length (refs_of o)) (object-found heap store root s full) ∙ length-refs heap.setup.types s.name (word_in heap) (place_in heap root)

-- two slots that hold one object have one place
same-place : (heap : HeapParts) (store : Store) (root from : ℕ) (s : PartsStandFor heap store) → place_in heap root ≢ 0 → place_in heap from ≢ 0
    → held store.slots root ≡ held store.slots from → place_in heap root ≡ place_in heap from
same-place heap store root from s full from_full e =
    let here = in_slot heap store root s full in let there = in_slot heap store from s from_full in
    let names : Some (s.name (place_in heap root)) ≡ Some (s.name (place_in heap from)) = sym here.named ∙ e ∙ there.named in
    s.words.objects.differ (place_in heap root) (place_in heap from) here.there there.there (let same : s.name (place_in heap root) ≡ s.name (place_in heap from) = cc in same)

-- births that differ with others behind them
front-differ : (xs ys : List ℕ) → IsDistinct nat_eq (xs ++ ys) → IsDistinct nat_eq xs
unfolding IsDistinct
front-differ [] ys d = tt
front-differ (x ∷ xs) ys d = (front-all x xs ys d.0, front-differ xs ys d.1)
  where
    front-all : (x : ℕ) (xs ys : List ℕ) → AllByRecursion (λ y. nat_eq x y ≡ false) (xs ++ ys) → AllByRecursion (λ y. nat_eq x y ≡ false) xs
    front-all x [] ys a = tt
    front-all x (y ∷ xs) ys a = (a.0, front-all x xs ys a.1)

-- The copy, with the words of the run: each is read before any is written.
pub copy_stands : (heap : HeapParts) (store : Store) (root item from oi n : ℕ) → PartsStandFor heap store → CanCopy heap root item from oi n
    → PartsStandFor (with_copy heap root item from oi n) (copy_refs store root item from oi n)
copy_stands heap store root item from oi n s can =
    let ps : List Placed = heap.memory.blocks in
    let target : ℕ = ref_place heap root item in let source : ℕ = ref_place heap from oi in
    let start : ℕ = (layout_in heap root).ref_start in let other : ℕ = (layout_in heap from).ref_start in
    let distinct : IsDistinct nat_eq (map (λ (o : Object). o.birth) store.kept) = front-differ (map (λ (o : Object). o.birth) store.kept) (map (λ husk. husk.0) store.husks) s.sound.births.differ in
    let refs : length (refs_in_slot store root) ≡ (layout_in heap root).ref_count = refs-count heap store root s can.full in
    let others : length (refs_in_slot store from) ≡ (layout_in heap from).ref_count = refs-count heap store from s can.from_full in
    let layouts : held store.slots root ≡ held store.slots from → start ≡ other = λ e.
    ap (λ (p : ℕ). (layout_at heap.setup.types (word_in heap) p).ref_start) (same-place heap store root from s can.full can.from_full e) in
    let begun : (a b : ℕ) → CopyStands heap (copy_refs store root a from b 0) root from ps = λ a b.
    subst (λ (after : Store). CopyStands heap after root from ps) (sym (copy-none store root a from b distinct)) (record { stands = s; root_layout = refl; from_layout = refl }) in
    -- item number k of the object in the slot `root` is copied
    let once : (after : Store) (k : ℕ) (blocks : List Placed) → k < n → CopyStands heap after root from blocks
    → CopyStands heap (put_ref after root (item + k) (ref_at after from (oi + k))) root from (with_word blocks (target + k) (word_at blocks (source + k))) = λ after k blocks l h.
    (let to : start + (item + k) ≡ target + k = omega arith in let at : other + (oi + k) ≡ source + k = omega arith in
    let P : ℕ → ℕ → Type 0 = λ a b. CopyStands heap (put_ref after root (item + k) (ref_at after from (oi + k))) root from (with_word blocks a (word_at blocks b)) in
    let items = can.items in let from_items = can.from_items in
    subst (λ (a : ℕ). P a (source + k)) to (subst (λ (b : ℕ). P (start + (item + k)) b) at
    (copy-once heap after root (item + k) from (oi + k) blocks can.full can.from_full (omega (arith, l, items)) (omega (arith, l, from_items)) (λ e. can.covered e k l) h))) in
    elim (cases_lt source target) [
      | inr order ↦
          (run-on (λ k blocks. CopyStands heap (copy_refs store root item from oi k) root from blocks) ps source target n order (begun item oi)
          (λ k blocks l h.
          let items = can.items in let from_items = can.from_items in
          let one = copy-on store root item from oi k (omega (arith, l, items, refs)) (omega (arith, l, from_items, others)) (λ e. let same = layouts e in omega (arith, order, same)) in
          let next : k + 1 ≡ suc k = omega arith in
          subst (λ (after : Store). CopyStands heap after root from (with_word blocks (target + k) (word_at blocks (source + k)))) (one ∙ ap (copy_refs store root item from oi) next)
          (once (copy_refs store root item from oi k) k blocks l h))).stands
      | inl order ↦
          (let all : CopyStands heap (copy_refs store root (item + 0) from (oi + 0) (n - 0)) root from (with_run ps target (run_at ps source n)) =
          run-back (λ k blocks. CopyStands heap (copy_refs store root (item + k) from (oi + k) (n - k)) root from blocks) ps source target n (omega (arith, order))
          (subst (λ (k : ℕ). CopyStands heap (copy_refs store root (item + n) from (oi + n) k) root from ps) (let e : 0 ≡ n - n = omega arith in e) (begun (item + n) (oi + n)))
          (λ k blocks l h.
          let items = can.items in let from_items = can.from_items in
          let one = copy-back store root item from oi k (n - suc k) (omega (arith, l, items, refs)) (omega (arith, l, from_items, others)) (λ e. let same = layouts e in omega (arith, order, same)) in
          let next : suc (n - suc k) ≡ n - k = omega (arith, l) in
          subst (λ (after : Store). CopyStands heap after root from (with_word blocks (target + k) (word_at blocks (source + k)))) (one ∙ ap (copy_refs store root (item + k) from (oi + k)) next)
          (once (copy_refs store root (item + suc k) from (oi + suc k) (n - suc k)) k blocks l h)) in
          let a : item + 0 ≡ item = omega arith in let b : oi + 0 ≡ oi = omega arith in let c : n - 0 ≡ n = omega arith in
          let is : copy_refs store root (item + 0) from (oi + 0) (n - 0) ≡ copy_refs store root item from oi n =
          ap (λ (j : ℕ). copy_refs store root j from (oi + 0) (n - 0)) a ∙ ap (λ (j : ℕ). copy_refs store root item from j (n - 0)) b ∙ ap (copy_refs store root item from oi) c in
          subst (λ (after : Store). PartsStandFor (heap_with heap (with_run ps target (run_at ps source n))) after) is all.stands)
    ]
