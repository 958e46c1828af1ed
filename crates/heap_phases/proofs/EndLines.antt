-- The lines of the end of marking: what the code sorted is what the store lists.
use Rattle.std.proofs.Common.{◌≡◌, ℕ, ◌+◌, ◌≤◌, Bool, true, false, IsTrue, List, [], ◌∷◌, ◌++◌, map, refl, sym, ap, ap₂, ◌∙◌, subst, inl, inr, arith}
use Rattle.std.specs.Prelude.{not, ◌==◌, ◌&&◌, filter}
use Rattle.std.specs.List.Sorted.{IsPermutation, IsNonDecreasing}
use Rattle.std.proofs.lemmas.Bool.Decides.{eqb_tells}
use Rattle.std.proofs.lemmas.Simd.{map-map}
use Rattle.std.proofs.lemmas.List.Sorted.{IsPermutation-trans, IsPermutation-map}
use Rattle.type_table.specs.declared.info.Shape.{Shape}
use Rattle.type_table.specs.declared.info.Shape.TheVariants.{Fixed, IntArray, RefArray, Weak}
use Rattle.type_table.specs.declared.info.TypeInfo.{TypeInfo}
use Rattle.type_table.specs.Table.{Table}
use Rattle.object_model.proofs.Members.{map-same, filter-part}
use Rattle.object_view.proofs.LayoutLaws.{birth-from, object_from-of}
use Rattle.text_model.specs.declared.line.Line.{Line}
use Rattle.text_model.specs.declared.line.Line.TheVariants.{Cleared, Kept, Destroyed, LinkCut}
use Rattle.text_model.specs.declared.line.LinkEnd.{LinkEnd}
use Rattle.object_model.specs.Object.{Object}
use Rattle.store_model.specs.Store.{Store}
use Rattle.object_model.specs.Sets.{is_in}
use Rattle.object_model.specs.Shapes.{is_weak_shape}
use Rattle.store_model.specs.Links.{link_ends}
use Rattle.store_model.specs.Reach.{Tells}
use Rattle.store_model.specs.MinorCollection.{target_passes}
use Rattle.store_model.specs.Marking.{IsMarked, IsSaved, IsChosen, is_white, is_condemned, end_lines, after_marking, EndOfMarking}
use Rattle.object_model.specs.ObjectWords.{renamed, info_at, layout_at, target_of, object_from}
use Rattle.object_model.specs.Holds.{HoldsObjects}
use Rattle.heap_parts.specs.Parts.{HeapParts, word_in}
use Rattle.heap_parts.specs.Places.{RiseBetween, is_weak_at}
use Rattle.heap_parts.specs.StandsFor.{PartsStandFor}
use Rattle.frame_laws.proofs.Filters.{filter_at, filter_permuted}
use Rattle.frame_laws.proofs.RiseLines.{sorted_births}
use Rattle.heap_phases.proofs.EndLists.{rise_filtered, ends_named}
use Rattle.heap_phases.proofs.EndCode.{clears}

-- The births that the code gathered at the places that pass, and then sorted.
pub record SortsBirths (word : ℕ → ℕ) (places : List ℕ) (sorted : List ℕ) : Type 0 where
  pub just : IsPermutation (map (λ p. word (p + 1)) places) sorted
  pub order : IsNonDecreasing sorted

-- Sorted births of places that pass are those of the objects that pass, in the order of the store.
pub told_births : {types : Table TypeInfo} {w name : ℕ → ℕ} {met places : List ℕ} {kept : List Object} (next : ℕ) (test : Object → Bool) (passes : ℕ → Bool) (sorted : List ℕ)
    → HoldsObjects types w met places name kept → RiseBetween 1 (map name places) next → 1 ≤ next → ((p : ℕ) → IsTrue (is_in p places) → test (object_from types name w p) ≡ passes p)
    → SortsBirths w (filter passes places) sorted → sorted ≡ map (λ o. o.birth) (filter test kept)
told_births {types = types} {w = w} {name = name} {places = places} {kept = kept} next test passes sorted h rise low same sorts =
    let read : ℕ → Object = object_from types name w in
    let objects : filter test kept ≡ map (object_from types name w) (filter passes places) = ap (filter test) h.reads ∙ filter_at (object_from types name w) test passes places same in
    let listed : map (λ (o : Object). o.birth) (filter test kept) ≡ map name (filter passes places) =
    ap (map (λ (o : Object). o.birth)) objects ∙ (map-map (λ (o : Object). o.birth) (object_from types name w) (filter passes places)
    ∙ map-same (λ p. (object_from types name w p).birth) name (filter passes places) (λ p t. birth-from types name w p ∙ sym (h.named p (filter-part passes places p t).0))) in
    let births : map (λ (p : ℕ). w (p + 1)) (filter passes places) ≡ map name (filter passes places) =
    map-same (λ p. w (p + 1)) name (filter passes places) (λ p t. sym (h.named p (filter-part passes places p t).0)) in
    let just : IsPermutation (map name (filter passes places)) sorted = subst (λ (xs : List ℕ). IsPermutation xs sorted) births sorts.just in
    let rises : RiseBetween 1 (map name (filter passes places)) next = rise_filtered name passes places 1 next rise in
    sorted_births next (map name (filter passes places)) sorted (map name (filter passes places)) just sorts.order (itself (map name (filter passes places))) rises low ∙ sym listed
  where
    itself : (xs : List ℕ) → IsPermutation xs xs
    itself xs = record { moves = []; below = tt; is = refl }

-- a target that is cleared, by words and by objects
clears-target : (s : Shape) (white : ℕ → Bool) (name : ℕ → ℕ) (before : ℕ) → target_passes white (target_of s (renamed name before)) ≡ (is_weak_shape s && (not (before == 0) && white (name before)))
clears-target (Fixed a b) white name before = refl
clears-target IntArray white name before = refl
clears-target RefArray white name before = refl
clears-target Weak white name before = elim (eqb_tells before 0) [
  | inl e ↦ rw e.0 refl
  | inr e ↦ rw e.0 refl
]

pub clears_object : (types : Table TypeInfo) (name w : ℕ → ℕ) (white : ℕ → Bool) (p : ℕ) → target_passes white (object_from types name w p).target ≡ clears types w name white p
clears_object types name w white p = ap (λ (o : Object). target_passes white o.target) (object_from-of types name w p)
    ∙ clears-target (info_at types w p).shape white name (w (layout_at types w p).ref_start)

-- the places that clear are weak ones
filter-weak : (weak clear : ℕ → Bool) (more : ℕ → Bool) → ((p : ℕ) → clear p ≡ (weak p && more p)) → (ps : List ℕ) → filter clear (filter weak ps) ≡ filter clear ps
filter-weak weak clear more is [] = refl
filter-weak weak clear more is (p ∷ ps) = go (weak p) refl (clear p) refl (filter-weak weak clear more is ps)
  where
    go : (a : Bool) → weak p ≡ a → (b : Bool) → clear p ≡ b → filter clear (filter weak ps) ≡ filter clear ps → filter clear (filter weak (p ∷ ps)) ≡ filter clear (p ∷ ps)
    go true a true b rest = rw a (rw b (ap (λ (qs : List ℕ). p ∷ qs) rest))
    go true a false b rest = rw a (rw b rest)
    go false a true b rest = absurd (let none : clear p ≡ false = is p ∙ rw a refl in let no : ⊥ = cc in no)
    go false a false b rest = rw a (rw b rest)

-- What the code tells at the end of marking. It looks at the listed weak objects, at those that it kept, and at those that are
-- condemned and have a destructor; births stand in words that stay.
pub record TellsEnd (heap : HeapParts) (store : Store) (s : PartsStandFor heap store) (saved : ℕ → Bool) (lines : List Line) : Type 0 where
  pub cleared : List ℕ
  pub kept : List ℕ
  pub destroyed : List ℕ
  pub clears_are : SortsBirths (word_in heap) (filter (clears heap.setup.types (word_in heap) s.name (is_white store)) heap.weaks) cleared
  pub kept_are : SortsBirths (word_in heap) (filter (λ p. is_white store (s.name p) && saved (s.name p)) s.places) kept
  pub destroyed_are : SortsBirths (word_in heap) (filter (λ p. is_condemned store saved (s.name p) && (info_at heap.setup.types (word_in heap) p).destructor) s.places) destroyed
  pub told : lines ≡ map (λ x. Cleared x) cleared
      ++ (map (λ x. Kept x) kept ++ (map (λ x. Destroyed x) destroyed ++ map (λ cut. LinkCut cut) (link_ends (λ p. is_condemned store saved (s.name p)) heap.links.structs)))

pub end_told : (heap : HeapParts) (store : Store) (s : PartsStandFor heap store) (saved : ℕ → Bool) (lines : List Line) → TellsEnd heap store s saved lines → lines ≡ end_lines store saved
end_told heap store s saved lines t =
    let types = heap.setup.types in let w = word_in heap in
    let rise : RiseBetween 1 (map s.name s.places) store.next = subst (λ (n : ℕ). RiseBetween 1 (map s.name s.places) n) (sym s.counts.next_is) s.births.rise in
    let low : 1 ≤ store.next = (let n = s.sound.births.next_above in omega (arith, n)) in
    let weak : IsPermutation (filter (clears types w s.name (is_white store)) s.places) (filter (clears types w s.name (is_white store)) heap.weaks) =
    subst (λ (ps : List ℕ). IsPermutation ps (filter (clears types w s.name (is_white store)) heap.weaks))
    (filter-weak (is_weak_at types w) (clears types w s.name (is_white store))
    (λ p. not (w (layout_at types w p).ref_start == 0) && is_white store (s.name (w (layout_at types w p).ref_start))) (λ p. refl) s.places)
    (filter_permuted (clears types w s.name (is_white store)) (filter (is_weak_at types w) s.places) heap.weaks s.words.weak) in
    let all : SortsBirths w (filter (clears types w s.name (is_white store)) s.places) t.cleared = record {
      just = IsPermutation-trans (map (λ (p : ℕ). w (p + 1)) (filter (clears types w s.name (is_white store)) s.places)) (map (λ (p : ℕ). w (p + 1)) (filter (clears types w s.name (is_white store)) heap.weaks)) t.cleared
          (IsPermutation-map (λ (p : ℕ). w (p + 1)) (filter (clears types w s.name (is_white store)) s.places) (filter (clears types w s.name (is_white store)) heap.weaks) weak) t.clears_are.just;
      order = t.clears_are.order;
    } in
    let born : (p : ℕ) → IsTrue (is_in p s.places) → (object_from types s.name w p).birth ≡ s.name p = λ p u. birth-from types s.name w p ∙ sym (s.words.objects.named p u) in
    let one : t.cleared ≡ map (λ (o : Object). o.birth) (filter (λ (o : Object). target_passes (is_white store) o.target) store.kept) =
    told_births store.next (λ o. target_passes (is_white store) o.target) (clears types w s.name (is_white store)) t.cleared s.words.objects rise low (λ p u. clears_object types s.name w (is_white store) p) all in
    let two : t.kept ≡ map (λ (o : Object). o.birth) (filter (λ (o : Object). is_white store o.birth && saved o.birth) store.kept) =
    told_births store.next (λ o. is_white store o.birth && saved o.birth) (λ p. is_white store (s.name p) && saved (s.name p)) t.kept s.words.objects rise low
    (λ p u. ap (λ (x : ℕ). is_white store x && saved x) (born p u)) t.kept_are in
    let three : t.destroyed ≡ map (λ (o : Object). o.birth) (filter (λ (o : Object). is_condemned store saved o.birth && o.info.destructor) store.kept) =
    told_births store.next (λ o. is_condemned store saved o.birth && o.info.destructor) (λ p. is_condemned store saved (s.name p) && (info_at types w p).destructor) t.destroyed s.words.objects rise low
    (λ p u. ap₂ (λ (x : ℕ) (d : Bool). is_condemned store saved x && d) (born p u) (ap (λ (o : Object). o.info.destructor) (object_from-of types s.name w p))) t.destroyed_are in
    let ends : link_ends (λ p. is_condemned store saved (s.name p)) heap.links.structs ≡ link_ends (is_condemned store saved) store.structs =
    sym (ap (link_ends (is_condemned store saved)) s.links.named ∙ ends_named s.name (is_condemned store saved) heap.links.structs) in
    t.told ∙ ap₂ (λ (a b : List Line). a ++ b)
    (ap (map (λ x. Cleared x)) one ∙ map-map (λ x. Cleared x) (λ (o : Object). o.birth) (filter (λ (o : Object). target_passes (is_white store) o.target) store.kept))
    (ap₂ (λ (a b : List Line). a ++ b) (ap (map (λ x. Kept x)) two)
    (ap₂ (λ (a b : List Line). a ++ b)
    (ap (map (λ x. Destroyed x)) three ∙ map-map (λ x. Destroyed x) (λ (o : Object). o.birth) (filter (λ (o : Object). is_condemned store saved o.birth && o.info.destructor) store.kept))
    (ap (map (λ (cut : LinkEnd). LinkCut cut)) ends)))

-- so the end of marking is one of the store
pub end_is_told : (heap : HeapParts) (store : Store) (s : PartsStandFor heap store) → IsMarked store → (saved : ℕ → Bool) → Tells saved (IsSaved store) → (chosen : ℕ → Bool) → Tells chosen (IsChosen store)
    → (lines : List Line) → TellsEnd heap store s saved lines → EndOfMarking heap.setup.settings store lines (after_marking heap.setup.settings store saved chosen)
end_is_told heap store s marked saved tells chosen tells_chosen lines t = record {
  marked = marked;
  saved = saved;
  tells_saved = tells;
  chosen = chosen;
  tells_chosen = tells_chosen;
  printed = end_told heap store s saved lines t;
  leaves = refl;
}
