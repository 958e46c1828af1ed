-- What the passes over the dying objects walk, once targets were cleared, is what the store speaks of.
use Rattle.std.proofs.Common.{◌≡◌, ℕ, ◌+◌, ◌≤◌, ◌<◌, Bool, true, false, IsTrue, List, [], ◌∷◌, refl, sym, ap, ◌∙◌, subst, inl, inr, arith}
use Rattle.std.specs.Prelude.{not, ◌==◌, ◌&&◌, ◌%◌, nat_lt, if◌then◌else◌}
use Rattle.std.proofs.lemmas.Bool.{cases_Bool}
use Rattle.std.proofs.lemmas.Bool.Decides.{nat_tests}
use Rattle.type_table.specs.declared.info.TypeInfo.{TypeInfo}
use Rattle.type_table.specs.Table.{Table}
use Rattle.heap_space.specs.Places.{word_at}
use Rattle.heap_space.specs.Memory.{Memory}
use Rattle.object_header.specs.Words.{has_flag}
use Rattle.object_header.specs.declared.flags.Flag.TheVariants.{Visited}
use Rattle.object_model.specs.Layout.{Layout}
use Rattle.object_model.specs.Sets.{is_in}
use Rattle.object_model.specs.Holds.{IsPointer}
use Rattle.object_model.specs.ObjectWords.{words_from, layout_at}
use Rattle.object_model.proofs.Members.{and_first, and_second, and_both, filter-part, filter-member}
use Rattle.object_view.proofs.WordLaws.{words_from-same}
use Rattle.object_view.proofs.LayoutLaws.{KeepsLayout, laid_out, weak-at}
use Rattle.finalizer_order.specs.Unvisited as unvisited
use Rattle.finalizer_order.specs.Unvisited.{refs_at, leads_on}
use Rattle.finalizer_order.specs.Choosing as choosing
use Rattle.text_model.specs.declared.line.Phase.TheVariants.{Marking}
use Rattle.store_model.specs.Store.{Store}
use Rattle.store_model.specs.Reach.{Leads}
use Rattle.store_model.specs.Marking.{IsMarked, IsSaved, is_white}
use Rattle.weak_lists.specs.Targets.{ChangesTargets, kept_target}
use Rattle.heap_parts.specs.Parts.{HeapParts, word_in}
use Rattle.heap_parts.specs.Places.{is_young, old_places}
use Rattle.heap_parts.specs.StandsFor.{PartsStandFor}
use Rattle.heap_parts.specs.Collects.{AreAllPinned}
use Rattle.frame_laws.proofs.PlaceLaws.{old-is_in, is_in-old, is_in-young}
use Rattle.heap_phases.specs.Ending.{registered_places}
use Rattle.heap_phases.specs.Visiting.{old_refs}
use Rattle.heap_phases.proofs.ClearCalls.{weak_at}
use Rattle.heap_phases.proofs.EndCode.{ClearsWords, clears, clears_targets}
use Rattle.heap_phases.proofs.EndMemory.{first_stays, words_end, white_place}
use Rattle.heap_phases.proofs.PlacePaths.{white_step, PlacePath, place_saved}
use Rattle.heap_phases.proofs.VisitRefs.{each-ref, ref_place}

module _ (heap : HeapParts) (store : Store) (s : PartsStandFor heap store) (pinned : AreAllPinned store) (marked : IsMarked store) (marking : heap.phase ≡ Marking)
    (m : Memory) (changes : ChangesTargets heap.setup.types (kept_target heap.nursery.words (word_in heap)) heap.memory m heap.weaks) where
  abbrev types : Table TypeInfo
  types = heap.setup.types

  abbrev w : ℕ → ℕ
  w = word_in heap

  abbrev v : ℕ → ℕ
  v = word_at m.blocks

  abbrev n : ℕ
  n = heap.nursery.words

  first : (p : ℕ) → IsTrue (is_in p s.places) → word_at m.blocks p ≡ w p
  first p t = first_stays heap store s pinned marked marking m changes p t

  pub cleared : ClearsWords types (word_at m.blocks) (word_in heap) s.places (clears types (word_in heap) s.name (is_white store))
  cleared = record {
    types_stay = λ p t. ap (λ (k : ℕ). k % 65536) (first p t);
    headers = λ p t. subst (λ (k : ℕ). k < 67108864) (sym (first p t)) (s.words.objects.header p t);
    words = λ p b t l r. words_end heap store s pinned marked marking m changes p b t l r;
  }

  pub layout_stays : (p : ℕ) → IsTrue (is_in p s.places) → KeepsLayout types (word_at m.blocks) w p
  layout_stays p t = (clears_targets s.name (is_white store) cleared).layouts p t

  -- the references of an object are as they were
  pub refs_stay : (p : ℕ) → IsTrue (is_in p s.places) → refs_at types (word_at m.blocks) p ≡ refs_at types w p
  refs_stay p t =
      let laid = laid_out types w p in
      ap (λ (l : Layout). words_from (word_at m.blocks) l.ref_start l.ref_count) (layout_stays p t).layout_stays
      ∙ words_from-same (word_at m.blocks) w (layout_at types w p).ref_start (layout_at types w p).ref_count (λ b l r.
      words_end heap store s pinned marked marking m changes p b t (omega (arith, laid.begins, laid.ordered, l)) (omega (arith, laid.pointers, laid.refs, r)) ∙ other p b l r)
    where
      other : (p b : ℕ) → (layout_at types w p).ref_start ≤ b → b < (layout_at types w p).ref_start + (layout_at types w p).ref_count
          → (if clears types w s.name (is_white store) p && (b == (layout_at types w p).ref_start) then 0 else w b) ≡ w b
      other p b l r = go (clears types w s.name (is_white store) p) refl
        where
          go : (d : Bool) → clears types w s.name (is_white store) p ≡ d → (if d && (b == (layout_at types w p).ref_start) then 0 else w b) ≡ w b
          go false e = refl
          go true e = absurd (let no_refs = (weak-at types w p (weak_at heap store s p (and_first _ _ e))).1 in let no : ⊥ = omega (arith, no_refs, l, r) in no)

  pub pointer : (p q : ℕ) → IsTrue (is_in p s.places) → IsTrue (is_in q (refs_at types w p)) → IsPointer s.places q
  pointer p q t u = each-ref s.places w (layout_at types w p).ref_start (layout_at types w p).ref_count (λ j l. s.words.objects.closed p j t (omega (arith, l, (laid_out types w p).refs))) q u

  -- of an object, the words tell whether it is white
  pub white_now : (q : ℕ) → IsTrue (is_in q s.places) → unvisited.is_unvisited n (word_at m.blocks) q ≡ is_white store (s.name q)
  white_now q t = ap (λ (k : ℕ). nat_lt n q && not (has_flag k Visited)) (first q t) ∙ white_place heap store s pinned marked marking q t

  white-old : (q : ℕ) → IsTrue (is_in q s.places) → is_white store (s.name q) ≡ true → is_young q ≡ false
  white-old q t e = elim (cases_Bool (is_young q)) [
    | inl young ↦ absurd (
        let inside = s.words.young.inside q (is_in-young s.places q t young) in let size = (laid_out types w q).header in
        let low : q ≤ n = omega (arith, inside, size) in
        let none : unvisited.is_unvisited n (word_at m.blocks) q ≡ false = below q low in
        let is = white_now q t in let no : ⊥ = cc in no)
    | inr old ↦ old
  ]
    where
      below : (q : ℕ) → q ≤ n → unvisited.is_unvisited n (word_at m.blocks) q ≡ false
      below q l = let none : nat_lt n q ≡ false = grind (arith, nat_tests) in rw none refl

  -- one step
  to-white : (p q : ℕ) → IsTrue (is_in p s.places) → IsTrue (leads_on types n (word_at m.blocks) p q) → IsTrue (white_step heap store s pinned marked p q)
  to-white p q t l =
      let ref : IsTrue (is_in q (refs_at types w p)) = subst (λ (xs : List ℕ). IsTrue (is_in q xs)) (refs_stay p t) (and_first _ _ l) in
      let un : unvisited.is_unvisited n (word_at m.blocks) q ≡ true = and_second (is_in q (refs_at types (word_at m.blocks) p)) _ l in
      elim (pointer p q t ref) [
        | inl z ↦ absurd (let none : unvisited.is_unvisited n (word_at m.blocks) 0 ≡ false = nothing n in let same : unvisited.is_unvisited n (word_at m.blocks) q ≡ unvisited.is_unvisited n (word_at m.blocks) 0 = ap (unvisited.is_unvisited n (word_at m.blocks)) z in let no : ⊥ = cc in no)
        | inr there ↦
            let white : is_white store (s.name q) ≡ true = sym (white_now q there) ∙ un in
            and_both (is_in q (old_refs heap p)) (is_white store (s.name q)) (filter-member (λ r. not (is_young r)) (refs_at types w p) q ref (ap not (white-old q there white))) white
      ]
    where
      nothing : (k : ℕ) → unvisited.is_unvisited k (word_at m.blocks) 0 ≡ false
      nothing k = let none : nat_lt k 0 ≡ false = grind (arith, nat_tests) in rw none refl

  from-white : (p q : ℕ) → IsTrue (is_in p s.places) → IsTrue (white_step heap store s pinned marked p q) → IsTrue (leads_on types n (word_at m.blocks) p q) × IsTrue (is_in q s.places)
  from-white p q t l =
      let listed = and_first (is_in q (old_refs heap p)) (is_white store (s.name q)) l in
      let there = (old-is_in s.places q (ref_place heap store s p q t listed)).0 in
      let ref : IsTrue (is_in q (refs_at types (word_at m.blocks) p)) = subst (λ (xs : List ℕ). IsTrue (is_in q xs)) (sym (refs_stay p t)) (filter-part (λ r. not (is_young r)) (refs_at types w p) q listed).0 in
      (and_both (is_in q (refs_at types (word_at m.blocks) p)) (unvisited.is_unvisited n (word_at m.blocks) q) ref (white_now q there ∙ and_second (is_in q (old_refs heap p)) (is_white store (s.name q)) l), there)

  walk-white : (p : ℕ) (path : List ℕ) (q : ℕ) → IsTrue (is_in p s.places) → Leads (leads_on types n (word_at m.blocks)) p path q → Leads (white_step heap store s pinned marked) p path q
  walk-white p [] q t a = a
  walk-white p (z ∷ path) q t a = let step = to-white p z t a.0 in (step, walk-white z path q (from-white p z t step).1 a.1)

  walk-places : (p : ℕ) (path : List ℕ) (q : ℕ) → IsTrue (is_in p s.places) → Leads (white_step heap store s pinned marked) p path q → Leads (leads_on types n (word_at m.blocks)) p path q
  walk-places p [] q t a = a
  walk-places p (z ∷ path) q t a = let step = from-white p z t a.0 in (step.0, walk-places z path q step.1 a.1)

  -- paths
  pub path_of : (p q : ℕ) → IsTrue (is_in p s.places) → unvisited.Reaches types n (word_at m.blocks) p q → PlacePath heap store s pinned marked p q
  path_of p q t r = (r.path, walk-white p r.path q t r.leads)

  pub reach_of : (p q : ℕ) → IsTrue (is_in p s.places) → PlacePath heap store s pinned marked p q → unvisited.Reaches types n (word_at m.blocks) p q
  reach_of p q t l = record { path = l.0; leads = walk-places p l.0 q t l.1 }

  -- a path between white objects ends at a white one
  path-ends : (p : ℕ) (path : List ℕ) (q : ℕ) → IsTrue (is_in p s.places) → is_white store (s.name p) ≡ true → Leads (white_step heap store s pinned marked) p path q → IsTrue (is_in q s.places) × (is_white store (s.name q) ≡ true)
  path-ends p [] q t white a = (subst (λ (k : ℕ). IsTrue (is_in k s.places)) a t, subst (λ (k : ℕ). is_white store (s.name k) ≡ true) a white)
  path-ends p (z ∷ path) q t white a = path-ends z path q (from-white p z t a.0).1 (and_second (is_in z (old_refs heap p)) (is_white store (s.name z)) a.0) a.1

  registered-there : (p : ℕ) → IsTrue (is_in p (registered_places heap)) → IsTrue (is_in p s.places)
  registered-there p t = s.finalizers.registered_are.there p t

  -- what is kept for finalizers is what is saved
  pub kept_saved : (q : ℕ) → choosing.IsKept types n (word_at m.blocks) (registered_places heap) q → IsTrue (is_in q (old_places s.places)) × (is_white store (s.name q) ≡ true) × IsSaved store (s.name q)
  kept_saved q k =
      let reg = and_first (is_in k.by (registered_places heap)) _ k.dying in
      let there = registered-there k.by reg in
      let white : is_white store (s.name k.by) ≡ true = sym (white_now k.by there) ∙ and_second (is_in k.by (registered_places heap)) _ k.dying in
      let path = path_of k.by q there k.reaches in
      let end = path-ends k.by path.0 q there white path.1 in
      let old = is_in-old s.places q end.0 (white-old q end.0 end.1) in (
        old,
        end.1,
        (place_saved heap store s pinned marked q old end.1).1 (record {
          place = k.by;
          registered = reg;
          old = is_in-old s.places k.by there (white-old k.by there white);
          dying = white;
          path = path;
        }),
      )

  pub saved_kept : (q : ℕ) → IsTrue (is_in q (old_places s.places)) → is_white store (s.name q) ≡ true → IsSaved store (s.name q) → choosing.IsKept types n (word_at m.blocks) (registered_places heap) q
  saved_kept q old white saved =
      let b = (place_saved heap store s pinned marked q old white).0 saved in
      let there = (old-is_in s.places b.place b.old).0 in
      record {
        by = b.place;
        dying = and_both (is_in b.place (registered_places heap)) (unvisited.is_unvisited n (word_at m.blocks) b.place) b.registered (white_now b.place there ∙ b.dying);
        reaches = reach_of b.place q there b.path;
      }
