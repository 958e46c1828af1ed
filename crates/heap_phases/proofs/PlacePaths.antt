-- Paths over places are paths over births: what the passes over the dying objects walk is what the store speaks of.
use Rattle.std.proofs.Common.{◌≡◌, ℕ, Bool, true, false, IsTrue, List, [], ◌∷◌, map, sym, ap, ◌∙◌, subst, inl, inr}
use Rattle.std.specs.Prelude.{not, ◌&&◌, filter, is_some}
use Rattle.std.proofs.lemmas.Bool.{cases_Bool}
use Rattle.object_header.specs.Words.{has_flag}
use Rattle.object_header.specs.declared.flags.Flag.TheVariants.{Visited}
use Rattle.object_model.proofs.Members.{filter-part, filter-member, and_first, and_second, and_both, is_in-named, not-true}
use Rattle.text_model.specs.declared.line.Phase.{Phase}
use Rattle.text_model.specs.declared.line.Phase.TheVariants.{Marking}
use Rattle.store_model.specs.Store.{Store, is_settled}
use Rattle.object_model.specs.Object.{object_at}
use Rattle.object_model.specs.Sets.{is_in}
use Rattle.store_model.specs.Roots.{is_kept, referents_in, registered_births}
use Rattle.store_model.specs.Reach.{Leads, Reaches, refers, is_registered}
use Rattle.store_model.specs.Marking.{IsMarked, IsSaved, is_white, is_dying}
use Rattle.heap_parts.specs.Parts.{HeapParts, word_in}
use Rattle.heap_parts.specs.Places.{is_young, old_places}
use Rattle.heap_parts.specs.Headers.{is_marked}
use Rattle.heap_parts.specs.StandsFor.{PartsStandFor}
use Rattle.heap_parts.specs.Collects.{AreAllPinned}
use Rattle.frame_laws.proofs.PlaceLaws.{old-is_in, is_in-old, named-by}
use Rattle.frame_laws.proofs.MinorNeeds.{settled_place}
use Rattle.store_model.proofs.EndOfMarking.{referents-some}
use Rattle.heap_phases.proofs.EndLists.{names-entries}
use Rattle.object_view.proofs.FoundLaws.{found-at}
use Rattle.heap_phases.specs.Visiting.{old_refs}
use Rattle.heap_phases.proofs.VisitRefs.{refs_queued, ref_place}

module _ (heap : HeapParts) (store : Store) (s : PartsStandFor heap store) (pinned : AreAllPinned store) (marked : IsMarked store) where
  -- an object outside the nursery that was not visited refers to such a one
  abbrev pub white_step : ℕ → ℕ → Bool
  white_step p q = is_in q (old_refs heap p) && is_white store (s.name q)

  -- what is white carries no mark
  pub white_flag : heap.phase ≡ Marking → (p : ℕ) → IsTrue (is_in p (old_places s.places)) → is_white store (s.name p) ≡ not (has_flag (word_in heap p) Visited)
  white_flag marking p t =
      let settled : is_settled store.settled (s.name p) ≡ true = settled_place heap store s p (old-is_in s.places p t).0 ∙ ap not (old-is_in s.places p t).1 in
      let flag : has_flag (word_in heap p) Visited ≡ is_in (s.name p) store.visited =
      s.visited.each p t ∙ ap (λ (ph : Phase). is_marked ph store.visited s.name heap.setup.settings.page s.waiting p) marking in
      ap (λ (b : Bool). b && not (is_in (s.name p) store.visited)) settled ∙ ap not (sym flag)

  settled-old : (p : ℕ) → IsTrue (is_in p (old_places s.places)) → is_settled store.settled (s.name p) ≡ true
  settled-old p t = settled_place heap store s p (old-is_in s.places p t).0 ∙ ap not (old-is_in s.places p t).1

  -- one step, by births
  step-births : (p q : ℕ) → IsTrue (is_in p s.places) → IsTrue (is_in q (old_refs heap p)) → IsTrue (refers store.kept (s.name p) (s.name q))
  step-births p q t u =
      let listed : IsTrue (is_in (s.name q) (filter (λ x. is_in x store.settled) (referents_in (object_at store.kept (s.name p))))) =
      subst (λ (xs : List ℕ). IsTrue (is_in (s.name q) xs)) (sym (refs_queued heap store s p t)) (is_in-named s.name q (old_refs heap p) u) in
      let part = filter-part (λ x. is_in x store.settled) (referents_in (object_at store.kept (s.name p))) (s.name q) listed in
      and_both (is_in (s.name q) (referents_in (object_at store.kept (s.name p)))) (is_kept store.kept (s.name q)) part.0 (s.sound.fields.references (s.name p) (s.name q) part.0)

  pub path_births : (p : ℕ) (path : List ℕ) (q : ℕ) → IsTrue (is_in p s.places) → Leads white_step p path q → Leads (refers store.kept) (s.name p) (map s.name path) (s.name q)
  path_births p [] q t a = ap s.name a
  path_births p (r ∷ path) q t a =
      let ref : IsTrue (is_in r (old_refs heap p)) = and_first (is_in r (old_refs heap p)) (is_white store (s.name r)) a.0 in
      (step-births p r t ref, path_births r path q (old-is_in s.places r (ref_place heap store s p r t ref)).0 a.1)

  -- what is unsettled refers to nothing
  ends-unsettled : (z : ℕ) (path : List ℕ) (y : ℕ) → IsTrue (is_kept store.kept z) → is_settled store.settled z ≡ false → Leads (refers store.kept) z path y → is_settled store.settled y ≡ true → ⊥
  ends-unsettled z [] y k out a there = let now : is_settled store.settled y ≡ false = ap (is_settled store.settled) (sym a) ∙ out in let no : ⊥ = cc in no
  ends-unsettled z (x ∷ path) y k out a there =
      referents-some (object_at store.kept z) x (and_first (is_in x (referents_in (object_at store.kept z))) (is_kept store.kept x) a.0) (s.sound.pins.no_references z (pinned z k out))

  -- from a visited object no path leads to a settled one that was not visited
  visited-leads : (x : ℕ) (path : List ℕ) (y : ℕ) → IsTrue (is_in x store.visited) → Leads (refers store.kept) x path y → is_settled store.settled y ≡ true → IsTrue (is_in y store.visited)
  visited-leads x [] y v a there = subst (λ (k : ℕ). IsTrue (is_in k store.visited)) a v
  visited-leads x (z ∷ path) y v a there = elim (cases_Bool (is_settled store.settled z)) [
    | inl in_old ↦ visited-leads z path y (marked.closed x z v a.0 in_old) a.1 there
    | inr out ↦ absurd (ends-unsettled z path y (and_second (is_in z (referents_in (object_at store.kept x))) (is_kept store.kept z) a.0) out a.1 there)
  ]

  abbrev pub PlacePath : ℕ → ℕ → Type 0
  PlacePath p q = (path : List ℕ) × Leads white_step p path q

  -- a path by births to a white object is one over white places
  pub path_places : (p : ℕ) (path : List ℕ) (q : ℕ) → IsTrue (is_in p (old_places s.places)) → IsTrue (is_in q (old_places s.places)) → IsTrue (is_white store (s.name q))
      → Leads (refers store.kept) (s.name p) path (s.name q) → PlacePath p q
  path_places p [] q t u white a = ([], s.words.objects.differ p q (old-is_in s.places p t).0 (old-is_in s.places q u).0 a)
  path_places p (z ∷ path) q t u white a =
      let here = (old-is_in s.places p t).0 in
      let ref : IsTrue (is_in z (referents_in (object_at store.kept (s.name p)))) = and_first (is_in z (referents_in (object_at store.kept (s.name p)))) (is_kept store.kept z) a.0 in
      elim (cases_Bool (is_settled store.settled z)) [
        | inl in_old ↦
            let listed : IsTrue (is_in z (map s.name (old_refs heap p))) = subst (λ (xs : List ℕ). IsTrue (is_in z xs)) (refs_queued heap store s p here)
            (filter-member (λ x. is_in x store.settled) (referents_in (object_at store.kept (s.name p))) z ref in_old) in
            let n = named-by s.name z (old_refs heap p) listed in
            let at = ref_place heap store s p n.place here n.there in
            let rest : Leads (refers store.kept) (s.name n.place) path (s.name q) = subst (λ (k : ℕ). Leads (refers store.kept) k path (s.name q)) n.is a.1 in
            let more = path_places n.place path q at u white rest in
            let unvisited : is_in (s.name n.place) store.visited ≡ false = elim (cases_Bool (is_in (s.name n.place) store.visited)) [
              | inl v ↦ absurd (
                  let end = visited-leads (s.name n.place) path (s.name q) v rest (settled-old q u) in
                  let out : not (is_in (s.name q) store.visited) ≡ true = and_second (is_settled store.settled (s.name q)) (not (is_in (s.name q) store.visited)) white in
                  let no_out : not (is_in (s.name q) store.visited) ≡ false = ap not end in let no : ⊥ = cc in no)
              | inr n ↦ n
            ] in (
              n.place ∷ more.0,
              (
                and_both (is_in n.place (old_refs heap p)) (is_white store (s.name n.place)) n.there
                    (and_both (is_settled store.settled (s.name n.place)) (not (is_in (s.name n.place) store.visited)) (settled-old n.place at) (ap not unvisited)),
                more.1,
              ),
            )
        | inr out ↦ absurd (ends-unsettled z path (s.name q) (and_second (is_in z (referents_in (object_at store.kept (s.name p)))) (is_kept store.kept z) a.0) out a.1 (settled-old q u))
      ]

  -- So what one reaches among the white is the same by places as by births,
  pub place_reaches : (p q : ℕ) → IsTrue (is_in p (old_places s.places)) → IsTrue (is_in q (old_places s.places)) → IsTrue (is_white store (s.name q))
      → (Reaches store.kept (s.name p) (s.name q) → PlacePath p q) × (PlacePath p q → Reaches store.kept (s.name p) (s.name q))
  place_reaches p q t u white =
      let here = (old-is_in s.places p t).0 in
      (λ r. path_places p r.1 q t u white r.2, λ l. (ap is_some (found-at p s.words.objects here), map s.name l.0, path_births p l.0 q here l.1))

  -- and so is what is saved.
  pub record SavedBy (q : ℕ) : Type 0 where
    pub place : ℕ
    pub registered : IsTrue (is_in place (map (λ entry. entry.0) heap.registered))
    pub old : IsTrue (is_in place (old_places s.places))
    pub dying : IsTrue (is_white store (s.name place))
    pub path : PlacePath place q

  registered-are : registered_births store ≡ map s.name (map (λ (entry : ℕ × ℕ). entry.0) heap.registered)
  registered-are = ap (map (λ (entry : ℕ × ℕ). entry.0)) s.finalizers.registered_are.named ∙ names-entries s.name heap.registered

  saved-by : (q x : ℕ) (path : List ℕ) → IsTrue (is_in q (old_places s.places)) → IsTrue (is_white store (s.name q)) → IsTrue (is_dying store x) → Leads (refers store.kept) x path (s.name q) → SavedBy q
  saved-by q x path u white d leads =
      let n = named-by s.name x (map (λ (entry : ℕ × ℕ). entry.0) heap.registered)
      (subst (λ (xs : List ℕ). IsTrue (is_in x xs)) registered-are (and_first (is_registered store x) (is_white store x) d)) in
      let whites : IsTrue (is_white store (s.name n.place)) = subst (λ (k : ℕ). IsTrue (is_white store k)) n.is (and_second (is_registered store x) (is_white store x) d) in
      let there : IsTrue (is_in n.place s.places) = s.finalizers.registered_are.there n.place n.there in
      let old : IsTrue (is_in n.place (old_places s.places)) = is_in-old s.places n.place there
      (not-true (is_young n.place) (sym (settled_place heap store s n.place there) ∙ and_first (is_settled store.settled (s.name n.place)) (not (is_in (s.name n.place) store.visited)) whites)) in
      record {
        place = n.place;
        registered = n.there;
        old = old;
        dying = whites;
        path = path_places n.place path q old u white (subst (λ (k : ℕ). Leads (refers store.kept) k path (s.name q)) n.is leads);
      }

  pub place_saved : (q : ℕ) → IsTrue (is_in q (old_places s.places)) → IsTrue (is_white store (s.name q)) → (IsSaved store (s.name q) → SavedBy q) × (SavedBy q → IsSaved store (s.name q))
  place_saved q u white = (
    λ l. saved-by q l.0 l.2 u white l.1 l.3,
    λ b. (
      s.name b.place,
      and_both (is_registered store (s.name b.place)) (is_white store (s.name b.place))
          (subst (λ (xs : List ℕ). IsTrue (is_in (s.name b.place) xs)) (sym registered-are) (is_in-named s.name b.place (map (λ (entry : ℕ × ℕ). entry.0) heap.registered) b.registered)) b.dying,
      map s.name b.path.0,
      path_births b.place b.path.0 q (old-is_in s.places b.place b.old).0 b.path.1,
    ),
  )
