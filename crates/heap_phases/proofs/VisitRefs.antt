-- What a visit queues: the old places that an object refers to are the settled births that it refers to.
use Rattle.std.proofs.Common.{◌≡◌, ◌≢◌, ℕ, zero, suc, ◌+◌, ◌<◌, ◌⊎◌, true, false, IsTrue, List, [], ◌∷◌, map, Option, refl, sym, ap, ◌∙◌, subst, inl, inr, arith}
use Rattle.std.specs.Prelude.{not, ◌==◌, filter, filter_map}
use Rattle.std.proofs.lemmas.Bool.{cases_Bool}
use Rattle.std.proofs.lemmas.Bool.Decides.{eqb_tells}
use Rattle.object_model.proofs.Members.{is_in-head, is_in-tail, is_in-cases, is_in-nil, filter-part, filter-member}
use Rattle.object_view.proofs.LayoutLaws.{laid_out}
use Rattle.object_view.proofs.FoundLaws.{found-at, refs-from}
use Rattle.object_model.specs.Object.{Object, object_at}
use Rattle.store_model.specs.Store.{Store}
use Rattle.object_model.specs.Sets.{is_in}
use Rattle.store_model.specs.Roots.{referents_in}
use Rattle.store_model.specs.MarkingOrder.{settled_of}
use Rattle.object_model.specs.ObjectWords.{renamed, words_from, layout_at}
use Rattle.object_model.specs.Holds.{IsPointer}
use Rattle.heap_parts.specs.Parts.{HeapParts, word_in}
use Rattle.heap_parts.specs.Places.{is_young, old_places}
use Rattle.heap_parts.specs.StandsFor.{PartsStandFor}
use Rattle.frame_laws.proofs.MinorNeeds.{settled_place}
use Rattle.heap_phases.specs.Visiting.{old_refs}

pub each-ref : (places : List ℕ) (w : ℕ → ℕ) (start n : ℕ) → ((j : ℕ) → j < n → IsPointer places (w (start + j))) → (q : ℕ) → IsTrue (is_in q (words_from w start n)) → IsPointer places q
each-ref places w start zero at q t = absurd (is_in-nil q t)
each-ref places w start (suc n) at q t = go (is_in-cases q (w start) (words_from w (start + 1) n) t) (each-ref places w (start + 1) n (λ j l. subst (λ (k : ℕ). IsPointer places (w k)) (omega arith) (at (suc j) (omega (arith, l)))) q)
  where
    go : (q ≡ w start) ⊎ IsTrue (is_in q (words_from w (start + 1) n)) → (IsTrue (is_in q (words_from w (start + 1) n)) → IsPointer places q) → IsPointer places q
    go (inl e) more = subst (λ (k : ℕ). IsPointer places k) (ap w (omega arith) ∙ sym e) (at 0 (omega arith))
    go (inr u) more = more u

pub refs-named : (name : ℕ → ℕ) (settled places ws : List ℕ) → ((q : ℕ) → IsTrue (is_in q ws) → IsPointer places q) → ((q : ℕ) → IsTrue (is_in q places) → is_in (name q) settled ≡ not (is_young q))
    → settled_of settled (filter_map (λ r. r) (map (renamed name) ws)) ≡ map name (filter (λ q. not (is_young q)) ws)
refs-named name settled places [] pointers kinds = refl
refs-named name settled places (q ∷ ws) pointers kinds = go (eqb_tells q 0) (refs-named name settled places ws (λ p t. pointers p (is_in-tail p q ws t)) kinds)
  where
    some : q ≢ 0 → is_in (name q) settled ≡ not (is_young q)
    some ne = elim (pointers q (is_in-head q ws)) [ inl z ↦ absurd (ne z) | inr t ↦ kinds q t ]

    go : (((q == 0) ≡ true) × (q ≡ 0)) ⊎ (((q == 0) ≡ false) × (q ≢ 0)) → settled_of settled (filter_map (λ r. r) (map (renamed name) ws)) ≡ map name (filter (λ q. not (is_young q)) ws)
        → settled_of settled (filter_map (λ r. r) (map (renamed name) (q ∷ ws))) ≡ map name (filter (λ q. not (is_young q)) (q ∷ ws))
    go (inl z) more = let young : is_young q ≡ true = ap is_young z.1 in rw (z.0, young) more
    go (inr z) more = elim (cases_Bool (is_young q)) [
      | inl y ↦ let out : is_in (name q) settled ≡ false = some z.1 ∙ ap not y in rw z.0 (rw (out, y) more)
      | inr y ↦ let there : is_in (name q) settled ≡ true = some z.1 ∙ ap not y in rw z.0 (rw (there, y) (ap (λ (xs : List ℕ). name q ∷ xs) more))
    ]

pub refs_queued : (heap : HeapParts) (store : Store) (s : PartsStandFor heap store) (p : ℕ) → IsTrue (is_in p s.places)
    → settled_of store.settled (referents_in (object_at store.kept (s.name p))) ≡ map s.name (old_refs heap p)
refs_queued heap store s p t =
    let types = heap.setup.types in let w = word_in heap in
    let ws : List ℕ = words_from w (layout_at types w p).ref_start (layout_at types w p).ref_count in
    ap (λ (o : Option Object). settled_of store.settled (referents_in o)) (found-at p s.words.objects t)
    ∙ (ap (λ (rs : List (Option ℕ)). settled_of store.settled (filter_map (λ r. r) rs)) (refs-from types s.name w p)
    ∙ refs-named s.name store.settled s.places ws
    (each-ref s.places w (layout_at types w p).ref_start (layout_at types w p).ref_count (λ j l. s.words.objects.closed p j t (omega (arith, l, (laid_out types w p).refs))))
    (λ q u. settled_place heap store s q u))

-- they are among the old places
pub ref_place : (heap : HeapParts) (store : Store) (s : PartsStandFor heap store) (p q : ℕ) → IsTrue (is_in p s.places) → IsTrue (is_in q (old_refs heap p)) → IsTrue (is_in q (old_places s.places))
ref_place heap store s p q t u =
    let w = word_in heap in let types = heap.setup.types in
    let part = filter-part (λ r. not (is_young r)) (words_from w (layout_at types w p).ref_start (layout_at types w p).ref_count) q u in
    elim (each-ref s.places w (layout_at types w p).ref_start (layout_at types w p).ref_count
    (λ j l. s.words.objects.closed p j t (omega (arith, l, (laid_out types w p).refs))) q part.0) [
      | inl z ↦ absurd (let old : not (is_young q) ≡ true = part.1 in let young : is_young q ≡ true = ap is_young z in let no_old : not (is_young q) ≡ false = ap not young in let no : ⊥ = cc in no)
      | inr there ↦ filter-member (λ r. not (is_young r)) s.places q there part.1
    ]
