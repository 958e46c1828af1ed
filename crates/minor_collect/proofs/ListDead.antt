-- The dead are what the walks come to that did not move and is not pinned.
use Rattle.std.proofs.Common.{◌≡◌, ℕ, Bool, true, false, IsTrue, List, [], filter, nat_eq, refl, sym, ap, ◌∙◌, subst, inl, inr}
use Rattle.std.specs.Prelude.{not, ◌&&◌, ◌==◌}
use Rattle.std.specs.List.{IsDistinct}
use Rattle.std.proofs.lemmas.Bool.{ne_eqb}
use Rattle.std.proofs.lemmas.Bool.Decides.{eqb_tells}
use Rattle.heap_space.specs.Places.{word_at}
use Rattle.object_view.proofs.ForwardLaws.{header-unmarked}
use Rattle.object_model.proofs.Members.{filter-part, filter-member, and_first, and_second, and_both}
use Rattle.object_model.specs.Sets.{is_in, AreDifferent}
use Rattle.store_model.specs.Store.{Store}
use Rattle.heap_parts.specs.Nursery.{walked}
use Rattle.heap_parts.specs.Parts.{HeapParts, pinned_places}
use Rattle.heap_parts.specs.Places.{is_young}
use Rattle.frame_laws.proofs.PlaceLaws.{is_in-young}
use Rattle.minor_collect.specs.Carried.{Moved}
use Rattle.minor_collect.specs.Midway.{Midway, Changing, Owes, is_lasting, Placing}
use Rattle.minor_collect.proofs.Begins.{not-lasting}
use Rattle.object_model.proofs.SameMembers.{names_differ, part_differs}
use Rattle.minor_collect.proofs.NamedObjects.{map-id}

-- whether a place that a walk comes to holds what is gone
abbrev pub is_dead_at : (ℕ → ℕ) → List ℕ → ℕ → Bool
is_dead_at word pins x = not (word x == 18446744073709551615) && not (is_in x pins)

module _ {start : HeapParts} {store : Store} {remembered : ℕ → ℕ → Bool} {now : Changing} {todo held left : List ℕ} {owes : Owes} {moved : Moved}
    {placing : Placing} (mid : Midway start store remembered now placing todo held left owes moved []) where
  abbrev dead : List ℕ
  dead = filter (is_dead_at (word_at now.memory.blocks) (pinned_places start)) (walked mid.carried.walked_are.walks)

  pub dead_once : AreDifferent (filter (is_dead_at (word_at now.memory.blocks) (pinned_places start)) (walked mid.carried.walked_are.walks))
  dead_once = part_differs (is_dead_at (word_at now.memory.blocks) (pinned_places start)) (walked mid.carried.walked_are.walks)
      (names_differ (λ x. x) (walked mid.carried.walked_are.walks) (subst (IsDistinct nat_eq) (sym (map-id (walked mid.carried.walked_are.walks))) mid.carried.walked_are.differ))

  not-true : (b : Bool) → not b ≡ true → b ≡ false
  not-true true e = absurd (let no : ⊥ = cc in no)
  not-true false e = refl

  pub dead_just : (p : ℕ) → IsTrue (is_in p (filter (is_dead_at (word_at now.memory.blocks) (pinned_places start)) (walked mid.carried.walked_are.walks)))
      → IsTrue (is_in p placing.places) × (is_lasting (pinned_places start) p ≡ false)
  dead_just p t =
      let part = filter-part (is_dead_at (word_at now.memory.blocks) (pinned_places start)) (walked mid.carried.walked_are.walks) p t in
      let young = mid.carried.walked_are.young p part.0 in
      let unmarked = not-true (word_at now.memory.blocks p == 18446744073709551615) (and_first (not (word_at now.memory.blocks p == 18446744073709551615)) (not (is_in p (pinned_places start))) part.1) in
      let unpinned = not-true (is_in p (pinned_places start)) (and_second (not (word_at now.memory.blocks p == 18446744073709551615)) (not (is_in p (pinned_places start))) part.1) in (
        elim (mid.words.moving.each p young.0) [
          | inl there ↦ there
          | inr gone ↦ elim (eqb_tells (word_at now.memory.blocks p) 18446744073709551615) [
            | inl e ↦ absurd (let clash : true ≡ false = sym e.0 ∙ unmarked in let no : ⊥ = cc in no)
            | inr e ↦ absurd (e.1 gone.marked)
          ]
        ],
        rw (young.1, unpinned) refl,
      )

  pub dead_all : (p : ℕ) → IsTrue (is_in p placing.places) → is_lasting (pinned_places start) p ≡ false
      → IsTrue (is_in p (filter (is_dead_at (word_at now.memory.blocks) (pinned_places start)) (walked mid.carried.walked_are.walks)))
  dead_all p t e =
      let parts = not-lasting (is_young p) (is_in p (pinned_places start)) e in
      filter-member (is_dead_at (word_at now.memory.blocks) (pinned_places start)) (walked mid.carried.walked_are.walks) p
      (mid.carried.walked_are.all p (is_in-young placing.places p t parts.0))
      (and_both (not (word_at now.memory.blocks p == 18446744073709551615)) (not (is_in p (pinned_places start)))
      (ap not (ne_eqb (word_at now.memory.blocks p) 18446744073709551615 (header-unmarked p mid.words.objects t))) (ap not parts.1))
