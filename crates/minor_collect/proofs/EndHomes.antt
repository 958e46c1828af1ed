-- Homes after a minor collection: those that were told of what stays, and reserved ones of pinned objects alone.
use Rattle.std.proofs.Common.{◌≡◌, ℕ, Bool, IsTrue, List, ◌++◌, Option, Some, sym, ap, ◌∙◌, subst, inl, inr}
use Rattle.type_table.specs.Table.{Table, entries_where}
use Rattle.object_model.specs.Sets.{is_in}
use Rattle.heap_parts.specs.Places.{young_places, old_places}
use Rattle.heap_parts.specs.StandsFor.{HoldsHomes}
use Rattle.frame_laws.proofs.PlaceLaws.{young-is_in, is_in-young}
use Rattle.object_model.proofs.Members.{filter-part, filter-member}
use Rattle.minor_collect.specs.Ending.{remaining}
use Rattle.store_model.proofs.Homes.{found_where, kept_where}

pub end_homes : {home after : ℕ → Option ℕ} {places husks : List ℕ} {name : ℕ → ℕ} {homes : Table ℕ} (pins : List ℕ) (passes : ℕ → Bool)
    → HoldsHomes home places husks name homes
    → old_places (remaining passes name places) ≡ old_places places
    -- what stays in the nursery is pinned
    → ((p : ℕ) → IsTrue (is_in p (young_places (remaining passes name places))) → IsTrue (is_in p pins))
    -- pinned objects keep their reserved homes, and no other has one
    → ((p : ℕ) → IsTrue (is_in p pins) → after p ≡ home p)
    → ((p at : ℕ) → after p ≡ Some at → IsTrue (is_in p pins) × IsTrue (is_in p (young_places (remaining passes name places))))
    → HoldsHomes after (remaining passes name places) husks name (entries_where passes homes)
end_homes {home = home} {after = after} {places = places} {husks = husks} {name = name} {homes = homes} pins passes h old young same only = record {
  told = λ birth at e.
      let was = found_where passes homes birth at e in
      elim (h.told birth at was.0) [
        | inl place ↦ inl (record { there = subst (λ (ps : List ℕ). IsTrue (is_in at (ps ++ husks))) (sym old) place.there; named = place.named })
        | inr reserved ↦
            let there = young-is_in places reserved.place reserved.there in
            let stays : IsTrue (is_in reserved.place (remaining passes name places)) = filter-member (λ p. passes (name p)) places reserved.place there.0 (ap passes reserved.named ∙ was.1) in
            let here = is_in-young (remaining passes name places) reserved.place stays there.1 in
            inr (record { place = reserved.place; there = here; named = reserved.named; reserved = same reserved.place (young reserved.place here) ∙ reserved.reserved })
      ];
  reserved = λ p at e. (only p at e).1;
  known = λ p at e.
      let there = only p at e in
      let part = filter-part (λ q. passes (name q)) places p (young-is_in (remaining passes name places) p there.1).0 in
      kept_where passes homes (name p) part.1 ∙ h.known p at (sym (same p there.0) ∙ e);
}
