-- What a command that is not refused may ask of the structures.
use Rattle.std.proofs.Common.{◌≡◌, ℕ, true, false, cond, ◌||◌, nat_le, [], ◌∷◌, Option, Some, None, IsSomeAnd, option_map, sym, refl, ap, ◌∙◌, arith}
use Rattle.std.specs.List.{find}
use Rattle.std.proofs.lemmas.Bool.Decides.{nat_tests}
use Rattle.type_table.specs.Table.{Table}
use Rattle.store_model.specs.Store.{Struct, Linked, Unlinked, Pending}
use Rattle.object_model.specs.declared.structure.StructState.TheVariants as state
use Rattle.store_model.specs.Structs.{state_of, p_link_of}
use Rattle.store_model.specs.StructChecks.{is_absent, is_pending, own_count, is_p_link_of, has_p_link}
use Rattle.rawref_links.specs.Conditions.{CanRise, CanFall}

-- a structure that is there, not pending and not at the greatest count can rise
pub CanRise-from_checks : (found : Option Struct) → is_absent (state_of found) ≡ false → is_pending (state_of found) ≡ false → nat_le 4294967295 (own_count (state_of found)) ≡ false → IsSomeAnd found CanRise
CanRise-from_checks None absent pending full = absurd (cc)
CanRise-from_checks (Some (Linked p light object own)) absent pending full = grind (arith, nat_tests)
CanRise-from_checks (Some (Unlinked own)) absent pending full = grind (arith, nat_tests)
CanRise-from_checks (Some Pending) absent pending full = absurd (cc)

-- a structure that is there, not pending and not at 0 can fall
pub CanFall-from_checks : (found : Option Struct) → is_absent (state_of found) ≡ false → is_pending (state_of found) ≡ false → nat_le (own_count (state_of found)) 0 ≡ false → IsSomeAnd found CanFall
CanFall-from_checks None absent pending zero = absurd (cc)
CanFall-from_checks (Some (Linked p light object own)) absent pending zero = grind (arith, nat_tests)
CanFall-from_checks (Some (Unlinked own)) absent pending zero = grind (arith, nat_tests)
CanFall-from_checks (Some Pending) absent pending zero = absurd (cc)

-- an object without a P link has no structure of one
pub p_link_of-none : (structs : Table Struct) (object : ℕ) → has_p_link structs (Some object) ≡ false → p_link_of structs object ≡ None
p_link_of-none [] object none = refl
p_link_of-none (entry ∷ structs) object none =
    elim (is_p_link_of (Some object) entry.1) as (λ t. is_p_link_of (Some object) entry.1 ≡ t
    → option_map (λ e. e.0) (cond t (Some entry) (find (λ e. is_p_link_of (Some object) e.1) structs)) ≡ None) [
      | true ↦ λ is. let clash : true ≡ false = sym (ap (λ t. t || has_p_link structs (Some object)) is) ∙ none in absurd (cc)
      | false ↦ λ is. p_link_of-none structs object (sym (ap (λ t. t || has_p_link structs (Some object)) is) ∙ none)
    ] refl

-- what is told as absent is not there
pub absent_from_state : (found : Option Struct) → state_of found ≡ state.Absent → found ≡ None
absent_from_state None told = refl
absent_from_state (Some (Linked p light object own)) told = absurd (cc)
absent_from_state (Some (Unlinked own)) told = absurd (cc)
absent_from_state (Some Pending) told = absurd (cc)
