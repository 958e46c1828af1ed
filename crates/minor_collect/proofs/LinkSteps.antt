-- Links follow an object that moved.
use Rattle.std.proofs.Common.{◌≡◌, ◌≢◌, ℕ, false, IsTrue, List, [], ◌∷◌, map, refl, sym, ap, ◌∙◌, subst}
use Rattle.std.specs.Prelude.{filter_map, option_and_then}
use Rattle.std.proofs.lemmas.List.Elements.{All-nil, All-cons}
use Rattle.std.proofs.lemmas.Bool.{ne_eqb}
use Rattle.type_table.specs.Table.{Table, KeysRise, value_at}
use Rattle.object_model.specs.Sets.{is_in}
use Rattle.object_model.proofs.Members.{is_in-head, is_in-tail}
use Rattle.store_model.specs.Store.{Struct, Linked, Unlinked, Pending}
use Rattle.store_model.specs.Structs.{Structs, object_of, with_objects, is_link_of}
use Rattle.rawref_links.specs.Conditions.{HasNoLink}
use Rattle.store_model.proofs.StructLaws.{value_at-objects}
use Rattle.heap_parts.specs.Lists.{HoldsLinks}
use Rattle.birth_laws.proofs.BirthNames.{links_agree}
use Rattle.minor_collect.proofs.ListSteps.{objects-twice, is-renamed}

-- the linked objects, under another name
pub linked_renamed : (f : ℕ → ℕ) (structs : Table Struct) → filter_map (λ (entry : ℕ × Struct). object_of entry.1) (with_objects f structs) ≡ map f (filter_map (λ (entry : ℕ × Struct). object_of entry.1) structs)
linked_renamed f [] = refl
linked_renamed f ((n, Linked p light object own) ∷ structs) = ap (λ (rest : List ℕ). f object ∷ rest) (linked_renamed f structs)
linked_renamed f ((n, Unlinked own) ∷ structs) = linked_renamed f structs
linked_renamed f ((n, Pending) ∷ structs) = linked_renamed f structs

-- to a place of none of them no link leads
pub no_link : (structs : Table Struct) (a : ℕ) → ((p : ℕ) → IsTrue (is_in p (filter_map (λ (entry : ℕ × Struct). object_of entry.1) structs)) → p ≢ a) → HasNoLink structs a
no_link [] a out = All-nil (λ (entry : ℕ × Struct). is_link_of a entry.1 ≡ false)
no_link ((n, Linked p light object own) ∷ structs) a out = All-cons (λ (entry : ℕ × Struct). is_link_of a entry.1 ≡ false) (n, Linked p light object own) structs
    (ne_eqb a object (λ e. out object (is_in-head object (filter_map (λ (entry : ℕ × Struct). object_of entry.1) structs)) (sym e)))
    (no_link structs a (λ q t. out q (is_in-tail q object (filter_map (λ (entry : ℕ × Struct). object_of entry.1) structs) t)))
no_link ((n, Unlinked own) ∷ structs) a out = All-cons (λ (entry : ℕ × Struct). is_link_of a entry.1 ≡ false) (n, Unlinked own) structs refl (no_link structs a out)
no_link ((n, Pending) ∷ structs) a out = All-cons (λ (entry : ℕ × Struct). is_link_of a entry.1 ≡ false) (n, Pending) structs refl (no_link structs a out)

-- links by other places of the same names
pub links_by : {name : ℕ → ℕ} {met : List ℕ} {links : Structs} {structs : Table Struct} {dead : List ℕ} (f : ℕ → ℕ)
    → ((p : ℕ) → IsTrue (is_in p met) → (name (f p) ≡ name p) × IsTrue (is_in (f p) met)) → KeysRise structs → HoldsLinks links met name structs dead
    → HoldsLinks (record { structs = with_objects f links.structs; dead = links.dead }) met name structs dead
links_by {name = name} {met = met} {links = links} f same rises held = record {
  named = (links_agree {places = met} {more = met} {name = name} {other = λ p. name (f p)} (λ p t. (same p t).0) (λ p t. t) rises held).named
      ∙ objects-twice name f links.structs;
  there = λ n p e.
      let r = is-renamed f (value_at links.structs n) p (ap (option_and_then object_of) (sym (value_at-objects f links.structs n)) ∙ e) in
      subst (λ (k : ℕ). IsTrue (is_in k met)) r.is (same r.from (held.there n r.from r.was)).1;
  queue = held.queue;
}
