use Rattle.std.proofs.Common.{◌≡◌, subst, sym, ◌∙◌, ap}
use Rattle.type_table.specs.Table.{with_value}
use Rattle.rawref_links.specs.Structures.{AreKeyed, structs_in}
use Rattle.rawref_links.proofs.Keyed.{AreKeyed-add, structs_in-add, PutsAt}
use Rattle.rawref_links.proofs.structures.Structures.add.Goals as goal

-- the room that was made leaves the slots as they were
same_slots : (c : goal.After-insert_reserved) → c.reserve.new.self.slots ≡ c.self.inside.slots.slots
same_slots c = ap (λ s. s.slots) c.reserve.ensures.rest_kept

keyed : (c : goal.After-insert_reserved) → AreKeyed c.reserve.new.self.slots c.self.inside.keys.entries
keyed c = subst (λ slots. AreKeyed slots c.self.inside.keys.entries) (sym (same_slots c)) c.self.invariant

same_key : (c : goal.After-insert_reserved) → c.insert_reserved.result ≡ c.vacant_key-key.result
same_key c = c.insert_reserved.ensures.key ∙ sym c.vacant_key-key.ensures.value

puts : (c : goal.After-insert_reserved) → PutsAt c.reserve.new.self.slots c.insert_reserved.new.self.slots c.vacant_key-key.result c.args.structure
puts c =
    let here : PutsAt c.reserve.new.self.slots c.insert_reserved.new.self.slots c.insert_reserved.result c.args.structure = record {
      here = c.insert_reserved.ensures.updates.changed;
      elsewhere = c.insert_reserved.ensures.updates.others;
    } in
    subst (λ key. PutsAt c.reserve.new.self.slots c.insert_reserved.new.self.slots key c.args.structure) (same_key c) here

pub invariant_of-self-2 : goal.invariant_of-self-2
invariant_of-self-2 c =
    AreKeyed-add c.reserve.new.self.slots c.insert_reserved.new.self.slots c.self.inside.keys.entries c.insert.new.self.entries
    c.args.number c.vacant_key-key.result c.args.structure (keyed c) (puts c) c.vacant_key-key.ensures.vacant c.in_ok-insert.ensures.updates.0

pub returns-clause-ok : goal.returns-clause-ok
returns-clause-ok c =
    structs_in-add c.reserve.new.self.slots c.insert_reserved.new.self.slots c.self.inside.keys.entries c.insert.new.self.entries
    c.args.number c.vacant_key-key.result c.args.structure (keyed c) (puts c) c.vacant_key-key.ensures.vacant c.in_ok-insert.ensures.updates.0
    ∙ ap (λ slots. with_value (structs_in slots c.self.inside.keys.entries) c.args.number c.args.structure) (same_slots c)
    ∙ ap (λ t. with_value t c.args.number c.args.structure) c.self.view_is
