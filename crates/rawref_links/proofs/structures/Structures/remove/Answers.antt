use Rattle.std.proofs.Common.{ap, ◌∙◌, sym, is_some}
use Rattle.type_table.specs.Table.{without_key}
use Rattle.rawref_links.proofs.Keyed.{has_key, AreKeyed-remove, structs_in-remove}
use Rattle.rawref_links.proofs.structures.Structures.remove.Goals as goal

pub unwrap-key-requires : goal.unwrap-key-requires
unwrap-key-requires c =
    ap is_some c.swap_remove.ensures.value ∙ has_key c.self.inside.slots.slots c.self.inside.keys.entries c.args.self.now c.self.view_is c.args.number c.requires

pub remove-requires : goal.remove-requires
remove-requires c = c.self.invariant.held c.args.number c.unwrap-key.result (sym c.swap_remove.ensures.value ∙ c.unwrap-key.ensures)

pub invariant_of-self : goal.invariant_of-self
invariant_of-self c =
    AreKeyed-remove c.self.inside.slots.slots c.remove.new.self.slots c.self.inside.keys.entries c.swap_remove.new.self.entries
    c.args.number c.unwrap-key.result c.self.invariant (sym c.swap_remove.ensures.value ∙ c.unwrap-key.ensures)
    c.remove.ensures.updates.others c.swap_remove.ensures.updates.0

pub returns : goal.returns
returns c =
    structs_in-remove c.self.inside.slots.slots c.remove.new.self.slots c.self.inside.keys.entries c.swap_remove.new.self.entries
    c.args.number c.unwrap-key.result c.self.invariant (sym c.swap_remove.ensures.value ∙ c.unwrap-key.ensures)
    c.remove.ensures.updates.others c.swap_remove.ensures.updates.0
    ∙ ap (λ t. without_key t c.args.number) c.self.view_is
