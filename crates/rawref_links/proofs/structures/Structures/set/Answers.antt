use Rattle.std.proofs.Common.{◌∙◌, ap}
use Rattle.type_table.specs.Table.{with_value}
use Rattle.rawref_links.proofs.Keyed.{has_key, structs_in-set}
use Rattle.slab.proofs.SlabLemmas.{Updates-with_value}
use Rattle.rawref_links.proofs.structures.Structures.set.Goals as goal

pub index-key-requires : goal.index-key-requires
index-key-requires c = has_key c.self.inside.slots.slots c.self.inside.keys.entries c.args.self.now c.self.view_is c.args.number c.requires

pub returns : goal.returns
returns c =
    let puts = Updates-with_value c.self.inside.slots c.index-key.result.now c.args.structure (c.self.invariant.held c.args.number c.index-key.result.now c.index-key.ensures) in
    structs_in-set c.self.inside.slots.slots _ c.self.inside.keys.entries c.self.inside.keys.entries c.args.number c.index-key.result.now c.args.structure c.self.invariant
    (record { here = puts.changed; elsewhere = puts.others }) c.index-key.ensures
    ∙ ap (λ t. with_value t c.args.number c.args.structure) c.self.view_is
