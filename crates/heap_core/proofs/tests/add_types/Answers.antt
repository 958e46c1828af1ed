use Rattle.std.proofs.Common.{◌≡◌, ap, ◌∙◌, subst}
use Rattle.std.specs.Prelude.{OnOk}
use Rattle.type_table.specs.declared.info.TypeInfo.{TypeInfo}
use Rattle.type_table.specs.Table.{Table, with_value}
use Rattle.heap_core.specs.TestStores.{fixed_info}
use Rattle.heap_core.proofs.tests.add_types.Goals as goal

pub returns : goal.returns
returns c =
    subst (λ (t : Table TypeInfo). OnOk c.add_fixed-3.result (c.add_fixed-3.new.types ≡ t))
    (ap (λ (t : Table TypeInfo). with_value t 6 (fixed_info 9 1)) (c.in_ok-add_fixed-2.ensures
    ∙ ap (λ (t : Table TypeInfo). with_value t 4 (fixed_info 17 1)) (c.in_ok-add_fixed.ensures
    ∙ ap (λ (t : Table TypeInfo). with_value t 3 (fixed_info 9 1)) c.requires))) c.add_fixed-3.ensures
