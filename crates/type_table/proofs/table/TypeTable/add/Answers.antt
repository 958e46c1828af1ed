use Rattle.std.proofs.Common.{refl, arith}
use Rattle.type_table.proofs.TypeTableLaws.{IsTypeTable-with_value}
use Rattle.type_table.proofs.table.TypeTable.add.Goals as goal

-- the id has an entry
pub returns-in-Ok-clause-twice : goal.returns-in-Ok-clause-twice
returns-in-Ok-clause-twice c =
    let there = rw (c.deref.ensures.value, c.self.view_is) at (c.in-Ok.ensures.found.1 (c.args.id, c.args.info)) in
    (λ _. rw there refl, λ _. refl)

pub returns-in-Ok-clause-too_many : goal.returns-in-Ok-clause-too_many
returns-in-Ok-clause-too_many c =
    let there = rw (c.deref.ensures.value, c.self.view_is) at (c.in-Ok.ensures.found.1 (c.args.id, c.args.info)) in
    grind (arith, there)

-- the new entry stands in its gap
pub invariant_of-self-2 : goal.invariant_of-self-2
invariant_of-self-2 c =
    let absent = rw c.deref.ensures.value at c.in-Err.ensures.absent.1 in
    let gap = rw c.deref.ensures.value at (c.in-Err.ensures.gap c.args.info) in
    rw (c.in_ok-insert.ensures.items, gap) (IsTypeTable-with_value c.self.inside.entries.items c.args.id c.args.info c.self.invariant (omega arith) absent (omega (arith, rw c.deref.ensures.value at c.deref.ensures.len)))
