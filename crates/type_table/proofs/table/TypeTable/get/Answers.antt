use Rattle.std.proofs.Common.{◌≡◌, ◌∙◌, ℕ, ◌<◌, length, get_or, Some, sym, ap, arith}
use Rattle.type_table.specs.declared.info.TypeInfo.{TypeInfo}
use Rattle.type_table.specs.Table.{Table, value_at}
use Rattle.type_table.specs.TypeTable.{IsTypeTable}
use Rattle.type_table.proofs.Place.{value_at-place}
use Rattle.type_table.proofs.table.TypeTable.get.Goals as goal

-- an entry of a table, by its place and its id
likely_entry : (table now : Table TypeInfo) (id at : ℕ) (entry : ℕ × TypeInfo) → IsTypeTable table → table ≡ now → at < length table
    → entry ≡ get_or table at entry → entry.0 ≡ id → Some entry.1 ≡ value_at now id
likely_entry table now id at entry sound same within is is_id =
    let found = value_at-place table id at entry sound.rises within (ap (λ (e : ℕ × TypeInfo). e.0) (sym is) ∙ is_id) in
    ap (λ (e : ℕ × TypeInfo). Some e.1) is ∙ sym found ∙ ap (λ (t : Table TypeInfo). value_at t id) same

-- the entry at the likely place has the id
pub returns-then-entry-id : goal.returns-then-entry-id
returns-then-entry-id c =
    let s = c.self.inside in
    likely_entry s.entries.items _ c.args.id c.saturating_sub-likely.result c.index-entry.result.now c.self.invariant c.self.view_is
    (omega (arith, c.if-likely-len.true, c.len.ensures, s.entries.ok.0)) c.index-entry.ensures c.if-entry-id.true
