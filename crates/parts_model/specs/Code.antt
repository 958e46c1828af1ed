-- Codes of what other crates hold, by which proofs tell values apart.
use Rattle.std.specs.Coded.{Coded, coded_ℕ}
use Rattle.std.specs.FinMap as map_of
use Rattle.std.specs.Prelude.{ℕ}
use Rattle.std.specs.Ordering.{nat_cmp}
use Rattle.old_space.specs.contracts.Old as old_row
use Rattle.old_space.specs.declared.Old.{Old}

-- the old space has the code of its fields
abbrev pub old_code : Coded Old
old_code = old_row.the_row.coded

abbrev pub homes_code : Coded (map_of.FinMap nat_cmp ℕ)
homes_code = map_of.code coded_ℕ coded_ℕ
