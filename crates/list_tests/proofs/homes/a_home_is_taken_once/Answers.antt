use Rattle.std.specs.Ordering.{nat_cmp}
use Rattle.std.specs.FinMap.{get-empty}
use Rattle.list_tests.proofs.homes.a_home_is_taken_once.Goals as goal

pub keep_home-requires : goal.keep_home-requires
keep_home-requires g c = rw c.in_ok-shadows.ensures (get-empty nat_cmp 5)
