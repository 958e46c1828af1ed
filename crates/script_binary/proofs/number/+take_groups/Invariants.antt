use Rattle.script_binary.proofs.number.+take_groups.Given as goal

abbrev pub decreases-take_groups : goal.decreases-take_groups
decreases-take_groups g l = l.more
