use Rattle.std.proofs.Common.{◌*◌, ◌^◌}
use Rattle.std.proofs.Math.Nat.{mod-add-mod}
use Rattle.text_model.specs.Generated.{next_drawn}
use Rattle.script_gen.proofs.commands.draw_number.Goals as goal

pub returns : goal.returns
unfolding next_drawn
returns c = mod-add-mod (c.args.x * 6364136223846793005) (2 ^ 64) 1442695040888963407
