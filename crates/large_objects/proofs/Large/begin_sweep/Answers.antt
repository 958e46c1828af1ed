use Rattle.std.proofs.Common.{refl}
use Rattle.large_objects.proofs.CallLaws.{begun}
use Rattle.large_objects.specs.Blocks.{places_of, larges_of}
use Rattle.large_objects.proofs.Large.begin_sweep.Goals as goal

pub returns-clause-begun : goal.returns-clause-begun
returns-clause-begun c = λ live h. begun _ _ _ live _ refl refl refl c.len.ensures.len h

pub returns-clause-stands : goal.returns-clause-stands
returns-clause-stands c =
    let s = c.requires in record {
      live = s.live;
      waiting = places_of (larges_of c.args.space.now);
      blocks = begun _ _ _ s.live _ refl refl refl c.len.ensures.len s.blocks;
    }
