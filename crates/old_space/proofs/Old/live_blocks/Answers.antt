use Rattle.size_pages.specs.Headers.{HoldsMore}
use Rattle.old_space.proofs.ListLaws.{pages-headed, larges-stand, small-headers, listed-both, more-same, more-listed, on-error}
use Rattle.old_space.proofs.Old.live_blocks.Goals as goal

pub live_blocks-requires : goal.live_blocks-requires
live_blocks-requires c = pages-headed _ _ c.requires

pub live_blocks-requires-2 : goal.live_blocks-requires-2
live_blocks-requires-2 c = larges-stand _ _ c.requires

pub returns-clause-listed : goal.returns-clause-listed
returns-clause-listed c = λ live waiting h.
    listed-both c.args.self.now c.args.space.now c.args.out.now.items c.live_blocks.new.out.items c.live_blocks-2.new.out.items live waiting
    c.in_ok-live_blocks.ensures.listed c.in_ok-live_blocks-2.ensures.found h

pub returns-in_err-live_blocks-2-clause-err : goal.returns-in_err-live_blocks-2-clause-err
returns-in_err-live_blocks-2-clause-err c =
    let s = c.requires in
    let one = c.in_ok-live_blocks.ensures.listed s.has.blocks.small s.has.blocks.waiting_pages (small-headers _ _ s.live s.waiting s.has) in
    on-error (HoldsMore c.args.out.now.items c.live_blocks-2.new.out.items) c.from_residual-in_err-live_blocks-2.result
    (more-same _ _ _ (more-listed _ _ _ one) c.in_err-live_blocks-2.ensures.err)
