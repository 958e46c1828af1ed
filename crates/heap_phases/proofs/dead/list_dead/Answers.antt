use Rattle.std.proofs.Common.{◌≡◌, List, ◌++◌, sym, ap₂, ◌∙◌, subst}
use Rattle.std.specs.Prelude.{filter}
use Rattle.heap_space.specs.Extents.{Extent}
use Rattle.size_pages.specs.Headers.{AppendsLive}
use Rattle.heap_phases.specs.Ending.{AreReadable, is_dead_in}
use Rattle.heap_phases.proofs.DeadCalls.{on_ok, live_readable, dead_listed}
use Rattle.heap_phases.proofs.dead.list_dead.Goals as goal

pub keep_dead-requires : goal.keep_dead-requires
keep_dead-requires c =
    let r = c.requires in
    subst (λ (xs : List Extent). AreReadable c.args.space.now xs) (sym c.deref.ensures.value)
    (live_readable c.args.old_blocks.now c.args.space.now r.live c.live_blocks.new.out.items r.waiting r.has.blocks
    (subst (λ (xs : List Extent). AppendsLive xs c.live_blocks.new.out.items r.live) c.clear.ensures.items (c.in_ok-live_blocks.ensures.listed r.live r.waiting r.has)))

pub returns : goal.returns
returns c = λ blocks waiting has.
    let listing = subst (λ (xs : List Extent). AppendsLive xs c.live_blocks.new.out.items blocks) c.clear.ensures.items (c.in_ok-live_blocks.ensures.listed blocks waiting has) in
    on_ok c.keep_dead.result (λ (e : c.keep_dead.new.dead.items ≡ c.clear-2.new.self.items ++ filter (is_dead_in c.args.space.now) c.deref.result.now).
    dead_listed c.args.space.now blocks c.live_blocks.new.out.items c.keep_dead.new.dead.items listing
    (e ∙ ap₂ (λ (xs ys : List Extent). xs ++ filter (is_dead_in c.args.space.now) ys) c.clear-2.ensures.items c.deref.ensures.value)) c.keep_dead.ensures
