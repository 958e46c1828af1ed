use Rattle.std.proofs.Common.{◌≡◌, length, arith}
use Rattle.heap_space.specs.Places.{word_at}
use Rattle.weak_lists.specs.Targets.{is_unvisited}
use Rattle.weak_lists.specs.Cleared.{births_losing}
use Rattle.weak_lists.proofs.RisingLaws.{tells-in-order}
use Rattle.weak_lists.proofs.Weaks.after_marking.Goals as goal

pub returns-clause-front : goal.returns-clause-front
returns-clause-front c =
    let size : length c.args.cleared.now.items ≡ c.len-told.result = omega (arith, c.len-told.ensures) in
    let end = c.sort_from.ensures in
    let t = tells-in-order c.args.cleared.now.items c.clear_unvisited.new.cleared.items c.sort_from.new.numbers.items
    (births_losing c.args.types.now (word_at c.args.space.now.blocks) (is_unvisited c.args.nursery.now.words (word_at c.args.space.now.blocks)) c.deref.result.now)
    c.len-told.result size c.in_ok-clear_unvisited.ensures.told end.front end.same end.rising in
    (t.sorted, t.behind)
