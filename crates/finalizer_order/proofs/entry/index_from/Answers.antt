use Rattle.std.proofs.Common.{List, sym, ap, ◌∙◌}
use Rattle.std.specs.Prelude.{option_map, slice_get}
use Rattle.finalizer_order.specs.declared.entry.Entry.{Entry}
use Rattle.finalizer_order.proofs.Entries.{found-at, get-behind, found-front, none-front}
use Rattle.finalizer_order.proofs.entry.index_from.Goals as goal

pub returns-in-Some-clause-found : goal.returns-in-Some-clause-found
returns-in-Some-clause-found c =
    ap (option_map (λ (e : Entry). e.place)) (sym (get-behind c.args.entries.now c.min-middle.result c.in-Some.index)
    ∙ ap (λ (ys : List Entry). slice_get ys c.in-Some.index) (sym c.split_at.ensures.back))
    ∙ found-at c.split_at.result.1.now c.args.place c.in-Some.index c.in-Some.ensures

pub returns-in-None-clause-found : goal.returns-in-None-clause-found
returns-in-None-clause-found c = found-front c.args.entries.now c.min-middle.result c.args.place c.split_at.result.0.now c.index_of-in-None.result c.split_at.ensures.front c.index_of-in-None.ensures

pub returns-in-None-clause-none : goal.returns-in-None-clause-none
returns-in-None-clause-none c = none-front c.args.entries.now c.min-middle.result c.args.place c.split_at.result.0.now c.split_at.result.1.now c.index_of-in-None.result c.split_at.ensures.front c.split_at.ensures.back
    c.in-None.ensures c.index_of-in-None.ensures
