use Rattle.text_model.specs.Generated.{generated_items}
use Rattle.text_model.specs.declared.line.Line.TheVariants.{UsedIs}
use Rattle.replay_bench.proofs.Ending.{can_tell, proper_used, used_told, summarizes}
use Rattle.replay_bench.proofs.top.summary_of.Goals as goal

pub used-requires : goal.used-requires
used-requires c = can_tell c.args.start c.args.count c.in_ok-tally.tally c.do_items.new.session c.do_items.new.heap c.in_ok-tally.ensures

pub print_summary-requires : goal.print_summary-requires
print_summary-requires c = proper_used _ _

pub returns : goal.returns
returns c =
    summarizes (generated_items c.args.start c.args.count) c.in_ok-tally.tally c.do_items.new.session c.do_items.new.heap
    (UsedIs c.in-Ok.kept c.in-Ok.husks) c.new-text.result.items c.print_summary.new.text.items
    c.in_ok-tally.ensures (used_told c.do_items.new.heap c.in-Ok.kept c.in-Ok.husks _ _ c.in-Ok.kept-is c.in-Ok.husks-is c.in-Ok.ensures.performs) c.new-text.ensures.items
    c.in_ok-print_summary.ensures
