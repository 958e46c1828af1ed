use Rattle.std.proofs.Common.{◌≡◌}
use Rattle.finalizer_order.specs.Finalizers.{no_finalizers, placed, placed_queues}
use Rattle.parts_model.specs.NamedFinals.{births_told}
use Rattle.parts_model.specs.Parts.{started_parts}
use Rattle.heap_parts.proofs.parts.Parts.new.Goals as goal

pub returns : goal.returns
returns c =
    let settings = c.args.settings.now in
    let old_blocks = c.in_ok-made.made.words.2 in
    let made = c.in_ok-made.ensures in
    let finals : c.in_ok-made.made.lists.2 ≡ no_finalizers settings.queues = made.finals in
    record {
      old_blocks = old_blocks;
      are = λ i. record (started_parts settings c.args.types old_blocks) {
        memory = made.space i;
        nursery = made.nursery i;
        remembered = made.remember i;
        shadows = made.shadows i;
        weaks = made.weaks i;
        registered = placed (finals i).registered;
        chosen = placed (finals i).chosen;
        queues = placed_queues (finals i).queues;
        finals = births_told (finals i);
        links = made.links i;
        gray = made.gray i;
        slots = made.slots i;
        pins = made.pins i;
        husk_list = c.new.ensures.empty i;
      };
      empty = made.empty;
      small = made.small;
      page = made.page;
    }
