use Rattle.std.proofs.Common.{ℕ, List, ◌++◌, map, sym, ap, ◌∙◌, subst}
use Rattle.text_model.specs.declared.line.Line.TheVariants.{Cleared}
use Rattle.weak_lists.specs.Conditions.{CanClear}
use Rattle.weak_lists.specs.Cleared.{TellsInOrder, births_losing}
use Rattle.weak_lists.specs.Targets.{is_unvisited}
use Rattle.heap_parts.specs.Parts.{HeapParts, word_in}
use Rattle.heap_parts.specs.contracts.parts.Parts.{the_view}
use Rattle.heap_phases.specs.Ending.{ClearsWeaks}
use Rattle.heap_phases.proofs.ClearCalls.{can_clear}
use Rattle.heap_phases.proofs.ending.clear_targets.Goals as goal

pub after_marking-requires : goal.after_marking-requires
after_marking-requires c =
    subst (λ (h : HeapParts). (places : List ℕ) × CanClear h.setup.types h.nursery.words h.memory h.weaks places) (sym c.parts.view_is)
    (c.requires.stands.places, can_clear c.args.parts.now c.requires.store c.requires.stands)

pub returns : goal.returns
returns c =
    let heap : HeapParts = the_view c.parts.inside in
    let e = c.in_ok-after_marking.ensures in
    subst (λ (h : HeapParts). ClearsWeaks h (record heap { memory = c.after_marking.new.space; weaks = c.after_marking.new.self }) c.args.events.now.items c.tell_cleared.new.events.items) c.parts.view_is
    (record {
      cleared = c.after_marking.new.cleared.items;
      targets = e.targets;
      told = subst (λ (xs : List ℕ). TellsInOrder (births_losing heap.setup.types (word_in heap) (is_unvisited heap.nursery.words (word_in heap)) heap.weaks) xs c.after_marking.new.cleared.items) c.clear.ensures.items e.told;
      lines = c.in_ok-tell_cleared.ensures ∙ ap (λ (bs : List ℕ). c.args.events.now.items ++ map (λ b. Cleared b) bs) c.deref.ensures.value;
      rest = ap (λ (ws : List ℕ). record heap { memory = c.after_marking.new.space; weaks = ws }) e.left;
    })
