-- A script that is done up to some item, and how it goes on.
use Rattle.std.proofs.Common.{◌≡◌, ℕ, List, [], ◌∷◌, ◌++◌, length, Some, refl, sym, ap, ◌∙◌, subst, append_assoc, append-nil}
use Rattle.text_model.specs.declared.item.Item.{Item}
use Rattle.text_model.specs.declared.line.Line.{Line}
use Rattle.object_model.specs.Setup.{defaults}
use Rattle.store_model.specs.Progress.{Progress, at_start}
use Rattle.store_model.specs.Transcript.{group_lines}
use Rattle.heap_core.specs.Heap.{HeapSeen, closed_heap}
use Rattle.session_core.specs.Seen.{SessionSeen}
use Rattle.session_core.specs.Standing.{StandsAt, DoesItem}
use Rattle.session_core.proofs.Places.{stands_first}
use Rattle.bench_laws.proofs.Scripts.{IsDone, AreAllDone}
use Rattle.replay_bench.specs.declared.tally.Tally.{Tally}
use Rattle.replay_bench.specs.Items.{CanDoItem, CountsItem, CountsItems}
use Rattle.replay_bench.specs.Summary.{tally_of, tally_plus, commands_of}
use Rattle.replay_bench.proofs.Counting.{tally_behind, groups_of_item}
use Rattle.replay_bench.proofs.RunLaws.{runs_more}

-- Some of the items are done and counted, and those ahead are left.
pub record IsDoneTo (items ahead : List Item) (tally : Tally) (session : SessionSeen) (heap : HeapSeen) : Type 0 where
  pub done : List Item
  pub items_are : items ≡ done ++ ahead
  pub counts : CountsItems done tally session heap
  pub all_done : AreAllDone items

-- none is done
pub done_first : (items ahead : List Item) (tally : Tally) (session : SessionSeen) (heap : HeapSeen) → ahead ≡ items → tally ≡ tally_of []
    → session ≡ record { settings = defaults; names = []; types = Some [] } → heap ≡ closed_heap → AreAllDone items → IsDoneTo items ahead tally session heap
done_first items ahead tally session heap same none first closed all_done = record {
  done = [];
  items_are = sym same;
  counts = record {
    groups = [];
    at = at_start;
    runs = (refl, refl);
    counted = none;
    stands = subst (λ (h : HeapSeen). StandsAt session h at_start) (sym closed) (stands_first session first);
  };
  all_done = all_done;
}

-- one more is done
pub done_more : (items ahead rest : List Item) (item : Item) (tally new : Tally) (session session_after : SessionSeen) (heap heap_after : HeapSeen)
    → (so : IsDoneTo items ahead tally session heap) → ahead ≡ item ∷ rest
    → CountsItem so.counts.at item tally new session_after heap_after → IsDoneTo items rest new session_after heap_after
done_more items ahead rest item tally new session session_after heap heap_after so is more = record {
  done = so.done ++ item ∷ [];
  items_are = so.items_are ∙ (ap (λ (l : List Item). so.done ++ l) is ∙ sym (append_assoc so.done (item ∷ []) rest));
  counts = record {
    groups = so.counts.groups ++ more.groups;
    at = more.after;
    runs = runs_more at_start so.counts.at more.after so.done item so.counts.groups more.groups so.counts.runs more.accepted more.does;
    counted = more.counted ∙ (ap (λ (t : Tally). tally_plus t (length more.groups) (group_lines more.groups)) so.counts.counted
        ∙ sym (tally_behind so.counts.groups more.groups));
    stands = more.stands;
  };
  all_done = so.all_done;
}

-- all are done
pub done_all : (items ahead : List Item) (tally : Tally) (session : SessionSeen) (heap : HeapSeen)
    → IsDoneTo items ahead tally session heap → ahead ≡ [] → CountsItems items tally session heap
done_all items ahead tally session heap so none =
    subst (λ (l : List Item). CountsItems l tally session heap)
    (sym (so.items_are ∙ (ap (λ (l : List Item). so.done ++ l) none ∙ append-nil so.done))) so.counts

-- the next one can be done
pub next_can : (items ahead rest : List Item) (item : Item) (tally : Tally) (session : SessionSeen) (heap : HeapSeen)
    → IsDoneTo items ahead tally session heap → ahead ≡ item ∷ rest → CanDoItem session heap item
next_can items ahead rest item tally session heap so is =
    let all = so.items_are ∙ ap (λ (l : List Item). so.done ++ l) is in
    let one : IsDone so.counts.at item = so.all_done.each so.done item rest so.counts.groups so.counts.at all so.counts.runs in
    record { at = so.counts.at; stands = so.counts.stands; accepted = one.accepted; within = one.within }

lines_are : (item : Item) (tally new : Tally) (session : SessionSeen) (heap : HeapSeen) (at : Progress) (before lines : List Line) → before ≡ []
    → (does : DoesItem session heap at item before lines) → new ≡ tally_plus tally (commands_of item) lines
    → new ≡ tally_plus tally (length does.groups) (group_lines does.groups)
lines_are item tally new session heap at before lines none does is =
    is ∙ (ap (λ (l : List Line). tally_plus tally (commands_of item) l) (does.lines ∙ ap (λ (l : List Line). l ++ group_lines does.groups) none)
    ∙ ap (λ n. tally_plus tally n (group_lines does.groups)) (sym (groups_of_item at does.next item does.groups does.does)))

-- an item that a session did, with its lines counted
pub counts_item : (item : Item) (tally new : Tally) (session : SessionSeen) (heap : HeapSeen) (at : Progress) (before lines : List Line) → before ≡ []
    → DoesItem session heap at item before lines → new ≡ tally_plus tally (commands_of item) lines → CountsItem at item tally new session heap
counts_item item tally new session heap at before lines none does is = record {
  groups = does.groups;
  after = does.next;
  accepted = does.accepted;
  does = does.does;
  counted = lines_are item tally new session heap at before lines none does is;
  stands = does.stands;
}
