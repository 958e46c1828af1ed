use Rattle.std.proofs.Common.{◌≡◌, ℕ, ◌<◌, ◌^◌, List, ◌++◌, map, sym, ap, ap₂, ◌∙◌, subst}
use Rattle.std.specs.Prelude.{IsSorted, sum_by}
use Rattle.std.specs.Ordering.{nat_cmp}
use Rattle.std.specs.List.Sorted.{IsNonDecreasing}
use Rattle.heap_space.specs.Extents.{Extent}
use Rattle.text_model.specs.declared.line.Line.TheVariants.{Destroyed}
use Rattle.heap_parts.specs.Parts.{HeapParts}
use Rattle.heap_parts.specs.contracts.parts.Parts.{the_view}
use Rattle.heap_phases.specs.Ending.{AreDestroyed, BecomesHusks, HoldObjects, places_in, without_places, cut_lines}
use Rattle.heap_phases.proofs.HuskTable.{places_rise, places_sorted}
use Rattle.heap_phases.proofs.ChosenLaws.{may_choose, chosen_shown}
use Rattle.heap_phases.proofs.EndCan.{may_list, is_listed, listed_objects, listed_rise, listed_few, dropped_objects, dropped_waits, becomes_counted, becomes_major}
use Rattle.heap_phases.proofs.Phases.end_marking.Goals as goal

pub choose-requires : goal.choose-requires
choose-requires c =
    may_choose c.args.parts.now c.clear_targets.new.parts c.args.events.now.items c.clear_targets.new.events.items c.requires c.in_ok-clear_targets.ensures

pub list_dead-requires : goal.list_dead-requires
list_dead-requires c =
    let one : HeapParts = the_view c.parts.inside in
    let ch = chosen_shown c.args.parts.now c.clear_targets.new.parts one c.choose.new.parts c.args.events.now.items c.clear_targets.new.events.items c.choose.new.events.items c.requires c.in_ok-clear_targets.ensures c.parts.view_is c.in_ok-choose.ensures in
    may_list c.args.parts.now one ch.kept c.requires ch.chosen

pub list_destroyed-requires : goal.list_destroyed-requires
list_destroyed-requires c =
    let one : HeapParts = the_view c.parts.inside in
    let dead : List Extent = c.list_dead.new.dead.items in
    let ch = chosen_shown c.args.parts.now c.clear_targets.new.parts one c.choose.new.parts c.args.events.now.items c.clear_targets.new.events.items c.choose.new.events.items c.requires c.in_ok-clear_targets.ensures c.parts.view_is c.in_ok-choose.ensures in
    let l = is_listed c.args.parts.now one ch.kept dead c.requires ch.chosen c.in_ok-list_dead.ensures in
    subst (λ (xs : List Extent). HoldObjects one.memory one.setup.types xs) (sym c.deref.ensures.value) (listed_objects c.args.parts.now one ch.kept dead l)

pub drop_dead-requires-clause-sorted : goal.drop_dead-requires-clause-sorted
drop_dead-requires-clause-sorted c =
    let one : HeapParts = the_view c.parts.inside in
    let dead : List Extent = c.list_dead.new.dead.items in
    let ch = chosen_shown c.args.parts.now c.clear_targets.new.parts one c.choose.new.parts c.args.events.now.items c.clear_targets.new.events.items c.choose.new.events.items c.requires c.in_ok-clear_targets.ensures c.parts.view_is c.in_ok-choose.ensures in
    let l = is_listed c.args.parts.now one ch.kept dead c.requires ch.chosen c.in_ok-list_dead.ensures in
    let same : c.deref-4.result.now ≡ places_in dead = c.deref-4.ensures.value ∙ (c.in_ok-list_places.ensures ∙ ap places_in c.deref-3.ensures.value) in
    subst (λ (xs : List ℕ). IsSorted nat_cmp xs) (sym same) (places_sorted dead (listed_rise c.args.parts.now one ch.kept dead l))

pub drop_dead-requires-clause-rising : goal.drop_dead-requires-clause-rising
drop_dead-requires-clause-rising c =
    let one : HeapParts = the_view c.parts.inside in
    let dead : List Extent = c.list_dead.new.dead.items in
    let ch = chosen_shown c.args.parts.now c.clear_targets.new.parts one c.choose.new.parts c.args.events.now.items c.clear_targets.new.events.items c.choose.new.events.items c.requires c.in_ok-clear_targets.ensures c.parts.view_is c.in_ok-choose.ensures in
    let l = is_listed c.args.parts.now one ch.kept dead c.requires ch.chosen c.in_ok-list_dead.ensures in
    let same : c.deref-4.result.now ≡ places_in dead = c.deref-4.ensures.value ∙ (c.in_ok-list_places.ensures ∙ ap places_in c.deref-3.ensures.value) in
    subst (λ (xs : List ℕ). IsNonDecreasing xs) (sym same) (places_rise dead (listed_rise c.args.parts.now one ch.kept dead l))

pub become_husks-requires-clause-objects : goal.become_husks-requires-clause-objects
become_husks-requires-clause-objects c =
    let one : HeapParts = the_view c.parts.inside in
    let dead : List Extent = c.list_dead.new.dead.items in
    let ch = chosen_shown c.args.parts.now c.clear_targets.new.parts one c.choose.new.parts c.args.events.now.items c.clear_targets.new.events.items c.choose.new.events.items c.requires c.in_ok-clear_targets.ensures c.parts.view_is c.in_ok-choose.ensures in
    let l = is_listed c.args.parts.now one ch.kept dead c.requires ch.chosen c.in_ok-list_dead.ensures in
    let same : c.deref-4.result.now ≡ places_in dead = c.deref-4.ensures.value ∙ (c.in_ok-list_places.ensures ∙ ap places_in c.deref-3.ensures.value) in
    let dropped : c.drop_dead.new.parts ≡ without_places one (places_in dead) = c.in_ok-drop_dead.ensures.dropped ∙ ap₂ (λ (h : HeapParts) (xs : List ℕ). without_places h xs) (sym c.parts.view_is) same in
    subst (λ (xs : List Extent). HoldObjects c.drop_dead.new.parts.memory c.drop_dead.new.parts.setup.types xs) (sym c.deref-5.ensures.value)
    (dropped_objects c.args.parts.now one ch.kept dead l c.drop_dead.new.parts dropped)

pub become_husks-requires-clause-none : goal.become_husks-requires-clause-none
become_husks-requires-clause-none c =
    let one : HeapParts = the_view c.parts.inside in
    let dead : List Extent = c.list_dead.new.dead.items in
    let ch = chosen_shown c.args.parts.now c.clear_targets.new.parts one c.choose.new.parts c.args.events.now.items c.clear_targets.new.events.items c.choose.new.events.items c.requires c.in_ok-clear_targets.ensures c.parts.view_is c.in_ok-choose.ensures in
    let l = is_listed c.args.parts.now one ch.kept dead c.requires ch.chosen c.in_ok-list_dead.ensures in
    let same : c.deref-4.result.now ≡ places_in dead = c.deref-4.ensures.value ∙ (c.in_ok-list_places.ensures ∙ ap places_in c.deref-3.ensures.value) in
    let dropped : c.drop_dead.new.parts ≡ without_places one (places_in dead) = c.in_ok-drop_dead.ensures.dropped ∙ ap₂ (λ (h : HeapParts) (xs : List ℕ). without_places h xs) (sym c.parts.view_is) same in
    dropped_waits c.args.parts.now one ch.kept dead l c.drop_dead.new.parts dropped

pub words_of-requires : goal.words_of-requires
words_of-requires c =
    let one : HeapParts = the_view c.parts.inside in
    let dead : List Extent = c.list_dead.new.dead.items in
    let ch = chosen_shown c.args.parts.now c.clear_targets.new.parts one c.choose.new.parts c.args.events.now.items c.clear_targets.new.events.items c.choose.new.events.items c.requires c.in_ok-clear_targets.ensures c.parts.view_is c.in_ok-choose.ensures in
    let l = is_listed c.args.parts.now one ch.kept dead c.requires ch.chosen c.in_ok-list_dead.ensures in
    subst (λ (xs : List Extent). sum_by (λ (x : Extent). x.1) xs < 2 ^ 64) (sym c.deref-6.ensures.value) (listed_few c.args.parts.now one ch.kept dead l)

pub returns-clause-counts : goal.returns-clause-counts
returns-clause-counts c =
    let one : HeapParts = the_view c.parts.inside in
    let dead : List Extent = c.list_dead.new.dead.items in
    let ch = chosen_shown c.args.parts.now c.clear_targets.new.parts one c.choose.new.parts c.args.events.now.items c.clear_targets.new.events.items c.choose.new.events.items c.requires c.in_ok-clear_targets.ensures c.parts.view_is c.in_ok-choose.ensures in
    let l = is_listed c.args.parts.now one ch.kept dead c.requires ch.chosen c.in_ok-list_dead.ensures in
    let same : c.deref-4.result.now ≡ places_in dead = c.deref-4.ensures.value ∙ (c.in_ok-list_places.ensures ∙ ap places_in c.deref-3.ensures.value) in
    let dropped : c.drop_dead.new.parts ≡ without_places one (places_in dead) = c.in_ok-drop_dead.ensures.dropped ∙ ap₂ (λ (h : HeapParts) (xs : List ℕ). without_places h xs) (sym c.parts.view_is) same in
    let becomes : BecomesHusks c.drop_dead.new.parts c.become_husks.new.parts dead = subst (λ (xs : List Extent). BecomesHusks c.drop_dead.new.parts c.become_husks.new.parts xs) c.deref-5.ensures.value c.in_ok-become_husks.ensures in
    becomes_counted c.args.parts.now one ch.kept dead l c.drop_dead.new.parts dropped c.become_husks.new.parts becomes c.words_of.result
    (c.words_of.ensures ∙ ap (sum_by (λ (x : Extent). x.1)) c.deref-6.ensures.value)

pub returns-clause-ends : goal.returns-clause-ends
returns-clause-ends c =
    let one : HeapParts = the_view c.parts.inside in
    let dead : List Extent = c.list_dead.new.dead.items in
    let ch = chosen_shown c.args.parts.now c.clear_targets.new.parts one c.choose.new.parts c.args.events.now.items c.clear_targets.new.events.items c.choose.new.events.items c.requires c.in_ok-clear_targets.ensures c.parts.view_is c.in_ok-choose.ensures in
    let l = is_listed c.args.parts.now one ch.kept dead c.requires ch.chosen c.in_ok-list_dead.ensures in
    let same : c.deref-4.result.now ≡ places_in dead = c.deref-4.ensures.value ∙ (c.in_ok-list_places.ensures ∙ ap places_in c.deref-3.ensures.value) in
    let dropped : c.drop_dead.new.parts ≡ without_places one (places_in dead) = c.in_ok-drop_dead.ensures.dropped ∙ ap₂ (λ (h : HeapParts) (xs : List ℕ). without_places h xs) (sym c.parts.view_is) same in
    let becomes : BecomesHusks c.drop_dead.new.parts c.become_husks.new.parts dead = subst (λ (xs : List Extent). BecomesHusks c.drop_dead.new.parts c.become_husks.new.parts xs) c.deref-5.ensures.value c.in_ok-become_husks.ensures in
    becomes_major c.args.parts.now one ch.kept dead l c.drop_dead.new.parts dropped c.become_husks.new.parts becomes c.clear_targets.new.parts
    c.args.events.now.items c.clear_targets.new.events.items c.choose.new.events.items c.tell_destroyed.new.events.items c.drop_dead.new.events.items c.list_destroyed.new.births.items
    c.in_ok-clear_targets.ensures ch.told
    (subst (λ (xs : List Extent). AreDestroyed one.setup.types one.memory xs c.list_destroyed.new.births.items) c.deref.ensures.value c.in_ok-list_destroyed.ensures)
    (c.in_ok-tell_destroyed.ensures ∙ ap (λ (bs : List ℕ). c.choose.new.events.items ++ map (λ b. Destroyed b) bs) c.deref-2.ensures.value)
    (c.in_ok-drop_dead.ensures.lines ∙ ap₂ (λ (h : HeapParts) (xs : List ℕ). c.tell_destroyed.new.events.items ++ cut_lines h xs) (sym c.parts.view_is) same)
