use Rattle.std.proofs.Common.{◌≡◌, ◌+◌, ◌-◌, ◌≤◌, ◌++◌, option_to_list, length, vec_len, vec_capacity, ap, sym, ◌∙◌, arith, take, filter_map, append-nil}
use Rattle.rawref_links.specs.Structures.{forced_at}
use Rattle.rawref_links.proofs.CutSteps.{filter_map-more, appended}
use Rattle.rawref_links.proofs.structures.Structures.append_forced.Goals as goal
use Rattle.rawref_links.proofs.structures.Structures.append_forced.Goals.{in-Some, in_default}

-- the object that is appended, if there is one
grown : (c : goal.Joined-forced) → c.match-forced.places.items ≡ c.loop-number.places.items ++ option_to_list c.forced.result
grown c = elim c.match-forced.branch [
  | in-Some w ↦ ap (λ v. v.items) w.places-is ∙ w.push_reserved.ensures.items ∙ ap (λ o. c.loop-number.places.items ++ option_to_list o) (sym w.in-Some.is)
  | in_default w ↦ ap (λ v. v.items) w.places-is ∙ sym (append-nil c.loop-number.places.items) ∙ ap (λ o. c.loop-number.places.items ++ option_to_list o) (sym w.in_default.is)
]

room_left : (c : goal.Joined-forced) → vec_len c.match-forced.places + (length c.args.numbers.now - (c.loop-number.number-index + 1)) ≤ vec_capacity c.match-forced.places
room_left c = elim c.match-forced.branch [
  | in-Some w ↦ rw w.places-is (omega (arith, w.push_reserved.ensures.len, w.push_reserved.ensures.capacity))
  | in_default w ↦ rw w.places-is (omega arith)
]

pub loop-number-preserved : goal.loop-number-preserved
loop-number-preserved c = record {
  items = appended c.args.places.now.items c.loop-number.places.items c.match-forced.places.items
      (filter_map (forced_at c.args.self.now) (take c.loop-number.number-index c.args.numbers.now)) (option_to_list c.forced.result) _
      (grown c) c.loop-number.invariant.items
      (filter_map-more (forced_at c.args.self.now) c.args.numbers.now c.loop-number.number-index 0 c.loop-number-test.true
      ∙ ap (λ o. filter_map (forced_at c.args.self.now) (take c.loop-number.number-index c.args.numbers.now) ++ option_to_list o) (sym c.forced.ensures));
  room = room_left c;
}
