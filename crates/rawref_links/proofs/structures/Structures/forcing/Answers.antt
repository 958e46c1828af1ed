use Rattle.std.proofs.Common.{◌≡◌, ◌||◌, ◌&&◌, Some, is_some, ap, sym, ◌∙◌}
use Rattle.std.specs.Map.{keys_of}
use Rattle.std.specs.Map.Iter.{deref_pair}
use Rattle.std.specs.Cmp.{nat_eq_equiv}
use Rattle.std.proofs.lemmas.Map.Iter.{hash_map_turn, rest_more}
use Rattle.type_table.specs.Table.{value_at}
use Rattle.object_model.specs.Sets.{is_in}
use Rattle.rawref_links.specs.Structures.{slot_at, is_forcing}
use Rattle.rawref_links.proofs.Keyed.{forcing_listed, value_at-seen, told_more, told_no_more}
use Rattle.rawref_links.proofs.structures.Structures.forcing.Goals as goal

pub loop-number-init : goal.loop-number-init
loop-number-init c = λ n.
    rw (c.new-numbers.ensures.items, c.into_iter-number-iterator.ensures.into_iter_gives, c.iter-number-items.ensures.rest)
    (forcing_listed c.self.inside.slots.slots c.self.inside.keys.entries c.args.self.now c.self.view_is n)

pub index-requires : goal.index-requires
index-requires c =
    c.self.invariant.held c.in-Some.number.now c.in-Some.key.now
    (hash_map_turn deref_pair c.loop-number.yielded c.into_iter-number-iterator.result c.loop-number.number-iterator c.next.new.self c.next.result (c.in-Some.number, c.in-Some.key)
    c.loop-number.yielded_by c.in-Some.is c.next.ensures.steps nat_eq_equiv c.self.inside.keys
    (c.into_iter-number-iterator.ensures.into_iter_gives ∙ c.iter-number-items.ensures.rest) c.iter-number-items.ensures.unique).1

pub loop-number-preserved : goal.loop-number-preserved
loop-number-preserved c =
    let more = rest_more deref_pair c.loop-number.number-iterator c.next.new.self c.next.result (c.in-Some.number, c.in-Some.key) c.in-Some.is c.next.ensures.steps in
    let found : slot_at c.self.inside.slots.slots c.in-Some.key.now ≡ value_at c.args.self.now c.in-Some.number.now =
    value_at-seen c.self.inside.slots.slots c.self.inside.keys.entries c.args.self.now c.self.view_is c.in-Some.number.now (Some c.in-Some.key.now)
    (hash_map_turn deref_pair c.loop-number.yielded c.into_iter-number-iterator.result c.loop-number.number-iterator c.next.new.self c.next.result (c.in-Some.number, c.in-Some.key)
    c.loop-number.yielded_by c.in-Some.is c.next.ensures.steps nat_eq_equiv c.self.inside.keys
    (c.into_iter-number-iterator.ensures.into_iter_gives ∙ c.iter-number-items.ensures.rest) c.iter-number-items.ensures.unique).1
    in
    let forces : is_forcing (value_at c.args.self.now c.in-Some.number.now) ≡ is_some c.forced_object.result =
    ap is_forcing (sym found ∙ c.index.ensures) ∙ ap is_some (sym c.forced_object.ensures)
    in
    told_no_more c.loop-number.numbers.items (keys_of c.next.new.self) (λ n. is_forcing (value_at c.args.self.now n)) c.in-Some.number.now
    (λ n. ap (λ rest. is_in n c.loop-number.numbers.items || (is_forcing (value_at c.args.self.now n) && is_in n (keys_of rest))) (sym more) ∙ c.loop-number.invariant n)
    (forces ∙ sym c.if-is_some.ensures)

pub loop-number-preserved-in-Continue-1 : goal.loop-number-preserved-in-Continue-1
loop-number-preserved-in-Continue-1 c =
    let more = rest_more deref_pair c.loop-number.number-iterator c.next.new.self c.next.result (c.in-Some.number, c.in-Some.key) c.in-Some.is c.next.ensures.steps in
    let found : slot_at c.self.inside.slots.slots c.in-Some.key.now ≡ value_at c.args.self.now c.in-Some.number.now =
    value_at-seen c.self.inside.slots.slots c.self.inside.keys.entries c.args.self.now c.self.view_is c.in-Some.number.now (Some c.in-Some.key.now)
    (hash_map_turn deref_pair c.loop-number.yielded c.into_iter-number-iterator.result c.loop-number.number-iterator c.next.new.self c.next.result (c.in-Some.number, c.in-Some.key)
    c.loop-number.yielded_by c.in-Some.is c.next.ensures.steps nat_eq_equiv c.self.inside.keys
    (c.into_iter-number-iterator.ensures.into_iter_gives ∙ c.iter-number-items.ensures.rest) c.iter-number-items.ensures.unique).1
    in
    let forces : is_forcing (value_at c.args.self.now c.in-Some.number.now) ≡ is_some c.forced_object.result =
    ap is_forcing (sym found ∙ c.index.ensures) ∙ ap is_some (sym c.forced_object.ensures)
    in
    λ n. ap (λ ns. is_in n ns || (is_forcing (value_at c.args.self.now n) && is_in n (keys_of c.next.new.self))) c.in_ok-push.ensures.items
    ∙ told_more c.loop-number.numbers.items (keys_of c.next.new.self) (λ m. is_forcing (value_at c.args.self.now m)) c.in-Some.number.now
    (λ m. ap (λ rest. is_in m c.loop-number.numbers.items || (is_forcing (value_at c.args.self.now m) && is_in m (keys_of rest))) (sym more) ∙ c.loop-number.invariant m)
    (forces ∙ sym c.is_some.ensures ∙ c.if-is_some.true) n
