use Rattle.std.proofs.Common.{◌≡◌, ℕ, List, sym, ap, ◌∙◌, subst, IsTrue}
use Rattle.heap_space.specs.Memory.{Memory}
use Rattle.object_model.specs.Sets.{is_in}
use Rattle.finalizer_order.specs.Finalizers.{places_of}
use Rattle.finalizer_order.specs.Passes.{HasPassed}
use Rattle.finalizer_order.proofs.Objects.{changed}
use Rattle.finalizer_order.proofs.RunSteps.{off1, can_first, can_second, second_unvisited, second_none_later, found-has, has_passed}
use Rattle.finalizer_order.proofs.passes.Passes.run.Goals as goal

pub first_pass-requires-clause-can : goal.first_pass-requires-clause-can
first_pass-requires-clause-can c = can_first c.requires

pub second_pass-requires-clause-can : goal.second_pass-requires-clause-can
second_pass-requires-clause-can c = can_second c.requires c.in_ok-first_pass.ensures

pub second_pass-requires-clause-unvisited : goal.second_pass-requires-clause-unvisited
second_pass-requires-clause-unvisited c = second_unvisited c.requires c.in_ok-first_pass.ensures

pub second_pass-requires-clause-none_later : goal.second_pass-requires-clause-none_later
second_pass-requires-clause-none_later c = second_none_later c.requires c.in_ok-first_pass.ensures

pub set_chosen-requires : goal.set_chosen-requires
set_chosen-requires c = λ p t. found-has c.requires c.in_ok-first_pass.ensures c.in_ok-second_pass.ensures p (subst (λ (xs : List ℕ). IsTrue (is_in p xs)) c.deref.ensures.value t)

pub returns : goal.returns
returns c =
    let is : c.set_chosen.new.space ≡ changed off1 c.second_pass.new.found.items c.second_pass.new.space =
    c.set_chosen.ensures ∙ ap (λ (xs : List ℕ). changed off1 xs c.second_pass.new.space) c.deref.ensures.value in
    subst (λ (m : Memory). HasPassed c.args.types.now c.args.nursery.now.words c.args.space.now m (places_of c.args.registered.now) c.first_pass.new.marked.items) (sym is)
    (has_passed c.requires c.in_ok-first_pass.ensures c.in_ok-second_pass.ensures)
