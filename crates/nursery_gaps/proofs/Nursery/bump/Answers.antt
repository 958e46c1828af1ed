use Rattle.std.proofs.Common.{◌+◌, refl, subst, arith}
use Rattle.nursery_gaps.specs.Nursery.{Fits, FitsLowest, IsLaidOut}
use Rattle.nursery_gaps.proofs.KeptLaws.{stands-of, above-is, finds-of, Finds-lowest, Finds-fits, finds-none, stays-hands, stays-kept, stays-fits, Leaves-hands_out, Leaves-kept}
use Rattle.nursery_gaps.proofs.Nursery.bump.Goals as goal

pub returns-in_err-found-clause-none : goal.returns-in_err-found-clause-none
returns-in_err-found-clause-none c =
    rw c.from_residual.ensures
    (λ place. subst (λ layout. ¬ Fits layout c.args.n place) c.self.view_is
    (finds-none c.args.n _ c.self.inside c.requires c.self.invariant
    (above-is c.self.inside c.deref.result.now c.deref.ensures.value) c.in_err-found.ensures.none place))

pub returns-in_err-found-clause-stands : goal.returns-in_err-found-clause-stands
returns-in_err-found-clause-stands c = subst IsLaidOut c.self.view_is (stands-of c.self.inside c.self.invariant)

pub overflow_add-self : goal.overflow_add-self
overflow_add-self c =
    omega (
      arith,
      stays-fits c.args.n _ _ _ c.self.inside c.if-found-eq0.true
          (finds-of c.args.n _ _ c.self.inside c.deref.result.now c.self.invariant c.deref.ensures.value
          c.in_ok-found.ensures.found),
    )

pub returns-then-found-eq0-clause-lowest : goal.returns-then-found-eq0-clause-lowest
returns-then-found-eq0-clause-lowest c =
    subst (λ layout. FitsLowest layout c.args.n c.in_ok-found.found.place) c.self.view_is
    (Finds-lowest c.args.n _ _ _ c.self.inside c.requires
    (finds-of c.args.n _ _ c.self.inside c.deref.result.now c.self.invariant c.deref.ensures.value
    c.in_ok-found.ensures.found))

pub returns-then-found-eq0-clause-handed : goal.returns-then-found-eq0-clause-handed
returns-then-found-eq0-clause-handed c =
    rw (← c.self.view_is)
    (stays-hands c.args.n _ _ _ c.self.inside c.if-found-eq0.true
    (finds-of c.args.n _ _ c.self.inside c.deref.result.now c.self.invariant c.deref.ensures.value
    c.in_ok-found.ensures.found))

pub returns-then-found-eq0-clause-stands : goal.returns-then-found-eq0-clause-stands
returns-then-found-eq0-clause-stands c =
    stands-of _
    (stays-kept c.args.n _ _ _ c.self.inside c.if-found-eq0.true
    (finds-of c.args.n _ _ c.self.inside c.deref.result.now c.self.invariant c.deref.ensures.value
    c.in_ok-found.ensures.found))

pub overflow_add-self-3 : goal.overflow_add-self-3
overflow_add-self-3 c =
    omega (
      arith,
      Finds-fits c.args.n _ _ _ c.self.inside
          (finds-of c.args.n _ _ c.self.inside c.deref.result.now c.self.invariant c.deref.ensures.value
          c.in_ok-found.ensures.found),
    )

pub invariant_of-self-2 : goal.invariant_of-self-2
invariant_of-self-2 c =
    Leaves-kept c.args.n _ _ _ c.self.inside _
    (record {
      finds = finds-of c.args.n _ _ c.self.inside c.deref.result.now c.self.invariant c.deref.ensures.value
          c.in_ok-found.ensures.found;
      some = omega arith;
      fields = refl;
      below = c.pass.ensures.items;
      counted = c.pass.ensures.len;
      room = c.pass.ensures.room;
    })

pub returns-clause-lowest : goal.returns-clause-lowest
returns-clause-lowest c =
    subst (λ layout. FitsLowest layout c.args.n c.in_ok-found.found.place) c.self.view_is
    (Finds-lowest c.args.n _ _ _ c.self.inside c.requires
    (finds-of c.args.n _ _ c.self.inside c.deref.result.now c.self.invariant c.deref.ensures.value
    c.in_ok-found.ensures.found))

pub returns-clause-handed : goal.returns-clause-handed
returns-clause-handed c =
    rw (← c.self.view_is)
    (Leaves-hands_out c.args.n _ _ _ c.self.inside
    (record c.self.inside {
      below = c.pass.new.list;
      passed = c.self.inside.passed + c.in_ok-found.found.passed;
      gap = c.in_ok-found.found.place;
      cursor = c.in_ok-found.found.place + c.args.n;
    })
    (record {
      finds = finds-of c.args.n _ _ c.self.inside c.deref.result.now c.self.invariant c.deref.ensures.value
          c.in_ok-found.ensures.found;
      some = omega arith;
      fields = refl;
      below = c.pass.ensures.items;
      counted = c.pass.ensures.len;
      room = c.pass.ensures.room;
    }))

pub returns-clause-stands : goal.returns-clause-stands
returns-clause-stands c =
    stands-of _
    (Leaves-kept c.args.n _ _ _ c.self.inside
    (record c.self.inside {
      below = c.pass.new.list;
      passed = c.self.inside.passed + c.in_ok-found.found.passed;
      gap = c.in_ok-found.found.place;
      cursor = c.in_ok-found.found.place + c.args.n;
    })
    (record {
      finds = finds-of c.args.n _ _ c.self.inside c.deref.result.now c.self.invariant c.deref.ensures.value
          c.in_ok-found.ensures.found;
      some = omega arith;
      fields = refl;
      below = c.pass.ensures.items;
      counted = c.pass.ensures.len;
      room = c.pass.ensures.room;
    }))
