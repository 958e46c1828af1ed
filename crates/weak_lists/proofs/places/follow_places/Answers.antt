use Rattle.std.proofs.Common.{◌≡◌, ◌<◌, ◌++◌, ℕ, List, map, length, take, drop, get_or, set, sym, ap, ◌∙◌, subst, arith}
use Rattle.std.proofs.lemmas.List.{get_or_default}
use Rattle.std.proofs.lemmas.List.Edits.{map_over_more}
use Rattle.heap_space.specs.Places.{word_at}
use Rattle.weak_lists.specs.Targets.{left_at}
use Rattle.weak_lists.specs.Conditions.{CanRead}
use Rattle.object_model.specs.Sets.{is_in}
use Rattle.std.specs.Prelude.{IsTrue}
use Rattle.weak_lists.proofs.Lists.{in-at, mapped-so-far}
use Rattle.weak_lists.proofs.places.follow_places.Goals as goal

pub place_left-requires : goal.place_left-requires
place_left-requires c =
    let f = left_at c.args.nursery.now.words (word_at c.args.space.now.blocks) in
    let xs : List ℕ = c.deref_mut-place-items.result.now in
    let i : ℕ = c.loop-place.place-index in
    let so : c.loop-place.place-items ≡ map f (take i xs) ++ drop i xs = c.loop-place.invariant in
    let Short : List ℕ → Type 0 = λ ys. i < length ys in
    let more = mapped-so-far f xs i (subst Short so (omega (arith, c.loop-place-test.true, c.loop-place.auto.place-items))) in
    let at : get_or c.loop-place.place-items i 0 ≡ get_or xs i 0 = ap (λ (ys : List ℕ). get_or ys i 0) so ∙ more.1 in
    let P : ℕ → Type 0 = λ k. CanRead c.args.space.now k in
    let Q : List ℕ → Type 0 = λ l. IsTrue (is_in (get_or xs i 0) l) in
    subst P (sym at) (c.requires (get_or xs i 0) (subst Q c.deref_mut-place-items.ensures.value (in-at xs i more.0)))

pub loop-place-preserved : goal.loop-place-preserved
loop-place-preserved c =
    let f = left_at c.args.nursery.now.words (word_at c.args.space.now.blocks) in
    let xs : List ℕ = c.deref_mut-place-items.result.now in
    let i : ℕ = c.loop-place.place-index in
    let so : c.loop-place.place-items ≡ map f (take i xs) ++ drop i xs = c.loop-place.invariant in
    let Short : List ℕ → Type 0 = λ ys. i < length ys in
    let low : i < length c.loop-place.place-items = omega (arith, c.loop-place-test.true, c.loop-place.auto.place-items) in
    let x : ℕ = get_or c.loop-place.place-items i 0 in
    ap (λ (y : ℕ). set c.loop-place.place-items i y) c.place_left.ensures
    ∙ map_over_more f xs c.loop-place.place-items i x c.loop-place-test.true so (get_or_default c.loop-place.place-items i 0 x low)
