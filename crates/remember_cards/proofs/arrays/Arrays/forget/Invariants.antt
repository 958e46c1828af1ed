use Rattle.std.proofs.Common.{◌≡◌, ℕ, None, take, if◌then◌else◌}
use Rattle.object_model.specs.Sets.{is_in}
use Rattle.remember_cards.specs.Entries.{marks_in}
use Rattle.remember_cards.proofs.arrays.Arrays.forget.Given as goal

abbrev pub invariant-loop-place : goal.invariant-loop-place
invariant-loop-place l =
    (place : ℕ) → marks_in l.self place ≡ (if is_in place (take l.place-index l.places) then None else marks_in l.initial.self place)
