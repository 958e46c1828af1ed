use Rattle.std.proofs.Common.{◌≡◌, ℕ, take, if◌then◌else◌}
use Rattle.object_model.specs.Sets.{is_in}
use Rattle.rawref_links.specs.Objects.{no_links, links_at}
use Rattle.rawref_links.proofs.objects.Objects.forget.Given as goal

abbrev pub invariant-loop-place : goal.invariant-loop-place
invariant-loop-place l =
    (place : ℕ) → links_at l.self place ≡ (if is_in place (take l.place-index l.places) then no_links else links_at l.initial.self place)
