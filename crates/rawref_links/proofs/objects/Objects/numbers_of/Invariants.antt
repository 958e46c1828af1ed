use Rattle.std.proofs.Common.{◌≡◌, ℕ, take}
use Rattle.object_model.specs.Sets.{is_in}
use Rattle.rawref_links.specs.Objects.{is_at_one}
use Rattle.rawref_links.proofs.objects.Objects.numbers_of.Given as goal

abbrev pub invariant-loop-place : goal.invariant-loop-place
invariant-loop-place l = (number : ℕ) → is_in number l.numbers.items ≡ is_at_one number l.self (take l.place-index l.places)
