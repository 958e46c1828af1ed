-- A reference that is followed without a move.
use Rattle.std.proofs.Common.{◌≡◌, ◌≢◌, ℕ, false, IsTrue, [], refl, sym, ap, append-nil, arith}
use Rattle.object_model.specs.Sets.{is_in}
use Rattle.heap_parts.specs.Parts.{HeapParts, pinned_places}
use Rattle.minor_collect.specs.declared.work.Moving.{Moving}
use Rattle.minor_collect.specs.Midway.{is_lasting}
use Rattle.minor_collect.specs.Calls.{Stage, Spot, Standing, Grows, AddsTodo, Followed, LeadsTo, CanFollow, CanFollowStill, CanMoveOut}

pub grows_none : (stage : Stage) (spot : Spot) → Grows stage spot spot
grows_none stage spot = record { met = λ x t. t; names = λ x t. refl; stay = λ q t l. t; found = λ x t. t; held = λ q t. t }

pub adds_none : (moving : Moving) (spot : Spot) → AddsTodo moving moving spot spot
adds_none moving spot = record { added = []; in_code = sym (append-nil moving.todo.items); told = λ q. ap (is_in q) (sym (append-nil spot.todo)); grown = omega arith }

pub followed_still : {stage : Stage} {now : HeapParts} {moving : Moving} {spot : Spot} {x y : ℕ} → Standing stage now moving spot → LeadsTo stage spot x y → Followed stage now now moving moving spot x y
followed_still {stage = stage} {moving = moving} {spot = spot} s leads = record {
  after = spot;
  standing = s;
  grows = grows_none stage spot;
  adds = adds_none moving spot;
  owes_same = refl;
  held_same = refl;
  same = λ q t l. record { same = λ a low high. refl };
  only = refl;
  leads = leads;
}

pub can_follow_still : (now : HeapParts) (moving : Moving) (x : ℕ) → CanFollow now moving x → CanFollowStill now x
can_follow_still now moving x c = record { stage = c.stage; spot = c.spot; middle = c.standing.middle; pointer = c.pointer }

-- what waits to move is no nil
pub some_place : {stage : Stage} {now : HeapParts} {moving : Moving} {spot : Spot} (x : ℕ) → Standing stage now moving spot → IsTrue (is_in x spot.placing.places) → x ≢ 0
some_place x s t e = let above = s.middle.mid.words.objects.above x t in absurd (omega (arith, above, e))

pub can_move_out : (now : HeapParts) (moving : Moving) (x : ℕ) (c : CanFollow now moving x) → IsTrue (is_in x c.spot.placing.places) × (is_lasting (pinned_places c.stage.start) x ≡ false) → CanMoveOut now moving x
can_move_out now moving x c w = record { stage = c.stage; spot = c.spot; standing = c.standing; there = w.0; waits = w.1; may = c.may (some_place x c.standing w.0) }
