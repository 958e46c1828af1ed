-- Marking is in order after a minor collection.
use Rattle.std.proofs.Common.{ℕ, ◌⊎◌, Bool, IsTrue, List, inl, inr}
use Rattle.object_model.specs.Sets.{is_in}
use Rattle.object_model.specs.Object.{Object}
use Rattle.store_model.specs.Sound.{AreCutOff, AreKept}
use Rattle.store_model.specs.MarkingOrder.{IsItem, AreAllIn, is_known, YoungHeld, HeldSettled, IsInOrder, VisitsQueued}
use Rattle.heap_parts.specs.Order.{IsInOrderButYoung}
use Rattle.minor_collect.specs.Gray.{ComesGray}
use Rattle.object_model.proofs.Members.{or_second, or_first, or_cases}

-- What a minor collection does to what marking stands on: written items of visited objects are queued where they lead to what is
-- settled now, and what leads to pinned objects is remembered.
pub record MinorChange (kept after : List Object) (settled settled_after visited gray gray_after : List ℕ) (remembered remembered_after : ℕ → ℕ → Bool) : Type 0 where
  pub items : (x i y : ℕ) → IsItem after x i y → IsItem kept x i y
  pub settled_stay : AreAllIn settled settled_after
  pub young : YoungHeld after settled_after remembered_after
  pub queued : (x i y : ℕ) → IsTrue (is_in x visited) → IsTrue (remembered x i) → IsItem after x i y → IsTrue (is_in y settled_after) → IsTrue (is_known visited gray_after y)
  pub more : AreAllIn gray gray_after
  pub gray_from : (y : ℕ) → IsTrue (is_in y gray_after) → IsTrue (is_in y gray) ⊎ ComesGray kept settled_after visited y
  pub held_settled : HeldSettled settled_after remembered_after

known-more : (visited gray more : List ℕ) (y : ℕ) → AreAllIn gray more → IsTrue (is_known visited gray y) → IsTrue (is_known visited more y)
known-more visited gray more y all t = elim (or_cases (is_in y visited) (is_in y gray) t) [
  | inl v ↦ or_first (is_in y visited) (is_in y more) v
  | inr g ↦ or_second (is_in y visited) (is_in y more) (all y g)
]

module _ {kept after : List Object} {settled settled_after visited gray gray_after : List ℕ} {remembered remembered_after : ℕ → ℕ → Bool} {unreached : List ℕ}
    (c : MinorChange kept after settled settled_after visited gray gray_after remembered remembered_after)
    (m : IsInOrderButYoung kept settled visited gray remembered unreached) where
  -- every settled object that a visited one refers to is visited or gray
  pub minor_queued : VisitsQueued after settled_after visited gray_after
  minor_queued x i y v e s = elim (m.owed x i y v (c.items x i y e)) [
    | inl known ↦ known-more visited gray gray_after y c.more known
    | inr held ↦ c.queued x i y v held e s
  ]

  pub minor_in_order : AreKept kept settled → AreCutOff kept unreached → IsInOrder after settled_after visited gray_after remembered_after unreached
  minor_in_order kept_settled cut = record {
    young = c.young;
    owed = λ x i y v e. elim (c.young x i y (c.settled_stay x (m.visited_settled x v)) e) [
      | inl s ↦ inl (minor_queued x i y v e s)
      | inr r ↦ inr r
    ];
    held_settled = c.held_settled;
    gray_settled = λ y g. elim (c.gray_from y g) [
      | inl old ↦ c.settled_stay y (m.gray_settled y old)
      | inr new ↦ new.now_settled
    ];
    visited_settled = λ x v. c.settled_stay x (m.visited_settled x v);
    gray_reached = λ y g. elim (c.gray_from y g) [
      | inl old ↦ m.gray_reached y old
      | inr new ↦ cut new.from (kept_settled new.from (m.visited_settled new.from new.visits)) (m.visited_reached new.from new.visits) y new.refers
    ];
    visited_reached = m.visited_reached;
  }
