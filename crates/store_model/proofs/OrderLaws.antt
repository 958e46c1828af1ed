-- Commands that do not collect keep marking in order.
use Rattle.std.proofs.Common.{ℕ, Bool, ◌⊎◌, IsTrue, List, inl, inr}
use Rattle.object_model.specs.Sets.{is_in}
use Rattle.object_model.specs.Object.{Object}
use Rattle.store_model.specs.MarkingOrder.{IsItem, AreAllIn, HeldSettled, IsInOrder}

-- Nothing is unsettled, nothing is forgotten, and each new item was there, is remembered, or refers to nothing that matters.
pub record PlainChange (kept after : List Object) (settled settled_after : List ℕ) (remembered remembered_after : ℕ → ℕ → Bool) : Type 0 where
  pub settled_stay : AreAllIn settled settled_after
  pub held_stay : (x i : ℕ) → IsTrue (remembered x i) → IsTrue (remembered_after x i)
  pub held_settled : HeldSettled settled_after remembered_after
  pub items : (x i y : ℕ) → IsTrue (is_in x settled_after) → IsItem after x i y →
      (IsTrue (is_in x settled) × IsItem kept x i y) ⊎ IsTrue (remembered_after x i)

pub plain_in_order : {kept after : List Object} {settled settled_after visited gray : List ℕ} {remembered remembered_after : ℕ → ℕ → Bool} {unreached : List ℕ}
    → PlainChange kept after settled settled_after remembered remembered_after → IsInOrder kept settled visited gray remembered unreached
    → IsInOrder after settled_after visited gray remembered_after unreached
plain_in_order p m = record {
  young = λ x i y s e. elim (p.items x i y s e) [
    | inl old ↦ elim (m.young x i y old.0 old.1) [ inl t ↦ inl (p.settled_stay y t) | inr h ↦ inr (p.held_stay x i h) ]
    | inr h ↦ inr h
  ];
  owed = λ x i y v e. elim (p.items x i y (p.settled_stay x (m.visited_settled x v)) e) [
    | inl old ↦ elim (m.owed x i y v old.1) [ inl t ↦ inl t | inr h ↦ inr (p.held_stay x i h) ]
    | inr h ↦ inr h
  ];
  held_settled = p.held_settled;
  gray_settled = λ x g. p.settled_stay x (m.gray_settled x g);
  visited_settled = λ x v. p.settled_stay x (m.visited_settled x v);
  gray_reached = m.gray_reached;
  visited_reached = m.visited_reached;
}
