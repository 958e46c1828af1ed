-- The nursery can be walked in the middle of a collection: an object that left tells its size by where it is now.
use Rattle.std.proofs.Common.{◌≡◌, ◌≢◌, ℕ, ◌+◌, ◌<◌, ◌≤◌, ◌⊎◌, true, false, IsTrue, List, ◌∷◌, refl, sym, ap, ◌∙◌, inl, inr, arith}
use Rattle.std.proofs.lemmas.Bool.{ne_eqb, eq-eqb}
use Rattle.std.proofs.lemmas.Bool.Decides.{eqb_tells}
use Rattle.type_table.specs.declared.info.TypeInfo.{TypeInfo}
use Rattle.type_table.specs.Table.{Table}
use Rattle.object_model.specs.Object.{Object}
use Rattle.object_model.specs.Layout.{Layout}
use Rattle.object_model.specs.Sets.{is_in}
use Rattle.object_model.specs.ObjectWords.{updated, words_at, Covers}
use Rattle.object_model.specs.Holds.{HoldsObjects}
use Rattle.object_view.specs.Moving.{moved, IsMoving, HasLeft}
use Rattle.object_view.proofs.WordLaws.{updated-other}
use Rattle.object_model.proofs.Members.{is_in-cases}
use Rattle.object_view.proofs.LayoutLaws.{laid_out, keeps-same}
use Rattle.object_view.proofs.CopyLaws.{copy-like}
use Rattle.object_view.proofs.ForwardLaws.{header-unmarked}
use Rattle.object_view.proofs.LeaveLaws.{room-moves, after-room}
use Rattle.heap_parts.specs.Places.{is_young}
use Rattle.minor_collect.specs.Sizes.{size_now, TellSizes}
use Rattle.minor_collect.proofs.MoveStep.{CanMove, step_rest, head_keeps}

unmarked : (types : Table TypeInfo) (w : ℕ → ℕ) (x : ℕ) → w x ≢ 18446744073709551615 → size_now types w x ≡ words_at types w x
unmarked types w x ne = rw (ne_eqb (w x) 18446744073709551615 ne) refl

marked : (types : Table TypeInfo) (w : ℕ → ℕ) (x : ℕ) → w x ≡ 18446744073709551615 → size_now types w x ≡ words_at types w (w (x + 1))
marked types w x e = rw (eq-eqb (w x) 18446744073709551615 e) refl

-- at the beginning
pub sizes_begin : {types : Table TypeInfo} {w name : ℕ → ℕ} {places : List ℕ} {kept : List Object} → HoldsObjects types w places places name kept → TellSizes types w places (words_at types w)
sizes_begin {types = types} {w = w} h x t y = unmarked types w x (header-unmarked x h t)

-- and after a move
pub sizes_move : {types : Table TypeInfo} {w name : ℕ → ℕ} {met places pins : List ℕ} {kept : List Object} {p a head : ℕ} (size : ℕ → ℕ)
    → HoldsObjects types w met places name kept → IsMoving types w met places name → CanMove types w met places pins p a head
    → TellSizes types w met size → TellSizes types (updated (moved w p a (words_at types w p)) a head) (a ∷ met) size
sizes_move {types = types} {w = w} {name = name} {met = met} {places = places} {p = p} {a = a} {head = head} size h m c tell x t y = elim (is_in-cases x a met t) [
  | inl e ↦ absurd (let clash : true ≡ false = sym y ∙ (ap is_young e ∙ c.far) in let no : ⊥ = cc in no)
  | inr u ↦ each u (m.each x u)
]
  where
    v : ℕ → ℕ
    v = updated (moved w p a (words_at types w p)) a head

    each : IsTrue (is_in x met) → IsTrue (is_in x places) ⊎ HasLeft types w places name x → size_now types (updated (moved w p a (words_at types w p)) a head) x ≡ size x
    each u (inl there) = elim (eqb_tells x p) [
      | inl is ↦
          let after = after-room c.room in
          let two = (laid_out types w p).header in
          let first_out : x ≢ a = λ z. c.room.clear p a c.room.there (omega (arith, z, is.1), omega (arith, z, is.1, two)) (omega arith) (omega (arith, two)) in
          let second_out : x + 1 ≢ a = λ z. c.room.clear p a c.room.there (omega (arith, z, is.1), omega (arith, z, is.1, two)) (omega arith) (omega (arith, two)) in
          let first : updated (moved w p a (words_at types w p)) a head x ≡ 18446744073709551615 =
          updated-other (moved w p a (words_at types w p)) a head x first_out ∙ (ap (moved w p a (words_at types w p)) is.1 ∙ after.marked) in
          let second : updated (moved w p a (words_at types w p)) a head (x + 1) ≡ a =
          updated-other (moved w p a (words_at types w p)) a head (x + 1) second_out ∙ (ap (λ (k : ℕ). moved w p a (words_at types w p) (k + 1)) is.1 ∙ after.leads) in
          let new_size : words_at types (updated (moved w p a (words_at types w p)) a head) a ≡ words_at types w p =
          ap (λ (l : Layout). l.words) (head_keeps h m c).layout_stays ∙ (copy-like (room-moves h c.room).copy).words in
          let before : words_at types w p ≡ size x = ap (words_at types w) (sym is.1) ∙ (sym (unmarked types w x (header-unmarked x h there)) ∙ tell x u y) in
          marked types (updated (moved w p a (words_at types w p)) a head) x first
          ∙ (ap (words_at types (updated (moved w p a (words_at types w p)) a head)) second ∙ (new_size ∙ before))
      | inr ne ↦
          let same = step_rest h m c x there ne.1 in
          let first : updated (moved w p a (words_at types w p)) a head x ≡ w x = same.same x (omega arith) (omega (arith, (laid_out types w x).header)) in
          unmarked types (updated (moved w p a (words_at types w p)) a head) x (λ z. header-unmarked x h there (sym first ∙ z))
          ∙ (ap (λ (l : Layout). l.words) (keeps-same types (updated (moved w p a (words_at types w p)) a head) w x same).layout_stays
          ∙ (sym (unmarked types w x (header-unmarked x h there)) ∙ tell x u y))
    ]
    each u (inr left) =
        let after = after-room c.room in
        let room = c.room.fresh x u in
        let two = (laid_out types w p).header in
        let not_p : (b : ℕ) → (b ≡ x) ⊎ (b ≡ x + 1) → (b ≢ p) × (b ≢ p + 1) = λ b is. (
          λ z. left.outside p c.room.there (touch b is (omega (arith, z)) (omega (arith, z, two))),
          λ z. left.outside p c.room.there (touch b is (omega (arith, z)) (omega (arith, z, two))),
        ) in
        let out : (b : ℕ) → (b < a) ⊎ (a + words_at types w p ≤ b) → b ≢ a = λ b o z. elim o [ inl low ↦ absurd (omega (arith, z, low)) | inr high ↦ absurd (omega (arith, z, high, two)) ] in
        let first : updated (moved w p a (words_at types w p)) a head x ≡ w x =
        updated-other (moved w p a (words_at types w p)) a head x (out x room.0) ∙ after.others x room.0 (not_p x (inl refl)).0 (not_p x (inl refl)).1 in
        let second : updated (moved w p a (words_at types w p)) a head (x + 1) ≡ w (x + 1) =
        updated-other (moved w p a (words_at types w p)) a head (x + 1) (out (x + 1) room.1) ∙ after.others (x + 1) room.1 (not_p (x + 1) (inr refl)).0 (not_p (x + 1) (inr refl)).1 in
        let same = step_rest h m c (w (x + 1)) left.there (c.room.once x u left.marked) in
        marked types (updated (moved w p a (words_at types w p)) a head) x (first ∙ left.marked)
        ∙ (ap (words_at types (updated (moved w p a (words_at types w p)) a head)) second
        ∙ (ap (λ (l : Layout). l.words) (keeps-same types (updated (moved w p a (words_at types w p)) a head) w (w (x + 1)) same).layout_stays
        ∙ (sym (marked types w x left.marked) ∙ tell x u y)))
      where
        touch : (b : ℕ) → (b ≡ x) ⊎ (b ≡ x + 1) → p ≤ b → b < p + words_at types w p → Covers types w p x ⊎ Covers types w p (x + 1)
        touch b (inl e) l r = inl (omega (arith, e, l), omega (arith, e, r))
        touch b (inr e) l r = inr (omega (arith, e, l), omega (arith, e, r))

-- and where objects keep their sizes, and what was left its two words
pub sizes_stay : {types : Table TypeInfo} {v w name : ℕ → ℕ} {met places : List ℕ} {kept : List Object} (size : ℕ → ℕ)
    → HoldsObjects types w met places name kept → HoldsObjects types v met places name kept → IsMoving types w met places name
    → ((q : ℕ) → IsTrue (is_in q places) → words_at types v q ≡ words_at types w q)
    → ((x : ℕ) → IsTrue (is_in x met) → HasLeft types w places name x → (v x ≡ w x) × (v (x + 1) ≡ w (x + 1)))
    → TellSizes types w met size → TellSizes types v met size
sizes_stay {types = types} {v = v} {w = w} {name = name} {met = met} {places = places} size h k m same left tell x t y = each (m.each x t)
  where
    each : IsTrue (is_in x places) ⊎ HasLeft types w places name x → size_now types v x ≡ size x
    each (inl there) = unmarked types v x (header-unmarked x k there) ∙ (same x there ∙ (sym (unmarked types w x (header-unmarked x h there)) ∙ tell x t y))
    each (inr gone) =
        let two = left x t gone in
        marked types v x (two.0 ∙ gone.marked) ∙ (ap (words_at types v) two.1 ∙ (same (w (x + 1)) gone.there ∙ (sym (marked types w x gone.marked) ∙ tell x t y)))
