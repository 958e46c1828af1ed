-- What places hold or left, where one more object moves.
use Rattle.std.proofs.Common.{◌≡◌, ◌≢◌, ℕ, ◌+◌, ◌<◌, ◌≤◌, ◌⊎◌, IsTrue, List, ◌∷◌, map, refl, sym, ap, ◌∙◌, subst, inl, inr, arith}
use Rattle.std.proofs.lemmas.Bool.Decides.{eqb_tells}
use Rattle.type_table.specs.declared.info.TypeInfo.{TypeInfo}
use Rattle.type_table.specs.Table.{Table}
use Rattle.object_model.specs.Object.{Object}
use Rattle.object_model.specs.Sets.{is_in}
use Rattle.object_model.specs.ObjectWords.{updated, words_at, Covers}
use Rattle.object_model.specs.Holds.{HoldsObjects}
use Rattle.object_view.specs.Moving.{moved, HasLeft, IsMoving, HasFreeRoom}
use Rattle.object_view.proofs.WordLaws.{updated-here, updated-other}
use Rattle.object_model.proofs.Members.{is_in-head, is_in-tail, is_in-cases}
use Rattle.object_view.proofs.LayoutLaws.{laid_out, SameAt, keeps-same}
use Rattle.object_view.proofs.ChangeLaws.{covers-kept}
use Rattle.object_view.proofs.CopyLaws.{copy-like}
use Rattle.object_view.proofs.MoveLaws.{Moves, moved_to, IsMoved, moved-cases, moved-here, moved-there}
use Rattle.object_view.proofs.LeaveLaws.{after-room, room-moves, outside-room, not-met}

-- one of two words is covered
abbrev CoversEither : Table TypeInfo → (ℕ → ℕ) → ℕ → ℕ → ℕ → Type 0
CoversEither types w q b c = Covers types w q b ⊎ Covers types w q c

-- two words that no object but the one that moves covers, outside its new words, are covered by none afterwards
pub record Uncovered (types : Table TypeInfo) (w : ℕ → ℕ) (places : List ℕ) (p a b c : ℕ) : Type 0 where
  pub first_out : (b < a) ⊎ (a + words_at types w p ≤ b)
  pub second_out : (c < a) ⊎ (a + words_at types w p ≤ c)
  pub none : (r : ℕ) → IsTrue (is_in r places) → r ≢ p → CoversEither types w r b c → ⊥

either-before : {types : Table TypeInfo} {v w : ℕ → ℕ} (q b c : ℕ) → SameAt types v w q → CoversEither types v q b c → CoversEither types w q b c
either-before {types = types} {v = v} {w = w} q b c same (inl x) = inl (covers-kept q b (keeps-same types v w q same) x)
either-before {types = types} {v = v} {w = w} q b c same (inr x) = inr (covers-kept q c (keeps-same types v w q same) x)

not-both : (a n b : ℕ) → (b < a) ⊎ (a + n ≤ b) → a ≤ b → b < a + n → ⊥
not-both a n b (inl x) l r = absurd (omega (arith, x, l))
not-both a n b (inr x) l r = absurd (omega (arith, x, r))

not-new : (types : Table TypeInfo) (v w : ℕ → ℕ) (p a q b : ℕ) → words_at types v a ≡ words_at types w p → q ≡ a
    → (b < a) ⊎ (a + words_at types w p ≤ b) → Covers types v q b → ⊥
not-new types v w p a q b size e out c =
    let P : ℕ → Type 0 = λ k. Covers types v k b in let d : Covers types v a b = subst P e c in
    not-both a (words_at types w p) b out d.0 (omega (arith, d.1, size))

none-after : {types : Table TypeInfo} {v w name other : ℕ → ℕ} {met more places : List ℕ} {p a : ℕ} (b c q : ℕ)
    → Moves types v w met more places name other p a → Uncovered types w places p a b c → IsMoved places p a q → CoversEither types v q b c → ⊥
none-after {types = types} {v = v} {w = w} {p = p} {a = a} b c q m u (inl e) (inl x) = not-new types v w p a q b (copy-like m.copy).words e u.first_out x
none-after {types = types} {v = v} {w = w} {p = p} {a = a} b c q m u (inl e) (inr x) = not-new types v w p a q c (copy-like m.copy).words e u.second_out x
none-after b c q m u (inr e) x = u.none q e.0 e.1 (either-before q b c (m.rest q e.0 e.1) x)

-- the words that the object leaves are those of no other
own-words : {types : Table TypeInfo} {w name : ℕ → ℕ} {met places : List ℕ} {kept : List Object} (p r : ℕ) → HoldsObjects types w met places name kept
    → IsTrue (is_in p places) → IsTrue (is_in r places) → r ≢ p → CoversEither types w r p (p + 1) → ⊥
own-words {types = types} {w = w} p r h t u ne (inl c) = ne (h.apart r p p u t c (omega arith, omega (arith, (laid_out types w p).header)))
own-words {types = types} {w = w} p r h t u ne (inr c) = ne (h.apart r p (p + 1) u t c (omega arith, omega (arith, (laid_out types w p).header)))

-- the place that was left
left-here : {types : Table TypeInfo} {w name : ℕ → ℕ} {met places : List ℕ} {kept : List Object} {p a : ℕ}
    → HoldsObjects types w met places name kept → HasFreeRoom types w met places p a → p ≢ a
    → HasLeft types (moved w p a (words_at types w p)) (map (moved_to p a) places) (updated name a (name p)) p
left-here {types = types} {w = w} {name = name} {places = places} {p = p} {a = a} h room ne =
    let after = after-room room in let other : ℕ → ℕ = updated name a (name p) in let two = (laid_out types w p).header in
    record {
      marked = after.marked;
      there = let P : ℕ → Type 0 = λ k. IsTrue (is_in k (map (moved_to p a) places)) in subst P (sym after.leads) (moved-here places p a room.there);
      same_name = ap other after.leads ∙ updated-here name a (name p) a refl ∙ sym (updated-other name a (name p) p ne);
      outside = λ q t c. none-after p (p + 1) q (room-moves h room)
          (record {
            first_out = outside-room p p room room.there (omega arith, omega (arith, two));
            second_out = outside-room p (p + 1) room room.there (omega arith, omega (arith, two));
            none = λ r u no_p d. own-words p r h room.there u no_p d;
          }) (moved-cases places p a q t) c;
    }

-- the words that an earlier object left are none that this one leaves
apart-left : {types : Table TypeInfo} {w name : ℕ → ℕ} {places : List ℕ} (p b x : ℕ) → HasLeft types w places name x → IsTrue (is_in p places)
    → (b ≡ x) ⊎ (b ≡ x + 1) → (b ≡ p) ⊎ (b ≡ p + 1) → ⊥
apart-left {types = types} {w = w} p b x left t (inl e) (inl f) = left.outside p t (inl (omega (arith, e, f), omega (arith, e, f, (laid_out types w p).header)))
apart-left {types = types} {w = w} p b x left t (inl e) (inr f) = left.outside p t (inl (omega (arith, e, f), omega (arith, e, f, (laid_out types w p).header)))
apart-left {types = types} {w = w} p b x left t (inr e) (inl f) = left.outside p t (inr (omega (arith, e, f), omega (arith, e, f, (laid_out types w p).header)))
apart-left {types = types} {w = w} p b x left t (inr e) (inr f) = left.outside p t (inr (omega (arith, e, f), omega (arith, e, f, (laid_out types w p).header)))

-- a place that was left before
left-still : {types : Table TypeInfo} {w name : ℕ → ℕ} {met places : List ℕ} {kept : List Object} {p a : ℕ} (x : ℕ)
    → HoldsObjects types w met places name kept → HasFreeRoom types w met places p a → IsTrue (is_in x met) → HasLeft types w places name x
    → HasLeft types (moved w p a (words_at types w p)) (map (moved_to p a) places) (updated name a (name p)) x
left-still {types = types} {w = w} {name = name} {places = places} {p = p} {a = a} x h room t left =
    let after = after-room room in let moves = room-moves h room in
    let v : ℕ → ℕ = moved w p a (words_at types w p) in let other : ℕ → ℕ = updated name a (name p) in
    let first : v x ≡ w x = after.others x (room.fresh x t).0 (λ e. apart-left p x x left room.there (inl refl) (inl e)) (λ e. apart-left p x x left room.there (inl refl) (inr e)) in
    let second : v (x + 1) ≡ w (x + 1) =
    after.others (x + 1) (room.fresh x t).1 (λ e. apart-left p (x + 1) x left room.there (inr refl) (inl e)) (λ e. apart-left p (x + 1) x left room.there (inr refl) (inr e)) in
    let to_p : w (x + 1) ≢ p = room.once x t left.marked in record {
      marked = first ∙ left.marked;
      there = let P : ℕ → Type 0 = λ k. IsTrue (is_in k (map (moved_to p a) places)) in subst P (sym second) (moved-there places p a (w (x + 1)) to_p left.there);
      same_name = ap other second ∙ moves.names (w (x + 1)) left.there to_p ∙ left.same_name ∙ sym (updated-other name a (name p) x (not-met x room t));
      outside = λ q u c. none-after x (x + 1) q moves
          (record { first_out = (room.fresh x t).0; second_out = (room.fresh x t).1; none = λ r s no_p d. left.outside r s d }) (moved-cases places p a q u) c;
    }

-- what is said of a place that references may have
abbrev EachMet : Table TypeInfo → (ℕ → ℕ) → List ℕ → (ℕ → ℕ) → ℕ → Type 0
EachMet types w places name x = IsTrue (is_in x places) ⊎ HasLeft types w places name x

each-after : {types : Table TypeInfo} {w name : ℕ → ℕ} {met places : List ℕ} {kept : List Object} {p a : ℕ} (x : ℕ)
    → HoldsObjects types w met places name kept → HasFreeRoom types w met places p a → IsTrue (is_in x met) → EachMet types w places name x
    → EachMet types (moved w p a (words_at types w p)) (map (moved_to p a) places) (updated name a (name p)) x
each-after x h room t (inr left) = inr (left-still x h room t left)
each-after {types = types} {w = w} {name = name} {places = places} {p = p} {a = a} x h room t (inl stays) = elim (eqb_tells x p) [
  | inl e ↦
      let P : ℕ → Type 0 = λ k. HasLeft types (moved w p a (words_at types w p)) (map (moved_to p a) places) (updated name a (name p)) k in
      inr (subst P (sym e.1) (left-here h room (λ f. not-met x room t (e.1 ∙ f))))
  | inr e ↦ inl (moved-there places p a x e.1 stays)
]

met-after : {types : Table TypeInfo} {w name : ℕ → ℕ} {met places : List ℕ} {kept : List Object} {p a : ℕ} (x : ℕ)
    → HoldsObjects types w met places name kept → IsMoving types w met places name → HasFreeRoom types w met places p a → (x ≡ a) ⊎ IsTrue (is_in x met)
    → EachMet types (moved w p a (words_at types w p)) (map (moved_to p a) places) (updated name a (name p)) x
met-after x h moving room (inr t) = each-after x h room t (moving.each x t)
met-after {places = places} {p = p} {a = a} x h moving room (inl e) =
    let P : ℕ → Type 0 = λ k. IsTrue (is_in k (map (moved_to p a) places)) in inl (subst P (sym e) (moved-here places p a room.there))

above-after : {types : Table TypeInfo} {w name : ℕ → ℕ} {met places : List ℕ} {p a : ℕ} (x : ℕ)
    → IsMoving types w met places name → HasFreeRoom types w met places p a → (x ≡ a) ⊎ IsTrue (is_in x met) → 1 ≤ x
above-after x moving room (inl e) = omega (arith, e, room.above)
above-after x moving room (inr t) = moving.above x t

stay-after : {types : Table TypeInfo} {w name : ℕ → ℕ} {met places : List ℕ} (p a x : ℕ) → IsMoving types w met places name → IsMoved places p a x → IsTrue (is_in x (a ∷ met))
stay-after {met = met} p a x moving (inl e) = let P : ℕ → Type 0 = λ k. IsTrue (is_in k (a ∷ met)) in subst P (sym e) (is_in-head a met)
stay-after {met = met} p a x moving (inr e) = is_in-tail x a met (moving.stay x e.0)

-- An object moves into free room: each place that references may have holds an object, or was left.
pub moved_moving : {types : Table TypeInfo} {w name : ℕ → ℕ} {met places : List ℕ} {kept : List Object} {p a : ℕ}
    → HoldsObjects types w met places name kept → IsMoving types w met places name → HasFreeRoom types w met places p a
    → IsMoving types (moved w p a (words_at types w p)) (a ∷ met) (map (moved_to p a) places) (updated name a (name p))
moved_moving {met = met} {places = places} {p = p} {a = a} h moving room = record {
  above = λ x t. above-after x moving room (is_in-cases x a met t);
  each = λ x t. met-after x h moving room (is_in-cases x a met t);
  stay = λ x t. stay-after p a x moving (moved-cases places p a x t);
}

-- At the beginning of a collection nothing has moved.
pub none_moving : {types : Table TypeInfo} {w name : ℕ → ℕ} {places : List ℕ} {kept : List Object} → HoldsObjects types w places places name kept → IsMoving types w places places name
none_moving h = record { above = h.above; each = λ x t. inl t; stay = λ x t. t }
