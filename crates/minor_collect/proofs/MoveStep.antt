-- An object of the nursery moves to room outside it, and gets the header of a settled object there.
use Rattle.std.proofs.Common.{◌≡◌, ◌≢◌, ℕ, ◌+◌, ◌%◌, ◌<◌, ◌⊎◌, Bool, true, false, IsTrue, List, [], ◌∷◌, map, refl, sym, ap, ap₂, ◌∙◌, subst, inl, inr, arith}
use Rattle.std.proofs.lemmas.Bool.Decides.{eqb_tells}
use Rattle.type_table.specs.declared.info.TypeInfo.{TypeInfo}
use Rattle.type_table.specs.Table.{Table}
use Rattle.object_model.specs.Object.{Object}
use Rattle.object_model.specs.Layout.{Layout}
use Rattle.store_model.specs.Store.{Store}
use Rattle.object_model.specs.Sets.{is_in}
use Rattle.object_model.specs.ObjectWords.{updated, words_at, layout_at, Covers}
use Rattle.object_model.specs.Holds.{HoldsObjects, IsPointer}
use Rattle.store_model.specs.MinorCollection.{is_unsettled, is_entry, refers_unsettled}
use Rattle.object_view.specs.Moving.{moved, IsMoving, HasLeft, HasFreeRoom}
use Rattle.object_view.proofs.WordLaws.{updated-here, updated-other}
use Rattle.object_model.proofs.Members.{map-same, is_in-head, is_in-tail, is_in-cases, false-in, not-in}
use Rattle.object_view.proofs.LayoutLaws.{laid_out, SameAt, KeepsLayout, keeps-same}
use Rattle.object_view.proofs.FrameLaws.{header_holds, keeps-header}
use Rattle.object_view.proofs.ChangeLaws.{Changes}
use Rattle.object_view.proofs.CopyLaws.{copy-header}
use Rattle.object_view.proofs.MoveLaws.{moved_to, moved_to-here, moved_to-other, moved-cases, moved-here, moved-there}
use Rattle.object_view.proofs.LeaveLaws.{moved_holds, room-moves, after-room, not-met}
use Rattle.object_view.proofs.MovingLaws.{moved_moving}
use Rattle.object_view.proofs.ForwardLaws.{changed_moving, header-unmarked}
use Rattle.heap_parts.specs.Places.{is_young, young_places, old_places}
use Rattle.frame_laws.proofs.PlaceLaws.{young-is_in, old-is_in, is_in-young, is_in-old}
use Rattle.minor_collect.specs.Traces.{Traces}
use Rattle.minor_collect.specs.Entries.{has_remembered_referrer}
use Rattle.minor_collect.specs.Midway.{Follows, Owes, IsDone, is_lasting}
use Rattle.minor_collect.proofs.TraceLaws.{finds, member-here}
use Rattle.minor_collect.proofs.Begins.{not-lasting}

-- what is asked of a move: room, an object that waits, a place outside the nursery, and a header of the same type
pub record CanMove (types : Table TypeInfo) (w : ℕ → ℕ) (met places pins : List ℕ) (p a head : ℕ) : Type 0 where
  pub room : HasFreeRoom types w met places p a
  pub waits : is_lasting pins p ≡ false
  pub far : is_young a ≡ false
  pub same_type : head % 65536 ≡ w p % 65536
  pub small : head < 67108864

-- the words after the move
abbrev pub settled_words_at : Table TypeInfo → (ℕ → ℕ) → ℕ → ℕ → ℕ → ℕ → ℕ
settled_words_at types w p a head = updated (moved w p a (words_at types w p)) a head

module _ {types : Table TypeInfo} {w name : ℕ → ℕ} {met places pins : List ℕ} {kept : List Object} {p a head : ℕ}
    (h : HoldsObjects types w met places name kept) (m : IsMoving types w met places name) (c : CanMove types w met places pins p a head) where
  abbrev words : ℕ
  words = words_at types w p

  abbrev v : ℕ → ℕ
  v = updated (moved w p a (words_at types w p)) a head

  abbrev other : ℕ → ℕ
  other = updated name a (name p)

  abbrev after : List ℕ
  after = map (moved_to p a) places

  copy-head : moved w p a (words_at types w p) a ≡ w p
  copy-head = copy-header (room-moves h c.room).copy

  pub here : IsTrue (is_in a (map (moved_to p a) places))
  here = moved-here places p a c.room.there

  pub step_objects : HoldsObjects types (updated (moved w p a (words_at types w p)) a head) (a ∷ met) (map (moved_to p a) places) (updated name a (name p)) kept
  step_objects = header_holds a head (moved_holds h c.room) here (c.same_type ∙ ap (λ (k : ℕ). k % 65536) (sym copy-head)) c.small

  -- the header of the copy is written
  head-changes : Changes types (updated (moved w p a (words_at types w p)) a head) (moved w p a (words_at types w p)) (a ∷ met) (map (moved_to p a) places) a
  head-changes =
      let moved_h = moved_holds h c.room in
      let u : ℕ → ℕ = moved w p a (words_at types w p) in
      let laid = laid_out types u a in
      record {
        there = here;
        elsewhere = λ b out. updated-other u a head b (λ e. elim out [ inl low ↦ absurd (omega (arith, e, low)) | inr high ↦ absurd (omega (arith, e, high, laid.header)) ]);
        keeps = keeps-header types u a head (c.same_type ∙ ap (λ (k : ℕ). k % 65536) (sym copy-head)) c.small;
        pointers = λ j l. subst (IsPointer (a ∷ met)) (sym (updated-other u a head ((layout_at types u a).ref_start + j) (λ e. absurd (omega (arith, e, laid.begins, laid.ordered))))) (moved_h.closed a j here l);
      }

  pub head_keeps : KeepsLayout types (updated (moved w p a (words_at types w p)) a head) (moved w p a (words_at types w p)) a
  head_keeps = keeps-header types (moved w p a (words_at types w p)) a head (c.same_type ∙ ap (λ (k : ℕ). k % 65536) (sym copy-head)) c.small

  pub step_moving : IsMoving types (updated (moved w p a (words_at types w p)) a head) (a ∷ met) (map (moved_to p a) places) (updated name a (name p))
  step_moving = changed_moving (moved_holds h c.room) head-changes (moved_moving h m c.room)

  pub young-p : is_young p ≡ true
  young-p = (not-lasting (is_young p) (is_in p pins) c.waits).0

  pub unpinned-p : is_in p pins ≡ false
  unpinned-p = (not-lasting (is_young p) (is_in p pins) c.waits).1

  not-new : (q : ℕ) → IsTrue (is_in q places) → q ≢ a
  not-new q t = not-met q c.room (m.stay q t)

  -- other objects keep their words
  pub step_rest : (q : ℕ) → IsTrue (is_in q places) → q ≢ p → SameAt types (updated (moved w p a (words_at types w p)) a head) w q
  step_rest q t ne = record {
    same = λ b l r.
        let not_head : b ≢ a = λ e. c.room.clear q b t (l, r) (omega (arith, e)) (omega (arith, e, (laid_out types w p).header)) in
        updated-other (moved w p a (words_at types w p)) a head b not_head ∙ ((room-moves h c.room).rest q t ne).same b l r;
  }

  pub step_name : (q : ℕ) → IsTrue (is_in q places) → updated name a (name p) q ≡ name q
  step_name q t = updated-other name a (name p) q (not-new q t)

  pub new_name : updated name a (name p) a ≡ name p
  new_name = updated-here name a (name p) a refl

  pub new_head : updated (moved w p a (words_at types w p)) a head a ≡ head
  new_head = updated-here (moved w p a (words_at types w p)) a head a refl

  -- all births are those of before, in the same order
  pub step_names : map (updated name a (name p)) (map (moved_to p a) places) ≡ map name places
  step_names = go places (λ q t. t)
    where
      go : (qs : List ℕ) → ((q : ℕ) → IsTrue (is_in q qs) → IsTrue (is_in q places)) → map (updated name a (name p)) (map (moved_to p a) qs) ≡ map name qs
      go [] among = refl
      go (q ∷ qs) among = ap₂ (λ (x : ℕ) (xs : List ℕ). x ∷ xs) (elim (eqb_tells q p) [
        | inl e ↦ ap (updated name a (name p)) (moved_to-here p a q e.1) ∙ (new_name ∙ ap name (sym e.1))
        | inr e ↦ ap (updated name a (name p)) (moved_to-other p a q e.1) ∙ step_name q (among q (is_in-head q qs))
      ]) (go qs (λ k t. among k (is_in-tail k q qs t)))

  pub old-after : (q : ℕ) → IsTrue (is_in q (old_places places)) → IsTrue (is_in q (old_places (map (moved_to p a) places)))
  old-after q t =
      let o = old-is_in places q t in
      is_in-old (map (moved_to p a) places) q (moved-there places p a q (λ e. let clash : true ≡ false = sym young-p ∙ (ap is_young (sym e) ∙ o.1) in let no : ⊥ = cc in no) o.0) o.1

  pub old_cases : (q : ℕ) → IsTrue (is_in q (old_places (map (moved_to p a) places))) → (q ≡ a) ⊎ IsTrue (is_in q (old_places places))
  old_cases q t = let o = old-is_in (map (moved_to p a) places) q t in elim (moved-cases places p a q o.0) [
    | inl e ↦ inl e
    | inr k ↦ inr (is_in-old places q k.0 o.1)
  ]

  pub young_cases : (q : ℕ) → IsTrue (is_in q (young_places (map (moved_to p a) places))) → IsTrue (is_in q (young_places places)) × (q ≢ p)
  young_cases q t = let y = young-is_in (map (moved_to p a) places) q t in elim (moved-cases places p a q y.0) [
    | inl e ↦ absurd (let clash : true ≡ false = sym y.1 ∙ (ap is_young e ∙ c.far) in let no : ⊥ = cc in no)
    | inr k ↦ (is_in-young places q k.0 y.1, k.1)
  ]

  -- something holds of all that moved, or stayed
  by-place : (P : ℕ → Type 0) (x : ℕ) → P a → (IsTrue (is_in x places) → x ≢ p → P x) → IsTrue (is_in x (map (moved_to p a) places)) → P x
  by-place P x new stays t = elim (moved-cases places p a x t) [ inl e ↦ subst P (sym e) new | inr k ↦ stays k.0 k.1 ]

  far-lasts : is_lasting pins a ≡ true
  far-lasts = rw c.far refl

  done-after : (held : List ℕ) (q x : ℕ) → IsDone pins places held q x → IsDone pins (map (moved_to p a) places) held q x
  done-after held q x (inl e) = inl e
  done-after held q x (inr (inl old)) = inr (inl (moved-there places p a x (λ e. let clash : true ≡ false = sym young-p ∙ (ap is_young (sym e) ∙ old.1) in let no : ⊥ = cc in no) old.0, old.1))
  done-after held q x (inr (inr pin)) = inr (inr (moved-there places p a x (λ e. not-in p pins unpinned-p (subst (λ (k : ℕ). IsTrue (is_in k pins)) e pin.1.0)) pin.0, pin.1))

  module _ {store : Store} {remembered : ℕ → ℕ → Bool} {found todo held less : List ℕ} {owes : Owes}
      (f : Follows types store remembered pins w met places name found todo held (name p ∷ less) owes) where
    todo-names : map (updated name a (name p)) todo ≡ map name todo
    todo-names = map-same (updated name a (name p)) name todo (λ q t. step_name q (old-is_in places q (f.todo_old q t)).0)

    gone-each : (x : ℕ) → IsTrue (is_in x met) → IsTrue (is_in x places) ⊎ HasLeft types w places name x → updated (moved w p a (words_at types w p)) a head x ≡ 18446744073709551615
        → (is_young (updated (moved w p a (words_at types w p)) a head (x + 1)) ≡ false) × (IsTrue (is_in (updated name a (name p) x) (name p ∷ found)) × (is_young x ≡ true))
    gone-each x t (inl there) e = elim (eqb_tells x p) [
      | inl is ↦
          let after_move = after-room c.room in
          let not_a : x + 1 ≢ a = λ z. c.room.clear p a c.room.there (omega (arith, z, is.1), omega (arith, z, is.1, (laid_out types w p).header)) (omega arith) (omega (arith, (laid_out types w p).header)) in
          let leads : updated (moved w p a (words_at types w p)) a head (x + 1) ≡ a =
          updated-other (moved w p a (words_at types w p)) a head (x + 1) not_a ∙ (ap (λ (k : ℕ). moved w p a (words_at types w p) (k + 1)) is.1 ∙ after_move.leads) in
          (ap is_young leads ∙ c.far, (member-here (updated name a (name p) x) (name p) found (step_name x there ∙ ap name is.1), ap is_young is.1 ∙ young-p))
      | inr ne ↦ absurd (header-unmarked x h there
          (sym ((step_rest x there ne.1).same x (omega arith) (omega (arith, (laid_out types w x).header))) ∙ e))
    ]
    gone-each x t (inr left) e =
        let g = f.gone x t left.marked in
        let after_move = after-room c.room in
        let room = c.room.fresh x t in
        let apart : (b : ℕ) → (b ≡ x) ⊎ (b ≡ x + 1) → (b ≢ p) × (b ≢ p + 1) = λ b is. (
          λ z. left.outside p c.room.there (touch b is z),
          λ z. left.outside p c.room.there (touch-second b is z),
        ) in
        let not_a : x + 1 ≢ a = λ z. elim room.1 [ inl low ↦ absurd (omega (arith, z, low)) | inr high ↦ absurd (omega (arith, z, high, (laid_out types w p).header)) ] in
        let second : updated (moved w p a (words_at types w p)) a head (x + 1) ≡ w (x + 1) =
        updated-other (moved w p a (words_at types w p)) a head (x + 1) not_a ∙ after_move.others (x + 1) room.1 (apart (x + 1) (inr refl)).0 (apart (x + 1) (inr refl)).1 in (
          ap is_young second ∙ g.0,
          (
            subst (λ (k : ℕ). IsTrue (is_in k (name p ∷ found))) (sym (updated-other name a (name p) x (not-met x c.room t))) (is_in-tail (name x) (name p) found g.1.0),
            g.1.1,
          ),
        )
      where
        touch : (b : ℕ) → (b ≡ x) ⊎ (b ≡ x + 1) → b ≡ p → Covers types w p x ⊎ Covers types w p (x + 1)
        touch b (inl e) z = inl (omega (arith, e, z), omega (arith, e, z, (laid_out types w p).header))
        touch b (inr e) z = inr (omega (arith, e, z), omega (arith, e, z, (laid_out types w p).header))

        touch-second : (b : ℕ) → (b ≡ x) ⊎ (b ≡ x + 1) → b ≡ p + 1 → Covers types w p x ⊎ Covers types w p (x + 1)
        touch-second b (inl e) z = inl (omega (arith, e, z), omega (arith, e, z, (laid_out types w p).header))
        touch-second b (inr e) z = inr (omega (arith, e, z), omega (arith, e, z, (laid_out types w p).header))

    looked-each : (q : ℕ) → IsTrue (is_in q (map (moved_to p a) places)) → (j : ℕ) → IsTrue (is_lasting pins q) → j < (layout_at types (updated (moved w p a (words_at types w p)) a head) q).ref_count
        → IsTrue (is_in q (a ∷ todo)) ⊎ (IsTrue (owes.items q j) ⊎ ((IsTrue (is_in (updated name a (name p) q) store.settled) × (remembered (updated name a (name p) q) j ≡ false))
        ⊎ IsDone pins (map (moved_to p a) places) held q (updated (moved w p a (words_at types w p)) a head ((layout_at types (updated (moved w p a (words_at types w p)) a head) q).ref_start + j))))
    looked-each q t = elim (moved-cases places p a q t) [
      | inl e ↦ λ j l b. inl (member-here q a todo e)
      | inr k ↦ λ j l b.
          let same = step_rest q k.0 k.1 in
          let laid = laid_out types w q in
          let lay : layout_at types (updated (moved w p a (words_at types w p)) a head) q ≡ layout_at types w q = (keeps-same types (updated (moved w p a (words_at types w p)) a head) w q same).layout_stays in
          let before : j < (layout_at types w q).ref_count = subst (λ (y : Layout). j < y.ref_count) lay b in
          let word : updated (moved w p a (words_at types w p)) a head ((layout_at types (updated (moved w p a (words_at types w p)) a head) q).ref_start + j) ≡ w ((layout_at types w q).ref_start + j) =
          ap (λ (y : Layout). updated (moved w p a (words_at types w p)) a head (y.ref_start + j)) lay
          ∙ same.same ((layout_at types w q).ref_start + j) (omega (arith, laid.begins, laid.ordered)) (omega (arith, before, laid.pointers, laid.refs)) in
          elim (f.looked q j k.0 l before) [
            | inl u ↦ inl (is_in-tail q a todo u)
            | inr (inl o) ↦ inr (inl o)
            | inr (inr (inl forgot)) ↦ inr (inr (inl (subst (λ (x : ℕ). IsTrue (is_in x store.settled) × (remembered x j ≡ false)) (sym (step_name q k.0)) forgot)))
            | inr (inr (inr d)) ↦ inr (inr (inr (subst (IsDone pins (map (moved_to p a) places) held q) (sym word) (done-after held q (w ((layout_at types w q).ref_start + j)) d))))
          ]
    ]

    pub step_follows : Follows types store remembered pins (updated (moved w p a (words_at types w p)) a head) (a ∷ met) (map (moved_to p a) places) (updated name a (name p))
        (name p ∷ found) (a ∷ todo) held less owes
    step_follows = record {
      trace = subst (λ (l : List ℕ). Traces (is_entry store (has_remembered_referrer store remembered)) (refers_unsettled store) (is_unsettled store) (name p ∷ found) l less)
          (ap₂ (λ (x : ℕ) (xs : List ℕ). x ∷ xs) (sym new_name) (sym todo-names))
          (finds (is_entry store (has_remembered_referrer store remembered)) (refers_unsettled store) (is_unsettled store) found (map name todo) less (name p) f.trace (f.waits p c.room.there c.waits).0);
      todo_old = λ q t. elim (is_in-cases q a todo t) [
        | inl e ↦ subst (λ (k : ℕ). IsTrue (is_in k (old_places (map (moved_to p a) places)))) (sym e) (is_in-old (map (moved_to p a) places) a here c.far)
        | inr u ↦ old-after q (f.todo_old q u)
      ];
      lasts = λ x t. by-place (λ k. IsTrue (is_lasting pins k) → IsTrue (is_unsettled store (updated name a (name p) k)) → IsTrue (is_in (updated name a (name p) k) (name p ∷ found))) x
          (λ l u. member-here (updated name a (name p) a) (name p) found new_name)
          (λ there ne l u. subst (λ (k : ℕ). IsTrue (is_in k (name p ∷ found))) (sym (step_name x there))
          (is_in-tail (name x) (name p) found (f.lasts x there l (subst (λ (k : ℕ). IsTrue (is_unsettled store k)) (step_name x there) u)))) t;
      waits = λ x t. by-place (λ k. is_lasting pins k ≡ false → IsTrue (is_unsettled store (updated name a (name p) k)) × (is_in (updated name a (name p) k) (name p ∷ found) ≡ false)) x
          (λ e. absurd (let clash : true ≡ false = sym far-lasts ∙ e in let no : ⊥ = cc in no))
          (λ there ne e. let wait = f.waits x there e in
          subst (λ (k : ℕ). IsTrue (is_unsettled store k) × (is_in k (name p ∷ found) ≡ false)) (sym (step_name x there)) (
            wait.0,
            false-in (name x) (name p ∷ found) (λ u. elim (is_in-cases (name x) (name p) found u) [
              | inl is ↦ ne (h.differ x p there c.room.there is)
              | inr k ↦ not-in (name x) found wait.1 k
            ]),
          )) t;
      gone = λ x t e. elim (is_in-cases x a met t) [
        | inl is ↦ absurd (omega (arith, c.small, new_head, subst (λ (k : ℕ). updated (moved w p a (words_at types w p)) a head k ≡ 18446744073709551615) is e))
        | inr u ↦ gone-each x u (m.each x u) e
      ];
      looked = λ q j t l b. looked-each q t j l b;
    }
