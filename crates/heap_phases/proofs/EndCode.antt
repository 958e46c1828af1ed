-- The end of marking: what the code's writes are to objects. Targets are cleared by one word, marks change first words alone.
use Rattle.std.proofs.Common.{◌≡◌, ◌≢◌, ℕ, ◌+◌, ◌<◌, ◌⊎◌, Bool, true, false, IsTrue, List, refl, sym, ap, ◌∙◌, inl, inr, arith}
use Rattle.std.specs.Prelude.{not, ◌==◌, ◌&&◌, ◌%◌, if◌then◌else◌}
use Rattle.std.proofs.lemmas.Bool.{cases_Bool, eq-eqb, ne_eqb}
use Rattle.std.proofs.lemmas.Bool.Decides.{eqb_tells}
use Rattle.type_table.specs.declared.info.Shape.{Shape}
use Rattle.type_table.specs.declared.info.Shape.TheVariants.{Fixed, IntArray, RefArray, Weak}
use Rattle.type_table.specs.declared.info.TypeInfo.{TypeInfo}
use Rattle.type_table.specs.Table.{Table}
use Rattle.object_view.proofs.WordLaws.{words_from-same}
use Rattle.object_view.proofs.LayoutLaws.{KeepsLayout, laid_out, layout_at-same, object_from-is, object_from-of, weak-at}
use Rattle.object_model.specs.Layout.{Layout}
use Rattle.object_model.specs.Shapes.{is_weak_shape}
use Rattle.object_model.specs.Sets.{is_in}
use Rattle.store_model.specs.MinorCollection.{clear_target, left_target}
use Rattle.object_model.specs.ObjectWords.{words_from, renamed, info_at, layout_at, words_at, target_of, object_from}
use Rattle.heap_parts.specs.Places.{is_weak_at}
use Rattle.object_model.proofs.Members.{and_first}
use Rattle.heap_phases.proofs.EndObjects.{ClearsTargets}

-- the words of the objects afterwards: first words keep types, and of the others only the targets that were cleared change, to nil
pub record ClearsWords (types : Table TypeInfo) (v w : ℕ → ℕ) (places : List ℕ) (cleared : ℕ → Bool) : Type 0 where
  pub types_stay : (p : ℕ) → IsTrue (is_in p places) → v p % 65536 ≡ w p % 65536
  pub headers : (p : ℕ) → IsTrue (is_in p places) → v p < 67108864
  pub words : (p b : ℕ) → IsTrue (is_in p places) → p < b → b < p + words_at types w p
      → v b ≡ (if cleared p && (b == (layout_at types w p).ref_start) then 0 else w b)

-- the targets that are cleared: those of weak objects that lead to what is white
abbrev pub clears : Table TypeInfo → (ℕ → ℕ) → (ℕ → ℕ) → (ℕ → Bool) → ℕ → Bool
clears types w name white p =
    is_weak_at types w p && (not (w (layout_at types w p).ref_start == 0) && white (name (w (layout_at types w p).ref_start)))

weak-shape : (s : Shape) → is_weak_shape s ≡ true → s ≡ Weak
weak-shape (Fixed a b) e = absurd (let no : ⊥ = cc in no)
weak-shape IntArray e = absurd (let no : ⊥ = cc in no)
weak-shape RefArray e = absurd (let no : ⊥ = cc in no)
weak-shape Weak e = refl

target-left : (s : Shape) (white : ℕ → Bool) (name : ℕ → ℕ) (before after : ℕ) → (s ≡ Weak → after ≡ (if not (before == 0) && white (name before) then 0 else before))
    → target_of s (renamed name after) ≡ left_target white (target_of s (renamed name before))
target-left (Fixed a b) white name before after e = refl
target-left IntArray white name before after e = refl
target-left RefArray white name before after e = refl
target-left Weak white name before after e = elim (eqb_tells before 0) [
  | inl z ↦ let same : after ≡ 0 = e refl ∙ (rw z.0 z.1) in rw (same, z.0) refl
  | inr full ↦ elim (cases_Bool (white (name before))) [
    | inl t ↦ let same : after ≡ 0 = e refl ∙ rw (full.0, t) refl in rw (same, full.0) (rw t refl)
    | inr t ↦ let same : after ≡ before = e refl ∙ rw (full.0, t) refl in rw (same, full.0) (rw t refl)
  ]
]

module _ {types : Table TypeInfo} {v w : ℕ → ℕ} {places : List ℕ} (name : ℕ → ℕ) (white : ℕ → Bool) (c : ClearsWords types v w places (clears types w name white)) where
  -- a word that is no target stays
  other-word : (p b : ℕ) → IsTrue (is_in p places) → p < b → b < p + words_at types w p → ((info_at types w p).shape ≡ Weak → b ≢ (layout_at types w p).ref_start) → v b ≡ w b
  other-word p b t l r ne = c.words p b t l r ∙ go (clears types w name white p) refl
    where
      go : (d : Bool) → clears types w name white p ≡ d → (if d && (b == (layout_at types w p).ref_start) then 0 else w b) ≡ w b
      go false e = refl
      go true e = let weak = weak-shape (info_at types w p).shape (and_first (is_weak_at types w p) _ e) in rw (ne_eqb b (layout_at types w p).ref_start (ne weak)) refl

  cleared-keeps : (p : ℕ) → IsTrue (is_in p places) → KeepsLayout types v w p
  cleared-keeps p t =
      let laid = laid_out types w p in
      record {
        type_stays = c.types_stay p t;
        header = λ l. c.headers p t;
        birth_stays = other-word p (p + 1) t (omega arith) (omega (arith, laid.header)) (λ e same. absurd (let no : ⊥ = omega (arith, same, laid.begins, laid.ordered) in no));
        layout_stays = layout_at-same types v w p (c.types_stay p t) (λ first wide. other-word p (p + 2) t (omega arith) (omega (arith, wide))
            (λ e same. absurd (let no : ⊥ = omega (arith, same, first, laid.ordered) in no)));
      }

  target-word : (p : ℕ) → IsTrue (is_in p places) → (info_at types w p).shape ≡ Weak
      → v (layout_at types w p).ref_start ≡ (if not (w (layout_at types w p).ref_start == 0) && white (name (w (layout_at types w p).ref_start)) then 0 else w (layout_at types w p).ref_start)
  target-word p t weak =
      let laid = laid_out types w p in let at : ℕ = (layout_at types w p).ref_start in
      let one = (weak-at types w p weak).0 in
      let is_weak : is_weak_at types w p ≡ true = ap is_weak_shape weak in
      c.words p at t (omega (arith, laid.begins, laid.ordered)) (omega (arith, laid.pointers, one)) ∙ rw (is_weak, eq-eqb at at refl) (both (not (w at == 0) && white (name (w at))) (w at))
    where
      both : (d : Bool) (x : ℕ) → (if d && true then 0 else x) ≡ (if d then 0 else x)
      both true x = refl
      both false x = refl

  cleared-object : (p : ℕ) → IsTrue (is_in p places) → object_from types name v p ≡ clear_target white (object_from types name w p)
  cleared-object p t =
      let l : Layout = layout_at types w p in let laid = laid_out types w p in
      let ints : words_from v l.int_start l.int_count ≡ words_from w l.int_start l.int_count =
      words_from-same v w l.int_start l.int_count (λ b m r. other-word p b t (omega (arith, m, laid.begins)) (omega (arith, r, laid.ordered, laid.pointers))
      (λ e same. absurd (let no : ⊥ = omega (arith, same, r, laid.ordered) in no))) in
      let refs : words_from v l.ref_start l.ref_count ≡ words_from w l.ref_start l.ref_count =
      words_from-same v w l.ref_start l.ref_count (λ b m r. other-word p b t (omega (arith, m, laid.begins, laid.ordered)) (omega (arith, r, laid.pointers, laid.refs))
      (λ e same. absurd (let none = (weak-at types w p e).1 in let no : ⊥ = omega (arith, m, r, none) in no))) in
      let target : target_of (info_at types w p).shape (renamed name (v l.ref_start)) ≡ left_target white (target_of (info_at types w p).shape (renamed name (w l.ref_start))) =
      target-left (info_at types w p).shape white name (w l.ref_start) (v l.ref_start) (target-word p t) in
      object_from-is types name v w p (cleared-keeps p t) ∙ (rw (ints, refs, target) refl ∙ ap (clear_target white) (sym (object_from-of types name w p)))

  cleared-pointer : (p j : ℕ) → IsTrue (is_in p places) → j < (layout_at types w p).pointer_count
      → (v ((layout_at types w p).ref_start + j) ≡ 0) ⊎ (v ((layout_at types w p).ref_start + j) ≡ w ((layout_at types w p).ref_start + j))
  cleared-pointer p j t l =
      let laid = laid_out types w p in let at : ℕ = (layout_at types w p).ref_start + j in
      elim (cases_Bool (clears types w name white p && (at == (layout_at types w p).ref_start))) [
        | inl e ↦ inl (c.words p at t (omega (arith, laid.begins, laid.ordered)) (omega (arith, laid.pointers, l)) ∙ rw e refl)
        | inr e ↦ inr (c.words p at t (omega (arith, laid.begins, laid.ordered)) (omega (arith, laid.pointers, l)) ∙ rw e refl)
      ]

  -- so the words are those that the end of marking wants
  pub clears_targets : ClearsTargets types v w name places white
  clears_targets = record { layouts = cleared-keeps; objects = cleared-object; pointers = cleared-pointer }
