-- What stays after a minor collection, with targets that are gone cleared.
use Rattle.std.proofs.Common.{◌≡◌, ℕ, ◌+◌, ◌<◌, ◌≤◌, Bool, IsTrue, List, map, filter, Option, refl, sym, ap, ◌∙◌, subst, inl, inr, arith}
use Rattle.std.proofs.lemmas.Bool.{cases_lt}
use Rattle.type_table.specs.declared.info.TypeInfo.{TypeInfo}
use Rattle.type_table.specs.declared.info.Shape.{Shape}
use Rattle.type_table.specs.declared.info.Shape.TheVariants.{Fixed, IntArray, RefArray, Weak}
use Rattle.type_table.specs.Table.{Table}
use Rattle.object_model.specs.Object.{Object}
use Rattle.object_model.specs.Layout.{Layout}
use Rattle.object_model.specs.Sets.{is_in}
use Rattle.object_model.specs.ObjectWords.{words_from, renamed, info_at, layout_at, target_of, object_from}
use Rattle.object_model.specs.Holds.{HoldsObjects, IsPointer}
use Rattle.store_model.specs.MinorCollection.{left_target, clear_target}
use Rattle.object_view.proofs.WordLaws.{words_from-same}
use Rattle.object_view.proofs.LayoutLaws.{laid_out, KeepsLayout, layout_at-same, weak-at, object_from-is, object_from-of}
use Rattle.object_view.proofs.ForwardLaws.{pointer-weak}
use Rattle.object_view.proofs.FrameLaws.{all_hold}
use Rattle.object_view.proofs.SurvivorLaws.{filter_holds}
use Rattle.minor_collect.specs.Ending.{IsCleared, remaining}

-- a word before the references is that of before
before-refs : {types : Table TypeInfo} {v w name : ℕ → ℕ} {gone : ℕ → Bool} {remain : List ℕ} {p : ℕ} → IsCleared types v w gone name remain p → (b : ℕ)
    → p ≤ b → b < (layout_at types w p).ref_start → v b ≡ w b
before-refs {types = types} {w = w} {p = p} c b l r =
    c.same b l (omega (arith, r, (laid_out types w p).pointers)) (λ e f. absurd (omega (arith, r, f)))

-- a reference is that of before
at-ref : {types : Table TypeInfo} {v w name : ℕ → ℕ} {gone : ℕ → Bool} {remain : List ℕ} {p : ℕ} → IsCleared types v w gone name remain p → (j : ℕ)
    → j < (layout_at types w p).ref_count → v ((layout_at types w p).ref_start + j) ≡ w ((layout_at types w p).ref_start + j)
at-ref {types = types} {w = w} {p = p} c j l =
    let laid = laid_out types w p in
    c.same ((layout_at types w p).ref_start + j) (omega (arith, laid.begins, laid.ordered)) (omega (arith, l, laid.pointers, laid.refs))
    (λ e f. absurd (omega (arith, l, (weak-at types w p e).1)))

pub cleared-first : {types : Table TypeInfo} {v w name : ℕ → ℕ} {gone : ℕ → Bool} {remain : List ℕ} {p : ℕ} → IsCleared types v w gone name remain p → v p ≡ w p
cleared-first {types = types} {w = w} {p = p} c = let laid = laid_out types w p in before-refs c p (omega arith) (omega (arith, laid.begins, laid.ordered))

pub cleared-keeps : {types : Table TypeInfo} {v w name : ℕ → ℕ} {gone : ℕ → Bool} {remain : List ℕ} {p : ℕ} → IsCleared types v w gone name remain p → KeepsLayout types v w p
cleared-keeps {types = types} {v = v} {w = w} {p = p} c =
    let laid = laid_out types w p in
    let first : v p ≡ w p = cleared-first c in
    record {
      type_stays = rw first refl;
      header = λ l. rw first l;
      birth_stays = before-refs c (p + 1) (omega arith) (omega (arith, laid.begins, laid.ordered));
      layout_stays = layout_at-same types v w p (rw first refl) (λ e l. before-refs c (p + 2) (omega arith) (omega (arith, e, laid.ordered)));
    }

-- the target by shape
target-cleared : (s : Shape) (gone : ℕ → Bool) (a b : Option ℕ) → (s ≡ Weak → a ≡ left_target gone b) → target_of s a ≡ left_target gone (target_of s b)
target-cleared (Fixed i r) gone a b e = refl
target-cleared IntArray gone a b e = refl
target-cleared RefArray gone a b e = refl
target-cleared Weak gone a b e = e refl

pub object-cleared : {types : Table TypeInfo} {v w name : ℕ → ℕ} {gone : ℕ → Bool} {remain : List ℕ} {p : ℕ} → IsCleared types v w gone name remain p
    → object_from types name v p ≡ clear_target gone (object_from types name w p)
object-cleared {types = types} {v = v} {w = w} {name = name} {gone = gone} {p = p} c =
    let l : Layout = layout_at types w p in let laid = laid_out types w p in
    let ints : words_from v l.int_start l.int_count ≡ words_from w l.int_start l.int_count =
    words_from-same v w l.int_start l.int_count (λ b m r. before-refs c b (omega (arith, m, laid.begins)) (omega (arith, r, laid.ordered))) in
    let refs : words_from v l.ref_start l.ref_count ≡ words_from w l.ref_start l.ref_count =
    words_from-same v w l.ref_start l.ref_count (λ b m r. c.same b (omega (arith, m, laid.begins, laid.ordered)) (omega (arith, r, laid.pointers, laid.refs))
    (λ e f. absurd (omega (arith, m, r, f, (weak-at types w p e).1)))) in
    let target : target_of (info_at types w p).shape (renamed name (v l.ref_start)) ≡ left_target gone (target_of (info_at types w p).shape (renamed name (w l.ref_start))) =
    target-cleared (info_at types w p).shape gone (renamed name (v l.ref_start)) (renamed name (w l.ref_start)) c.target in
    object_from-is types name v w p (cleared-keeps c) ∙ rw (ints, refs, target) (ap (clear_target gone) (sym (object_from-of types name w p)))

-- The objects that stay are held by the words with cleared targets.
pub end_objects : {types : Table TypeInfo} {v w name : ℕ → ℕ} {met places : List ℕ} {kept : List Object} (passes gone : ℕ → Bool)
    → HoldsObjects types w met places name kept
    → ((p j : ℕ) → IsTrue (is_in p (remaining passes name places)) → j < (layout_at types w p).ref_count → IsPointer (remaining passes name places) (w ((layout_at types w p).ref_start + j)))
    → ((p : ℕ) → IsTrue (is_in p (remaining passes name places)) → IsCleared types v w gone name (remaining passes name places) p)
    → HoldsObjects types v (remaining passes name places) (remaining passes name places) name (map (clear_target gone) (filter (λ object. passes object.birth) kept))
end_objects {types = types} {v = v} {w = w} {name = name} {met = met} {places = places} passes gone h refs cleared =
    let remain : List ℕ = remaining passes name places in
    let some = filter_holds met passes h (λ q j t e l. h.closed q j t l) in
    all_hold v remain (clear_target gone) some (λ q t. cleared-keeps (cleared q t)) (λ q t. object-cleared (cleared q t))
    (λ q j t l. elim (cases_lt j (layout_at types w q).ref_count) [
      | inl ref ↦ subst (IsPointer remain) (sym (at-ref (cleared q t) j ref)) (refs q j t ref)
      | inr target ↦
          let weak = pointer-weak types w q j l target in
          subst (λ (k : ℕ). IsPointer remain (v ((layout_at types w q).ref_start + k))) (sym weak.1)
          (subst (λ (k : ℕ). IsPointer remain (v k)) (omega arith) ((cleared q t).leads weak.0))
    ])
