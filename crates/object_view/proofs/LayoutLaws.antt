-- Where the parts of an object lie, and what of it depends on which words.
use Rattle.std.proofs.Common.{◌≡◌, ℕ, ◌+◌, ◌%◌, ◌<◌, ◌≤◌, Option, refl, sym, ap, ap₂, ◌∙◌, arith}
use Rattle.type_table.specs.declared.info.Shape.{Shape}
use Rattle.type_table.specs.declared.info.Shape.TheVariants.{Fixed, IntArray, RefArray, Weak}
use Rattle.type_table.specs.declared.info.TypeInfo.{TypeInfo}
use Rattle.type_table.specs.Table.{Table, value_at}
use Rattle.object_model.specs.Layout.{Layout, layout_of}
use Rattle.object_model.specs.ObjectWords.{words_from, renamed, type_id_at, info_or_weak, info_at, layout_at, words_at, target_of, object_of, object_from}
use Rattle.object_view.proofs.WordLaws.{words_from-same}

-- the parts of an object lie in this order within its words
pub record IsLaidOut (p : ℕ) (l : Layout) : Type 0 where
  pub header : 2 ≤ l.words
  pub begins : p + 2 ≤ l.int_start
  pub ordered : l.int_start + l.int_count ≤ l.ref_start
  pub pointers : l.ref_start + l.pointer_count ≤ p + l.words
  pub refs : l.ref_count ≤ l.pointer_count

pub laid_out-of : (s : Shape) (p third : ℕ) → IsLaidOut p (layout_of s p third)
laid_out-of (Fixed a b) p third =
    record { header = omega arith; begins = omega arith; ordered = omega arith; pointers = omega arith; refs = omega arith }
laid_out-of IntArray p third =
    record { header = omega arith; begins = omega arith; ordered = omega arith; pointers = omega arith; refs = omega arith }
laid_out-of RefArray p third =
    record { header = omega arith; begins = omega arith; ordered = omega arith; pointers = omega arith; refs = omega arith }
laid_out-of Weak p third =
    record { header = omega arith; begins = omega arith; ordered = omega arith; pointers = omega arith; refs = omega arith }

pub laid_out : (types : Table TypeInfo) (w : ℕ → ℕ) (p : ℕ) → IsLaidOut p (layout_at types w p)
unfolding layout_at
laid_out types w p = laid_out-of (info_at types w p).shape p (w (p + 2))

-- a weak object has one pointer and no reference
pub weak-layout : (s : Shape) (p third : ℕ) → s ≡ Weak
    → ((layout_of s p third).pointer_count ≡ 1) × ((layout_of s p third).ref_count ≡ 0)
weak-layout (Fixed a b) p third e = absurd (let no : ⊥ = cc in no)
weak-layout IntArray p third e = absurd (let no : ⊥ = cc in no)
weak-layout RefArray p third e = absurd (let no : ⊥ = cc in no)
weak-layout Weak p third e = (refl, refl)

pub weak-at : (types : Table TypeInfo) (w : ℕ → ℕ) (p : ℕ) → (info_at types w p).shape ≡ Weak
    → ((layout_at types w p).pointer_count ≡ 1) × ((layout_at types w p).ref_count ≡ 0)
unfolding layout_at
weak-at types w p e = weak-layout (info_at types w p).shape p (w (p + 2)) e

-- Layouts depend on the third word of arrays alone, and that is one of theirs.
pub layout_of-same : (s : Shape) (p x y : ℕ)
    → ((layout_of s p y).int_start ≡ p + 3 → 2 < (layout_of s p y).words → x ≡ y)
    → layout_of s p x ≡ layout_of s p y
layout_of-same (Fixed a b) p x y same = refl
layout_of-same IntArray p x y same = ap (layout_of IntArray p) (same refl (omega arith))
layout_of-same RefArray p x y same = ap (layout_of RefArray p) (same refl (omega arith))
layout_of-same Weak p x y same = refl

-- the type, the birth and the layout of the object at a place are the same
pub record KeepsLayout (types : Table TypeInfo) (v w : ℕ → ℕ) (p : ℕ) : Type 0 where
  pub type_stays : type_id_at v p ≡ type_id_at w p
  pub header : w p < 67108864 → v p < 67108864
  pub birth_stays : v (p + 1) ≡ w (p + 1)
  pub layout_stays : layout_at types v p ≡ layout_at types w p

pub layout_at-same : (types : Table TypeInfo) (v w : ℕ → ℕ) (p : ℕ) → type_id_at v p ≡ type_id_at w p
    → ((layout_at types w p).int_start ≡ p + 3 → 2 < words_at types w p → v (p + 2) ≡ w (p + 2))
    → layout_at types v p ≡ layout_at types w p
unfolding layout_at
layout_at-same types v w p same third =
    ap (λ t. layout_of (info_or_weak (value_at types t)).shape p (v (p + 2))) same
    ∙ layout_of-same (info_at types w p).shape p (v (p + 2)) (w (p + 2)) third

-- the words of the object at a place are the same
pub record SameAt (types : Table TypeInfo) (v w : ℕ → ℕ) (p : ℕ) : Type 0 where
  pub same : (b : ℕ) → p ≤ b → b < p + words_at types w p → v b ≡ w b

pub keeps-same : (types : Table TypeInfo) (v w : ℕ → ℕ) (p : ℕ) → SameAt types v w p → KeepsLayout types v w p
keeps-same types v w p same =
    let laid = laid_out types w p in let first : v p ≡ w p = same.same p (omega arith) (omega (arith, laid.header)) in
    record {
      type_stays = ap (λ x. x % 65536) first;
      header = λ l. omega (arith, first, l);
      birth_stays = same.same (p + 1) (omega arith) (omega (arith, laid.header));
      layout_stays = layout_at-same types v w p (ap (λ x. x % 65536) first) (λ e l. same.same (p + 2) (omega arith) (omega (arith, l)));
    }

pub info_at-same : (types : Table TypeInfo) (v w : ℕ → ℕ) (p : ℕ) → type_id_at v p ≡ type_id_at w p
    → info_at types v p ≡ info_at types w p
info_at-same types v w p e = ap (λ t. info_or_weak (value_at types t)) e

pub target_of-same : (s : Shape) (a b : Option ℕ) → (s ≡ Weak → a ≡ b) → target_of s a ≡ target_of s b
target_of-same (Fixed i r) a b e = refl
target_of-same IntArray a b e = refl
target_of-same RefArray a b e = refl
target_of-same Weak a b e = e refl

-- an object is read as that of another layout, type and birth
pub object_from-is : (types : Table TypeInfo) (name v w : ℕ → ℕ) (p : ℕ) → KeepsLayout types v w p
    → object_from types name v p
    ≡ object_of (info_at types w p) (type_id_at w p) (w (p + 1)) name v (layout_at types w p)
unfolding object_from
object_from-is types name v w p k =
    ap₂ (λ t b. object_of (info_or_weak (value_at types t)) t b name v (layout_at types v p)) k.type_stays k.birth_stays
    ∙ ap (object_of (info_at types w p) (type_id_at w p) (w (p + 1)) name v) k.layout_stays

pub object_from-of : (types : Table TypeInfo) (name w : ℕ → ℕ) (p : ℕ)
    → object_from types name w p
    ≡ object_of (info_at types w p) (type_id_at w p) (w (p + 1)) name w (layout_at types w p)
unfolding object_from
object_from-of types name w p = refl

-- an object whose words stay the same stays the same
pub object_from-same : (types : Table TypeInfo) (name v w : ℕ → ℕ) (p : ℕ) → SameAt types v w p
    → object_from types name v p ≡ object_from types name w p
object_from-same types name v w p same =
    let l : Layout = layout_at types w p in let laid = laid_out types w p in
    let ints : words_from v l.int_start l.int_count ≡ words_from w l.int_start l.int_count =
    words_from-same v w l.int_start l.int_count (λ b m r. same.same b (omega (arith, m, laid.begins)) (omega (arith, r, laid.ordered, laid.pointers))) in
    let refs : words_from v l.ref_start l.ref_count ≡ words_from w l.ref_start l.ref_count =
    words_from-same v w l.ref_start l.ref_count (λ b m r. same.same b (omega (arith, m, laid.begins, laid.ordered)) (omega (arith, r, laid.pointers, laid.refs))) in
    let target : target_of (info_at types w p).shape (renamed name (v l.ref_start)) ≡ target_of (info_at types w p).shape (renamed name (w l.ref_start)) =
    target_of-same (info_at types w p).shape (renamed name (v l.ref_start)) (renamed name (w l.ref_start)) (λ e.
    ap (renamed name) (same.same l.ref_start (omega (arith, laid.begins, laid.ordered)) (omega (arith, laid.pointers, (weak-at types w p e).0)))) in
    object_from-is types name v w p (keeps-same types v w p same) ∙ rw (ints, refs, target) (sym (object_from-of types name w p))

-- the birth that is read
pub birth-from : (types : Table TypeInfo) (name w : ℕ → ℕ) (p : ℕ) → (object_from types name w p).birth ≡ w (p + 1)
unfolding object_from
birth-from types name w p = refl
