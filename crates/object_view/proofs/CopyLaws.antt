-- An object that is copied elsewhere is read there as it was.
use Rattle.std.proofs.Common.{◌≡◌, ℕ, ◌+◌, ◌-◌, ◌%◌, ◌<◌, ◌≤◌, refl, sym, ap, ◌∙◌, subst, arith}
use Rattle.type_table.specs.declared.info.Shape.{Shape}
use Rattle.type_table.specs.declared.info.Shape.TheVariants.{Fixed, IntArray, RefArray, Weak}
use Rattle.type_table.specs.declared.info.TypeInfo.{TypeInfo}
use Rattle.type_table.specs.Table.{Table, value_at}
use Rattle.object_model.specs.Layout.{Layout, layout_of}
use Rattle.object_model.specs.ObjectWords.{words_from, renamed, type_id_at, info_or_weak, info_at, layout_at, words_at, target_of, object_from}
use Rattle.object_view.proofs.WordLaws.{words_from-shift}
use Rattle.object_view.proofs.LayoutLaws.{laid_out, weak-at, target_of-same, layout_of-same, object_from-of}

-- the words of the object at b stand from a on
pub record IsCopied (types : Table TypeInfo) (v w : ℕ → ℕ) (a b : ℕ) : Type 0 where
  pub same : (k : ℕ) → k < words_at types w b → v (a + k) ≡ w (b + k)

copy-at : {types : Table TypeInfo} {v w : ℕ → ℕ} {a b : ℕ} (x y k : ℕ) → IsCopied types v w a b → k < words_at types w b
    → x ≡ a + k → y ≡ b + k → v x ≡ w y
copy-at {v = v} {w = w} x y k c l e f = ap v e ∙ c.same k l ∙ sym (ap w f)

-- the layouts of an object at two places
pub record IsLike (a b : ℕ) (x y : Layout) : Type 0 where
  pub words : x.words ≡ y.words
  pub int_count : x.int_count ≡ y.int_count
  pub ref_count : x.ref_count ≡ y.ref_count
  pub pointer_count : x.pointer_count ≡ y.pointer_count
  pub int_start : x.int_start + b ≡ y.int_start + a
  pub ref_start : x.ref_start + b ≡ y.ref_start + a

like-of : (s : Shape) (a b third : ℕ) → IsLike a b (layout_of s a third) (layout_of s b third)
like-of (Fixed i r) a b third =
    record { words = refl; int_count = refl; ref_count = refl; pointer_count = refl; int_start = omega arith; ref_start = omega arith }
like-of IntArray a b third =
    record { words = refl; int_count = refl; ref_count = refl; pointer_count = refl; int_start = omega arith; ref_start = omega arith }
like-of RefArray a b third =
    record { words = refl; int_count = refl; ref_count = refl; pointer_count = refl; int_start = omega arith; ref_start = omega arith }
like-of Weak a b third =
    record { words = refl; int_count = refl; ref_count = refl; pointer_count = refl; int_start = omega arith; ref_start = omega arith }

pub copy-header : {types : Table TypeInfo} {v w : ℕ → ℕ} {a b : ℕ} → IsCopied types v w a b → v a ≡ w b
copy-header {types = types} {w = w} {a = a} {b = b} c =
    copy-at a b 0 c (omega (arith, (laid_out types w b).header)) (omega arith) (omega arith)

pub copy-birth : {types : Table TypeInfo} {v w : ℕ → ℕ} {a b : ℕ} → IsCopied types v w a b → v (a + 1) ≡ w (b + 1)
copy-birth {types = types} {w = w} {a = a} {b = b} c =
    copy-at (a + 1) (b + 1) 1 c (omega (arith, (laid_out types w b).header)) (omega arith) (omega arith)

pub copy-type : {types : Table TypeInfo} {v w : ℕ → ℕ} {a b : ℕ} → IsCopied types v w a b → type_id_at v a ≡ type_id_at w b
copy-type c = ap (λ x. x % 65536) (copy-header c)

pub copy-info : {types : Table TypeInfo} {v w : ℕ → ℕ} {a b : ℕ} → IsCopied types v w a b → info_at types v a ≡ info_at types w b
copy-info {types = types} c = ap (λ t. info_or_weak (value_at types t)) (copy-type c)

-- the layout of the copy
copy-layout : {types : Table TypeInfo} {v w : ℕ → ℕ} {a b : ℕ} → IsCopied types v w a b
    → layout_at types v a ≡ layout_of (info_at types w b).shape a (w (b + 2))
unfolding layout_at
copy-layout {types = types} {v = v} {w = w} {a = a} {b = b} c =
    let s : Shape = (info_at types w b).shape in
    ap (λ i. layout_of i.shape a (v (a + 2))) (copy-info c)
    ∙ layout_of-same s a (v (a + 2)) (w (b + 2)) (λ e l. copy-at (a + 2) (b + 2) 2 c (omega (arith, l, (like-of s a b (w (b + 2))).words)) refl refl)

like-copy : {types : Table TypeInfo} {v w : ℕ → ℕ} {a b : ℕ} → IsCopied types v w a b
    → IsLike a b (layout_of (info_at types w b).shape a (w (b + 2))) (layout_at types w b)
unfolding layout_at
like-copy {types = types} {w = w} {a = a} {b = b} c = like-of (info_at types w b).shape a b (w (b + 2))

pub copy-like : {types : Table TypeInfo} {v w : ℕ → ℕ} {a b : ℕ} → IsCopied types v w a b
    → IsLike a b (layout_at types v a) (layout_at types w b)
copy-like {types = types} {w = w} {a = a} {b = b} c =
    let P : Layout → Type 0 = λ layout. IsLike a b layout (layout_at types w b) in subst P (sym (copy-layout c)) (like-copy c)

-- a word of the object that is no header, at both places
pub copy-part : {types : Table TypeInfo} {v w : ℕ → ℕ} {a b : ℕ} (x y : ℕ) → IsCopied types v w a b
    → x + b ≡ y + a → b ≤ y → y < b + words_at types w b → v x ≡ w y
copy-part {a = a} {b = b} x y c e l m = copy-at x y (y - b) c (omega (arith, l, m)) (omega (arith, e, l)) (omega (arith, l))

-- the copy is the same object
pub object_from-copy : {types : Table TypeInfo} {v w : ℕ → ℕ} {a b : ℕ} (name : ℕ → ℕ) → IsCopied types v w a b
    → object_from types name v a ≡ object_from types name w b
object_from-copy {types = types} {v = v} {w = w} {a = a} {b = b} name c =
    let x : Layout = layout_at types v a in let y : Layout = layout_at types w b in
    let like : IsLike a b x y = copy-like c in let laid = laid_out types w b in
    let ints : words_from v x.int_start x.int_count ≡ words_from w y.int_start y.int_count =
    ap (words_from v x.int_start) like.int_count ∙ words_from-shift v w x.int_start y.int_start y.int_count
    (λ k l. copy-part (x.int_start + k) (y.int_start + k) c (omega (arith, like.int_start)) (omega (arith, laid.begins)) (omega (arith, l, laid.ordered, laid.pointers))) in
    let refs : words_from v x.ref_start x.ref_count ≡ words_from w y.ref_start y.ref_count =
    ap (words_from v x.ref_start) like.ref_count ∙ words_from-shift v w x.ref_start y.ref_start y.ref_count
    (λ k l. copy-part (x.ref_start + k) (y.ref_start + k) c (omega (arith, like.ref_start)) (omega (arith, laid.begins, laid.ordered)) (omega (arith, l, laid.pointers, laid.refs))) in
    let target : target_of (info_at types w b).shape (renamed name (v x.ref_start)) ≡ target_of (info_at types w b).shape (renamed name (w y.ref_start)) =
    target_of-same (info_at types w b).shape (renamed name (v x.ref_start)) (renamed name (w y.ref_start)) (λ e.
    ap (renamed name) (copy-part x.ref_start y.ref_start c like.ref_start (omega (arith, laid.begins, laid.ordered)) (omega (arith, laid.pointers, (weak-at types w b e).0)))) in
    object_from-of types name v a
    ∙ rw (copy-info c, copy-type c, copy-birth c, ints, refs, target) (sym (object_from-of types name w b))
