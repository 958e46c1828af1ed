-- A view and the places of its parts.
use Rattle.std.proofs.Common.{◌≡◌, ℕ, ◌+◌, ◌%◌, ◌^◌, ◌<◌, ◌≤◌, ◌⊎◌, true, sym, ap, ap₂, ◌∙◌, subst, inl, inr, arith}
use Rattle.type_table.specs.declared.info.Shape.{Shape}
use Rattle.type_table.specs.declared.info.Shape.TheVariants.{IntArray, RefArray}
use Rattle.type_table.specs.declared.info.TypeInfo.{TypeInfo}
use Rattle.type_table.specs.Table.{Table, value_at}
use Rattle.object_model.specs.Layout.{Layout, layout_of}
use Rattle.object_model.specs.ObjectWords.{type_id_at, info_or_weak, info_at, layout_at, words_at}
use Rattle.heap_space.specs.Places.{has, word_at, lies_in_one}
use Rattle.heap_space.specs.Memory.{Memory}
use Rattle.heap_space.specs.Order.{IsInOrder}
use Rattle.object_view.specs.declared.fields.ObjView.{ObjView}
use Rattle.object_view.specs.Views.{HasObject, HasView, view_of, view_at}
use Rattle.object_view.proofs.LayoutLaws.{laid_out}
use Rattle.object_view.proofs.SpaceLaws.{lies-at, lies-fits}

-- items of a view lie in the memory
pub has-int : (m : Memory) (v : ObjView) (a i : ℕ) → HasView m v a → i < v.int_count → has m.blocks (v.int_start + i) ≡ true
has-int m v a i h l =
    lies-at m.blocks a v.words (v.int_start + i) h.whole (omega (arith, h.begins)) (omega (arith, l, h.ordered, h.ends))

pub has-ref : (m : Memory) (v : ObjView) (a i : ℕ) → HasView m v a → v.ref_start + i < a + v.words
    → has m.blocks (v.ref_start + i) ≡ true
has-ref m v a i h l = lies-at m.blocks a v.words (v.ref_start + i) h.whole (omega (arith, h.begins, h.ordered)) l

-- a whole object has a view
pub has_view-of : (m : Memory) (types : Table TypeInfo) (a : ℕ) → IsInOrder m → HasObject m types a
    → HasView m (view_at types (word_at m.blocks) a) a
has_view-of m types a o h =
    let laid = laid_out types (word_at m.blocks) a in record {
      whole = h.whole;
      fits = omega (arith, (lies-fits m a (words_at types (word_at m.blocks) a) o (omega (arith, laid.header)) h.whole).1);
      begins = laid.begins;
      ordered = laid.ordered;
      ends = omega (arith, laid.pointers, laid.refs);
    }

-- the header and the birth of a whole object lie in the memory, and all its places fit
pub record HasHeader (m : Memory) (types : Table TypeInfo) (a : ℕ) : Type 0 where
  pub header : has m.blocks a ≡ true
  pub birth : has m.blocks (a + 1) ≡ true
  pub fits : a + words_at types (word_at m.blocks) a < 2 ^ 63
  pub some : 2 ≤ words_at types (word_at m.blocks) a

pub has_header : (m : Memory) (types : Table TypeInfo) (a : ℕ) → IsInOrder m → HasObject m types a → HasHeader m types a
has_header m types a o h =
    let laid = laid_out types (word_at m.blocks) a in let n : ℕ = words_at types (word_at m.blocks) a in record {
      header = lies-at m.blocks a n a h.whole (omega arith) (omega (arith, laid.header));
      birth = lies-at m.blocks a n (a + 1) h.whole (omega arith) (omega (arith, laid.header));
      fits = (lies-fits m a n o (omega (arith, laid.header)) h.whole).1;
      some = laid.header;
    }

-- the length of an array lies in the memory, and its place fits
pub record HasLength (m : Memory) (a : ℕ) : Type 0 where
  pub place : has m.blocks (a + 2) ≡ true
  pub fits : a + 3 < 2 ^ 63

array-words : (s : Shape) (a third : ℕ) → (s ≡ IntArray) ⊎ (s ≡ RefArray) → 3 ≤ (layout_of s a third).words
array-words s a third (inl e) = rw e (omega arith)
array-words s a third (inr e) = rw e (omega arith)

pub has_length : (m : Memory) (s : Shape) (a third : ℕ) → IsInOrder m → (s ≡ IntArray) ⊎ (s ≡ RefArray)
    → lies_in_one m.blocks a (layout_of s a third).words ≡ true → HasLength m a
has_length m s a third o is lies =
    let l = array-words s a third is in record {
      place = lies-at m.blocks a (layout_of s a third).words (a + 2) lies (omega arith) (omega (arith, l));
      fits = omega (arith, l, (lies-fits m a (layout_of s a third).words o (omega (arith, l)) lies).1);
    }

-- What the code reads of an object: the type in its header, and that type's descriptor.
pub record Reads (m : Memory) (types : Table TypeInfo) (a word id : ℕ) (info : TypeInfo) : Type 0 where
  pub header : word ≡ word_at m.blocks a
  pub type_read : id ≡ word % 65536
  pub found : info ≡ info_or_weak (value_at types id)

pub type-read : {m : Memory} {types : Table TypeInfo} {a word id : ℕ} {info : TypeInfo} → Reads m types a word id info
    → id ≡ type_id_at (word_at m.blocks) a
type-read r = r.type_read ∙ ap (λ x. x % 65536) r.header

pub info-read : {m : Memory} {types : Table TypeInfo} {a word id : ℕ} {info : TypeInfo} → Reads m types a word id info
    → info ≡ info_at types (word_at m.blocks) a
info-read {types = types} r = r.found ∙ ap (λ t. info_or_weak (value_at types t)) (type-read r)

layout-third : {m : Memory} {types : Table TypeInfo} {a word id : ℕ} {info : TypeInfo} → Reads m types a word id info
    → layout_at types (word_at m.blocks) a ≡ layout_of info.shape a (word_at m.blocks (a + 2))
unfolding layout_at
layout-third {m = m} {a = a} r = ap (λ i. layout_of i.shape a (word_at m.blocks (a + 2))) (sym (info-read r))

pub lies-read : {m : Memory} {types : Table TypeInfo} {a word id : ℕ} {info : TypeInfo} → Reads m types a word id info
    → HasObject m types a → lies_in_one m.blocks a (layout_of info.shape a (word_at m.blocks (a + 2))).words ≡ true
lies-read {m = m} {a = a} r h =
    let P : Layout → Type 0 = λ layout. lies_in_one m.blocks a layout.words ≡ true in subst P (layout-third r) h.whole

pub words-read : {m : Memory} {types : Table TypeInfo} {a word id : ℕ} {info : TypeInfo} (len : ℕ) → Reads m types a word id info
    → layout_of info.shape a len ≡ layout_of info.shape a (word_at m.blocks (a + 2))
    → (layout_of info.shape a len).words ≡ words_at types (word_at m.blocks) a
words-read len r same = ap (λ layout. layout.words) (same ∙ sym (layout-third r))

pub fits-read : {m : Memory} {types : Table TypeInfo} {a word id : ℕ} {info : TypeInfo} (len : ℕ) → Reads m types a word id info
    → IsInOrder m → HasObject m types a → layout_of info.shape a len ≡ layout_of info.shape a (word_at m.blocks (a + 2))
    → a + (layout_of info.shape a len).words < 2 ^ 64
fits-read {m = m} {types = types} {a = a} {info = info} len r o h same =
    omega (arith, words-read len r same, (has_header m types a o h).fits)

pub view-read : {m : Memory} {types : Table TypeInfo} {a word id : ℕ} {info : TypeInfo} (len birth : ℕ) (v : ObjView)
    → Reads m types a word id info → birth ≡ word_at m.blocks (a + 1)
    → layout_of info.shape a len ≡ layout_of info.shape a (word_at m.blocks (a + 2))
    → v ≡ view_of id birth (layout_of info.shape a len) → v ≡ view_at types (word_at m.blocks) a
view-read {m = m} {types = types} {a = a} {id = id} {info = info} len birth v r born same is =
    is ∙ ap₂ (λ t b. view_of t b (layout_of info.shape a len)) (type-read r) born
    ∙ ap (view_of (type_id_at (word_at m.blocks) a) (word_at m.blocks (a + 1))) (same ∙ sym (layout-third r))

pub whole-read : (m : Memory) (types : Table TypeInfo) (a : ℕ) (v : ObjView) → IsInOrder m → HasObject m types a
    → v ≡ view_at types (word_at m.blocks) a → HasView m v a
whole-read m types a v o h is = let P : ObjView → Type 0 = λ k. HasView m k a in subst P (sym is) (has_view-of m types a o h)
