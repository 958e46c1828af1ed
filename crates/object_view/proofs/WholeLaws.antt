-- Whole objects stay whole: what a caller of `view` and of the calls with a view has to show.
use Rattle.std.proofs.Common.{◌≡◌, ℕ, true, IsTrue, List, Some, Option, refl, sym, ap, ap₂, ◌∙◌, subst}
use Rattle.std.specs.Prelude.{IsSome}
use Rattle.type_table.specs.declared.info.TypeInfo.{TypeInfo}
use Rattle.type_table.specs.Table.{Table, value_at}
use Rattle.type_table.specs.Words.{words_in}
use Rattle.object_model.specs.Layout.{Layout, layout_of}
use Rattle.object_model.specs.Object.{Object}
use Rattle.object_model.specs.Sets.{is_in}
use Rattle.object_model.specs.ObjectWords.{layout_at, words_at}
use Rattle.object_model.specs.Holds.{HoldsObjects}
use Rattle.heap_space.specs.Places.{Placed, word_at, with_word, with_run, lies_in_one}
use Rattle.heap_space.specs.Memory.{Memory}
use Rattle.heap_space.proofs.Blocks.{lies-with_word, lies-with_run}
use Rattle.object_view.specs.declared.fields.ObjView.{ObjView}
use Rattle.object_view.specs.Births.{born_words}
use Rattle.object_view.specs.Views.{HasObject, HasView, view_at, view_of}
use Rattle.object_view.proofs.LayoutLaws.{KeepsLayout}
use Rattle.object_view.proofs.InitLaws.{with_blocks}
use Rattle.object_view.proofs.NewbornLaws.{IsHeaderOf, BornAt, IsBornAt, born-is, born-type, born-second, born-layout, length-born_words, run-written}

-- an object that words hold is whole where its words lie in one block
pub has_object-held : {types : Table TypeInfo} {m : Memory} {name : ℕ → ℕ} {met places : List ℕ} {kept : List Object} (p : ℕ)
    → HoldsObjects types (word_at m.blocks) met places name kept → IsTrue (is_in p places)
    → lies_in_one m.blocks p (words_at types (word_at m.blocks) p) ≡ true → HasObject m types p
has_object-held p h t lies = record { typed = h.typed p t; whole = lies }

-- a view stays one where a word or a run of words is written
pub has_view-word : {old new : Memory} (v : ObjView) (p a x : ℕ) → new ≡ with_blocks old (with_word old.blocks a x) → HasView old v p → HasView new v p
has_view-word {old = old} {new = new} v p a x is h =
    let P : Memory → Type 0 = λ m. HasView m v p in subst P (sym is) (record {
      whole = lies-with_word old.blocks a x p v.words ∙ h.whole;
      fits = h.fits;
      begins = h.begins;
      ordered = h.ordered;
      ends = h.ends;
    })

pub has_view-run : {old new : Memory} (v : ObjView) (p a : ℕ) (xs : List ℕ) → new ≡ with_blocks old (with_run old.blocks a xs) → HasView old v p → HasView new v p
has_view-run {old = old} {new = new} v p a xs is h =
    let P : Memory → Type 0 = λ m. HasView m v p in subst P (sym is) (record {
      whole = lies-with_run old.blocks a xs p v.words ∙ h.whole;
      fits = h.fits;
      begins = h.begins;
      ordered = h.ordered;
      ends = h.ends;
    })

pub ruleset views = (has_view-word, has_view-run)

-- an object stays whole where its type and its layout stay, and its words lie in one block still
pub has_object-keeps : (old new : Memory) (types : Table TypeInfo) (p : ℕ) → KeepsLayout types (word_at new.blocks) (word_at old.blocks) p
    → ((a n : ℕ) → lies_in_one old.blocks a n ≡ true → lies_in_one new.blocks a n ≡ true) → HasObject old types p → HasObject new types p
has_object-keeps old new types p keeps lies h =
    let P : ℕ → Type 0 = λ t. IsSome (value_at types t) in let Q : Layout → Type 0 = λ layout. lies_in_one new.blocks p layout.words ≡ true in
    record {
      typed = subst P (sym keeps.type_stays) h.typed;
      whole = subst Q (sym keeps.layout_stays) (lies p (words_at types (word_at old.blocks) p) h.whole);
    }

-- what `init` writes is an object as it is born
pub born-written : (ps : List Placed) (types : Table TypeInfo) (a t head birth len x : ℕ) (info : TypeInfo) → value_at types t ≡ Some info → IsHeaderOf t head
    → lies_in_one ps a (words_in info.shape len) ≡ true
    → BornAt types (word_at (with_run ps a (born_words info.shape head birth len x))) (word_at ps) a t head birth len x info
born-written ps types a t head birth len x info known header lies = record {
  known = known;
  header = header;
  run = run-written ps a (born_words info.shape head birth len x) (ap (lies_in_one ps a) (length-born_words info.shape head birth len x) ∙ lies);
}

-- a new object is whole
pub has_object-born : (m : Memory) (types : Table TypeInfo) (a t head birth len x : ℕ) (info : TypeInfo) → value_at types t ≡ Some info → IsHeaderOf t head
    → lies_in_one m.blocks a (words_in info.shape len) ≡ true
    → HasObject (with_blocks m (with_run m.blocks a (born_words info.shape head birth len x))) types a
has_object-born m types a t head birth len x info known header lies =
    let xs : List ℕ = born_words info.shape head birth len x in let v : ℕ → ℕ = word_at (with_run m.blocks a xs) in
    let b : BornAt types v (word_at m.blocks) a t head birth len x info = born-written m.blocks types a t head birth len x info known header lies in
    let born : IsBornAt types v v a 0 t birth len x info = born-is v 0 b in
    let P : Option TypeInfo → Type 0 = λ found. IsSome found in record {
      typed = subst P (sym (ap (value_at types) (born-type b) ∙ known)) refl;
      whole = lies-with_run m.blocks a xs a (words_at types v a) ∙ ap (lies_in_one m.blocks a) born.words ∙ lies;
    }

-- the view of a new object
pub view_at-born : (ps : List Placed) (types : Table TypeInfo) (a t head birth len x : ℕ) (info : TypeInfo) → value_at types t ≡ Some info → IsHeaderOf t head
    → lies_in_one ps a (words_in info.shape len) ≡ true
    → view_at types (word_at (with_run ps a (born_words info.shape head birth len x))) a ≡ view_of t birth (layout_of info.shape a len)
view_at-born ps types a t head birth len x info known header lies =
    let b = born-written ps types a t head birth len x info known header lies in
    ap₂ (λ k n. view_of k n (layout_at types (word_at (with_run ps a (born_words info.shape head birth len x))) a)) (born-type b) (born-second b)
    ∙ ap (view_of t birth) (born-layout b)
