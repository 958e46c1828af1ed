-- One target, read and written.
use Rattle.std.proofs.Common.{◌≡◌, ℕ, ◌+◌, ◌<◌, Bool, true, false, List, map, refl, sym, ap, ap₂, ◌∙◌, arith}
use Rattle.std.specs.Prelude.{◌==◌, ◌&&◌, not, if◌then◌else◌}
use Rattle.std.proofs.lemmas.Bool.{ne_eqb}
use Rattle.type_table.specs.declared.info.Shape.TheVariants.{Weak}
use Rattle.type_table.specs.declared.info.TypeInfo.{TypeInfo}
use Rattle.type_table.specs.Table.{Table}
use Rattle.heap_space.specs.Places.{Placed, has, word_at, with_word}
use Rattle.heap_space.specs.Memory.{Memory}
use Rattle.heap_space.specs.Extents.{extent_of}
use Rattle.heap_space.proofs.Blocks.{word_at-here, word_at-elsewhere}
use Rattle.heap_space.proofs.ExtentLaws.{extents-with_word}
use Rattle.object_model.specs.ObjectWords.{info_at, words_at}
use Rattle.object_view.specs.declared.fields.ObjView.{ObjView}
use Rattle.object_view.specs.Views.{HasObject, view_at}
use Rattle.object_view.specs.Moving.{place_now}
use Rattle.object_view.proofs.LayoutLaws.{laid_out, weak-at}
use Rattle.object_view.proofs.SpaceLaws.{lies-at}
use Rattle.weak_lists.specs.Targets.{survives, is_gone, followed, is_unvisited, kept_target, target_place, target_at, SetsWord}

-- the target is a word of the object
pub target-item : (types : Table TypeInfo) (w : ℕ → ℕ) (a : ℕ) (v : ObjView) → v ≡ view_at types w a → (info_at types w a).shape ≡ Weak → v.ref_start + 0 < a + v.words
target-item types w a v is weak =
    let laid = laid_out types w a in
    let one = (weak-at types w a weak).0 in
    let start : v.ref_start ≡ target_place types w a = ap (λ (k : ObjView). k.ref_start) is in
    let size : v.words ≡ words_at types w a = ap (λ (k : ObjView). k.words) is in
    omega (arith, start, size, laid.pointers, one)

pub target-read : (types : Table TypeInfo) (w : ℕ → ℕ) (a : ℕ) (v : ObjView) (x : ℕ) → v ≡ view_at types w a → x ≡ w (v.ref_start + 0) → x ≡ target_at types w a
target-read types w a v x is read =
    let start : v.ref_start ≡ target_place types w a = ap (λ (k : ObjView). k.ref_start) is in
    let at : v.ref_start + 0 ≡ target_place types w a = omega (arith, start) in
    read ∙ ap w at

-- and it is written
pub target-set : (types : Table TypeInfo) (m new : Memory) (a : ℕ) (v : ObjView) (x to : ℕ) → HasObject m types a → v ≡ view_at types (word_at m.blocks) a → (info_at types (word_at m.blocks) a).shape ≡ Weak
    → new ≡ record m { blocks = with_word m.blocks (v.ref_start + 0) x } → x ≡ to → SetsWord (target_place types (word_at m.blocks) a) to m new
target-set types m new a v x to h is weak e value =
    let w : ℕ → ℕ = word_at m.blocks in
    let at : ℕ = target_place types w a in
    let laid = laid_out types w a in
    let one = (weak-at types w a weak).0 in
    let here : has m.blocks at ≡ true = lies-at m.blocks a (words_at types w a) at h.whole (omega (arith, laid.begins, laid.ordered)) (omega (arith, laid.pointers, one)) in
    let start : v.ref_start ≡ at = ap (λ (k : ObjView). k.ref_start) is in
    let place : v.ref_start + 0 ≡ at = omega (arith, start) in
    let blocks : new.blocks ≡ with_word m.blocks at to = ap (λ (k : Memory). k.blocks) e ∙ ap₂ (λ (b y : ℕ). with_word m.blocks b y) place value in
    record {
      written = ap (λ (bs : List Placed). word_at bs at) blocks ∙ word_at-here m.blocks at to here;
      elsewhere = λ b ne. ap (λ (bs : List Placed). word_at bs b) blocks ∙ word_at-elsewhere m.blocks at to b ne;
      extents = ap (map extent_of) blocks ∙ extents-with_word m.blocks at to;
      rest = e ∙ ap (λ (bs : List Placed). record m { blocks = bs }) (sym (ap (λ (k : Memory). k.blocks) e));
    }

and-not : (b : Bool) → (b && not true) ≡ false
and-not true = refl
and-not false = refl

-- what becomes of a target that survived, and of one that vanished
pub followed-there : (nursery : ℕ) (w : ℕ → ℕ) (t x now : ℕ) → x ≡ t → now ≡ place_now w x → survives nursery w now ≡ true → now ≡ followed nursery w t
followed-there nursery w t x now is place s =
    let at : place_now w t ≡ now = ap (place_now w) (sym is) ∙ sym place in
    let stays : is_gone nursery w t ≡ false = ap (λ q. not (t == 0) && not (survives nursery w q)) at ∙ (ap (λ b. not (t == 0) && not b) s ∙ and-not (not (t == 0))) in
    sym at ∙ sym (ap (λ (b : Bool). if b then 0 else place_now w t) stays)

pub gone-there : (nursery : ℕ) (w : ℕ → ℕ) (t x now : ℕ) → x ≡ t → (x ≡ 0 → ⊥) → now ≡ place_now w x → survives nursery w now ≡ false → is_gone nursery w t ≡ true
gone-there nursery w t x now is some place s =
    let at : place_now w t ≡ now = ap (place_now w) (sym is) ∙ sym place in
    let full : (t == 0) ≡ false = ne_eqb t 0 (λ z. some (is ∙ z)) in
    ap₂ (λ (b : Bool) (q : ℕ). not b && not (survives nursery w q)) full at ∙ ap not s

pub followed-gone : (nursery : ℕ) (w : ℕ → ℕ) (t x now : ℕ) → x ≡ t → (x ≡ 0 → ⊥) → now ≡ place_now w x → survives nursery w now ≡ false → 0 ≡ followed nursery w t
followed-gone nursery w t x now is some place s = sym (ap (λ (b : Bool). if b then 0 else place_now w t) (gone-there nursery w t x now is some place s))

pub kept-gone : (nursery : ℕ) (w : ℕ → ℕ) (t x : ℕ) → x ≡ t → is_unvisited nursery w x ≡ true → 0 ≡ kept_target nursery w t
kept-gone nursery w t x is u = sym (ap (λ (b : Bool). if b then 0 else t) (ap (is_unvisited nursery w) (sym is) ∙ u))
