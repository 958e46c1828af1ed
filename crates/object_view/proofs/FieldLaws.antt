-- A whole number, a reference or a target is written: the object that has it changes, and no other.
use Rattle.std.proofs.Common.{◌≡◌, ℕ, ◌+◌, ◌<◌, ◌≤◌, IsTrue, List, Some, Option, set, refl, sym, ap, ◌∙◌, arith}
use Rattle.std.proofs.lemmas.List.{map-set}
use Rattle.type_table.specs.declared.info.Shape.{Shape}
use Rattle.type_table.specs.declared.info.Shape.TheVariants.{Fixed, IntArray, RefArray, Weak}
use Rattle.type_table.specs.declared.info.TypeInfo.{TypeInfo}
use Rattle.type_table.specs.Table.{Table}
use Rattle.object_model.specs.Layout.{Layout}
use Rattle.object_model.specs.Object.{Object}
use Rattle.object_model.specs.Fields.{changed_at, with_int, with_ref}
use Rattle.object_model.specs.Sets.{is_in}
use Rattle.object_model.specs.ObjectWords.{words_from, updated, renamed, type_id_at, info_at, layout_at, target_of, object_of, object_from}
use Rattle.object_model.specs.Holds.{HoldsObjects, IsPointer}
use Rattle.object_view.proofs.WordLaws.{updated-here, updated-other, words_from-same, words_from-set}
use Rattle.object_view.proofs.LayoutLaws.{laid_out, weak-at, target_of-same, object_from-is, object_from-of}
use Rattle.object_view.proofs.ChangeLaws.{changed_holds, changes-updated, keeps-updated}

-- the object that is read where a word behind its header was written
written-is : (types : Table TypeInfo) (name w : ℕ → ℕ) (p at x : ℕ) → (layout_at types w p).int_start ≤ at
    → object_from types name (updated w at x) p
    ≡ object_of (info_at types w p) (type_id_at w p) (w (p + 1)) name (updated w at x) (layout_at types w p)
written-is types name w p at x behind = object_from-is types name (updated w at x) w p (keeps-updated types w p at x behind)

-- a whole number is written
pub int-written : (types : Table TypeInfo) (name w : ℕ → ℕ) (p i x : ℕ) → i < (layout_at types w p).int_count
    → object_from types name (updated w ((layout_at types w p).int_start + i) x) p
    ≡ with_int i x (object_from types name w p)
int-written types name w p i x l =
    let k : Layout = layout_at types w p in let laid = laid_out types w p in
    let at : ℕ = k.int_start + i in let v : ℕ → ℕ = updated w at x in
    let ints : words_from v k.int_start k.int_count ≡ set (words_from w k.int_start k.int_count) i x =
    words_from-set w k.int_start i k.int_count x at refl l in
    let refs : words_from v k.ref_start k.ref_count ≡ words_from w k.ref_start k.ref_count =
    words_from-same v w k.ref_start k.ref_count (λ b m r. updated-other w at x b (omega (arith, laid.ordered, l, m))) in
    let target : v k.ref_start ≡ w k.ref_start = updated-other w at x k.ref_start (omega (arith, laid.ordered, l)) in
    written-is types name w p at x (omega arith) ∙ rw (ints, refs, target) (ap (with_int i x) (sym (object_from-of types name w p)))

-- a reference is written
pub ref-written : (types : Table TypeInfo) (name w : ℕ → ℕ) (p i x : ℕ) → i < (layout_at types w p).ref_count
    → object_from types name (updated w ((layout_at types w p).ref_start + i) x) p
    ≡ with_ref i (renamed name x) (object_from types name w p)
ref-written types name w p i x l =
    let k : Layout = layout_at types w p in let laid = laid_out types w p in
    let at : ℕ = k.ref_start + i in let v : ℕ → ℕ = updated w at x in
    let ints : words_from v k.int_start k.int_count ≡ words_from w k.int_start k.int_count =
    words_from-same v w k.int_start k.int_count (λ b m r. updated-other w at x b (omega (arith, laid.ordered, r))) in
    let refs : words_from v k.ref_start k.ref_count ≡ set (words_from w k.ref_start k.ref_count) i x =
    words_from-set w k.ref_start i k.ref_count x at refl l in
    let target : target_of (info_at types w p).shape (renamed name (v k.ref_start)) ≡ target_of (info_at types w p).shape (renamed name (w k.ref_start)) =
    target_of-same (info_at types w p).shape (renamed name (v k.ref_start)) (renamed name (w k.ref_start)) (λ e. absurd (omega (arith, l, (weak-at types w p e).1))) in
    written-is types name w p at x (omega (arith, laid.ordered))
    ∙ rw (ints, refs, target, map-set (renamed name) (words_from w k.ref_start k.ref_count) i x) (ap (with_ref i (renamed name x)) (sym (object_from-of types name w p)))

-- the object with another target
abbrev pub with_target : Option ℕ → Object → Object
with_target target object = record object { target = target }

weak-target : (s : Shape) (t : Option ℕ) → s ≡ Weak → target_of s t ≡ t
weak-target (Fixed a b) t e = absurd (let no : ⊥ = cc in no)
weak-target IntArray t e = absurd (let no : ⊥ = cc in no)
weak-target RefArray t e = absurd (let no : ⊥ = cc in no)
weak-target Weak t e = refl

-- the target of a weak object is written
pub target-written : (types : Table TypeInfo) (name w : ℕ → ℕ) (p x : ℕ) → (info_at types w p).shape ≡ Weak
    → object_from types name (updated w (layout_at types w p).ref_start x) p
    ≡ with_target (renamed name x) (object_from types name w p)
target-written types name w p x e =
    let k : Layout = layout_at types w p in let laid = laid_out types w p in
    let at : ℕ = k.ref_start in let v : ℕ → ℕ = updated w at x in
    let ints : words_from v k.int_start k.int_count ≡ words_from w k.int_start k.int_count =
    words_from-same v w k.int_start k.int_count (λ b m r. updated-other w at x b (omega (arith, laid.ordered, r))) in
    let refs : words_from v k.ref_start k.ref_count ≡ words_from w k.ref_start k.ref_count =
    words_from-same v w k.ref_start k.ref_count (λ b m r. absurd (omega (arith, m, r, (weak-at types w p e).1))) in
    let target : target_of (info_at types w p).shape (renamed name (v k.ref_start)) ≡ renamed name x =
    weak-target (info_at types w p).shape (renamed name (v k.ref_start)) e ∙ ap (renamed name) (updated-here w at x k.ref_start refl) in
    written-is types name w p at x (omega (arith, laid.ordered)) ∙ rw (ints, refs, target) (ap (with_target (renamed name x)) (sym (object_from-of types name w p)))

-- A whole number of an object is written: that object alone changes, and only there.
pub int_holds : {types : Table TypeInfo} {w name : ℕ → ℕ} {met places : List ℕ} {kept : List Object} (p i x : ℕ)
    → HoldsObjects types w met places name kept → IsTrue (is_in p places) → i < (layout_at types w p).int_count
    → HoldsObjects types (updated w ((layout_at types w p).int_start + i) x) met places name (changed_at (Some (name p)) (with_int i x) kept)
int_holds {types = types} {w = w} {name = name} p i x h t l =
    let laid = laid_out types w p in
    changed_holds (with_int i x) h (changes-updated p ((layout_at types w p).int_start + i) x h t (omega arith) (omega (arith, l, laid.ordered, laid.pointers))
    (λ j m e. absurd (omega (arith, e, l, laid.ordered)))) (int-written types name w p i x l)

-- A reference of an object is written: that object alone changes, and only there.
pub ref_holds : {types : Table TypeInfo} {w name : ℕ → ℕ} {met places : List ℕ} {kept : List Object} (p i x : ℕ)
    → HoldsObjects types w met places name kept → IsTrue (is_in p places) → i < (layout_at types w p).ref_count → IsPointer met x
    → HoldsObjects types (updated w ((layout_at types w p).ref_start + i) x) met places name (changed_at (Some (name p)) (with_ref i (renamed name x)) kept)
ref_holds {types = types} {w = w} {name = name} p i x h t l is =
    let laid = laid_out types w p in
    changed_holds (with_ref i (renamed name x)) h (changes-updated p ((layout_at types w p).ref_start + i) x h t (omega (arith, laid.ordered)) (omega (arith, l, laid.pointers, laid.refs))
    (λ j m e. is)) (ref-written types name w p i x l)

-- The target of a weak object is written: that object alone changes.
pub target_holds : {types : Table TypeInfo} {w name : ℕ → ℕ} {met places : List ℕ} {kept : List Object} (p x : ℕ)
    → HoldsObjects types w met places name kept → IsTrue (is_in p places) → (info_at types w p).shape ≡ Weak → IsPointer met x
    → HoldsObjects types (updated w (layout_at types w p).ref_start x) met places name (changed_at (Some (name p)) (with_target (renamed name x)) kept)
target_holds {types = types} {w = w} {name = name} p x h t weak is =
    let laid = laid_out types w p in
    changed_holds (with_target (renamed name x)) h (changes-updated p (layout_at types w p).ref_start x h t (omega (arith, laid.ordered)) (omega (arith, laid.pointers, (weak-at types w p weak).0))
    (λ j m e. is)) (target-written types name w p x weak)
