-- What the calls of this crate do to the objects that a memory holds: for callers, who open no layout.
use Rattle.std.proofs.Common.{◌≡◌, ◌≢◌, ℕ, ◌+◌, ◌<◌, ◌≤◌, true, IsTrue, List, [], ◌∷◌, ◌++◌, map, Some, sym, subst, arith}
use Rattle.type_table.specs.declared.info.Shape.TheVariants.{Weak}
use Rattle.type_table.specs.declared.info.TypeInfo.{TypeInfo}
use Rattle.type_table.specs.Table.{Table, value_at}
use Rattle.type_table.specs.Words.{words_in}
use Rattle.object_model.specs.Object.{Object}
use Rattle.object_model.specs.Fields.{changed_at, with_int, with_ref}
use Rattle.object_model.specs.Newborn.{newborn}
use Rattle.object_model.specs.Sets.{is_in}
use Rattle.object_model.specs.ObjectWords.{updated, renamed, info_at, layout_at, words_at, Covers}
use Rattle.object_model.specs.Holds.{HoldsObjects, IsPointer}
use Rattle.heap_space.specs.Places.{Placed, has, word_at, with_word, with_run, run_at, lies_in_one}
use Rattle.object_header.specs.declared.flags.Flag.{Flag}
use Rattle.object_header.specs.Words.{with_flag, without_flag}
use Rattle.object_view.specs.Births.{born_words}
use Rattle.object_view.specs.Moving.{IsMoving, HasFreeRoom, place_now}
use Rattle.object_view.proofs.LayoutLaws.{laid_out, weak-at}
use Rattle.object_view.proofs.SpaceLaws.{word_at-written, lies-at}
use Rattle.object_view.proofs.FieldLaws.{int_holds, ref_holds, target_holds, with_target}
use Rattle.object_view.proofs.FrameLaws.{flag_holds, flag_clear_holds, outside_write_holds}
use Rattle.object_view.proofs.NewbornLaws.{IsFree, IsHeaderOf, birth_holds, request_for}
use Rattle.object_view.proofs.WholeLaws.{born-written}
use Rattle.object_view.proofs.ForwardLaws.{pointer_follows}
use Rattle.object_view.proofs.LeaveLaws.{moved_holds, word_at-moved}
use Rattle.object_view.proofs.MoveLaws.{moved_to}

-- the words of the object at p lie in one block
abbrev pub IsWhole : Table TypeInfo → List Placed → ℕ → Type 0
IsWhole types ps p = lies_in_one ps p (words_at types (word_at ps) p) ≡ true

-- what is held where a word is written at a place of the memory
written-held : (types : Table TypeInfo) (name : ℕ → ℕ) (met places : List ℕ) (kept : List Object) (ps : List Placed) (at x : ℕ) → has ps at ≡ true
    → HoldsObjects types (updated (word_at ps) at x) met places name kept → HoldsObjects types (word_at (with_word ps at x)) met places name kept
written-held types name met places kept ps at x has h =
    let P : (ℕ → ℕ) → Type 0 = λ w. HoldsObjects types w met places name kept in subst P (sym (word_at-written ps at x has)) h

-- a word of a whole object lies in the memory
has-part : (types : Table TypeInfo) (ps : List Placed) (p at : ℕ) → IsWhole types ps p → p ≤ at → at < p + words_at types (word_at ps) p → has ps at ≡ true
has-part types ps p at whole l m = lies-at ps p (words_at types (word_at ps) p) at whole l m

-- `set_int`: a whole number of one object changes.
pub int_held : {types : Table TypeInfo} {name : ℕ → ℕ} {met places : List ℕ} {kept : List Object} (ps : List Placed) (p i x : ℕ)
    → HoldsObjects types (word_at ps) met places name kept → IsTrue (is_in p places) → IsWhole types ps p → i < (layout_at types (word_at ps) p).int_count
    → HoldsObjects types (word_at (with_word ps ((layout_at types (word_at ps) p).int_start + i) x)) met places name (changed_at (Some (name p)) (with_int i x) kept)
int_held {types = types} {name = name} {met = met} {places = places} {kept = kept} ps p i x h t whole l =
    let laid = laid_out types (word_at ps) p in let at : ℕ = (layout_at types (word_at ps) p).int_start + i in
    written-held types name met places (changed_at (Some (name p)) (with_int i x) kept) ps at x
    (has-part types ps p at whole (omega (arith, laid.begins)) (omega (arith, l, laid.ordered, laid.pointers))) (int_holds p i x h t l)

-- `set_ref`: a reference of one object changes.
pub ref_held : {types : Table TypeInfo} {name : ℕ → ℕ} {met places : List ℕ} {kept : List Object} (ps : List Placed) (p i x : ℕ)
    → HoldsObjects types (word_at ps) met places name kept → IsTrue (is_in p places) → IsWhole types ps p → i < (layout_at types (word_at ps) p).ref_count → IsPointer met x
    → HoldsObjects types (word_at (with_word ps ((layout_at types (word_at ps) p).ref_start + i) x)) met places name (changed_at (Some (name p)) (with_ref i (renamed name x)) kept)
ref_held {types = types} {name = name} {met = met} {places = places} {kept = kept} ps p i x h t whole l is =
    let laid = laid_out types (word_at ps) p in let at : ℕ = (layout_at types (word_at ps) p).ref_start + i in
    written-held types name met places (changed_at (Some (name p)) (with_ref i (renamed name x)) kept) ps at x
    (has-part types ps p at whole (omega (arith, laid.begins, laid.ordered)) (omega (arith, l, laid.pointers, laid.refs))) (ref_holds p i x h t l is)

-- `set_ref` with 0: the target of a weak object changes.
pub target_held : {types : Table TypeInfo} {name : ℕ → ℕ} {met places : List ℕ} {kept : List Object} (ps : List Placed) (p x : ℕ)
    → HoldsObjects types (word_at ps) met places name kept → IsTrue (is_in p places) → IsWhole types ps p → (info_at types (word_at ps) p).shape ≡ Weak → IsPointer met x
    → HoldsObjects types (word_at (with_word ps (layout_at types (word_at ps) p).ref_start x)) met places name (changed_at (Some (name p)) (with_target (renamed name x)) kept)
target_held {types = types} {name = name} {met = met} {places = places} {kept = kept} ps p x h t whole weak is =
    let laid = laid_out types (word_at ps) p in let at : ℕ = (layout_at types (word_at ps) p).ref_start in
    written-held types name met places (changed_at (Some (name p)) (with_target (renamed name x)) kept) ps at x
    (has-part types ps p at whole (omega (arith, laid.begins, laid.ordered)) (omega (arith, laid.pointers, (weak-at types (word_at ps) p weak).0))) (target_holds p x h t weak is)

-- a flag is set in a header
pub flag_held : {types : Table TypeInfo} {name : ℕ → ℕ} {met places : List ℕ} {kept : List Object} (ps : List Placed) (p : ℕ) (flag : Flag)
    → HoldsObjects types (word_at ps) met places name kept → IsTrue (is_in p places) → IsWhole types ps p
    → HoldsObjects types (word_at (with_word ps p (with_flag (word_at ps p) flag))) met places name kept
flag_held {types = types} {name = name} {met = met} {places = places} {kept = kept} ps p flag h t whole =
    written-held types name met places kept ps p (with_flag (word_at ps p) flag)
    (has-part types ps p p whole (omega arith) (omega (arith, (laid_out types (word_at ps) p).header))) (flag_holds p flag h t)

-- a flag is cleared in a header
pub flag_clear_held : {types : Table TypeInfo} {name : ℕ → ℕ} {met places : List ℕ} {kept : List Object} (ps : List Placed) (p : ℕ) (flag : Flag)
    → HoldsObjects types (word_at ps) met places name kept → IsTrue (is_in p places) → IsWhole types ps p
    → HoldsObjects types (word_at (with_word ps p (without_flag (word_at ps p) flag))) met places name kept
flag_clear_held {types = types} {name = name} {met = met} {places = places} {kept = kept} ps p flag h t whole =
    written-held types name met places kept ps p (without_flag (word_at ps p) flag)
    (has-part types ps p p whole (omega arith) (omega (arith, (laid_out types (word_at ps) p).header))) (flag_clear_holds p flag h t)

-- a word of no object is written
pub outside_held : {types : Table TypeInfo} {name : ℕ → ℕ} {met places : List ℕ} {kept : List Object} (ps : List Placed) (at x : ℕ)
    → HoldsObjects types (word_at ps) met places name kept → has ps at ≡ true → ((q : ℕ) → IsTrue (is_in q places) → Covers types (word_at ps) q at → ⊥)
    → HoldsObjects types (word_at (with_word ps at x)) met places name kept
outside_held {types = types} {name = name} {met = met} {places = places} {kept = kept} ps at x h has none = written-held types name met places kept ps at x has (outside_write_holds at x h none)

-- `init`: an object is born, and is held beside the others.
pub birth_held : {types : Table TypeInfo} {name : ℕ → ℕ} {met places : List ℕ} {kept : List Object} (ps : List Placed) (a slot t head birth len x : ℕ) (info : TypeInfo)
    → HoldsObjects types (word_at ps) met places name kept → value_at types t ≡ Some info → IsHeaderOf t head → lies_in_one ps a (words_in info.shape len) ≡ true
    → IsFree types (word_at ps) met places a (words_in info.shape len) → ((q : ℕ) → IsTrue (is_in q places) → name q ≢ birth) → IsPointer (met ++ a ∷ []) x
    → HoldsObjects types (word_at (with_run ps a (born_words info.shape head birth len x))) (met ++ a ∷ []) (places ++ a ∷ []) (updated name a birth)
    (kept ++ newborn birth info (request_for (updated name a birth) slot t len info.shape x) ∷ [])
birth_held {types = types} ps a slot t head birth len x info h known header lies free fresh is =
    birth_holds slot h free (born-written ps types a t head birth len x info known header lies) fresh is

-- a pointer of an object follows to where its object is now
pub follow_held : {types : Table TypeInfo} {name : ℕ → ℕ} {met places : List ℕ} {kept : List Object} (ps : List Placed) (p i : ℕ)
    → HoldsObjects types (word_at ps) met places name kept → IsMoving types (word_at ps) met places name → IsTrue (is_in p places) → IsWhole types ps p → i < (layout_at types (word_at ps) p).pointer_count
    → HoldsObjects types (word_at (with_word ps ((layout_at types (word_at ps) p).ref_start + i) (place_now (word_at ps) (word_at ps ((layout_at types (word_at ps) p).ref_start + i))))) met places name kept
follow_held {types = types} {name = name} {met = met} {places = places} {kept = kept} ps p i h moving t whole l =
    let laid = laid_out types (word_at ps) p in let at : ℕ = (layout_at types (word_at ps) p).ref_start + i in
    written-held types name met places kept ps at (place_now (word_at ps) (word_at ps at))
    (has-part types ps p at whole (omega (arith, laid.begins, laid.ordered)) (omega (arith, l, laid.pointers))) (pointer_follows p i h moving t l).holds

-- the words of an object that moved
pub moved_held : {types : Table TypeInfo} {name : ℕ → ℕ} {met places : List ℕ} {kept : List Object} (ps : List Placed) (p a : ℕ)
    → HoldsObjects types (word_at ps) met places name kept → IsWhole types ps p → HasFreeRoom types (word_at ps) met places p a → lies_in_one ps a (words_at types (word_at ps) p) ≡ true
    → HoldsObjects types (word_at (with_word (with_word (with_run ps a (run_at ps p (words_at types (word_at ps) p))) p 18446744073709551615) (p + 1) a))
    (a ∷ met) (map (moved_to p a) places) (updated name a (name p)) kept
moved_held {types = types} {name = name} {met = met} {places = places} {kept = kept} ps p a h whole room lies =
    let n : ℕ = words_at types (word_at ps) p in let laid = laid_out types (word_at ps) p in
    let P : (ℕ → ℕ) → Type 0 = λ w. HoldsObjects types w (a ∷ met) (map (moved_to p a) places) (updated name a (name p)) kept in
    subst P (sym (word_at-moved ps p a n lies (has-part types ps p p whole (omega arith) (omega (arith, laid.header))) (has-part types ps p (p + 1) whole (omega arith) (omega (arith, laid.header)))))
    (moved_holds h room)
