-- What changes no object: words outside all objects, and the flags of headers. And all objects changed by one function.
use Rattle.std.proofs.Common.{◌≡◌, ◌≢◌, ℕ, ◌+◌, ◌%◌, ◌<◌, IsTrue, List, [], ◌∷◌, map, refl, sym, ap, ◌∙◌, subst, inl, inr, arith}
use Rattle.std.proofs.lemmas.Bool.Decides.{eqb_tells}
use Rattle.std.proofs.lemmas.Simd.{map-map}
use Rattle.type_table.specs.declared.info.TypeInfo.{TypeInfo}
use Rattle.type_table.specs.Table.{Table}
use Rattle.object_model.specs.Layout.{Layout}
use Rattle.object_model.specs.Object.{Object}
use Rattle.object_model.specs.Sets.{is_in}
use Rattle.object_model.specs.ObjectWords.{updated, type_id_at, layout_at, object_from, Covers}
use Rattle.object_model.specs.Holds.{HoldsObjects, IsPointer}
use Rattle.object_header.specs.declared.flags.Flag.{Flag}
use Rattle.object_header.specs.Words.{with_flag, without_flag}
use Rattle.object_header.proofs.WordLaws.{type_of-with_flag, type_of-without_flag, IsHeader-with_flag, IsHeader-without_flag}
use Rattle.object_view.proofs.WordLaws.{updated-here, updated-other, words_from-same}
use Rattle.object_model.proofs.Members.{map-same}
use Rattle.object_view.proofs.LayoutLaws.{laid_out, SameAt, KeepsLayout, keeps-same, layout_at-same, object_from-same, object_from-is, object_from-of}
use Rattle.object_view.proofs.ChangeLaws.{covers-kept}

-- Each object is changed by one function, and keeps its type, its birth and its layout.
pub all_hold : {types : Table TypeInfo} {w name : ℕ → ℕ} {met places : List ℕ} {kept : List Object} (v : ℕ → ℕ) (more : List ℕ) (change : Object → Object)
    → HoldsObjects types w met places name kept
    → ((q : ℕ) → IsTrue (is_in q places) → KeepsLayout types v w q)
    → ((q : ℕ) → IsTrue (is_in q places) → object_from types name v q ≡ change (object_from types name w q))
    → ((q j : ℕ) → IsTrue (is_in q places) → j < (layout_at types w q).pointer_count → IsPointer more (v ((layout_at types w q).ref_start + j)))
    → HoldsObjects types v more places name (map change kept)
all_hold {types = types} {w = w} {name = name} {places = places} v more change h keeps own closed = record {
  reads = ap (map change) h.reads ∙ map-map change (object_from types name w) places
      ∙ sym (map-same (object_from types name v) (λ q. change (object_from types name w q)) places own);
  typed = λ q t. rw (keeps q t).type_stays (h.typed q t);
  header = λ q t. (keeps q t).header (h.header q t);
  above = h.above;
  named = λ q t. h.named q t ∙ sym (keeps q t).birth_stays;
  apart = λ q r b t u c d. h.apart q r b t u (covers-kept q b (keeps q t) c) (covers-kept r b (keeps r u) d);
  differ = h.differ;
  closed = λ q j t l. let P : Layout → Type 0 = λ layout. j < layout.pointer_count → IsPointer more (v (layout.ref_start + j)) in
      subst P (sym (keeps q t).layout_stays) (closed q j t) l;
}

map-none : {X : Type 0} → (xs : List X) → map (λ x. x) xs ≡ xs
map-none [] = refl
map-none (x ∷ xs) = ap (λ ys. x ∷ ys) (map-none xs)

-- Objects that are read the same are held the same.
pub same_hold : {types : Table TypeInfo} {w name : ℕ → ℕ} {met places : List ℕ} {kept : List Object} (v : ℕ → ℕ)
    → HoldsObjects types w met places name kept
    → ((q : ℕ) → IsTrue (is_in q places) → KeepsLayout types v w q)
    → ((q : ℕ) → IsTrue (is_in q places) → object_from types name v q ≡ object_from types name w q)
    → ((q j : ℕ) → IsTrue (is_in q places) → j < (layout_at types w q).pointer_count → IsPointer met (v ((layout_at types w q).ref_start + j)))
    → HoldsObjects types v met places name kept
same_hold {types = types} {name = name} {met = met} {places = places} {kept = kept} v h keeps own closed =
    let P : List Object → Type 0 = λ ks. HoldsObjects types v met places name ks in
    subst P (map-none kept) (all_hold v met (λ o. o) h keeps own closed)

-- Words outside all objects change.
pub outside_holds : {types : Table TypeInfo} {w name : ℕ → ℕ} {met places : List ℕ} {kept : List Object} (v : ℕ → ℕ)
    → HoldsObjects types w met places name kept → ((q : ℕ) → IsTrue (is_in q places) → SameAt types v w q)
    → HoldsObjects types v met places name kept
outside_holds {types = types} {w = w} {name = name} {met = met} v h same =
    same_hold v h (λ q t. keeps-same types v w q (same q t)) (λ q t. object_from-same types name v w q (same q t))
    (λ q j t l. let laid = laid_out types w q in
    let e : v ((layout_at types w q).ref_start + j) ≡ w ((layout_at types w q).ref_start + j) =
    (same q t).same ((layout_at types w q).ref_start + j) (omega (arith, laid.begins, laid.ordered)) (omega (arith, laid.pointers, l)) in
    let P : ℕ → Type 0 = λ x. IsPointer met x in subst P (sym e) (h.closed q j t l))

-- One word outside all objects is written.
pub outside_write_holds : {types : Table TypeInfo} {w name : ℕ → ℕ} {met places : List ℕ} {kept : List Object} (at x : ℕ)
    → HoldsObjects types w met places name kept → ((q : ℕ) → IsTrue (is_in q places) → Covers types w q at → ⊥)
    → HoldsObjects types (updated w at x) met places name kept
outside_write_holds {types = types} {w = w} at x h none =
    outside_holds (updated w at x) h (λ q t. record { same = λ b l r. updated-other w at x b (λ e. none q t (omega (arith, e, l), omega (arith, e, r))) })

-- What references may have can be told anew.
pub met_holds : {types : Table TypeInfo} {w name : ℕ → ℕ} {met places : List ℕ} {kept : List Object} (more : List ℕ)
    → HoldsObjects types w met places name kept
    → ((p j : ℕ) → IsTrue (is_in p places) → j < (layout_at types w p).pointer_count → IsPointer more (w ((layout_at types w p).ref_start + j)))
    → HoldsObjects types w more places name kept
met_holds more h closed = record {
  reads = h.reads;
  typed = h.typed;
  header = h.header;
  above = h.above;
  named = h.named;
  apart = h.apart;
  differ = h.differ;
  closed = closed;
}

-- a header with the same type
pub keeps-header : (types : Table TypeInfo) (w : ℕ → ℕ) (p x : ℕ) → x % 65536 ≡ w p % 65536 → x < 67108864
    → KeepsLayout types (updated w p x) w p
keeps-header types w p x e small =
    let here : updated w p x p ≡ x = updated-here w p x p refl in
    let type_stays : type_id_at (updated w p x) p ≡ type_id_at w p = ap (λ y. y % 65536) here ∙ e in
    record {
      type_stays = type_stays;
      header = λ l. omega (arith, here, small);
      birth_stays = updated-other w p x (p + 1) (λ z. absurd (omega (arith, z)));
      layout_stays = layout_at-same types (updated w p x) w p type_stays (λ a b. updated-other w p x (p + 2) (λ z. absurd (omega (arith, z))));
    }

pub header-same : (types : Table TypeInfo) (name w : ℕ → ℕ) (p x : ℕ) → x % 65536 ≡ w p % 65536 → x < 67108864
    → object_from types name (updated w p x) p ≡ object_from types name w p
header-same types name w p x e small =
    let k : Layout = layout_at types w p in let laid = laid_out types w p in
    rw (
      object_from-is types name (updated w p x) w p (keeps-header types w p x e small),
      words_from-same (updated w p x) w k.int_start k.int_count (λ b l r. updated-other w p x b (omega (arith, laid.begins, l))),
      words_from-same (updated w p x) w k.ref_start k.ref_count (λ b l r. updated-other w p x b (omega (arith, laid.begins, laid.ordered, l))),
      updated-other w p x k.ref_start (λ z. absurd (omega (arith, z, laid.begins, laid.ordered))),
    ) (sym (object_from-of types name w p))

-- a word that is the header of no other object
not-covered : {types : Table TypeInfo} {w name : ℕ → ℕ} {met places : List ℕ} {kept : List Object} (p q x : ℕ)
    → HoldsObjects types w met places name kept → IsTrue (is_in p places) → IsTrue (is_in q places) → q ≢ p → SameAt types (updated w p x) w q
not-covered {types = types} {w = w} p q x h t u ne = record {
  same = λ b l r. updated-other w p x b (λ e. ne (h.apart q p b u t (l, r) (omega (arith, e), omega (arith, e, (laid_out types w p).header))));
}

-- The header of an object is written, with the same type: no object changes.
pub header_holds : {types : Table TypeInfo} {w name : ℕ → ℕ} {met places : List ℕ} {kept : List Object} (p x : ℕ)
    → HoldsObjects types w met places name kept → IsTrue (is_in p places) → x % 65536 ≡ w p % 65536 → x < 67108864
    → HoldsObjects types (updated w p x) met places name kept
header_holds {types = types} {w = w} {name = name} {met = met} p x h t e small =
    same_hold (updated w p x) h
    (λ q u. elim (eqb_tells q p) [
      | inl is ↦ let P : ℕ → Type 0 = λ k. KeepsLayout types (updated w p x) w k in subst P (sym is.1) (keeps-header types w p x e small)
      | inr other ↦ keeps-same types (updated w p x) w q (not-covered p q x h t u other.1)
    ])
    (λ q u. elim (eqb_tells q p) [
      | inl is ↦ let P : ℕ → Type 0 = λ k. object_from types name (updated w p x) k ≡ object_from types name w k in subst P (sym is.1) (header-same types name w p x e small)
      | inr other ↦ object_from-same types name (updated w p x) w q (not-covered p q x h t u other.1)
    ])
    (λ q j u l. let laid = laid_out types w q in
    let other : (layout_at types w q).ref_start + j ≢ p = λ z.
    let is : q ≡ p = h.apart q p p u t (omega (arith, z, laid.begins, laid.ordered), omega (arith, z, laid.pointers, l)) (omega arith, omega (arith, (laid_out types w p).header)) in
    absurd (omega (arith, z, is, laid.begins, laid.ordered)) in
    let P : ℕ → Type 0 = λ y. IsPointer met y in subst P (sym (updated-other w p x ((layout_at types w q).ref_start + j) other)) (h.closed q j u l))

-- A flag is set in the header of an object: no object changes.
pub flag_holds : {types : Table TypeInfo} {w name : ℕ → ℕ} {met places : List ℕ} {kept : List Object} (p : ℕ) (flag : Flag)
    → HoldsObjects types w met places name kept → IsTrue (is_in p places)
    → HoldsObjects types (updated w p (with_flag (w p) flag)) met places name kept
flag_holds {w = w} p flag h t = header_holds p (with_flag (w p) flag) h t (type_of-with_flag (w p) flag) (IsHeader-with_flag (w p) flag (h.header p t))

-- A flag is cleared in the header of an object: no object changes.
pub flag_clear_holds : {types : Table TypeInfo} {w name : ℕ → ℕ} {met places : List ℕ} {kept : List Object} (p : ℕ) (flag : Flag)
    → HoldsObjects types w met places name kept → IsTrue (is_in p places)
    → HoldsObjects types (updated w p (without_flag (w p) flag)) met places name kept
flag_clear_holds {w = w} p flag h t = header_holds p (without_flag (w p) flag) h t (type_of-without_flag (w p) flag) (IsHeader-without_flag (w p) flag (h.header p t))

none-there : (p : ℕ) → IsTrue (is_in p []) → ⊥
none-there p t = let no_member : ⊥ = cc in no_member

-- Any words hold no objects at no places.
pub none_hold : (types : Table TypeInfo) (w : ℕ → ℕ) (met : List ℕ) (name : ℕ → ℕ) → HoldsObjects types w met [] name []
none_hold types w met name = record {
  reads = refl;
  typed = λ p t. absurd (none-there p t);
  header = λ p t. absurd (none-there p t);
  above = λ p t. absurd (none-there p t);
  named = λ p t. absurd (none-there p t);
  apart = λ p q at t u c d. absurd (none-there p t);
  differ = λ p q t u e. absurd (none-there p t);
  closed = λ p j t l. absurd (none-there p t);
}
