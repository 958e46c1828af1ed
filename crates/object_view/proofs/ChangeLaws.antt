-- What a change within one object leaves of the objects that words hold.
use Rattle.std.proofs.Common.{◌≡◌, ◌≢◌, ℕ, ◌+◌, ◌%◌, ◌<◌, ◌≤◌, ◌⊎◌, true, false, IsTrue, ◌==◌, if◌then◌else◌, List, Some, map, sym, ap, ◌∙◌, subst, inl, inr, arith}
use Rattle.std.proofs.lemmas.Bool.{ne_eqb, eq-eqb, cases_lt}
use Rattle.std.proofs.lemmas.Bool.Decides.{eqb_tells}
use Rattle.std.proofs.lemmas.Simd.{map-map}
use Rattle.type_table.specs.declared.info.TypeInfo.{TypeInfo}
use Rattle.type_table.specs.Table.{Table}
use Rattle.object_model.specs.Layout.{Layout}
use Rattle.object_model.specs.Object.{Object}
use Rattle.object_model.specs.Fields.{changed_at}
use Rattle.object_model.specs.Sets.{is_in}
use Rattle.object_model.specs.ObjectWords.{updated, type_id_at, layout_at, words_at, object_from, Covers}
use Rattle.object_model.specs.Holds.{HoldsObjects, IsPointer}
use Rattle.object_view.proofs.WordLaws.{updated-here, updated-other}
use Rattle.object_model.proofs.Members.{map-same}
use Rattle.object_view.proofs.LayoutLaws.{laid_out, SameAt, KeepsLayout, keeps-same, layout_at-same, object_from-same, birth-from}

-- The words v are the words w but within the object at p, whose type, birth and layout stay.
pub record Changes (types : Table TypeInfo) (v w : ℕ → ℕ) (met places : List ℕ) (p : ℕ) : Type 0 where
  pub there : IsTrue (is_in p places)
  pub elsewhere : (b : ℕ) → (b < p) ⊎ (p + words_at types w p ≤ b) → v b ≡ w b
  pub keeps : KeepsLayout types v w p
  pub pointers : (j : ℕ) → j < (layout_at types w p).pointer_count → IsPointer met (v ((layout_at types w p).ref_start + j))

-- another object has none of the words that change
pub other-same : {types : Table TypeInfo} {v w name : ℕ → ℕ} {met more places : List ℕ} {kept : List Object} {p : ℕ}
    → HoldsObjects types w met places name kept → Changes types v w more places p
    → (q : ℕ) → IsTrue (is_in q places) → q ≢ p → SameAt types v w q
other-same {types = types} {v = v} {w = w} {p = p} h change q t ne = record {
  same = λ b l r. elim (cases_lt b p) [
    | inl below ↦ change.elsewhere b (inl below)
    | inr above ↦ elim (cases_lt b (p + words_at types w p)) [
      | inl inside ↦ absurd (ne (h.apart q p b t change.there (l, r) (above, inside)))
      | inr behind ↦ change.elsewhere b (inr behind)
    ]
  ];
}

-- each object keeps its type, birth and layout
pub each-keeps : {types : Table TypeInfo} {v w name : ℕ → ℕ} {met more places : List ℕ} {kept : List Object} {p : ℕ}
    → HoldsObjects types w met places name kept → Changes types v w more places p
    → (q : ℕ) → IsTrue (is_in q places) → KeepsLayout types v w q
each-keeps {types = types} {v = v} {w = w} {p = p} h change q t = elim (eqb_tells q p) [
  | inl e ↦ let P : ℕ → Type 0 = λ k. KeepsLayout types v w k in subst P (sym e.1) change.keeps
  | inr e ↦ keeps-same types v w q (other-same h change q t e.1)
]

-- the objects that are read afterwards
reads-after : {types : Table TypeInfo} {v w name : ℕ → ℕ} {met more places : List ℕ} {kept : List Object} {p : ℕ} (change : Object → Object)
    → HoldsObjects types w met places name kept → Changes types v w more places p
    → object_from types name v p ≡ change (object_from types name w p)
    → changed_at (Some (name p)) change kept ≡ map (object_from types name v) places
reads-after {types = types} {v = v} {w = w} {name = name} {places = places} {p = p} change h by own =
    let f : ℕ → Object = object_from types name w in
    let pick : Object → Object = λ o. if name p == o.birth then change o else o in
    ap (map pick) h.reads ∙ map-map pick f places ∙ map-same (λ q. pick (f q)) (object_from types name v) places
    (λ q t. let born : (f q).birth ≡ name q = birth-from types name w q ∙ sym (h.named q t) in elim (eqb_tells (name p) (name q)) [
      | inl e ↦ let is : q ≡ p = h.differ q p t by.there (sym e.1) in
          let hit : (name p == (f q).birth) ≡ true = eq-eqb (name p) (f q).birth (e.1 ∙ sym born) in
          ap (λ b. if b then change (f q) else f q) hit ∙ ap (λ k. change (f k)) is ∙ sym own ∙ ap (object_from types name v) (sym is)
      | inr e ↦ let miss : (name p == (f q).birth) ≡ false = ne_eqb (name p) (f q).birth (λ same. e.1 (same ∙ born)) in
          ap (λ b. if b then change (f q) else f q) miss
          ∙ sym (object_from-same types name v w q (other-same h by q t (λ is. e.1 (sym (ap name is)))))
    ])

-- the words of another object, and its pointers with them
pub pointer-same : {types : Table TypeInfo} {v w name : ℕ → ℕ} {met places : List ℕ} {kept : List Object}
    → HoldsObjects types w met places name kept → (q j : ℕ) → SameAt types v w q → IsTrue (is_in q places)
    → j < (layout_at types w q).pointer_count → IsPointer met (v ((layout_at types w q).ref_start + j))
pointer-same {types = types} {v = v} {w = w} h q j same t l =
    let laid = laid_out types w q in
    rw (same.same ((layout_at types w q).ref_start + j) (omega (arith, laid.begins, laid.ordered)) (omega (arith, laid.pointers, l))) (h.closed q j t l)

closed-after : {types : Table TypeInfo} {v w name : ℕ → ℕ} {met places : List ℕ} {kept : List Object} {p : ℕ}
    → HoldsObjects types w met places name kept → Changes types v w met places p → (q j : ℕ) → IsTrue (is_in q places)
    → j < (layout_at types w q).pointer_count → IsPointer met (v ((layout_at types w q).ref_start + j))
closed-after {types = types} {v = v} {w = w} {met = met} {p = p} h change q j t l = elim (eqb_tells q p) [
  | inl e ↦ let P : ℕ → Type 0 = λ k. j < (layout_at types w k).pointer_count → IsPointer met (v ((layout_at types w k).ref_start + j)) in
      subst P (sym e.1) (change.pointers j) l
  | inr e ↦ pointer-same h q j (other-same h change q t e.1) t l
]

-- facts of an object that its layout carries over
pub covers-kept : {types : Table TypeInfo} {v w : ℕ → ℕ} (q at : ℕ) → KeepsLayout types v w q → Covers types v q at → Covers types w q at
covers-kept {types = types} {v = v} {w = w} q at keeps c =
    let P : Layout → Type 0 = λ layout. at < q + layout.words in (c.0, subst P keeps.layout_stays c.1)

-- words that hold objects, with one of them changed
pub changed_holds : {types : Table TypeInfo} {v w name : ℕ → ℕ} {met places : List ℕ} {kept : List Object} {p : ℕ} (change : Object → Object)
    → HoldsObjects types w met places name kept → Changes types v w met places p
    → object_from types name v p ≡ change (object_from types name w p)
    → HoldsObjects types v met places name (changed_at (Some (name p)) change kept)
changed_holds {types = types} {v = v} {w = w} {met = met} {places = places} change h by own =
    let keeps : (q : ℕ) → IsTrue (is_in q places) → KeepsLayout types v w q = each-keeps h by in
    record {
      reads = reads-after change h by own;
      typed = λ q t. rw (keeps q t).type_stays (h.typed q t);
      header = λ q t. (keeps q t).header (h.header q t);
      above = h.above;
      named = λ q t. h.named q t ∙ sym (keeps q t).birth_stays;
      apart = λ q r b t u c d. h.apart q r b t u (covers-kept q b (keeps q t) c) (covers-kept r b (keeps r u) d);
      differ = h.differ;
      closed = λ q j t l. let P : Layout → Type 0 = λ layout. j < layout.pointer_count → IsPointer met (v (layout.ref_start + j)) in
          subst P (sym (keeps q t).layout_stays) (closed-after h by q j t) l;
    }

-- a word behind the header and the birth, and behind the length of an array, is written
pub keeps-updated : (types : Table TypeInfo) (w : ℕ → ℕ) (p at x : ℕ) → (layout_at types w p).int_start ≤ at
    → KeepsLayout types (updated w at x) w p
keeps-updated types w p at x behind =
    let laid = laid_out types w p in
    let first : updated w at x p ≡ w p = updated-other w at x p (omega (arith, behind, laid.begins)) in
    let type_stays : type_id_at (updated w at x) p ≡ type_id_at w p = ap (λ y. y % 65536) first in
    record {
      type_stays = type_stays;
      header = λ l. omega (arith, first, l);
      birth_stays = updated-other w at x (p + 1) (omega (arith, behind, laid.begins));
      layout_stays = layout_at-same types (updated w at x) w p type_stays (λ e l. updated-other w at x (p + 2) (omega (arith, behind, e)));
    }

-- a field of an object is written
pub changes-updated : {types : Table TypeInfo} {w name : ℕ → ℕ} {met places : List ℕ} {kept : List Object} (p at x : ℕ)
    → HoldsObjects types w met places name kept → IsTrue (is_in p places)
    → (layout_at types w p).int_start ≤ at → at < p + words_at types w p
    → ((j : ℕ) → j < (layout_at types w p).pointer_count → (layout_at types w p).ref_start + j ≡ at → IsPointer met x)
    → Changes types (updated w at x) w met places p
changes-updated {types = types} {w = w} {met = met} p at x h t behind within pointer =
    let laid = laid_out types w p in record {
      there = t;
      elsewhere = λ b outside. elim outside [
        | inl below ↦ updated-other w at x b (omega (arith, below, behind, laid.begins))
        | inr above ↦ updated-other w at x b (omega (arith, above, within))
      ];
      keeps = keeps-updated types w p at x behind;
      pointers = λ j l. elim (eqb_tells ((layout_at types w p).ref_start + j) at) [
        | inl e ↦ rw (updated-here w at x ((layout_at types w p).ref_start + j) e.1) (pointer j l e.1)
        | inr e ↦ rw (updated-other w at x ((layout_at types w p).ref_start + j) e.1) (h.closed p j t l)
      ];
    }
