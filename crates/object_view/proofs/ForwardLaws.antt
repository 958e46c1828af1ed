-- References follow objects to where they moved: each is overwritten by a place of the same name, and no object changes.
use Rattle.std.proofs.Common.{◌≡◌, ◌≢◌, ℕ, ◌+◌, ◌<◌, ◌≤◌, ◌⊎◌, Bool, true, false, IsTrue, ◌==◌, if◌then◌else◌, List, [], ◌∷◌, Option, Some, map, set, get_or, refl, sym, ap, ap₂, ◌∙◌, subst, inl, inr, arith}
use Rattle.std.proofs.lemmas.Bool.{ne_eqb, eq-eqb, cases_lt}
use Rattle.std.proofs.lemmas.List.{set-get_or}
use Rattle.type_table.specs.declared.info.Shape.{Shape}
use Rattle.type_table.specs.declared.info.Shape.TheVariants.{Fixed, IntArray, RefArray, Weak}
use Rattle.type_table.specs.declared.info.TypeInfo.{TypeInfo}
use Rattle.type_table.specs.Table.{Table}
use Rattle.object_model.specs.Layout.{Layout, layout_of}
use Rattle.object_model.specs.Object.{Object}
use Rattle.object_model.specs.Fields.{changed_at, with_ref}
use Rattle.object_model.specs.Sets.{is_in}
use Rattle.object_model.specs.ObjectWords.{words_from, updated, renamed, info_at, layout_at, words_at, object_from, Covers}
use Rattle.object_model.specs.Holds.{HoldsObjects, IsPointer}
use Rattle.object_view.specs.Moving.{place_now, HasLeft, IsMoving}
use Rattle.object_view.proofs.WordLaws.{get_or-words_from}
use Rattle.object_view.proofs.LayoutLaws.{laid_out, KeepsLayout}
use Rattle.object_view.proofs.ChangeLaws.{Changes, changed_holds, changes-updated, each-keeps, covers-kept}
use Rattle.object_view.proofs.FieldLaws.{ref-written, target-written}
use Rattle.object_view.proofs.FoundLaws.{refs-from, get_or-map, target-from}

same-either : (b : Bool) (o : Object) → (if b then o else o) ≡ o
same-either true o = refl
same-either false o = refl

changed-none : (birth : ℕ) (os : List Object) → changed_at (Some birth) (λ o. o) os ≡ os
changed-none birth [] = refl
changed-none birth (o ∷ os) = ap₂ (λ x xs. x ∷ xs) (same-either (birth == o.birth) o) (changed-none birth os)

-- a reference that is written as it was
same-ref : (types : Table TypeInfo) (name w : ℕ → ℕ) (p i x : ℕ) → i < (layout_at types w p).ref_count
    → renamed name x ≡ renamed name (w ((layout_at types w p).ref_start + i))
    → with_ref i (renamed name x) (object_from types name w p) ≡ object_from types name w p
same-ref types name w p i x l e =
    let k : Layout = layout_at types w p in let places : List ℕ = words_from w k.ref_start k.ref_count in
    let object : Object = object_from types name w p in
    let now : renamed name x ≡ get_or (map (renamed name) places) i (renamed name 0) =
    e ∙ sym (get_or-map (renamed name) places i 0 ∙ ap (renamed name) (get_or-words_from w k.ref_start i k.ref_count l)) in
    let refs : set object.refs i (renamed name x) ≡ object.refs =
    ap (λ rs. set rs i (renamed name x)) (refs-from types name w p) ∙ ap (set (map (renamed name) places) i) now
    ∙ set-get_or (map (renamed name) places) i (renamed name 0) ∙ sym (refs-from types name w p) in
    ap (λ (rs : List (Option ℕ)). record object { refs = rs }) refs

-- what is no reference among the pointers of an object is the target of a weak one
pointer-shape : (s : Shape) (p third i : ℕ) → i < (layout_of s p third).pointer_count → (layout_of s p third).ref_count ≤ i → (s ≡ Weak) × (i ≡ 0)
pointer-shape (Fixed a b) p third i l m = absurd (omega (arith, l, m))
pointer-shape IntArray p third i l m = absurd (omega (arith, l))
pointer-shape RefArray p third i l m = absurd (omega (arith, l, m))
pointer-shape Weak p third i l m = (refl, omega (arith, l))

pub pointer-weak : (types : Table TypeInfo) (w : ℕ → ℕ) (p i : ℕ) → i < (layout_at types w p).pointer_count → (layout_at types w p).ref_count ≤ i
    → ((info_at types w p).shape ≡ Weak) × (i ≡ 0)
unfolding layout_at
pointer-weak types w p i l m = pointer-shape (info_at types w p).shape p (w (p + 2)) i l m

same-target : (types : Table TypeInfo) (name w : ℕ → ℕ) (p i x : ℕ) → ((info_at types w p).shape ≡ Weak) × (i ≡ 0)
    → renamed name x ≡ renamed name (w ((layout_at types w p).ref_start + i))
    → object_from types name (updated w ((layout_at types w p).ref_start + i) x) p ≡ object_from types name w p
same-target types name w p i x weak e =
    let start : ℕ = (layout_at types w p).ref_start in let object : Object = object_from types name w p in
    let first : start + i ≡ start = omega (arith, weak.1) in
    let target : renamed name x ≡ object.target = e ∙ ap (λ b. renamed name (w b)) first ∙ sym (target-from types name w p weak.0) in
    ap (λ b. object_from types name (updated w b x) p) first ∙ target-written types name w p x weak.0
    ∙ ap (λ (r : Option ℕ). record object { target = r }) target

-- a pointer of an object is written
pub changes-pointer : {types : Table TypeInfo} {w name : ℕ → ℕ} {met places : List ℕ} {kept : List Object} (p i x : ℕ)
    → HoldsObjects types w met places name kept → IsTrue (is_in p places) → i < (layout_at types w p).pointer_count → IsPointer met x
    → Changes types (updated w ((layout_at types w p).ref_start + i) x) w met places p
changes-pointer {types = types} {w = w} p i x h t l is =
    let laid = laid_out types w p in
    changes-updated p ((layout_at types w p).ref_start + i) x h t (omega (arith, laid.ordered)) (omega (arith, l, laid.pointers)) (λ j m e. is)

-- a pointer of an object, a reference or a target, is written as it was
pointer-forwarded : (types : Table TypeInfo) (name w : ℕ → ℕ) (p i x : ℕ) → i < (layout_at types w p).pointer_count
    → renamed name x ≡ renamed name (w ((layout_at types w p).ref_start + i))
    → object_from types name (updated w ((layout_at types w p).ref_start + i) x) p ≡ object_from types name w p
pointer-forwarded types name w p i x l e = elim (cases_lt i (layout_at types w p).ref_count) [
  | inl ref ↦ ref-written types name w p i x ref ∙ same-ref types name w p i x ref e
  | inr target ↦ same-target types name w p i x (pointer-weak types w p i l target) e
]

-- A pointer of an object is overwritten by a place of the same name: no object changes.
pub forward_holds : {types : Table TypeInfo} {w name : ℕ → ℕ} {met places : List ℕ} {kept : List Object} (p i x : ℕ)
    → HoldsObjects types w met places name kept → IsTrue (is_in p places) → i < (layout_at types w p).pointer_count → IsPointer met x
    → renamed name x ≡ renamed name (w ((layout_at types w p).ref_start + i))
    → HoldsObjects types (updated w ((layout_at types w p).ref_start + i) x) met places name kept
forward_holds {types = types} {w = w} {name = name} {met = met} {places = places} {kept = kept} p i x h t l is e =
    let P : List Object → Type 0 = λ ks. HoldsObjects types (updated w ((layout_at types w p).ref_start + i) x) met places name ks in
    subst P (changed-none (name p) kept) (changed_holds (λ o. o) h (changes-pointer p i x h t l is) (pointer-forwarded types name w p i x l e))

-- where an object is now

pub place_now-nil : (w : ℕ → ℕ) → place_now w 0 ≡ 0
place_now-nil w = refl

pub place_now-moved : (w : ℕ → ℕ) (x : ℕ) → 1 ≤ x → w x ≡ 18446744073709551615 → place_now w x ≡ w (x + 1)
place_now-moved w x l e = rw (ne_eqb x 0 (λ z. absurd (omega (arith, l, z))), eq-eqb (w x) 18446744073709551615 e) refl

pub place_now-stays : (w : ℕ → ℕ) (x : ℕ) → 1 ≤ x → w x ≢ 18446744073709551615 → place_now w x ≡ x
place_now-stays w x l e = rw (ne_eqb x 0 (λ z. absurd (omega (arith, l, z))), ne_eqb (w x) 18446744073709551615 e) refl

-- a listed object has not moved
pub header-unmarked : {types : Table TypeInfo} {w name : ℕ → ℕ} {met places : List ℕ} {kept : List Object} (p : ℕ)
    → HoldsObjects types w met places name kept → IsTrue (is_in p places) → w p ≢ 18446744073709551615
header-unmarked p h t e = absurd (omega (arith, e, h.header p t))

-- a pointer that followed leads to an object, and has the name that it had
pub record IsNow (w : ℕ → ℕ) (places : List ℕ) (name : ℕ → ℕ) (x : ℕ) : Type 0 where
  pub leads : IsPointer places (place_now w x)
  pub named : renamed name (place_now w x) ≡ renamed name x

renamed-some : (name : ℕ → ℕ) (p : ℕ) → 1 ≤ p → renamed name p ≡ Some (name p)
renamed-some name p l = rw (ne_eqb p 0 (λ e. absurd (omega (arith, e, l)))) refl

now-each : {types : Table TypeInfo} {w name : ℕ → ℕ} {met places : List ℕ} {kept : List Object} (x : ℕ)
    → HoldsObjects types w met places name kept → 1 ≤ x → IsTrue (is_in x places) ⊎ HasLeft types w places name x → IsNow w places name x
now-each {w = w} {name = name} {places = places} x h l (inl stays) =
    let e : place_now w x ≡ x = place_now-stays w x l (header-unmarked x h stays) in record {
      leads = let P : ℕ → Type 0 = λ y. IsPointer places y in subst P (sym e) (inr stays);
      named = ap (renamed name) e;
    }
now-each {w = w} {name = name} {places = places} x h l (inr left) =
    let e : place_now w x ≡ w (x + 1) = place_now-moved w x l left.marked in record {
      leads = let P : ℕ → Type 0 = λ y. IsPointer places y in subst P (sym e) (inr left.there);
      named = ap (renamed name) e ∙ renamed-some name (w (x + 1)) (h.above (w (x + 1)) left.there) ∙ ap Some left.same_name ∙ sym (renamed-some name x l);
    }

-- Where a pointer's object is now: the place of an object, of the same name.
pub now-is : {types : Table TypeInfo} {w name : ℕ → ℕ} {met places : List ℕ} {kept : List Object} (x : ℕ)
    → HoldsObjects types w met places name kept → IsMoving types w met places name → IsPointer met x → IsNow w places name x
now-is {w = w} {name = name} {places = places} x h moving (inl e) =
    let P : ℕ → Type 0 = λ y. IsNow w places name y in subst P (sym e) (record { leads = inl refl; named = refl })
now-is x h moving (inr t) = now-each x h (moving.above x t) (moving.each x t)

pub pointer-met : {types : Table TypeInfo} {w name : ℕ → ℕ} {met places : List ℕ} (x : ℕ) → IsMoving types w met places name → IsPointer places x → IsPointer met x
pointer-met x moving (inl e) = inl e
pointer-met x moving (inr t) = inr (moving.stay x t)

either-kept : {types : Table TypeInfo} {v w : ℕ → ℕ} (q x : ℕ) → Covers types v q x ⊎ Covers types v q (x + 1) → KeepsLayout types v w q
    → Covers types w q x ⊎ Covers types w q (x + 1)
either-kept q x (inl c) keeps = inl (covers-kept q x keeps c)
either-kept q x (inr c) keeps = inr (covers-kept q (x + 1) keeps c)

left-after : {types : Table TypeInfo} {w v name : ℕ → ℕ} {met places : List ℕ} {kept : List Object} {p : ℕ} (x : ℕ)
    → HoldsObjects types w met places name kept → Changes types v w met places p → HasLeft types w places name x → HasLeft types v places name x
left-after {types = types} {w = w} {v = v} {name = name} {places = places} {p = p} x h by left =
    let same : (b : ℕ) → (Covers types w p b → ⊥) → v b ≡ w b = λ b out. elim (cases_lt b p) [
      | inl low ↦ by.elsewhere b (inl low)
      | inr high ↦ elim (cases_lt b (p + words_at types w p)) [
        | inl inside ↦ absurd (out (high, inside))
        | inr behind ↦ by.elsewhere b (inr behind)
      ]
    ] in
    let first : v x ≡ w x = same x (λ c. left.outside p by.there (inl c)) in
    let second : v (x + 1) ≡ w (x + 1) = same (x + 1) (λ c. left.outside p by.there (inr c)) in
    record {
      marked = first ∙ left.marked;
      there = let P : ℕ → Type 0 = λ y. IsTrue (is_in y places) in subst P (sym second) left.there;
      same_name = ap name second ∙ left.same_name;
      outside = λ q t c. left.outside q t (either-kept q x c (each-keeps h by q t));
    }

moving-each : {types : Table TypeInfo} {w v name : ℕ → ℕ} {met places : List ℕ} {kept : List Object} {p : ℕ} (x : ℕ)
    → HoldsObjects types w met places name kept → Changes types v w met places p
    → IsTrue (is_in x places) ⊎ HasLeft types w places name x → IsTrue (is_in x places) ⊎ HasLeft types v places name x
moving-each x h by (inl t) = inl t
moving-each x h by (inr left) = inr (left-after x h by left)

-- A change within one object leaves what places hold or left.
pub changed_moving : {types : Table TypeInfo} {w v name : ℕ → ℕ} {met places : List ℕ} {kept : List Object} {p : ℕ}
    → HoldsObjects types w met places name kept → Changes types v w met places p → IsMoving types w met places name → IsMoving types v met places name
changed_moving h by moving = record {
  above = moving.above;
  each = λ x t. moving-each x h by (moving.each x t);
  stay = moving.stay;
}

-- A pointer of an object follows to where its object is now: no object changes, and each place holds one or was left.
pub record Followed (types : Table TypeInfo) (w : ℕ → ℕ) (met places : List ℕ) (name : ℕ → ℕ) (kept : List Object) (p i : ℕ) : Type 0 where
  pub holds : HoldsObjects types (updated w ((layout_at types w p).ref_start + i) (place_now w (w ((layout_at types w p).ref_start + i)))) met places name kept
  pub moving : IsMoving types (updated w ((layout_at types w p).ref_start + i) (place_now w (w ((layout_at types w p).ref_start + i)))) met places name
  pub layout : layout_at types (updated w ((layout_at types w p).ref_start + i) (place_now w (w ((layout_at types w p).ref_start + i)))) p ≡ layout_at types w p
  pub leads : IsPointer places (place_now w (w ((layout_at types w p).ref_start + i)))

pub pointer_follows : {types : Table TypeInfo} {w name : ℕ → ℕ} {met places : List ℕ} {kept : List Object} (p i : ℕ)
    → HoldsObjects types w met places name kept → IsMoving types w met places name → IsTrue (is_in p places)
    → i < (layout_at types w p).pointer_count → Followed types w met places name kept p i
pointer_follows {types = types} {w = w} p i h moving t l =
    let x : ℕ = w ((layout_at types w p).ref_start + i) in
    let now = now-is x h moving (h.closed p i t l) in
    let is = pointer-met (place_now w x) moving now.leads in
    let by = changes-pointer p i (place_now w x) h t l is in record {
      holds = forward_holds p i (place_now w x) h t l is now.named;
      moving = changed_moving h by moving;
      layout = by.keeps.layout_stays;
      leads = now.leads;
    }
