-- The end of marking, over the words: the objects that stay.
use Rattle.std.proofs.Common.{◌≡◌, ◌≢◌, ℕ, zero, suc, ◌+◌, ◌<◌, ◌⊎◌, Bool, true, false, IsTrue, List, [], ◌∷◌, map, Option, Some, None, refl, sym, ap, ◌∙◌, subst, inl, inr, arith}
use Rattle.std.specs.Prelude.{not, filter, filter_map}
use Rattle.std.proofs.lemmas.Bool.{cases_Bool, ne_eqb}
use Rattle.std.proofs.lemmas.Bool.Decides.{eqb_tells}
use Rattle.type_table.specs.declared.info.Shape.{Shape}
use Rattle.type_table.specs.declared.info.Shape.TheVariants.{Fixed, IntArray, RefArray, Weak}
use Rattle.type_table.specs.declared.info.TypeInfo.{TypeInfo}
use Rattle.type_table.specs.Table.{Table}
use Rattle.object_model.proofs.Members.{is_in-head, is_in-tail}
use Rattle.object_view.proofs.LayoutLaws.{info_at-same}
use Rattle.object_view.proofs.FoundLaws.{found-at, ref-from, target-from}
use Rattle.object_view.proofs.FrameLaws.{all_hold}
use Rattle.object_view.proofs.SurvivorLaws.{remain_holds}
use Rattle.object_model.specs.Layout.{Layout, layout_of}
use Rattle.object_model.specs.Object.{Object, object_at}
use Rattle.object_model.specs.Sets.{is_in}
use Rattle.object_model.specs.Fields.{ref_in}
use Rattle.store_model.specs.Roots.{referents_in}
use Rattle.store_model.specs.Reach.{objects_where}
use Rattle.store_model.specs.MinorCollection.{clear_target, left_target}
use Rattle.object_model.specs.ObjectWords.{renamed, object_from, layout_at, info_at}
use Rattle.object_model.specs.Holds.{HoldsObjects, IsPointer}
use Rattle.heap_parts.proofs.SameLayouts.{SameLayouts}

pub ref-referent : (refs : List (Option ℕ)) (i y : ℕ) → ref_in refs i ≡ Some y → IsTrue (is_in y (filter_map (λ r. r) refs))
ref-referent [] i y e = absurd (let no : ⊥ = cc in no)
ref-referent (None ∷ refs) zero y e = absurd (let no : ⊥ = cc in no)
ref-referent (None ∷ refs) (suc i) y e = ref-referent refs i y e
ref-referent (Some x ∷ refs) zero y e = let same : Some x ≡ Some y = e in let is : x ≡ y = cc in subst (λ (k : ℕ). IsTrue (is_in k (x ∷ filter_map (λ r. r) refs))) is (is_in-head x (filter_map (λ r. r) refs))
ref-referent (Some x ∷ refs) (suc i) y e = is_in-tail y x (filter_map (λ r. r) refs) (ref-referent refs i y e)

-- a pointer is a reference, or the target of a weak object
pointer-of : (s : Shape) (p third j : ℕ) → j < (layout_of s p third).pointer_count → (j < (layout_of s p third).ref_count) ⊎ ((s ≡ Weak) × (j ≡ 0))
pointer-of (Fixed a b) p third j l = inl l
pointer-of IntArray p third j l = inl l
pointer-of RefArray p third j l = inl l
pointer-of Weak p third j l = inr (refl, omega (arith, l))

pub pointer_kinds : (types : Table TypeInfo) (w : ℕ → ℕ) (p j : ℕ) → j < (layout_at types w p).pointer_count
    → (j < (layout_at types w p).ref_count) ⊎ (((info_at types w p).shape ≡ Weak) × (j ≡ 0))
unfolding layout_at
pointer_kinds types w p j l = pointer-of (info_at types w p).shape p (w (p + 2)) j l

pub filter_cleared : (white : ℕ → Bool) (test : ℕ → Bool) (kept : List Object)
    → filter (λ o. test o.birth) (map (clear_target white) kept) ≡ map (clear_target white) (filter (λ o. test o.birth) kept)
filter_cleared white test [] = refl
filter_cleared white test (o ∷ kept) = elim (cases_Bool (test o.birth)) [
  | inl e ↦ rw e (ap (λ (os : List Object). clear_target white o ∷ os) (filter_cleared white test kept))
  | inr e ↦ rw e (filter_cleared white test kept)
]

left-not : (white : ℕ → Bool) (t : ℕ) → Some t ≡ left_target white (Some t) → white t ≡ false
left-not white t e = elim (cases_Bool (white t)) [
  | inl w ↦ absurd (let f : left_target white (Some t) ≡ None = rw w refl in let no : ⊥ = cc in no)
  | inr w ↦ w
]

-- what the end of marking writes into objects: targets that become nothing, and flags
pub record ClearsTargets (types : Table TypeInfo) (v w name : ℕ → ℕ) (places : List ℕ) (white : ℕ → Bool) : Type 0 where
  pub layouts : SameLayouts types v w places
  pub objects : (p : ℕ) → IsTrue (is_in p places) → object_from types name v p ≡ clear_target white (object_from types name w p)
  pub pointers : (p j : ℕ) → IsTrue (is_in p places) → j < (layout_at types w p).pointer_count →
      (v ((layout_at types w p).ref_start + j) ≡ 0) ⊎ (v ((layout_at types w p).ref_start + j) ≡ w ((layout_at types w p).ref_start + j))

module _ {types : Table TypeInfo} {v w name : ℕ → ℕ} {places : List ℕ} {kept : List Object} (white gone : ℕ → Bool)
    (h : HoldsObjects types w places places name kept) (c : ClearsTargets types v w name places white)
    (stays : (x y : ℕ) → gone x ≡ false → IsTrue (is_in y (referents_in (object_at kept x))) → gone y ≡ false)
    (black : (x : ℕ) → white x ≡ false → gone x ≡ false) where
  pointer-old : (q j : ℕ) → IsTrue (is_in q places) → j < (layout_at types w q).pointer_count → IsPointer places (v ((layout_at types w q).ref_start + j))
  pointer-old q j t l = elim (c.pointers q j t l) [
    | inl e ↦ inl e
    | inr e ↦ subst (λ (k : ℕ). IsPointer places k) (sym e) (h.closed q j t l)
  ]

  -- a pointer of an object that stays leads to one that stays
  stays-to : (q j : ℕ) → IsTrue (is_in q places) → gone (name q) ≡ false → j < (layout_at types w q).pointer_count
      → (to : ℕ) → v ((layout_at types w q).ref_start + j) ≡ to → w ((layout_at types w q).ref_start + j) ≡ to → to ≢ 0 → gone (name to) ≡ false
  stays-to q j t stay l to e f full =
      let named : renamed name to ≡ Some (name to) = rw (ne_eqb to 0 full) refl in
      elim (pointer_kinds types w q j l) [
        | inl is_ref ↦ stays (name q) (name to) stay
            (subst (λ (o : Option Object). IsTrue (is_in (name to) (referents_in o))) (sym (found-at q h t))
            (ref-referent (object_from types name w q).refs j (name to) (ref-from types name w q j is_ref ∙ (ap (renamed name) f ∙ named))))
        | inr is_weak ↦
            let first : (k : ℕ) → k + j ≡ k = λ k. omega (arith, is_weak.1) in
            let weak_v : (info_at types v q).shape ≡ Weak = ap (λ (i : TypeInfo). i.shape) (info_at-same types v w q (c.layouts q t).type_stays) ∙ is_weak.0 in
            let target_w : (object_from types name w q).target ≡ Some (name to) =
            target-from types name w q is_weak.0 ∙ (ap (λ (k : ℕ). renamed name (w k)) (sym (first (layout_at types w q).ref_start)) ∙ (ap (renamed name) f ∙ named)) in
            let start : (layout_at types v q).ref_start ≡ (layout_at types w q).ref_start + j =
            ap (λ (layout : Layout). layout.ref_start) (c.layouts q t).layout_stays ∙ sym (first (layout_at types w q).ref_start) in
            let target_v : (object_from types name v q).target ≡ Some (name to) =
            target-from types name v q weak_v ∙ (ap (λ (k : ℕ). renamed name (v k)) start ∙ (ap (renamed name) e ∙ named)) in
            black (name to) (left-not white (name to) (sym target_v ∙ (ap (λ (o : Object). o.target) (c.objects q t) ∙ ap (left_target white) target_w)))
      ]

  not-not : (b : Bool) → not b ≡ true → b ≡ false
  not-not true e = absurd (let no : ⊥ = cc in no)
  not-not false e = refl

  stays-pointer : (q j : ℕ) → IsTrue (is_in q places) → not (gone (name q)) ≡ true → j < (layout_at types w q).pointer_count
      → (v ((layout_at types w q).ref_start + j) ≡ 0)
      ⊎ (IsTrue (is_in (v ((layout_at types w q).ref_start + j)) places) × (not (gone (name (v ((layout_at types w q).ref_start + j)))) ≡ true))
  stays-pointer q j t stay l =
      let at : ℕ = (layout_at types w q).ref_start + j in
      elim (eqb_tells (v at) 0) [
        | inl e ↦ inl e.1
        | inr full ↦ inr (
          elim (pointer-old q j t l) [ inl e ↦ absurd (full.1 e) | inr there ↦ there ],
          elim (c.pointers q j t l) [
            | inl e ↦ absurd (full.1 e)
            | inr e ↦ ap not (stays-to q j t (not-not (gone (name q)) stay) l (v at) refl (sym e) full.1)
          ],
        )
      ]

  pub end_objects : HoldsObjects types v (filter (λ p. not (gone (name p))) places) (filter (λ p. not (gone (name p))) places) name
      (map (clear_target white) (objects_where kept (λ x. not (gone x))))
  end_objects =
      let cleared : HoldsObjects types v places places name (map (clear_target white) kept) = all_hold v places (clear_target white) h c.layouts c.objects pointer-old in
      subst (λ (os : List Object). HoldsObjects types v (filter (λ p. not (gone (name p))) places) (filter (λ p. not (gone (name p))) places) name os)
      (filter_cleared white (λ x. not (gone x)) kept)
      (remain_holds (λ x. not (gone x)) cleared (λ q j t stay l.
      let keeps = (c.layouts q t).layout_stays in
      subst (λ (at : ℕ). (v (at + j) ≡ 0) ⊎ (IsTrue (is_in (v (at + j)) places) × (not (gone (name (v (at + j)))) ≡ true)))
      (sym (ap (λ (layout : Layout). layout.ref_start) keeps))
      (stays-pointer q j t stay (subst (λ (layout : Layout). j < layout.pointer_count) keeps l))))
