-- The weak objects where nothing is owed: those of the list, where they are now.
use Rattle.std.proofs.Common.{◌≡◌, ℕ, ◌+◌, Bool, true, false, IsTrue, List, [], map, filter, refl, sym, ap, ◌∙◌, subst, inl, inr}
use Rattle.std.specs.Prelude.{not, ◌==◌}
use Rattle.std.specs.List.Sorted.{IsPermutation}
use Rattle.std.proofs.lemmas.Bool.{cases_Bool}
use Rattle.std.proofs.lemmas.List.Sorted.{list_any-IsPermutation}
use Rattle.type_table.specs.declared.info.TypeInfo.{TypeInfo}
use Rattle.type_table.specs.Table.{Table}
use Rattle.object_view.specs.Moving.{IsMoving, place_now}
use Rattle.object_view.proofs.ForwardLaws.{header-unmarked, place_now-moved, place_now-stays}
use Rattle.object_model.proofs.Members.{filter-part, filter-member, is_in-named}
use Rattle.object_model.specs.Object.{Object}
use Rattle.object_model.specs.Sets.{is_in}
use Rattle.store_model.specs.Store.{Store}
use Rattle.object_model.specs.Holds.{HoldsObjects}
use Rattle.store_model.specs.MinorCollection.{vanishes}
use Rattle.heap_parts.specs.Parts.{HeapParts}
use Rattle.heap_parts.specs.Places.{is_weak_at}
use Rattle.frame_laws.proofs.PlaceLaws.{named-by}
use Rattle.minor_collect.specs.Carried.{Carried, births_read, weak_births}
use Rattle.minor_collect.specs.Midway.{Follows, Owes, is_lasting, OwesNone}
use Rattle.minor_collect.proofs.Ended.{lasting_stays, stays_lasting}
use Rattle.minor_collect.proofs.NamedObjects.{weak_named}

-- the members of a list in another order
pub permuted-in : (x : ℕ) (xs ys : List ℕ) → IsPermutation xs ys → IsTrue (is_in x xs) → IsTrue (is_in x ys)
permuted-in x xs ys same t = subst IsTrue (list_any-IsPermutation (λ (y : ℕ). y == x) xs ys same) t

pub permuted-from : (x : ℕ) (xs ys : List ℕ) → IsPermutation xs ys → IsTrue (is_in x ys) → IsTrue (is_in x xs)
permuted-from x xs ys same t = subst IsTrue (sym (list_any-IsPermutation (λ (y : ℕ). y == x) xs ys same)) t

module _ {types : Table TypeInfo} {w name : ℕ → ℕ} {met places : List ℕ} {kept : List Object}
    (h : HoldsObjects types w met places name kept) (m : IsMoving types w met places name) where
  -- where the object of a place is now stands an object of the same name
  pub now_place : (x : ℕ) → IsTrue (is_in x met) → IsTrue (is_in (place_now w x) places) × (name (place_now w x) ≡ name x)
  now_place x t = elim (m.each x t) [
    | inl there ↦
        let e : place_now w x ≡ x = place_now-stays w x (m.above x t) (header-unmarked x h there) in
        (subst (λ (k : ℕ). IsTrue (is_in k places)) (sym e) there, ap name e)
    | inr left ↦
        let e : place_now w x ≡ w (x + 1) = place_now-moved w x (m.above x t) left.marked in
        (subst (λ (k : ℕ). IsTrue (is_in k places)) (sym e) left.there, ap name e ∙ left.same_name)
  ]

module _ {start : HeapParts} {store : Store} {types : Table TypeInfo} {w name : ℕ → ℕ} {met places : List ℕ} {remembered : ℕ → ℕ → Bool} {gray : List ℕ} {count : ℕ}
    (h : HoldsObjects types w met places name store.kept) (m : IsMoving types w met places name) (c : Carried start store remembered gray met places name count) where
  births-weak : (x : ℕ) → IsTrue (is_in x (births_read start start.weaks)) → IsTrue (is_in x (map name (filter (is_weak_at types w) places)))
  births-weak x t = subst (λ (l : List ℕ). IsTrue (is_in x l)) (weak_named h) (permuted-from x (weak_births store.kept) (births_read start start.weaks) c.weak_are t)

  weak-births-read : (x : ℕ) → IsTrue (is_in x (map name (filter (is_weak_at types w) places))) → IsTrue (is_in x (births_read start start.weaks))
  weak-births-read x t = permuted-in x (weak_births store.kept) (births_read start start.weaks) c.weak_are
      (subst (λ (l : List ℕ). IsTrue (is_in x l)) (sym (weak_named h)) t)

  -- each of the list is weak, where it is now
  pub weak_was : (x : ℕ) → IsTrue (is_in x start.weaks) → is_weak_at types w (place_now w x) ≡ true
  weak_was x t =
      let now = now_place h m x (c.weaks_are.there x t) in
      let read : IsTrue (is_in (name x) (births_read start start.weaks)) = subst (λ (l : List ℕ). IsTrue (is_in (name x) l)) (sym c.weaks_are.named) (is_in-named name x start.weaks t) in
      let n = named-by name (name x) (filter (is_weak_at types w) places) (births-weak (name x) read) in
      let part = filter-part (is_weak_at types w) places n.place n.there in
      let same : place_now w x ≡ n.place = h.differ (place_now w x) n.place now.0 part.0 (now.1 ∙ n.is) in
      ap (is_weak_at types w) same ∙ part.1

  -- and each weak object is one of the list
  pub weak_now : (p : ℕ) → IsTrue (is_in p places) → is_weak_at types w p ≡ true → IsTrue (is_in p (map (place_now w) start.weaks))
  weak_now p t e =
      let born = weak-births-read (name p) (is_in-named name p (filter (is_weak_at types w) places) (filter-member (is_weak_at types w) places p t e)) in
      let n = named-by name (name p) start.weaks (subst (λ (l : List ℕ). IsTrue (is_in (name p) l)) c.weaks_are.named born) in
      let now = now_place h m n.place (c.weaks_are.there n.place n.there) in
      let same : p ≡ place_now w n.place = h.differ p (place_now w n.place) t now.0 (n.is ∙ sym now.1) in
      subst (λ (k : ℕ). IsTrue (is_in k (map (place_now w) start.weaks))) (sym same) (is_in-named (place_now w) n.place start.weaks n.there)

flipped : (b : Bool) → IsTrue (not b) → b ≡ false
flipped true t = let no : ⊥ = cc in absurd no
flipped false t = refl

module _ {types : Table TypeInfo} {store : Store} {remembered : ℕ → ℕ → Bool} {pins : List ℕ} {w : ℕ → ℕ} {met places : List ℕ} {name : ℕ → ℕ} {found held : List ℕ} {owes : Owes}
    (h : HoldsObjects types w met places name store.kept) (m : IsMoving types w met places name)
    (f : Follows types store remembered pins w met places name found [] held [] owes) (none : OwesNone owes) where
  -- gone is just what did not move and is not pinned
  pub gone_lasting : (p : ℕ) → IsTrue (is_in p places) → vanishes store (λ x. is_in x found) (name p) ≡ not (is_lasting pins p)
  gone_lasting p t = elim (cases_Bool (is_lasting pins p)) [
    | inl l ↦ flipped (vanishes store (λ x. is_in x found) (name p)) (lasting_stays h m f none p t l) ∙ ap not (sym l)
    | inr l ↦ elim (cases_Bool (vanishes store (λ x. is_in x found) (name p))) [
      | inl v ↦ v ∙ ap not (sym l)
      | inr v ↦ absurd (let stay : IsTrue (is_lasting pins p) = stays_lasting h m f none p t (ap not v) in let no : ⊥ = cc in no)
    ]
  ]

  -- and a pointer is gone as its name is
  pub pointer_gone : (x : ℕ) → IsTrue (is_in x met) → vanishes store (λ z. is_in z found) (name x) ≡ not (is_lasting pins (place_now w x))
  pointer_gone x t =
      let now = now_place h m x t in
      ap (vanishes store (λ z. is_in z found)) (sym now.1) ∙ gone_lasting (place_now w x) now.0
