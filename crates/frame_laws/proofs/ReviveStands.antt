-- A slot gets an object that roots need not reach: the target of a weak object, or the object of a structure. It is revived.
use Rattle.std.proofs.Common.{◌≡◌, ◌≢◌, ℕ, ◌+◌, Bool, IsTrue, Option, Some, None, refl, sym, ap, ◌∙◌, subst, inl, inr, arith}
use Rattle.std.specs.Prelude.{filter, not, option_map, option_and_then}
use Rattle.std.proofs.lemmas.Bool.{ne_eqb}
use Rattle.std.proofs.lemmas.Bool.Decides.{eqb_tells}
use Rattle.type_table.specs.declared.info.Shape.TheVariants.{Weak}
use Rattle.type_table.specs.Table.{value_at}
use Rattle.object_view.proofs.FoundLaws.{found-at, target-from}
use Rattle.object_view.proofs.LayoutLaws.{weak-at}
use Rattle.store_model.specs.Store.{Store, Struct, Linked, Unlinked, Pending}
use Rattle.object_model.specs.Sets.{is_in}
use Rattle.store_model.specs.Slots.{put_in_slot}
use Rattle.store_model.specs.Roots.{is_kept, target_in}
use Rattle.store_model.specs.Structs.{object_of, with_object}
use Rattle.object_model.specs.ObjectWords.{renamed, info_at}
use Rattle.object_model.specs.Holds.{IsPointer}
use Rattle.store_model.specs.PlainCommands.{Revives, without_revived, linked_object, target_at}
use Rattle.parts_model.specs.Parts.{HeapParts, word_in, place_in}
use Rattle.parts_model.specs.StandsFor.{PartsStandFor}
use Rattle.parts_model.specs.Effects.{with_slot, layout_in}
use Rattle.frame_laws.proofs.SlotLaws.{pointer-some}
use Rattle.frame_laws.proofs.StandLaws.{in_slot}
use Rattle.store_model.proofs.SoundLaws.{CanBeRoot}
use Rattle.store_model.proofs.Rounds.{revived_by, tells_revived}
use Rattle.store_model.proofs.ReachLaws.{relieves_revived, can_revived}
use Rattle.frame_laws.proofs.RootStands.{slot_stands, object-found}
use Rattle.frame_laws.proofs.StructStands.{struct-named}

-- what a slot gets, with what that reaches revived
pub record GetsRevived (heap : HeapParts) (store : Store) (root place : ℕ) (birth : Option ℕ) : Type 0 where
  pub after : Store
  pub revives : Revives (put_in_slot store root birth) birth after
  pub stands : PartsStandFor (with_slot heap root place) after

-- the name of a place is that of a kept object
pub named-kept : {heap : HeapParts} {store : Store} (s : PartsStandFor heap store) (p : ℕ) → IsTrue (is_in p s.places) → IsTrue (is_kept store.kept (s.name p))
named-kept s p t = rw (found-at p s.words.objects t) refl

pub renamed-none : (name : ℕ → ℕ) (p : ℕ) → p ≡ 0 → renamed name p ≡ None
renamed-none name p e = rw e refl

pub renamed-full : (name : ℕ → ℕ) (p : ℕ) → p ≢ 0 → renamed name p ≡ Some (name p)
renamed-full name p ne = rw (ne_eqb p 0 ne) refl

pub revive_stands : (heap : HeapParts) (store : Store) (root place : ℕ) (s : PartsStandFor heap store) → IsPointer s.places place
    → GetsRevived heap store root place (renamed s.name place)
revive_stands heap store root place s pointer =
    let birth : Option ℕ = renamed s.name place in
    let revived : ℕ → Bool = revived_by store.kept birth in record {
      after = without_revived revived (put_in_slot store root birth);
      revives = record { revived = revived; tells = tells_revived store.kept birth; leaves = refl };
      stands = slot_stands root place (filter (λ x. not (revived x)) store.unreached) (filter (λ x. not (revived x)) store.doomed) s pointer
          (relieves_revived store.kept birth store.unreached store.doomed s.sound.fields)
          (λ y e. elim (eqb_tells place 0) [
            | inl z ↦ absurd (let none = renamed-none s.name place z.1 in let no : ⊥ = cc in no)
            | inr z ↦
                let full = renamed-full s.name place z.1 in
                let same : s.name place ≡ y = (let both : Some (s.name place) ≡ Some y = sym full ∙ e in cc) in
                let kept : IsTrue (is_kept store.kept y) = subst (λ (k : ℕ). IsTrue (is_kept store.kept k)) same (named-kept s place (pointer-some s.places place pointer z.1)) in
                subst (λ (b : Option ℕ). CanBeRoot store.kept (filter (λ x. not (revived_by store.kept b x)) store.unreached) (filter (λ x. not (revived_by store.kept b x)) store.doomed) y)
                (sym e) (can_revived store.kept y store.unreached store.doomed kept)
          ]);
    }

-- the target of the weak object in a slot
pub target_is : (heap : HeapParts) (store : Store) (root : ℕ) (s : PartsStandFor heap store) → place_in heap root ≢ 0
    → (info_at heap.setup.types (word_in heap) (place_in heap root)).shape ≡ Weak
    → target_at store root ≡ renamed s.name (word_in heap (layout_in heap root).ref_start)
target_is heap store root s full weak =
    ap target_in (object-found heap store root s full) ∙ target-from heap.setup.types s.name (word_in heap) (place_in heap root) weak

-- it is nil or the place of an object
pub target_pointer : (heap : HeapParts) (store : Store) (root : ℕ) (s : PartsStandFor heap store) → place_in heap root ≢ 0
    → (info_at heap.setup.types (word_in heap) (place_in heap root)).shape ≡ Weak → IsPointer s.places (word_in heap (layout_in heap root).ref_start)
target_pointer heap store root s full weak =
    let here = in_slot heap store root s full in
    let zeroth : word_in heap ((layout_in heap root).ref_start + 0) ≡ word_in heap (layout_in heap root).ref_start = ap (word_in heap) (omega arith) in
    let one = (weak-at heap.setup.types (word_in heap) (place_in heap root) weak).0 in
    subst (IsPointer s.places) zeroth (s.words.objects.closed (place_in heap root) 0 here.there (omega (arith, one)))

-- A slot gets the target of the weak object in a slot.
pub deref_stands : (heap : HeapParts) (store : Store) (to root : ℕ) (s : PartsStandFor heap store) → place_in heap root ≢ 0
    → (info_at heap.setup.types (word_in heap) (place_in heap root)).shape ≡ Weak
    → GetsRevived heap store to (word_in heap (layout_in heap root).ref_start) (target_at store root)
deref_stands heap store to root s full weak =
    let place : ℕ = word_in heap (layout_in heap root).ref_start in
    subst (GetsRevived heap store to place) (sym (target_is heap store root s full weak))
    (revive_stands heap store to place s (target_pointer heap store root s full weak))

-- the place of an object, or 0
abbrev pub place_or_nil : Option ℕ → ℕ
place_or_nil None = 0
place_or_nil (Some p) = p

object-named : (name : ℕ → ℕ) (t : Struct) → object_of (with_object name t) ≡ option_map name (object_of t)
object-named name (Linked p light o own) = refl
object-named name (Unlinked own) = refl
object-named name Pending = refl

-- A slot gets the object that a structure is linked with.
pub to_obj_stands : (heap : HeapParts) (store : Store) (to number : ℕ) (t : Struct) (s : PartsStandFor heap store) → value_at heap.links.structs number ≡ Some t
    → GetsRevived heap store to (place_or_nil (object_of t)) (linked_object store number)
to_obj_stands heap store to number t s is =
    let found : value_at store.structs number ≡ Some (with_object s.name t) = struct-named s number ∙ ap (option_map (with_object s.name)) is in
    let linked : linked_object store number ≡ option_map s.name (object_of t) = ap (option_and_then object_of) found ∙ object-named s.name t in
    by-object (object_of t) linked (λ p e. s.links.there number p (ap (option_and_then object_of) is ∙ e))
  where
    by-object : (o : Option ℕ) → linked_object store number ≡ option_map s.name o → ((p : ℕ) → o ≡ Some p → IsTrue (is_in p s.places))
        → GetsRevived heap store to (place_or_nil o) (linked_object store number)
    by-object None linked there = subst (GetsRevived heap store to 0) (sym linked) (revive_stands heap store to 0 s (inl refl))
    by-object (Some p) linked there =
        let above = s.words.objects.above p (there p refl) in
        let full = renamed-full s.name p (λ z. absurd (let no : ⊥ = omega (arith, above, z) in no)) in
        subst (GetsRevived heap store to p) (full ∙ sym linked) (revive_stands heap store to p s (inr (there p refl)))
