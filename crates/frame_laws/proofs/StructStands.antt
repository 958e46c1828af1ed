-- What the parts of a heap stand for where a C structure comes, goes or changes.
use Rattle.std.proofs.Common.{◌≡◌, ◌≢◌, ℕ, ◌≤◌, Bool, true, false, IsTrue, List, Option, Some, None, refl, sym, ap, ap₂, ◌∙◌, subst, inl, inr}
use Rattle.std.specs.Prelude.{filter, option_map, option_and_then, ◌==◌, not, cond}
use Rattle.std.proofs.lemmas.Bool.Decides.{eqb_tells}
use Rattle.type_table.specs.Table.{Table, value_at, with_value}
use Rattle.type_table.proofs.TableLaws.{value_at-with_value}
use Rattle.store_model.specs.Store.{Store, Struct, Linked, Unlinked, Pending}
use Rattle.object_model.specs.Sets.{is_in}
use Rattle.store_model.specs.Roots.{is_kept}
use Rattle.store_model.specs.Structs.{Structs, object_of, forced_object, with_object, with_objects, raised}
use Rattle.store_model.specs.Sound.{p_linked_object}
use Rattle.store_model.specs.PlainCommands.{link_struct, structs_linked, raise_struct, raised_at, forced_anew, Revives, without_revived}
use Rattle.parts_model.specs.Parts.{HeapParts, place_in}
use Rattle.parts_model.specs.Lists.{HoldsLinks}
use Rattle.parts_model.specs.StandsFor.{PartsStandFor}
use Rattle.frame_laws.proofs.StandLaws.{in_slot}
use Rattle.store_model.proofs.RootLaws.{held_root, Relieves, relieves_none, can_root, can_relieved, are_roots}
use Rattle.store_model.proofs.SoundLaws.{CanBeRoot}
use Rattle.store_model.proofs.Rounds.{revived_by, tells_revived}
use Rattle.store_model.proofs.ReachLaws.{relieves_revived, can_revived}
use Rattle.frame_laws.proofs.RootStands.{rooted_stands}
use Rattle.store_model.proofs.StructLaws.{PutsAt, forced-found, value_at-objects, with_value-objects}
use Rattle.store_model.proofs.RootChanges.{struct_change}
use Rattle.store_model.proofs.StructChanges.{CanRise, object-raised, forced-raised, anew-object, raise_puts, make_puts}

-- the heap with other structures
abbrev pub with_links : HeapParts → Structs → HeapParts
with_links heap links = record heap { links = links }

-- the structures of the heap, of which one changed
pub links_held : {links : Structs} {places : List ℕ} {name : ℕ → ℕ} {structs : Table Struct} {dead : List ℕ} (number : ℕ) (after : Table Struct) (left : List ℕ) (found : Option Struct)
    → HoldsLinks links places name structs dead → ((q : ℕ) → value_at after q ≡ cond (q == number) found (value_at links.structs q))
    → ((p : ℕ) → option_and_then object_of found ≡ Some p → IsTrue (is_in p places))
    → HoldsLinks (record { structs = after; dead = left }) places name (with_objects name after) left
links_held {links = links} number after left found h at there = record {
  named = refl;
  there = λ n p e. elim (eqb_tells n number) [
    | inl is ↦ there p (ap (option_and_then object_of) (sym (at n ∙ ap (λ (b : Bool). cond b found (value_at links.structs n)) is.0)) ∙ e)
    | inr is ↦ h.there n p (ap (option_and_then object_of) (sym (at n ∙ ap (λ (b : Bool). cond b found (value_at links.structs n)) is.0)) ∙ e)
  ];
  queue = refl;
}

-- what stands at a number in the store
pub struct-named : {heap : HeapParts} {store : Store} (s : PartsStandFor heap store) (number : ℕ)
    → value_at store.structs number ≡ option_map (with_object s.name) (value_at heap.links.structs number)
struct-named {heap = heap} s number = ap (λ (t : Table Struct). value_at t number) s.links.named ∙ value_at-objects s.name heap.links.structs number

-- A structure changes, in the heap and in the store.
pub struct_stands : {heap : HeapParts} {store : Store} (s : PartsStandFor heap store) (number : ℕ) (after : Table Struct) (left : List ℕ) (found : Option Struct) (unreached doomed : List ℕ)
    → ((q : ℕ) → value_at after q ≡ cond (q == number) found (value_at heap.links.structs q))
    → ((p : ℕ) → option_and_then object_of found ≡ Some p → IsTrue (is_in p s.places))
    → PutsAt store.kept store.structs store.dead (with_objects s.name after) left number (option_map (with_object s.name) found)
    → Relieves store.kept store.unreached store.doomed unreached doomed
    → ((x : ℕ) → option_and_then forced_object (option_map (with_object s.name) found) ≡ Some x → CanBeRoot store.kept unreached doomed x)
    → PartsStandFor (with_links heap (record { structs = after; dead = left })) (record store { structs = with_objects s.name after; dead = left; unreached = unreached; doomed = doomed })
struct_stands s number after left found unreached doomed at there puts r can =
    rooted_stands s refl (struct_change unreached doomed s.sound puts r can) refl s.slots s.finalizers (links_held number after left found s.links at there)

rise-named : (name : ℕ → ℕ) (t : Struct) → CanRise t → CanRise (with_object name t)
rise-named name (Linked p light o own) l = l
rise-named name (Unlinked own) l = l
rise-named name Pending l = l

raised-named : (name : ℕ → ℕ) (t : Struct) → with_object name (raised t) ≡ raised (with_object name t)
raised-named name (Linked p light o own) = refl
raised-named name (Unlinked own) = refl
raised-named name Pending = refl

-- The own count of a structure rises: an object that it keeps anew is revived.
pub inc_stands : (heap : HeapParts) (store : Store) (number : ℕ) (t : Struct) (s : PartsStandFor heap store) → value_at heap.links.structs number ≡ Some t → CanRise t
    → (after : Store) × Revives (raise_struct store number) (forced_anew (value_at store.structs number)) after
    × PartsStandFor (with_links heap (record { structs = with_value heap.links.structs number (raised t); dead = heap.links.dead })) after
inc_stands heap store number t s is can =
    let named : Struct = with_object s.name t in
    let found : value_at store.structs number ≡ Some named = struct-named s number ∙ ap (option_map (with_object s.name)) is in
    let anew : Option ℕ = forced_anew (value_at store.structs number) in
    let anew_is : anew ≡ forced_anew (Some named) = ap forced_anew found in
    let risen : List (ℕ × Struct) = with_value heap.links.structs number (raised t) in
    let store_risen : with_objects s.name risen ≡ with_value store.structs number (raised named) =
    with_value-objects s.name heap.links.structs number (raised t) ∙ ap₂ (λ (xs : Table Struct) (y : Struct). with_value xs number y) (sym s.links.named) (raised-named s.name t) in
    let revived : ℕ → Bool = revived_by store.kept anew in
    let unreached : List ℕ = filter (λ x. not (revived x)) store.unreached in
    let doomed : List ℕ = filter (λ x. not (revived x)) store.doomed in
    let r : Relieves store.kept store.unreached store.doomed unreached doomed = relieves_revived store.kept anew store.unreached store.doomed s.sound.fields in
    let puts : PutsAt store.kept store.structs store.dead (with_objects s.name risen) heap.links.dead number (Some (with_object s.name (raised t))) =
    subst (λ (y : Struct). PutsAt store.kept store.structs store.dead (with_objects s.name risen) heap.links.dead number (Some y)) (sym (raised-named s.name t))
    (subst (λ (xs : Table Struct). PutsAt store.kept store.structs store.dead xs heap.links.dead number (Some (raised named))) (sym store_risen)
    (subst (λ (ds : List ℕ). PutsAt store.kept store.structs store.dead (with_value store.structs number (raised named)) ds number (Some (raised named))) s.links.queue (raise_puts s.sound.links number named found (rise-named s.name t can)))) in
    let root : (x : ℕ) → forced_object (with_object s.name (raised t)) ≡ Some x → CanBeRoot store.kept unreached doomed x =
    λ x e. elim (forced-raised named x (ap forced_object (sym (raised-named s.name t)) ∙ e)) [
      | inl was ↦ can_relieved r x (can_root s.sound x ((are_roots store).force x (forced-found store.structs number x (ap (option_and_then forced_object) found ∙ was))))
      | inr new ↦
          let kept : IsTrue (is_kept store.kept x) = s.sound.links.objects number x (ap (option_and_then object_of) found ∙ anew-object named x new) in
          subst (λ (a : Option ℕ). CanBeRoot store.kept (filter (λ y. not (revived_by store.kept a y)) store.unreached) (filter (λ y. not (revived_by store.kept a y)) store.doomed) x)
          (sym (anew_is ∙ new)) (can_revived store.kept x store.unreached store.doomed kept)
    ] in
    let stands = struct_stands s number risen heap.links.dead (Some (raised t)) unreached doomed (λ q. value_at-with_value heap.links.structs number q (raised t))
    (λ p e. s.links.there number p (ap (option_and_then object_of) is ∙ (sym (object-raised t) ∙ e))) puts r root in
    let raise : raise_struct store number ≡ record store { structs = with_value store.structs number (raised named) } =
    ap (λ (o : Option Struct). record store { structs = raised_at store.structs number o }) found in (
      without_revived revived (raise_struct store number),
      record { revived = revived; tells = tells_revived store.kept anew; leaves = refl },
      subst (λ (u : Store). PartsStandFor (with_links heap (record { structs = risen; dead = heap.links.dead })) u)
          (ap₂ (λ (xs : Table Struct) (ds : List ℕ). record store { structs = xs; dead = ds; unreached = unreached; doomed = doomed }) store_risen (sym s.links.queue)
          ∙ ap (without_revived revived) (sym raise)) stands,
    )

-- A structure is made for the object in a slot, which has no P link yet where this is one.
pub make_link_stands : (heap : HeapParts) (store : Store) (p : Bool) (number root : ℕ) (light : Bool) (own : ℕ) (s : PartsStandFor heap store) → place_in heap root ≢ 0
    → value_at heap.links.structs number ≡ None → number ≤ 65535 → own ≤ 4294967295
    → (IsTrue p → (other : ℕ) → option_and_then p_linked_object (value_at heap.links.structs other) ≡ Some (place_in heap root) → ⊥)
    → PartsStandFor (with_links heap (record { structs = with_value heap.links.structs number (Linked p light (place_in heap root) own); dead = heap.links.dead }))
    (link_struct store p number root light own)
make_link_stands heap store p number root light own s full absent few_numbers few free =
    let place : ℕ = place_in heap root in let birth : ℕ = s.name place in
    let here = in_slot heap store root s full in
    let made : List (ℕ × Struct) = with_value heap.links.structs number (Linked p light place own) in
    let none : value_at store.structs number ≡ None = struct-named s number ∙ ap (option_map (with_object s.name)) absent in
    let store_made : with_objects s.name made ≡ with_value store.structs number (Linked p light birth own) =
    with_value-objects s.name heap.links.structs number (Linked p light place own) ∙ ap (λ (xs : Table Struct). with_value xs number (Linked p light birth own)) (sym s.links.named) in
    let root_is : CanBeRoot store.kept store.unreached store.doomed birth = can_root s.sound birth (held_root store root birth here.named) in
    let puts : PutsAt store.kept store.structs store.dead (with_objects s.name made) heap.links.dead number (Some (Linked p light birth own)) =
    subst (λ (xs : Table Struct). PutsAt store.kept store.structs store.dead xs heap.links.dead number (Some (Linked p light birth own))) (sym store_made)
    (subst (λ (ds : List ℕ). PutsAt store.kept store.structs store.dead (with_value store.structs number (Linked p light birth own)) ds number (Some (Linked p light birth own))) s.links.queue (make_puts s.sound.links number p light birth own none few_numbers few root_is.is_there (λ yes. no-other s place here.there (free yes)))) in
    let stands = struct_stands s number made heap.links.dead (Some (Linked p light place own)) store.unreached store.doomed
    (λ q. value_at-with_value heap.links.structs number q (Linked p light place own))
    (λ q e. let same : place ≡ q = cc in subst (λ (k : ℕ). IsTrue (is_in k s.places)) same here.there) puts (relieves_none store.kept store.unreached store.doomed)
    (λ x e. subst (CanBeRoot store.kept store.unreached store.doomed) (forced-birth p light birth own x e) root_is) in
    subst (λ (u : Store). PartsStandFor (with_links heap (record { structs = made; dead = heap.links.dead })) u)
    (ap₂ (λ (xs : Table Struct) (ds : List ℕ). record store { structs = xs; dead = ds }) store_made (sym s.links.queue)
    ∙ sym (ap (λ (o : Option ℕ). record store { structs = structs_linked store.structs p number o light own }) here.named)) stands
  where
    forced-birth : (p light : Bool) (birth own x : ℕ) → forced_object (Linked p light birth own) ≡ Some x → birth ≡ x
    forced-birth true light birth own x e = elim (eqb_tells own 0) [
      | inl z ↦ absurd (let none : None ≡ Some x = rw z.0 at e in let no : ⊥ = cc in no)
      | inr z ↦ (let some : Some birth ≡ Some x = rw z.0 at e in let same : birth ≡ x = cc in same)
    ]
    forced-birth false light birth own x e = absurd (let no : ⊥ = cc in no)

    unnamed : (name : ℕ → ℕ) (t : Struct) (x : ℕ) → p_linked_object (with_object name t) ≡ Some x → (q : ℕ) × (p_linked_object t ≡ Some q) × (object_of t ≡ Some q) × (name q ≡ x)
    unnamed name (Linked true light o own) x e = (o, refl, refl, (let same : name o ≡ x = cc in same))
    unnamed name (Linked false light o own) x e = absurd (let no : ⊥ = cc in no)
    unnamed name (Unlinked own) x e = absurd (let no : ⊥ = cc in no)
    unnamed name Pending x e = absurd (let no : ⊥ = cc in no)

    unnamed-at : (name : ℕ → ℕ) (found : Option Struct) (x : ℕ) → option_and_then p_linked_object (option_map (with_object name) found) ≡ Some x
        → (q : ℕ) × (option_and_then p_linked_object found ≡ Some q) × (option_and_then object_of found ≡ Some q) × (name q ≡ x)
    unnamed-at name None x e = absurd (let no : ⊥ = cc in no)
    unnamed-at name (Some t) x e = unnamed name t x e

    no-other : {heap : HeapParts} {store : Store} (s : PartsStandFor heap store) (place : ℕ) → IsTrue (is_in place s.places)
        → ((other : ℕ) → option_and_then p_linked_object (value_at heap.links.structs other) ≡ Some place → ⊥)
        → (other : ℕ) → option_and_then p_linked_object (value_at store.structs other) ≡ Some (s.name place) → ⊥
    no-other {heap = heap} s place t free other e =
        let u = unnamed-at s.name (value_at heap.links.structs other) (s.name place) (ap (option_and_then p_linked_object) (sym (struct-named s other)) ∙ e) in
        let same : u.0 ≡ place = s.words.objects.differ u.0 place (s.links.there other u.0 u.2) t u.3 in
        free other (u.1 ∙ ap Some same)
