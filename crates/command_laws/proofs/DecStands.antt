-- The own count of a structure falls, or the oldest of the dead queue is taken.
use Rattle.std.proofs.Common.{◌≡◌, ℕ, ◌-◌, Bool, true, false, IsTrue, nat_eq, List, ◌∷◌, Option, Some, None, refl, sym, ap, ap₂, ◌∙◌, subst}
use Rattle.std.specs.Prelude.{option_map, option_and_then, ◌==◌, if◌then◌else◌}
use Rattle.std.specs.List.{IsDistinct}
use Rattle.object_model.proofs.Members.{is_in-head}
use Rattle.type_table.specs.Table.{Table, value_at, with_value}
use Rattle.type_table.proofs.TableLaws.{value_at-with_value}
use Rattle.store_model.specs.Store.{Store, Struct, Linked, Unlinked, Pending}
use Rattle.object_model.specs.Sets.{is_in}
use Rattle.store_model.specs.Structs.{object_of, forced_object, with_object, with_objects, lowered, take_dead, with_struct}
use Rattle.store_model.specs.PlainCommands.{lower_struct, lowered_at, take_dead_struct}
use Rattle.parts_model.specs.Parts.{HeapParts}
use Rattle.parts_model.specs.StandsFor.{PartsStandFor}
use Rattle.store_model.proofs.RootLaws.{relieves_none, can_root, are_roots}
use Rattle.store_model.proofs.StructLaws.{PutsAt, forced-found, with_value-objects}
use Rattle.frame_laws.proofs.StructStands.{with_links, struct_stands, struct-named}
use Rattle.store_model.proofs.StructChanges.{CanFall, object-lowered, forced-lowered, struct-at, struct-objects, lower_puts, take_puts}

fall-named : (name : ℕ → ℕ) (t : Struct) → CanFall t → CanFall (with_object name t)
fall-named name (Linked p light o own) l = l
fall-named name (Unlinked own) l = l
fall-named name Pending l = l

lowered-named : (name : ℕ → ℕ) (t : Struct) → option_map (with_object name) (lowered t) ≡ lowered (with_object name t)
lowered-named name (Linked p light o own) = refl
lowered-named name (Unlinked own) = elim (own == 1) as (λ (b : Bool). option_map (with_object name) (if b then None else Some (Unlinked (own - 1))) ≡ (if b then None else Some (Unlinked (own - 1)))) [ true ↦ refl | false ↦ refl ]
lowered-named name Pending = refl

-- The own count of a structure falls.
pub dec_stands : (heap : HeapParts) (store : Store) (number : ℕ) (t : Struct) (s : PartsStandFor heap store) → value_at heap.links.structs number ≡ Some t → CanFall t
    → PartsStandFor (with_links heap (record { structs = with_struct heap.links.structs number (lowered t); dead = heap.links.dead })) (lower_struct store number)
dec_stands heap store number t s is can =
    let named : Struct = with_object s.name t in
    let found : value_at store.structs number ≡ Some named = struct-named s number ∙ ap (option_map (with_object s.name)) is in
    let left : Option Struct = lowered named in
    let fallen : Table Struct = with_struct heap.links.structs number (lowered t) in
    let can_named = fall-named s.name t can in
    let store_fallen : with_objects s.name fallen ≡ with_struct store.structs number left =
    struct-objects s.name heap.links.structs number (lowered t) ∙ ap₂ (λ (xs : Table Struct) (o : Option Struct). with_struct xs number o) (sym s.links.named) (lowered-named s.name t) in
    let puts : PutsAt store.kept store.structs store.dead (with_objects s.name fallen) heap.links.dead number (option_map (with_object s.name) (lowered t)) =
    subst (λ (o : Option Struct). PutsAt store.kept store.structs store.dead (with_objects s.name fallen) heap.links.dead number o) (sym (lowered-named s.name t))
    (subst (λ (xs : Table Struct). PutsAt store.kept store.structs store.dead xs heap.links.dead number left) (sym store_fallen)
    (subst (λ (ds : List ℕ). PutsAt store.kept store.structs store.dead (with_struct store.structs number left) ds number left) s.links.queue (lower_puts s.sound.links number named found can_named))) in
    let stands = struct_stands s number fallen heap.links.dead (lowered t) store.unreached store.doomed (λ q. struct-at heap.links.structs number q (lowered t))
    (λ p e. s.links.there number p (ap (option_and_then object_of) is ∙ object-lowered t p e)) puts (relieves_none store.kept store.unreached store.doomed)
    (λ x e. can_root s.sound x ((are_roots store).force x (forced-found store.structs number x
    (ap (option_and_then forced_object) found ∙ forced-lowered named x (ap (option_and_then forced_object) (sym (lowered-named s.name t)) ∙ e))))) in
    subst (λ (u : Store). PartsStandFor (with_links heap (record { structs = fallen; dead = heap.links.dead })) u)
    (ap₂ (λ (xs : Table Struct) (ds : List ℕ). record store { structs = xs; dead = ds }) store_fallen (sym s.links.queue)
    ∙ sym (ap (λ (o : Option Struct). record store { structs = lowered_at store.structs number o }) found)) stands

-- The oldest of the dead queue is taken.
pub next_dead_stands : (heap : HeapParts) (store : Store) (number : ℕ) (rest : List ℕ) (s : PartsStandFor heap store) → heap.links.dead ≡ number ∷ rest
    → PartsStandFor (with_links heap (record { structs = with_value heap.links.structs number (Unlinked 1); dead = rest })) (take_dead_struct store)
next_dead_stands heap store number rest s is =
    let queue : store.dead ≡ number ∷ rest = s.links.queue ∙ is in
    let taken : Table Struct = with_value heap.links.structs number (Unlinked 1) in
    let store_taken : with_objects s.name taken ≡ with_value store.structs number (Unlinked 1) =
    with_value-objects s.name heap.links.structs number (Unlinked 1) ∙ ap (λ (xs : Table Struct). with_value xs number (Unlinked 1)) (sym s.links.named) in
    let once : IsDistinct nat_eq (number ∷ rest) = subst (IsDistinct nat_eq) queue s.sound.links.dead_once in
    let pending : value_at store.structs number ≡ Some Pending =
    s.sound.links.dead_pending number (subst (λ (ds : List ℕ). IsTrue (is_in number ds)) (sym queue) (is_in-head number rest)) in
    let puts : PutsAt store.kept store.structs store.dead (with_objects s.name taken) rest number (Some (Unlinked 1)) =
    subst (λ (xs : Table Struct). PutsAt store.kept store.structs store.dead xs rest number (Some (Unlinked 1))) (sym store_taken) (take_puts s.sound.links number rest queue) in
    let stands = struct_stands s number taken rest (Some (Unlinked 1)) store.unreached store.doomed (λ q. value_at-with_value heap.links.structs number q (Unlinked 1))
    (λ p e. absurd (let no : ⊥ = cc in no)) puts (relieves_none store.kept store.unreached store.doomed) (λ x e. absurd (let no : ⊥ = cc in no)) in
    subst (λ (u : Store). PartsStandFor (with_links heap (record { structs = taken; dead = rest })) u)
    (ap (λ (xs : Table Struct). record store { structs = xs; dead = rest }) store_taken
    ∙ sym (ap (λ (ds : List ℕ). record store { structs = (take_dead store.structs ds).structs; dead = (take_dead store.structs ds).dead }) queue)) stands
