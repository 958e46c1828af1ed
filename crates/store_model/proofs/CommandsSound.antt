-- Commands that write, move what slots hold, or revive an object leave a sound store.
use Rattle.std.proofs.Common.{◌≡◌, ℕ, Bool, true, false, IsTrue, List, Option, Some, None, refl, sym, ap, subst}
use Rattle.std.specs.Prelude.{not, filter, option_and_then}
use Rattle.object_model.specs.declared.settings.Settings.{Settings}
use Rattle.object_model.specs.Object.{Object, object_at}
use Rattle.object_model.specs.Fields.{changed_at}
use Rattle.object_model.specs.Sets.{is_in}
use Rattle.object_model.proofs.Members.{filter-agree}
use Rattle.store_model.specs.Store.{Store}
use Rattle.store_model.specs.Slots.{held, object_in, put_in_slot}
use Rattle.store_model.specs.Roots.{referents_in, is_kept}
use Rattle.store_model.specs.Reach.{Tells}
use Rattle.store_model.specs.PlainCommands.{IsRevived, Revives}
use Rattle.store_model.specs.Sound.{IsSound}
use Rattle.store_model.specs.Steps.{put_int, put_ref, ref_at}
use Rattle.store_model.proofs.Rounds.{revived_by, tells_revived}
use Rattle.store_model.proofs.SoundLaws.{CanBeRoot, sound_after}
use Rattle.store_model.proofs.FieldChanges.{IsFieldChange, int_change, ref_change, same_but_for}
use Rattle.store_model.proofs.RootLaws.{Relieves, relieves_none, can_root, can_refer, sound_rerooted, held_root}
use Rattle.store_model.proofs.ReachLaws.{relieves_revived, can_revived}
use Rattle.store_model.proofs.RootChanges.{slot_change, found-ref}

-- fields of an object change, and each new reference is that of an object that may be a root
pub field_sound : {settings : Settings} {store : Store} (birth : Option ℕ) {f : Object → Object} {news : ℕ → ℕ → Type 0} → IsFieldChange f news
    → ((i y : ℕ) → news i y → CanBeRoot store.kept store.unreached store.doomed y) → IsSound settings store → IsSound settings (record store { kept = changed_at birth f store.kept })
field_sound None c can s = s
field_sound {settings} {store} (Some a) {f} c can s =
    sound_after settings store (changed_at (Some a) f store.kept) (same_but_for c a store.kept (CanBeRoot store.kept store.unreached store.doomed) can) s

-- what a slot holds may be a root, and what the object in a slot refers to
pub can_held : {settings : Settings} {store : Store} → IsSound settings store → (slot y : ℕ) → held store.slots slot ≡ Some y → CanBeRoot store.kept store.unreached store.doomed y
can_held {store = store} s slot y e = can_root s y (held_root store slot y e)

pub can_referred : {settings : Settings} {store : Store} → IsSound settings store → (slot y : ℕ) → IsTrue (is_in y (referents_in (object_in store.slots store.kept slot)))
    → CanBeRoot store.kept store.unreached store.doomed y
can_referred {store = store} s slot y t = go (held store.slots slot) refl t
  where
    go : (h : Option ℕ) → held store.slots slot ≡ h → IsTrue (is_in y (referents_in (option_and_then (object_at store.kept) h))) → CanBeRoot store.kept store.unreached store.doomed y
    go None e t = absurd (let no : ⊥ = cc in no)
    go (Some x) e t = can_refer s x y (can_held s slot x e) t

-- A whole number is put, and a reference to what a slot holds.
pub put_sound : {settings : Settings} {store : Store} (root item value : ℕ) → IsSound settings store → IsSound settings (put_int store root item value)
put_sound {store = store} root item value s = field_sound (held store.slots root) (int_change item value) (λ i y n. absurd n) s

pub link_sound : {settings : Settings} {store : Store} (root item from : ℕ) → IsSound settings store → IsSound settings (put_ref store root item (held store.slots from))
link_sound {store = store} root item from s = field_sound (held store.slots root) (ref_change item (held store.slots from)) (λ i y n. can_held s from y n.1) s

-- A slot gets what another holds or refers to, or becomes empty.
pub slot_sound : {settings : Settings} {store : Store} (to : ℕ) (birth : Option ℕ) → ((y : ℕ) → birth ≡ Some y → CanBeRoot store.kept store.unreached store.doomed y)
    → IsSound settings store → IsSound settings (put_in_slot store to birth)
slot_sound {store = store} to birth can s = sound_rerooted (slot_change to birth store.unreached store.doomed s (relieves_none store.kept store.unreached store.doomed) can) s

pub move_sound : {settings : Settings} {store : Store} (to from : ℕ) → IsSound settings store → IsSound settings (put_in_slot store to (held store.slots from))
move_sound {store = store} to from s = slot_sound to (held store.slots from) (can_held s from) s

pub load_sound : {settings : Settings} {store : Store} (to root item : ℕ) → IsSound settings store → IsSound settings (put_in_slot store to (ref_at store root item))
load_sound {store = store} to root item s =
    slot_sound to (ref_at store root item) (λ y e. can_referred s root y (found-ref (object_in store.slots store.kept root) item y e)) s

-- two tests that hold together
agree : (a b : Bool) → (IsTrue a → IsTrue b) → (IsTrue b → IsTrue a) → a ≡ b
agree true b to from = sym (to refl)
agree false true to from = from refl
agree false false to from = refl

same_left : (kept : List Object) (birth : Option ℕ) (revived : ℕ → Bool) → Tells revived (IsRevived kept birth) → (xs : List ℕ)
    → filter (λ x. not (revived_by kept birth x)) xs ≡ filter (λ x. not (revived x)) xs
same_left kept birth revived tells xs =
    filter-agree (λ x. not (revived_by kept birth x)) (λ x. not (revived x)) xs
    (λ x t. ap not (agree (revived_by kept birth x) (revived x) (λ u. (tells x).1 ((tells_revived kept birth x).0 u)) (λ u. (tells_revived kept birth x).1 ((tells x).0 u))))

-- A slot gets an object, which is revived with all that it reaches.
pub revive_sound : {settings : Settings} {store : Store} (to : ℕ) (birth : Option ℕ) (new : Store) → ((y : ℕ) → birth ≡ Some y → IsTrue (is_kept store.kept y))
    → Revives (put_in_slot store to birth) birth new → IsSound settings store → IsSound settings new
revive_sound {settings} {store} to birth new there r s =
    let unreached : List ℕ = filter (λ x. not (r.revived x)) store.unreached in
    let doomed : List ℕ = filter (λ x. not (r.revived x)) store.doomed in
    let one = same_left store.kept birth r.revived r.tells store.unreached in
    let two = same_left store.kept birth r.revived r.tells store.doomed in
    let relieves : Relieves store.kept store.unreached store.doomed unreached doomed =
    subst (λ xs. Relieves store.kept store.unreached store.doomed xs doomed) one
    (subst (λ xs. Relieves store.kept store.unreached store.doomed (filter (λ x. not (revived_by store.kept birth x)) store.unreached) xs) two
    (relieves_revived store.kept birth store.unreached store.doomed s.fields)) in
    let can : (y : ℕ) → birth ≡ Some y → CanBeRoot store.kept unreached doomed y = λ y e.
    subst (λ xs. CanBeRoot store.kept xs doomed y) one
    (subst (λ xs. CanBeRoot store.kept (filter (λ x. not (revived_by store.kept birth x)) store.unreached) xs y) two
    (subst (λ (b : Option ℕ). CanBeRoot store.kept (filter (λ x. not (revived_by store.kept b x)) store.unreached) (filter (λ x. not (revived_by store.kept b x)) store.doomed) y) (sym e)
    (can_revived store.kept y store.unreached store.doomed (there y e)))) in
    subst (IsSound settings) (sym r.leaves) (sound_rerooted (slot_change to birth unreached doomed s relieves can) s)
