-- What leads to objects changes: pins, slots, structures.
use Rattle.std.proofs.Common.{◌≡◌, ℕ, IsTrue, List, map, refl, Option, Some, inl, inr, zero, suc, [], ◌∷◌, None, subst, ◌++◌, nat_eq, sym, arith}
use Rattle.std.specs.Prelude.{slice_set, option_and_then, filter_map, IsFalse}
use Rattle.object_model.specs.declared.settings.Settings.{Settings}
use Rattle.store_model.specs.Store.{Store, Struct}
use Rattle.object_model.specs.Sets.{is_in}
use Rattle.store_model.specs.Sound.{IsSound, ArePinsSound, waiting_births}
use Rattle.store_model.specs.Roots.{roots_of, referents_in, registered_births, is_kept}
use Rattle.store_model.proofs.SoundLaws.{CanBeRoot}
use Rattle.store_model.proofs.RootLaws.{relieves_none, can_root, RootChange, roots_each, are_roots, Relieves, can_relieved, set-in, not-in, chosen_births, queued_births}
use Rattle.type_table.specs.Table.{Table, value_at}
use Rattle.store_model.specs.Structs.{forced_object}
use Rattle.store_model.proofs.StructLaws.{PutsAt, links_put, forced-put}
use Rattle.object_model.proofs.Members.{is_in-head, is_in-tail, is_in-append, in-either, in-left, in-right}
use Rattle.object_model.specs.Object.{Object}
use Rattle.object_model.specs.Fields.{refs_of, ref_in}
use Rattle.std.specs.List.{IsDistinct}
use Rattle.std.proofs.lemmas.List.{map-append, append_assoc}
use Rattle.store_model.specs.PlainCommands.{take_next, next_of}
use Rattle.store_model.proofs.BirthSound.{distinct-insert}
use Rattle.store_model.proofs.Times.{once_less, times_first}
use Rattle.store_model.proofs.QueueLaws.{first-less, first-queued, first-rises}

-- The pins of a store change: each pinned object was pinned or is a root.
pub pins_change : (settings : Settings) (store : Store) (pinned : List (ℕ × ℕ)) → IsSound settings store → ArePinsSound settings.pins store.kept store.settled pinned
    → ((x : ℕ) → IsTrue (is_in x (map (λ entry. entry.0) pinned)) → IsTrue (is_in x (roots_of store)))
    → RootChange settings store (record store { pinned = pinned })
pins_change settings store pinned s sound rooted =
    let new : Store = record store { pinned = pinned } in
    let was = are_roots store in
    let old : (x : ℕ) → IsTrue (is_in x (roots_of store)) → CanBeRoot store.kept store.unreached store.doomed x = λ x t. can_root s x t in
    record {
      only = refl;
      relieves = relieves_none store.kept store.unreached store.doomed;
      roots = λ x t. roots_each {store = new} {P = CanBeRoot store.kept store.unreached store.doomed} (record {
        slot = λ y u. old y (was.slot y u);
        pin = λ y u. old y (rooted y u);
        choice = λ y u. old y (was.choice y u);
        queue = λ y u. old y (was.queue y u);
        force = λ y u. old y (was.force y u);
      }) x t;
      registered = λ x t. (s.registered x t, s.registered_retained x t);
      pins = sound;
      queues_rise = s.queues_rise;
      once = s.once;
      waiting = s.waiting;
      links = s.links;
    }

-- A slot changes, and what it leads to then may be a root.
pub slot_change : {settings : Settings} {store : Store} (root : ℕ) (birth : Option ℕ) (unreached doomed : List ℕ) → IsSound settings store
    → Relieves store.kept store.unreached store.doomed unreached doomed
    → ((y : ℕ) → birth ≡ Some y → CanBeRoot store.kept unreached doomed y)
    → RootChange settings store (record store { slots = slice_set store.slots root birth; unreached = unreached; doomed = doomed })
slot_change {settings = settings} {store = store} root birth unreached doomed s r can =
    let after : Store = record store { slots = slice_set store.slots root birth; unreached = unreached; doomed = doomed } in
    let was = are_roots store in
    let old : (x : ℕ) → IsTrue (is_in x (roots_of store)) → CanBeRoot store.kept unreached doomed x = λ x t. can_relieved r x (can_root s x t) in
    record {
      only = refl;
      relieves = r;
      roots = λ x t. roots_each {store = after} {P = CanBeRoot store.kept unreached doomed} (record {
        slot = λ y u. elim (set-in store.slots root birth y u) [ inl e ↦ can y e | inr v ↦ old y (was.slot y v) ];
        pin = λ y u. old y (was.pin y u);
        choice = λ y u. old y (was.choice y u);
        queue = λ y u. old y (was.queue y u);
        force = λ y u. old y (was.force y u);
      }) x t;
      registered = λ x t. (s.registered x t, (let fewer = r.doomed_less in not-in doomed store.doomed x fewer (s.registered_retained x t)));
      pins = s.pins;
      queues_rise = s.queues_rise;
      once = s.once;
      waiting = s.waiting;
      links = s.links;
    }

-- A structure changes, and what it keeps may be a root.
pub struct_change : {settings : Settings} {store : Store} {after : Table Struct} {left : List ℕ} {number : ℕ} {found : Option Struct} (unreached doomed : List ℕ)
    → IsSound settings store → PutsAt store.kept store.structs store.dead after left number found
    → Relieves store.kept store.unreached store.doomed unreached doomed
    → ((x : ℕ) → option_and_then forced_object found ≡ Some x → CanBeRoot store.kept unreached doomed x)
    → RootChange settings store (record store { structs = after; dead = left; unreached = unreached; doomed = doomed })
struct_change {settings = settings} {store = store} {after = after} {left = left} unreached doomed s p r can =
    let new : Store = record store { structs = after; dead = left; unreached = unreached; doomed = doomed } in
    let was = are_roots store in
    let old : (x : ℕ) → IsTrue (is_in x (roots_of store)) → CanBeRoot store.kept unreached doomed x = λ x t. can_relieved r x (can_root s x t) in
    record {
      only = refl;
      relieves = r;
      roots = λ x t. roots_each {store = new} {P = CanBeRoot store.kept unreached doomed} (record {
        slot = λ y u. old y (was.slot y u);
        pin = λ y u. old y (was.pin y u);
        choice = λ y u. old y (was.choice y u);
        queue = λ y u. old y (was.queue y u);
        force = λ y u. elim (forced-put p y u) [ inl e ↦ can y e | inr v ↦ old y (was.force y v) ];
      }) x t;
      registered = λ x t. (s.registered x t, not-in doomed store.doomed x r.doomed_less (s.registered_retained x t));
      pins = s.pins;
      queues_rise = s.queues_rise;
      once = s.once;
      waiting = s.waiting;
      links = links_put p s.links;
    }

ref-in : (refs : List (Option ℕ)) (i y : ℕ) → ref_in refs i ≡ Some y → IsTrue (is_in y (filter_map (λ r. r) refs))
ref-in [] i y e = absurd (let no : ⊥ = cc in no)
ref-in (None ∷ refs) zero y e = absurd (let no : ⊥ = cc in no)
ref-in (Some x ∷ refs) zero y e = let same : x ≡ y = cc in subst (λ (k : ℕ). IsTrue (is_in k (x ∷ filter_map (λ r. r) refs))) same (is_in-head x (filter_map (λ r. r) refs))
ref-in (None ∷ refs) (suc i) y e = ref-in refs i y e
ref-in (Some x ∷ refs) (suc i) y e = is_in-tail y x (filter_map (λ r. r) refs) (ref-in refs i y e)

-- a reference of an object that is there is among its references
pub found-ref : (found : Option Object) (i y : ℕ) → ref_in (refs_of found) i ≡ Some y → IsTrue (is_in y (referents_in found))
found-ref None i y e = absurd (let no : ⊥ = cc in no)
found-ref (Some o) i y e = ref-in o.refs i y e

-- An object is registered, which neither is registered nor waits.
pub register_change : {settings : Settings} {store : Store} (birth queue : ℕ) → IsSound settings store → CanBeRoot store.kept store.unreached store.doomed birth
    → IsFalse (is_in birth (registered_births store ++ waiting_births store))
    → RootChange settings store (record store { registered = store.registered ++ (birth, queue) ∷ [] })
register_change {store = store} birth queue s root none =
    let new : Store = record store { registered = store.registered ++ (birth, queue) ∷ [] } in
    let births : registered_births new ≡ registered_births store ++ birth ∷ [] = map-append (λ (e : ℕ × ℕ). e.0) store.registered ((birth, queue) ∷ []) in
    record {
      only = refl;
      relieves = relieves_none store.kept store.unreached store.doomed;
      roots = λ x t. can_root s x t;
      registered = λ x t. elim (is_in-append (registered_births store) birth x (subst (λ (xs : List ℕ). IsTrue (is_in x xs)) births t)) [
        | inl e ↦ (subst (λ (k : ℕ). IsTrue (is_kept store.kept k)) (sym e) root.is_there, subst (λ (k : ℕ). IsFalse (is_in k store.doomed)) (sym e) root.retained)
        | inr u ↦ (s.registered x u, s.registered_retained x u)
      ];
      pins = s.pins;
      queues_rise = s.queues_rise;
      waiting = s.waiting;
      once = subst (λ (xs : List ℕ). IsDistinct nat_eq (xs ++ waiting_births store)) (sym births)
          (subst (IsDistinct nat_eq) (sym (append_assoc (registered_births store) (birth ∷ []) (waiting_births store)))
          (distinct-insert birth (registered_births store) (waiting_births store) (λ y t e. absurd (
          let some : IsTrue (is_in birth (registered_births store ++ waiting_births store)) = subst (λ (k : ℕ). IsTrue (is_in k (registered_births store ++ waiting_births store))) e t in
          let no : ⊥ = cc in no)) s.once));
      links = s.links;
    }

-- A slot gets the first of a queue, or becomes empty.
pub next_change : {settings : Settings} {store : Store} (to queue : ℕ) → IsSound settings store → RootChange settings store (take_next store to queue)
next_change {store = store} to queue s =
    let new : Store = take_next store to queue in
    let was = are_roots store in
    let old : (x : ℕ) → IsTrue (is_in x (roots_of store)) → CanBeRoot store.kept store.unreached store.doomed x = λ x t. can_root s x t in
    let less : (x : ℕ) → IsTrue (is_in x (queued_births new)) → IsTrue (is_in x (queued_births store)) = λ x t. first-less store.queues queue x (value_at store.queues queue) refl t in
    record {
      only = refl;
      relieves = relieves_none store.kept store.unreached store.doomed;
      roots = λ x t. roots_each {store = new} {P = CanBeRoot store.kept store.unreached store.doomed} (record {
        slot = λ y u. elim (set-in store.slots to (next_of store queue) y u) [
          | inl e ↦ old y (was.queue y (first-queued store.queues queue y (value_at store.queues queue) refl e))
          | inr v ↦ old y (was.slot y v)
        ];
        pin = λ y u. old y (was.pin y u);
        choice = λ y u. old y (was.choice y u);
        queue = λ y u. old y (was.queue y (less y u));
        force = λ y u. old y (was.force y u);
      }) x t;
      registered = λ x t. (s.registered x t, s.registered_retained x t);
      pins = s.pins;
      queues_rise = first-rises store.queues queue (value_at store.queues queue) s.queues_rise;
      once = once_less (registered_births store) (chosen_births store) (queued_births store) (registered_births new) (chosen_births new) (queued_births new) s.once
          (λ x. let less = times_first x queue store.queues (value_at store.queues queue) s.queues_rise refl in omega (arith, less));
      waiting = λ x t. elim (in-either x (chosen_births store) (queued_births new) t) [
        | inl a ↦ s.waiting x (in-left x (chosen_births store) (queued_births store) a)
        | inr b ↦ s.waiting x (in-right x (chosen_births store) (queued_births store) (less x b))
      ];
      links = s.links;
    }
