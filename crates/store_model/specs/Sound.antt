-- What holds of a store between any two commands. Each fact is over just the parts that it names.
use Rattle.std.specs.Prelude.{◌≡◌, ◌≢◌, ℕ, ◌+◌, ◌-◌, ◌/◌, ◌<◌, ◌≤◌, true, nat_eq, IsTrue, IsFalse, List, [], ◌∷◌, ◌++◌, Option, Some, None, map, flat_map, length, option_and_then}
use Rattle.std.specs.List.{IsDistinct, All}
use Rattle.type_table.specs.Table.{Table, KeysRise, value_at}
use Rattle.text_model.specs.declared.line.Phase.{Phase}
use Rattle.text_model.specs.declared.line.Phase.TheVariants.{Scanning, Marking, Sweeping, Finalizing}
use Rattle.object_model.specs.declared.settings.Settings.{Settings}
use Rattle.object_model.specs.Sets.{is_in}
use Rattle.object_model.specs.Object.{Object, object_at}
use Rattle.store_model.specs.Store.{Store, Struct, Linked, Unlinked, Pending}
use Rattle.store_model.specs.Structs.{object_of}
use Rattle.object_model.specs.Fields.{refs_of}
use Rattle.store_model.specs.Roots.{is_kept, roots_of, registered_births, referents_in, target_in}

-- each of these births is that of a kept object
abbrev pub AreKept : List Object → List ℕ → Type 0
AreKept kept births = (x : ℕ) → IsTrue (is_in x births) → IsTrue (is_kept kept x)

-- none of these births is among the others
abbrev pub AreNoneOf : List ℕ → List ℕ → Type 0
AreNoneOf births others = (x : ℕ) → IsTrue (is_in x births) → IsFalse (is_in x others)

-- none of these births is that of a kept object
abbrev pub AreGone : List Object → List ℕ → Type 0
AreGone kept births = (x : ℕ) → IsTrue (is_in x births) → IsFalse (is_kept kept x)

-- references and targets are kept
pub record AreFieldsKept (kept : List Object) : Type 0 where
  pub references : (x : ℕ) → AreKept kept (referents_in (object_at kept x))
  pub targets : (x t : ℕ) → target_in (object_at kept x) ≡ Some t → IsTrue (is_kept kept t)

-- pinned objects differ, are at most so many, are unsettled, and hold neither references nor a target; each is pinned once or more
pub record ArePinsSound (most : ℕ) (kept : List Object) (settled : List ℕ) (pinned : List (ℕ × ℕ)) : Type 0 where
  pub differ : IsDistinct nat_eq (map (λ entry. entry.0) pinned)
  pub few : length pinned ≤ most
  pub counted : All (λ entry. (0 < entry.1) × (entry.1 ≤ 65535)) pinned
  pub unsettled : AreNoneOf (map (λ entry. entry.0) pinned) settled
  pub no_references : (x : ℕ) → IsTrue (is_in x (map (λ entry. entry.0) pinned)) → refs_of (object_at kept x) ≡ []
  pub no_target : (x : ℕ) → IsTrue (is_in x (map (λ entry. entry.0) pinned)) → target_in (object_at kept x) ≡ None

-- a kept object that is not among the dead refers to none of them
abbrev pub AreCutOff : List Object → List ℕ → Type 0
AreCutOff kept dead =
    (x : ℕ) → IsTrue (is_kept kept x) → IsFalse (is_in x dead) → AreNoneOf (referents_in (object_at kept x)) dead

-- each of these births came before the next one
abbrev pub AreBefore : ℕ → List ℕ → Type 0
AreBefore next births = (x : ℕ) → IsTrue (is_in x births) → x < next

-- what is visited is settled and was not found unreached, and what is doomed was
pub record IsMarkingSound (settled visited unreached doomed : List ℕ) : Type 0 where
  pub visited_settled : (x : ℕ) → IsTrue (is_in x visited) → IsTrue (is_in x settled)
  pub visited_reached : AreNoneOf visited unreached
  pub doomed_unreached : (x : ℕ) → IsTrue (is_in x doomed) → IsTrue (is_in x unreached)

-- nothing is visited or unreached outside marking
pub record IsNotMarking (visited unreached : List ℕ) : Type 0 where
  pub no_visited : visited ≡ []
  pub no_unreached : unreached ≡ []

-- what the phase allows: husks, chosen and doomed objects, and how many sweeping steps may come
abbrev pub IsPhaseSound : Phase → ℕ → Store → Type 0
IsPhaseSound Scanning sweep store = (store.husks ≡ []) × (store.chosen ≡ []) × IsNotMarking store.visited store.unreached
IsPhaseSound Marking sweep store =
    (store.husks ≡ []) × (store.chosen ≡ []) × IsMarkingSound store.settled store.visited store.unreached store.doomed
IsPhaseSound Sweeping sweep store =
    (store.left ≤ (store.next - 1) / sweep + 1) × AreGone store.kept store.doomed × IsNotMarking store.visited store.unreached
IsPhaseSound Finalizing sweep store =
    (store.husks ≡ []) × AreGone store.kept store.doomed × IsNotMarking store.visited store.unreached

-- the object that a structure has a P link with
abbrev pub p_linked_object : Struct → Option ℕ
p_linked_object (Linked true light birth own) = Some birth
p_linked_object structure = None

-- an own count in its range, which is above 0 where it alone holds the structure
abbrev pub IsOwnSound : Struct → Type 0
IsOwnSound (Linked p light birth own) = own ≤ 4294967295
IsOwnSound (Unlinked own) = (0 < own) × (own ≤ 4294967295)
IsOwnSound Pending = Unit {0}

-- structures have numbers in range, no object has two P links, and the dead queue names just the pending ones, each once
pub record AreLinksSound (kept : List Object) (structs : Table Struct) (dead : List ℕ) : Type 0 where
  pub rises : KeysRise structs
  pub objects : (number x : ℕ) → option_and_then object_of (value_at structs number) ≡ Some x → IsTrue (is_kept kept x)
  pub one_p_link : (number other x : ℕ) → option_and_then p_linked_object (value_at structs number) ≡ Some x →
      option_and_then p_linked_object (value_at structs other) ≡ Some x → number ≡ other
  pub dead_once : IsDistinct nat_eq dead
  pub dead_pending : (number : ℕ) → IsTrue (is_in number dead) → value_at structs number ≡ Some Pending
  pub pending_dead : (number : ℕ) → value_at structs number ≡ Some Pending → IsTrue (is_in number dead)
  pub in_range : (number : ℕ) (s : Struct) → value_at structs number ≡ Some s → (number ≤ 65535) × IsOwnSound s

-- births are above 0, come before the next one and differ, and homes differ and belong to some of them
pub record AreBirthsSound (next : ℕ) (births : List ℕ) (homes : Table ℕ) : Type 0 where
  pub next_above : 0 < next
  pub homes_rise : KeysRise homes
  pub born : (x : ℕ) → IsTrue (is_in x births) → (0 < x) × (x < next)
  pub differ : IsDistinct nat_eq births
  pub homes_differ : (x y place : ℕ) → value_at homes x ≡ Some place → value_at homes y ≡ Some place → x ≡ y
  pub housed : (x place : ℕ) → value_at homes x ≡ Some place → IsTrue (is_in x births)

-- the births of what is kept, and of husks
abbrev pub births_in : Store → List ℕ
births_in store = map (λ object. object.birth) store.kept ++ map (λ husk. husk.0) store.husks

-- chosen and queued objects
abbrev pub waiting_births : Store → List ℕ
waiting_births store = map (λ entry. entry.0) store.chosen ++ flat_map (λ entry. entry.1) store.queues

-- the store is one that commands can leave
pub record IsSound (settings : Settings) (store : Store) : Type 0 where
  pub fields : AreFieldsKept store.kept
  pub settled : AreKept store.kept store.settled
  pub roots : AreKept store.kept (roots_of store)
  pub registered : AreKept store.kept (registered_births store)
  pub pins : ArePinsSound settings.pins store.kept store.settled store.pinned
  pub queues_rise : KeysRise store.queues
  pub waiting : (x : ℕ) → IsTrue (is_in x (waiting_births store)) → IsTrue (is_in x store.settled)
  pub once : IsDistinct nat_eq (registered_births store ++ waiting_births store)
  pub roots_reached : AreNoneOf (roots_of store) store.unreached
  pub unreached_cut_off : AreCutOff store.kept store.unreached
  pub unreached_born : AreBefore store.next store.unreached
  pub roots_retained : AreNoneOf (roots_of store) store.doomed
  pub registered_retained : AreNoneOf (registered_births store) store.doomed
  pub doomed_cut_off : AreCutOff store.kept store.doomed
  pub doomed_born : AreBefore store.next store.doomed
  pub phase : IsPhaseSound store.phase settings.sweep store
  pub links : AreLinksSound store.kept store.structs store.dead
  pub births : AreBirthsSound store.next (births_in store) store.homes

-- births that rise from a least one on, all before the next one
abbrev pub RiseBetween : ℕ → List ℕ → ℕ → Type 0
RiseBetween least [] next = least ≤ next
RiseBetween least (birth ∷ births) next = (least ≤ birth) × RiseBetween (birth + 1) births next

-- Births rise, husks are there only while they are swept, no queue is empty, and there are as many slots as the settings say.
pub record IsInForm (roots : ℕ) (store : Store) : Type 0 where
  pub kept : RiseBetween 1 (map (λ object. object.birth) store.kept) store.next
  pub husks : RiseBetween 1 (map (λ husk. husk.0) store.husks) store.next
  pub settled : RiseBetween 1 store.settled store.next
  pub swept : store.phase ≢ Sweeping → store.husks ≡ []
  pub no_empty_queue : (queue : ℕ) → value_at store.queues queue ≢ Some []
  pub slots : length store.slots ≡ roots
