-- What the functions of a minor collection ask for and leave: the middle of a collection, over the parts as they are.
use Rattle.std.specs.Prelude.{◌≡◌, ◌≢◌, ℕ, ◌+◌, ◌<◌, ◌≤◌, ◌⊎◌, ◌==◌, ◌&&◌, not, nat_lt, Bool, true, false, IsTrue, List, [], ◌∷◌, ◌++◌, map, filter, filter_map, length, Option, Some, None, if◌then◌else◌}
use Rattle.heap_space.specs.Extents.{Extent}
use Rattle.heap_space.specs.Memory.{Memory}
use Rattle.heap_space.specs.Places.{with_word, with_run, run_at}
use Rattle.object_header.specs.Words.{with_flag}
use Rattle.object_header.specs.declared.flags.Flag.TheVariants.{Visited}
use Rattle.object_view.proofs.LayoutLaws.{SameAt, KeepsLayout}
use Rattle.object_view.specs.Views.{view_at}
use Rattle.object_view.specs.declared.fields.ObjView.{ObjView}
use Rattle.object_model.specs.Sets.{is_in}
use Rattle.object_model.specs.ObjectWords.{words_at, layout_at, info_at, type_id_at}
use Rattle.object_model.specs.Holds.{IsPointer}
use Rattle.store_model.specs.Store.{Store}
use Rattle.store_model.specs.Structs.{Structs, object_of, with_objects, forced_objects}
use Rattle.store_model.specs.MarkingOrder.{IsItem}
use Rattle.store_model.specs.Roots.{pinned_births}
use Rattle.store_model.specs.MinorCollection.{is_unsettled, is_entry, SurvivesBy}
use Rattle.remember_cards.specs.Remembered.{is_held_of, is_held_whole}
use Rattle.heap_parts.specs.Parts.{HeapParts, word_in, pinned_places}
use Rattle.heap_parts.specs.Places.{is_young, old_places}
use Rattle.heap_parts.specs.StandsFor.{PartsStandButYoung}
use Rattle.heap_parts.specs.Births.{with_old_blocks, old_header}
use Rattle.heap_parts.specs.Headers.{keeps_cards}
use Rattle.minor_collect.specs.declared.work.Moving.{Moving}
use Rattle.minor_collect.specs.Carried.{Moved, none_moved, one_moved}
use Rattle.minor_collect.specs.Entries.{has_remembered_referrer}
use Rattle.minor_collect.specs.Midway.{Midway, changing_of, with_changing, Owes, OwesNone, Placing, one_settled, is_lasting, IsDone, FollowsLists, FollowedTo}
use Rattle.minor_collect.specs.Sizes.{TellSizes}

-- the parts with which a collection began, and a store that they stood for
pub record Stage : Type 0 where
  pub start : HeapParts
  pub store : Store
  pub stands : PartsStandButYoung start store

-- the items that were remembered then, by births
abbrev pub remembered_at : Stage → ℕ → ℕ → Bool
remembered_at stage = is_held_of stage.start.remembered stage.stands.name

-- whether an unsettled object survives by itself
abbrev pub is_entry_at : Stage → ℕ → Bool
is_entry_at stage = is_entry stage.store (has_remembered_referrer stage.store (remembered_at stage))

-- the births of those that do
abbrev pub entries_of : Stage → List ℕ
entries_of stage = filter (is_entry_at stage) (map (λ object. object.birth) stage.store.kept)

-- the object of a birth is settled, or survives
abbrev pub MayBeFound : Stage → ℕ → Type 0
MayBeFound stage birth = IsTrue (is_unsettled stage.store birth) → SurvivesBy stage.store (has_remembered_referrer stage.store (remembered_at stage)) birth

-- How far a collection is. todo: the places of objects that are still to be opened; held: of those that are kept for pinned ones.
pub record Spot : Type 0 where
  pub placing : Placing
  pub todo : List ℕ
  pub held : List ℕ
  pub owes : Owes
  pub moved : Moved

-- and how far once the object at p, of so many words, moved to a
abbrev pub spot_settled : Spot → ℕ → ℕ → ℕ → Spot
spot_settled spot p n a = record spot { placing = one_settled spot.placing p a; todo = a ∷ spot.todo; moved = one_moved spot.moved n }

-- one slot less is owed
abbrev pub without_slot : Owes → ℕ → Owes
without_slot owes k = record owes { slots = λ j. not (j == k) && owes.slots j }

-- the parts are in the middle of a collection, with these blocks taken and not used yet
pub record Middle (stage : Stage) (now : HeapParts) (spot : Spot) (taken : List Extent) : Type 0 where
  pub mid : Midway stage.start stage.store (remembered_at stage) (changing_of now) spot.placing spot.todo spot.held (entries_of stage) spot.owes spot.moved taken
  pub rest : now ≡ with_changing stage.start (changing_of now)
  pub sizes : TellSizes stage.start.setup.types (word_in now) spot.placing.met (words_at stage.start.setup.types (word_in stage.start))

-- What is owed as a collection begins: what is remembered, each slot and each registered object.
abbrev pub owes_at : Stage → Owes
owes_at stage = record {
  items = λ q j. is_in q (old_places stage.stands.places) && (nat_lt j (layout_at stage.start.setup.types (word_in stage.start) q).ref_count && remembered_at stage (stage.stands.name q) j);
  slots = λ k. nat_lt k (length stage.start.slots);
  registered = λ k. nat_lt k (length stage.start.registered);
  links = λ p. false;
}

-- how far a collection is as it begins
abbrev pub spot_begins : Stage → Spot
spot_begins stage = record {
  placing = record {
    met = stage.stands.places;
    places = stage.stands.places;
    husks = stage.stands.husks;
    waiting = stage.stands.waiting;
    name = stage.stands.name;
    found = pinned_births stage.store;
  };
  todo = [];
  held = [];
  owes = owes_at stage;
  moved = none_moved;
}

-- a block can be taken in some middle
pub record CanTake (now : HeapParts) (n : ℕ) : Type 0 where
  pub stage : Stage
  pub spot : Spot
  pub middle : Middle stage now spot []
  pub least : 2 ≤ n
  pub most : n ≤ 16777219

-- A block was taken: the middle has it, and objects keep their words.
pub record TookRoom (stage : Stage) (now new : HeapParts) (spot : Spot) (n a : ℕ) : Type 0 where
  pub after : Middle stage new spot ((a, n) ∷ [])
  pub only : new ≡ with_old_blocks now new.old_blocks new.memory
  pub same : (q : ℕ) → IsTrue (is_in q spot.placing.places) → SameAt stage.start.setup.types (word_in new) (word_in now) q

-- a reference of some middle
pub record CanFollowStill (now : HeapParts) (x : ℕ) : Type 0 where
  pub stage : Stage
  pub spot : Spot
  pub middle : Middle stage now spot []
  pub pointer : IsPointer spot.placing.met x

-- nil leads to nil, and else to where the object stays
abbrev pub LeadsTo : Stage → Spot → ℕ → ℕ → Type 0
LeadsTo stage spot x y = ((x ≡ 0) × (y ≡ 0)) ⊎ FollowedTo stage.store (pinned_places stage.start) spot.placing.places spot.placing.found spot.placing.name x y

-- and with no answer the object waits to move
abbrev pub FollowsStill : Stage → Spot → ℕ → Option ℕ → Type 0
FollowsStill stage spot x (Some y) = LeadsTo stage spot x y
FollowsStill stage spot x None = IsTrue (is_in x spot.placing.places) × (is_lasting (pinned_places stage.start) x ≡ false)

-- the object at p waits to move, and has so many words
pub record Waits (stage : Stage) (now : HeapParts) (spot : Spot) (p n : ℕ) : Type 0 where
  pub there : IsTrue (is_in p spot.placing.places)
  pub waits : is_lasting (pinned_places stage.start) p ≡ false
  pub size : n ≡ words_at stage.start.setup.types (word_in now) p
  pub may : MayBeFound stage (spot.placing.name p)

-- The object at p moved to a: it is found and to be opened, and other objects keep their words.
pub record Settled (stage : Stage) (now new : HeapParts) (spot : Spot) (p n a : ℕ) : Type 0 where
  pub after : Middle stage new (spot_settled spot p n a) []
  pub fresh : is_in a spot.placing.met ≡ false
  pub only : new ≡ record now { memory = new.memory; shadows = new.shadows; old_blocks = new.old_blocks }
  pub same : (q : ℕ) → IsTrue (is_in q spot.placing.places) → q ≢ p → SameAt stage.start.setup.types (word_in new) (word_in now) q

-- the first word of a settled object of a type: it is tracked, and keeps cards and counts as visited where that is told
abbrev pub settled_word : ℕ → Bool → Bool → ℕ
settled_word type_id cards visited = if visited then with_flag (old_header type_id cards) Visited else old_header type_id cards

-- and that of the object at p once it is settled
abbrev pub settled_word_of : HeapParts → ℕ → Bool → ℕ
settled_word_of heap p visited = settled_word (type_id_at (word_in heap) p)
    (keeps_cards heap.setup.settings.card (info_at heap.setup.types (word_in heap) p).shape (layout_at heap.setup.types (word_in heap) p).ref_count) visited

-- the memory after an object of n words moved from p to a, and got this first word
abbrev pub settled_memory : Memory → ℕ → ℕ → ℕ → ℕ → Memory
settled_memory memory p n a head = record memory {
  blocks = with_word (with_word (with_word (with_run memory.blocks a (run_at memory.blocks p n)) p 18446744073709551615) (p + 1) a) a head;
}

-- the object at p can move into the block at a, which was taken
pub record CanSettle (now : HeapParts) (p n a : ℕ) : Type 0 where
  pub stage : Stage
  pub spot : Spot
  pub middle : Middle stage now spot ((a, n) ∷ [])
  pub waits : Waits stage now spot p n

-- the object at p can move out of the nursery
pub record CanRelocate (now : HeapParts) (p n : ℕ) : Type 0 where
  pub stage : Stage
  pub spot : Spot
  pub middle : Middle stage now spot []
  pub waits : Waits stage now spot p n

-- what the code counts is what moved
pub record IsCounted (moving : Moving) (moved : Moved) : Type 0 where
  pub objects : moving.objects ≡ moved.objects
  pub words : moving.words ≡ moved.words

-- the objects that structures are linked with
abbrev pub linked_places : Structs → List ℕ
linked_places links = filter_map (λ entry. object_of entry.1) links.structs

-- The parts are in the middle of a collection between two of its steps: what the code counts is what moved, lists lead to objects where
-- nothing is owed of them, and what is held for the next collection is remembered whole.
pub record Standing (stage : Stage) (now : HeapParts) (moving : Moving) (spot : Spot) : Type 0 where
  pub middle : Middle stage now spot []
  pub counted : IsCounted moving spot.moved
  pub lists : FollowsLists (pinned_places stage.start) spot.placing.places spot.owes now.slots now.registered []
  pub linked : (p : ℕ) → IsTrue (is_in p (linked_places now.links)) → IsTrue (is_in p spot.placing.places)
  pub held : (q : ℕ) → IsTrue (is_in q spot.held) → IsTrue (is_held_whole now.remembered q)

-- What steps leave: objects that stay are where they were, and what was found or held is so.
pub record Grows (stage : Stage) (before after : Spot) : Type 0 where
  pub met : (x : ℕ) → IsTrue (is_in x before.placing.met) → IsTrue (is_in x after.placing.met)
  pub names : (x : ℕ) → IsTrue (is_in x before.placing.met) → after.placing.name x ≡ before.placing.name x
  pub stay : (q : ℕ) → IsTrue (is_in q before.placing.places) → IsTrue (is_lasting (pinned_places stage.start) q) → IsTrue (is_in q after.placing.places)
  pub found : (x : ℕ) → IsTrue (is_in x before.placing.found) → IsTrue (is_in x after.placing.found)
  pub held : (q : ℕ) → IsTrue (is_in q before.held) → IsTrue (is_in q after.held)

-- the same places were added to what is to be opened in the code and in what is told of it
pub record AddsTodo (old new : Moving) (before after : Spot) : Type 0 where
  pub added : List ℕ
  pub in_code : new.todo.items ≡ old.todo.items ++ added
  pub told : (q : ℕ) → is_in q after.todo ≡ is_in q (before.todo ++ added)
  pub grown : old.words + length added ≤ new.words

-- A reference was followed: no more is owed or held, and objects that stay keep their words.
pub record Followed (stage : Stage) (old new : HeapParts) (moving_old moving_new : Moving) (before : Spot) (x y : ℕ) : Type 0 where
  pub after : Spot
  pub standing : Standing stage new moving_new after
  pub grows : Grows stage before after
  pub adds : AddsTodo moving_old moving_new before after
  pub owes_same : after.owes ≡ before.owes
  pub held_same : after.held ≡ before.held
  pub same : (q : ℕ) → IsTrue (is_in q before.placing.places) → IsTrue (is_lasting (pinned_places stage.start) q) → SameAt stage.start.setup.types (word_in new) (word_in old) q
  pub only : new ≡ record old { memory = new.memory; shadows = new.shadows; old_blocks = new.old_blocks; links = new.links }
  pub leads : LeadsTo stage after x y

-- the place where the object of a place is, once one object moved
abbrev pub after_move : ℕ → ℕ → ℕ → ℕ
after_move p a object = if object == p then a else object

-- the parts where links with the object at p lead to a
abbrev pub relinked : HeapParts → ℕ → ℕ → HeapParts
relinked heap p a = record heap { links = record heap.links { structs = with_objects (after_move p a) heap.links.structs } }

-- an object waits to move, between two steps
pub record CanMoveOut (now : HeapParts) (moving : Moving) (p : ℕ) : Type 0 where
  pub stage : Stage
  pub spot : Spot
  pub standing : Standing stage now moving spot
  pub there : IsTrue (is_in p spot.placing.places)
  pub waits : is_lasting (pinned_places stage.start) p ≡ false
  pub may : MayBeFound stage (spot.placing.name p)

-- a reference can be followed, between two steps
pub record CanFollow (now : HeapParts) (moving : Moving) (x : ℕ) : Type 0 where
  pub stage : Stage
  pub spot : Spot
  pub standing : Standing stage now moving spot
  pub pointer : IsPointer spot.placing.met x
  pub may : x ≢ 0 → MayBeFound stage (spot.placing.name x)

-- whether a reference leads to an object that stays in the nursery
abbrev pub leads_young : ℕ → Bool
leads_young y = not (y == 0) && is_young y

-- the object at p is held for the next collection where it gets a reference to a pinned one
abbrev pub spot_held : Spot → ℕ → ℕ → Spot
spot_held spot p y = record spot { held = if leads_young y then p ∷ spot.held else spot.held }

-- an object outside the nursery, between two steps
pub record CanHold (now : HeapParts) (p : ℕ) : Type 0 where
  pub stage : Stage
  pub spot : Spot
  pub middle : Middle stage now spot []
  pub there : IsTrue (is_in p (old_places spot.placing.places))

-- The object at p is held where that is asked for: no other word changes, and nothing else is remembered.
pub record HeldFor (stage : Stage) (old new : HeapParts) (spot : Spot) (p y : ℕ) : Type 0 where
  pub after : Middle stage new (spot_held spot p y) []
  pub keeps : (q : ℕ) → IsTrue (is_held_whole old.remembered q) → IsTrue (is_held_whole new.remembered q)
  pub here : leads_young y ≡ true → IsTrue (is_held_whole new.remembered p)
  pub words : (b : ℕ) → b ≢ p → word_in new b ≡ word_in old b
  pub layouts : (q : ℕ) → IsTrue (is_in q spot.placing.places) → KeepsLayout stage.start.setup.types (word_in new) (word_in old) q
  pub only : new ≡ record old { memory = new.memory; remembered = new.remembered }

-- what item i of an object may refer to
abbrev pub MayLead : Stage → ℕ → ℕ → Type 0
MayLead stage birth i = (y : ℕ) → IsItem stage.store.kept birth i y → MayBeFound stage y

-- an item of an object outside the nursery can be followed
pub record CanFollowItem (now : HeapParts) (moving : Moving) (v : ObjView) (p i : ℕ) : Type 0 where
  pub stage : Stage
  pub spot : Spot
  pub standing : Standing stage now moving spot
  pub there : IsTrue (is_in p (old_places spot.placing.places))
  pub view : v ≡ view_at now.setup.types (word_in now) p
  pub item : i < v.ref_count
  pub may : MayLead stage (spot.placing.name p) i

-- the word of an item
abbrev pub item_word : Stage → HeapParts → ℕ → ℕ → ℕ
item_word stage now p i = word_in now ((layout_at stage.start.setup.types (word_in now) p).ref_start + i)

-- An item was followed: it leads to what stays, and the object is held if that is pinned; other items have their words.
pub record FollowedItem (stage : Stage) (old new : HeapParts) (moving_old moving_new : Moving) (before : Spot) (p i : ℕ) : Type 0 where
  pub after : Spot
  pub standing : Standing stage new moving_new after
  pub grows : Grows stage before after
  pub adds : AddsTodo moving_old moving_new before after
  pub owes_same : after.owes ≡ before.owes
  pub keeps : KeepsLayout stage.start.setup.types (word_in new) (word_in old) p
  pub birth : word_in new (p + 1) ≡ word_in old (p + 1)
  pub others : (j : ℕ) → j < (layout_at stage.start.setup.types (word_in old) p).ref_count → j ≢ i → item_word stage new p j ≡ item_word stage old p j
  pub done : IsDone (pinned_places stage.start) after.placing.places after.held p (item_word stage new p i)
  pub only : new ≡ record old { memory = new.memory; shadows = new.shadows; old_blocks = new.old_blocks; links = new.links; remembered = new.remembered }

-- items of an object outside the nursery can be followed, from one on and before another
pub record CanFollowItems (now : HeapParts) (moving : Moving) (p from to : ℕ) : Type 0 where
  pub stage : Stage
  pub spot : Spot
  pub standing : Standing stage now moving spot
  pub there : IsTrue (is_in p (old_places spot.placing.places))
  pub may : (i : ℕ) → from ≤ i → i < to → MayLead stage (spot.placing.name p) i

-- Items were followed, from one on and before another: each leads to what stays, and the object is held if one is pinned.
pub record FollowedItems (stage : Stage) (old new : HeapParts) (moving_old moving_new : Moving) (before : Spot) (p from to : ℕ) : Type 0 where
  pub after : Spot
  pub standing : Standing stage new moving_new after
  pub grows : Grows stage before after
  pub adds : AddsTodo moving_old moving_new before after
  pub owes_same : after.owes ≡ before.owes
  pub keeps : KeepsLayout stage.start.setup.types (word_in new) (word_in old) p
  pub done : (i : ℕ) → from ≤ i → i < to → i < (layout_at stage.start.setup.types (word_in old) p).ref_count → IsDone (pinned_places stage.start) after.placing.places after.held p (item_word stage new p i)
  pub only : new ≡ record old { memory = new.memory; shadows = new.shadows; old_blocks = new.old_blocks; links = new.links; remembered = new.remembered }

-- an object that is still to be opened can be
pub record CanOpen (now : HeapParts) (moving : Moving) (p : ℕ) : Type 0 where
  pub stage : Stage
  pub spot : Spot
  pub standing : Standing stage now moving spot
  pub there : IsTrue (is_in p spot.todo)

-- the number of references of the object at a place
abbrev pub ref_count_at : Stage → HeapParts → ℕ → ℕ
ref_count_at stage now p = (layout_at stage.start.setup.types (word_in now) p).ref_count

-- just these places are still to be opened
abbrev pub AreTodo : Spot → Moving → Type 0
AreTodo spot moving = (q : ℕ) → is_in q spot.todo ≡ is_in q moving.todo.items

-- what is to be opened can be
pub record CanDrain (now : HeapParts) (moving : Moving) : Type 0 where
  pub stage : Stage
  pub spot : Spot
  pub standing : Standing stage now moving spot
  pub todo : AreTodo spot moving

-- What was to be opened was so, as far as the code does not list it any more; slots and what is owed stay.
pub record Drained (stage : Stage) (old new : HeapParts) (moving_new : Moving) (before : Spot) : Type 0 where
  pub after : Spot
  pub standing : Standing stage new moving_new after
  pub grows : Grows stage before after
  pub todo : AreTodo after moving_new
  pub owes_same : after.owes ≡ before.owes
  pub only : new ≡ record old { memory = new.memory; shadows = new.shadows; old_blocks = new.old_blocks; links = new.links; remembered = new.remembered }

-- what a slot holds can be followed
pub record CanFollowSlot (now : HeapParts) (moving : Moving) (root : ℕ) : Type 0 where
  pub stage : Stage
  pub spot : Spot
  pub standing : Standing stage now moving spot
  pub there : root < length now.slots

-- Slots were followed: of those below a number nothing is owed any more.
pub record FollowedSlots (stage : Stage) (old new : HeapParts) (moving_old moving_new : Moving) (before : Spot) (count : ℕ) : Type 0 where
  pub after : Spot
  pub standing : Standing stage new moving_new after
  pub grows : Grows stage before after
  pub adds : AddsTodo moving_old moving_new before after
  pub paid : (k : ℕ) → k < count → after.owes.slots k ≡ false
  pub fewer : (k : ℕ) → before.owes.slots k ≡ false → after.owes.slots k ≡ false
  pub rest : after.owes ≡ record before.owes { slots = after.owes.slots }
  pub many : length new.slots ≡ length old.slots
  pub held_same : after.held ≡ before.held
  pub only : new ≡ record old { memory = new.memory; shadows = new.shadows; old_blocks = new.old_blocks; links = new.links; slots = new.slots }

-- a slot was followed
pub record FollowedSlot (stage : Stage) (old new : HeapParts) (moving_old moving_new : Moving) (before : Spot) (root : ℕ) : Type 0 where
  pub after : Spot
  pub standing : Standing stage new moving_new after
  pub grows : Grows stage before after
  pub adds : AddsTodo moving_old moving_new before after
  pub owes_are : after.owes ≡ without_slot before.owes root
  pub many : length new.slots ≡ length old.slots
  pub held_same : after.held ≡ before.held
  pub only : new ≡ record old { memory = new.memory; shadows = new.shadows; old_blocks = new.old_blocks; links = new.links; slots = new.slots }

-- slots, and other lists, can be followed
pub record CanFollowLists (now : HeapParts) (moving : Moving) : Type 0 where
  pub stage : Stage
  pub spot : Spot
  pub standing : Standing stage now moving spot

-- places of objects that may be found
abbrev pub MayFollow : Stage → Spot → List ℕ → Type 0
MayFollow stage spot places = (x : ℕ) → IsTrue (is_in x places) → IsTrue (is_in x spot.placing.met) × MayBeFound stage (spot.placing.name x)

pub record CanFollowPlaces (now : HeapParts) (moving : Moving) (places : List ℕ) : Type 0 where
  pub stage : Stage
  pub spot : Spot
  pub standing : Standing stage now moving spot
  pub may : MayFollow stage spot places

-- Objects at these places were followed: they are found, or settled.
pub record FollowedPlaces (stage : Stage) (old new : HeapParts) (moving_old moving_new : Moving) (before : Spot) (places : List ℕ) : Type 0 where
  pub after : Spot
  pub standing : Standing stage new moving_new after
  pub grows : Grows stage before after
  pub adds : AddsTodo moving_old moving_new before after
  pub owes_same : after.owes ≡ before.owes
  pub held_same : after.held ≡ before.held
  pub found : (x : ℕ) → IsTrue (is_in x places) → IsTrue (is_unsettled stage.store (before.placing.name x)) → IsTrue (is_in (before.placing.name x) after.placing.found)
  pub only : new ≡ record old { memory = new.memory; shadows = new.shadows; old_blocks = new.old_blocks; links = new.links }

-- What structures keep was followed: it is found, or settled.
pub record FollowedForced (stage : Stage) (old new : HeapParts) (moving_old moving_new : Moving) (before : Spot) : Type 0 where
  pub after : Spot
  pub standing : Standing stage new moving_new after
  pub grows : Grows stage before after
  pub adds : AddsTodo moving_old moving_new before after
  pub owes_same : after.owes ≡ before.owes
  pub held_same : after.held ≡ before.held
  pub found : (x : ℕ) → IsTrue (is_in x (forced_objects stage.store.structs)) → IsTrue (is_unsettled stage.store x) → IsTrue (is_in x after.placing.found)
  pub only : new ≡ record old { memory = new.memory; shadows = new.shadows; old_blocks = new.old_blocks; links = new.links }

-- All that survives and is not pinned moved: nothing is owed or to be opened, and each object that survives by itself is found.
pub record Survived (stage : Stage) (new : HeapParts) (moving : Moving) : Type 0 where
  pub after : Spot
  pub standing : Standing stage new moving after
  pub grows : Grows stage (spot_begins stage) after
  pub todo : after.todo ≡ []
  pub none : OwesNone after.owes
  pub entries : (x : ℕ) → IsTrue (is_entry_at stage x) → IsTrue (is_in x after.placing.found)
  pub only : new ≡ record stage.start { memory = new.memory; shadows = new.shadows; old_blocks = new.old_blocks; links = new.links; slots = new.slots; remembered = new.remembered; registered = new.registered }

-- a collection can begin with parts that stand for some store
pub record CanBegin (now : HeapParts) (moving : Moving) : Type 0 where
  pub store : Store
  pub stands : PartsStandButYoung now store
  pub objects : moving.objects ≡ 0
  pub words : moving.words ≡ 0
  pub todo : moving.todo.items ≡ []
