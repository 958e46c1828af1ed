-- The stores that the heap of a test stands for, one behind each call, and what the heap can do then.
use Rattle.std.proofs.Common.{◌≡◌, ℕ, ◌<◌, Bool, true, false, List, [], ◌∷◌, Option, Some, None, option_map, refl, sym, ap, ◌∙◌, subst, arith}
use Rattle.std.specs.Prelude.{IsSome}
use Rattle.type_table.specs.declared.info.TypeInfo.{TypeInfo}
use Rattle.type_table.specs.declared.info.Shape.TheVariants.{Fixed}
use Rattle.type_table.specs.Table.{Table, value_at}
use Rattle.type_table.specs.Words.{words_in}
use Rattle.object_model.specs.declared.kind.Kind.{Kind}
use Rattle.object_model.specs.Newborn.{Request}
use Rattle.object_model.specs.ObjectWords.{info_or_weak}
use Rattle.object_model.specs.Setup.{Setup, defaults, young_words, type_at}
use Rattle.text_model.specs.declared.command.Command.{Command}
use Rattle.text_model.specs.declared.command.Command.TheVariants.{NewFixed, Put, Get, Link, Load, DropRoot, Collect}
use Rattle.text_model.specs.declared.line.Line.{Line}
use Rattle.text_model.specs.Range.{is_above}
use Rattle.store_model.specs.Birth.{with_birth}
use Rattle.store_model.specs.Births.{Births, BirthWithRoomOf, fixed_request}
use Rattle.store_model.specs.Checks.{first_reason}
use Rattle.store_model.specs.Collections.{needs_block, exceeds_limit}
use Rattle.store_model.specs.Look.{Look, look}
use Rattle.store_model.specs.Slots.{held, put_in_slot}
use Rattle.store_model.specs.Steps.{Does, put_int, put_ref}
use Rattle.store_model.specs.Refusal.{command_checks}
use Rattle.store_model.specs.Store.{Store, empty_store}
use Rattle.heap_parts.specs.Parts.{HeapParts, word_in, place_in}
use Rattle.heap_parts.specs.Told.{kind_at}
use Rattle.heap_core.specs.Heap.{HeapSeen, heap_of, StandsFor, StandsForIf}
use Rattle.heap_core.specs.Commands.{AreStanding, IsStanding, OfParts, CanDo, IsFresh, Performs, told_by, told_if}
use Rattle.heap_core.specs.TestStores.{Runs, CanRetype, pair, pairs, newborns, linked, numbered, relinked, tight_settings, tight_types, tight_setup, fixed_info, one_old, two_old, three_old, held_old, left_old}
use Rattle.heap_core.proofs.LookLaws.{look_told}
use Rattle.heap_core.proofs.Ready.{kind-some, object_in_slot}
use Rattle.heap_core.proofs.Runs.{can_do, left_by, unless, runs_started, runs_born}

can_first : (heap : HeapSeen) → Runs pairs heap (newborns 0) → CanDo heap (NewFixed 0 1)
unfolding is_above
can_first heap runs = can_do pairs heap (newborns 0) (NewFixed 0 1) runs refl

can_second : (heap : HeapSeen) → Runs pairs heap (newborns 1) → CanDo heap (NewFixed 1 1)
unfolding is_above
can_second heap runs = can_do pairs heap (newborns 1) (NewFixed 1 1) runs refl

can_third : (heap : HeapSeen) → Runs pairs heap (newborns 2) → CanDo heap (NewFixed 2 1)
unfolding is_above
can_third heap runs = can_do pairs heap (newborns 2) (NewFixed 2 1) runs refl

can_link : (heap : HeapSeen) → Runs pairs heap (newborns 3) → CanDo heap (Link 0 0 1)
unfolding is_above
can_link heap runs = can_do pairs heap (newborns 3) (Link 0 0 1) runs refl

can_write : (heap : HeapSeen) → Runs pairs heap linked → CanDo heap (Put 0 0 77)
unfolding is_above
can_write heap runs = can_do pairs heap linked (Put 0 0 77) runs refl

can_relink : (heap : HeapSeen) → Runs pairs heap numbered → CanDo heap (Link 0 0 2)
unfolding is_above
can_relink heap runs = can_do pairs heap numbered (Link 0 0 2) runs refl

can_get : (heap : HeapSeen) → Runs pairs heap relinked → CanDo heap (Get 0 0)
unfolding is_above
can_get heap runs = can_do pairs heap relinked (Get 0 0) runs refl

can_load : (heap : HeapSeen) → Runs pairs heap relinked → CanDo heap (Load 3 0 0)
unfolding is_above
can_load heap runs = can_do pairs heap relinked (Load 3 0 0) runs refl

-- what is known after each call, and what can be done then
pub record Knows (heap : HeapSeen) (store : Store) (Can : Type 0) : Type 0 where
  pub runs : Runs pairs heap store
  pub can : Can

pub started : {types : Table TypeInfo} {heap : HeapSeen} → types ≡ (1, pair) ∷ [] → IsFresh heap defaults types → StandsFor heap (empty_store defaults)
    → Knows heap (newborns 0) (CanDo heap (NewFixed 0 1))
started {types = types} {heap = heap} is fresh stands =
    let runs = subst (λ (t : Table TypeInfo). Runs (record { settings = defaults; types = t }) heap (newborns 0)) is (runs_started defaults types heap fresh stands) in
    record { runs = runs; can = can_first heap runs }

-- the same where a caller knows it
pub begun : {heap : HeapSeen} → Runs pairs heap (newborns 0) → Knows heap (newborns 0) (CanDo heap (NewFixed 0 1))
begun {heap = heap} runs = record { runs = runs; can = can_first heap runs }

pub grown : {heap : HeapSeen} → Runs pairs heap (newborns 3) → Knows heap (newborns 3) (CanDo heap (Link 0 0 1))
grown {heap = heap} runs = record { runs = runs; can = can_link heap runs }

pub joined : {heap : HeapSeen} → Runs pairs heap linked → Knows heap linked (CanDo heap (Put 0 0 77))
joined {heap = heap} runs = record { runs = runs; can = can_write heap runs }

pub first : {old new : HeapSeen} {before after : List Line} {Can : Type 0} → Knows old (newborns 0) Can → Performs old new (NewFixed 0 1) before after
    → Knows new (newborns 1) (CanDo new (NewFixed 1 1))
first {old = old} {new = new} knows p =
    let runs = runs_born pairs pair old new (newborns 0) 0 1 refl (omega arith) refl refl refl knows.runs p in record { runs = runs; can = can_second new runs }

pub second : {old new : HeapSeen} {before after : List Line} {Can : Type 0} → Knows old (newborns 1) Can → Performs old new (NewFixed 1 1) before after
    → Knows new (newborns 2) (CanDo new (NewFixed 2 1))
second {old = old} {new = new} knows p =
    let runs = runs_born pairs pair old new (newborns 1) 1 1 refl (omega arith) refl refl refl knows.runs p in record { runs = runs; can = can_third new runs }

pub third : {old new : HeapSeen} {before after : List Line} {Can : Type 0} → Knows old (newborns 2) Can → Performs old new (NewFixed 2 1) before after
    → Knows new (newborns 3) (CanDo new (Link 0 0 1))
third {old = old} {new = new} knows p =
    let runs = runs_born pairs pair old new (newborns 2) 2 1 refl (omega arith) refl refl refl knows.runs p in record { runs = runs; can = can_link new runs }

pub links : {old new : HeapSeen} {before after : List Line} {Can : Type 0} → Knows old (newborns 3) Can → Performs old new (Link 0 0 1) before after
    → Knows new linked (CanDo new (Put 0 0 77))
unfolding Does
links {old = old} {new = new} knows p =
    let left = left_by pairs old new (newborns 3) (Link 0 0 1) knows.runs p in
    let runs = subst (λ (s : Store). Runs pairs new s) left.does.1 left.runs in record { runs = runs; can = can_write new runs }

pub writes : {old new : HeapSeen} {before after : List Line} {Can : Type 0} → Knows old linked Can → Performs old new (Put 0 0 77) before after
    → Knows new numbered (CanDo new (Link 0 0 2))
unfolding Does
writes {old = old} {new = new} knows p =
    let left = left_by pairs old new linked (Put 0 0 77) knows.runs p in
    let runs = subst (λ (s : Store). Runs pairs new s) left.does.1 left.runs in record { runs = runs; can = can_relink new runs }

pub relinks : {old new : HeapSeen} {before after : List Line} {Can : Type 0} → Knows old numbered Can → Performs old new (Link 0 0 2) before after
    → Knows new relinked (CanDo new (Get 0 0) × CanDo new (Load 3 0 0))
unfolding Does
relinks {old = old} {new = new} knows p =
    let left = left_by pairs old new numbered (Link 0 0 2) knows.runs p in
    let runs = subst (λ (s : Store). Runs pairs new s) left.does.1 left.runs in record { runs = runs; can = (can_get new runs, can_load new runs) }

-- the heap of a test can do what is not refused in its store
can : {setup : Setup} {heap : HeapSeen} {store : Store} (command : Command) → Runs setup heap store
    → first_reason (command_checks setup (look store) command) ≡ None → CanDo heap command
can {setup = setup} {heap = heap} {store = store} command runs passed = can_do setup heap store command runs passed

-- where there is room, an object of many words is born old
old_birth : (setup : Setup) (info : TypeInfo) (store later : Store) (request : Request) (lines : List Line) → type_at setup request.type_id ≡ Some info
    → young_words setup.settings < words_in info.shape request.items → needs_block setup.settings store (words_in info.shape request.items) ≡ false
    → exceeds_limit setup.settings store (words_in info.shape request.items) ≡ false → Births setup store request lines later
    → later ≡ with_birth true store info request
old_birth setup info store later request lines known many room within births =
    let birth = subst (λ (found : Option TypeInfo). BirthWithRoomOf found setup store request lines later) known births in
    let made = birth.made_room in
    let first : made.mid ≡ store = unless (needs_block setup.settings store (words_in info.shape request.items)) _ store made.first made.mid room made.block in
    let second : birth.mid ≡ made.mid =
    unless (exceeds_limit setup.settings made.mid (words_in info.shape request.items)) _ made.mid made.second birth.mid
    (ap (λ (s : Store). exceeds_limit setup.settings s (words_in info.shape request.items)) first ∙ within) made.collect in
    birth.born.leaves ∙ (ap (λ (is_old : Bool). with_birth is_old birth.mid info request) (birth.born.large many) ∙ ap (λ (s : Store). with_birth true s info request) (second ∙ first))

-- what the heap of a test stands for after a call
old_fixed : {old new : HeapSeen} {before after : List Line} (setup : Setup) (info : TypeInfo) (store : Store) (root type_id : ℕ) → type_at setup type_id ≡ Some info
    → young_words setup.settings < words_in info.shape 0 → needs_block setup.settings store (words_in info.shape 0) ≡ false
    → exceeds_limit setup.settings store (words_in info.shape 0) ≡ false
    → Runs setup old store → Performs old new (NewFixed root type_id) before after → Runs setup new (with_birth true store info (fixed_request root type_id))
unfolding Does
old_fixed {old = old} {new = new} setup info store root type_id known many room within runs p =
    let left = left_by setup old new store (NewFixed root type_id) runs p in
    subst (λ (s : Store). Runs setup new s) (old_birth setup info store left.later (fixed_request root type_id) left.lines known many room within left.does) left.runs

put_runs : {setup : Setup} {old new : HeapSeen} {store : Store} {before after : List Line} (root item value : ℕ) → Runs setup old store
    → Performs old new (Put root item value) before after → Runs setup new (put_int store root item value)
unfolding Does
put_runs {setup = setup} {old = old} {new = new} {store = store} root item value runs p =
    let left = left_by setup old new store (Put root item value) runs p in subst (λ (s : Store). Runs setup new s) left.does.1 left.runs

link_runs : {setup : Setup} {old new : HeapSeen} {store : Store} {before after : List Line} (root item from : ℕ) → Runs setup old store
    → Performs old new (Link root item from) before after → Runs setup new (put_ref store root item (held store.slots from))
unfolding Does
link_runs {setup = setup} {old = old} {new = new} {store = store} root item from runs p =
    let left = left_by setup old new store (Link root item from) runs p in subst (λ (s : Store). Runs setup new s) left.does.1 left.runs

standing_if : {setup : Setup} (spent : Bool) (parts : Option HeapParts) (store : Store) → option_map (λ (p : HeapParts). p.setup) parts ≡ Some setup
    → StandsForIf spent parts store → OfParts parts AreStanding
standing_if true parts store is stands = absurd stands
standing_if false None store is stands = absurd (let no : ⊥ = cc in no)
standing_if false (Some parts) store is stands = record { store = store; stands = stands }

pub standing : {setup : Setup} {heap : HeapSeen} {store : Store} → Runs setup heap store → IsStanding heap
standing {heap = heap} {store = store} runs = standing_if heap.is_spent heap.parts store runs.setup_is runs.stands

pub tight_started : {types : Table TypeInfo} {heap : HeapSeen} → types ≡ tight_types → IsFresh heap tight_settings types → StandsFor heap (empty_store tight_settings)
    → Runs tight_setup heap (empty_store tight_settings)
tight_started {types = types} {heap = heap} is fresh stands =
    subst (λ (t : Table TypeInfo). Runs (record { settings = tight_settings; types = t }) heap (empty_store tight_settings)) is (runs_started tight_settings types heap fresh stands)

-- a small old object and a large one are born
pub can_first_old : {heap : HeapSeen} → Runs tight_setup heap (empty_store tight_settings) → CanDo heap (NewFixed 0 3)
unfolding is_above
can_first_old runs = can (NewFixed 0 3) runs refl

pub first_old : {old new : HeapSeen} {before after : List Line} → Runs tight_setup old (empty_store tight_settings) → Performs old new (NewFixed 0 3) before after
    → Runs tight_setup new one_old
first_old runs p = old_fixed tight_setup (fixed_info 9 1) (empty_store tight_settings) 0 3 refl (omega arith) refl refl runs p

pub can_second_old : {heap : HeapSeen} → Runs tight_setup heap one_old → CanDo heap (NewFixed 1 4)
unfolding is_above
can_second_old runs = can (NewFixed 1 4) runs refl

pub second_old : {old new : HeapSeen} {before after : List Line} → Runs tight_setup old one_old → Performs old new (NewFixed 1 4) before after
    → Runs tight_setup new two_old
second_old runs p = old_fixed tight_setup (fixed_info 17 1) one_old 1 4 refl (omega arith) refl refl runs p

-- they are written by words
pub can_write_old : {heap : HeapSeen} → Runs tight_setup heap two_old → CanDo heap (Put 1 16 77)
unfolding is_above
can_write_old runs = can (Put 1 16 77) runs refl

pub written_old : {old new : HeapSeen} {before after : List Line} → Runs tight_setup old two_old → Performs old new (Put 1 16 77) before after
    → Runs tight_setup new (put_int two_old 1 16 77)
written_old runs p = put_runs 1 16 77 runs p

pub can_relink_old : {heap : HeapSeen} → Runs tight_setup heap (put_int two_old 1 16 77) → CanDo heap (Link 1 0 0)
unfolding is_above
can_relink_old runs = can (Link 1 0 0) runs refl

pub can_read_old : {old new : HeapSeen} {before after : List Line} → Runs tight_setup old (put_int two_old 1 16 77) → Performs old new (Link 1 0 0) before after
    → CanDo new (Get 1 16) × CanDo new (Load 2 1 0)
unfolding is_above
can_read_old runs p = let after = link_runs 1 0 0 runs p in (can (Get 1 16) after refl, can (Load 2 1 0) after refl)

-- a third is born, and is left when nothing refers to it
pub can_third_old : {heap : HeapSeen} → Runs tight_setup heap two_old → CanDo heap (NewFixed 2 3)
unfolding is_above
can_third_old runs = can (NewFixed 2 3) runs refl

pub third_old : {old new : HeapSeen} {before after : List Line} → Runs tight_setup old two_old → Performs old new (NewFixed 2 3) before after
    → Runs tight_setup new three_old
third_old runs p = old_fixed tight_setup (fixed_info 9 1) two_old 2 3 refl (omega arith) refl refl runs p

pub can_hold_old : {heap : HeapSeen} → Runs tight_setup heap three_old → CanDo heap (Link 0 0 1)
unfolding is_above
can_hold_old runs = can (Link 0 0 1) runs refl

pub hold_old : {old new : HeapSeen} {before after : List Line} → Runs tight_setup old three_old → Performs old new (Link 0 0 1) before after
    → Runs tight_setup new held_old
hold_old runs p = link_runs 0 0 1 runs p

drop_runs : {setup : Setup} {old new : HeapSeen} {store : Store} {before after : List Line} (root : ℕ) → Runs setup old store
    → Performs old new (DropRoot root) before after → Runs setup new (put_in_slot store root None)
unfolding Does
drop_runs {setup = setup} {old = old} {new = new} {store = store} root runs p =
    let left = left_by setup old new store (DropRoot root) runs p in subst (λ (s : Store). Runs setup new s) left.does.1 left.runs

pub can_drop_second : {heap : HeapSeen} → Runs tight_setup heap held_old → CanDo heap (DropRoot 1)
unfolding is_above
can_drop_second runs = can (DropRoot 1) runs refl

pub drop_second : {old new : HeapSeen} {before after : List Line} → Runs tight_setup old held_old → Performs old new (DropRoot 1) before after
    → Runs tight_setup new (put_in_slot held_old 1 None)
drop_second runs p = drop_runs 1 runs p

pub can_drop_third : {heap : HeapSeen} → Runs tight_setup heap (put_in_slot held_old 1 None) → CanDo heap (DropRoot 2)
unfolding is_above
can_drop_third runs = can (DropRoot 2) runs refl

pub drop_third : {old new : HeapSeen} {before after : List Line} → Runs tight_setup old (put_in_slot held_old 1 None) → Performs old new (DropRoot 2) before after
    → Runs tight_setup new left_old
drop_third runs p = drop_runs 2 runs p

pub can_collect_left : {heap : HeapSeen} → Runs tight_setup heap left_old → CanDo heap Collect
unfolding is_above
can_collect_left runs = can Collect runs refl

pub collected : {old new : HeapSeen} {before after : List Line} → Runs tight_setup old left_old → Performs old new Collect before after → IsStanding new
collected {old = old} {new = new} runs p = let left = left_by tight_setup old new left_old Collect runs p in standing left.runs

-- the first of them can be told and become one of type 6
full_if : {setup : Setup} (spent : Bool) (parts : Option HeapParts) (store : Store) → option_map (λ (p : HeapParts). p.setup) parts ≡ Some setup
    → StandsForIf spent parts store → look store ≡ told_if parts
full_if true parts store is stands = absurd stands
full_if false None store is stands = absurd (let no : ⊥ = cc in no)
full_if false (Some parts) store is stands = look_told parts store stands

pub first_full : {heap : HeapSeen} → Runs tight_setup heap two_old → IsSome ((told_by heap).kind 0)
first_full {heap = heap} runs = subst (λ (seen : Look). IsSome (seen.kind 0)) (full_if heap.is_spent heap.parts two_old runs.setup_is runs.stands) refl

retypes_if : (parts : HeapParts) → Runs tight_setup (heap_of parts) two_old → CanRetype parts 0 6
retypes_if parts runs =
    let is : parts.setup ≡ tight_setup = (let e : Some parts.setup ≡ Some tight_setup = runs.setup_is in cc) in
    let told_is : kind_at parts.setup.types (word_in parts) (place_in parts 0) ≡ Some (record { shape = Fixed 9 1; ints = 9; refs = 1 }) =
    sym (ap (λ (seen : Look). seen.kind 0) (look_told parts two_old runs.stands)) in
    let found = kind-some parts.setup.types (word_in parts) (place_in parts 0) _ told_is in
    let known : value_at parts.setup.types 6 ≡ Some (fixed_info 9 1) = ap (λ (s : Setup). value_at s.types 6) is in record {
      object = object_in_slot parts 0 (record { store = two_old; stands = runs.stands }) (subst (λ (s : Setup). 0 < s.settings.roots) (sym is) (omega arith)) found.0;
      known = subst (λ (o : Option TypeInfo). IsSome o) (sym known) refl;
      shape = ap (λ (o : Option TypeInfo). (info_or_weak o).shape) known ∙ ap (λ (k : Kind). k.shape) found.1;
    }

pub retypes : {heap : HeapSeen} {parts : HeapParts} → heap ≡ heap_of parts → Runs tight_setup heap two_old → CanRetype parts 0 6
retypes {parts = parts} is runs = retypes_if parts (subst (λ (h : HeapSeen). Runs tight_setup h two_old) is runs)
