-- What commands print and leave, computed: with the choices that a definition leaves open, and whether these may be made.
use Rattle.std.specs.List.{list_all}
use Rattle.std.specs.Prelude.{ℕ, zero, suc, ◌+◌, ◌-◌, ◌*◌, ◌^◌, Bool, true, false, ◌==◌, ◌&&◌, ◌||◌, not, nat_le, nat_lt, nat_eq, List, [], ◌∷◌, ◌++◌, Option, Some, None, map, filter, take, length, option_map, option_and_then}
use Rattle.type_table.specs.declared.info.TypeInfo.{TypeInfo}
use Rattle.type_table.specs.Words.{words_in}
use Rattle.type_table.specs.Table.{value_at, with_value}
use Rattle.text_model.specs.declared.command.Command.{Command}
use Rattle.text_model.specs.declared.command.Command.TheVariants.{NewFixed, NewArray, NewWeak, Put, Get, Link, Load, CopyRefs, MoveRoot, DropRoot, Same, Ident, Hash, Place, Pin, Unpin, Deref, Register, NextFinal, MakeLink, Inc, Dec, Count, FromObj, ToObj, NextDead, Minor, Step, Collect, Used}
use Rattle.text_model.specs.declared.line.Line.{Line}
use Rattle.text_model.specs.declared.line.Line.TheVariants as line
use Rattle.text_model.specs.declared.line.Phase.{Phase}
use Rattle.text_model.specs.declared.line.Phase.TheVariants.{Scanning, Marking, Sweeping, Finalizing}
use Rattle.object_model.specs.declared.settings.Settings.{Settings}
use Rattle.object_model.specs.Sets.{is_in}
use Rattle.object_model.specs.Setup.{Setup, type_at, young_words, small_words}
use Rattle.store_model.specs.Store.{Store, is_settled, counted_words, husk_words}
use Rattle.object_model.specs.Object.{kept_words, object_at}
use Rattle.store_model.specs.Slots.{held, put_in_slot, is_same}
use Rattle.store_model.specs.Roots.{is_kept, roots_of, registered_births, referents_in}
use Rattle.store_model.specs.Structs.{count_of, p_link_of}
use Rattle.store_model.specs.Reach.{births_where, refers}
use Rattle.store_model.specs.MinorCollection.{is_entry, has_settled_referrer, refers_unsettled, minor_lines, after_minor}
use Rattle.store_model.specs.Marking.{visited_words, is_dying, stands_before, end_lines, after_marking, with_visited}
use Rattle.store_model.specs.Sweeping.{husks_where, after_sweep, finalizing_lines, after_finalizing}
use Rattle.store_model.specs.Collections.{always, is_scanning, is_step_due, needs_block, exceeds_limit}
use Rattle.object_model.specs.Newborn.{Request}
use Rattle.store_model.specs.Birth.{with_birth}
use Rattle.store_model.specs.Births.{fixed_request, array_request, weak_request}
use Rattle.store_model.specs.Identity.{home_places, hash_of, is_settled_in, can_pin, pin_slot, unpin_slot}
use Rattle.store_model.specs.PlainCommands.{copy_refs, without_revived, target_at, register_slot, next_of, take_next, link_struct, raise_struct, lower_struct, forced_anew, dealloc_lines, take_dead_struct, first_number, linked_object}
use Rattle.store_model.specs.Steps.{int_at, ref_at, put_int, put_ref}
use Rattle.store_model.proofs.Rounds.{spread}
use Rattle.store_model.proofs.Strict as strict

-- what a definition leaves open: a home, the age of an object that is born in a gapped store, the visits of a marking step in
-- their order, and the husks that a sweeping step frees
pub data Choice : Type 0 where
  At : ℕ → Choice
  Old : Bool → Choice
  Visits : List ℕ → Choice
  Frees : List ℕ → Choice

-- what an event prints and leaves, whether it may, and the choices that are left
pub data Outcome : Type 0 where
  Out : Bool → List Line → Store → List Choice → Outcome

abbrev pub ok_of : Outcome → Bool
ok_of (Out ok lines store left) = ok

abbrev pub lines_in : Outcome → List Line
lines_in (Out ok lines store left) = lines

abbrev pub store_in : Outcome → Store
store_in (Out ok lines store left) = store

abbrev pub left_in : Outcome → List Choice
left_in (Out ok lines store left) = left

abbrev pub done : List Line → Store → List Choice → Outcome
done lines store left = Out true lines store left

abbrev pub failed : Store → Outcome
failed store = Out false [] store []

abbrev pub only_if : Bool → Outcome → Outcome
only_if test (Out ok lines store left) = Out (test && ok) lines store left

abbrev pub behind : Bool → List Line → Outcome → Outcome
behind first before (Out ok lines store left) = Out (first && ok) (before ++ lines) store left

abbrev pub Event : Type 0
Event = Store → List Choice → Outcome

-- one event and then another
abbrev pub then_from : Event → Outcome → Outcome
then_from next (Out ok lines store left) = behind ok lines (strict.store store (λ s. strict.list strict.skip left (λ c. next s c)))

abbrev pub when : Bool → Event → Event
when true event store choices = event store choices
when false event store choices = done [] store choices

abbrev pub births_of : Store → List ℕ
births_of store = map (λ o. o.birth) store.kept

-- so many rounds, each computed before the next
abbrev pub rounds : (ℕ → ℕ → Bool) → List ℕ → ℕ → List ℕ → List ℕ
rounds step all zero xs = xs
rounds step all (suc n) xs = strict.list strict.nat (spread step all xs) (rounds step all n)

-- what starts lead to
abbrev pub led : (ℕ → Bool) → (ℕ → ℕ → Bool) → List ℕ → List ℕ
led start step all = strict.list strict.nat (filter start all) (rounds step all (length all))

-- goes on with a list of births once it is computed
abbrev pub with_list : {X : Type 0} → List ℕ → (List ℕ → X) → X
with_list = strict.list strict.nat

-- the unsettled objects that survive
abbrev pub survivors : Store → List ℕ
survivors store = led (is_entry store (has_settled_referrer store)) (refers_unsettled store) (births_of store)

abbrev pub minor_by : List ℕ → Event
minor_by births store choices = done (minor_lines store (λ x. is_in x births)) (after_minor store (λ x. is_in x births)) choices

abbrev pub minor_of : Event
minor_of store choices = with_list (survivors store) (λ births. minor_by births store choices)

-- what these births reach
abbrev pub reached_from : Store → List ℕ → List ℕ
reached_from store births = led (λ x. is_in x births && is_kept store.kept x) (refers store.kept) (births_of store)

abbrev pub start_by : List ℕ → List ℕ → Event
start_by reached retained store choices = done (line.Stepped Scanning Marking ∷ []) (record store {
  phase = Marking;
  visited = [];
  unreached = births_where store.kept (λ x. is_settled store.settled x && not (is_in x reached));
  doomed = births_where store.kept (λ x. not (is_in x retained));
}) choices

abbrev pub start_of : Event
start_of store choices =
    with_list (reached_from store (roots_of store)) (λ reached.
    with_list (reached_from store (roots_of store ++ registered_births store)) (λ retained. start_by reached retained store choices))

abbrev pub distinct : List ℕ → Bool
distinct [] = true
distinct (x ∷ xs) = list_all (λ y. not (nat_eq x y)) xs && distinct xs

abbrev pub can_visit : ℕ → Store → List ℕ → Bool
can_visit increment store births =
    list_all (λ x. is_settled store.settled x && (not (is_in x store.visited) && not (is_in x store.unreached))) births
    && (distinct births && nat_lt (visited_words store.kept (take (length births - 1) births)) increment)

-- whether each settled one of these births was visited
abbrev pub has_visited : Store → List ℕ → Bool
has_visited store = list_all (λ x. is_in x store.visited || not (is_settled store.settled x))

abbrev pub is_marked : Store → Bool
is_marked store =
    has_visited store (reached_from store (roots_of store))
    && list_all (λ x. has_visited store (referents_in (object_at store.kept x))) store.visited

-- what dying objects lead to
abbrev pub saved_in : Store → List ℕ
saved_in store = led (is_dying store) (refers store.kept) (births_of store)

-- whether h reaches x
abbrev pub reaches : Store → ℕ → ℕ → Bool
reaches store h x = is_in x (led (λ z. z == h && is_kept store.kept z) (refers store.kept) (births_of store))

-- h does not stand in the way of x
abbrev pub gives_way : Store → ℕ → ℕ → Bool
gives_way store x h =
    h == x
    || (not (is_dying store h)
    || (not (reaches store h x)
    || (reaches store x h && not (stands_before h x (registered_births store)))))

abbrev pub chosen_in : Store → ℕ → Bool
chosen_in store x = is_dying store x && list_all (gives_way store x) (registered_births store)

-- the dying objects that are chosen
abbrev pub chosen_of : Store → List ℕ
chosen_of store = filter (chosen_in store) (registered_births store)

abbrev pub end_by : List ℕ → List ℕ → Settings → Event
end_by saved chosen settings store choices =
    only_if (is_marked store && list_all (is_kept store.kept) (registered_births store))
    (done (end_lines store (λ x. is_in x saved)) (after_marking settings store (λ x. is_in x saved) (λ x. is_in x chosen)) choices)

abbrev pub end_of : Settings → Event
end_of settings store choices =
    with_list (saved_in store) (λ saved. with_list (chosen_of store) (λ chosen. end_by saved chosen settings store choices))

abbrev pub go_on : Bool → Settings → List Line → Event
go_on true settings visits store choices = done (line.Stepped Marking Marking ∷ visits) store choices
go_on false settings visits store choices =
    behind true (line.Stepped Marking Sweeping ∷ visits) (end_of settings store choices)

abbrev pub mark_of : Settings → Event
mark_of settings store (Visits births ∷ choices) =
    only_if (can_visit settings.increment store births)
    (go_on (nat_le settings.increment (visited_words store.kept births)) settings (map (λ x. line.Visited x) births) (with_visited store births) choices)
mark_of settings store choices = failed store

abbrev pub is_empty : {X : Type 0} → List X → Bool
is_empty [] = true
is_empty (x ∷ xs) = false

-- the sweep ends where it may
abbrev pub swept_phase : List (ℕ × ℕ) → Phase
swept_phase [] = Finalizing
swept_phase (husk ∷ husks) = Sweeping

abbrev pub may_be : Phase → Store → Bool
may_be Scanning store = false
may_be Marking store = false
may_be Sweeping store = nat_lt 0 store.left
may_be Finalizing store = is_empty store.husks

abbrev pub sweep_to : Phase → Settings → (ℕ → Bool) → Event
sweep_to phase settings freed store choices =
    only_if (nat_le (husk_words (filter (λ husk. nat_le husk.1 (small_words settings)) (husks_where store.husks freed))) (settings.sweep * settings.page)
    && (nat_le (length (filter (λ husk. nat_lt (small_words settings) husk.1) (husks_where store.husks freed))) settings.sweep
    && may_be phase (after_sweep store freed phase)))
    (done (line.Stepped Sweeping phase ∷ map (λ husk. line.Freed husk.0) (husks_where store.husks freed)) (after_sweep store freed phase) choices)

abbrev pub sweep_of : Settings → Event
sweep_of settings store (Frees births ∷ choices) =
    sweep_to (swept_phase (husks_where store.husks (λ x. not (is_in x births)))) settings (λ x. is_in x births) store choices
sweep_of settings store choices = failed store

abbrev pub step_from : Phase → Settings → Event
step_from Scanning settings store choices = start_of store choices
step_from Marking settings store choices = mark_of settings store choices
step_from Sweeping settings store choices = sweep_of settings store choices
step_from Finalizing settings store choices = done (finalizing_lines settings store) (after_finalizing settings store) choices

abbrev pub step_of : Settings → Event
step_of settings store choices = step_from store.phase settings store choices

abbrev pub due_step : (Store → Bool) → Settings → Event
due_step is_due settings store choices = when (is_due store) (step_of settings) store choices

abbrev pub block_of : (Store → Bool) → Settings → Event
block_of is_due settings store choices = then_from (due_step is_due settings) (minor_of store choices)

abbrev pub go_round : Event → Event
go_round more store choices = when (not (is_scanning store.phase)) more store choices

-- a cycle of at most so many blocks
abbrev pub cycle_of : ℕ → Settings → Event
cycle_of zero settings store choices = failed store
cycle_of (suc n) settings store choices = then_from (go_round (cycle_of n settings)) (block_of always settings store choices)

abbrev pub collect_from : Phase → Settings → Event
collect_from Scanning settings store choices = cycle_of 9 settings store choices
collect_from phase settings store choices = then_from (cycle_of 9 settings) (cycle_of 9 settings store choices)

abbrev pub collect_of : Settings → Event
collect_of settings store choices = collect_from store.phase settings store choices

abbrev pub due_collect : Settings → ℕ → Event
due_collect settings words store choices = when (exceeds_limit settings store words) (collect_of settings) store choices

-- the collections before a birth of so many words
abbrev pub room_of : Settings → ℕ → Event
room_of settings words store choices =
    then_from (due_collect settings words) (when (needs_block settings store words) (block_of is_step_due settings) store choices)

abbrev pub born : Bool → TypeInfo → Request → Event
born is_old info request store choices = done (line.Born store.next is_old ∷ []) (with_birth is_old store info request) choices

abbrev pub born_gapped : TypeInfo → Request → Event
born_gapped info request store (Old is_old ∷ choices) = born is_old info request store choices
born_gapped info request store choices = failed store

abbrev pub born_small : Bool → TypeInfo → Request → Event
born_small true info request = born_gapped info request
born_small false info request = born false info request

-- an object of a type is born: large, or in a store that may be gapped
abbrev pub born_by : Bool → TypeInfo → Request → Event
born_by true info request store choices = born true info request store choices
born_by false info request store choices = born_small store.gapped info request store choices

abbrev pub birth_within : Setup → TypeInfo → Request → Event
birth_within setup info request store choices =
    only_if (nat_le (counted_words store + words_in info.shape request.items) setup.settings.limit)
    (born_by (nat_lt (young_words setup.settings) (words_in info.shape request.items)) info request store choices)

abbrev pub birth_of : Option TypeInfo → Setup → Request → Event
birth_of None setup request store choices = failed store
birth_of (Some info) setup request store choices =
    then_from (birth_within setup info request) (room_of setup.settings (words_in info.shape request.items) store choices)

abbrev pub revive : Store → Option ℕ → Store
revive store None = without_revived (λ x. false) store
revive store (Some birth) =
    with_list (led (λ z. z == birth && is_kept store.kept z) (refers store.kept) (births_of store)) (λ births. without_revived (λ x. is_in x births) store)

-- the line that tells a home, and the store in which it is told
abbrev pub tell : (ℕ → Line) → ℕ → ℕ → Event
tell text birth place store choices =
    only_if (nat_lt place (2 ^ 64)) (done (text place ∷ []) (record store { homes = with_value store.homes birth place }) choices)

abbrev pub tell_home : Option ℕ → (ℕ → Line) → ℕ → Event
tell_home (Some home) text birth store choices = tell text birth home store choices
tell_home None text birth store (At place ∷ choices) =
    only_if (nat_lt 0 place && not (is_in place (home_places store.homes))) (tell text birth place store choices)
tell_home None text birth store choices = failed store

abbrev pub tell_held : Option ℕ → (ℕ → Line) → Event
tell_held None text store choices = failed store
tell_held (Some birth) text store choices = tell_home (value_at store.homes birth) text birth store choices

abbrev pub tell_slot : (ℕ → Line) → ℕ → Event
tell_slot text root store choices = tell_held (held store.slots root) text store choices

abbrev pub place_of : Bool → ℕ → Event
place_of false root store choices = done (line.PlaceIs None ∷ []) store choices
place_of true root store choices = tell_slot (λ place. line.PlaceIs (Some place)) root store choices

abbrev pub count_from : Option ℕ → Event
count_from None store choices = failed store
count_from (Some count) store choices = done (line.CountIs count ∷ []) store choices

-- what a command prints and leaves
abbrev pub outcome : Setup → Command → Event
outcome setup (NewFixed root type_id) old choices = birth_of (type_at setup type_id) setup (fixed_request root type_id) old choices
outcome setup (NewArray root type_id len) old choices = birth_of (type_at setup type_id) setup (array_request root type_id len) old choices
outcome setup (NewWeak root type_id target) old choices = birth_of (type_at setup type_id) setup (weak_request old root type_id target) old choices
outcome setup (Put root item value) old choices = done [] (put_int old root item value) choices
outcome setup (Get root item) old choices = done (line.Got (int_at old root item) ∷ []) old choices
outcome setup (Link root item from) old choices = done [] (put_ref old root item (held old.slots from)) choices
outcome setup (Load to root item) old choices = done (line.Loaded (ref_at old root item) ∷ []) (put_in_slot old to (ref_at old root item)) choices
outcome setup (CopyRefs root item from from_item count) old choices = done [] (copy_refs old root item from from_item count) choices
outcome setup (MoveRoot to from) old choices = done [] (put_in_slot old to (held old.slots from)) choices
outcome setup (DropRoot root) old choices = done [] (put_in_slot old root None) choices
outcome setup (Same a b) old choices = done (line.SameAs (is_same (held old.slots a) (held old.slots b)) ∷ []) old choices
outcome setup (Ident root) old choices = tell_slot line.IdentIs root old choices
outcome setup (Hash root) old choices = tell_slot (λ place. line.HashIs (hash_of place)) root old choices
outcome setup (Place root) old choices = place_of (is_settled_in old (held old.slots root)) root old choices
outcome setup (Pin root) old choices = done (line.PinIs (can_pin setup.settings.pins old root) ∷ []) (pin_slot setup.settings.pins old root) choices
outcome setup (Unpin root) old choices = done [] (unpin_slot old root) choices
outcome setup (Deref to root) old choices =
    done (line.Derefed (target_at old root) ∷ []) (revive (put_in_slot old to (target_at old root)) (target_at old root)) choices
outcome setup (Register root queue) old choices = done [] (register_slot old root queue) choices
outcome setup (NextFinal to queue) old choices = done (line.NextIs (next_of old queue) ∷ []) (take_next old to queue) choices
outcome setup (MakeLink p number root light own) old choices = done [] (link_struct old p number root light own) choices
outcome setup (Inc number) old choices = done [] (revive (raise_struct old number) (forced_anew (value_at old.structs number))) choices
outcome setup (Dec number) old choices = done (dealloc_lines number (value_at old.structs number)) (lower_struct old number) choices
outcome setup (Count number) old choices = count_from (option_map count_of (value_at old.structs number)) old choices
outcome setup (FromObj root) old choices = done (line.FromObjIs (option_and_then (p_link_of old.structs) (held old.slots root)) ∷ []) old choices
outcome setup (ToObj to number) old choices =
    done (line.ToObjIs (linked_object old number) ∷ []) (revive (put_in_slot old to (linked_object old number)) (linked_object old number)) choices
outcome setup NextDead old choices = done (line.NextDeadIs (first_number old.dead) ∷ []) (take_dead_struct old) choices
outcome setup Minor old choices = minor_of old choices
outcome setup Step old choices = block_of always setup.settings old choices
outcome setup Collect old choices = collect_of setup.settings old choices
outcome setup Used old choices = done (line.UsedIs (kept_words old.kept) (husk_words old.husks) ∷ []) old choices
