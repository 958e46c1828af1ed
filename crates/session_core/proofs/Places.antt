-- Where a session begins, and what its heap stands for.
use Rattle.std.proofs.Common.{◌≡◌, Bool, [], Option, Some, None, refl, sym, ap, ◌∙◌, subst}
use Rattle.std.specs.Prelude.{is_none}
use Rattle.type_table.specs.declared.info.TypeInfo.{TypeInfo}
use Rattle.type_table.specs.Table.{Table}
use Rattle.object_model.specs.declared.settings.Settings.{Settings}
use Rattle.object_model.specs.Setup.{Setup, defaults}
use Rattle.store_model.specs.Store.{Store, empty_store}
use Rattle.store_model.specs.Progress.{Progress, at_start}
use Rattle.store_model.proofs.Proper.{IsInRange, links_in_range}
use Rattle.std.proofs.lemmas.List.Elements.{All-nil}
use Rattle.heap_core.specs.Heap.{HeapSeen, closed_heap, heap_of, StandsFor}
use Rattle.heap_core.specs.Commands.{setup_in}
use Rattle.session_core.specs.Seen.{SessionSeen}
use Rattle.session_core.specs.Standing.{HasHeap, HasStore, StandsAt, HeapStandsAt, setup_begun, types_in, table_of}

-- a closed heap stands for the empty store
pub closed_stands : (settings : Settings) → StandsFor closed_heap (empty_store settings)
closed_stands settings = (settings, refl)

stands_in : (types : Option (Table TypeInfo)) (settings : Settings) (heap : HeapSeen) (store : Store) → HasHeap types settings heap
    → HasStore types settings heap store → StandsFor heap store
stands_in (Some types) settings heap store closed empty = rw (closed, empty) (closed_stands settings)
stands_in None settings heap store has stands = stands

setup_in-at : (types : Option (Table TypeInfo)) (settings : Settings) (heap : HeapSeen) (late : Bool) (setup : Setup) → HasHeap types settings heap
    → late ≡ is_none types → setup ≡ record { settings = settings; types = types_in types heap } → setup_in heap ≡ setup_begun late setup
setup_in-at (Some types) settings heap late setup closed early is = ap setup_in closed ∙ ap (λ (b : Bool). setup_begun b setup) (sym early)
setup_in-at None settings heap late setup has came is =
    let types : has.parts.setup.types ≡ types_in None heap = ap (λ (h : HeapSeen). table_of h.parts) (sym has.is) in
    let same : has.parts.setup ≡ record { settings = settings; types = types_in None heap } = λ i. record { settings = has.settings_are i; types = types i } in
    ap setup_in has.is ∙ (ap (λ (s : Setup). Some s) (same ∙ sym is) ∙ ap (λ (b : Bool). setup_begun b setup) (sym came))

-- where a session and its heap stand, the heap stands
pub heap_stands : (session : SessionSeen) (heap : HeapSeen) (at : Progress) → StandsAt session heap at → HeapStandsAt heap at
heap_stands session heap at stands = record {
  store = stands_in session.types session.settings heap at.store stands.has_heap stands.store;
  setup = setup_in-at session.types session.settings heap at.late at.setup stands.has_heap stands.late stands.setup;
}

-- and so does a closed heap where a script begins
pub heap_stands_first : HeapStandsAt closed_heap at_start
heap_stands_first = record { store = closed_stands defaults; setup = refl }

-- a new session and a closed heap stand where a script begins
pub stands_first : (session : SessionSeen) → session ≡ record { settings = defaults; names = []; types = Some [] } → StandsAt session closed_heap at_start
stands_first session is = rw is (record { has_heap = refl; setup = refl; names = refl; late = refl; store = refl })

in_range_in : (types : Option (Table TypeInfo)) (settings : Settings) (heap : HeapSeen) (store : Store) → HasHeap types settings heap
    → HasStore types settings heap store → IsInRange store
in_range_in (Some types) settings heap store closed empty = rw empty (record { entries = All-nil _; numbers = All-nil _ })
in_range_in None settings heap store has stands =
    let found : StandsFor (heap_of has.parts) store = subst (λ (h : HeapSeen). StandsFor h store) has.is stands in
    links_in_range store.kept store.structs store.dead found.sound.links

-- where a session and its heap stand, structures have their numbers and own counts in range
pub in_range_at : (session : SessionSeen) (heap : HeapSeen) (at : Progress) → StandsAt session heap at → IsInRange at.store
in_range_at session heap at stands = in_range_in session.types session.settings heap at.store stands.has_heap stands.store
