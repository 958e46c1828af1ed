-- The limit refuses an item only where the words of what is retained leave no room for those asked for.
use Rattle.std.proofs.Common.{◌≡◌, ℕ, ◌<◌, Bool, true, List, Option, Some, None, sym, ap, ◌∙◌, subst, arith}
use Rattle.std.specs.Prelude.{is_none}
use Rattle.type_table.specs.declared.info.TypeInfo.{TypeInfo}
use Rattle.type_table.specs.Table.{Table}
use Rattle.text_model.specs.declared.command.Command.{Command}
use Rattle.text_model.specs.declared.item.Item.{Item}
use Rattle.text_model.specs.declared.item.Item.TheVariants.{Blank, Setting, TypeDef, Command as CommandItem}
use Rattle.text_model.specs.declared.line.Line.{Line}
use Rattle.object_model.specs.declared.settings.Settings.{Settings}
use Rattle.object_model.specs.Setup.{Setup}
use Rattle.store_model.specs.Store.{Store}
use Rattle.store_model.specs.Progress.{Progress}
use Rattle.store_model.specs.Sound.{IsSound}
use Rattle.store_model.specs.Transcript.{Group, CommandExceeds, ItemExceeds}
use Rattle.store_model.specs.CollectionBounds.{RetainedExceed}
use Rattle.store_model.proofs.EmptySound.{empty_sound}
use Rattle.store_model.proofs.WholeCollections.{no_room_retained}
use Rattle.heap_core.specs.Heap.{HeapSeen, heap_of, StandsFor}
use Rattle.session_core.specs.Seen.{SessionSeen}
use Rattle.session_core.specs.Standing.{HasHeap, HasStore, StandsAt, ExceedsItem}

-- what the limit refuses is a command
is_command : (p : Progress) (item : Item) (counted request limit : ℕ) (groups : List Group) (next : Progress) → ItemExceeds p item counted request limit groups next
    → (command : Command) × CommandExceeds p command counted request limit groups next
unfolding ItemExceeds
is_command p Blank counted request limit groups next e = absurd e
is_command p (Setting name value) counted request limit groups next e = absurd e
is_command p (TypeDef id info) counted request limit groups next e = absurd e
is_command p (CommandItem command) counted request limit groups next e = (command, e)

sound_in : (types : Option (Table TypeInfo)) (settings : Settings) (heap : HeapSeen) (store : Store) → HasHeap types settings heap
    → HasStore types settings heap store → IsSound settings store
sound_in (Some types) settings heap store closed empty = subst (IsSound settings) (sym empty) (empty_sound settings)
sound_in None settings heap store has stands =
    let found : StandsFor (heap_of has.parts) store = subst (λ (h : HeapSeen). StandsFor h store) has.is stands in
    subst (λ (s : Settings). IsSound s store) has.settings_are found.sound

sweeps_in : (types : Option (Table TypeInfo)) (settings : Settings) (heap : HeapSeen) (store : Store) → is_none types ≡ true → HasHeap types settings heap
    → HasStore types settings heap store → 0 < settings.sweep
sweeps_in (Some types) settings heap store came closed empty = absurd (let no : ⊥ = cc in no)
sweeps_in None settings heap store came has stands =
    let found : StandsFor (heap_of has.parts) store = subst (λ (h : HeapSeen). StandsFor h store) has.is stands in
    let least = found.made.ranges.2.2.2.2.2.0 in
    subst (λ (s : Settings). 0 < s.sweep) has.settings_are (omega (arith, least))

settings_at : (session : SessionSeen) (heap : HeapSeen) (at : Progress) → StandsAt session heap at → at.setup.settings ≡ session.settings
settings_at session heap at stands = ap (λ (s : Setup). s.settings) stands.setup

-- where a session and its heap stand, the store is sound
sound_at : (session : SessionSeen) (heap : HeapSeen) (at : Progress) → StandsAt session heap at → IsSound at.setup.settings at.store
sound_at session heap at stands =
    subst (λ (s : Settings). IsSound s at.store) (sym (settings_at session heap at stands))
    (sound_in session.types session.settings heap at.store stands.has_heap stands.store)

-- and behind a command a step of sweeping takes some units
sweeps_at : (session : SessionSeen) (heap : HeapSeen) (at : Progress) → at.late ≡ true → StandsAt session heap at → 0 < at.setup.settings.sweep
sweeps_at session heap at came stands =
    subst (λ (s : Settings). 0 < s.sweep) (sym (settings_at session heap at stands))
    (sweeps_in session.types session.settings heap at.store (sym stands.late ∙ came) stands.has_heap stands.store)

-- The words of what is retained where the limit refuses an item, and those asked for, exceed it.
pub retained_exceed : (p : Progress) (item : Item) (counted request limit : ℕ) (before lines : List Line) (old session : SessionSeen) (old_heap heap : HeapSeen)
    → StandsAt old old_heap p → ExceedsItem session heap p item counted request limit before lines → RetainedExceed p.setup.settings p.store request
retained_exceed p item counted request limit before lines old session old_heap heap stands e =
    let c = (is_command p item counted request limit e.groups e.next e.exceeds).1 in
    let sweeps : 0 < e.next.setup.settings.sweep = sweeps_at session heap e.next (ap (λ (q : Progress). q.late) c.leaves) e.stands in
    no_room_retained p.setup.settings (subst (λ (q : Progress). 0 < q.setup.settings.sweep) c.leaves sweeps)
    p.store request c.lines c.store (sound_at old old_heap p stands) c.no_room
