-- A whole collection of a store for which parts stand: what it leaves, and how many steps it has at most.
use Rattle.std.proofs.Common.{◌≡◌, ℕ, ◌+◌, ◌-◌, ◌/◌, ◌<◌, ◌≤◌, Bool, true, false, List, Option, Some, None, refl, sym, subst, arith}
use Rattle.std.specs.Prelude.{length, not}
use Rattle.type_table.specs.declared.info.TypeInfo.{TypeInfo}
use Rattle.text_model.specs.declared.command.Command.{Command}
use Rattle.text_model.specs.declared.line.Line.{Line}
use Rattle.text_model.specs.declared.line.Phase.{Phase}
use Rattle.text_model.specs.declared.line.Phase.TheVariants.{Scanning, Marking, Sweeping, Finalizing}
use Rattle.object_model.specs.declared.settings.Settings.{Settings}
use Rattle.object_model.specs.Object.{kept_words}
use Rattle.object_model.specs.Newborn.{Request}
use Rattle.object_model.specs.Sets.{is_in}
use Rattle.store_model.specs.Store.{Store, counted_words, husk_words}
use Rattle.store_model.specs.Births.{BirthWithRoomOf, words_of_type, words_asked}
use Rattle.store_model.specs.MinorCollection.{AreAllPinned}
use Rattle.store_model.specs.Collections.{When, MajorStep, Block, Collect, MakesRoom, HasNoRoom, is_step_due, needs_block, exceeds_limit}
use Rattle.store_model.specs.CollectionBounds.{CollectsWhole, steps_told, most_steps}
use Rattle.store_model.specs.Sound.{IsSound, IsPhaseSound}
use Rattle.store_model.proofs.StepsSound.{few_births, sound_minor, sound_step}
use Rattle.store_model.proofs.WholeCollections.{collect_retains, no_room_retained}
use Rattle.parts_model.specs.Parts.{HeapParts}
use Rattle.parts_model.specs.StandsFor.{PartsStandFor}
use Rattle.collect_laws.specs.Retained.{RoomRetained, BirthRetained, RefusalRetained}
use Rattle.collect_laws.proofs.StepCount.{told_steps}
use Rattle.collect_laws.proofs.StepsAhead.{steps_from, sweeps_of, unseen_words, div-mono, all_words}
use Rattle.collect_laws.proofs.Shrinks.{collect_steps}

module _ (settings : Settings) (sweeps : 0 < settings.sweep) (visits : 0 < settings.increment) (store : Store) (sound : IsSound settings store) where
  words_part : (words : ℕ) → words ≤ kept_words store.kept → words / settings.increment ≤ counted_words store / settings.increment
  words_part words few =
      div-mono settings.increment words (counted_words store) visits (let all : counted_words store ≡ kept_words store.kept + husk_words store.husks = refl in omega (arith, few, all))

  sweeps_part : sweeps_of settings store ≤ (store.next - 1) / settings.sweep
  sweeps_part = let few = few_births settings store sound in div-mono settings.sweep (length store.kept + length store.husks) (store.next - 1) sweeps (omega (arith, few))

  -- the steps that may come of a cycle are at most half of the most
  ahead_few : (phase : Phase) → store.phase ≡ phase → steps_from settings phase store ≤ counted_words store / settings.increment + (store.next - 1) / settings.sweep + 4
  ahead_few Scanning is = let words = words_part (kept_words store.kept) (omega arith) in let units = sweeps_part in omega (arith, words, units)
  ahead_few Marking is =
      let words = words_part (unseen_words store.kept store.visited) (all_words store.kept (λ x. not (is_in x store.visited))) in
      let units = sweeps_part in omega (arith, words, units)
  ahead_few Sweeping is =
      let p : IsPhaseSound Sweeping settings.sweep store = subst (λ (ph : Phase). IsPhaseSound ph settings.sweep store) is sound.phase in
      let most = p.0 in omega (arith, most)
  ahead_few Finalizing is = omega arith

  -- A whole collection has no more steps than the most.
  pub collect_few : (lines : List Line) (new : Store) → Collect settings store lines new → steps_told lines ≤ most_steps settings store
  collect_few lines new c =
      let told = told_steps lines in
      let bound = collect_steps settings sweeps visits store.phase store lines new c in
      let first = ahead_few store.phase refl in
      let words = words_part (kept_words store.kept) (omega arith) in let units = sweeps_part in
      omega (arith, told, bound, first, words, units)

-- the settings of parts that stand for a store
sweeps_some : {heap : HeapParts} {store : Store} → PartsStandFor heap store → 0 < heap.setup.settings.sweep
sweeps_some s = let least = s.made.ranges.2.2.2.2.2.0 in omega (arith, least)

visits_some : {heap : HeapParts} {store : Store} → PartsStandFor heap store → 0 < heap.setup.settings.increment
visits_some s = let least = s.made.ranges.2.2.2.0 in omega (arith, least)

module _ (settings : Settings) (sweeps : 0 < settings.sweep) (visits : 0 < settings.increment) where
  whole : (old : Store) (lines : List Line) (new : Store) → IsSound settings old → Collect settings old lines new → CollectsWhole settings old lines new
  whole old lines new s c = record { collects = c; leaves = collect_retains settings sweeps old lines new s c; few = collect_few settings sweeps visits old s lines new c }

  when_whole : (b : Bool) (old : Store) (lines : List Line) (new : Store) → IsSound settings old → When b (Collect settings) old lines new → When b (CollectsWhole settings) old lines new
  when_whole true old lines new s c = whole old lines new s c
  when_whole false old lines new s c = c

  sound_when : (b : Bool) (old : Store) (lines : List Line) (new : Store) → AreAllPinned old → IsSound settings old → When b (MajorStep settings) old lines new → IsSound settings new
  sound_when true old lines new pinned s m = sound_step settings sweeps old.phase old lines new refl pinned s m
  sound_when false old lines new pinned s m = subst (IsSound settings) (sym m.1) s

  sound_block : (b : Bool) (old : Store) (lines : List Line) (new : Store) → IsSound settings old → When b (Block is_step_due settings) old lines new → IsSound settings new
  sound_block true old lines new s b =
      let first = sound_minor settings old b.minor b.mid s b.collected in sound_when (is_step_due b.mid) b.mid b.major new first.1 first.0 b.stepped
  sound_block false old lines new s b = subst (IsSound settings) (sym b.1) s

  -- the collections before a birth
  room_retained : (old : Store) (words : ℕ) (lines : List Line) (new : Store) → IsSound settings old → MakesRoom settings old words lines new → RoomRetained settings old words lines new
  room_retained old words lines new s m = record {
    mid = m.mid;
    first = m.first;
    second = m.second;
    block = m.block;
    collect = when_whole (exceeds_limit settings m.mid words) m.mid m.second new (sound_block (needs_block settings old words) old m.first m.mid s m.block) m.collect;
    printed = m.printed;
  }

-- A whole collection of a store for which parts stand.
pub collects_whole : {heap : HeapParts} {store : Store} → PartsStandFor heap store → (lines : List Line) (later : Store) → Collect heap.setup.settings store lines later
    → CollectsWhole heap.setup.settings store lines later
collects_whole {heap = heap} {store = store} s lines later c = whole heap.setup.settings (sweeps_some s) (visits_some s) store lines later s.sound c

-- A birth of a command behind the collections before it.
pub birth_retained : {heap : HeapParts} {store : Store} → PartsStandFor heap store → (command : Command) (found : Option TypeInfo) (request : Request) (lines : List Line) (later : Store)
    → words_asked heap.setup command ≡ words_of_type found request.items → BirthWithRoomOf found heap.setup store request lines later → BirthRetained command heap.setup store lines later
birth_retained s command None request lines later asks b = absurd b
birth_retained {heap = heap} {store = store} s command (Some info) request lines later asks b = record {
  words = _;
  asks = asks;
  mid = b.mid;
  before = b.before;
  own = b.own;
  room = room_retained heap.setup.settings (sweeps_some s) (visits_some s) store _ b.before b.mid s.sound b.made_room;
  born = (b.born.is_old, info, request, b.born.leaves);
  printed = b.printed;
}

-- The limit refuses words only where what is retained leaves no room for them.
pub refusal_retained : {heap : HeapParts} {store : Store} → PartsStandFor heap store → (words : ℕ) (lines : List Line) (later : Store) → HasNoRoom heap.setup.settings store words lines later
    → RefusalRetained words heap.setup store lines later
refusal_retained {heap = heap} {store = store} s words lines later n = record {
  room = room_retained heap.setup.settings (sweeps_some s) (visits_some s) store words lines later s.sound n.made_room;
  exceed = no_room_retained heap.setup.settings (sweeps_some s) store words lines later s.sound n;
}
