-- Collections of every kind, and births with those that come before them, leave a sound store in form, and slots as they were.
use Rattle.std.proofs.Common.{◌≡◌, ℕ, ◌<◌, Bool, true, false, List, map, Option, Some, None, refl, sym, ap, ◌∙◌, subst}
use Rattle.std.specs.Prelude.{nat_le}
use Rattle.type_table.specs.declared.info.TypeInfo.{TypeInfo}
use Rattle.text_model.specs.declared.line.Line.{Line}
use Rattle.text_model.specs.declared.line.Line.TheVariants as line
use Rattle.text_model.specs.declared.line.Phase.{Phase}
use Rattle.text_model.specs.declared.line.Phase.TheVariants.{Scanning, Marking, Sweeping, Finalizing}
use Rattle.object_model.specs.declared.settings.Settings.{Settings}
use Rattle.object_model.specs.Newborn.{Request}
use Rattle.object_model.specs.Setup.{Setup}
use Rattle.store_model.specs.Store.{Store}
use Rattle.store_model.specs.Slots.{held}
use Rattle.store_model.specs.MinorCollection.{MinorCollection, AreAllPinned}
use Rattle.store_model.specs.Marking.{GoesOn, with_visited, visited_words}
use Rattle.store_model.specs.Collections.{StepFrom, MajorStep, When, Block, Cycle, Last, More, TwoCycles, CollectFrom, Collect as Collects, MakesRoom, always, is_step_due, needs_block, exceeds_limit}
use Rattle.store_model.specs.Births.{BirthWithRoomOf}
use Rattle.store_model.specs.Sound.{IsSound, IsInForm}
use Rattle.store_model.proofs.Form.{minor_form, step_form, birth_form}
use Rattle.store_model.proofs.StepsSound.{sound_minor, sound_step}
use Rattle.store_model.proofs.BirthSound.{sound_born}
use Rattle.store_model.proofs.RootLaws.{held_root}

-- a major step leaves the slots
marking_slots : (b : Bool) (settings : Settings) (old : Store) (visits lines : List Line) (new : Store) → GoesOn b settings old visits lines new → new.slots ≡ old.slots
marking_slots true settings old visits lines new g = ap (λ (s : Store). s.slots) g.1
marking_slots false settings old visits lines new (rest, e, is) = ap (λ (s : Store). s.slots) e.leaves

step_slots : (phase : Phase) (settings : Settings) (old : Store) (lines : List Line) (new : Store) → StepFrom phase settings old lines new → new.slots ≡ old.slots
step_slots Scanning settings old lines new s = ap (λ (k : Store). k.slots) s.leaves
step_slots Marking settings old lines new s =
    marking_slots (nat_le settings.increment (visited_words old.kept s.births)) settings (with_visited old s.births) (map (λ x. line.Visited x) s.births) lines new s.goes_on
step_slots Sweeping settings old lines new s = ap (λ (k : Store). k.slots) s.leaves
step_slots Finalizing settings old lines new s = ap (λ (k : Store). k.slots) s.1

module _ (settings : Settings) (sweeps : 0 < settings.sweep) where
  -- a store that is sound and in form
  pub record IsWell (store : Store) : Type 0 where
    pub sound : IsSound settings store
    pub form : IsInForm settings.roots store

  -- and one with the slots of another
  pub record Leaves (old new : Store) : Type 0 where
    pub well : IsWell new
    pub slots : new.slots ≡ old.slots

  -- a minor collection, after which each object of the nursery is pinned
  minor_leaves : (old : Store) (lines : List Line) (new : Store) → IsWell old → MinorCollection old lines new → Leaves old new × AreAllPinned new
  minor_leaves old lines new w c =
      let s = sound_minor settings old lines new w.sound c in
      (record { well = record { sound = s.0; form = minor_form old lines new w.form c }; slots = ap (λ (k : Store). k.slots) c.leaves }, s.1)

  step_leaves : (phase : Phase) (old : Store) (lines : List Line) (new : Store) → old.phase ≡ phase → AreAllPinned old → IsWell old → StepFrom phase settings old lines new → Leaves old new
  step_leaves phase old lines new is pinned w s = record {
    well = record { sound = sound_step settings sweeps phase old lines new is pinned w.sound s; form = step_form phase settings old lines new is w.form s };
    slots = step_slots phase settings old lines new s;
  }

  stays : (old : Store) → IsWell old → Leaves old old
  stays old w = record { well = w; slots = refl }

  both : {old mid new : Store} → Leaves old mid → Leaves mid new → Leaves old new
  both a b = record { well = b.well; slots = b.slots ∙ a.slots }

  when_leaves : (b : Bool) (Event : Store → List Line → Store → Type 0) (old : Store) (lines : List Line) (new : Store) → (Event old lines new → Leaves old new) → IsWell old → When b Event old lines new → Leaves old new
  when_leaves true Event old lines new event w e = event e
  when_leaves false Event old lines new event w e = subst (Leaves old) (sym e.1) (stays old w)

  pub block_leaves : (is_due : Store → Bool) (old : Store) (lines : List Line) (new : Store) → IsWell old → Block is_due settings old lines new → Leaves old new
  block_leaves is_due old lines new w b =
      let first = minor_leaves old b.minor b.mid w b.collected in
      both first.0 (when_leaves (is_due b.mid) (MajorStep settings) b.mid b.major new (step_leaves b.mid.phase b.mid b.major new refl first.1 first.0.well) first.0.well b.stepped)

  cycle_leaves : (old : Store) (lines : List Line) (new : Store) → IsWell old → Cycle settings old lines new → Leaves old new
  cycle_leaves old lines new w (Last block ends) = block_leaves always old lines new w block
  cycle_leaves old _ new w (More {mid = mid} {lines = first} {rest = rest} block goes_on cycle) =
      let a = block_leaves always old first mid w block in both a (cycle_leaves mid rest new a.well cycle)

  two_leave : (old : Store) (lines : List Line) (new : Store) → IsWell old → TwoCycles settings old lines new → Leaves old new
  two_leave old lines new w c = let a = cycle_leaves old c.first c.mid w c.ends in both a (cycle_leaves c.mid c.second new a.well c.again)

  pub collect_leaves : (phase : Phase) (old : Store) (lines : List Line) (new : Store) → IsWell old → CollectFrom phase settings old lines new → Leaves old new
  collect_leaves Scanning old lines new w c = cycle_leaves old lines new w c
  collect_leaves Marking old lines new w c = two_leave old lines new w c
  collect_leaves Sweeping old lines new w c = two_leave old lines new w c
  collect_leaves Finalizing old lines new w c = two_leave old lines new w c

  pub room_leaves : (old : Store) (words : ℕ) (lines : List Line) (new : Store) → IsWell old → MakesRoom settings old words lines new → Leaves old new
  room_leaves old words lines new w m =
      let a = when_leaves (needs_block settings old words) (Block is_step_due settings) old m.first m.mid (block_leaves is_step_due old m.first m.mid w) w m.block in
      both a (when_leaves (exceeds_limit settings m.mid words) (Collects settings) m.mid m.second new (collect_leaves m.mid.phase m.mid m.second new a.well) a.well m.collect)

-- A birth of a command, whose target a slot holds, leaves a sound store in form.
pub birth_leaves : (found : Option TypeInfo) (setup : Setup) (old : Store) (request : Request) (lines : List Line) (new : Store) (sweeps : 0 < setup.settings.sweep)
    → ((t : ℕ) → request.target ≡ Some t → (slot : ℕ) × (held old.slots slot ≡ Some t)) → IsWell setup.settings sweeps old
    → BirthWithRoomOf found setup old request lines new → IsWell setup.settings sweeps new
birth_leaves None setup old request lines new sweeps target w b = absurd b
birth_leaves (Some info) setup old request lines new sweeps target w b =
    let a = room_leaves setup.settings sweeps old _ b.before b.mid w b.made_room in
    record {
      sound = subst (IsSound setup.settings) (sym b.born.leaves) (sound_born a.well.sound b.born.is_old info request
          (λ t e. let slot = target t e in a.well.sound.roots t (held_root b.mid slot.0 t (ap (λ (ss : List (Option ℕ)). held ss slot.0) a.slots ∙ slot.1))));
      form = birth_form (Some info) setup old request lines new w.form b;
    }
