-- Steps of sweeping, and the last step of a cycle.
use Rattle.std.specs.Prelude.{◌≡◌, ℕ, ◌-◌, ◌*◌, ◌/◌, ◌<◌, ◌≤◌, min, max, Bool, not, ◌&&◌, List, [], ◌∷◌, ◌++◌, map, filter, length, nat_le, nat_lt, unwrap_or}
use Rattle.type_table.specs.Table.{Table, value_at, with_value, entries_where}
use Rattle.text_model.specs.declared.line.Line.{Line}
use Rattle.text_model.specs.declared.line.Line.TheVariants.{Stepped, Freed, Queued, ThresholdIs}
use Rattle.text_model.specs.declared.line.Phase.{Phase}
use Rattle.text_model.specs.declared.line.Phase.TheVariants.{Scanning, Marking, Sweeping, Finalizing}
use Rattle.object_model.specs.declared.settings.Settings.{Settings}
use Rattle.object_model.specs.Sets.{is_in}
use Rattle.object_model.specs.Setup.{small_words}
use Rattle.store_model.specs.Store.{Store, old_words, husk_words}

-- the husks whose births pass the test, by rising birth
abbrev pub husks_where : List (ℕ × ℕ) → (ℕ → Bool) → List (ℕ × ℕ)
husks_where husks test = filter (λ husk. test husk.0) husks

-- whether it is the birth of a husk that the test frees
abbrev pub is_freed : Store → (ℕ → Bool) → ℕ → Bool
is_freed store freed x = freed x && is_in x (map (λ husk. husk.0) store.husks)

-- the store without the husks that the test frees, and without their homes
abbrev pub without_husks : Store → (ℕ → Bool) → Store
without_husks store freed = record store {
  husks = husks_where store.husks (λ x. not (freed x));
  homes = entries_where (λ x. not (is_freed store freed x)) store.homes;
}

-- the store after a step of sweeping that ends in this phase
abbrev pub after_sweep : Store → (ℕ → Bool) → Phase → Store
after_sweep store freed phase = record (without_husks store freed) {
  phase = phase;
  left = store.left - 1;
}

-- whether a husk lies in a page, and whether it is large
abbrev pub is_small : Settings → ℕ × ℕ → Bool
is_small settings husk = nat_le husk.1 (small_words settings)

abbrev pub is_large : Settings → ℕ × ℕ → Bool
is_large settings husk = nat_lt (small_words settings) husk.1

-- the sweep stays in its phase only where steps are left, and ends only where no husk is
abbrev pub MayEndIn : Phase → Store → Type 0
MayEndIn Scanning new = ⊥
MayEndIn Marking new = ⊥
MayEndIn Sweeping new = 0 < new.left
MayEndIn Finalizing new = new.husks ≡ []

-- any husks may be freed, within the bounds of a step
pub record SweepingStep (settings : Settings) (old : Store) (lines : List Line) (new : Store) : Type 0 where
  pub freed : ℕ → Bool
  pub phase : Phase
  pub few_small : husk_words (filter (is_small settings) (husks_where old.husks freed)) ≤ settings.sweep * settings.page
  pub few_large : length (filter (is_large settings) (husks_where old.husks freed)) ≤ settings.sweep
  pub may_end : MayEndIn phase new
  pub printed : lines ≡ Stepped Sweeping phase ∷ map (λ husk. Freed husk.0) (husks_where old.husks freed)
  pub leaves : new ≡ after_sweep old freed phase

-- the queues after these objects entered theirs, in order
abbrev pub queues_with : Table (List ℕ) → List (ℕ × ℕ) → Table (List ℕ)
queues_with queues [] = queues
queues_with queues (entry ∷ entries) =
    queues_with (with_value queues entry.1 (unwrap_or (value_at queues entry.1) [] ++ entry.0 ∷ [])) entries

-- at most 182 percent of the old words, at most 140 percent of the last threshold, and at least the minimum
abbrev pub next_threshold : ℕ → ℕ → ℕ → ℕ
next_threshold minimum words threshold = max minimum (min (words * 182 / 100) (threshold * 140 / 100))

-- the threshold of the next cycle
abbrev pub threshold_after : Settings → Store → ℕ
threshold_after settings store = next_threshold settings.minimum (old_words store) store.threshold

-- the lines of the last step of a cycle
abbrev pub finalizing_lines : Settings → Store → List Line
finalizing_lines settings store =
    Stepped Finalizing Scanning ∷ (map (λ entry. Queued entry.0 entry.1) store.chosen ++ ThresholdIs (threshold_after settings store) ∷ [])

-- the store after the last step of a cycle
abbrev pub after_finalizing : Settings → Store → Store
after_finalizing settings store = record store {
  chosen = [];
  queues = queues_with store.queues store.chosen;
  threshold = threshold_after settings store;
  phase = Scanning;
}
