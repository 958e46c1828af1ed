-- Cycles from blocks, and whole collections from cycles.
use Rattle.std.proofs.Common.{◌≡◌, ◌≢◌, ℕ, ◌+◌, ◌-◌, ◌<◌, ◌≤◌, List, [], ◌∷◌, ◌++◌, map, length, append_assoc, refl, sym, ap, ◌∙◌, subst, arith}
use Rattle.std.proofs.lemmas.List.{length-map}
use Rattle.text_model.specs.declared.line.Line.{Line}
use Rattle.text_model.specs.declared.line.Phase.{Phase}
use Rattle.text_model.specs.declared.line.Phase.TheVariants.{Scanning, Marking, Sweeping, Finalizing}
use Rattle.object_model.specs.declared.settings.Settings.{Settings}
use Rattle.object_model.specs.Setup.{Setup}
use Rattle.object_model.specs.ObjectWords.{object_from}
use Rattle.store_model.specs.Store.{Store}
use Rattle.store_model.specs.Sound.{IsSound}
use Rattle.store_model.specs.Collections.{Block, always, Cycle, Last, More, TwoCycles, CollectFrom}
use Rattle.parts_model.specs.Parts.{HeapParts, word_in}
use Rattle.parts_model.specs.Places.{RiseBetween}
use Rattle.parts_model.specs.StandsFor.{PartsStandFor}
use Rattle.collect_laws.specs.Events.{Undergoes}
use Rattle.collect_laws.specs.Collections.{CollectsStep, CollectsCycle, CollectsAll}
use Rattle.collect_laws.proofs.TestLaws.{counted_in}
use Rattle.collect_laws.proofs.BlockLaws.{as_event, in_turn}
use Rattle.collect_laws.proofs.StepCount.{steps_in, steps_append, block_steps}
use Rattle.collect_laws.proofs.StepsAhead.{steps_ahead, block_ahead, ahead_most, ahead_some}

-- Blocks of a cycle printed these lines so far: it has ended, or goes on from there, and then so many steps less are ahead.
pub record SoFar (setup : Setup) (store : Store) (lines : List Line) (mid : Store) : Type 0 where
  pub ends : mid.phase ≡ Scanning → Cycle setup.settings store lines mid
  pub goes_on : mid.phase ≢ Scanning → (rest : List Line) (new : Store) → Cycle setup.settings mid rest new → Cycle setup.settings store (lines ++ rest) new
  pub few : mid.phase ≢ Scanning → steps_in lines + steps_ahead setup.settings mid ≤ steps_ahead setup.settings store

-- what a store in which blocks come has
record CanStep (setup : Setup) (store : Store) : Type 0 where
  sweeps : 0 < setup.settings.sweep
  visits : 0 < setup.settings.increment
  sound : IsSound setup.settings store
  few : length store.kept + 1 ≤ store.next

rise-few : (least next : ℕ) (births : List ℕ) → RiseBetween least births next → length births + least ≤ next
rise-few least next [] rise = omega (arith, rise)
rise-few least next (b ∷ births) rise = let more = rise-few (b + 1) next births rise.1 in omega (arith, more, rise.0)

can_step : {heap : HeapParts} {store : Store} → PartsStandFor heap store → CanStep heap.setup store
can_step {heap = heap} {store = store} s = record {
  sweeps = (let least = s.made.ranges.2.2.2.2.2.0 in omega (arith, least));
  visits = (let least = s.made.ranges.2.2.2.0 in omega (arith, least));
  sound = s.sound;
  few = (let all = rise-few 1 heap.next (map s.name s.places) s.births.rise in
      let many : length store.kept ≡ length s.places = ap length s.words.objects.reads ∙ length-map s.places (object_from heap.setup.types s.name (word_in heap)) in
      let names : length (map s.name s.places) ≡ length s.places = length-map s.places s.name in
      let next = s.counts.next_is in omega (arith, all, many, names, next));
}

-- one block more
one-more : {setup : Setup} {store mid new : Store} {lines more : List Line} → SoFar setup store lines mid → mid.phase ≢ Scanning → CanStep setup mid → Block always setup.settings mid more new
    → SoFar setup store (lines ++ more) new
one-more {setup = setup} {store = store} {mid = mid} {new = new} {lines = lines} {more = more} far unended can block = record {
  ends = λ e. far.goes_on unended more new (Last block e);
  goes_on = λ on rest later cycle.
      subst (λ (ls : List Line). Cycle setup.settings store ls later) (sym (append_assoc lines more rest)) (far.goes_on unended (more ++ rest) later (More block on cycle));
  few = λ on.
      let before = far.few unended in
      let less = block_ahead setup.settings can.sweeps can.visits mid more new block on in
      let one = block_steps setup.settings mid more new block in let both = steps_append lines more in omega (arith, before, less, one, both);
}

-- The first block of a cycle.
pub so_far_begins : {old new : HeapParts} {before after : List Line} → CollectsStep old new before after → Undergoes SoFar old new before after
so_far_begins u = as_event (λ store lines later s t block. record {
  ends = λ e. Last block e;
  goes_on = λ on rest new cycle. More block on cycle;
  few = λ on.
      let can = can_step s in let less = block_ahead _ can.sweeps can.visits store lines later block on in
      let one = block_steps _ store lines later block in omega (arith, less, one);
}) u

-- One more, where the cycle goes on.
pub so_far_goes : {start now new : HeapParts} {before between after : List Line} → Undergoes SoFar start now before between → now.phase ≢ Scanning → CollectsStep now new between after
    → Undergoes SoFar start new before after
so_far_goes u on block = in_turn (λ store first half second later s t v far more.
    one-more far (λ e. on (sym t.counts.phase_is ∙ e)) (subst (λ (setup : Setup). CanStep setup half) u.setup (can_step t)) more) u block

-- The cycle has ended.
pub so_far_ends : {start now : HeapParts} {before after : List Line} → Undergoes SoFar start now before after → now.phase ≡ Scanning → CollectsCycle start now before after
so_far_ends u e = as_event (λ store lines later s t far. far.ends (t.counts.phase_is ∙ e)) u

-- The measure of the loop over blocks: as many steps as a cycle can have, less those of which lines tell since its start.
abbrev pub blocks_left : HeapParts → List Line → List Line → ℕ
blocks_left start before now = start.unsettled + start.old_words + start.next + 4 + steps_in before - steps_in now

pub blocks_fall : {start now new : HeapParts} {before between after : List Line} → Undergoes SoFar start now before between → now.phase ≢ Scanning
    → (store : Store) → PartsStandFor start store → CollectsStep now new between after → blocks_left start before after < blocks_left start before between
blocks_fall {start = start} {before = before} {between = between} {after = after} u on store s block =
    let l = u.leads store s in let can = can_step s in
    let unended : l.0.phase ≢ Scanning = λ e. on (sym l.2.counts.phase_is ∙ e) in
    let m = block.leads l.0 l.2 in
    let few = l.1.few unended in let some = ahead_some start.setup.settings l.0 in
    let most = ahead_most start.setup.settings store can.sound can.few in let counted = counted_in s in
    let next = s.counts.next_is in
    let told : steps_in between ≡ steps_in before + steps_in u.lines = ap steps_in u.appended ∙ steps_append before u.lines in
    let more : steps_in after ≡ steps_in between + steps_in block.lines = ap steps_in block.appended ∙ steps_append between block.lines in
    let one = block_steps _ l.0 block.lines m.0 m.1 in
    omega (arith, few, some, most, counted, next, told, more, one)

-- A cycle has no more steps than may come where it begins.
pub cycle_steps : (settings : Settings) (old : Store) (lines : List Line) (new : Store) → 0 < settings.sweep → 0 < settings.increment → Cycle settings old lines new
    → steps_in lines ≤ steps_ahead settings old
cycle_steps settings old lines new sweeps visits (Last block ends) =
    let one = block_steps settings old lines new block in let some = ahead_some settings old in omega (arith, one, some)
cycle_steps settings old _ new sweeps visits (More {mid = mid} {lines = first} {rest = rest} block goes_on cycle) =
    let one = block_steps settings old first mid block in let less = block_ahead settings sweeps visits old first mid block goes_on in
    let more = cycle_steps settings mid rest new sweeps visits cycle in let both = steps_append first rest in omega (arith, one, less, more, both)

-- A whole collection from the phase Scanning is a cycle.
scanning-cycle : (phase : Phase) {settings : Settings} {store later : Store} {lines : List Line} → phase ≡ Scanning → Cycle settings store lines later → CollectFrom phase settings store lines later
scanning-cycle Scanning e cycle = cycle
scanning-cycle Marking e cycle = absurd (let no : ⊥ = cc in no)
scanning-cycle Sweeping e cycle = absurd (let no : ⊥ = cc in no)
scanning-cycle Finalizing e cycle = absurd (let no : ⊥ = cc in no)

pub collects_once : {old new : HeapParts} {before after : List Line} → old.phase ≡ Scanning → CollectsCycle old new before after → CollectsAll old new before after
collects_once e u = as_event (λ store lines later s t cycle. scanning-cycle store.phase (s.counts.phase_is ∙ e) cycle) u

-- And from another phase it is two.
other-cycles : (phase : Phase) {settings : Settings} {store later : Store} {lines : List Line} → phase ≢ Scanning → TwoCycles settings store lines later → CollectFrom phase settings store lines later
other-cycles Scanning other cycles = absurd (other refl)
other-cycles Marking other cycles = cycles
other-cycles Sweeping other cycles = cycles
other-cycles Finalizing other cycles = cycles

pub collects_twice : {old mid new : HeapParts} {before between after : List Line} → old.phase ≢ Scanning → CollectsCycle old mid before between → CollectsCycle mid new between after
    → CollectsAll old new before after
collects_twice other a b = in_turn (λ store first half second later s t v ends again.
    other-cycles store.phase (λ e. other (sym s.counts.phase_is ∙ e)) (record { mid = half; first = first; second = second; ends = ends; again = again; printed = refl })) a b
