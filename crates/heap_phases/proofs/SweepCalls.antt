-- A step of sweeping, as the code does it.
use Rattle.std.proofs.Common.{◌≡◌, ℕ, ◌+◌, ◌<◌, ◌≤◌, Bool, true, false, List, [], ◌∷◌, ◌++◌, map, refl, sym, ap, ap₂, ◌∙◌, subst, append_assoc, arith, inl, inr}
use Rattle.std.specs.Prelude.{◌-◌, ◌==◌, ◌↔◌, min, nat_lt, not}
use Rattle.std.specs.List.Sorted.{IsPermutation}
use Rattle.std.proofs.lemmas.Bool.{cases_lt}
use Rattle.std.proofs.lemmas.Bool.Decides.{nat_tests}
use Rattle.std.proofs.lemmas.List.Sorted.{list_any-IsPermutation}
use Rattle.heap_space.specs.Memory.{Memory}
use Rattle.old_space.specs.Headers.{StandsWithHeaders}
use Rattle.old_space.specs.Sweeping.{SweepsLowest, units_left}
use Rattle.old_space.specs.declared.Old.{Old}
use Rattle.sweep_steps.specs.Steps.{HasSwept}
use Rattle.sweep_steps.specs.declared.SweepState.{SweepState}
use Rattle.sweep_steps.specs.declared.SweepState.TheVariants.{Working, Finished}
use Rattle.text_model.specs.declared.line.Line.{Line}
use Rattle.text_model.specs.declared.line.Line.TheVariants.{Stepped, Freed}
use Rattle.text_model.specs.declared.line.Phase.{Phase}
use Rattle.text_model.specs.declared.line.Phase.TheVariants.{Sweeping}
use Rattle.object_model.specs.Sets.{is_in}
use Rattle.type_table.specs.Table.{Table, KeysRise}
use Rattle.store_model.specs.Store.{husk_words}
use Rattle.store_model.specs.Sweeping.{husks_where}
use Rattle.heap_parts.specs.Parts.{HeapParts}
use Rattle.heap_parts.specs.Collects.{StepsMajor}
use Rattle.heap_phases.specs.Steps.{CanStep, CountsHusks}
use Rattle.heap_phases.specs.Swept.{freed_words, swept_parts, phase_of}
use Rattle.heap_phases.proofs.BlockHeads.{live_of, blocks_headed}
use Rattle.heap_phases.proofs.EndStands.{sum_split}
use Rattle.heap_phases.proofs.SweepSteps.{in_phase, phase_left}
use Rattle.heap_phases.proofs.StepContracts.{sweeps_major}

-- some of the words are no more than all
pub freed_few : (husks : Table ℕ) (freed : List ℕ) → freed_words husks freed ≤ husk_words husks
freed_few husks freed = let split = sum_split (λ (h : ℕ × ℕ). h.1) (λ (h : ℕ × ℕ). is_in h.0 freed) husks in omega (arith, split)

-- what a sweep asks for
pub can_sweep : (heap : HeapParts) → CanStep heap → StandsWithHeaders heap.old_blocks heap.memory
can_sweep heap can = let s = can.collected.stands in record { live = live_of heap can.store s; waiting = s.waiting; has = blocks_headed heap can.store s }

-- the words of all husks are part of the old words, which are few
pub husks_few : (heap : HeapParts) → CanStep heap → (husk_words heap.husk_list ≤ heap.old_words) × (heap.old_words ≤ 16777216)
husks_few heap can =
    let s = can.collected.stands in let high = s.made.ranges.2.2.1 in
    let listed : husk_words can.store.husks ≡ husk_words heap.husk_list = ap husk_words s.husk_list.are in
    (omega (arith, listed, s.sums.old_are), omega (arith, s.sums.within, high))

-- the husks stand by rising birth
pub husks_rise : (heap : HeapParts) → CanStep heap → KeysRise heap.husk_list
husks_rise heap can = can.collected.stands.husk_list.rise

-- the parts that the code leaves, where these are the words that were freed, the husks that are left, and the phase
abbrev pub left_by : HeapParts → Memory → Old → ℕ → Table ℕ → Phase → HeapParts
left_by heap memory new words husks phase = record heap { memory = memory; old_blocks = new; old_words = heap.old_words - words; husk_list = husks; phase = phase }

-- they are those of the husks of the births that were freed, where the sweep has come so far
pub record AreLeft (heap : HeapParts) (freed : List ℕ) (state : SweepState) (words : ℕ) (husks : Table ℕ) (phase : Phase) : Type 0 where
  pub words_are : words ≡ freed_words heap.husk_list freed
  pub husks_are : husks ≡ husks_where heap.husk_list (λ x. not (is_in x freed))
  pub phase_is : phase ≡ phase_of state

-- the phase afterwards is that of the units that are left
phase-is : (sweep before after : ℕ) (state : SweepState) → after + min sweep before ≡ before → (state ≡ Finished) ↔ (after ≡ 0) → phase_left sweep before ≡ phase_of state
phase-is sweep before after Finished less over =
    let none : after ≡ 0 = over.0 refl in
    let is : nat_lt sweep before ≡ false = no-less sweep before (omega (arith, less, none)) in rw is refl
  where
    no-less : (a b : ℕ) → b ≤ a → nat_lt a b ≡ false
    no-less a b l = grind (arith, nat_tests)
phase-is sweep before after Working less over =
    elim (cases_lt sweep before) [
      | inl l ↦ let is : nat_lt sweep before ≡ true = is-less sweep before l in rw is refl
      | inr l ↦ absurd (let e : Working ≡ Finished = over.1 (omega (arith, less, l)) in let no : ⊥ = cc in no)
    ]
  where
    is-less : (a b : ℕ) → a < b → nat_lt a b ≡ true
    is-less a b l = grind (arith, nat_tests)

abbrev test_of : List ℕ → ℕ → Bool
test_of births x = is_in x births

same-tests : (births sorted : List ℕ) → IsPermutation births sorted → test_of births ≡ test_of sorted
same-tests births sorted same = λ i x. list_any-IsPermutation (λ (y : ℕ). y == x) births sorted same i

module _ (heap : HeapParts) (new : Old) (memory : Memory) (freed : List ℕ) (state : SweepState) (words : ℕ) (husks : Table ℕ) (phase : Phase)
    (left : AreLeft heap freed state words husks phase) where
  left-is : left_by heap memory new words husks phase ≡ in_phase (swept_parts heap memory new freed) (phase_of state)
  left-is = ap (λ (n : ℕ). left_by heap memory new n husks phase) left.words_are
      ∙ ap₂ (λ (hs : Table ℕ) (ph : Phase). left_by heap memory new (freed_words heap.husk_list freed) hs ph) left.husks_are left.phase_is

  pub sweep_major : (before after : List Line) → heap.phase ≡ Sweeping
      → HasSwept SweepsLowest (min heap.setup.settings.sweep (units_left heap.old_blocks)) heap.old_blocks heap.memory new memory [] freed
      → units_left new + min heap.setup.settings.sweep (units_left heap.old_blocks) ≡ units_left heap.old_blocks
      → (state ≡ Finished) ↔ (units_left new ≡ 0)
      → after ≡ (before ++ (Stepped Sweeping phase ∷ [])) ++ map (λ b. Freed b) freed
      → StepsMajor heap (left_by heap memory new words husks phase) before after
  sweep_major before after sweeping swept less over told =
      let last : Phase = phase_left heap.setup.settings.sweep (units_left heap.old_blocks) in
      let phases : phase_left heap.setup.settings.sweep (units_left heap.old_blocks) ≡ phase_of state = phase-is heap.setup.settings.sweep (units_left heap.old_blocks) (units_left new) state less over in
      let tests = same-tests swept.births freed (subst (λ (xs : List ℕ). IsPermutation swept.births xs) (sym swept.behind) swept.same) in
      let parts : swept_parts heap memory new swept.births ≡ swept_parts heap memory new freed =
      ap (λ (test : ℕ → Bool). record heap { memory = memory; old_blocks = new; old_words = heap.old_words - husk_words (husks_where heap.husk_list test); husk_list = husks_where heap.husk_list (λ x. not (test x)) }) tests in
      let lines : after ≡ before ++ (Stepped Sweeping (phase_left heap.setup.settings.sweep (units_left heap.old_blocks)) ∷ map (λ b. Freed b) swept.sorted) =
      told ∙ (append_assoc before (Stepped Sweeping phase ∷ []) (map (λ b. Freed b) freed)
      ∙ ap₂ (λ (ph : Phase) (bs : List ℕ). before ++ (Stepped Sweeping ph ∷ map (λ b. Freed b) bs)) (left.phase_is ∙ sym phases) swept.behind) in
      subst (λ (h : HeapParts). StepsMajor heap h before after) (ap₂ (λ (h : HeapParts) (ph : Phase). in_phase h ph) parts phases ∙ sym left-is)
      (sweeps_major heap _ new memory swept.births swept.sorted before after sweeping refl swept.steps swept.same swept.rising lines)

  pub sweep_counts : CanStep heap → CountsHusks heap (left_by heap memory new words husks phase) (record { husk_words = 0; freed_words = words })
  sweep_counts can =
      let few = husks_few heap can in let some = freed_few heap.husk_list freed in
      let split = sum_split (λ (h : ℕ × ℕ). h.1) (λ (h : ℕ × ℕ). is_in h.0 freed) heap.husk_list in
      let husks : husk_words husks ≡ husk_words (husks_where heap.husk_list (λ x. not (is_in x freed))) = ap husk_words left.husks_are in
      record { husks = omega (arith, split, husks, left.words_are); old_words = omega (arith, few.0, some, left.words_are) }
