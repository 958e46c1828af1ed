-- What the parts of a heap test is what the store's definitions test.
use Rattle.std.proofs.Common.{◌≡◌, ℕ, ◌+◌, Bool, sym, ap, ap₂, arith}
use Rattle.std.specs.Prelude.{not, ◌||◌, nat_lt, nat_le}
use Rattle.text_model.specs.declared.line.Phase.{Phase}
use Rattle.store_model.specs.Store.{Store, counted_words}
use Rattle.store_model.specs.Collections.{is_scanning, is_step_due, needs_block, exceeds_limit}
use Rattle.parts_model.specs.Parts.{HeapParts}
use Rattle.parts_model.specs.StandsFor.{PartsStandFor}
use Rattle.frame_laws.proofs.PlaceLaws.{placed_words}
use Rattle.collect_laws.specs.Tests.{is_step_due_in, needs_block_in, exceeds_limit_in}

module _ {heap : HeapParts} {store : Store} (s : PartsStandFor heap store) where
  -- all words are counted
  pub counted_in : counted_words store ≡ heap.unsettled + heap.old_words
  counted_in =
      let words = placed_words store.settled s.words.objects s.births.settled_are in
      omega (arith, words.all, words.unsettled, words.settled_are, s.sums.unsettled_are, s.sums.old_are)

  pub due_in : is_step_due store ≡ is_step_due_in heap
  due_in =
      ap₂ (λ (phase : Phase) (reached : Bool). not (is_scanning phase) || reached) s.counts.phase_is (ap₂ nat_le s.counts.threshold_is (sym s.sums.old_are))

  pub needs_in : (words : ℕ) → needs_block heap.setup.settings store words ≡ needs_block_in heap words
  needs_in words = ap₂ (λ (unsettled fresh : ℕ). nat_lt heap.setup.settings.nursery (unsettled + fresh + words)) (sym s.sums.unsettled_are) s.counts.fresh_is

  pub exceeds_in : (words : ℕ) → exceeds_limit heap.setup.settings store words ≡ exceeds_limit_in heap words
  exceeds_in words = ap (λ (counted : ℕ). nat_lt heap.setup.settings.limit (counted + words)) counted_in
