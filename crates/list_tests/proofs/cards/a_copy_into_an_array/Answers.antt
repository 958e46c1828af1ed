use Rattle.std.proofs.Common.{◌≡◌, ℕ, sym, ap, ◌∙◌, subst, arith}
use Rattle.heap_space.specs.Places.{has, word_at}
use Rattle.heap_space.specs.Memory.{Memory}
use Rattle.heap_space.proofs.Blocks.{has-with_word, word_at-elsewhere}
use Rattle.object_header.specs.Words.{has_flag}
use Rattle.object_header.specs.declared.flags.Flag.TheVariants.{Track, CardsSet}
use Rattle.remember_cards.specs.Remembered.{Remembered, with_whole}
use Rattle.remember_cards.specs.Tracking.{IsTracked, whole_head}
use Rattle.remember_cards.specs.Remembering.{Remembering, remembered_by, nothing_remembered}
use Rattle.list_tests.proofs.cards.a_copy_into_an_array.Goals as goal

pub barrier_copy-requires-clause-there : goal.barrier_copy-requires-clause-there
barrier_copy-requires-clause-there g c =
    ap (λ (m : Memory). has m.blocks 4) c.in_ok-barrier.ensures.head
    ∙ (has-with_word c.in_ok-space.space.blocks 1 (whole_head (word_at c.in_ok-space.space.blocks 1)) 4 ∙ c.in_ok-space.ensures.array)

pub barrier_copy-requires-clause-tracked : goal.barrier_copy-requires-clause-tracked
barrier_copy-requires-clause-tracked g c =
    let word : word_at c.barrier.new.space.blocks 4 ≡ word_at c.in_ok-space.space.blocks 4 =
    ap (λ (m : Memory). word_at m.blocks 4) c.in_ok-barrier.ensures.head
    ∙ word_at-elsewhere c.in_ok-space.space.blocks 1 (whole_head (word_at c.in_ok-space.space.blocks 1)) 4 (λ e. absurd (omega (arith, e))) in
    let held : remembered_by c.barrier.new.self ≡ with_whole (remembered_by (nothing_remembered 128)) 1 =
    c.in_ok-barrier.ensures.remembered ∙ ap (λ (m : Remembering). with_whole (remembered_by m) 1) c.in_ok-remember.ensures in
    subst (λ (r : Remembered). IsTracked r 4 (word_at c.barrier.new.space.blocks 4)) (sym held) (record {
      track = ap (λ (w : ℕ). has_flag w Track) word ∙ c.in_ok-space.ensures.array_track;
      cards_set = ap (λ (w : ℕ). has_flag w CardsSet) word ∙ c.in_ok-space.ensures.array_cards;
    })
