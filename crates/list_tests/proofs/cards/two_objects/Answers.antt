use Rattle.std.proofs.Common.{◌≡◌, ℕ, true, false, refl, ap, ◌∙◌, arith}
use Rattle.heap_space.specs.Places.{has, word_at}
use Rattle.heap_space.specs.Memory.{Memory}
use Rattle.heap_space.proofs.Blocks.{has-with_word, word_at-here, word_at-elsewhere}
use Rattle.object_header.specs.Words.{has_flag}
use Rattle.object_header.specs.declared.flags.Flag.TheVariants.{Track, CardsSet}
use Rattle.list_tests.proofs.cards.two_objects.Goals as goal

first : (c : goal.After-write-2) → word_at c.write-2.new.self.blocks 1 ≡ 65537
first c =
    ap (λ (m : Memory). word_at m.blocks 1) c.write-2.ensures
    ∙ (word_at-elsewhere c.write.new.self.blocks 4 1114114 1 (λ e. absurd (omega (arith, e)))
    ∙ (ap (λ (m : Memory). word_at m.blocks 1) c.write.ensures
    ∙ word_at-here c.in_ok-space.space.blocks 1 65537 (ap (λ (m : Memory). has m.blocks 1) c.in_ok-space.ensures ∙ refl)))

second : (c : goal.After-write-2) → word_at c.write-2.new.self.blocks 4 ≡ 1114114
second c =
    ap (λ (m : Memory). word_at m.blocks 4) c.write-2.ensures
    ∙ word_at-here c.write.new.self.blocks 4 1114114
    (ap (λ (m : Memory). has m.blocks 4) c.write.ensures
    ∙ (has-with_word c.in_ok-space.space.blocks 1 65537 4 ∙ (ap (λ (m : Memory). has m.blocks 4) c.in_ok-space.ensures ∙ refl)))

track-first : has_flag 65537 Track ≡ true
unfolding has_flag
track-first = refl

cards-first : has_flag 65537 CardsSet ≡ false
unfolding has_flag
cards-first = refl

track-second : has_flag 1114114 Track ≡ true
unfolding has_flag
track-second = refl

cards-second : has_flag 1114114 CardsSet ≡ false
unfolding has_flag
cards-second = refl

pub returns-clause-object_track : goal.returns-clause-object_track
returns-clause-object_track c = ap (λ (w : ℕ). has_flag w Track) (first c) ∙ track-first

pub returns-clause-object_cards : goal.returns-clause-object_cards
returns-clause-object_cards c = ap (λ (w : ℕ). has_flag w CardsSet) (first c) ∙ cards-first

pub returns-clause-array_track : goal.returns-clause-array_track
returns-clause-array_track c = ap (λ (w : ℕ). has_flag w Track) (second c) ∙ track-second

pub returns-clause-array_cards : goal.returns-clause-array_cards
returns-clause-array_cards c = ap (λ (w : ℕ). has_flag w CardsSet) (second c) ∙ cards-second
