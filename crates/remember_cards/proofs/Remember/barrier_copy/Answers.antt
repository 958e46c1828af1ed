use Rattle.std.proofs.Common.{◌≡◌, ℕ, ◌+◌, ◌-◌, ◌/◌, false, IsTrue, List, ◌∷◌, sym, ap, ◌∙◌, subst, arith}
use Rattle.heap_space.specs.Places.{word_at}
use Rattle.heap_space.specs.Memory.{Memory}
use Rattle.heap_space.proofs.Blocks.{word_at-here}
use Rattle.object_header.specs.Words.{has_flag, with_flag}
use Rattle.object_header.specs.declared.flags.Flag.TheVariants.{Track, CardsSet}
use Rattle.remember_cards.specs.Remembered.{RemembersMore, is_held_whole, is_held, hold_cards}
use Rattle.remember_cards.specs.Tracking.{IsTracked}
use Rattle.remember_cards.specs.Remembering.{Remembering, remembered_by, cards_from}
use Rattle.remember_cards.proofs.RememberLaws.{held-all}
use Rattle.remember_cards.proofs.CardLaws.{item_card}
use Rattle.remember_cards.proofs.GivenLaws.{tells_whole, tells_not, cards_more_given, cards_tracked_given, cards_covered}
use Rattle.remember_cards.proofs.Remember.barrier_copy.Goals as goal

pub returns-then-not-is_set-2-clause-covered : goal.returns-then-not-is_set-2-clause-covered
returns-then-not-is_set-2-clause-covered c = λ j low high.
    held-all (remembered_by c.args.self.now) c.args.a j
    (tells_whole (is_held_whole (remembered_by c.args.self.now) c.args.a) (has_flag (word_at c.args.space.now.blocks c.args.a) Track) c.requires.tracked.track
    (ap (λ (w : ℕ). has_flag w Track) (sym c.first_word-head.ensures.word) ∙ (sym c.is_set-2.ensures ∙ c.if-not-is_set-2.true)))

not-whole : (c : goal.After-write) → is_held_whole (remembered_by c.args.self.now) c.args.a ≡ false
not-whole c = tells_not (is_held_whole (remembered_by c.args.self.now) c.args.a) (has_flag (word_at c.args.space.now.blocks c.args.a) Track) c.requires.tracked.track
    (ap (λ (w : ℕ). has_flag w Track) (sym c.first_word-head.ensures.word) ∙ (sym c.is_set-2.ensures ∙ c.if-not-is_set-2.false))

-- the cards behind the first one
abbrev rest : (c : goal.After-write) → List ℕ
rest c = cards_from (c.args.i / c.self.inside.card + 1) ((c.args.i + (c.args.n - 1)) / c.self.inside.card - c.args.i / c.self.inside.card)

abbrev first : (c : goal.After-write) → ℕ
first c = c.args.i / c.self.inside.card

-- what is kept from then on
abbrev after : (c : goal.After-write) → Remembering
after c = record { card = c.self.inside.card; entries = c.hold_cards.new.self; kept = c.self.inside.kept }

after-is : (c : goal.After-write) → after c ≡ (let m : Remembering = record c.args.self.now { entries = hold_cards c.args.self.now.entries c.args.a (first c ∷ rest c) } in m)
after-is c =
    (let n : Remembering = record { card = c.self.inside.card; entries = hold_cards c.self.inside.entries c.args.a (first c ∷ rest c); kept = c.self.inside.kept } in
    let same : after c ≡ n = (λ i. record { card = c.self.inside.card; entries = c.in_ok-hold_cards.ensures.ok i; kept = c.self.inside.kept }) in same)
    ∙ ap (λ (m : Remembering). let n : Remembering = record m { entries = hold_cards m.entries c.args.a (first c ∷ rest c) } in n) c.self.view_is

pub returns-clause-more : goal.returns-clause-more
returns-clause-more c =
    subst (λ (m : Remembering). RemembersMore (remembered_by c.args.self.now) (remembered_by m) c.args.a) (sym (after-is c))
    (cards_more_given c.args.self.now c.args.a (first c ∷ rest c) (not-whole c))

pub returns-clause-still_tracked : goal.returns-clause-still_tracked
returns-clause-still_tracked c =
    let word : word_at c.write.new.self.blocks c.args.a ≡ with_flag (word_at c.args.space.now.blocks c.args.a) CardsSet =
    ap (λ (m : Memory). word_at m.blocks c.args.a) c.write.ensures
    ∙ (word_at-here c.args.space.now.blocks c.args.a c.set.result c.requires.there
    ∙ (c.set.ensures ∙ ap (λ (w : ℕ). with_flag w CardsSet) c.first_word-head.ensures.word)) in
    subst (λ (w : ℕ). IsTracked (remembered_by (after c)) c.args.a w) (sym word)
    (subst (λ (m : Remembering). IsTracked (remembered_by m) c.args.a (with_flag (word_at c.args.space.now.blocks c.args.a) CardsSet)) (sym (after-is c))
    (cards_tracked_given c.args.self.now c.args.a (word_at c.args.space.now.blocks c.args.a) (first c) (rest c) (not-whole c) c.requires.tracked))

pub returns-clause-covered : goal.returns-clause-covered
returns-clause-covered c = λ j low high.
    subst (λ (m : Remembering). IsTrue (is_held (remembered_by m) c.args.a j)) (sym (after-is c))
    (cards_covered c.args.self.now c.args.a j (first c ∷ rest c) (j / c.self.inside.card) (not-whole c)
    (item_card c.self.inside.card c.args.i c.args.n j c.self.invariant (omega (arith, low, high)) low high)
    (ap (λ (m : Remembering). j / m.card) c.self.view_is))
