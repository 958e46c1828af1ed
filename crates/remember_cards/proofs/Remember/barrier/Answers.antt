use Rattle.std.proofs.Common.{◌≡◌, ℕ, true, false, IsTrue, sym, ap, ◌∙◌, subst}
use Rattle.heap_space.specs.Places.{word_at}
use Rattle.heap_space.specs.Memory.{Memory}
use Rattle.heap_space.proofs.Blocks.{word_at-here}
use Rattle.object_header.specs.Words.{has_flag, without_flag}
use Rattle.object_header.specs.declared.flags.Flag.TheVariants.{Track}
use Rattle.object_header.proofs.WordLaws.{without_flag-stays}
use Rattle.remember_cards.specs.Remembered.{RemembersMore, is_held_whole, is_held, hold_whole}
use Rattle.remember_cards.specs.Tracking.{IsTracked, with_head}
use Rattle.remember_cards.specs.Remembering.{Remembering, remembered_by}
use Rattle.remember_cards.specs.Entries.{AreOrderly}
use Rattle.remember_cards.proofs.RememberLaws.{held-all}
use Rattle.remember_cards.proofs.GivenLaws.{whole_again, tells_whole, tells_not, whole_given, whole_more, whole_tracked_given, whole_covered}
use Rattle.remember_cards.proofs.Remember.barrier.Goals as goal

head-clear : (c : goal.Then-not-is_set) → has_flag (word_at c.args.space.now.blocks c.args.a) Track ≡ false
head-clear c = ap (λ (w : ℕ). has_flag w Track) (sym c.first_word-head.ensures.word) ∙ (sym c.is_set.ensures ∙ c.if-not-is_set.true)

is-whole : (c : goal.Then-not-is_set) → is_held_whole (remembered_by c.args.self.now) c.args.a ≡ true
is-whole c = tells_whole (is_held_whole (remembered_by c.args.self.now) c.args.a) (has_flag (word_at c.args.space.now.blocks c.args.a) Track) c.requires.tracked.track (head-clear c)

pub returns-then-not-is_set-clause-remembered : goal.returns-then-not-is_set-clause-remembered
returns-then-not-is_set-clause-remembered c =
    whole_again c.args.self.now c.args.a (subst (λ (m : Remembering). AreOrderly m.entries) c.self.view_is c.is_empty.ensures.orderly) (is-whole c)

pub returns-then-not-is_set-clause-head : goal.returns-then-not-is_set-clause-head
returns-then-not-is_set-clause-head c =
    sym c.first_word-head.ensures.same
    ∙ ap (with_head c.args.space.now c.args.a) (sym (without_flag-stays (word_at c.args.space.now.blocks c.args.a) Track (head-clear c)))

pub returns-then-not-is_set-clause-covered : goal.returns-then-not-is_set-clause-covered
returns-then-not-is_set-clause-covered c = λ i. held-all (remembered_by c.args.self.now) c.args.a i (is-whole c)

not-whole : (c : goal.After-write) → is_held_whole (remembered_by c.args.self.now) c.args.a ≡ false
not-whole c = tells_not (is_held_whole (remembered_by c.args.self.now) c.args.a) (has_flag (word_at c.args.space.now.blocks c.args.a) Track) c.requires.tracked.track
    (ap (λ (w : ℕ). has_flag w Track) (sym c.first_word-head.ensures.word) ∙ (sym c.is_set.ensures ∙ c.if-not-is_set.false))

-- what is kept from then on
abbrev after : (c : goal.After-write) → Remembering
after c = record { card = c.self.inside.card; entries = c.hold_whole.new.self; kept = c.self.inside.kept }

after-is : (c : goal.After-write) → after c ≡ (let m : Remembering = record c.args.self.now { entries = hold_whole c.args.self.now.entries c.args.a } in m)
after-is c =
    ap (λ (m : Remembering). let n : Remembering = record { card = c.self.inside.card; entries = m.entries; kept = c.self.inside.kept } in n)
    (let m : Remembering = record { card = c.self.inside.card; entries = c.hold_whole.new.self; kept = c.self.inside.kept } in
    let n : Remembering = record { card = c.self.inside.card; entries = hold_whole c.self.inside.entries c.args.a; kept = c.self.inside.kept } in
    let same : m ≡ n = (λ i. record { card = c.self.inside.card; entries = c.in_ok-hold_whole.ensures.ok i; kept = c.self.inside.kept }) in same)
    ∙ ap (λ (m : Remembering). let n : Remembering = record m { entries = hold_whole m.entries c.args.a } in n) c.self.view_is

pub returns-clause-remembered : goal.returns-clause-remembered
returns-clause-remembered c = ap remembered_by (after-is c) ∙ whole_given c.args.self.now c.args.a (not-whole c)

pub returns-clause-more : goal.returns-clause-more
returns-clause-more c =
    subst (λ (m : Remembering). RemembersMore (remembered_by c.args.self.now) (remembered_by m) c.args.a) (sym (after-is c)) (whole_more c.args.self.now c.args.a (not-whole c))

pub returns-clause-still_tracked : goal.returns-clause-still_tracked
returns-clause-still_tracked c =
    let word : word_at c.write.new.self.blocks c.args.a ≡ without_flag (word_at c.args.space.now.blocks c.args.a) Track =
    ap (λ (m : Memory). word_at m.blocks c.args.a) c.write.ensures
    ∙ (word_at-here c.args.space.now.blocks c.args.a c.clear.result c.requires.there
    ∙ (c.clear.ensures ∙ ap (λ (w : ℕ). without_flag w Track) c.first_word-head.ensures.word)) in
    subst (λ (w : ℕ). IsTracked (remembered_by (after c)) c.args.a w) (sym word)
    (subst (λ (m : Remembering). IsTracked (remembered_by m) c.args.a (without_flag (word_at c.args.space.now.blocks c.args.a) Track)) (sym (after-is c))
    (whole_tracked_given c.args.self.now c.args.a (word_at c.args.space.now.blocks c.args.a) (not-whole c) c.requires.tracked))

pub returns-clause-covered : goal.returns-clause-covered
returns-clause-covered c = λ i.
    subst (λ (m : Remembering). IsTrue (is_held (remembered_by m) c.args.a i)) (sym (after-is c)) (whole_covered c.args.self.now c.args.a i (not-whole c))
