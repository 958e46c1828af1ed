use Rattle.std.proofs.Common.{rules, ◌≡◌, ◌+◌, ℕ, true, IsTrue, sym, ap, ◌∙◌, subst, inr}
use Rattle.heap_space.specs.Places.{has, word_at}
use Rattle.heap_parts.specs.Parts.{HeapParts, pinned_places}
use Rattle.heap_parts.specs.Places.{is_young}
use Rattle.minor_collect.specs.Midway.{FollowedTo}
use Rattle.minor_collect.proofs.StillLaws.{can_read, leads_left, leads_pinned, waits_still}
use Rattle.object_header.specs.Words.{has_flag}
use Rattle.object_header.specs.declared.flags.Flag.TheVariants.{Pinned}
use Rattle.minor_collect.proofs.moves.follow_still.Goals as goal

pub read-head-requires : goal.read-head-requires
read-head-requires c = subst (λ (now : HeapParts). IsTrue (has now.memory.blocks c.args.x)) (sym c.parts.view_is)
    (can_read c.requires.middle c.args.x c.requires.pointer c.if-x-eq0.false).0

pub read-requires : goal.read-requires
read-requires c = subst (λ (now : HeapParts). IsTrue (has now.memory.blocks (c.args.x + 1))) (sym c.parts.view_is)
    (can_read c.requires.middle c.args.x c.requires.pointer c.if-x-eq0.false).1

pub returns-then-head : goal.returns-then-head
returns-then-head c = λ stage spot middle is.
    let first : word_at c.args.parts.now.memory.blocks c.args.x ≡ c.read-head.result = ap (λ (now : HeapParts). word_at now.memory.blocks c.args.x) (sym c.parts.view_is) ∙ sym c.read-head.ensures in
    let second : word_at c.args.parts.now.memory.blocks (c.args.x + 1) ≡ c.read.result = ap (λ (now : HeapParts). word_at now.memory.blocks (c.args.x + 1)) (sym c.parts.view_is) ∙ sym c.read.ensures in
    inr (subst (FollowedTo stage.store (pinned_places stage.start) spot.placing.places spot.placing.found spot.placing.name c.args.x) second (leads_left middle c.args.x is c.if-x-eq0.false (first ∙ c.if-head.true)))

pub returns-then-is_set : goal.returns-then-is_set
returns-then-is_set c = λ stage spot middle is.
    let first : word_at c.args.parts.now.memory.blocks c.args.x ≡ c.read-head.result = ap (λ (now : HeapParts). word_at now.memory.blocks c.args.x) (sym c.parts.view_is) ∙ sym c.read-head.ensures in
    let young : is_young c.args.x ≡ true = search (rules, c.if-not-is_young.false, c.is_young.ensures) in
    inr (leads_pinned middle c.args.x is c.if-x-eq0.false young (λ e. c.if-head.false (sym first ∙ e)) (ap (λ (k : ℕ). has_flag k Pinned) first ∙ (sym c.is_set.ensures ∙ c.if-is_set.true)))

pub returns : goal.returns
returns c = λ stage spot middle is.
    let first : word_at c.args.parts.now.memory.blocks c.args.x ≡ c.read-head.result = ap (λ (now : HeapParts). word_at now.memory.blocks c.args.x) (sym c.parts.view_is) ∙ sym c.read-head.ensures in
    let young : is_young c.args.x ≡ true = search (rules, c.if-not-is_young.false, c.is_young.ensures) in
    waits_still middle c.args.x is c.if-x-eq0.false young (λ e. c.if-head.false (sym first ∙ e)) (ap (λ (k : ℕ). has_flag k Pinned) first ∙ (sym c.is_set.ensures ∙ c.if-is_set.false))
