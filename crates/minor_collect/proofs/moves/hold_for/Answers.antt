use Rattle.std.proofs.Common.{rules, ◌≡◌, ℕ, true, false, IsTrue, [], refl, sym, ap, ◌∙◌, subst}
use Rattle.heap_space.specs.Places.{has, with_word}
use Rattle.heap_space.specs.Memory.{Memory}
use Rattle.object_header.specs.Words.{without_flag}
use Rattle.object_header.specs.declared.flags.Flag.TheVariants.{Track}
use Rattle.object_model.specs.Sets.{is_in}
use Rattle.remember_cards.specs.Remembering.{Remembering, remembered_by, kept_place}
use Rattle.remember_cards.specs.Remembered.{RemembersMore}
use Rattle.heap_parts.specs.Parts.{HeapParts, word_in}
use Rattle.heap_parts.specs.Places.{old_places}
use Rattle.heap_parts.specs.contracts.parts.Parts.{the_view}
use Rattle.minor_collect.specs.Calls.{Stage, Spot, Middle, HeldFor, leads_young}
use Rattle.minor_collect.proofs.HoldLaws.{held_for, held_not, can_write}
use Rattle.minor_collect.proofs.moves.hold_for.Goals as goal

pub read-head-requires : goal.read-head-requires
read-head-requires c = subst (λ (now : HeapParts). IsTrue (has now.memory.blocks c.args.p)) (sym c.parts.view_is) (can_write c.args.parts.now c.args.p c.requires)

pub write-requires : goal.write-requires
write-requires c = subst (λ (now : HeapParts). IsTrue (has now.memory.blocks c.args.p)) (sym c.parts.view_is) (can_write c.args.parts.now c.args.p c.requires)

pub returns-then-not-leads_young : goal.returns-then-not-leads_young
returns-then-not-leads_young c = λ stage spot middle there.
    let none : leads_young c.args.y ≡ false = search (rules, c.if-not-leads_young.true, c.leads_young.ensures) in held_not middle c.args.p c.args.y none

pub returns : goal.returns
returns c =
    let before : HeapParts = the_view c.parts.inside in
    let m : Remembering = c.parts.inside.remember in
    let young : leads_young c.args.y ≡ true = search (rules, c.if-not-leads_young.false, c.leads_young.ensures) in
    subst (λ (now : HeapParts). (stage : Stage) (spot : Spot) → Middle stage now spot [] → IsTrue (is_in c.args.p (old_places spot.placing.places))
    → HeldFor stage now (record before { memory = c.write.new.self; remembered = remembered_by c.keep_for_pinned.new.self }) spot c.args.p c.args.y) c.parts.view_is
    (λ stage spot middle there.
    let more : RemembersMore (remembered_by m) (remembered_by (kept_place m c.args.p)) c.args.p =
    subst (λ (k : Remembering). RemembersMore (remembered_by m) (remembered_by k) c.args.p) c.in_ok-keep_for_pinned.ensures.kept c.in_ok-keep_for_pinned.ensures.more in
    let head : c.clear.result ≡ without_flag (word_in before c.args.p) Track = c.clear.ensures ∙ ap (λ (x : ℕ). without_flag x Track) c.read-head.ensures in
    let memory : c.write.new.self ≡ record before.memory { blocks = with_word before.memory.blocks c.args.p (without_flag (word_in before c.args.p) Track) } =
    c.write.ensures ∙ ap (λ (x : ℕ). record before.memory { blocks = with_word before.memory.blocks c.args.p x }) head in
    subst (λ (k : Remembering). HeldFor stage before (record before { memory = c.write.new.self; remembered = remembered_by k }) spot c.args.p c.args.y) (sym c.in_ok-keep_for_pinned.ensures.kept)
    (subst (λ (mem : Memory). HeldFor stage before (record before { memory = mem; remembered = remembered_by (kept_place m c.args.p) }) spot c.args.p c.args.y) (sym memory)
    (held_for m middle c.args.p c.args.y there refl young more)))
