use Rattle.std.proofs.Common.{arith, ◌≢◌, ◌∙◌, ◌+◌, ◌*◌, ◌≤◌, sym, inl, inr, ap, ℕ}
use Rattle.size_pages.specs.PageWords.{word_in}
use Rattle.object_header.specs.Words.{has_flag, survives_sweep}
use Rattle.object_header.specs.declared.flags.Flag.TheVariants.{Free}
use Rattle.size_pages.proofs.GatherLaws.{swept_page, births_none, births_slot, births_end, slot_in, slot_birth, slot_word, slots_end}
use Rattle.size_pages.proofs.Pages.gather_births.Goals.{then-not-is_set+then-not-survives_sweep+in_ok-push, else-not-is_set, else-not-is_set-via-then-not-is_set+else-not-survives_sweep, else-not-is_set-via-else-not-is_set}
use Rattle.size_pages.proofs.Pages.gather_births.Goals as goal

pub class-class-requires : goal.class-class-requires
class-class-requires c = let g = swept_page c.args.self.now c.args.space.now c.args.page c.requires in let wide : 64 ≤ c.args.self.now.page = g.wide in g.all c.args.page (omega arith) (omega arith)

pub slots-count-requires-clause-header : goal.slots-count-requires-clause-header
slots-count-requires-clause-header c b low high = let g = swept_page c.args.self.now c.args.space.now c.args.page c.requires in let wide : 64 ≤ c.args.self.now.page = g.wide in g.all b low (omega arith)

pub slots-count-requires-clause-class : goal.slots-count-requires-clause-class
slots-count-requires-clause-class c = let g = swept_page c.args.self.now c.args.space.now c.args.page c.requires in let two : 2 ≤ word_in c.args.space.now c.args.page = g.slots.words in omega (arith, c.class-class.ensures)

pub slots-count-requires-clause-fresh : goal.slots-count-requires-clause-fresh
slots-count-requires-clause-fresh c = (swept_page c.args.self.now c.args.space.now c.args.page c.requires).slots.fresh_low

pub loop-slot-init : goal.loop-slot-init
loop-slot-init c =
    let g = swept_page c.args.self.now c.args.space.now c.args.page c.requires in
    let some : c.class-class.result ≢ 0 = λ z. g.used (sym c.class-class.ensures ∙ z) in
    births_none c.args.self.now c.args.space.now c.args.page c.class-class.result g.can c.class-class.ensures some c.args.freed.now.items

pub load-word-requires : goal.load-word-requires
load-word-requires c = slot_word c.args.self.now c.args.space.now c.args.page c.class-class.result c.slots-count.result c.requires c.class-class.ensures c.slots-count.ensures c.loop-slot.slot c.loop-slot-test.true

pub load-requires : goal.load-requires
load-requires c = slot_birth c.args.self.now c.args.space.now c.args.page c.class-class.result c.slots-count.result c.requires c.class-class.ensures c.slots-count.ensures c.loop-slot.slot c.loop-slot-test.true

pub loop-slot-preserved : goal.loop-slot-preserved
loop-slot-preserved c =
    let g = swept_page c.args.self.now c.args.space.now c.args.page c.requires in
    let some : c.class-class.result ≢ 0 = λ z. g.used (sym c.class-class.ensures ∙ z) in
    let flag = c.is_set.ensures ∙ ap (λ (k : ℕ). has_flag k Free) c.load-word.ensures in
    births_slot c.args.self.now c.args.space.now c.args.page c.class-class.result g.can c.class-class.ensures some c.loop-slot.slot c.args.freed.now.items c.loop-slot.freed.items c.if-not-is_set.freed.items (slot_in c.args.self.now c.args.space.now c.args.page c.class-class.result c.slots-count.result c.requires c.class-class.ensures c.slots-count.ensures c.loop-slot.slot c.loop-slot-test.true) c.loop-slot.invariant
    (elim c.if-not-is_set.branch [
      | then-not-is_set+then-not-survives_sweep+in_ok-push w ↦ inr (inr (sym flag ∙ w.if-not-is_set.true, ap survives_sweep (sym c.load-word.ensures) ∙ sym w.survives_sweep.ensures ∙ w.if-not-survives_sweep.true, (cc (w.freed-is, w.in_ok-push.ensures.items, w.load.ensures))))
      | else-not-is_set w ↦ elim w.else-not-is_set.branch [
        | else-not-is_set-via-then-not-is_set+else-not-survives_sweep v ↦ inr (inl (sym flag ∙ v.if-not-is_set.true, ap survives_sweep (sym c.load-word.ensures) ∙ sym v.survives_sweep.ensures ∙ v.if-not-survives_sweep.false, (cc (w.freed-is))))
        | else-not-is_set-via-else-not-is_set v ↦ inl (sym flag ∙ v.if-not-is_set.false, (cc (w.freed-is)))
      ]
    ])

pub returns-clause-gathered : goal.returns-clause-gathered
returns-clause-gathered c =
    let g = swept_page c.args.self.now c.args.space.now c.args.page c.requires in
    let some : c.class-class.result ≢ 0 = λ z. g.used (sym c.class-class.ensures ∙ z) in
    births_end c.args.self.now c.args.space.now c.args.page c.class-class.result g.can c.class-class.ensures some c.args.freed.now.items c.loop-slot.freed.items (c.args.page + 8 + c.loop-slot.slot * c.class-class.result)
    (slots_end c.args.self.now c.args.space.now c.args.page c.class-class.result c.slots-count.result c.requires c.class-class.ensures c.slots-count.ensures c.loop-slot.slot (omega (arith, c.loop-slot-test.false, c.loop-slot.auto.slot-end))) c.loop-slot.invariant
