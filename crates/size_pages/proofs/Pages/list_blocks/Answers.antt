use Rattle.std.proofs.Common.{arith, ◌∙◌, ◌+◌, ◌*◌, ◌≤◌, sym, inl, inr, ap, ℕ}
use Rattle.size_pages.specs.PageWords.{word_in}
use Rattle.size_pages.proofs.ListingLaws.{listed_page, unused_lists, lists_begin, slots_of, slots_count, slot_inside, lists_slot, lists_end, listed_none}
use Rattle.object_header.specs.Words.{has_flag}
use Rattle.object_header.specs.declared.flags.Flag.TheVariants.{Free}
use Rattle.size_pages.proofs.Pages.list_blocks.Goals.{then-not-is_set+in_ok-push, else-not-is_set}
use Rattle.size_pages.proofs.Pages.list_blocks.Goals as goal

pub class-class-requires : goal.class-class-requires
class-class-requires c = let g = listed_page c.args.self.now c.args.space.now c.args.page c.requires in let wide : 64 ≤ c.args.self.now.page = g.wide in g.all c.args.page (omega arith) (omega arith)

pub first_fresh-requires : goal.first_fresh-requires
first_fresh-requires c = let g = listed_page c.args.self.now c.args.space.now c.args.page c.requires in let wide : 64 ≤ c.args.self.now.page = g.wide in g.all (c.args.page + 3) (omega arith) (omega arith)

pub returns-then-class-eq0-clause-listed : goal.returns-then-class-eq0-clause-listed
returns-then-class-eq0-clause-listed c = unused_lists c.args.self.now c.args.space.now c.args.page c.class-class.result c.requires c.class-class.ensures c.if-class-eq0.true c.args.out.now.items

pub loop-slot-init : goal.loop-slot-init
loop-slot-init c = lists_begin c.args.self.now c.args.space.now c.args.page c.class-class.result c.requires c.class-class.ensures c.if-class-eq0.false c.args.out.now.items

pub load-requires : goal.load-requires
load-requires c =
    let g = listed_page c.args.self.now c.args.space.now c.args.page c.requires in
    let s = slots_of c.args.self.now c.args.space.now c.args.page c.class-class.result c.requires c.class-class.ensures c.if-class-eq0.false in
    let count = slots_count (word_in c.args.space.now) c.args.self.now.page c.args.page c.first_fresh.result c.class-class.result s c.first_fresh.ensures c.class-class.ensures in
    let inside = slot_inside (word_in c.args.space.now) c.args.self.now.page c.args.page c.loop-slot.slot c.class-class.result s c.class-class.ensures (omega (arith, count, c.loop-slot-test.true)) in
    let high : word_in c.args.space.now (c.args.page + 3) ≤ c.args.page + c.args.self.now.page = s.fresh_high in
    g.all (c.args.page + 8 + c.loop-slot.slot * c.class-class.result) (omega arith) (omega (arith, inside, c.if-class-eq0.false))

pub loop-slot-preserved : goal.loop-slot-preserved
loop-slot-preserved c =
    let s = slots_of c.args.self.now c.args.space.now c.args.page c.class-class.result c.requires c.class-class.ensures c.if-class-eq0.false in
    let count = slots_count (word_in c.args.space.now) c.args.self.now.page c.args.page c.first_fresh.result c.class-class.result s c.first_fresh.ensures c.class-class.ensures in
    let inside = slot_inside (word_in c.args.space.now) c.args.self.now.page c.args.page c.loop-slot.slot c.class-class.result s c.class-class.ensures (omega (arith, count, c.loop-slot-test.true)) in
    let flag = c.is_set.ensures ∙ ap (λ (k : ℕ). has_flag k Free) c.load.ensures in
    lists_slot c.args.self.now c.args.space.now c.args.page c.class-class.result c.requires c.class-class.ensures c.if-class-eq0.false c.loop-slot.slot c.args.out.now.items c.loop-slot.out.items c.if-not-is_set.out.items (omega (arith, inside, c.if-class-eq0.false)) c.loop-slot.invariant
    (elim c.if-not-is_set.branch [
      | then-not-is_set+in_ok-push w ↦ inr (sym flag ∙ w.if-not-is_set.true, (cc (w.out-is, w.in_ok-push.ensures.items)))
      | else-not-is_set w ↦ inl (sym flag ∙ w.if-not-is_set.false, (cc (w.out-is)))
    ])

pub returns-clause-listed : goal.returns-clause-listed
returns-clause-listed c =
    let s = slots_of c.args.self.now c.args.space.now c.args.page c.class-class.result c.requires c.class-class.ensures c.if-class-eq0.false in
    let count = slots_count (word_in c.args.space.now) c.args.self.now.page c.args.page c.first_fresh.result c.class-class.result s c.first_fresh.ensures c.class-class.ensures in
    lists_end c.args.self.now c.args.space.now c.args.page c.class-class.result c.requires c.class-class.ensures c.if-class-eq0.false c.args.out.now.items c.loop-slot.out.items c.loop-slot.slot s (omega (arith, count, c.loop-slot-test.false, c.loop-slot.auto.slot-end)) c.loop-slot.invariant

pub returns-then-class-eq0-clause-more : goal.returns-then-class-eq0-clause-more
returns-then-class-eq0-clause-more c = (listed_none c.args.self.now c.args.space.now c.args.out.now.items).holds

pub returns-clause-more : goal.returns-clause-more
returns-clause-more c = c.loop-slot.invariant.holds
