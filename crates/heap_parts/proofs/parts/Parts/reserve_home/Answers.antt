use Rattle.std.proofs.Common.{ℕ, IsTrue, sym, ap, ◌∙◌, subst, arith}
use Rattle.heap_space.specs.Places.{has, word_at}
use Rattle.heap_space.specs.Memory.{Memory}
use Rattle.object_model.specs.ObjectWords.{words_at}
use Rattle.object_view.proofs.LayoutLaws.{laid_out}
use Rattle.object_view.proofs.SpaceLaws.{lies-at}
use Rattle.old_space.specs.HasBlocks.{IsLive}
use Rattle.object_view.specs.declared.fields.ObjView.{ObjView}
use Rattle.parts_model.specs.Parts.{HeapParts, word_in}
use Rattle.parts_model.specs.Births.{TakesBlock, TakesNone, with_old_blocks}
use Rattle.heap_parts.specs.contracts.parts.Parts.{the_view}
use Rattle.heap_parts.proofs.HomeCalls.{block_live, block_there, object_there, taken_back, reserves, if_ok, if_err}
use Rattle.heap_parts.proofs.parts.Parts.reserve_home.Goals as goal

pub read-word-requires : goal.read-word-requires
read-word-requires c =
    let now : HeapParts = c.args.self.now in let p : ℕ = c.args.place in
    subst (λ (h : HeapParts). IsTrue (has h.memory.blocks p)) (sym c.self.view_is)
    (lies-at now.memory.blocks p (words_at now.setup.types (word_at now.memory.blocks) p) p c.requires.object.whole (omega arith)
    (omega (arith, (laid_out now.setup.types (word_at now.memory.blocks) p).header)))

pub give_back-requires : goal.give_back-requires
give_back-requires c =
    let now : HeapParts = c.args.self.now in
    subst (λ (h : HeapParts). IsLive h.old_blocks h.memory (c.in_ok-home.home, c.view-n.result.words)) (sym c.self-2.view_is)
    (block_live now c.take_block.new.self c.view-n.result.words c.in_ok-home.home c.in_ok-home.ensures.taken c.requires.stands)

pub write-requires : goal.write-requires
write-requires c =
    let now : HeapParts = c.args.self.now in
    subst (λ (h : HeapParts). IsTrue (has h.memory.blocks c.in_ok-home.home)) (sym c.self-2.view_is)
    (block_there now c.take_block.new.self c.view-n.result.words c.in_ok-home.home c.in_ok-home.ensures.taken c.requires.stands)

pub returns-then-is_err-clause-err : goal.returns-then-is_err-clause-err
returns-then-is_err-clause-err c =
    let now : HeapParts = c.args.self.now in let n : ℕ = c.view-n.result.words in let home : ℕ = c.in_ok-home.home in
    let middle : HeapParts = the_view c.self-2.inside in let e = c.give_back.ensures in
    let takes : TakesBlock now middle n home = subst (λ (h : HeapParts). TakesBlock now h n home) (sym c.self-2.view_is) c.in_ok-home.ensures.taken in
    let stays = if_err c.keep_home.result (sym c.is_err.ensures.value ∙ c.if-is_err.true) c.keep_home.ensures.err in
    subst (TakesNone now) (λ i. record (with_old_blocks middle c.give_back.new.self c.give_back.new.space) { shadows = sym stays i })
    (taken_back now middle n home c.give_back.new.self c.give_back.new.space takes e.given e.kept e.outside e.arena_words e.sizes.small e.sizes.page)

pub write-requires-2 : goal.write-requires-2
write-requires-2 c =
    let now : HeapParts = c.args.self.now in let n : ℕ = c.view-n.result.words in let home : ℕ = c.in_ok-home.home in
    let middle : HeapParts = the_view c.self-2.inside in
    let takes : TakesBlock now middle n home = subst (λ (h : HeapParts). TakesBlock now h n home) (sym c.self-2.view_is) c.in_ok-home.ensures.taken in
    subst (λ (m : Memory). IsTrue (has m.blocks c.args.place)) (sym c.write.ensures)
    (object_there now middle n home c.args.place c.set.result takes c.requires)

pub returns-clause-reserves : goal.returns-clause-reserves
returns-clause-reserves c =
    let now : HeapParts = c.args.self.now in let n : ℕ = c.view-n.result.words in let home : ℕ = c.in_ok-home.home in
    let middle : HeapParts = the_view c.self-2.inside in
    let takes : TakesBlock now middle n home = subst (λ (h : HeapParts). TakesBlock now h n home) (sym c.self-2.view_is) c.in_ok-home.ensures.taken in
    reserves now middle n c.args.place home c.set.result c.read-word.result c.set-2.result c.write.new.self c.write-2.new.self c.keep_home.new.self takes
    (ap (λ (v : ObjView). v.words) c.view-n.ensures.value ∙ ap (λ (h : HeapParts). words_at h.setup.types (word_in h) c.args.place) c.self.view_is)
    c.set.ensures
    (c.read-word.ensures ∙ ap (λ (h : HeapParts). word_in h c.args.place) c.self.view_is)
    c.set-2.ensures c.write.ensures c.write-2.ensures
    (if_ok c.keep_home.result (sym c.is_err.ensures.value ∙ c.if-is_err.false) c.keep_home.ensures.ok)
