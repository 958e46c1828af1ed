use Rattle.std.proofs.Common.{◌≡◌, ◌++◌, List, ℕ, ap, sym, ◌∙◌, subst}
use Rattle.object_model.specs.Sets.{is_in}
use Rattle.store_model.specs.Links.{cut_links, link_ends}
use Rattle.heap_parts.specs.Parts.{HeapParts}
use Rattle.minor_collect.specs.Gives.{Giving, GivesSome, AreGone, CanGiveAll, GaveAll}
use Rattle.minor_collect.proofs.collection.drop_vanished.Goals as goal

pub give_homes_back-requires : goal.give_homes_back-requires
give_homes_back-requires c = subst (CanGiveAll c.pass_weaks.new.parts) (sym c.deref.ensures.value) (c.requires.gives c.pass_weaks.new.parts c.pass_weaks.new.cleared.items c.in_ok-pass_weaks.ensures)

pub returns-clause-drops : goal.returns-clause-drops
returns-clause-drops c = record {
  passed = c.pass_weaks.new.parts;
  gave = c.give_homes_back.new.parts;
  passes = c.in_ok-pass_weaks.ensures;
  gives = subst (λ (dead : List ℕ). (giving : Giving) → GivesSome giving c.pass_weaks.new.parts → AreGone giving dead → GaveAll giving c.pass_weaks.new.parts c.give_homes_back.new.parts dead) c.deref.ensures.value c.give_homes_back.ensures;
  links = subst (λ (dead : List ℕ). c.end_links.new.parts ≡ record c.give_homes_back.new.parts { links = cut_links (λ (object : ℕ). is_in object dead) c.give_homes_back.new.parts.links }) c.deref-2.ensures.value c.in_ok-end_links.ensures.cut;
}

pub returns-clause-ends : goal.returns-clause-ends
returns-clause-ends c =
    let passes = c.in_ok-pass_weaks.ensures in
    let give = c.requires.gives c.pass_weaks.new.parts c.pass_weaks.new.cleared.items passes in
    let gives = subst (λ (dead : List ℕ). (giving : Giving) → GivesSome giving c.pass_weaks.new.parts → AreGone giving dead → GaveAll giving c.pass_weaks.new.parts c.give_homes_back.new.parts dead) c.deref.ensures.value c.give_homes_back.ensures in
    let gave = gives give.giving give.gives give.gone in
    subst (λ (dead : List ℕ). c.end_links.new.ends.items ≡ c.args.lists.now.ends.items ++ link_ends (λ (object : ℕ). is_in object dead) c.give_homes_back.new.parts.links.structs) c.deref-2.ensures.value c.in_ok-end_links.ensures.ends
    ∙ ap (λ (h : HeapParts). c.args.lists.now.ends.items ++ link_ends (λ (object : ℕ). is_in object c.args.lists.now.dead.items) h.links.structs) (gave.only ∙ ap (λ (h : HeapParts). record h { memory = c.give_homes_back.new.parts.memory; shadows = c.give_homes_back.new.parts.shadows; old_blocks = c.give_homes_back.new.parts.old_blocks }) passes.only)
