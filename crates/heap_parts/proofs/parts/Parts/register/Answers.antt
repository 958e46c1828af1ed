use Rattle.std.proofs.Common.{◌≡◌, ℕ, ◌+◌, IsFalse, sym, ap, ◌∙◌, subst}
use Rattle.heap_space.specs.Places.{word_at}
use Rattle.object_model.specs.Sets.{is_in}
use Rattle.parts_model.specs.NamedFinals.{births_told, final_births}
use Rattle.parts_model.specs.Parts.{HeapParts, word_in}
use Rattle.parts_model.specs.Registers.{is_final}
use Rattle.heap_parts.specs.contracts.parts.Parts.{the_view}
use Rattle.heap_parts.proofs.FinalLaws.{births_listed, registered_ok}
use Rattle.heap_parts.proofs.parts.Parts.register.Goals as goal

birth_inside : (now seen : HeapParts) (place birth : ℕ) → seen ≡ now → birth ≡ word_in now (place + 1) → birth ≡ word_in seen (place + 1)
birth_inside now seen place birth is read = subst (λ (h : HeapParts). birth ≡ word_in h (place + 1)) (sym is) read

pub register-requires-clause-unlisted : goal.register-requires-clause-unlisted
register-requires-clause-unlisted c =
    let finals = c.self.inside.finals in
    let birth_is : c.birth_at-birth.result ≡ word_at c.self.inside.space.blocks (c.args.place + 1) = birth_inside c.args.self.now (the_view c.self.inside) c.args.place c.birth_at-birth.result c.self.view_is c.birth_at-birth.ensures in
    sym (births_listed finals c.birth_at-birth.result)
    ∙ (ap (λ (birth : ℕ). is_in birth (final_births (births_told finals))) birth_is
    ∙ subst (λ (h : HeapParts). IsFalse (is_final h c.args.place)) (sym c.self.view_is) c.requires.unlisted)

pub returns-clause-ok : goal.returns-clause-ok
returns-clause-ok c =
    registered_ok (the_view c.self.inside) c.args.self.now c.self.inside.finals c.register.new.self
    (record { place = c.args.place; birth = c.birth_at-birth.result; queue = c.args.queue }) c.register.result c.self.view_is
    (birth_inside c.args.self.now (the_view c.self.inside) c.args.place c.birth_at-birth.result c.self.view_is c.birth_at-birth.ensures) c.register.ensures.ok
