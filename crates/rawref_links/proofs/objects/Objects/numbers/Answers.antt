use Rattle.std.proofs.Common.{Some, None, sym, ap, ◌∙◌}
use Rattle.rawref_links.proofs.Tabled.{links_at-map, none-at}
use Rattle.rawref_links.proofs.objects.Objects.numbers.Goals as goal

pub returns-in-Some : goal.returns-in-Some
returns-in-Some c =
    c.as_slice.ensures.value ∙ ap (λ l. l.numbers) (c.links.view_is
    ∙ links_at-map c.self.inside.links.entries c.args.self.now c.self.view_is c.args.place (Some c.in-Some.links.now) (sym c.in-Some.ensures.value))

pub returns-in-None : goal.returns-in-None
returns-in-None c =
    ap (λ l. l.numbers) (links_at-map c.self.inside.links.entries c.args.self.now c.self.view_is c.args.place None (sym c.in-None.ensures.value))

pub returns-then-is_empty : goal.returns-then-is_empty
returns-then-is_empty c = none-at c.self.inside.links.entries c.args.self.now c.args.place c.self.view_is (c.is_empty.ensures.0 c.if-is_empty.true)
