use Rattle.std.proofs.Common.{Some, None, sym, ap, ◌∙◌}
use Rattle.rawref_links.proofs.Tabled.{links_at-map}
use Rattle.rawref_links.proofs.objects.Objects.p_link.Goals as goal

pub returns-in-Some : goal.returns-in-Some
returns-in-Some c =
    ap (λ l. l.p_link) (c.links.view_is
    ∙ links_at-map c.self.inside.links.entries c.args.self.now c.self.view_is c.args.place (Some c.in-Some.links.now) (sym c.in-Some.ensures.value))

pub returns-in-None : goal.returns-in-None
returns-in-None c =
    ap (λ l. l.p_link) (links_at-map c.self.inside.links.entries c.args.self.now c.self.view_is c.args.place None (sym c.in-None.ensures.value))
