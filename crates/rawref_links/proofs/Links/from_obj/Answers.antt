use Rattle.std.proofs.Common.{◌∙◌, ap}
use Rattle.store_model.specs.Structs.{p_link_of}
use Rattle.rawref_links.proofs.TieLaws.{p_link-AreTied}
use Rattle.rawref_links.proofs.Links.from_obj.Goals as goal

pub returns : goal.returns
returns c =
    c.p_link.ensures ∙ p_link-AreTied c.self.inside.structures c.self.inside.objects c.self.inside.dead.items c.args.a c.self.invariant
    ∙ ap (λ s. p_link_of s.structs c.args.a) c.self.view_is
