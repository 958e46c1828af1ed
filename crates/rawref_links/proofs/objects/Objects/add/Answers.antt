use Rattle.std.proofs.Common.{◌≡◌, nat_eq, Some, None, IsSome, is_some, sym, ap, ◌∙◌}
use Rattle.std.specs.Map.{lookup}
use Rattle.std.proofs.lemmas.Result.{on_ok_weaker, on_err_weaker}
use Rattle.rawref_links.specs.Objects.{tabled, with_link}
use Rattle.rawref_links.proofs.Tabled.{linked_more, written_again}
use Rattle.rawref_links.proofs.objects.Objects.add.Goals as goal

there : (c : goal.After-self-in-Some-1) → IsSome (lookup (nat_eq c.args.place) c.self.inside.links.entries)
there c = ap is_some (sym c.in-Some.ensures.value)

pub returns-in-Some-clause-ok : goal.returns-in-Some-clause-ok
returns-in-Some-clause-ok c =
    on_ok_weaker c.push.result
    (λ pushed. linked_more c.self.inside.links.entries (c.get_mut.follows.lender c.push.new.self).entries c.args.self.now c.self.view_is
    c.args.place c.args.number c.args.p (Some c.in-Some.links.now) c.push.new.self (sym c.in-Some.ensures.value) pushed
    ((c.get_mut.follows.holds c.push.new.self).3 (there c)).0)
    c.push.ensures.ok

pub returns-in-Some-clause-err : goal.returns-in-Some-clause-err
returns-in-Some-clause-err c =
    on_err_weaker c.push.result
    (λ same. written_again c.self.inside.links.entries (c.get_mut.follows.lender c.push.new.self).entries c.args.self.now c.self.view_is
    c.args.place c.push.new.self (sym c.in-Some.ensures.value ∙ ap Some (sym same))
    ((c.get_mut.follows.holds c.push.new.self).3 (there c)).0)
    c.push.ensures.err

-- where nothing is found the map is as it was
as_before : (c : goal.Joined-branch-3) → c.get_mut.follows.lender-at-none.entries ≡ c.self.inside.links.entries
as_before c = ap (λ m. m.entries) c.get_mut.follows.holds-at-none

pub returns-clause-ok : goal.returns-clause-ok
returns-clause-ok c =
    linked_more c.get_mut.follows.lender-at-none.entries c.insert.new.self.entries c.args.self.now (ap tabled (as_before c) ∙ c.self.view_is)
    c.args.place c.args.number c.args.p None c.push-2.new.self
    (ap (lookup (nat_eq c.args.place)) (as_before c) ∙ sym c.in_default.ensures.value)
    (c.in_ok-push.ensures.ok ∙ ap (λ l. with_link l c.args.number c.args.p) c.new-links.ensures)
    c.in_ok-insert.ensures.updates.0
