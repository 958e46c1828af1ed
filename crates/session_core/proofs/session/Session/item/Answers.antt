use Rattle.std.proofs.Common.{sym, ap, ◌∙◌, refl}
use Rattle.text_model.specs.declared.item.Item.{Item}
use Rattle.session_core.specs.Finding.{found_by, source_by, type_by}
use Rattle.session_core.specs.Standing.{setup_of}
use Rattle.session_core.proofs.Looks.{refusal_is}
use Rattle.session_core.proofs.Items.{does_blank, setting_accepted, does_setting, does_type, leaves_item}
use Rattle.session_core.proofs.session.Session.item.Goals as goal

pub returns-in-Some : goal.returns-in-Some
returns-in-Some c = record { answers = λ p at. (refusal_is c.args.self.now c.args.heap.now p c.args.item.now at ∙ (sym c.refusal.ensures ∙ c.in-Some.is), refl, at) }

pub set-requires : goal.set-requires
set-requires c =
    (setting_accepted c.args.self.now c.args.heap.now c.args.item.now c.in-Setting.name c.in-Setting.value c.in-Setting.is (sym c.refusal.ensures ∙ c.in_default.is)).1

pub returns-in-Blank : goal.returns-in-Blank
returns-in-Blank c = record {
  answers = λ p at.
      does_blank c.args.self.now c.args.heap.now p c.args.item.now c.args.out.now.items c.in-Blank.is (sym c.refusal.ensures ∙ c.in_default.is) at;
}

pub returns-in-Ok : goal.returns-in-Ok
returns-in-Ok c = record {
  answers = λ p at.
      does_setting c.args.self.now c.set.new.self c.args.heap.now p c.args.item.now c.in-Setting.name c.in-Setting.value c.args.out.now.items
      c.in-Setting.is (sym c.refusal.ensures ∙ c.in_default.is) c.in-Ok.ensures.sets at;
}

pub returns-in-Err : goal.returns-in-Err
returns-in-Err c = record {
  answers = λ p at.
      leaves_item c.args.self.now c.set.new.self c.args.heap.now c.args.heap.now p c.args.item.now c.args.out.now.items _ refl c.in-Err.ensures.err refl at;
}

pub returns-in-Ok-add_type : goal.returns-in-Ok-add_type
returns-in-Ok-add_type c = record {
  answers = λ p at.
      does_type c.args.self.now c.add_type.new.self c.args.heap.now p c.args.item.now c.in-TypeDef.id c.in-TypeDef.info c.args.out.now.items
      c.in-TypeDef.is (sym c.refusal.ensures ∙ c.in_default.is) c.in-Ok-add_type.ensures.adds at;
}

pub returns-in-Err-add_type : goal.returns-in-Err-add_type
returns-in-Err-add_type c = record {
  answers = λ p at.
      leaves_item c.args.self.now c.add_type.new.self c.args.heap.now c.args.heap.now p c.args.item.now c.args.out.now.items _ refl c.in-Err-add_type.ensures.err refl at;
}

pub command-requires-clause-found : goal.command-requires-clause-found
command-requires-clause-found c = c.looked-looked.ensures.found ∙ ap (λ (item : Item). found_by c.args.heap.now item) c.in-Command.is

pub command-requires-clause-source : goal.command-requires-clause-source
command-requires-clause-source c = c.looked-looked.ensures.source ∙ ap (λ (item : Item). source_by c.args.heap.now item) c.in-Command.is

pub command-requires-clause-info : goal.command-requires-clause-info
command-requires-clause-info c = c.looked-looked.ensures.info ∙ ap (λ (item : Item). type_by (setup_of c.args.self.now c.args.heap.now) item) c.in-Command.is
