-- One unit more is done.
use Rattle.std.proofs.Common.{◌≡◌, ℕ, List, [], ◌∷◌, ◌++◌, None, refl, sym, ap, ◌∙◌, subst, append_assoc, append-nil}
use Rattle.std.proofs.lemmas.Grind.{flat_map-append}
use Rattle.text_model.specs.declared.item.Item.{Item}
use Rattle.text_model.specs.Units.{Said}
use Rattle.store_model.specs.Progress.{Progress, at_start}
use Rattle.store_model.specs.Refusal.{refusal}
use Rattle.store_model.specs.Transcript.{Group, ItemDoes, Runs, transcript_text}
use Rattle.text_model.specs.Text.{lines_text}
use Rattle.store_model.specs.WholeUnits.{AreSaid, PassesEnd}
use Rattle.script_convert.proofs.FormLaws.{said_none, said_push, said_passed}
use Rattle.store_model.specs.EndOfRun.{IsDone, TakesUnit}

-- a run goes on by one item
pub Runs-push : (p mid after : Progress) (items : List Item) (item : Item) (groups more : List Group)
    → Runs p items groups mid → refusal mid item ≡ None → ItemDoes mid item more after → Runs p (items ++ item ∷ []) (groups ++ more) after
Runs-push p mid after [] item groups more run accepted does = (
  more,
  [],
  after,
  ap (λ g. g ++ more) run.0 ∙ sym (append-nil more),
  ap (λ q. refusal q item) (sym run.1) ∙ accepted,
  subst (λ q. ItemDoes q item more after) run.1 does,
  (refl, refl),
)
Runs-push p mid after (first ∷ items) item groups more run accepted does = (
  run.0,
  run.1 ++ more,
  run.2,
  ap (λ g. g ++ more) run.3 ∙ append_assoc run.0 run.1 more,
  run.4,
  run.5,
  Runs-push run.2 mid after items item run.1 more run.6 accepted does,
)

pub IsDone-push : (units : List Said) (unit : Said) (text : List ℕ) (mid after : Progress) (groups : List Group)
    → IsDone units text mid → TakesUnit mid unit groups after → IsDone (units ++ unit ∷ []) (text ++ transcript_text groups) after
IsDone-push units unit text mid after groups done takes = record {
  items = done.items ++ takes.item ∷ [];
  groups = done.groups ++ groups;
  read = subst (λ u. AreSaid (units ++ u ∷ []) (done.items ++ takes.item ∷ [])) (sym takes.says) (said_push units done.items takes.item done.read);
  runs = Runs-push at_start mid after done.items takes.item done.groups groups done.runs takes.accepted takes.does;
  text_is = ap (λ t. t ++ transcript_text groups) done.text_is ∙ sym (flat_map-append (λ g. lines_text g.lines) done.groups groups);
}

pub IsDone-none : IsDone [] [] at_start
IsDone-none = record { items = []; groups = []; read = said_none; runs = (refl, refl); text_is = refl }

-- the end adds nothing
pub IsDone-passed : (units passed : List Said) (text : List ℕ) (after : Progress) → IsDone units text after → PassesEnd units passed → IsDone passed text after
IsDone-passed units passed text after done passes = record {
  items = done.items;
  groups = done.groups;
  read = said_passed units passed done.items done.read passes;
  runs = done.runs;
  text_is = done.text_is;
}
