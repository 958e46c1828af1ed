-- What the steps of a minor collection leave is a minor collection of every store that the parts stood for.
use Rattle.std.proofs.Common.{◌≡◌, ◌+◌, List, [], ◌∷◌, ◌++◌, map, length, ap, ◌∙◌, ℕ}
use Rattle.text_model.specs.declared.line.Line.{Line}
use Rattle.text_model.specs.declared.line.Line.TheVariants.{MinorDone, Cleared, Destroyed, LinkCut}
use Rattle.text_model.specs.declared.line.LinkEnd.{LinkEnd}
use Rattle.object_model.specs.Sets.{is_in}
use Rattle.store_model.specs.Links.{link_ends}
use Rattle.heap_parts.specs.Collects.{CollectsMinor}
use Rattle.heap_parts.specs.Parts.{HeapParts}
use Rattle.minor_collect.specs.declared.work.Moving.{Moving}
use Rattle.minor_collect.specs.Calls.{Stage}
use Rattle.minor_collect.specs.Drops.{Drops}
use Rattle.minor_collect.specs.Minor.{CanCollect, Separates, Closes}
use Rattle.minor_collect.proofs.Collects.{collected}
use Rattle.minor_collect.proofs.MinorSteps.{can_give, only_gray, survived_one}
use Rattle.minor_collect.proofs.StartedCollects.{stands_whole}

module _ {old queued dropped last : HeapParts} {moving : Moving} {dead destroyed cleared : List ℕ} (can : CanCollect old) (s : Separates old queued moving dead destroyed)
    (d : Drops queued dropped dead [] cleared) (c : Closes dropped last moving.words) where
  setup-same : last.setup ≡ old.setup
  setup-same =
      let give = can_give [] can s d.passed cleared d.passes in
      let gave = d.gives give.giving give.gives give.gone in
      ap (λ (h : HeapParts). h.setup) c.is ∙ (ap (λ (h : HeapParts). h.setup) c.remakes.is ∙ (ap (λ (h : HeapParts). h.setup) d.links ∙ (ap (λ (h : HeapParts). h.setup) gave.only
      ∙ (ap (λ (h : HeapParts). h.setup) d.passes.only ∙ (ap (λ (h : HeapParts). h.setup) (only_gray can s) ∙ ap (λ (h : HeapParts). h.setup) (survived_one can s).only)))))

  -- with the lines that are appended
  pub minor_collects : {before after : List Line}
      → after ≡ before ++ MinorDone moving.objects (length dead) ∷ (map (λ (b : ℕ). Cleared b) cleared ++ (map (λ (b : ℕ). Destroyed b) destroyed
      ++ map (λ (end : LinkEnd). LinkCut end) (link_ends (λ object. is_in object dead) queued.links.structs)))
      → CollectsMinor old last before after
  minor_collects told = record {
    setup = setup-same;
    lines = MinorDone moving.objects (length dead) ∷ (map (λ (b : ℕ). Cleared b) cleared ++ (map (λ (b : ℕ). Destroyed b) destroyed
        ++ map (λ (end : LinkEnd). LinkCut end) (link_ends (λ object. is_in object dead) queued.links.structs)));
    appended = told;
    collects = λ store stands.
        let whole = stands_whole stands in
        let stage : Stage = record { start = old; store = store; stands = whole.stands } in
        let one = s.survived store whole.stands in
        collected {stage = stage} whole.young s.took.took one (s.finds stage one.after one.standing.middle) s.queues s.quiet d c.remakes c.is;
  }
