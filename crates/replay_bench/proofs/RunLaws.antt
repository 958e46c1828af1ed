-- Runs of items: one more, and what stands behind a command.
use Rattle.std.proofs.Common.{◌≡◌, ℕ, true, List, [], ◌∷◌, ◌++◌, map, None, refl, sym, ap, ◌∙◌, subst, append_assoc, append-nil}
use Rattle.std.proofs.lemmas.List.{map-append}
use Rattle.text_model.specs.declared.command.Command.{Command}
use Rattle.text_model.specs.declared.command.Command.TheVariants.{Collect}
use Rattle.text_model.specs.declared.item.Item.{Item}
use Rattle.text_model.specs.declared.item.Item.TheVariants.{Command as CommandItem}
use Rattle.text_model.specs.Generated.{generated_header, filling_commands, drawn_commands, generated_items}
use Rattle.store_model.specs.Progress.{Progress}
use Rattle.store_model.specs.Refusal.{refusal}
use Rattle.store_model.specs.Transcript.{Group, ItemDoes, Runs}

-- a run goes on by one item
pub runs_more : (p mid after : Progress) (items : List Item) (item : Item) (groups more : List Group)
    → Runs p items groups mid → refusal mid item ≡ None → ItemDoes mid item more after → Runs p (items ++ item ∷ []) (groups ++ more) after
runs_more p mid after [] item groups more run accepted does = (
  more,
  [],
  after,
  ap (λ g. g ++ more) run.0 ∙ sym (append-nil more),
  ap (λ q. refusal q item) (sym run.1) ∙ accepted,
  subst (λ q. ItemDoes q item more after) run.1 does,
  (refl, refl),
)
runs_more p mid after (first ∷ items) item groups more run accepted does = (
  run.0,
  run.1 ++ more,
  run.2,
  ap (λ g. g ++ more) run.3 ∙ append_assoc run.0 run.1 more,
  run.4,
  run.5,
  runs_more run.2 mid after items item run.1 more run.6 accepted does,
)

-- behind a command a command came
pub late_behind : (p after : Progress) (items : List Item) (command : Command) (groups : List Group)
    → Runs p (items ++ CommandItem command ∷ []) groups after → after.late ≡ true
unfolding ItemDoes
late_behind p after [] command groups run = ap (λ (q : Progress). q.late) (run.6.1) ∙ ap (λ (q : Progress). q.late) run.5.leaves
late_behind p after (first ∷ items) command groups run = late_behind run.2 after items command run.1 run.6

as_item : Command → Item
as_item command = CommandItem command

-- all items of a generated script but the last
abbrev pub items_in_front : ℕ → ℕ → List Item
items_in_front start n = generated_header ++ map CommandItem (filling_commands ++ drawn_commands start n)

pub generated_end : (start n : ℕ) → generated_items start n ≡ items_in_front start n ++ CommandItem Collect ∷ []
generated_end start n =
    ap (λ (commands : List Command). generated_header ++ map CommandItem commands) (sym (append_assoc filling_commands (drawn_commands start n) (Collect ∷ [])))
    ∙ ap (λ (items : List Item). generated_header ++ items) (map-append CommandItem (filling_commands ++ drawn_commands start n) (Collect ∷ []))
    ∙ sym (append_assoc generated_header (map CommandItem (filling_commands ++ drawn_commands start n)) (CommandItem Collect ∷ []))
