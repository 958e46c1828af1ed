-- The summary behind a generated script.
use Rattle.std.proofs.Common.{◌≡◌, ℕ, ◌∷◌, true, List, [], ◌++◌, Option, Some, None, refl, sym, ap, ◌∙◌, subst}
use Rattle.std.specs.Prelude.{is_none}
use Rattle.type_table.specs.declared.info.TypeInfo.{TypeInfo}
use Rattle.type_table.specs.Table.{Table}
use Rattle.text_model.specs.declared.command.Command.TheVariants.{Used, Collect}
use Rattle.text_model.specs.declared.item.Item.{Item}
use Rattle.text_model.specs.declared.line.Line.{Line}
use Rattle.text_model.specs.declared.line.Line.TheVariants.{UsedIs}
use Rattle.text_model.specs.Generated.{generated_items}
use Rattle.text_model.specs.Range.{is_above}
use Rattle.text_model.specs.Text.{line_text, IsProper}
use Rattle.object_model.specs.declared.settings.Settings.{Settings}
use Rattle.object_model.specs.Object.{kept_words}
use Rattle.store_model.specs.Store.{Store, husk_words}
use Rattle.store_model.specs.Progress.{at_start}
use Rattle.store_model.specs.Steps.{Does}
use Rattle.store_model.specs.Transcript.{Runs}
use Rattle.heap_parts.specs.Parts.{HeapParts}
use Rattle.heap_core.specs.Heap.{HeapSeen, StandsFor}
use Rattle.heap_core.specs.Commands.{AreReady, CanDo, OfParts, Performs}
use Rattle.session_core.specs.Seen.{SessionSeen}
use Rattle.session_core.specs.Standing.{HasHeap, HasStore}
use Rattle.session_core.proofs.Places.{heap_stands}
use Rattle.replay_bench.specs.declared.tally.Tally.{Tally}
use Rattle.replay_bench.specs.Bench.{Summarizes}
use Rattle.replay_bench.specs.Items.{CountsItems}
use Rattle.replay_bench.specs.Summary.{tally_of, tally_text}
use Rattle.replay_bench.proofs.RunLaws.{items_in_front, generated_end, late_behind}

-- a generated script ends with a command
late_at_end : (start n : ℕ) (tally : Tally) (session : SessionSeen) (heap : HeapSeen) (all : CountsItems (generated_items start n) tally session heap) → all.at.late ≡ true
late_at_end start n tally session heap all =
    late_behind at_start all.at (items_in_front start n) Collect all.groups
    (subst (λ (items : List Item). Runs at_start items all.groups all.at) (generated_end start n) all.runs)

-- a heap behind a command can tell its words
used_in : (types : Option (Table TypeInfo)) (settings : Settings) (heap : HeapSeen) (store : Store) → is_none types ≡ true → HasHeap types settings heap
    → HasStore types settings heap store → CanDo heap Used
unfolding is_above
used_in (Some types) settings heap store none has stands = absurd (let no : ⊥ = cc in no)
used_in None settings heap store none has stands =
    let ready : AreReady has.parts Used = record {
      standing = record { store = store; stands = subst (λ (h : HeapSeen). StandsFor h store) has.is stands };
      accepted = refl;
    } in
    subst (λ (h : HeapSeen). CanDo h Used) (sym has.is) ready

pub can_tell : (start n : ℕ) (tally : Tally) (session : SessionSeen) (heap : HeapSeen) → CountsItems (generated_items start n) tally session heap → CanDo heap Used
can_tell start n tally session heap all =
    used_in session.types session.settings heap all.at.store (sym all.stands.late ∙ late_at_end start n tally session heap all) all.stands.has_heap all.stands.store

-- the words that a heap tells are those of the store
does_used : (parts : Option HeapParts) (store later : Store) (lines : List Line) → OfParts parts (λ p. Does p.setup store Used lines later)
    → lines ≡ UsedIs (kept_words store.kept) (husk_words store.husks) ∷ []
unfolding Does
does_used None store later lines does = absurd does
does_used (Some parts) store later lines does = does.0

same_line : (a b : Line) → a ∷ [] ≡ b ∷ [] → a ≡ b
same_line a b e = cc

used_line : (heap new : HeapSeen) (store : Store) (line : Line) → StandsFor heap store → Performs heap new Used [] (line ∷ [])
    → line ≡ UsedIs (kept_words store.kept) (husk_words store.husks)
used_line heap new store line stands p =
    let done = p.does store stands in
    same_line line (UsedIs (kept_words store.kept) (husk_words store.husks)) (p.appended ∙ does_used heap.parts store done.0 p.lines done.1)

-- these words are told
pub used_told : (heap : HeapSeen) (kept husks a b : ℕ) → a ≡ kept → b ≡ husks → Performs heap heap Used [] (UsedIs a b ∷ []) → Performs heap heap Used [] (UsedIs kept husks ∷ [])
used_told heap kept husks a b is_a is_b p = rw (← is_a, ← is_b) p

pub proper_used : (kept husks : ℕ) → IsProper (UsedIs kept husks)
unfolding IsProper
proper_used kept husks = tt

-- the text is the summary
pub summarizes : (items : List Item) (tally : Tally) (session : SessionSeen) (heap : HeapSeen) (line : Line) (empty text : List ℕ)
    → CountsItems items tally session heap → Performs heap heap Used [] (line ∷ []) → empty ≡ [] → text ≡ empty ++ (tally_text tally ++ line_text line)
    → Summarizes items heap (λ summary. text ≡ summary)
summarizes items tally session heap line empty text all p none is =
    let stands = heap_stands session heap all.at all.stands in
    record {
      groups = all.groups;
      after = all.at;
      runs = all.runs;
      says = is ∙ (ap (λ (e : List ℕ). e ++ (tally_text tally ++ line_text line)) none
          ∙ (ap (λ (t : Tally). tally_text t ++ line_text line) all.counted
          ∙ ap (λ (l : Line). tally_text (tally_of all.groups) ++ line_text l) (used_line heap heap all.at.store line stands.store p)));
      stands = stands;
    }
