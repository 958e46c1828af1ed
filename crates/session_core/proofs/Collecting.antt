-- How commands end that may collect.
use Rattle.std.proofs.Common.{◌≡◌, ◌≢◌, ℕ, Bool, true, false, List, [], ◌∷◌, ◌++◌, None, Result, Ok, Err, OnOk, OnErr, refl, sym, ap, ◌∙◌, subst, inl, inr, append-nil}
use Rattle.std.specs.Prelude.{IfErr, IsTrue, ◌⊎◌}
use Rattle.text_model.specs.declared.command.Command.{Command}
use Rattle.text_model.specs.declared.item.Item.TheVariants.{Command as CommandItem}
use Rattle.text_model.specs.declared.line.Line.{Line}
use Rattle.text_model.specs.declared.line.Phase.{Phase}
use Rattle.text_model.specs.declared.line.Phase.TheVariants.{Scanning, Marking, Sweeping, Finalizing}
use Rattle.object_model.specs.declared.settings.Settings.{Settings}
use Rattle.object_model.specs.Setup.{Setup}
use Rattle.store_model.specs.Store.{Store}
use Rattle.store_model.specs.Collections.{When, Block, Cycle, Last, More, TwoCycles, CollectFrom, Collect, MakesRoom, is_step_due, needs_block, exceeds_limit}
use Rattle.store_model.specs.Progress.{Progress, after_command}
use Rattle.store_model.specs.Transcript.{ItemExceeds}
use Rattle.collect_laws.specs.Room.{IsCommandRefused}
use Rattle.collect_laws.proofs.CommandLaws.{command_exceeds}
use Rattle.heap_core.specs.declared.fault.HeapFault.{HeapFault}
use Rattle.heap_core.specs.declared.fault.HeapFault.TheVariants.{Spent, OutOfMemory, HeapLimit}
use Rattle.heap_core.specs.Heap.{HeapSeen, spent_heap}
use Rattle.heap_core.specs.Commands.{OfParts, Performs, Keeps, fault_of}
use Rattle.heap_core.specs.HeapBirths.{LeavesBirth, AnswersBirth}
use Rattle.session_core.specs.Blocks.{LeadsByBlocks, NoBlock, BlockMore, LeavesStore, LeavesOff, makes_blocks}
use Rattle.session_core.specs.Ends.{LeavesHeap, EndsCommand}
use Rattle.session_core.specs.Seen.{SessionSeen}
use Rattle.session_core.specs.Standing.{StandsAt, Begins, KeepsFront, LeavesItem, Answers, fault_told, refusal_of}
use Rattle.session_core.proofs.Items.{setup_same, stands_behind, leaves_none}
use Rattle.session_core.proofs.Looks.{refusal_is}

-- a spent heap is told as one
spent_is : (new : HeapSeen) → new ≡ spent_heap → IsTrue new.is_spent
spent_is new is = subst (λ (h : HeapSeen). IsTrue h.is_spent) (sym is) refl

-- a birth
pub birth_ends : (old new : HeapSeen) (command same : Command) (before after : List Line) (result : Result (Unit {0}) HeapFault) → command ≡ same → makes_blocks same ≡ true
    → old.is_spent ≡ false → AnswersBirth same old new before after result → EndsCommand command old new before after result
birth_ends old new command same before after (Ok done) is makes alive b = subst (λ (k : Command). Performs old new k before after) (sym is) b
birth_ends old new command same before after (Err Spent) is makes alive b = let no : ⊥ = (let e = b.0 in cc) in no
birth_ends old new command same before after (Err OutOfMemory) is makes alive b = (
  b.1,
  elim b.2 [
    | inl becomes ↦ inl (spent_is new becomes.spent)
    | inr leaves ↦ inr (inr (ap makes_blocks is ∙ makes, leaves))
  ],
)
birth_ends old new command same before after (Err (HeapLimit counted request limit)) is makes alive b =
    subst (λ (k : Command). EndsCommand k old new before after (Err (HeapLimit counted request limit))) (sym is) b.1

-- a collection
pub collection_ends : (old new : HeapSeen) (command same : Command) (before after : List Line) (result : Result (Unit {0}) HeapFault) → command ≡ same → old.is_spent ≡ false
    → OnOk result (Performs old new same before after) → OnErr result (new ≡ spent_heap) → OnErr result (after ≡ before) → IfErr result (λ fault. fault ≡ fault_of old.is_spent)
    → EndsCommand command old new before after result
collection_ends old new command same before after (Ok done) is alive performs err err_out cause = subst (λ (k : Command). Performs old new k before after) (sym is) performs
collection_ends old new command same before after (Err fault) is alive performs err err_out cause =
    subst (λ (f : HeapFault). EndsCommand command old new before after (Err f)) (sym (cause ∙ ap fault_of alive)) (([], err_out ∙ sym (append-nil before)), inl (spent_is new err))

-- a heap that is not spent does not fail so
pub fails_alive : (old new : HeapSeen) (command : Command) (before after : List Line) (fault : HeapFault) → EndsCommand command old new before after (Err fault) → fault ≢ Spent
fails_alive old new command before after Spent ends = absurd ends
fails_alive old new command before after OutOfMemory ends = λ is. let no : ⊥ = cc in no
fails_alive old new command before after (HeapLimit counted request limit) ends = λ is. let no : ⊥ = cc in no

-- blocks one after the other
leads_on : {settings : Settings} {old mid new : Store} → LeadsByBlocks settings old mid → LeadsByBlocks settings mid new → LeadsByBlocks settings old new
leads_on NoBlock more = more
leads_on (BlockMore block first) more = BlockMore block (leads_on first more)

cycle_leads : (settings : Settings) (old : Store) (lines : List Line) (new : Store) → Cycle settings old lines new → LeadsByBlocks settings old new
cycle_leads settings old lines new (Last block ends) = BlockMore block NoBlock
cycle_leads settings old _ new (More {mid = mid} {lines = first} {rest = rest} block on cycle) = BlockMore block (cycle_leads settings mid rest new cycle)

two_lead : (settings : Settings) (old : Store) (lines : List Line) (new : Store) → TwoCycles settings old lines new → LeadsByBlocks settings old new
two_lead settings old lines new c = leads_on (cycle_leads settings old c.first c.mid c.ends) (cycle_leads settings c.mid c.second new c.again)

collect_leads : (phase : Phase) (settings : Settings) (old : Store) (lines : List Line) (new : Store) → CollectFrom phase settings old lines new → LeadsByBlocks settings old new
collect_leads Scanning settings old lines new c = cycle_leads settings old lines new c
collect_leads Marking settings old lines new c = two_lead settings old lines new c
collect_leads Sweeping settings old lines new c = two_lead settings old lines new c
collect_leads Finalizing settings old lines new c = two_lead settings old lines new c

when_leads : (b : Bool) (settings : Settings) (Event : Store → List Line → Store → Type 0) (old : Store) (lines : List Line) (new : Store)
    → (Event old lines new → LeadsByBlocks settings old new) → When b Event old lines new → LeadsByBlocks settings old new
when_leads true settings Event old lines new event w = event w
when_leads false settings Event old lines new event w = subst (LeadsByBlocks settings old) (sym w.1) NoBlock

-- what comes before a birth
room_leads : (settings : Settings) (old : Store) (words : ℕ) (lines : List Line) (new : Store) → MakesRoom settings old words lines new → LeadsByBlocks settings old new
room_leads settings old words lines new m =
    leads_on (when_leads (needs_block settings old words) settings (Block is_step_due settings) old m.first m.mid (λ block. BlockMore block NoBlock) m.block)
    (when_leads (exceeds_limit settings m.mid words) settings (Collect settings) m.mid m.second new (collect_leads m.mid.phase settings m.mid m.second new) m.collect)

module _ (session mid : SessionSeen) (heap started new : HeapSeen) (at : Progress) (command : Command) (b : Begins session mid heap started) (stands : StandsAt session heap at) where
  -- the settings and types where the script stands
  setup_is : b.has_heap.parts.setup ≡ at.setup
  setup_is = setup_same session mid heap started b ∙ sym stands.setup

  leaves_kept : Keeps started new → LeavesItem mid new at (CommandItem command)
  unfolding LeavesOff
  leaves_kept keeps = record {
    next = after_command at at.store;
    leaves = inr (at.store, leaves_none (makes_blocks command) at.setup.settings at.store, refl);
    stands = stands_behind session mid heap started new at at.store b keeps.setup keeps.same_spent (keeps.stands at.store (b.stores at.store stands.store)) stands;
  }

  leaves_led : makes_blocks command ≡ true → LeavesBirth started new → LeavesItem mid new at (CommandItem command)
  unfolding LeavesOff
  leaves_led makes led =
      let step = led.leaves at.store (b.stores at.store stands.store) in
      let made : MakesRoom b.has_heap.parts.setup.settings at.store led.words led.lines step.0 =
      subst (λ (h : HeapSeen). OfParts h.parts (λ parts. MakesRoom parts.setup.settings at.store led.words led.lines step.0)) b.has_heap.is step.1 in
      let leads : LeadsByBlocks at.setup.settings at.store step.0 =
      room_leads at.setup.settings at.store led.words led.lines step.0 (subst (λ (s : Setup). MakesRoom s.settings at.store led.words led.lines step.0) setup_is made) in
      record {
        next = after_command at step.0;
        leaves = inr (step.0, subst (λ (makes : Bool). LeavesStore makes at.setup.settings at.store step.0) (sym makes) leads, refl);
        stands = stands_behind session mid heap started new at step.0 b led.setup led.same_spent step.2 stands;
      }

  -- What is answered to a command that fails.
  pub answers_fault : (before after : List Line) (fault : HeapFault) → refusal_of session heap (CommandItem command) ≡ None → EndsCommand command started new before after (Err fault)
      → Answers at (CommandItem command) mid new before after (Err (fault_told fault))
  unfolding ItemExceeds
  answers_fault before after Spent accepted ends = absurd ends
  answers_fault before after OutOfMemory accepted ends = (
    ends.0,
    elim ends.1 [
      | inl spent ↦ inl spent
      | inr (inl keeps) ↦ inr (leaves_kept keeps)
      | inr (inr led) ↦ inr (leaves_led led.0 led.1)
    ],
  )
  answers_fault before after (HeapLimit counted request limit) accepted ends =
      let step = ends.exceeds at.store (b.stores at.store stands.store) in
      let refused : IsCommandRefused command counted request limit b.has_heap.parts.setup at.store ends.lines step.0 =
      subst (λ (h : HeapSeen). OfParts h.parts (λ parts. IsCommandRefused command counted request limit parts.setup at.store ends.lines step.0)) b.has_heap.is step.1 in
      record {
        groups = record { command = command; lines = ends.lines } ∷ [];
        next = after_command at step.0;
        accepted = refusal_is session heap at (CommandItem command) stands ∙ accepted;
        exceeds = command_exceeds at command counted request limit ends.lines step.0
            (subst (λ (s : Setup). IsCommandRefused command counted request limit s at.store ends.lines step.0) setup_is refused);
        lines = ends.appended ∙ ap (λ (more : List Line). before ++ more) (sym (append-nil ends.lines));
        stands = stands_behind session mid heap started new at step.0 b ends.setup ends.same_spent step.2 stands;
      }
