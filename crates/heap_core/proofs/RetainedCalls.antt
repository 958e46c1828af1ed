-- What the calls that collect and those of births tell of what is retained.
use Rattle.std.proofs.Common.{ℕ, Bool, true, false, List, Option, Some, None, Result, Ok, Err, OnOk, refl}
use Rattle.text_model.specs.declared.command.Command.{Command}
use Rattle.text_model.specs.declared.command.Command.TheVariants.{Collect, NewFixed, NewArray, NewWeak}
use Rattle.text_model.specs.declared.line.Line.{Line}
use Rattle.object_model.specs.Setup.{type_at}
use Rattle.store_model.specs.Store.{Store}
use Rattle.store_model.specs.Steps.{Does}
use Rattle.store_model.specs.Births.{fixed_request, array_request, weak_request}
use Rattle.heap_parts.specs.Parts.{HeapParts}
use Rattle.heap_parts.specs.StandsFor.{PartsStandFor}
use Rattle.collect_laws.specs.Events.{EventOf}
use Rattle.collect_laws.specs.Room.{IsCommandRefused}
use Rattle.collect_laws.specs.Retained.{BirthRetained, RefusalRetained}
use Rattle.collect_laws.proofs.WholeLaws.{collects_whole, birth_retained, refusal_retained}
use Rattle.heap_core.specs.declared.fault.HeapFault.{HeapFault}
use Rattle.heap_core.specs.declared.fault.HeapFault.TheVariants.{Spent, OutOfMemory, HeapLimit}
use Rattle.heap_core.specs.Heap.{HeapSeen, StandsForIf}
use Rattle.heap_core.specs.Commands.{OfParts, Performs}
use Rattle.heap_core.specs.HeapBirths.{Exceeds, AnswersBirth}
use Rattle.heap_core.specs.Retained.{HeapUndergoes, CollectingWhole, BirthRetains}

-- an event of each store that parts stand for, which is another event too
abbrev Implies : EventOf → EventOf → Type 0
Implies Event Other = (heap : HeapParts) (store : Store) (lines : List Line) (later : Store) → PartsStandFor heap store → Event heap.setup store lines later → Other heap.setup store lines later

implied : (Event Other : EventOf) → Implies Event Other → (spent : Bool) (parts : Option HeapParts) (store : Store) (lines : List Line) (later : Store) → StandsForIf spent parts store
    → OfParts parts (λ found. Event found.setup store lines later) → OfParts parts (λ found. Other found.setup store lines later)
implied Event Other other true parts store lines later s e = absurd s
implied Event Other other false None store lines later s e = absurd e
implied Event Other other false (Some parts) store lines later s e = other parts store lines later s e

-- the command that a heap performs
abbrev Doing : Command → EventOf
Doing command setup store lines later = Does setup store command lines later

performs_as : {old new : HeapSeen} {before after : List Line} (command : Command) (Other : EventOf) → Implies (Doing command) Other → Performs old new command before after
    → HeapUndergoes Other old new before after
performs_as {old = old} command Other other p = record {
  lines = p.lines;
  appended = p.appended;
  leads = λ store s. let l = p.does store s in (l.0, implied (Doing command) Other other old.is_spent old.parts store p.lines l.0 s l.1, l.2);
}

-- What the call of a whole collection leaves.
collect_implies : Implies (Doing Collect) CollectingWhole
unfolding Does
collect_implies heap store lines later s d = collects_whole s lines later d

pub leaves_retained : (old new : HeapSeen) (before after : List Line) (result : Result (Unit {0}) HeapFault) → OnOk result (Performs old new Collect before after)
    → OnOk result (HeapUndergoes CollectingWhole old new before after)
leaves_retained old new before after (Ok done) p = performs_as Collect CollectingWhole collect_implies p
leaves_retained old new before after (Err fault) p = tt

-- What the call of a birth leaves, where its command is one.
module _ (command : Command) (births : Implies (Doing command) (BirthRetained command)) where
  refused : {old new : HeapSeen} {before after : List Line} (counted request limit : ℕ) → Exceeds old new command counted request limit before after
      → HeapUndergoes (RefusalRetained request) old new before after
  refused {old = old} counted request limit e = record {
    lines = e.lines;
    appended = e.appended;
    leads = λ store s. let l = e.exceeds store s in (
      l.0,
      implied (IsCommandRefused command counted request limit) (RefusalRetained request) (λ heap st lines later t r. refusal_retained t request lines later r.refused.no_room)
          old.is_spent old.parts store e.lines l.0 s l.1,
      l.2,
    );
  }

  birth_retains : (old new : HeapSeen) (before after : List Line) (result : Result (Unit {0}) HeapFault) → AnswersBirth command old new before after result
      → BirthRetains command old new before after result
  birth_retains old new before after (Ok done) a = performs_as command (BirthRetained command) births a
  birth_retains old new before after (Err Spent) a = tt
  birth_retains old new before after (Err OutOfMemory) a = tt
  birth_retains old new before after (Err (HeapLimit counted request limit)) a = refused counted request limit a.1

fixed_implies : (root type_id : ℕ) → Implies (Doing (NewFixed root type_id)) (BirthRetained (NewFixed root type_id))
unfolding Does
fixed_implies root type_id heap store lines later s d =
    birth_retained s (NewFixed root type_id) (type_at heap.setup type_id) (fixed_request root type_id) lines later refl d

array_implies : (root type_id len : ℕ) → Implies (Doing (NewArray root type_id len)) (BirthRetained (NewArray root type_id len))
unfolding Does
array_implies root type_id len heap store lines later s d =
    birth_retained s (NewArray root type_id len) (type_at heap.setup type_id) (array_request root type_id len) lines later refl d

weak_implies : (root type_id target : ℕ) → Implies (Doing (NewWeak root type_id target)) (BirthRetained (NewWeak root type_id target))
unfolding Does
weak_implies root type_id target heap store lines later s d =
    birth_retained s (NewWeak root type_id target) (type_at heap.setup type_id) (weak_request store root type_id target) lines later refl d

pub fixed_retains : (old new : HeapSeen) (before after : List Line) (root type_id : ℕ) (result : Result (Unit {0}) HeapFault) → AnswersBirth (NewFixed root type_id) old new before after result
    → BirthRetains (NewFixed root type_id) old new before after result
fixed_retains old new before after root type_id result a = birth_retains (NewFixed root type_id) (fixed_implies root type_id) old new before after result a

pub array_retains : (old new : HeapSeen) (before after : List Line) (root type_id len : ℕ) (result : Result (Unit {0}) HeapFault) → AnswersBirth (NewArray root type_id len) old new before after result
    → BirthRetains (NewArray root type_id len) old new before after result
array_retains old new before after root type_id len result a = birth_retains (NewArray root type_id len) (array_implies root type_id len) old new before after result a

pub weak_retains : (old new : HeapSeen) (before after : List Line) (root type_id target : ℕ) (result : Result (Unit {0}) HeapFault) → AnswersBirth (NewWeak root type_id target) old new before after result
    → BirthRetains (NewWeak root type_id target) old new before after result
weak_retains old new before after root type_id target result a = birth_retains (NewWeak root type_id target) (weak_implies root type_id target) old new before after result a
