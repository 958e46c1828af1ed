-- A call of a heap by what its state is: closed, started or spent.
use Rattle.std.proofs.Common.{◌≡◌, ◌⊎◌, List, ◌++◌, Some, refl, sym, ap, ◌∙◌, subst, inl, inr}
use Rattle.text_model.specs.declared.command.Command.{Command}
use Rattle.text_model.specs.declared.line.Line.{Line}
use Rattle.store_model.specs.Store.{Store}
use Rattle.store_model.specs.Look.{look}
use Rattle.heap_parts.specs.Parts.{HeapParts}
use Rattle.heap_parts.specs.StandsFor.{PartsStandFor}
use Rattle.heap_core.specs.declared.heap.State.{State}
use Rattle.heap_core.specs.declared.heap.State.TheVariants.{Closed, Spent}
use Rattle.heap_core.specs.Heap.{HeapSeen, heap_of, spent_heap, StandsFor}
use Rattle.heap_core.specs.Seen.{seen}
use Rattle.heap_core.specs.Commands.{AreStanding, AreReady, IsStanding, CanDo, PartsDo, PartsKeep, Performs, Keeps, told_by}
use Rattle.heap_core.specs.Bearing.{PartsAppend}
use Rattle.heap_core.proofs.LookLaws.{look_told}

-- what is seen of a heap in a state
pub in_state : (now : HeapSeen) (inside state : State) → seen inside ≡ now → inside ≡ state → now ≡ seen state
in_state now inside state view is = sym view ∙ ap seen is

-- a heap with these parts can do a command only where they are ready for it
pub ready_of : (now : HeapSeen) (parts : HeapParts) (command : Command) → now ≡ heap_of parts → CanDo now command → AreReady parts command
ready_of now parts command is can = subst (λ (h : HeapSeen). CanDo h command) is can

-- what a heap that stands for some store is: the parts of a started one
pub standing_of : (now : HeapSeen) (parts : HeapParts) → now ≡ heap_of parts → IsStanding now → AreStanding parts
standing_of now parts is standing = subst IsStanding is standing

-- what a heap with these parts stands for
pub stands_of : (now : HeapSeen) (parts : HeapParts) (store : Store) → now ≡ heap_of parts → StandsFor now store → PartsStandFor parts store
stands_of now parts store is stands = subst (λ (h : HeapSeen). StandsFor h store) is stands

-- the parts of a started heap do the command
pub performs_started : (now new : HeapSeen) (parts after : HeapParts) (command : Command) (before lines : List Line)
    → now ≡ heap_of parts → new ≡ heap_of after → PartsDo parts after command lines → Performs now new command before (before ++ lines)
performs_started now new parts after command before lines is becomes done =
    subst (λ (h : HeapSeen). Performs h new command before (before ++ lines)) (sym is)
    (subst (λ (h : HeapSeen). Performs (heap_of parts) h command before (before ++ lines)) (sym becomes) (record {
      setup = ap Some done.setup;
      same_spent = refl;
      lines = lines;
      appended = refl;
      does = λ store s. done.does store s;
    }))

-- a closed heap can do no command, and a spent one stands for no store
pub performs_idle : (now new : HeapSeen) (inside : State) (command : Command) (before lines : List Line)
    → (inside ≡ Closed) ⊎ (inside ≡ Spent) → seen inside ≡ now → new ≡ seen inside → CanDo now command → Performs now new command before (before ++ lines)
performs_idle now new inside command before lines (inl is) view stays can =
    absurd (subst (λ (h : HeapSeen). CanDo h command) (in_state now inside Closed view is) can)
performs_idle now new inside command before lines (inr is) view stays can =
    subst (λ (h : HeapSeen). Performs h new command before (before ++ lines)) (sym (in_state now inside Spent view is))
    (subst (λ (h : HeapSeen). Performs spent_heap h command before (before ++ lines)) (sym (stays ∙ ap seen is)) (record {
      setup = refl;
      same_spent = refl;
      lines = lines;
      appended = refl;
      does = λ store s. absurd s;
    }))

-- the parts of a started heap keep what they stand for
pub keeps_started : (now new : HeapSeen) (parts after : HeapParts) → now ≡ heap_of parts → new ≡ heap_of after → PartsKeep parts after → Keeps now new
keeps_started now new parts after is becomes kept =
    subst (λ (h : HeapSeen). Keeps h new) (sym is)
    (subst (λ (h : HeapSeen). Keeps (heap_of parts) h) (sym becomes) (record {
      setup = ap Some kept.setup;
      same_spent = refl;
      stands = λ store s. kept.stands store s;
    }))

-- and so does a heap that does not change
pub keeps_same : (now new : HeapSeen) → new ≡ now → Keeps now new
keeps_same now new is = subst (λ (h : HeapSeen). Keeps now h) (sym is) (record { setup = refl; same_spent = refl; stands = λ store s. s })

-- a look at a store that a heap stands for sees what the heap tells
pub look_by : (now : HeapSeen) (parts : HeapParts) → now ≡ heap_of parts → (store : Store) → StandsFor now store → look store ≡ told_by now
look_by now parts is store stands =
    look_told parts store (stands_of now parts store is stands) ∙ sym (ap (λ (h : HeapSeen). told_by h) is)

-- and append its lines
pub performs_appended : (now new : HeapSeen) (parts after : HeapParts) (command : Command) (before behind : List Line)
    → now ≡ heap_of parts → new ≡ heap_of after → PartsAppend parts after command before behind → Performs now new command before behind
performs_appended now new parts after command before behind is becomes a =
    subst (λ (ls : List Line). Performs now new command before ls) (sym a.appended) (performs_started now new parts after command before a.lines is becomes a.does)
