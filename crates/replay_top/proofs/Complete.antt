-- A run that no cause stops comes to its end.
use Rattle.std.proofs.Common.{◌≡◌, ℕ, List, Option, Some, None, Err, refl, inl, inr}
use Rattle.replay_top.specs.declared.line.Stop.{Stop}
use Rattle.replay_top.specs.declared.line.Stop.TheVariants.{Malformed, HeapLimit, OutOfMemory, ReadFault, WriteFault}
use Rattle.replay_top.specs.declared.top.Status.{Status}
use Rattle.heap_core.specs.Heap.{HeapSeen}
use Rattle.replay_top.specs.Run.{EndsRun}
use Rattle.replay_top.specs.Top.{IsComplete, stop_status}

pub complete_err : (script : Option (List ℕ)) (begun begun_after : Option ℕ) (rest before written : Option (List ℕ)) (heap : HeapSeen) (stop : Stop) (status : Status) (read_rose write_rose : Type 0)
    → EndsRun script begun begun_after rest before written heap (Err stop) → status ≡ stop_status stop
    → (stop ≡ ReadFault → read_rose) → (stop ≡ WriteFault → write_rose) → IsComplete script read_rose write_rose status
complete_err None begun begun_after rest before written heap stop status read_rose write_rose ends is read write = tt
complete_err (Some script) begun begun_after rest before written heap (Malformed k reason) status read_rose write_rose ends is read write = λ never no_read no_write.
    absurd (never ends.front ends.unit ends.behind ends.stands.text ends.stands.after ends.units ends.stands.done (inl (reason, ends.refused)))
complete_err (Some script) begun begun_after rest before written heap (HeapLimit k counted request limit) status read_rose write_rose ends is read write = λ never no_read no_write.
    let e = ends.stops in
    absurd (never e.front e.unit e.behind e.text e.mid e.units e.done (inr (counted, request, limit, e.groups, e.after, e.exceeds)))
complete_err (Some script) begun begun_after rest before written heap OutOfMemory status read_rose write_rose ends is read write = λ never no_read no_write. inr is
complete_err (Some script) begun begun_after rest before written heap ReadFault status read_rose write_rose ends is read write = λ never no_read no_write. absurd (no_read (read refl))
complete_err (Some script) begun begun_after rest before written heap WriteFault status read_rose write_rose ends is read write = λ never no_read no_write. absurd (no_write (write refl))
