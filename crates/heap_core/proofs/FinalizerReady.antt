-- What is known of finalizers and queues where a command on them is not refused.
use Rattle.std.proofs.Common.{◌≡◌, ◌≢◌, ℕ, ◌<◌, Bool, false, length, refl, sym, ◌∙◌}
use Rattle.std.specs.Prelude.{nat_le, is_none}
use Rattle.std.proofs.lemmas.Bool.{leb-false, ne_eqb}
use Rattle.text_model.specs.declared.command.Command.TheVariants.{Register, NextFinal}
use Rattle.text_model.specs.declared.item.Reason.TheVariants.{NilRoot, NoQueue, Registered}
use Rattle.text_model.specs.Range.{is_above}
use Rattle.heap_parts.specs.Parts.{HeapParts, word_in, place_in}
use Rattle.heap_parts.specs.Told.{kind_at, if_there}
use Rattle.heap_parts.specs.Registers.{is_final}
use Rattle.heap_core.specs.Commands.{AreReady}
use Rattle.heap_core.proofs.Ready.{passed, one_slot, slot_in}
use Rattle.heap_core.proofs.StructReady.{full_place}

-- The object in a slot can be registered with a queue.
pub record CanRegister (heap : HeapParts) (root queue : ℕ) : Type 0 where
  pub full : place_in heap root ≢ 0
  pub not_told : if_there (place_in heap root) (is_final heap (place_in heap root)) ≡ false
  pub unlisted : is_final heap (place_in heap root) ≡ false
  pub queue_in : queue < heap.setup.settings.queues

told-there : (place : ℕ) (told : Bool) → place ≢ 0 → if_there place told ≡ told
told-there place told full = rw (ne_eqb place 0 full) refl

pub register_ready : (heap : HeapParts) (root queue : ℕ) → AreReady heap (Register root queue) → CanRegister heap root queue
register_ready heap root queue ready =
    let place : ℕ = place_in heap root in let known : Bool = is_final heap place in
    let one = one_slot heap.setup.settings.roots root (is_above (Register root queue)) _ ready.accepted in
    let two = passed (is_none (kind_at heap.setup.types (word_in heap) place)) NilRoot _ one.1 in
    let three = passed (nat_le heap.setup.settings.queues queue) NoQueue _ two.1 in
    let four = passed (if_there place known) Registered _ three.1 in
    let full = full_place heap.setup.types (word_in heap) place two.0 in record {
      full = full;
      not_told = four.0;
      unlisted = sym (told-there place known full) ∙ four.0;
      queue_in = leb-false heap.setup.settings.queues queue three.0;
    }

pub next_ready : (heap : HeapParts) (to queue : ℕ) → AreReady heap (NextFinal to queue) → to < length heap.slots
next_ready heap to queue ready =
    slot_in heap to ready.standing (one_slot heap.setup.settings.roots to (is_above (NextFinal to queue)) _ ready.accepted).0
