-- Collections of the parts of a heap, and the room that they make.
use Rattle.std.proofs.Common.{◌≡◌, ◌≢◌, ℕ, ◌+◌, ◌<◌, ◌≤◌, true, false, List, [], ◌++◌, append-nil, Result, Ok, Err, OnOk, OnErr, refl, sym, ap, ◌∙◌, inl, inr, arith}
use Rattle.std.specs.declared.alloc.AllocError.{AllocError}
use Rattle.std.specs.Prelude.{Bool, is_ok, is_err, if◌then◌else◌, ◌⊎◌}
use Rattle.text_model.specs.declared.command.Command.{Command}
use Rattle.text_model.specs.declared.line.Line.{Line}
use Rattle.text_model.specs.declared.line.Phase.{Phase}
use Rattle.text_model.specs.declared.line.Phase.TheVariants.{Scanning, Marking, Sweeping, Finalizing}
use Rattle.store_model.specs.Collections.{is_scanning}
use Rattle.heap_parts.specs.Parts.{HeapParts}
use Rattle.heap_parts.specs.Collects.{CollectsMinor}
use Rattle.heap_phases.specs.Steps.{CanStep}
use Rattle.minor_collect.specs.Minor.{CanCollect}
use Rattle.minor_collect.proofs.StartedCollects.{stands_whole}
use Rattle.collect_laws.specs.Events.{EventOf, Undergoes, Doing}
use Rattle.heap_core.specs.Commands.{AreStanding}
use Rattle.heap_core.specs.Bearing.{PartsAppend}
use Rattle.collect_laws.specs.Tests.{needs_block_in, exceeds_limit_in}
use Rattle.heap_core.specs.Room.{KeepsLines, LedByRoom, IsCollecting, FindsRoom, BornInRoom, RefusedInRoom, BearsInRoom, EndsBirth}

-- parts that stand for a store can be collected
pub can_collect : {heap : HeapParts} → AreStanding heap → CanCollect heap
can_collect standing = record { store = standing.store; stands = (stands_whole standing.stands).stands }

-- and stepped right after that
pub can_step_after : {old new : HeapParts} {before after : List Line} → CollectsMinor old new before after → AreStanding old → CanStep new
can_step_after c standing = let l = c.collects standing.store standing.stands in record { store = l.0; collected = l.2 }

-- they still stand for one after a minor collection
pub standing_collected : {old new : HeapParts} {before after : List Line} → CollectsMinor old new before after → AreStanding old → AreStanding new
standing_collected c standing = let l = c.collects standing.store standing.stands in record { store = l.0; stands = l.2.stands }

-- and after each event
pub standing_after : {Event : EventOf} {old new : HeapParts} {before after : List Line} → Undergoes Event old new before after → AreStanding old → AreStanding new
standing_after u standing = let l = u.leads standing.store standing.stands in record { store = l.0; stands = l.2 }

-- a command as an event appends its lines
pub appends_event : {command : Command} {old new : HeapParts} {before after : List Line} → Undergoes (Doing command) old new before after → PartsAppend old new command before after
appends_event u = record { lines = u.lines; appended = u.appended; does = record { setup = u.setup; does = u.leads } }

-- the words of a birth and those that are counted fit
pub few_words : {heap : HeapParts} → AreStanding heap → (heap.unsettled + heap.old_words ≤ 16777216) × (heap.fresh ≤ heap.old_words)
few_words standing =
    let s = standing.stands in let most = s.made.ranges.2.2.1 in let within = s.sums.within in (omega (arith, most, within), s.sums.fresh_old)

pub counted_fit : {heap : HeapParts} → AreStanding heap → heap.unsettled + heap.old_words < 18446744073709551616
counted_fit standing = let few = (few_words standing).0 in omega (arith, few)

-- the phases by the test whether no cycle runs
pub scanning_of : (phase : Phase) → is_scanning phase ≡ true → phase ≡ Scanning
scanning_of Scanning e = refl
scanning_of Marking e = absurd (let no : ⊥ = cc in no)
scanning_of Sweeping e = absurd (let no : ⊥ = cc in no)
scanning_of Finalizing e = absurd (let no : ⊥ = cc in no)

pub other_than_scanning : (phase : Phase) → is_scanning phase ≡ false → phase ≢ Scanning
other_than_scanning Scanning e = absurd (let no : ⊥ = cc in no)
other_than_scanning Marking e = λ is. let no : ⊥ = cc in no
other_than_scanning Sweeping e = λ is. let no : ⊥ = cc in no
other_than_scanning Finalizing e = λ is. let no : ⊥ = cc in no

-- lines that were appended where there was memory for them
pub appended_ok : (r : Result (Unit {0}) AllocError) (now old more : List Line) → now ≡ (if is_ok r then old ++ more else old) → OnOk r (now ≡ old ++ more)
appended_ok (Ok u) now old more e = e
appended_ok (Err error) now old more e = tt

pub appended_none : (r : Result (Unit {0}) AllocError) (now old more : List Line) → is_err r ≡ true → now ≡ (if is_ok r then old ++ more else old) → KeepsLines old now
appended_none (Ok u) now old more is e = absurd (let no : ⊥ = cc in no)
appended_none (Err error) now old more is e = ([], e ∙ sym (append-nil old))

pub appended_where : (r : Result (Unit {0}) AllocError) (now old more : List Line) → is_err r ≡ false → now ≡ (if is_ok r then old ++ more else old) → now ≡ old ++ more
appended_where (Ok u) now old more is e = e
appended_where (Err error) now old more is e = absurd (let no : ⊥ = cc in no)

-- what holds where there was no error
pub without_error : {P : Type 0} (r : Result (Unit {0}) AllocError) → is_err r ≡ false → OnOk r P → P
without_error (Ok u) is p = p
without_error (Err error) is p = absurd (let no : ⊥ = cc in no)

-- and where there was one
pub with_error : {P : Type 0} (r : Result (Unit {0}) AllocError) → is_err r ≡ true → OnErr r P → P
with_error (Ok u) is p = absurd (let no : ⊥ = cc in no)
with_error (Err error) is p = p

-- a test has one answer
pub never_both : {b : Bool} → b ≡ true → b ≡ false → ⊥
never_both is other = let clash : true ≡ false = sym is ∙ other in let none : ⊥ = cc in none

either : (b : Bool) → (b ≡ true) ⊎ (b ≡ false)
either true = inl refl
either false = inr refl

-- a whole collection that is due behind a block was due before, where no block came
pub collecting_behind : (old mid : HeapParts) (words : ℕ) (r : Result (Unit {0}) AllocError) → (needs_block_in old words ≡ false → mid ≡ old)
    → OnErr r (exceeds_limit_in mid words ≡ true) → OnErr r (IsCollecting words old)
collecting_behind old mid words (Ok u) same due = tt
collecting_behind old mid words (Err error) same due =
    elim (either (needs_block_in old words)) [
      | inl needs ↦ inl needs
      | inr unneeded ↦ inr (ap (λ (heap : HeapParts). exceeds_limit_in heap words) (sym (same unneeded)) ∙ due)
    ]
