-- What a reader of records answers, by what it took from the bytes ahead.
use Rattle.std.proofs.Common.{◌≡◌, ℕ, ◌+◌, ◌<◌, ◌≤◌, Bool, true, false, List, [], ◌∷◌, ◌++◌, Option, Some, None, Result, Err, refl, ap, ◌∙◌, subst, arith}
use Rattle.std.specs.Prelude.{IfSome}
use Rattle.std.specs.Io.KnownBytes.{Consumes, prepend_known}
use Rattle.std.proofs.KnownBytes.{Consumes-trans, Consumes-kept, prepend_known-nil}
use Rattle.std.proofs.lemmas.Bool.{ne_eqb, le-ltb}
use Rattle.text_model.specs.declared.item.Item.{Item}
use Rattle.text_model.specs.declared.item.BadLine.{BadLine}
use Rattle.text_model.specs.declared.item.BadLine.TheVariants as bad
use Rattle.text_model.specs.Script.{bad_reason}
use Rattle.text_model.specs.BinaryReading.{count_of, body_at, record_at, unit_at}
use Rattle.script_binary.specs.declared.end.BinEnd.{BinEnd}
use Rattle.script_binary.specs.declared.end.BinEnd.TheVariants.{TooMany, Syntax, Range, ReadFault}
use Rattle.script_binary.specs.Fields.{body_bytes}
use Rattle.script_binary.specs.Reader.{BinState, GoesOn, Reads, record_limit}
use Rattle.script_binary.specs.Taking.{TakesEnd, IsRefused, Takes}

-- A reader by its parts.
abbrev pub state : List ℕ → ℕ → Bool → BinState
state held count ended = record { held = held; count = count; ended = ended }

-- After a fault nothing is held, so that what is ahead is the rest of the file.
to_rest : (left part : List ℕ) (before after : Option (List ℕ)) → left ≡ [] → Consumes before (prepend_known left after) part
    → Consumes before after part
to_rest left part before after none taken =
    let P : Option (List ℕ) → Type 0 = λ rest. Consumes before rest part in
    subst P (ap (λ held. prepend_known held after) none ∙ prepend_known-nil after) taken

goes_on : (tag byte : ℕ) (a b c : Option (List ℕ)) → tag ≡ 0 → Consumes a b (tag ∷ []) → Consumes b c (byte ∷ []) → GoesOn a
goes_on tag byte None b c zero first next = tt
goes_on tag byte (Some xs) None c zero first next = absurd first
goes_on tag byte (Some xs) (Some ys) None zero first next = absurd next
goes_on tag byte (Some xs) (Some ys) (Some zs) zero first next = (byte, zs, first ∙ ap (λ l. tag ∷ l) next ∙ ap (λ n. n ∷ byte ∷ zs) zero)

no_item : (tag : ℕ) → tag ≡ 0 → record_at (tag ∷ []) ≡ Err bad.Syntax
unfolding body_at count_of
no_item tag zero = rw zero refl

end_fails : (old : BinState) (held mid left : List ℕ) (count tag : ℕ) (ended : Bool) (before between after : Option (List ℕ)) (end : BinEnd)
    → state held count ended ≡ old → tag ≡ 0 → Consumes (prepend_known held before) (prepend_known mid between) (tag ∷ [])
    → TakesEnd (prepend_known mid between) (prepend_known left after) (Err end) → (end ≡ ReadFault → left ≡ [])
    → Reads old (state left count true) before after (Err end)
end_fails old held mid left count tag ended before between after TooMany is_old zero first h none = absurd h
end_fails old held mid left count tag ended before between after Syntax is_old zero first h none =
    let more = goes_on tag h.0 (prepend_known held before) (prepend_known mid between) (prepend_known left after) zero first h.1 in
    rw (← is_old) (refl, more)
end_fails old held mid left count tag ended before between after Range is_old zero first h none = absurd h
end_fails old held mid left count tag ended before between after ReadFault is_old zero first h none =
    let kept = Consumes-kept (prepend_known held before) (prepend_known mid between) (prepend_known left after) (tag ∷ []) first h in
    rw (← is_old) (record {
      part = tag ∷ [];
      taken = to_rest left (tag ∷ []) (prepend_known held before) after (none refl) kept;
      unfinished = no_item tag zero;
    })

-- The end record was taken, and then a byte came or a read failed.
pub reads_no_end : (old : BinState) (held mid left : List ℕ) (count tag : ℕ) (ended : Bool) (before between after : Option (List ℕ)) (end : BinEnd)
    → (answer : Result (Option Item) BinEnd) → answer ≡ Err end
    → state held count ended ≡ old → tag ≡ 0 → Consumes (prepend_known held before) (prepend_known mid between) (tag ∷ [])
    → TakesEnd (prepend_known mid between) (prepend_known left after) (Err end) → (end ≡ ReadFault → left ≡ [])
    → Reads old (state left count true) before after answer
reads_no_end old held mid left count tag ended before between after end answer is is_old zero first h none =
    rw is (end_fails old held mid left count tag ended before between after end is_old zero first h none)

unit_body : (k tag : ℕ) (bytes : List ℕ) (reason : BadLine) → (tag ≡ 0 → ⊥) → k ≤ 16000000 → body_at tag bytes ≡ Err reason
    → unit_at k (tag ∷ bytes) ≡ Err (bad_reason reason)
unit_body k tag bytes reason some few refused = rw (ne_eqb tag 0 some, le-ltb 16000000 k few, refused) refl

unit_refused : (k tag : ℕ) (a b c : Option (List ℕ)) (reason : BadLine) → (tag ≡ 0 → ⊥) → k ≤ 16000000 → Consumes a b (tag ∷ [])
    → (h : IsRefused (body_at tag) b c reason) → IfSome a (λ bytes. unit_at k bytes ≡ Err (bad_reason reason))
unit_refused k tag None b c reason some few first h = tt
unit_refused k tag (Some xs) None c reason some few first h = absurd first
unit_refused k tag (Some xs) (Some ys) None reason some few first h = absurd h.taken
unit_refused k tag (Some xs) (Some ys) (Some zs) reason some few first h =
    ap (unit_at k) (first ∙ ap (λ l. tag ∷ l) h.taken) ∙ unit_body k tag (h.part ++ zs) reason some few (h.refused zs refl)

body_fails : (old : BinState) (held mid left : List ℕ) (count tag : ℕ) (ended : Bool) (before between after : Option (List ℕ)) (end : BinEnd)
    → state held count ended ≡ old → ended ≡ false → (tag ≡ 0 → ⊥) → count < record_limit
    → Consumes (prepend_known held before) (prepend_known mid between) (tag ∷ [])
    → Takes (body_at tag) body_bytes (prepend_known mid between) (prepend_known left after) (Err end) → (end ≡ ReadFault → left ≡ [])
    → Reads old (state left count ended) before after (Err end)
body_fails old held mid left count tag ended before between after TooMany is_old unended some few first h none = absurd h
body_fails old held mid left count tag ended before between after Syntax is_old unended some few first h none =
    let says = unit_refused (count + 1) tag (prepend_known held before) (prepend_known mid between) (prepend_known left after) bad.Syntax some
    (omega arith) first h in
    rw (unended, ← is_old) (refl, says)
body_fails old held mid left count tag ended before between after Range is_old unended some few first h none =
    let says = unit_refused (count + 1) tag (prepend_known held before) (prepend_known mid between) (prepend_known left after) bad.Range some
    (omega arith) first h in
    rw (← is_old) ((refl, unended), says)
body_fails old held mid left count tag ended before between after ReadFault is_old unended some few first h none =
    let taken = Consumes-trans (prepend_known held before) (prepend_known mid between) (prepend_known left after) (tag ∷ []) h.part first h.taken in
    rw (← is_old) (record {
      part = tag ∷ h.part;
      taken = to_rest left (tag ∷ h.part) (prepend_known held before) after (none refl) taken;
      unfinished = h.unfinished;
    })

-- A tag of an item was taken, and no item behind it.
pub reads_no_item : (old : BinState) (held mid left : List ℕ) (count tag : ℕ) (ended : Bool) (before between after : Option (List ℕ)) (end : BinEnd)
    → (answer : Result (Option Item) BinEnd) → answer ≡ Err end
    → state held count ended ≡ old → ended ≡ false → (tag ≡ 0 → ⊥) → count < record_limit
    → Consumes (prepend_known held before) (prepend_known mid between) (tag ∷ [])
    → Takes (body_at tag) body_bytes (prepend_known mid between) (prepend_known left after) (Err end) → (end ≡ ReadFault → left ≡ [])
    → Reads old (state left count ended) before after answer
reads_no_item old held mid left count tag ended before between after end answer is is_old unended some few first h none =
    rw is (body_fails old held mid left count tag ended before between after end is_old unended some few first h none)
