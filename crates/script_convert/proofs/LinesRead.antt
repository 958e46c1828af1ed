-- Lines that were handed out, and what they say.
use Rattle.std.proofs.Common.{◌≡◌, ℕ, suc, ◌+◌, ◌<◌, ◌≤◌, Bool, true, false, cond, List, [], ◌∷◌, ◌++◌, length, map, take, drop, Option, Some, None, Result, Ok, Err, refl, sym, ap, ◌∙◌, subst, arith, inl, append_assoc, append-nil, length-append, length-take}
use Rattle.std.specs.Prelude.{⊤, ◌==◌, IfSome}
use Rattle.std.specs.Io.KnownBytes.{Consumes, IsAtEnd, Keeps, prepend_known}
use Rattle.std.proofs.KnownBytes.{Consumes-trans}
use Rattle.std.proofs.lemmas.Bool.{and_parts, not-true, false≢true, both_ways, le-ltb, lt-ltb}
use Rattle.std.proofs.lemmas.Bool.Decides.{Decides-eqb}
use Rattle.std.proofs.lemmas.Slice.Eq.{starts_is}
use Rattle.std.proofs.lemmas.Grind.{flat_map-append}
use Rattle.std.proofs.lemmas.List.{map-append}
use Rattle.text_model.specs.declared.item.Item.{Item}
use Rattle.text_model.specs.declared.item.Item.TheVariants.{Blank, Setting, TypeDef, Command as CommandItem}
use Rattle.text_model.specs.declared.item.Reason.{Reason}
use Rattle.text_model.specs.declared.item.Reason.TheVariants.{TooManyLines, LineTooLong}
use Rattle.text_model.specs.Grammar.{item_of}
use Rattle.text_model.specs.Lines.{lines_of, whole_lines_of, in_front_of_first, whole_text}
use Rattle.text_model.specs.Script.{reading, readings, as_reading}
use Rattle.text_model.specs.ItemLine.{IsLineOf}
use Rattle.text_model.specs.Binary.{begins_binary, binary_mark}
use Rattle.text_model.specs.Units.{Said, says_item, units_of}
use Rattle.script_text.specs.declared.reader.ReadEnd.{ReadEnd}
use Rattle.script_text.specs.declared.reader.ReadEnd.TheVariants.{TooMany, TooLong, ReadFault as ReaderFault}
use Rattle.script_text.specs.Reader.{ReaderState, ahead, IsInStep, HandsOut, Begins, Longer, is_one_line}
use Rattle.script_text.specs.Reading.{Reads}
use Rattle.script_convert.specs.declared.reader.UnitEnd.{UnitEnd}
use Rattle.store_model.specs.WholeUnits.{PassesEnd, whole_units_of}
use Rattle.script_convert.specs.Reader.{IsSaid, LeadsOn, HandedLines, RefusesUnit, BreaksOff, ReadsUnit, end_of_line}

LeadsOn-push : (script here there : Option (List ℕ)) (lines : List (List ℕ)) (line : List ℕ) → LeadsOn script here lines → Begins here there line → LeadsOn script there (lines ++ line ∷ [])
LeadsOn-push None here there lines line leads begins = tt
LeadsOn-push (Some script) None there lines line leads begins = absurd leads
LeadsOn-push (Some script) (Some xs) None lines line leads begins = absurd begins
LeadsOn-push (Some script) (Some xs) (Some ys) lines line leads begins = leads ∙ ap (λ rest. lines ++ rest) begins ∙ sym (append_assoc lines (line ∷ []) (lines_of ys))

-- behind the end no line comes
no_line_at_end : (script here there : Option (List ℕ)) (lines : List (List ℕ)) (line bytes : List ℕ) → LeadsOn script here lines → IsAtEnd here → Begins here there line → Consumes script there bytes
no_line_at_end None here there lines line bytes leads end begins = tt
no_line_at_end (Some script) None there lines line bytes leads end begins = absurd leads
no_line_at_end (Some script) (Some xs) None lines line bytes leads end begins = absurd begins
no_line_at_end (Some script) (Some xs) (Some ys) lines line bytes leads end begins = absurd (let e : [] ≡ line ∷ lines_of ys = ap lines_of (sym end) ∙ begins in let no : ⊥ = cc in no)

whole_text-push : (lines : List (List ℕ)) (line : List ℕ) → whole_text (lines ++ line ∷ []) ≡ whole_text lines ++ (line ++ 10 ∷ [])
whole_text-push lines line = flat_map-append (λ l. l ++ 10 ∷ []) lines (line ∷ []) ∙ ap (λ t. whole_text lines ++ t) (append-nil (line ++ 10 ∷ []))

whole_lines_of-other : (b : ℕ) (bytes : List ℕ) → (b == 10) ≡ false → whole_lines_of (b ∷ bytes) ≡ in_front_of_first b (whole_lines_of bytes)
whole_lines_of-other b bytes e = rw e refl

whole_lines_of-line : (line more : List ℕ) → is_one_line line ≡ true → whole_lines_of (line ++ 10 ∷ more) ≡ line ∷ whole_lines_of more
whole_lines_of-line [] more h = refl
whole_lines_of-line (b ∷ line) more h =
    let parts = and_parts _ (is_one_line line) h in
    whole_lines_of-other b (line ++ 10 ∷ more) (not-true (b == 10) parts.0) ∙ ap (in_front_of_first b) (whole_lines_of-line line more parts.1)

whole_lines_of-part : (part : List ℕ) → is_one_line part ≡ true → whole_lines_of part ≡ []
whole_lines_of-part [] h = refl
whole_lines_of-part (b ∷ part) h =
    let parts = and_parts _ (is_one_line part) h in
    whole_lines_of-other b part (not-true (b == 10) parts.0) ∙ ap (in_front_of_first b) (whole_lines_of-part part parts.1)

whole-push : (lines : List (List ℕ)) (line : List ℕ) → is_one_line line ≡ true
    → ((more : List ℕ) → whole_lines_of (whole_text lines ++ more) ≡ lines ++ whole_lines_of more)
    → (more : List ℕ) → whole_lines_of (whole_text (lines ++ line ∷ []) ++ more) ≡ (lines ++ line ∷ []) ++ whole_lines_of more
whole-push lines line one whole more =
    ap whole_lines_of (ap (λ t. t ++ more) (whole_text-push lines line) ∙ append_assoc (whole_text lines) (line ++ 10 ∷ []) more ∙ ap (λ t. whole_text lines ++ t) (append_assoc line (10 ∷ []) more))
    ∙ whole (line ++ 10 ∷ more)
    ∙ ap (λ rest. lines ++ rest) (whole_lines_of-line line more one)
    ∙ sym (append_assoc lines (line ∷ []) (whole_lines_of more))

bytes-push : (script here there : Option (List ℕ)) (old ended : Bool) (lines : List (List ℕ)) (line : List ℕ)
    → (old ≡ false → Consumes script here (whole_text lines)) → (old ≡ true → IsAtEnd here) → LeadsOn script here lines → Begins here there line
    → Consumes here there (cond ended line (line ++ 10 ∷ [])) → ended ≡ false → Consumes script there (whole_text (lines ++ line ∷ []))
bytes-push script here there true ended lines line bytes end leads begins taken e = no_line_at_end script here there lines line (whole_text (lines ++ line ∷ [])) leads (end refl) begins
bytes-push script here there false true lines line bytes end leads begins taken e = cc
bytes-push script here there false false lines line bytes end leads begins taken e =
    let P : List ℕ → Type 0 = Consumes script there in
    subst P (sym (whole_text-push lines line)) (Consumes-trans script here there (whole_text lines) (line ++ 10 ∷ []) (bytes refl) taken)

readings-split : (k : ℕ) (lines : List (List ℕ)) (line : List ℕ) (behind : List (List ℕ))
    → readings k (lines ++ line ∷ behind) ≡ readings k lines ++ reading (k + length lines) line ∷ readings (k + length lines + 1) behind
readings-split k [] line behind = ap (λ n. reading n line ∷ readings (n + 1) behind) (let e : k ≡ k + 0 = omega arith in e)
readings-split k (first ∷ lines) line behind =
    ap (λ rest. reading k first ∷ rest) (readings-split (k + 1) lines line behind
    ∙ ap (λ n. readings (k + 1) lines ++ reading n line ∷ readings (n + 1) behind) (let e : (k + 1) + length lines ≡ k + length (first ∷ lines) = omega arith in e))

-- what lines say, of which one is told
said-split : (lines : List (List ℕ)) (line : List ℕ) (behind : List (List ℕ)) (units : List Said) (k : ℕ) (says : Result Item Reason)
    → units ≡ map says_item (readings 1 lines) → k ≡ length lines + 1 → reading k line ≡ says
    → map says_item (readings 1 (lines ++ line ∷ behind)) ≡ units ++ says_item says ∷ map says_item (readings (1 + length lines + 1) behind)
said-split lines line behind units k says are number is =
    let n : 1 + length lines ≡ k = omega (arith, number) in
    ap (map says_item) (readings-split 1 lines line behind)
    ∙ map-append says_item (readings 1 lines) (reading (1 + length lines) line ∷ readings (1 + length lines + 1) behind)
    ∙ ap (λ l. l ++ says_item (reading (1 + length lines) line) ∷ map says_item (readings (1 + length lines + 1) behind)) (sym are)
    ∙ ap (λ r. units ++ says_item r ∷ map says_item (readings (1 + length lines + 1) behind)) (ap (λ m. reading m line) n ∙ is)

readings-length : (k : ℕ) (lines : List (List ℕ)) → length (map says_item (readings k lines)) ≡ length lines
readings-length k [] = refl
readings-length k (line ∷ lines) = ap suc (readings-length (k + 1) lines)

-- as many units as lines
pub units_counted : (units : List Said) (lines : List (List ℕ)) → units ≡ map says_item (readings 1 lines) → length units ≡ length lines
units_counted units lines are = ap length are ∙ readings-length 1 lines

-- one line more
pub line_on : (script rest rest_after : Option (List ℕ)) (reader new : ReaderState) (units : List Said) (line : List ℕ) (item : Item)
    → HandedLines script rest reader units → IsInStep reader rest → HandsOut reader new (ahead reader rest) (ahead new rest_after) line
    → reading (reader.count + 1) line ≡ Ok item → HandedLines script rest_after new (units ++ Ok (Some item) ∷ [])
line_on script rest rest_after reader new units line item handed step hands says = record {
  lines = handed.lines ++ line ∷ [];
  says = sym (said-split handed.lines line [] units (reader.count + 1) (Ok item) handed.says (ap (λ n. n + 1) handed.count) says);
  count = hands.count ∙ ap (λ n. n + 1) handed.count ∙ sym (length-append handed.lines (line ∷ []));
  text = handed.text;
  leads = LeadsOn-push script (ahead reader rest) (ahead new rest_after) handed.lines line handed.leads hands.begins;
  bytes = bytes-push script (ahead reader rest) (ahead new rest_after) reader.ended new.ended handed.lines line handed.bytes step handed.leads hands.begins hands.taken;
  whole = whole-push handed.lines line hands.one_line handed.whole;
}

leads_from : (script here : Option (List ℕ)) → Keeps script here → LeadsOn script here []
leads_from None here same = tt
leads_from (Some script) None same = absurd same
leads_from (Some script) (Some xs) same = ap lines_of (sym same)

consumes_none : (script here : Option (List ℕ)) → Keeps script here → Consumes script here []
consumes_none None here same = tt
consumes_none (Some script) None same = absurd same
consumes_none (Some script) (Some xs) same = sym same

-- the beginning of a text
pub lines_from : (script rest : Option (List ℕ)) (reader : ReaderState) → Keeps script (ahead reader rest) → reader.count ≡ 0
    → IfSome script (λ bytes. begins_binary bytes ≡ false) → HandedLines script rest reader []
lines_from script rest reader same none text = record {
  lines = [];
  says = refl;
  count = none;
  text = text;
  leads = leads_from script (ahead reader rest) same;
  bytes = λ e. consumes_none script (ahead reader rest) same;
  whole = λ more. refl;
}

text_units : (script : List ℕ) → begins_binary script ≡ false → units_of script ≡ map says_item (readings 1 (lines_of script))
text_units script text = rw text refl

leads_all : (script : List ℕ) (here : Option (List ℕ)) (lines : List (List ℕ)) → LeadsOn (Some script) here lines → IsAtEnd here → lines ≡ lines_of script
leads_all script None lines leads end = absurd leads
leads_all script (Some xs) lines leads end = sym (leads ∙ ap (λ bytes. lines ++ lines_of bytes) end ∙ append-nil lines)

-- the end of a text
pub lines_end : (script rest : Option (List ℕ)) (reader : ReaderState) (units : List Said) → HandedLines script rest reader units
    → IsAtEnd (ahead reader rest) → IfSome script (λ bytes. PassesEnd units (units_of bytes))
lines_end None rest reader units handed end = tt
lines_end (Some script) rest reader units handed end =
    inl (text_units script handed.text ∙ ap (λ (lines : List (List ℕ)). map says_item (readings 1 lines)) (sym (leads_all script (ahead reader rest) handed.lines handed.leads end))
    ∙ sym handed.says)

-- the line that comes
leads_line : (script : List ℕ) (here : Option (List ℕ)) (lines : List (List ℕ)) (n : ℕ) → LeadsOn (Some script) here lines → Longer n here
    → (line : List ℕ) × (behind : List (List ℕ)) × (lines_of script ≡ lines ++ line ∷ behind) × (n ≤ length line)
leads_line script None lines n leads longer = absurd leads
leads_line script (Some xs) lines n leads longer = (longer.0, longer.1, leads ∙ ap (λ rest. lines ++ rest) longer.2, longer.3)

leads_to : (script : List ℕ) (here there : Option (List ℕ)) (lines : List (List ℕ)) (line : List ℕ) → LeadsOn (Some script) here lines → Begins here there line
    → (behind : List (List ℕ)) × (lines_of script ≡ lines ++ line ∷ behind)
leads_to script None there lines line leads begins = absurd leads
leads_to script (Some xs) None lines line leads begins = absurd begins
leads_to script (Some xs) (Some ys) lines line leads begins = (lines_of ys, leads ∙ ap (λ rest. lines ++ rest) begins)

-- a line that is refused
refuses : (script : List ℕ) (rest : Option (List ℕ)) (reader : ReaderState) (units : List Said) (k : ℕ) (line : List ℕ) (behind : List (List ℕ)) (why : Reason)
    → (handed : HandedLines (Some script) rest reader units) → lines_of script ≡ handed.lines ++ line ∷ behind → k ≡ reader.count + 1
    → reading k line ≡ Err why → RefusesUnit script units k why
refuses script rest reader units k line behind why handed lines number says =
    let counted : k ≡ length handed.lines + 1 = number ∙ ap (λ n. n + 1) handed.count in
    record {
      front = units;
      behind = map says_item (readings (1 + length handed.lines + 1) behind);
      passes = inl refl;
      units_are = text_units script handed.text ∙ ap (λ (l : List (List ℕ)). map says_item (readings 1 l)) lines
          ∙ said-split handed.lines line behind units k (Err why) handed.says counted says;
      number = counted ∙ ap (λ n. n + 1) (sym (units_counted units handed.lines handed.says));
    }

too_many : (k : ℕ) (line : List ℕ) → 16000000 < k → reading k line ≡ Err TooManyLines
unfolding reading
too_many k line many = rw (lt-ltb 16000000 k many) refl

too_long : (k : ℕ) (line : List ℕ) → k ≤ 16000000 → 201 ≤ length line → reading k line ≡ Err LineTooLong
unfolding reading
too_long k line few long = rw (le-ltb 16000000 k few, lt-ltb 200 (length line) (omega arith)) refl

pub reading_is : (k : ℕ) (line : List ℕ) → k ≤ 16000000 → length line ≤ 200 → reading k line ≡ as_reading (item_of line)
unfolding reading
reading_is k line few short = rw (le-ltb 16000000 k few, le-ltb 200 (length line) short) refl

-- a line that has no item
pub line_bad : (script rest rest_after : Option (List ℕ)) (reader new : ReaderState) (units : List Said) (line : List ℕ) (why : Reason)
    → HandedLines script rest reader units → HandsOut reader new (ahead reader rest) (ahead new rest_after) line
    → reading (reader.count + 1) line ≡ Err why → IfSome script (λ bytes. RefusesUnit bytes units (reader.count + 1) why)
line_bad None rest rest_after reader new units line why handed hands says = tt
line_bad (Some script) rest rest_after reader new units line why handed hands says =
    let next = leads_to script (ahead reader rest) (ahead new rest_after) handed.lines line handed.leads hands.begins in
    refuses script rest reader units (reader.count + 1) line next.0 why handed next.1 refl says

pub is_said : (item : Item) (line : List ℕ) → IsLineOf item line → IsSaid item
is_said Blank line is = tt
is_said (Setting name value) line is = is.0
is_said (TypeDef id info) line is = is.0
is_said (CommandItem command) line is = is.0

-- bytes from the front of a text are a text
text_front : (script taken rest : List ℕ) → begins_binary script ≡ false → script ≡ taken ++ rest → (b : Bool) → b ≡ begins_binary taken → begins_binary taken ≡ false
text_front script taken rest text is false told = sym told
text_front script taken rest text is true told =
    let front : taken ≡ binary_mark ++ drop 4 taken = (starts_is Decides-eqb taken binary_mark true told).0 refl in
    absurd (false≢true (sym text ∙ ap begins_binary (is ∙ ap (λ l. l ++ rest) front)))

-- the whole lines of a part of a text
part_of_text : (script taken : List ℕ) (rest : Option (List ℕ)) → begins_binary script ≡ false → Consumes (Some script) rest taken
    → whole_units_of taken ≡ map says_item (readings 1 (whole_lines_of taken))
part_of_text script taken None text taken_is = absurd taken_is
part_of_text script taken (Some rest) text taken_is = rw (text_front script taken rest text taken_is (begins_binary taken) refl) refl

-- a line is not read
pub line_fails : (script rest rest_after : Option (List ℕ)) (reader new : ReaderState) (units : List Said) (buf : List ℕ) (end : ReadEnd) (answer : UnitEnd) (handed_after : List Said → Type 0)
    → HandedLines script rest reader units → Reads reader new rest rest_after buf (Err end) → answer ≡ end_of_line (reader.count + 1) end
    → ReadsUnit script rest_after handed_after units (Err answer)
line_fails None rest rest_after reader new units buf TooMany answer handed_after handed reads is = rw is tt
line_fails None rest rest_after reader new units buf TooLong answer handed_after handed reads is = rw is tt
line_fails None rest rest_after reader new units buf ReaderFault answer handed_after handed reads is = rw is tt
line_fails (Some script) rest rest_after reader new units buf TooMany answer handed_after handed reads is =
    let next = leads_line script (ahead reader rest) handed.lines 0 handed.leads reads.1 in
    rw is (refuses script rest reader units (reader.count + 1) next.0 next.1 TooManyLines handed next.2 refl (too_many (reader.count + 1) next.0 (omega (arith, reads.0))))
line_fails (Some script) rest rest_after reader new units buf TooLong answer handed_after handed reads is =
    let next = leads_line script (ahead reader rest) handed.lines 201 handed.leads reads.1 in
    rw is (refuses script rest reader units (reader.count + 1) next.0 next.1 LineTooLong handed next.2 refl (too_long (reader.count + 1) next.0 (omega (arith, reads.0)) next.3))
line_fails (Some script) rest rest_after reader new units buf ReaderFault answer handed_after handed reads is =
    let part = reads.1.0 in
    let begins = Consumes-trans (Some script) (ahead reader rest) rest_after (whole_text handed.lines) part (handed.bytes reads.0) reads.1.2 in
    rw is (record {
      taken = whole_text handed.lines ++ part;
      begins = begins;
      whole = part_of_text script (whole_text handed.lines ++ part) rest_after handed.text begins
          ∙ ap (λ (lines : List (List ℕ)). map says_item (readings 1 lines))
          (handed.whole part ∙ ap (λ rest. handed.lines ++ rest) (whole_lines_of-part part reads.1.1) ∙ append-nil handed.lines)
          ∙ sym handed.says;
    })

pub rest_at_end : (held : List ℕ) (rest : Option (List ℕ)) → IsAtEnd (prepend_known held rest) → IsAtEnd rest
rest_at_end held None end = tt
rest_at_end [] (Some xs) end = end
rest_at_end (b ∷ held) (Some xs) end = cc

pub short_front : (n : ℕ) (l : List ℕ) → n ≤ 200 → length (take n l) ≤ 200
short_front n l short = omega (arith, short, length-take n l)

readings-append : (k : ℕ) (lines more : List (List ℕ)) → readings k (lines ++ more) ≡ readings k lines ++ readings (k + length lines) more
readings-append k [] more = ap (λ n. readings n more) (let e : k ≡ k + 0 = omega arith in e)
readings-append k (first ∷ lines) more =
    ap (λ rest. reading k first ∷ rest) (readings-append (k + 1) lines more
    ∙ ap (λ n. readings (k + 1) lines ++ readings n more) (let e : (k + 1) + length lines ≡ k + length (first ∷ lines) = omega arith in e))

leads_some : (script : List ℕ) (here : Option (List ℕ)) (lines : List (List ℕ)) → LeadsOn (Some script) here lines → (behind : List (List ℕ)) × (lines_of script ≡ lines ++ behind)
leads_some script None lines leads = absurd leads
leads_some script (Some xs) lines leads = (lines_of xs, leads)

-- the units that were handed out stand at the front of those of the text
pub lines_lead : (script : List ℕ) (rest : Option (List ℕ)) (reader : ReaderState) (units : List Said) → HandedLines (Some script) rest reader units
    → (behind : List Said) × (units_of script ≡ units ++ behind)
lines_lead script rest reader units handed =
    let next = leads_some script (ahead reader rest) handed.lines handed.leads in (
      map says_item (readings (1 + length handed.lines) next.0),
      text_units script handed.text ∙ ap (λ (l : List (List ℕ)). map says_item (readings 1 l)) next.1 ∙ ap (map says_item) (readings-append 1 handed.lines next.0)
          ∙ map-append says_item (readings 1 handed.lines) (readings (1 + length handed.lines) next.0)
          ∙ ap (λ l. l ++ map says_item (readings (1 + length handed.lines) next.0)) (sym handed.says),
    )
