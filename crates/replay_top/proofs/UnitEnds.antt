-- What came of a unit.
use Rattle.std.proofs.Common.{◌≡◌, ℕ, List, [], ◌∷◌, ◌++◌, Option, Some, Result, Ok, Err, refl, sym, ap, ◌∙◌, subst, inr, inl}
use Rattle.std.specs.Prelude.{All}
use Rattle.std.specs.Io.KnownBytes.{Appends}
use Rattle.std.proofs.KnownBytes.{Keeps-refl}
use Rattle.std.proofs.lemmas.Grind.{flat_map-append}
use Rattle.text_model.specs.declared.item.Item.{Item}
use Rattle.text_model.specs.declared.item.Reason.{Reason}
use Rattle.text_model.specs.declared.line.Line.{Line}
use Rattle.text_model.specs.Units.{Said}
use Rattle.text_model.specs.Text.{line_text, lines_text, IsProper}
use Rattle.store_model.specs.Progress.{Progress}
use Rattle.store_model.specs.Transcript.{Group, group_lines, transcript_text}
use Rattle.store_model.specs.EndOfRun.{TakesUnit, ExceedsLimit}
use Rattle.store_model.proofs.Proper.{ItemDoes-proper, ItemExceeds-proper}
use Rattle.heap_core.specs.Heap.{HeapSeen}
use Rattle.session_core.specs.Seen.{SessionSeen}
use Rattle.session_core.specs.Standing.{DoesItem, ExceedsItem, Answers, StandsAt}
use Rattle.session_core.specs.declared.session.RunFault.TheVariants.{Malformed as MalformedItem}
use Rattle.session_core.proofs.Places.{in_range_at}
use Rattle.script_convert.specs.Written.{WritesPart}
use Rattle.replay_top.specs.Written.{WritesLines}
use Rattle.replay_top.specs.Units.{EndsUnit}
use Rattle.replay_top.proofs.LimitLaws.{retained_exceed}
use Rattle.replay_top.specs.declared.line.Stop.{Stop}
use Rattle.replay_top.specs.declared.line.Stop.TheVariants.{Malformed, HeapLimit, OutOfMemory, ReadFault, WriteFault}

-- a unit says this item
pub record Says (unit : Said) (item : Item) : Type 0 where
  pub says : unit ≡ Ok (Some item)

pub says_item : (item : Item) → Says (Ok (Some item)) item
says_item item = record { says = refl }

text_of_groups : (groups : List Group) → lines_text (group_lines groups) ≡ transcript_text groups
text_of_groups [] = refl
text_of_groups (g ∷ groups) = flat_map-append line_text g.lines (group_lines groups) ∙ ap (λ rest. lines_text g.lines ++ rest) (text_of_groups groups)

-- the text of the lines that were appended to none
text_appended : (before lines : List Line) (groups : List Group) → before ≡ [] → lines ≡ before ++ group_lines groups → lines_text lines ≡ transcript_text groups
text_appended before lines groups none is = ap lines_text (is ∙ ap (λ (l : List Line). l ++ group_lines groups) none) ∙ text_of_groups groups

takes_unit : (p : Progress) (k : ℕ) (unit : Said) (item : Item) (before lines : List Line) (session : SessionSeen) (heap : HeapSeen)
    → Says unit item → (does : DoesItem session heap p item before lines) → TakesUnit p unit does.groups does.next
takes_unit p k unit item before lines session heap s does =
    record { item = item; says = s.says; accepted = does.accepted; does = does.does }

exceeds_unit : (p : Progress) (k : ℕ) (unit : Said) (item : Item) (counted request limit : ℕ) (before lines : List Line) (session : SessionSeen) (heap : HeapSeen)
    → Says unit item → (e : ExceedsItem session heap p item counted request limit before lines) → ExceedsLimit p unit counted request limit e.groups e.next
exceeds_unit p k unit item counted request limit before lines session heap s e =
    record { item = item; says = s.says; accepted = e.accepted; exceeds = e.exceeds }

-- what came of a unit whose item was done, by how its text was written
pub unit_done : (p : Progress) (k : ℕ) (unit : Said) (item : Item) (before_lines lines : List Line) (before written : Option (List ℕ)) (session : SessionSeen) (heap : HeapSeen) (r : Result (Unit {0}) Stop)
    → Says unit item → before_lines ≡ [] → DoesItem session heap p item before_lines lines → WritesLines lines before written r → EndsUnit p k unit before written session heap r
unit_done p k unit item before_lines lines before written session heap (Ok done) s none does text = record {
  groups = does.groups;
  after = does.next;
  takes = takes_unit p k unit item before_lines lines session heap s does;
  text = let P : List ℕ → Type 0 = Appends before written in subst P (text_appended before_lines lines does.groups none does.lines) text;
  stands = does.stands;
}
unit_done p k unit item before_lines lines before written session heap (Err WriteFault) s none does text = record {
  groups = does.groups;
  after = does.next;
  adds = inl (takes_unit p k unit item before_lines lines session heap s does);
  text = let P : List ℕ → Type 0 = WritesPart before written in subst P (text_appended before_lines lines does.groups none does.lines) text;
  stands = does.stands;
}
unit_done p k unit item before_lines lines before written session heap (Err OutOfMemory) s none does text = text
unit_done p k unit item before_lines lines before written session heap (Err (Malformed n reason)) s none does text = absurd text
unit_done p k unit item before_lines lines before written session heap (Err (HeapLimit n c q l)) s none does text = absurd text
unit_done p k unit item before_lines lines before written session heap (Err ReadFault) s none does text = absurd text

-- the same of a unit that the limit refused
pub unit_exceeds : (p : Progress) (k : ℕ) (unit : Said) (item : Item) (counted request limit : ℕ) (before_lines lines : List Line) (before written : Option (List ℕ)) (old session : SessionSeen) (old_heap heap : HeapSeen)
    → StandsAt old old_heap p → Says unit item → before_lines ≡ [] → ExceedsItem session heap p item counted request limit before_lines lines → Appends before written (lines_text lines)
    → EndsUnit p k unit before written session heap (Err (HeapLimit k counted request limit))
unit_exceeds p k unit item counted request limit before_lines lines before written old session old_heap heap stands s none e text = (
  refl,
  record {
    groups = e.groups;
    after = e.next;
    exceeds = exceeds_unit p k unit item counted request limit before_lines lines session heap s e;
    retained = retained_exceed p item counted request limit before_lines lines old session old_heap heap stands e;
    text = let P : List ℕ → Type 0 = Appends before written in subst P (text_appended before_lines lines e.groups none e.lines) text;
    stands = e.stands;
  },
)

pub unit_exceeds_cut : (p : Progress) (k : ℕ) (unit : Said) (item : Item) (counted request limit : ℕ) (before_lines lines : List Line) (before written : Option (List ℕ)) (session : SessionSeen) (heap : HeapSeen) (stop : Stop)
    → Says unit item → before_lines ≡ [] → ExceedsItem session heap p item counted request limit before_lines lines → WritesLines lines before written (Err stop)
    → EndsUnit p k unit before written session heap (Err stop)
unit_exceeds_cut p k unit item counted request limit before_lines lines before written session heap WriteFault s none e text = record {
  groups = e.groups;
  after = e.next;
  adds = inr (counted, request, limit, exceeds_unit p k unit item counted request limit before_lines lines session heap s e);
  text = let P : List ℕ → Type 0 = WritesPart before written in subst P (text_appended before_lines lines e.groups none e.lines) text;
  stands = e.stands;
}
unit_exceeds_cut p k unit item counted request limit before_lines lines before written session heap OutOfMemory s none e text = text
unit_exceeds_cut p k unit item counted request limit before_lines lines before written session heap (Malformed n reason) s none e text = absurd text
unit_exceeds_cut p k unit item counted request limit before_lines lines before written session heap (HeapLimit n c q l) s none e text = absurd text
unit_exceeds_cut p k unit item counted request limit before_lines lines before written session heap ReadFault s none e text = absurd text

-- and of a unit that the program refuses
pub unit_refused : (p : Progress) (k : ℕ) (unit : Said) (item : Item) (before_lines lines : List Line) (reason : Reason) (before : Option (List ℕ)) (session : SessionSeen) (heap : HeapSeen)
    → Says unit item → Answers p item session heap before_lines lines (Err (MalformedItem reason)) → EndsUnit p k unit before before session heap (Err (Malformed k reason))
unit_refused p k unit item before_lines lines reason before session heap s answer = (refl, inr (item, s.says, answer.0), Keeps-refl before, answer.2)

-- the lines that an item appends can be printed
pub lines_proper : (p : Progress) (item : Item) (before_lines lines : List Line) (old session : SessionSeen) (old_heap heap : HeapSeen)
    → StandsAt old old_heap p → before_lines ≡ [] → DoesItem session heap p item before_lines lines → All IsProper lines
lines_proper p item before_lines lines old session old_heap heap stands none does =
    let is : group_lines does.groups ≡ lines = sym (does.lines ∙ ap (λ (l : List Line). l ++ group_lines does.groups) none) in
    subst (λ (l : List Line). All IsProper l) is (ItemDoes-proper p item does.groups does.next (in_range_at old old_heap p stands) does.does)

-- and so can those of the limit's collections
pub lines_proper_at_limit : (p : Progress) (item : Item) (counted request limit : ℕ) (before_lines lines : List Line) (old session : SessionSeen) (old_heap heap : HeapSeen)
    → StandsAt old old_heap p → before_lines ≡ [] → ExceedsItem session heap p item counted request limit before_lines lines → All IsProper lines
lines_proper_at_limit p item counted request limit before_lines lines old session old_heap heap stands none e =
    let is : group_lines e.groups ≡ lines = sym (e.lines ∙ ap (λ (l : List Line). l ++ group_lines e.groups) none) in
    subst (λ (l : List Line). All IsProper l) is (ItemExceeds-proper p item counted request limit e.groups e.next (in_range_at old old_heap p stands) e.exceeds)
