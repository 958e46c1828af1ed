-- Worked scripts, whose transcripts the definitions allow: the form of a row, and how it is proved by computation.
use Rattle.std.proofs.Common.{◌≡◌, ℕ, ◌+◌, ◌<◌, Bool, true, false, IsTrue, List, [], ◌∷◌, ◌++◌, map, length, Option, Some, None, refl, sym, ap, ◌∙◌, subst, inl, inr}
use Rattle.std.specs.Prelude.{◌&&◌, is_none, nat_lt, flat_map, codes, bytes_eq, Result, Ok, Err}
use Prim.Native.String.{String}
use Rattle.std.proofs.lemmas.Bool.{false≢true}
use Rattle.std.proofs.lemmas.Slice.Eq.{bytes_eq-Decides}
use Rattle.std.specs.Fmt.{digits}
use Rattle.text_model.specs.declared.command.Command.{Command}
use Rattle.text_model.specs.declared.item.Item.{Item}
use Rattle.text_model.specs.declared.item.Item.TheVariants.{Blank, Setting, TypeDef, Command as CommandItem}
use Rattle.text_model.specs.declared.item.Reason.{Reason}
use Rattle.text_model.specs.declared.line.Line.{Line}
use Rattle.text_model.specs.Range.{is_above}
use Rattle.store_model.specs.Store.{counted_words}
use Rattle.store_model.specs.Progress.{Progress, at_start, after_setting, after_type, after_command}
use Rattle.store_model.specs.Refusal.{refusal, refusal_seen}
use Rattle.store_model.specs.Births.{words_asked}
use Rattle.store_model.specs.Transcript.{Group, ItemDoes, ItemExceeds, Runs, transcript_text}
use Rattle.text_model.specs.Text.{words_text, lines_text}
use Rattle.text_model.specs.Lines.{lines_of}
use Rattle.text_model.specs.Numbers.{number_of}
use Rattle.text_model.specs.CommandGrammar.{new_form, link_form, copy_form, structure_form, slot_form, command_form}
use Rattle.text_model.specs.Grammar.{setting_of, setting_form, shape_words, type_form, form_of, item_of}
use Rattle.text_model.specs.Script.{reading, readings}
use Rattle.text_model.specs.Units.{Said, says_item}
use Rattle.store_model.specs.WholeUnits.{AreSaid, items_in}
use Rattle.store_model.specs.EndOfRun.{IsDone, IsRefused, ExceedsLimit}
use Rattle.object_model.proofs.Members.{and_first, and_second}
use Rattle.store_model.proofs.Computed.{Choice, Outcome, Out, ok_of, lines_in, store_in, left_in, outcome, room_of, is_empty}
use Rattle.store_model.proofs.Strict as strict
use Rattle.store_model.proofs.Allowed.{lt_of, room-means}
use Rattle.store_model.proofs.AllowedCommands.{outcome-means}

-- what has to unfold so that a script and its text are computed
unfoldable pub computes : Unit {0}
unfolding reading item_of form_of setting_form setting_of shape_words type_form command_form slot_form structure_form new_form link_form copy_form number_of is_above refusal_seen words_text digits
computes = tt

-- what items add, whether they may, where they lead, and the choices that are left
pub record Played : Type 0 where
  pub ok : Bool
  pub groups : List Group
  pub after : Progress
  pub left : List Choice

abbrev pub group_of : Command → List Line → List Group
group_of command lines = record { command = command; lines = lines } ∷ []

abbrev pub play_on : Bool → Bool → List Group → Played → Played
play_on accepted ok groups rest = record rest { ok = accepted && (ok && rest.ok); groups = groups ++ rest.groups }

abbrev pub Next : Type 0
Next = Progress → List Choice → Played

abbrev pub play_command : Bool → Next → Progress → Command → Outcome → Played
play_command accepted next at command (Out ok lines store left) =
    play_on accepted ok (group_of command lines) (strict.store store (λ s. strict.list strict.skip left (λ c. next (after_command at s) c)))

abbrev pub play_one : Bool → Next → Progress → Item → List Choice → Played
play_one accepted next at Blank choices = play_on accepted true [] (next at choices)
play_one accepted next at (Setting name value) choices = play_on accepted true [] (next (after_setting at name value) choices)
play_one accepted next at (TypeDef id info) choices = play_on accepted true [] (next (after_type at id info) choices)
play_one accepted next at (CommandItem command) choices = play_command accepted next at command (outcome at.setup command at.store choices)

abbrev pub play : List Item → Next
play [] at choices = record { ok = true; groups = []; after = at; left = choices }
play (item ∷ items) at choices = play_one (is_none (refusal at item)) (play items) at item choices

none_is : {X : Type 0} (o : Option X) → IsTrue (is_none o) → o ≡ None
none_is None h = refl
none_is (Some x) h = absurd (false≢true h)

command-is : (accepted : Bool) (next : Next) (at : Progress) (command : Command) (out : Outcome)
    → play_command accepted next at command out ≡ play_on accepted (ok_of out) (group_of command (lines_in out)) (next (after_command at (store_in out)) (left_in out))
command-is accepted next at command (Out ok lines store left) =
    ap (play_on accepted ok (group_of command lines))
    (strict.store-is store (λ s. strict.list strict.skip left (λ c. next (after_command at s) c)) ∙ strict.list-is strict.skip strict.skip-is left (next (after_command at store)))

abbrev Plays : Progress → List Item → Played → Type 0
Plays at items all = IsTrue all.ok → Runs at items all.groups all.after

-- an item that is not refused, and then the rest
item-runs : (at : Progress) (item : Item) (items : List Item) (ok : Bool) (groups : List Group) (mid : Progress) (rest : Played) → (IsTrue ok → ItemDoes at item groups mid) → Plays mid items rest
    → Plays at (item ∷ items) (play_on (is_none (refusal at item)) ok groups rest)
item-runs at item items ok groups mid rest does runs h =
    let accepted : Bool = is_none (refusal at item) in
    let both : IsTrue (ok && rest.ok) = and_second accepted (ok && rest.ok) h in
    (groups, rest.groups, mid, refl, none_is (refusal at item) (and_first accepted (ok && rest.ok) h), does (and_first ok rest.ok both), runs (and_second ok rest.ok both))

play-runs : (items : List Item) (at : Progress) (choices : List Choice) → Plays at items (play items at choices)
unfolding ItemDoes
play-runs [] at choices = λ h. (refl, refl)
play-runs (Blank ∷ items) at choices = item-runs at Blank items true [] at (play items at choices) (λ h. (refl, refl)) (play-runs items at choices)
play-runs (Setting name value ∷ items) at choices =
    let mid : Progress = after_setting at name value in item-runs at (Setting name value) items true [] mid (play items mid choices) (λ h. (refl, refl)) (play-runs items mid choices)
play-runs (TypeDef id info ∷ items) at choices =
    let mid : Progress = after_type at id info in item-runs at (TypeDef id info) items true [] mid (play items mid choices) (λ h. (refl, refl)) (play-runs items mid choices)
play-runs (CommandItem command ∷ items) at choices =
    let out : Outcome = outcome at.setup command at.store choices in
    let mid : Progress = after_command at (store_in out) in
    subst (Plays at (CommandItem command ∷ items)) (sym (command-is (is_none (refusal at (CommandItem command))) (play items) at command out))
    (item-runs at (CommandItem command) items (ok_of out) (group_of command (lines_in out)) mid (play items mid (left_in out))
    (λ h. record { lines = lines_in out; store = store_in out; does = outcome-means at.setup command at.store choices h; groups_are = refl; leaves = refl })
    (play-runs items mid (left_in out)))

-- the items that lines say, and whether each says one
abbrev pub items_of : List (Result Item Reason) → List Item
items_of [] = []
items_of (Ok item ∷ rest) = item ∷ items_of rest
items_of (Err reason ∷ rest) = items_of rest

abbrev pub all_say : List (Result Item Reason) → Bool
all_say [] = true
all_say (Ok item ∷ rest) = all_say rest
all_say (Err reason ∷ rest) = false

say-is : (rs : List (Result Item Reason)) → IsTrue (all_say rs) → map says_item rs ≡ map (λ item. Ok item) (map (λ item. Some item) (items_of rs))
say-is [] h = refl
say-is (Ok item ∷ rest) h = ap (λ (units : List Said). Ok (Some item) ∷ units) (say-is rest h)
say-is (Err reason ∷ rest) h = absurd (false≢true h)

all-items : (items : List Item) → items ≡ items_in (map (λ item. Some item) items)
all-items [] = refl
all-items (item ∷ items) = ap (λ (rest : List Item). item ∷ rest) (all-items items)

are-said : (rs : List (Result Item Reason)) → IsTrue (all_say rs) → AreSaid (map says_item rs) (items_of rs)
are-said rs h = record { said = map (λ item. Some item) (items_of rs); units_are = say-is rs h; items_are = all-items (items_of rs) }

-- the bytes of lines
abbrev pub text_of : List String → List ℕ
text_of lines = flat_map (λ line. codes line ++ 10 ∷ []) lines

abbrev pub said : List String → List (Result Item Reason)
said script = readings 1 (lines_of (text_of script))

-- the units of lines
abbrev pub units : List String → List Said
units script = map says_item (said script)

-- the script is done to its end, and this is its text
pub record Allows (script text : List String) : Type 0 where
  pub after : Progress
  pub done : IsDone (units script) (text_of text) after

-- the lines in front are done with this text, and the next line is refused
pub record Refuses (front : List String) (line : String) (text : List String) (reason : Reason) : Type 0 where
  pub after : Progress
  pub done : IsDone (units front) (text_of text) after
  pub refused : IsRefused after (says_item (reading (length front + 1) (codes line))) reason

-- the lines in front are done, the limit refuses the next one, and this is the text of both
pub record Exceeds (front : List String) (line : String) (text : List String) (counted request limit : ℕ) : Type 0 where
  pub mid : Progress
  pub first : List ℕ
  pub done : IsDone (units front) first mid
  pub groups : List Group
  pub after : Progress
  pub exceeds : ExceedsLimit mid (says_item (reading (length front + 1) (codes line))) counted request limit groups after
  pub whole : text_of text ≡ first ++ transcript_text groups

abbrev pub played : List String → List Choice → Played
played script choices = play (items_of (said script)) at_start choices

abbrev pub fits : Bool → List ℕ → Played → Bool
fits say text all = say && (all.ok && (is_empty all.left && bytes_eq text (transcript_text all.groups)))

-- whether the script is done to its end, by all of these choices, with this text
abbrev pub plays : List String → List String → List Choice → Bool
plays script text choices = fits (all_say (said script)) (text_of text) (played script choices)

done-is : (script text : List String) (choices : List Choice) → IsTrue (plays script text choices) → IsDone (units script) (text_of text) (played script choices).after
done-is script text choices h =
    let all : Played = played script choices in
    let say : Bool = all_say (said script) in
    let same : Bool = bytes_eq (text_of text) (transcript_text all.groups) in
    let rest : IsTrue (all.ok && (is_empty all.left && same)) = and_second say (all.ok && (is_empty all.left && same)) h in record {
      items = items_of (said script);
      groups = all.groups;
      read = are-said (said script) (and_first say (all.ok && (is_empty all.left && same)) h);
      runs = play-runs (items_of (said script)) at_start choices (and_first all.ok (is_empty all.left && same) rest);
      text_is = (bytes_eq-Decides (text_of text) (transcript_text all.groups)).0 (and_second (is_empty all.left) same (and_second all.ok (is_empty all.left && same) rest));
    }

pub allows : {script text : List String} (choices : List Choice) → IsTrue (plays script text choices) → Allows script text
allows {script} {text} choices h = record { after = (played script choices).after; done = done-is script text choices h }

-- why a line that reads so is refused, if it is
abbrev pub stop_of : Result Item Reason → Progress → Option Reason
stop_of (Err reason) at = Some reason
stop_of (Ok item) at = refusal at item

some-same : (a b : Reason) → Some a ≡ Some b → a ≡ b
some-same a b e = cc

stop-is : (k : ℕ) (line : List ℕ) (at : Progress) (reason : Reason) (read : Result Item Reason) → reading k line ≡ read → stop_of read at ≡ Some reason → IsRefused at (says_item (reading k line)) reason
stop-is k line at reason (Err other) e is = inl (ap says_item e ∙ ap (λ (r : Reason). Err r) (some-same other reason is))
stop-is k line at reason (Ok item) e is = inr (item, ap says_item e, is)

pub refuses : {front text : List String} {line : String} {reason : Reason} (choices : List Choice) → IsTrue (plays front text choices)
    → stop_of (reading (length front + 1) (codes line)) (played front choices).after ≡ Some reason → Refuses front line text reason
refuses {front} {text} {line} {reason} choices h is = record {
  after = (played front choices).after;
  done = done-is front text choices h;
  refused = stop-is (length front + 1) (codes line) (played front choices).after reason (reading (length front + 1) (codes line)) refl is;
}

-- what the collections before a refused birth print and leave
abbrev pub refused_room : Progress → ℕ → List Choice → Outcome
refused_room at request choices = room_of at.setup.settings request at.store choices

-- the choices of the lines in front, and those of the collections of the refused line
pub exceeds : {front text : List String} {line : String} {counted request limit : ℕ} (first : List String) (choices more : List Choice) → IsTrue (plays front first choices) → (command : Command)
    → reading (length front + 1) (codes line) ≡ Ok (CommandItem command) → refusal (played front choices).after (CommandItem command) ≡ None
    → words_asked (played front choices).after.setup command ≡ Some request
    → IsTrue (ok_of (refused_room (played front choices).after request more))
    → IsTrue (nat_lt limit (counted_words (store_in (refused_room (played front choices).after request more)) + request))
    → counted ≡ counted_words (store_in (refused_room (played front choices).after request more)) → limit ≡ (played front choices).after.setup.settings.limit
    → text_of text ≡ text_of first ++ (lines_text (lines_in (refused_room (played front choices).after request more)) ++ [])
    → Exceeds front line text counted request limit
unfolding ItemExceeds
exceeds {front} {text} {line} {counted} {request} {limit} first choices more h command says accepted asks ok over counted_are limit_is whole =
    let at : Progress = (played front choices).after in
    let room : Outcome = refused_room at request more in record {
      mid = at;
      first = text_of first;
      done = done-is front first choices h;
      groups = record { command = command; lines = (lines_in room) } ∷ [];
      after = after_command at (store_in room);
      exceeds = record {
        item = CommandItem command;
        says = ap says_item says;
        accepted = accepted;
        exceeds = record {
          lines = (lines_in room);
          store = (store_in room);
          asks = asks;
          no_room = record {
            made_room = room-means at.setup.settings request at.store more ok;
            exceeds = subst (λ (n : ℕ). n < counted_words (store_in room) + request) limit_is (lt_of limit (counted_words (store_in room) + request) over);
          };
          counted_are = counted_are;
          limit_is = limit_is;
          groups_are = refl;
          leaves = refl;
        };
      };
      whole = whole;
    }
