-- Commands that collect, and births with what comes before them.
use Rattle.std.proofs.Common.{◌≡◌, ℕ, ◌+◌, ◌<◌, ◌≤◌, Bool, true, false, List, [], ◌∷◌, ◌++◌, Option, Some, None, refl, sym, ap, ◌∙◌, subst, arith}
use Rattle.type_table.specs.declared.info.TypeInfo.{TypeInfo}
use Rattle.type_table.specs.Table.{value_at}
use Rattle.type_table.specs.Words.{words_in}
use Rattle.text_model.specs.declared.command.Command.{Command}
use Rattle.text_model.specs.declared.command.Command.TheVariants.{NewFixed, NewArray, NewWeak, Minor, Step, Collect}
use Rattle.text_model.specs.declared.line.Line.{Line}
use Rattle.text_model.specs.declared.line.Line.TheVariants.{Born}
use Rattle.object_model.specs.Newborn.{Request}
use Rattle.object_model.specs.Setup.{Setup, young_words}
use Rattle.store_model.specs.Store.{Store, counted_words}
use Rattle.store_model.specs.Collections.{MakesRoom}
use Rattle.store_model.specs.Slots.{held}
use Rattle.store_model.specs.Birth.{BirthOf, with_birth}
use Rattle.store_model.specs.Births.{BirthWithRoomOf, Births, array_request, weak_request, words_asked, words_of_type}
use Rattle.store_model.specs.Steps.{Does}
use Rattle.store_model.specs.Look.{Look}
use Rattle.store_model.specs.Checks.{first_reason}
use Rattle.store_model.specs.Refusal.{command_checks}
use Rattle.store_model.specs.Progress.{Progress, after_command}
use Rattle.store_model.specs.Transcript.{CommandExceeds}
use Rattle.text_model.specs.Range.{is_above}
use Rattle.parts_model.specs.Parts.{HeapParts}
use Rattle.parts_model.specs.StandsFor.{PartsStandFor}
use Rattle.parts_model.specs.Collects.{CollectsMinor}
use Rattle.collect_laws.specs.Events.{EventOf, Undergoes, Doing}
use Rattle.collect_laws.specs.Collections.{CollectsStep, CollectsAll, MakesRoomFor}
use Rattle.collect_laws.specs.Room.{HasRoomFor, FindsNoRoom, IsCommandRefused, BearsOne}
use Rattle.collect_laws.proofs.TestLaws.{counted_in}
use Rattle.collect_laws.proofs.BlockLaws.{as_event, in_turn}
use Rattle.collect_laws.proofs.Cleared.{room_clears}

-- The three commands that collect.
pub minor_does : {old new : HeapParts} {before after : List Line} → CollectsMinor old new before after → Undergoes (Doing Minor) old new before after
unfolding Does
minor_does c = record {
  setup = c.setup;
  lines = c.lines;
  appended = c.appended;
  leads = λ store s. let l = c.collects store s in (l.0, l.1, l.2.stands);
}

pub step_does : {old new : HeapParts} {before after : List Line} → CollectsStep old new before after → Undergoes (Doing Step) old new before after
unfolding Does
step_does u = as_event (λ store lines later s t block. block) u

pub collect_does : {old new : HeapParts} {before after : List Line} → CollectsAll old new before after → Undergoes (Doing Collect) old new before after
unfolding Does
collect_does u = as_event (λ store lines later s t collects. collects) u

-- The limit refuses the birth of a command.
pub command_refused : {old new : HeapParts} {before after : List Line} (command : Command) (counted request limit : ℕ) → words_asked old.setup command ≡ Some request
    → FindsNoRoom request counted limit old new before after → Undergoes (IsCommandRefused command counted request limit) old new before after
command_refused command counted request limit asks u = as_event (λ store lines later s t refused. record { asks = asks; refused = refused }) u

-- and so the transcript ends where a script stands
pub command_exceeds : (old : Progress) (command : Command) (counted request limit : ℕ) (lines : List Line) (later : Store)
    → IsCommandRefused command counted request limit old.setup old.store lines later
    → CommandExceeds old command counted request limit (record { command = command; lines = lines } ∷ []) (after_command old later)
command_exceeds old command counted request limit lines later r = record {
  lines = lines;
  store = later;
  asks = r.asks;
  no_room = r.refused.no_room;
  counted_are = r.refused.counted_are;
  limit_is = r.refused.limit_is;
  groups_are = refl;
  leaves = refl;
}

-- the words that births ask for
pub fixed_asks : (setup : Setup) (root type_id : ℕ) (info : TypeInfo) → value_at setup.types type_id ≡ Some info → words_asked setup (NewFixed root type_id) ≡ Some (words_in info.shape 0)
fixed_asks setup root type_id info known = ap (λ (found : Option TypeInfo). words_of_type found 0) known

pub array_asks : (setup : Setup) (root type_id len : ℕ) (info : TypeInfo) → value_at setup.types type_id ≡ Some info → words_asked setup (NewArray root type_id len) ≡ Some (words_in info.shape len)
array_asks setup root type_id len info known = ap (λ (found : Option TypeInfo). words_of_type found len) known

pub weak_asks : (setup : Setup) (root type_id target : ℕ) (info : TypeInfo) → value_at setup.types type_id ≡ Some info → words_asked setup (NewWeak root type_id target) ≡ Some (words_in info.shape 0)
weak_asks setup root type_id target info known = ap (λ (found : Option TypeInfo). words_of_type found 0) known

-- commands that collect are never refused
pub minor_accepted : (setup : Setup) (seen : Look) → first_reason (command_checks setup seen Minor) ≡ None
unfolding is_above
minor_accepted setup seen = refl

pub step_accepted : (setup : Setup) (seen : Look) → first_reason (command_checks setup seen Step) ≡ None
unfolding is_above
step_accepted setup seen = refl

pub collect_accepted : (setup : Setup) (seen : Look) → first_reason (command_checks setup seen Collect) ≡ None
unfolding is_above
collect_accepted setup seen = refl

-- A birth of the parts is one of each store that they stand for, where the store tells what is asked for.
pub bears_one : {old new : HeapParts} {before after : List Line} (info : TypeInfo) (request_in : Store → Request) (items : ℕ) (is_old : Bool)
    → ((store : Store) → (request_in store).items ≡ items) → new.setup ≡ old.setup
    → (young_words old.setup.settings < words_in info.shape items → is_old ≡ true)
    → (words_in info.shape items ≤ young_words old.setup.settings → old.gapped ≡ false → is_old ≡ false)
    → after ≡ before ++ Born old.next is_old ∷ []
    → ((store : Store) → PartsStandFor old store → PartsStandFor new (with_birth is_old store info (request_in store)))
    → BearsOne info request_in old new before after
bears_one {old = old} info request_in items is_old many setup large small appended stands = record {
  setup = setup;
  lines = Born old.next is_old ∷ [];
  appended = appended;
  leads = λ store s. (
    with_birth is_old store info (request_in store),
    record {
      is_old = is_old;
      large = λ more. large (subst (λ (k : ℕ). young_words old.setup.settings < words_in info.shape k) (many store) more);
      small = λ few ungapped. small (subst (λ (k : ℕ). words_in info.shape k ≤ young_words old.setup.settings) (many store) few) (sym s.counts.gapped_is ∙ ungapped);
      printed = ap (λ (k : ℕ). Born k is_old ∷ []) (sym s.counts.next_is);
      leaves = refl;
    },
    stands store s,
  );
}

-- births of what the store tells
abbrev pub BirthsIn : (Store → Request) → EventOf
BirthsIn request_in setup store lines later = Births setup store (request_in store) lines later

-- The object is born after what comes before it.
pub births_in : {old mid new : HeapParts} {before between after : List Line} (type_id : ℕ) (info : TypeInfo) (request_in : Store → Request) (items : ℕ)
    → ((store : Store) → (request_in store).items ≡ items) → ((store : Store) → (request_in store).type_id ≡ type_id)
    → ((store later : Store) → later.slots ≡ store.slots → request_in later ≡ request_in store)
    → value_at old.setup.types type_id ≡ Some info
    → MakesRoomFor (words_in info.shape items) old mid before between → HasRoomFor mid (words_in info.shape items) → BearsOne info request_in mid new between after
    → Undergoes (BirthsIn request_in) old new before after
births_in {old = old} {mid = mid} type_id info request_in items many kind same known made room born = in_turn (λ store first half second later s t v makes bears.
    subst (λ (found : Option TypeInfo). BirthWithRoomOf found old.setup store (request_in store) (first ++ second) later)
    (sym (ap (λ (k : ℕ). value_at old.setup.types k) (kind store) ∙ known))
    (record {
      mid = half;
      before = first;
      own = second;
      made_room = subst (λ (k : ℕ). MakesRoom old.setup.settings store (words_in info.shape k) first half) (sym (many store)) makes;
      fits = subst (λ (k : ℕ). counted_words half + words_in info.shape k ≤ old.setup.settings.limit) (sym (many store))
          (let all = counted_in t in let limit = room.limit in let one = ap (λ (setup : Setup). setup.settings.limit) made.setup in omega (arith, all, limit, one));
      born = subst (λ (request : Request). BirthOf old.setup info half request second later)
          (same store half (room_clears old.setup.settings store (words_in info.shape items) first half makes).slots) bears;
      printed = refl;
    })) made born

-- and so for each command
pub new_fixed_does : {old mid new : HeapParts} {before between after : List Line} (root type_id : ℕ) (info : TypeInfo) → value_at old.setup.types type_id ≡ Some info
    → MakesRoomFor (words_in info.shape 0) old mid before between → HasRoomFor mid (words_in info.shape 0) → BearsOne info (λ store. array_request root type_id 0) mid new between after
    → Undergoes (Doing (NewFixed root type_id)) old new before after
unfolding Does
new_fixed_does root type_id info known made room born = as_event (λ store lines later s t births. births)
    (births_in type_id info (λ store. array_request root type_id 0) 0 (λ store. refl) (λ store. refl) (λ store later e. refl) known made room born)

pub new_array_does : {old mid new : HeapParts} {before between after : List Line} (root type_id len : ℕ) (info : TypeInfo) → value_at old.setup.types type_id ≡ Some info
    → MakesRoomFor (words_in info.shape len) old mid before between → HasRoomFor mid (words_in info.shape len) → BearsOne info (λ store. array_request root type_id len) mid new between after
    → Undergoes (Doing (NewArray root type_id len)) old new before after
unfolding Does
new_array_does root type_id len info known made room born = as_event (λ store lines later s t births. births)
    (births_in type_id info (λ store. array_request root type_id len) len (λ store. refl) (λ store. refl) (λ store later e. refl) known made room born)

pub new_weak_does : {old mid new : HeapParts} {before between after : List Line} (root type_id target : ℕ) (info : TypeInfo) → value_at old.setup.types type_id ≡ Some info
    → MakesRoomFor (words_in info.shape 0) old mid before between → HasRoomFor mid (words_in info.shape 0) → BearsOne info (λ store. weak_request store root type_id target) mid new between after
    → Undergoes (Doing (NewWeak root type_id target)) old new before after
unfolding Does
new_weak_does root type_id target info known made room born = as_event (λ store lines later s t births. births)
    (births_in type_id info (λ store. weak_request store root type_id target) 0 (λ store. refl) (λ store. refl)
    (λ store later e. ap (λ (slots : List (Option ℕ)). record { slot = root; type_id = type_id; items = 0; target = held slots target }) e) known made room born)
