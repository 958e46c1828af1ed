-- A heap that stands for a known store: which commands it can do, and what it stands for after a call.
use Rattle.std.proofs.Common.{◌≡◌, ℕ, ◌≤◌, Bool, true, false, List, Option, Some, None, option_map, sym, ap, ◌∙◌, subst}
use Rattle.type_table.specs.declared.info.TypeInfo.{TypeInfo}
use Rattle.type_table.specs.Table.{Table}
use Rattle.type_table.specs.Words.{words_in}
use Rattle.object_model.specs.declared.settings.Settings.{Settings}
use Rattle.object_model.specs.Setup.{Setup, young_words, type_at}
use Rattle.text_model.specs.declared.command.Command.{Command}
use Rattle.text_model.specs.declared.command.Command.TheVariants.{NewFixed}
use Rattle.text_model.specs.declared.line.Line.{Line}
use Rattle.store_model.specs.Store.{Store, empty_store}
use Rattle.store_model.specs.Birth.{with_birth}
use Rattle.store_model.specs.Births.{BirthWithRoomOf, fixed_request}
use Rattle.store_model.specs.Checks.{first_reason}
use Rattle.store_model.specs.Collections.{When, needs_block, exceeds_limit}
use Rattle.store_model.specs.Look.{Look, look}
use Rattle.store_model.specs.Steps.{Does}
use Rattle.store_model.specs.Refusal.{command_checks}
use Rattle.heap_parts.specs.Parts.{HeapParts}
use Rattle.heap_core.specs.Heap.{HeapSeen, StandsFor, StandsForIf}
use Rattle.heap_core.specs.Commands.{CanDo, CanDoIf, OfParts, IsFresh, Performs, setup_in}
use Rattle.heap_core.specs.TestStores.{Runs}
use Rattle.heap_core.proofs.LookLaws.{look_told}

same_setup : (parts : HeapParts) (setup : Setup) → Some parts.setup ≡ Some setup → parts.setup ≡ setup
same_setup parts setup e = cc

can_if : (setup : Setup) (spent : Bool) (parts : Option HeapParts) (store : Store) (command : Command)
    → option_map (λ (p : HeapParts). p.setup) parts ≡ Some setup → StandsForIf spent parts store
    → first_reason (command_checks setup (look store) command) ≡ None → CanDoIf spent parts command
can_if setup true parts store command is stands passed = tt
can_if setup false None store command is stands passed = absurd (let no : ⊥ = cc in no)
can_if setup false (Some parts) store command is stands passed = record {
  standing = record { store = store; stands = stands };
  accepted =
      subst (λ (seen : Look). first_reason (command_checks parts.setup seen command) ≡ None) (look_told parts store stands)
      (subst (λ (s : Setup). first_reason (command_checks s (look store) command) ≡ None) (sym (same_setup parts setup is)) passed);
}

-- it can do what is not refused in the store
pub can_do : (setup : Setup) (heap : HeapSeen) (store : Store) (command : Command) → Runs setup heap store
    → first_reason (command_checks setup (look store) command) ≡ None → CanDo heap command
can_do setup heap store command runs passed = can_if setup heap.is_spent heap.parts store command runs.setup_is runs.stands passed

-- it was just started
pub runs_started : (settings : Settings) (types : Table TypeInfo) (heap : HeapSeen) → IsFresh heap settings types
    → StandsFor heap (empty_store settings) → Runs (record { settings = settings; types = types }) heap (empty_store settings)
runs_started settings types heap fresh stands = record {
  live = ap (λ (h : HeapSeen). h.is_spent) fresh.is;
  setup_is = ap setup_in fresh.is ∙ ap (λ (parts : HeapParts). Some parts.setup) fresh.fresh.are;
  stands = stands;
}

-- what a call left
pub record Left (setup : Setup) (new : HeapSeen) (store : Store) (command : Command) : Type 0 where
  pub later : Store
  pub lines : List Line
  pub does : Does setup store command lines later
  pub runs : Runs setup new later

does_here : (setup : Setup) (parts : Option HeapParts) (store later : Store) (command : Command) (lines : List Line)
    → option_map (λ (p : HeapParts). p.setup) parts ≡ Some setup → OfParts parts (λ p. Does p.setup store command lines later) → Does setup store command lines later
does_here setup None store later command lines is does = absurd does
does_here setup (Some parts) store later command lines is does = subst (λ (s : Setup). Does s store command lines later) (same_setup parts setup is) does

-- a call did a command
pub left_by : {before after : List Line} (setup : Setup) (old new : HeapSeen) (store : Store) (command : Command) → Runs setup old store
    → Performs old new command before after → Left setup new store command
left_by setup old new store command runs p =
    let done = p.does store runs.stands in record {
      later = done.0;
      lines = p.lines;
      does = does_here setup old.parts store done.0 command p.lines runs.setup_is done.1;
      runs = record { live = p.same_spent ∙ runs.live; setup_is = p.setup ∙ runs.setup_is; stands = done.2 };
    }

-- where an event is not due, nothing changes
pub unless : (due : Bool) (Event : Store → List Line → Store → Type 0) (old : Store) (lines : List Line) (new : Store) → due ≡ false → When due Event old lines new → new ≡ old
unless true Event old lines new e h = absurd (let no : ⊥ = cc in no)
unless false Event old lines new e h = h.1

-- where nothing was pinned and there is room, an object of few words is born young
pub runs_born : {before after : List Line} (setup : Setup) (info : TypeInfo) (old new : HeapSeen) (store : Store) (root type_id : ℕ) → type_at setup type_id ≡ Some info
    → words_in info.shape 0 ≤ young_words setup.settings → store.gapped ≡ false
    → needs_block setup.settings store (words_in info.shape 0) ≡ false → exceeds_limit setup.settings store (words_in info.shape 0) ≡ false
    → Runs setup old store → Performs old new (NewFixed root type_id) before after → Runs setup new (with_birth false store info (fixed_request root type_id))
unfolding Does
runs_born setup info old new store root type_id known few flat room within runs p =
    let left = left_by setup old new store (NewFixed root type_id) runs p in
    let request = fixed_request root type_id in
    let birth = subst (λ (found : Option TypeInfo). BirthWithRoomOf found setup store request left.lines left.later) known left.does in
    let made = birth.made_room in
    let first : made.mid ≡ store = unless (needs_block setup.settings store (words_in info.shape 0)) _ store made.first made.mid room made.block in
    let second : birth.mid ≡ made.mid =
    unless (exceeds_limit setup.settings made.mid (words_in info.shape 0)) _ made.mid made.second birth.mid
    (ap (λ (s : Store). exceeds_limit setup.settings s (words_in info.shape 0)) first ∙ within) made.collect in
    let same : birth.mid ≡ store = second ∙ first in
    let young : birth.born.is_old ≡ false = birth.born.small few (ap (λ (s : Store). s.gapped) same ∙ flat) in
    let leaves : left.later ≡ with_birth false store info request =
    birth.born.leaves ∙ (ap (λ (is_old : Bool). with_birth is_old birth.mid info request) young ∙ ap (λ (s : Store). with_birth false s info request) same) in
    subst (λ (s : Store). Runs setup new s) leaves left.runs
