-- What an item that is not refused does where a session and its heap stand.
use Rattle.std.proofs.Common.{◌≡◌, ℕ, Bool, true, List, [], ◌∷◌, ◌++◌, Option, Some, None, Err, false, refl, sym, ap, ◌∙◌, subst, inl, inr, append-nil, option_map}
use Rattle.std.specs.Prelude.{is_none, is_some, not, slice_get}
use Rattle.type_table.specs.declared.info.TypeInfo.{TypeInfo}
use Rattle.type_table.specs.Table.{Table, with_value}
use Rattle.text_model.specs.declared.command.Command.{Command}
use Rattle.text_model.specs.declared.item.Item.{Item}
use Rattle.text_model.specs.declared.item.Item.TheVariants.{Blank, Setting, TypeDef, Command as CommandItem}
use Rattle.text_model.specs.declared.item.Reason.TheVariants.{Late, SetTwice, SetRange}
use Rattle.text_model.specs.declared.line.Line.{Line}
use Rattle.object_model.specs.declared.settings.Settings.{Settings}
use Rattle.object_model.specs.Setup.{Setup, type_at}
use Rattle.object_model.specs.SettingRanges.{is_outside, ranges}
use Rattle.object_model.specs.Sets.{is_in}
use Rattle.store_model.specs.Store.{Store, empty_store}
use Rattle.store_model.specs.Steps.{Does}
use Rattle.store_model.specs.Progress.{Progress, with_setting, after_setting, after_type, after_command}
use Rattle.store_model.specs.Checks.{first_reason}
use Rattle.store_model.specs.Look.{Look}
use Rattle.store_model.specs.Refusal.{refusal_seen, command_checks}
use Rattle.store_model.specs.Transcript.{ItemDoes}
use Rattle.heap_parts.specs.Parts.{HeapParts, word_in, place_in}
use Rattle.heap_parts.specs.Told.{told}
use Rattle.heap_core.specs.Heap.{HeapSeen, heap_of, closed_heap, StandsFor}
use Rattle.heap_core.specs.Commands.{OfParts, AreReady, CanDo, IsFresh, Performs, Keeps, setup_in, told_by, nothing_told, type_found}
use Rattle.heap_core.specs.Found.{found_in}
use Rattle.heap_core.proofs.LookLaws.{look_told}
use Rattle.heap_core.proofs.FoundCalls.{found-none}
use Rattle.session_core.specs.declared.session.RunFault.{RunFault}
use Rattle.session_core.specs.declared.session.RunFault.TheVariants.{OutOfMemory}
use Rattle.session_core.specs.Blocks.{NoBlock, LeavesStore, LeavesOff, makes_blocks}
use Rattle.session_core.specs.Finding.{of_fields, of_sources, found_for, source_for, of_births, type_for}
use Rattle.session_core.specs.Seen.{SessionSeen}
use Rattle.session_core.specs.Standing.{IsStarted, HasHeap, HasStore, StandsAt, IsPlaced, DoesItem, KeepsFront, Answers, Sets, Adds, Begins, types_in, table_of, seen_if, setup_of, refusal_of}
use Rattle.session_core.proofs.Passing.{passed}
use Rattle.session_core.proofs.Looks.{refusal_is, look-empty}

some_table : (types : Option (Table TypeInfo)) → is_none types ≡ false → (table : Table TypeInfo) × (types ≡ Some table)
some_table None e = absurd (let no : ⊥ = cc in no)
some_table (Some table) e = (table, refl)

pub heap_started : (session : SessionSeen) (heap : HeapSeen) → session.types ≡ None → IsPlaced session heap → IsStarted session.settings heap
heap_started session heap is placed = subst (λ (t : Option (Table TypeInfo)). HasHeap t session.settings heap) is placed.stands.has_heap

pub does_blank : (session : SessionSeen) (heap : HeapSeen) (at : Progress) (item : Item) (before : List Line)
    → item ≡ Blank → refusal_of session heap item ≡ None → StandsAt session heap at → DoesItem session heap at item before before
unfolding ItemDoes
does_blank session heap at item before is accepted stands = record {
  groups = [];
  next = at;
  accepted = refusal_is session heap at item stands ∙ accepted;
  does = rw is (refl, refl);
  lines = sym (append-nil before);
  stands = stands;
}

-- a setting that is not refused comes before the first command, and lies in its range
pub setting_accepted : (session : SessionSeen) (heap : HeapSeen) (item : Item) (name value : ℕ) → item ≡ Setting name value
    → refusal_of session heap item ≡ None → (is_none session.types ≡ false) × (is_outside (slice_get ranges name) value ≡ false)
unfolding refusal_seen
setting_accepted session heap item name value is accepted =
    let now : refusal_of session heap (Setting name value) ≡ None = ap (refusal_of session heap) (sym is) ∙ accepted in
    let early = passed (is_none session.types) Late _ now in
    let once = passed (is_in name session.names) SetTwice _ early.1 in
    (early.0, (passed (is_outside (slice_get ranges name) value) SetRange None once.1).0)

stands_set : (session new : SessionSeen) (heap : HeapSeen) (at : Progress) (table : Table TypeInfo) (name value : ℕ) → session.types ≡ Some table
    → Sets session new name value → StandsAt session heap at → StandsAt new heap (after_setting at name value)
stands_set session new heap at table name value is sets stands =
    let new_is : new.types ≡ Some table = sets.types ∙ is in
    let settings : with_setting at.setup.settings name value ≡ new.settings =
    ap (λ (s : Setup). with_setting s.settings name value) stands.setup ∙ sym sets.settings in
    let types : at.setup.types ≡ types_in new.types heap = ap (λ (s : Setup). s.types) stands.setup ∙ ap (λ (t : Option (Table TypeInfo)). types_in t heap) (sym sets.types) in
    let setup : (after_setting at name value).setup ≡ setup_of new heap = λ i. record { settings = settings i; types = types i } in
    record {
      has_heap = subst (λ (t : Option (Table TypeInfo)). HasHeap t new.settings heap) (sym new_is)
          (subst (λ (t : Option (Table TypeInfo)). HasHeap t session.settings heap) is stands.has_heap);
      setup = setup;
      names = ap (λ (ns : List ℕ). ns ++ name ∷ []) stands.names ∙ sym sets.names;
      late = ap is_none (sym new_is);
      store = subst (λ (t : Option (Table TypeInfo)). HasStore t new.settings heap (empty_store (with_setting at.setup.settings name value))) (sym new_is) (ap empty_store settings);
    }

pub does_setting : (session new : SessionSeen) (heap : HeapSeen) (at : Progress) (item : Item) (name value : ℕ) (before : List Line)
    → item ≡ Setting name value → refusal_of session heap item ≡ None → Sets session new name value
    → StandsAt session heap at → DoesItem new heap at item before before
unfolding ItemDoes
does_setting session new heap at item name value before is accepted sets stands =
    let found = some_table session.types (setting_accepted session heap item name value is accepted).0 in record {
      groups = [];
      next = after_setting at name value;
      accepted = refusal_is session heap at item stands ∙ accepted;
      does = rw is (refl, refl);
      lines = sym (append-nil before);
      stands = stands_set session new heap at found.0 name value found.1 sets stands;
    }

type_early : (session : SessionSeen) (heap : HeapSeen) (item : Item) (id : ℕ) (info : TypeInfo) → item ≡ TypeDef id info
    → refusal_of session heap item ≡ None → is_none session.types ≡ false
unfolding refusal_seen
type_early session heap item id info is accepted =
    let now : refusal_of session heap (TypeDef id info) ≡ None = ap (refusal_of session heap) (sym is) ∙ accepted in
    (passed (is_none session.types) Late _ now).0

stands_typed : (session new : SessionSeen) (heap : HeapSeen) (at : Progress) (table : Table TypeInfo) (id : ℕ) (info : TypeInfo) → session.types ≡ Some table
    → Adds session new id info → StandsAt session heap at → StandsAt new heap (after_type at id info)
stands_typed session new heap at table id info is adds stands =
    let new_is : new.types ≡ Some (with_value table id info) = adds.types ∙ ap (option_map (λ (t : Table TypeInfo). with_value t id info)) is in
    let settings : at.setup.settings ≡ new.settings = ap (λ (s : Setup). s.settings) stands.setup ∙ sym adds.settings in
    let known : at.setup.types ≡ table = ap (λ (s : Setup). s.types) stands.setup ∙ ap (λ (t : Option (Table TypeInfo)). types_in t heap) is in
    let types : with_value at.setup.types id info ≡ types_in new.types heap =
    ap (λ (t : Table TypeInfo). with_value t id info) known ∙ ap (λ (t : Option (Table TypeInfo)). types_in t heap) (sym new_is) in
    let setup : (after_type at id info).setup ≡ setup_of new heap = λ i. record { settings = settings i; types = types i } in
    record {
      has_heap = subst (λ (t : Option (Table TypeInfo)). HasHeap t new.settings heap) (sym new_is)
          (subst (λ (t : Option (Table TypeInfo)). HasHeap t session.settings heap) is stands.has_heap);
      setup = setup;
      names = stands.names ∙ sym adds.names;
      late = ap is_none (sym new_is);
      store = subst (λ (t : Option (Table TypeInfo)). HasStore t new.settings heap (empty_store at.setup.settings)) (sym new_is) (ap empty_store settings);
    }

pub does_type : (session new : SessionSeen) (heap : HeapSeen) (at : Progress) (item : Item) (id : ℕ) (info : TypeInfo) (before : List Line)
    → item ≡ TypeDef id info → refusal_of session heap item ≡ None → Adds session new id info
    → StandsAt session heap at → DoesItem new heap at item before before
unfolding ItemDoes
does_type session new heap at item id info before is accepted adds stands =
    let found = some_table session.types (type_early session heap item id info is accepted) in record {
      groups = [];
      next = after_type at id info;
      accepted = refusal_is session heap at item stands ∙ accepted;
      does = rw is (refl, refl);
      lines = sym (append-nil before);
      stands = stands_typed session new heap at found.0 id info found.1 adds stands;
    }

-- a table that is not there
pub no_table : (types : Option (Table TypeInfo)) (none : Bool) → is_some types ≡ not none → none ≡ true → types ≡ None
no_table None none e is = refl
no_table (Some table) none e is = absurd (let no : true ≡ false = e ∙ ap (λ (b : Bool). not b) is in let never : ⊥ = cc in never)

-- the heap is there already
pub begins_again : (session new : SessionSeen) (heap : HeapSeen) → session.types ≡ None → new ≡ session → IsPlaced session heap → Begins session new heap heap
begins_again session new heap is same placed = record {
  types = ap (λ (s : SessionSeen). s.types) same ∙ is;
  settings = ap (λ (s : SessionSeen). s.settings) same;
  names = ap (λ (s : SessionSeen). s.names) same;
  has_heap = heap_started session heap is placed;
  table = ap (λ (t : Option (Table TypeInfo)). types_in t heap) (sym is);
  told = ap (λ (t : Option (Table TypeInfo)). seen_if t heap) (sym is);
  founds = λ root. refl;
  stores = λ store stands. subst (λ (t : Option (Table TypeInfo)). HasStore t session.settings heap store) is stands;
}

-- while the session has the types, nothing is found in the heap
pub nothing_found : (session : SessionSeen) (heap : HeapSeen) (types : Table TypeInfo) (root : ℕ) → session.types ≡ Some types → IsPlaced session heap
    → found_in heap root ≡ None
nothing_found session heap types root is placed =
    let closed : heap ≡ closed_heap = subst (λ (t : Option (Table TypeInfo)). HasHeap t session.settings heap) is placed.stands.has_heap in
    ap (λ (h : HeapSeen). found_in h root) closed

-- nor in a heap of which nothing is told
found_untold : (parts : HeapParts) (root : ℕ) → told parts ≡ nothing_told → found_in (heap_of parts) root ≡ None
found_untold parts root told_is = found-none parts.setup.types (word_in parts) (place_in parts root) (ap (λ (l : Look). l.kind root) told_is)

-- the heap is started
pub begins_first : (session new : SessionSeen) (heap started : HeapSeen) (types : Table TypeInfo) → session.types ≡ Some types
    → new.types ≡ None → new.settings ≡ session.settings → new.names ≡ session.names → IsPlaced session heap
    → IsFresh started session.settings types → StandsFor started (empty_store session.settings) → Begins session new heap started
begins_first session new heap started types is none settings names placed fresh empty =
    let stands : StandsFor (heap_of fresh.parts) (empty_store session.settings) =
    subst (λ (h : HeapSeen). StandsFor h (empty_store session.settings)) fresh.is empty in
    let untold : told fresh.parts ≡ nothing_told =
    sym (look_told fresh.parts (empty_store session.settings) stands) ∙ look-empty session.settings in
    record {
      types = none;
      settings = settings;
      names = names;
      has_heap = record { parts = fresh.parts; is = fresh.is; settings_are = ap (λ (p : HeapParts). p.setup.settings) fresh.fresh.are };
      table = ap (λ (h : HeapSeen). table_of h.parts) fresh.is
          ∙ (ap (λ (p : HeapParts). p.setup.types) fresh.fresh.are ∙ ap (λ (t : Option (Table TypeInfo)). types_in t heap) (sym is));
      told = ap told_by fresh.is ∙ (untold ∙ ap (λ (t : Option (Table TypeInfo)). seen_if t heap) (sym is));
      founds = λ root. ap (λ (h : HeapSeen). found_in h root) fresh.is
          ∙ (found_untold fresh.parts root untold ∙ sym (nothing_found session heap types root is placed));
      stores = λ store stands. subst (StandsFor started) (sym (subst (λ (t : Option (Table TypeInfo)). HasStore t session.settings heap store) is stands)) empty;
    }

-- what was found for a command is found in the heap that was started
pub found_begun : (session mid : SessionSeen) (heap started : HeapSeen) (command : Command) → Begins session mid heap started
    → found_for started command ≡ found_for heap command
found_begun session mid heap started command b = λ i. of_fields (λ root. b.founds root i) command

-- settings and types of the heap are those of the session
pub setup_same : (session mid : SessionSeen) (heap started : HeapSeen) (b : Begins session mid heap started) → b.has_heap.parts.setup ≡ setup_of session heap
setup_same session mid heap started b =
    let types : b.has_heap.parts.setup.types ≡ types_in session.types heap =
    ap (λ (h : HeapSeen). table_of h.parts) (sym b.has_heap.is) ∙ b.table in
    let same : b.has_heap.parts.setup ≡ setup_of session heap = λ i. record { settings = b.has_heap.settings_are i; types = types i } in
    same

pub source_begun : (session mid : SessionSeen) (heap started : HeapSeen) (command : Command) → Begins session mid heap started
    → source_for started command ≡ source_for heap command
source_begun session mid heap started command b = λ i. of_sources (λ root. b.founds root i) command

-- the type that was found for a birth is that of the heap that was started
pub type_begun : (session mid : SessionSeen) (heap started : HeapSeen) (command : Command) → Begins session mid heap started
    → of_births (type_found started.parts) command ≡ type_for (setup_of session heap) command
type_begun session mid heap started command b =
    let found : (id : ℕ) → type_found started.parts id ≡ type_at (setup_of session heap) id =
    λ id. ap (λ (h : HeapSeen). type_found h.parts id) b.has_heap.is ∙ ap (λ (setup : Setup). type_at setup id) (setup_same session mid heap started b) in
    λ i. of_births (λ id. found id i) command

-- a command that is not refused passes its checks
not_refused : (session : SessionSeen) (heap : HeapSeen) (command : Command) → refusal_of session heap (CommandItem command) ≡ None
    → first_reason (command_checks (setup_of session heap) (seen_if session.types heap) command) ≡ None
unfolding refusal_seen
not_refused session heap command accepted = accepted

-- what is not refused by the session can be done by the heap that it started
pub can_do : (session mid : SessionSeen) (heap started : HeapSeen) (command : Command)
    → refusal_of session heap (CommandItem command) ≡ None → IsPlaced session heap → Begins session mid heap started → CanDo started command
can_do session mid heap started command accepted placed b =
    let parts = b.has_heap.parts in
    let seen = seen_if session.types heap in
    let told_is : told parts ≡ seen = ap told_by (sym b.has_heap.is) ∙ b.told in
    let ready : AreReady parts command = record {
      standing = record {
        store = placed.at.store;
        stands = subst (λ (h : HeapSeen). StandsFor h placed.at.store) b.has_heap.is (b.stores placed.at.store placed.stands.store);
      };
      accepted = ap (λ (s : Setup). first_reason (command_checks s (told parts) command)) (setup_same session mid heap started b)
          ∙ (ap (λ (l : Look). first_reason (command_checks (setup_of session heap) l command)) told_is ∙ not_refused session heap command accepted);
    } in
    subst (λ (h : HeapSeen). CanDo h command) (sym b.has_heap.is) ready

-- a heap with settings and types that is not spent has parts
started_by : (heap : HeapSeen) (setup : Setup) (found : Option HeapParts) → heap.parts ≡ found → option_map (λ (p : HeapParts). p.setup) found ≡ Some setup
    → heap.is_spent ≡ false → (parts : HeapParts) × (heap ≡ heap_of parts) × (parts.setup ≡ setup)
started_by heap setup None is none unspent = absurd (let no : ⊥ = cc in no)
started_by heap setup (Some parts) is some unspent =
    let same : heap ≡ heap_of parts = λ i. record { parts = is i; is_spent = unspent i } in
    (parts, same, (let e : parts.setup ≡ setup = cc in e))

-- Session and heap stand behind a command that left this store, where settings and types of the heap stayed.
pub stands_behind : (session mid : SessionSeen) (heap started new : HeapSeen) (at : Progress) (store : Store) → Begins session mid heap started
    → setup_in new ≡ setup_in started → new.is_spent ≡ started.is_spent → StandsFor new store → StandsAt session heap at
    → StandsAt mid new (after_command at store)
stands_behind session mid heap started new at store b setup_stays spent_stays for stands =
    let old = b.has_heap.parts in
    let setup_is : old.setup ≡ at.setup = setup_same session mid heap started b ∙ sym stands.setup in
    let kept : setup_in new ≡ Some old.setup = setup_stays ∙ ap setup_in b.has_heap.is in
    let unspent : new.is_spent ≡ false = spent_stays ∙ ap (λ (h : HeapSeen). h.is_spent) b.has_heap.is in
    let parts = started_by new old.setup new.parts refl kept unspent in
    let has : IsStarted mid.settings new = record {
      parts = parts.0;
      is = parts.1;
      settings_are = ap (λ (s : Setup). s.settings) parts.2 ∙ (b.has_heap.settings_are ∙ sym b.settings);
    } in
    let types : types_in mid.types new ≡ at.setup.types =
    ap (λ (t : Option (Table TypeInfo)). types_in t new) b.types ∙ (ap (λ (h : HeapSeen). table_of h.parts) parts.1 ∙ (ap (λ (s : Setup). s.types) parts.2 ∙ ap (λ (s : Setup). s.types) setup_is)) in
    let settings : at.setup.settings ≡ mid.settings = ap (λ (s : Setup). s.settings) stands.setup ∙ sym b.settings in
    let setup : at.setup ≡ setup_of mid new = λ i. record { settings = settings i; types = sym types i } in
    record {
      has_heap = subst (λ (t : Option (Table TypeInfo)). HasHeap t mid.settings new) (sym b.types) has;
      setup = setup;
      names = stands.names ∙ sym b.names;
      late = ap is_none (sym b.types);
      store = subst (λ (t : Option (Table TypeInfo)). HasStore t mid.settings new store) (sym b.types) for;
    }

pub does_command : (session mid : SessionSeen) (heap started new : HeapSeen) (at : Progress) (command : Command) (before after : List Line)
    → refusal_of session heap (CommandItem command) ≡ None → Begins session mid heap started
    → Performs started new command before after → StandsAt session heap at → DoesItem mid new at (CommandItem command) before after
unfolding ItemDoes
does_command session mid heap started new at command before after accepted b does stands =
    let old = b.has_heap.parts in
    let step = does.does at.store (b.stores at.store stands.store) in
    let taken : Does old.setup at.store command does.lines step.0 =
    subst (λ (h : HeapSeen). OfParts h.parts (λ parts. Does parts.setup at.store command does.lines step.0)) b.has_heap.is step.1 in
    let setup_is : old.setup ≡ at.setup = setup_same session mid heap started b ∙ sym stands.setup in
    record {
      groups = record { command = command; lines = does.lines } ∷ [];
      next = after_command at step.0;
      accepted = refusal_is session heap at (CommandItem command) stands ∙ accepted;
      does = record {
        lines = does.lines;
        store = step.0;
        does = subst (λ (s : Setup). Does s at.store command does.lines step.0) setup_is taken;
        groups_are = refl;
        leaves = refl;
      };
      lines = does.appended ∙ ap (λ (more : List Line). before ++ more) (sym (append-nil does.lines));
      stands = stands_behind session mid heap started new at step.0 b does.setup does.same_spent step.2 stands;
    }

-- no block
pub leaves_none : (makes : Bool) (settings : Settings) (store : Store) → LeavesStore makes settings store store
leaves_none true settings store = NoBlock
leaves_none false settings store = refl

stays_at : (at : Progress) (item : Item) → LeavesOff at item at
unfolding LeavesOff
stays_at at Blank = refl
stays_at at (Setting name value) = refl
stays_at at (TypeDef id info) = refl
stays_at at (CommandItem command) = inl refl

-- memory ran out in an item, and nothing was done
pub leaves_item : (session new : SessionSeen) (heap heap_after : HeapSeen) (at : Progress) (item : Item) (lines : List Line) (fault : RunFault)
    → fault ≡ OutOfMemory → new ≡ session → heap_after ≡ heap → StandsAt session heap at → Answers at item new heap_after lines lines (Err fault)
leaves_item session new heap heap_after at item lines fault is same same_heap stands = rw is (
  ([], sym (append-nil lines)),
  inr (record {
    next = at;
    leaves = stays_at at item;
    stands = rw (same, same_heap) stands;
  }),
)
