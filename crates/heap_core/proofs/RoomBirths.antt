-- Births with the collections before them.
use Rattle.std.proofs.Common.{◌≡◌, ℕ, ◌+◌, ◌<◌, ◌≤◌, Bool, false, List, [], ◌∷◌, ◌++◌, Option, Some, None, Result, Ok, Err, OnOk, OnErr, refl, sym, ap, ◌∙◌, subst, arith}
use Rattle.std.specs.declared.alloc.AllocError.{AllocError}
use Rattle.type_table.specs.declared.info.Shape.{Shape}
use Rattle.type_table.specs.declared.info.Shape.TheVariants.{Fixed, IntArray, RefArray, Weak}
use Rattle.type_table.specs.declared.info.TypeInfo.{TypeInfo}
use Rattle.type_table.specs.Table.{value_at}
use Rattle.type_table.specs.Words.{words_in}
use Rattle.text_model.specs.declared.command.Command.{Command}
use Rattle.text_model.specs.declared.command.Command.TheVariants.{NewFixed, NewArray, NewWeak}
use Rattle.text_model.specs.declared.line.Line.{Line}
use Rattle.object_model.specs.Setup.{Setup}
use Rattle.object_model.specs.Shapes.{is_weak_shape}
use Rattle.store_model.specs.Births.{words_asked, array_request, weak_request}
use Rattle.heap_parts.specs.Parts.{HeapParts}
use Rattle.collect_laws.specs.Events.{Undergoes}
use Rattle.collect_laws.specs.Room.{HasRoomFor, FindsNoRoom, BearsOne}
use Rattle.collect_laws.proofs.BlockLaws.{kept_after}
use Rattle.collect_laws.proofs.CommandLaws.{new_fixed_does, new_array_does, new_weak_does, command_refused, fixed_asks, array_asks, weak_asks}
use Rattle.heap_core.specs.declared.fault.HeapFault.{HeapFault}
use Rattle.heap_core.specs.declared.fault.HeapFault.TheVariants.{Spent, OutOfMemory, HeapLimit}
use Rattle.heap_core.specs.Commands.{AreReady, PartsKeep}
use Rattle.heap_core.specs.Bearing.{MayAsk, MayBear, MayBearWeak, BearsKnown, BearsWeakKnown}
use Rattle.heap_core.specs.Room.{KeepsLines, LedByRoom, IsCollecting, FindsRoom, EndsRoom, BornInRoom, RefusedInRoom, BearsInRoom, EndsBirth}
use Rattle.heap_core.proofs.BearLaws.{fits_in_room, one_born}
use Rattle.heap_core.proofs.WeakBearLaws.{weak_in_room}
use Rattle.heap_core.proofs.RoomCalls.{standing_after, appends_event}

-- a type that was found twice
same_info : {a b : TypeInfo} {found : Option TypeInfo} → found ≡ Some a → found ≡ Some b → a ≡ b
same_info {a} {b} e f = let both : Some a ≡ Some b = sym e ∙ f in cc

-- what is asked for may be born where room was made for it
pub may_in_room : {heap new : HeapParts} {before after : List Line} (root type_id items n : ℕ) (info : TypeInfo) → MayAsk heap root type_id items → value_at heap.setup.types type_id ≡ Some info
    → n ≡ words_in info.shape items → FindsRoom n heap new before after → MayBear new root type_id items
may_in_room {heap = heap} {new = new} root type_id items n info may known is found =
    let same : info ≡ may.info = same_info known may.asked.known in record {
      info = may.info;
      plain = may.plain;
      fits = fits_in_room heap new root type_id items may.info may.asked found.made.setup (standing_after found.made may.asked.standing)
          (subst (HasRoomFor new) (is ∙ ap (λ (k : TypeInfo). words_in k.shape items) same) found.room);
    }

-- the type is still there
pub known_in_room : {heap new : HeapParts} {before after : List Line} (type_id n : ℕ) (info : TypeInfo) → value_at heap.setup.types type_id ≡ Some info
    → FindsRoom n heap new before after → value_at new.setup.types type_id ≡ Some info
known_in_room type_id n info known found = ap (λ (setup : Setup). value_at setup.types type_id) found.made.setup ∙ known

-- and a weak one
pub may_be_weak : {heap new : HeapParts} {before after : List Line} (root type_id target n : ℕ) (info : TypeInfo) → AreReady heap (NewWeak root type_id target)
    → value_at heap.setup.types type_id ≡ Some info → n ≡ words_in info.shape 0 → FindsRoom n heap new before after → MayBearWeak new root type_id
may_be_weak {heap = heap} {new = new} root type_id target n info ready known is found =
    weak_in_room heap new root type_id target info known ready found.made.setup (standing_after found.made ready.standing) (subst (HasRoomFor new) is found.room)

-- it was born
pub born_in_room : {heap mid new : HeapParts} {before between after : List Line} (root type_id items n : ℕ) (info : TypeInfo) → value_at heap.setup.types type_id ≡ Some info
    → n ≡ words_in info.shape items → FindsRoom n heap mid before between → BearsKnown mid new root type_id items between after → BornInRoom root type_id items heap new before after
born_in_room {heap = heap} {mid = mid} {new = new} {before = before} {between = between} {after = after} root type_id items n info known is found b =
    let same : b.info ≡ info = same_info b.known (ap (λ (setup : Setup). value_at setup.types type_id) found.made.setup ∙ known) in record {
      info = info;
      known = known;
      mid = mid;
      between = between;
      found = subst (λ (k : ℕ). FindsRoom k heap mid before between) is found;
      bears = subst (λ (k : TypeInfo). BearsOne k (λ store. array_request root type_id items) mid new between after) same (one_born b);
    }

-- memory ran out behind the collections, and the parts keep what they stood for then
pub led_by_room : {heap mid new : HeapParts} {before between after : List Line} (n : ℕ) → FindsRoom n heap mid before between → PartsKeep mid new → after ≡ between
    → KeepsLines before after × LedByRoom heap new
led_by_room n found keeps told = ((found.made.lines, told ∙ found.made.appended), (n, kept_after found.made keeps.setup keeps.stands))

-- no room was made
pub fault_in_room : (heap new : HeapParts) (before after : List Line) (root type_id items n : ℕ) (info : TypeInfo) (fault : HeapFault) → value_at heap.setup.types type_id ≡ Some info
    → n ≡ words_in info.shape items → EndsRoom n heap new before after (Err fault) → BearsInRoom root type_id items heap new before after (Err fault)
fault_in_room heap new before after root type_id items n info Spent known is ends =
    (ends.0, record { info = info; known = known; collects = subst (λ (k : ℕ). IsCollecting k heap) is ends.1 })
fault_in_room heap new before after root type_id items n info OutOfMemory known is ends = ends
fault_in_room heap new before after root type_id items n info (HeapLimit counted request limit) known is ends = record {
  info = info;
  known = known;
  asked = ends.0 ∙ is;
  refused = subst (λ (k : ℕ). FindsNoRoom k counted limit heap new before after) is ends.1;
}

-- and so the command of a birth ends
pub fault_ends : (heap new : HeapParts) (before after : List Line) (command : Command) (n : ℕ) (fault : HeapFault) → words_asked heap.setup command ≡ Some n
    → EndsRoom n heap new before after (Err fault) → EndsBirth command heap new before after (Err fault)
fault_ends heap new before after command n Spent asks ends = (ends.0, record { words = n; asks = asks; collects = ends.1 })
fault_ends heap new before after command n OutOfMemory asks ends = ends
fault_ends heap new before after command n (HeapLimit counted request limit) asks ends =
    command_refused command counted request limit (asks ∙ ap Some (sym ends.0)) (subst (λ (k : ℕ). FindsNoRoom k counted limit heap new before after) (sym ends.0) ends.1)

pub fixed_ends : (heap new : HeapParts) (before after : List Line) (root type_id : ℕ) (result : Result (Unit {0}) HeapFault) → BearsInRoom root type_id 0 heap new before after result
    → EndsBirth (NewFixed root type_id) heap new before after result
fixed_ends heap new before after root type_id (Ok done) b = appends_event (new_fixed_does root type_id b.info b.known b.found.made b.found.room b.bears)
fixed_ends heap new before after root type_id (Err Spent) b =
    (b.0, record { words = words_in b.1.info.shape 0; asks = fixed_asks heap.setup root type_id b.1.info b.1.known; collects = b.1.collects })
fixed_ends heap new before after root type_id (Err OutOfMemory) b = b
fixed_ends heap new before after root type_id (Err (HeapLimit counted request limit)) b =
    fault_ends heap new before after (NewFixed root type_id) (words_in b.info.shape 0) (HeapLimit counted request limit) (fixed_asks heap.setup root type_id b.info b.known) (b.asked, b.refused)

pub array_ends : (heap new : HeapParts) (before after : List Line) (root type_id len : ℕ) (result : Result (Unit {0}) HeapFault) → BearsInRoom root type_id len heap new before after result
    → EndsBirth (NewArray root type_id len) heap new before after result
array_ends heap new before after root type_id len (Ok done) b = appends_event (new_array_does root type_id len b.info b.known b.found.made b.found.room b.bears)
array_ends heap new before after root type_id len (Err Spent) b =
    (b.0, record { words = words_in b.1.info.shape len; asks = array_asks heap.setup root type_id len b.1.info b.1.known; collects = b.1.collects })
array_ends heap new before after root type_id len (Err OutOfMemory) b = b
array_ends heap new before after root type_id len (Err (HeapLimit counted request limit)) b =
    fault_ends heap new before after (NewArray root type_id len) (words_in b.info.shape len) (HeapLimit counted request limit) (array_asks heap.setup root type_id len b.info b.known) (b.asked, b.refused)

-- a weak object was born where room was made for it
pub weak_ends : {heap mid new : HeapParts} {before between after : List Line} (root type_id target n : ℕ) (info : TypeInfo) → value_at heap.setup.types type_id ≡ Some info
    → n ≡ words_in info.shape 0 → FindsRoom n heap mid before between → BearsWeakKnown mid new root type_id target between after
    → EndsBirth (NewWeak root type_id target) heap new before after (Ok tt)
weak_ends {heap = heap} {mid = mid} {new = new} {before = before} {between = between} {after = after} root type_id target n info known is found b =
    let same : b.info ≡ info = same_info b.known (ap (λ (setup : Setup). value_at setup.types type_id) found.made.setup ∙ known) in
    let room : FindsRoom (words_in info.shape 0) heap mid before between = subst (λ (k : ℕ). FindsRoom k heap mid before between) is found in
    appends_event (new_weak_does root type_id target info known room.made room.room
    (subst (λ (k : TypeInfo). BearsOne k (λ store. weak_request store root type_id target) mid new between after) same b.bears))
