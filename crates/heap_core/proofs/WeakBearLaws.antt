-- Births of weak objects by commands.
use Rattle.std.proofs.Common.{◌≡◌, ℕ, ◌<◌, ◌≤◌, Bool, true, false, List, [], ◌∷◌, ◌++◌, Option, Some, None, refl, sym, ap, ◌∙◌, subst, arith}
use Rattle.std.proofs.Math.Nat.{le-min}
use Rattle.type_table.specs.declared.info.Shape.{Shape}
use Rattle.type_table.specs.declared.info.Shape.TheVariants.{Weak}
use Rattle.type_table.specs.declared.info.TypeInfo.{TypeInfo}
use Rattle.type_table.specs.Table.{value_at}
use Rattle.type_table.specs.Words.{words_in}
use Rattle.text_model.specs.declared.command.Command.TheVariants.{NewWeak}
use Rattle.text_model.specs.declared.line.Line.{Line}
use Rattle.text_model.specs.declared.line.Line.TheVariants.{Born}
use Rattle.object_model.specs.Newborn.{Request}
use Rattle.object_model.specs.Setup.{young_words}
use Rattle.object_model.specs.Shapes.{is_weak_shape}
use Rattle.object_view.proofs.NewbornLaws.{request_for, request-weak}
use Rattle.store_model.specs.Store.{Store}
use Rattle.store_model.specs.Births.{weak_request, BirthWithRoomOf}
use Rattle.store_model.specs.Birth.{with_birth}
use Rattle.store_model.specs.Steps.{Does}
use Rattle.heap_parts.specs.Parts.{HeapParts, place_in}
use Rattle.heap_parts.specs.StandsFor.{PartsStandFor}
use Rattle.heap_parts.specs.WeakBirths.{HasWeakRoom, BearsWeakYoung, BearsWeakOld, BearsWeak}
use Rattle.frame_laws.proofs.SlotLaws.{slot-pointer}
use Rattle.collect_laws.specs.Room.{HasRoomFor}
use Rattle.collect_laws.proofs.CommandLaws.{bears_one}
use Rattle.heap_core.specs.Commands.{AreStanding, AreReady}
use Rattle.heap_core.specs.Bearing.{IsFitting, MayBearWeak, BearsWeakKnown}
use Rattle.heap_core.proofs.SlotCalls.{slot-holds}
use Rattle.heap_core.proofs.BirthLaws.{CanBear, young_born, old_born, old_listed, room_ungapped}
use Rattle.heap_core.proofs.BearLaws.{nursery_room, old_room, fits_in_room, can_bear}
use Rattle.heap_core.proofs.WeakReady.{new_weak_ready}

-- a weak object that is not refused may be born where there is room, also in parts that came after
pub weak_in_room : (heap new : HeapParts) (root type_id target : ℕ) (info : TypeInfo) → value_at heap.setup.types type_id ≡ Some info → AreReady heap (NewWeak root type_id target)
    → new.setup ≡ heap.setup → AreStanding new → HasRoomFor new (words_in info.shape 0) → MayBearWeak new root type_id
weak_in_room heap new root type_id target info is ready setup standing room =
    let asks = new_weak_ready heap root type_id target info ready is in
    record { info = info; weak = asks.weak; fits = fits_in_room heap new root type_id 0 info asks.asked setup standing room }

-- a type that was found is that of the weak object
weak_found : (heap : HeapParts) (root type_id : ℕ) (info : TypeInfo) → MayBearWeak heap root type_id → value_at heap.setup.types type_id ≡ Some info
    → (info.shape ≡ Weak) × IsFitting heap root type_id info 0
weak_found heap root type_id info may found =
    let both : Some may.info ≡ Some info = sym may.fits.known ∙ found in
    let same : may.info ≡ info = cc in subst (λ (k : TypeInfo). (k.shape ≡ Weak) × IsFitting heap root type_id k 0) same (may.weak, may.fits)

-- what the birth of the parts asks
pub weak_room : (heap : HeapParts) (root type_id : ℕ) (info : TypeInfo) → MayBearWeak heap root type_id → value_at heap.setup.types type_id ≡ Some info
    → HasWeakRoom heap root info
weak_room heap root type_id info may found =
    let known = weak_found heap root type_id info may found in
    record { weak = known.0; young = nursery_room heap root type_id 0 info known.1; old = old_room heap root type_id 0 info known.1 }

-- the object that is asked for, with what a slot holds as its target
request-held : {heap : HeapParts} {store : Store} (s : PartsStandFor heap store) (root type_id target : ℕ) (shape : Shape) → shape ≡ Weak
    → request_for s.name root type_id 0 shape (place_in heap target) ≡ weak_request store root type_id target
request-held {heap = heap} {store = store} s root type_id target shape weak =
    request-weak s.name root type_id 0 shape (place_in heap target) weak
    ∙ ap (λ (o : Option ℕ). record { slot = root; type_id = type_id; items = 0; target = o }) (sym (slot-holds heap store target s))

-- what a birth of a weak object makes of the parts, and of each store that they stand for
record WeakIsBorn (is_old : Bool) (heap new : HeapParts) (root type_id target : ℕ) (info : TypeInfo) : Type 0 where
  setup : new.setup ≡ heap.setup
  small : heap.gapped ≡ false → is_old ≡ false
  stands : (store : Store) → PartsStandFor heap store → PartsStandFor new (with_birth is_old store info (weak_request store root type_id target))

young_is_born : (heap new : HeapParts) (root type_id target : ℕ) (info : TypeInfo) → info.shape ≡ Weak → CanBear true heap type_id info 0
    → BearsWeakYoung heap new root type_id info (place_in heap target) → WeakIsBorn false heap new root type_id target info
young_is_born heap new root type_id target info weak can b =
    let listed : b.born.weaks ≡ heap.weaks = ap (λ (h : HeapParts). h.weaks) b.bears.is in record {
      setup = ap (λ (h : HeapParts). h.setup) b.is ∙ ap (λ (h : HeapParts). h.setup) b.bears.is;
      small = λ ungapped. refl;
      stands = λ store s.
          subst (λ (h : HeapParts). PartsStandFor h (with_birth false store info (weak_request store root type_id target)))
          (ap (λ (ws : List ℕ). record b.born { weaks = ws ++ b.bears.place ∷ [] }) (sym listed) ∙ sym b.is)
          (subst (λ (r : Request). PartsStandFor (record b.born { weaks = heap.weaks ++ b.bears.place ∷ [] }) (with_birth false store info r)) (request-held s root type_id target info.shape weak)
          (young_born heap b.born store root type_id 0 (place_in heap target) info true s can (slot-pointer heap.slots s.places target s.slots.pointers) b.bears));
    }

-- a weak object is not larger than an object of the nursery may be
weak_small : (heap : HeapParts) (root type_id : ℕ) (info : TypeInfo) → info.shape ≡ Weak → IsFitting heap root type_id info 0 → words_in info.shape 0 ≤ young_words heap.setup.settings
weak_small heap root type_id info weak f =
    let three : words_in info.shape 0 ≡ 3 = ap (λ (s : Shape). words_in s 0) weak in
    let ranges = f.standing.stands.made.ranges in let nursery = ranges.0 in let young = ranges.2.0 in
    let least : 3 ≤ young_words heap.setup.settings = le-min (omega (arith, young)) (omega (arith, nursery)) in
    omega (arith, three, least)

old_is_born : (heap new : HeapParts) (root type_id target : ℕ) (info : TypeInfo) → info.shape ≡ Weak → IsFitting heap root type_id info 0 → CanBear true heap type_id info 0
    → BearsWeakOld heap new root type_id info (place_in heap target) → WeakIsBorn true heap new root type_id target info
old_is_born heap new root type_id target info weak f can b = record {
  setup = ap (λ (h : HeapParts). h.setup) b.is ∙ (ap (λ (h : HeapParts). h.setup) b.bears.is ∙ ap (λ (h : HeapParts). h.setup) b.bears.takes.keeps.only);
  small = λ ungapped. absurd (
      let s = f.standing.stands in
      b.full heap.nursery.cursor (room_ungapped heap f.standing.store s (words_in info.shape 0) ungapped (f.room.nursery ungapped (weak_small heap root type_id info weak f))));
  stands = λ store s.
      subst (λ (h : HeapParts). PartsStandFor h (with_birth true store info (weak_request store root type_id target)))
      (ap (λ (ws : List ℕ). record b.born { weaks = ws ++ b.bears.place ∷ [] }) (sym (old_listed b.bears)) ∙ sym b.is)
      (subst (λ (r : Request). PartsStandFor (record b.born { weaks = heap.weaks ++ b.bears.place ∷ [] }) (with_birth true store info r)) (request-held s root type_id target info.shape weak)
      (old_born heap b.born store root type_id 0 (place_in heap target) info true s can (slot-pointer heap.slots s.places target s.slots.pointers) b.bears));
}

is_born : (is_old : Bool) (heap new : HeapParts) (root type_id target : ℕ) (info : TypeInfo) → info.shape ≡ Weak → IsFitting heap root type_id info 0 → CanBear true heap type_id info 0
    → BearsWeak is_old heap new root type_id info (place_in heap target) → WeakIsBorn is_old heap new root type_id target info
is_born true heap new root type_id target info weak f can b = old_is_born heap new root type_id target info weak f can b
is_born false heap new root type_id target info weak f can b = young_is_born heap new root type_id target info weak can b

pub new_weak_bears : (heap new : HeapParts) (root type_id target birth : ℕ) (is_old : Bool) (info : TypeInfo) (before after : List Line) → MayBearWeak heap root type_id
    → value_at heap.setup.types type_id ≡ Some info → type_id < 65536 → birth ≡ heap.next → birth ≤ 9223372036854775806
    → BearsWeak is_old heap new root type_id info (place_in heap target) → after ≡ before ++ Born birth is_old ∷ []
    → BearsWeakKnown heap new root type_id target before after
new_weak_bears heap new root type_id target birth is_old info before after may found small is low bears appended =
    let known = weak_found heap root type_id info may found in
    let can = can_bear heap root type_id 0 birth info true known.1 (ap is_weak_shape known.0) small is low in
    let born = is_born is_old heap new root type_id target info known.0 known.1 can bears in
    let few = weak_small heap root type_id info known.0 known.1 in record {
      info = info;
      known = found;
      bears = bears_one info (λ store. weak_request store root type_id target) 0 is_old (λ store. refl) born.setup
          (λ more. absurd (let no : ⊥ = omega (arith, more, few) in no)) (λ l ungapped. born.small ungapped)
          (appended ∙ ap (λ (k : ℕ). before ++ Born k is_old ∷ []) is) born.stands;
    }
