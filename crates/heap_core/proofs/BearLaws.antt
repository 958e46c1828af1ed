-- Births by commands.
use Rattle.std.proofs.Common.{◌≡◌, ℕ, ◌+◌, ◌<◌, ◌≤◌, Bool, true, false, List, [], ◌∷◌, ◌++◌, Option, Some, None, Result, Ok, Err, OnOk, OnErr, refl, sym, ap, ◌∙◌, subst, arith}
use Rattle.std.specs.declared.alloc.AllocError.{AllocError}
use Rattle.std.specs.Prelude.{not}
use Rattle.std.proofs.lemmas.Bool.{ltb-false}
use Rattle.std.proofs.lemmas.Bool.Decides.{nat_tests}
use Rattle.type_table.specs.declared.info.Shape.{Shape}
use Rattle.type_table.specs.declared.info.Shape.TheVariants.{Fixed, IntArray, RefArray, Weak}
use Rattle.type_table.specs.declared.info.TypeInfo.{TypeInfo}
use Rattle.type_table.specs.Table.{value_at}
use Rattle.type_table.specs.Words.{words_in}
use Rattle.nursery_gaps.specs.Nursery.{Fits}
use Rattle.text_model.specs.Range.{is_above, is_above_ids, is_above_items}
use Rattle.text_model.specs.declared.command.Command.TheVariants.{NewFixed, NewArray}
use Rattle.text_model.specs.declared.item.Reason.TheVariants.{WrongShape, Range}
use Rattle.text_model.specs.declared.line.Line.{Line}
use Rattle.text_model.specs.declared.line.Line.TheVariants.{Born}
use Rattle.object_model.specs.Setup.{Setup, young_words}
use Rattle.object_model.specs.Newborn.{Request}
use Rattle.object_model.specs.Shapes.{is_fixed_shape, is_array_shape, is_weak_shape}
use Rattle.store_model.specs.Store.{Store, unsettled_words, counted_words}
use Rattle.store_model.specs.Checks.{first_reason, born_checks}
use Rattle.store_model.specs.Births.{array_request, BirthWithRoom, BirthWithRoomOf, Births}
use Rattle.store_model.specs.Birth.{with_birth}
use Rattle.store_model.specs.Collections.{MakesRoom, needs_block, exceeds_limit}
use Rattle.store_model.specs.Steps.{Does}
use Rattle.heap_parts.specs.Parts.{HeapParts}
use Rattle.heap_parts.specs.StandsFor.{PartsStandFor}
use Rattle.heap_parts.specs.Births.{HasNurseryRoom, HasOldRoom, BearsYoung, BearsOld}
use Rattle.heap_core.specs.Commands.{AreStanding, AreReady}
use Rattle.collect_laws.specs.Room.{HasRoomFor, BearsOne}
use Rattle.collect_laws.proofs.CommandLaws.{bears_one}
use Rattle.heap_core.specs.Bearing.{IsAsked, MayAsk, IsFitting, MayBear, BearsKnown}
use Rattle.nursery_gaps.specs.Ranges.{Range as NurseryRange, AreRising}
use Rattle.heap_core.proofs.Ready.{passed, one_slot, or_false}
use Rattle.heap_core.proofs.LookLaws.{counted_told}
use Rattle.heap_core.proofs.BirthLaws.{CanBear, young_stands, old_stands, room_ungapped}

-- an array in range is not too long
len_in_range : (root type_id len : ℕ) → is_above (NewArray root type_id len) ≡ false → len ≤ 16777216
unfolding is_above
len_in_range root type_id len e =
    ltb-false 16777216 len (or_false (is_above_ids type_id) (is_above_items len) (or_false (is_above_ids root) _ e).1).1

fixed-plain : (shape : Shape) → is_fixed_shape shape ≡ true → is_weak_shape shape ≡ false
fixed-plain (Fixed ints refs) e = refl
fixed-plain IntArray e = refl
fixed-plain RefArray e = refl
fixed-plain Weak e = absurd (let no : ⊥ = cc in no)

array-plain : (shape : Shape) → is_array_shape shape ≡ true → is_weak_shape shape ≡ false
array-plain (Fixed ints refs) e = refl
array-plain IntArray e = refl
array-plain RefArray e = refl
array-plain Weak e = absurd (let no : ⊥ = cc in no)

not-false : (b : Bool) → not b ≡ false → b ≡ true
not-false true e = refl
not-false false e = absurd (let no : ⊥ = cc in no)

-- a birth that is not refused may be asked for
birth_passed : (found : Option TypeInfo) (heap : HeapParts) (test : Shape → Bool) (root type_id items : ℕ) → AreStanding heap → value_at heap.setup.types type_id ≡ found
    → ((shape : Shape) → test shape ≡ true → is_weak_shape shape ≡ false) → root < heap.setup.settings.roots → items ≤ 16777216
    → first_reason (born_checks found test) ≡ None → MayAsk heap root type_id items
birth_passed None heap test root type_id items standing found plain l few e = absurd (let no : ⊥ = cc in no)
birth_passed (Some info) heap test root type_id items standing found plain l few e =
    let shaped = passed (not (test info.shape)) WrongShape None e in record {
      info = info;
      plain = plain info.shape (not-false (test info.shape) shaped.0);
      asked = record { standing = standing; known = found; root_in = l; items_few = few };
    }

pub fixed_may : (heap : HeapParts) (root type_id : ℕ) → AreReady heap (NewFixed root type_id) → MayAsk heap root type_id 0
fixed_may heap root type_id ready =
    let one = one_slot heap.setup.settings.roots root (is_above (NewFixed root type_id)) _ ready.accepted in
    birth_passed (value_at heap.setup.types type_id) heap is_fixed_shape root type_id 0 ready.standing refl fixed-plain one.0 (omega arith) one.1

pub array_may : (heap : HeapParts) (root type_id len : ℕ) → AreReady heap (NewArray root type_id len) → MayAsk heap root type_id len
array_may heap root type_id len ready =
    let one = one_slot heap.setup.settings.roots root (is_above (NewArray root type_id len)) _ ready.accepted in
    birth_passed (value_at heap.setup.types type_id) heap is_array_shape root type_id len ready.standing refl array-plain one.0
    (len_in_range root type_id len (passed (is_above (NewArray root type_id len)) Range _ ready.accepted).0) one.1

-- what is asked for is born where there is room, also in parts that came after
pub fits_in_room : (heap new : HeapParts) (root type_id items : ℕ) (info : TypeInfo) → IsAsked heap root type_id info items → new.setup ≡ heap.setup → AreStanding new
    → HasRoomFor new (words_in info.shape items) → IsFitting new root type_id info items
fits_in_room heap new root type_id items info asked setup standing room = record {
  standing = standing;
  known = ap (λ (s : Setup). value_at s.types type_id) setup ∙ asked.known;
  root_in = (let slot = asked.root_in in let same = ap (λ (s : Setup). s.settings.roots) setup in omega (arith, slot, same));
  items_few = asked.items_few;
  room = room;
}

-- a type that was found is the one that fits
pub fits_found : (heap : HeapParts) (root type_id items : ℕ) (info : TypeInfo) → MayBear heap root type_id items → value_at heap.setup.types type_id ≡ Some info → IsFitting heap root type_id info items
fits_found heap root type_id items info may found =
    let both : Some may.info ≡ Some info = sym may.fits.known ∙ found in
    let same : may.info ≡ info = cc in subst (λ (k : TypeInfo). IsFitting heap root type_id k items) same may.fits

-- and it is not weak
plain_found : (heap : HeapParts) (root type_id items : ℕ) (info : TypeInfo) → MayBear heap root type_id items → value_at heap.setup.types type_id ≡ Some info → is_weak_shape info.shape ≡ false
plain_found heap root type_id items info may found =
    let both : Some may.info ≡ Some info = sym may.fits.known ∙ found in
    let same : may.info ≡ info = cc in subst (λ (k : TypeInfo). is_weak_shape k.shape ≡ false) same may.plain

rising-least : (from to : ℕ) (ranges : List NurseryRange) → AreRising from to ranges → from ≤ to
rising-least from to [] r = r
rising-least from to (x ∷ ranges) r = let more = rising-least (x.0 + x.1) to ranges r.2 in omega (arith, r.0, more)

-- what the births of the parts ask
pub nursery_room : (heap : HeapParts) (root type_id items : ℕ) (info : TypeInfo) → IsFitting heap root type_id info items → HasNurseryRoom heap root info items
nursery_room heap root type_id items info f =
    let s = f.standing.stands in let laid = s.words.young.laid_out in
    let most = s.made.ranges.2.2.1 in let room = f.room.limit in let slot = f.root_in in
    let least = rising-least 1 heap.nursery.gap laid.below laid.lower in record {
      slot = omega (arith, slot, s.slots.many);
      items_few = f.items_few;
      whole = s.words.young.whole;
      least = (let passed_it = laid.passed in omega (arith, passed_it, least));
      next_small = s.births.next_high;
      unsettled_small = omega (arith, room, most);
    }

pub old_room : (heap : HeapParts) (root type_id items : ℕ) (info : TypeInfo) → IsFitting heap root type_id info items → HasOldRoom heap root info items
old_room heap root type_id items info f =
    let s = f.standing.stands in
    let most = s.made.ranges.2.2.1 in let room = f.room.limit in let slot = f.root_in in let fresh = s.sums.fresh_old in record {
      slot = omega (arith, slot, s.slots.many);
      items_few = f.items_few;
      stands = record { live = _; waiting = s.waiting; blocks = s.words.blocks };
      next_small = s.births.next_high;
      old_small = omega (arith, room, most);
      fresh_small = omega (arith, room, most, fresh);
    }

-- what a birth needs beside room
pub can_bear : (heap : HeapParts) (root type_id items birth : ℕ) (info : TypeInfo) (weak : Bool) → IsFitting heap root type_id info items → is_weak_shape info.shape ≡ weak
    → type_id < 65536 → birth ≡ heap.next → birth ≤ 9223372036854775806 → CanBear weak heap type_id info items
can_bear heap root type_id items birth info weak f kind small is low = record { known = f.known; small = small; kind = kind; limit = f.room.limit; next = omega (arith, is, low) }

-- an object was born in the nursery
pub bears_young : (heap new : HeapParts) (root type_id items birth : ℕ) (info : TypeInfo) (before after : List Line) → MayBear heap root type_id items
    → value_at heap.setup.types type_id ≡ Some info → type_id < 65536
    → birth ≡ heap.next → birth ≤ 9223372036854775806 → words_in info.shape items ≤ young_words heap.setup.settings → BearsYoung heap new root type_id info items 0
    → after ≡ before ++ Born birth false ∷ [] → BearsKnown heap new root type_id items before after
bears_young heap new root type_id items birth info before after may found small is low few b appended = record {
  info = info;
  known = found;
  bears = record {
    setup = ap (λ (h : HeapParts). h.setup) b.is;
    is_old = false;
    large = λ more. absurd (let no : ⊥ = omega (arith, more, few) in no);
    small = λ l g. refl;
    appended = appended ∙ ap (λ (k : ℕ). before ++ Born k false ∷ []) is;
    stands = λ store s. young_stands heap new store root type_id items info s
        (can_bear heap root type_id items birth info false (fits_found heap root type_id items info may found) (plain_found heap root type_id items info may found) small is low) b;
  };
}

-- and outside it
pub bears_old : (heap mid new : HeapParts) (root type_id items birth : ℕ) (info : TypeInfo) (before after : List Line) → MayBear heap root type_id items
    → value_at heap.setup.types type_id ≡ Some info → type_id < 65536 → birth ≡ heap.next → birth ≤ 9223372036854775806
    → (words_in info.shape items ≤ young_words heap.setup.settings → (place : ℕ) → Fits heap.nursery (words_in info.shape items) place → ⊥)
    → mid ≡ heap → BearsOld mid new root type_id info items 0
    → after ≡ before ++ Born birth true ∷ [] → BearsKnown heap new root type_id items before after
bears_old heap mid new root type_id items birth info before after may found small is low full same born appended =
    let f = fits_found heap root type_id items info may found in
    let b : BearsOld heap new root type_id info items 0 = subst (λ (h : HeapParts). BearsOld h new root type_id info items 0) same born in record {
      info = info;
      known = found;
      bears = record {
        setup = ap (λ (h : HeapParts). h.setup) b.is ∙ ap (λ (h : HeapParts). h.setup) b.takes.keeps.only;
        is_old = true;
        large = λ more. refl;
        small = λ few ungapped. absurd (
            let s = f.standing.stands in
            full few heap.nursery.cursor (room_ungapped heap f.standing.store s (words_in info.shape items) ungapped (f.room.nursery ungapped few)));
        appended = appended ∙ ap (λ (k : ℕ). before ++ Born k true ∷ []) is;
        stands = λ store s. old_stands heap new store root type_id items info s
            (can_bear heap root type_id items birth info false f (plain_found heap root type_id items info may found) small is low) b;
      };
    }

-- it is a birth of each store that the parts stand for
pub one_born : {heap new : HeapParts} {root type_id items : ℕ} {before after : List Line} (b : BearsKnown heap new root type_id items before after)
    → BearsOne b.info (λ store. array_request root type_id items) heap new before after
one_born {root = root} {type_id = type_id} {items = items} b =
    bears_one b.info (λ store. array_request root type_id items) items b.bears.is_old (λ store. refl) b.bears.setup b.bears.large b.bears.small b.bears.appended b.bears.stands

-- what follows where a call was done
pub on_ok : {P Q : Type 0} (r : Result (Unit {0}) AllocError) → (P → Q) → OnOk r P → OnOk r Q
on_ok (Ok u) f p = f p
on_ok (Err e) f p = tt

-- what holds whatever a call answered
pub on_err : {X E P : Type 0} (r : Result X E) → P → OnErr r P
on_err (Ok u) p = tt
on_err (Err e) p = p
