-- The clauses of births, from those of the parts that they call.
use Rattle.std.proofs.Common.{◌≡◌, ℕ, ◌+◌, ◌^◌, ◌<◌, IsTrue, List, ◌∷◌, length, Result, Ok, Err, IfOk, OnErr, refl, sym, ap, ◌∙◌, subst, arith}
use Rattle.std.specs.declared.alloc.AllocError.{AllocError}
use Rattle.type_table.specs.declared.info.TypeInfo.{TypeInfo}
use Rattle.type_table.specs.Words.{words_in}
use Rattle.heap_space.specs.Places.{lies_in_one}
use Rattle.heap_space.specs.Memory.{Memory}
use Rattle.heap_space.specs.Extents.{Extent, KeepsWords, KeepsOutside}
use Rattle.nursery_gaps.specs.Nursery.{Layout as NurseryLayout, FitsLowest, HandsOut, IsLaidOut}
use Rattle.object_header.specs.Words.{IsHeader, with_flag}
use Rattle.object_header.specs.declared.flags.Flag.TheVariants.{Track, HasCards}
use Rattle.object_header.proofs.WordLaws.{IsHeader-with_flag}
use Rattle.object_view.proofs.InitLaws.{lies-part}
use Rattle.old_space.specs.HasBlocks.{HasBlocks, greatest_small, page_size}
use Rattle.old_space.specs.Calls.{IsElsewhere}
use Rattle.old_space.specs.declared.Old.{Old}
use Rattle.old_space.proofs.JoinLaws.{HasBlocks-first}
use Rattle.parts_model.specs.Parts.{HeapParts}
use Rattle.parts_model.specs.Headers.{keeps_cards}
use Rattle.parts_model.specs.Births.{with_newborn, HasRoom, HasNurseryRoom, BearsYoung, with_old_blocks, KeepsLive, TakesBlock, TakesNone, BearsOld, HasOldRoom, old_header}

-- where the nursery has room there is room for a birth
pub young_room : (heap : HeapParts) (nursery : NurseryLayout) (place n root : ℕ) (info : TypeInfo) (items : ℕ) → HasNurseryRoom heap root info items → n ≡ words_in info.shape items
    → FitsLowest heap.nursery n place → HasRoom (record heap { nursery = nursery }) place root info items
young_room heap nursery place n root info items room size lowest =
    let reached = lowest.fits.reached in let inside = lowest.fits.inside in let least = room.least in record {
      slot = room.slot;
      items_few = room.items_few;
      words = lies-part heap.memory.blocks 1 heap.nursery.words place (words_in info.shape items) room.whole (omega (arith, reached, least)) (omega (arith, inside, size));
      next_small = room.next_small;
    }

-- an object is born there
pub bears_young : (heap mid new : HeapParts) (nursery : NurseryLayout) (place n root type_id : ℕ) (info : TypeInfo) (items target : ℕ) → n ≡ words_in info.shape items
    → FitsLowest heap.nursery n place → HandsOut heap.nursery n place nursery → IsLaidOut nursery
    → mid ≡ record heap { nursery = nursery } → new ≡ with_newborn mid place type_id root info items target
    → BearsYoung heap (record new { unsettled = new.unsettled + n }) root type_id info items target
bears_young heap mid new nursery place n root type_id info items target size lowest hands laid mid_is is = record {
  place = place;
  nursery = nursery;
  lowest = subst (λ (k : ℕ). FitsLowest heap.nursery k place) size lowest;
  hands = subst (λ (k : ℕ). HandsOut heap.nursery k place nursery) size hands;
  laid = laid;
  is = ap (λ (h : HeapParts). record h { unsettled = h.unsettled + n }) (is ∙ ap (λ (h : HeapParts). with_newborn h place type_id root info items target) mid_is)
      ∙ ap (λ (k : ℕ). record (with_newborn heap place type_id root info items target) { nursery = nursery; unsettled = heap.unsettled + k }) size;
}

-- what a call for a block leaves
pub keeps_live : (heap : HeapParts) (old : Old) (m : Memory)
    → ((live : List Extent) (waiting : List ℕ) → HasBlocks heap.old_blocks heap.memory live waiting → KeepsWords heap.memory m live)
    → KeepsOutside 4294967296 9223372036854775808 heap.memory m → m.arena_words ≡ heap.memory.arena_words
    → greatest_small old ≡ greatest_small heap.old_blocks → page_size old ≡ page_size heap.old_blocks → KeepsLive heap (with_old_blocks heap old m)
keeps_live heap old m kept outside arenas small page = record { only = refl; kept = kept; outside = outside; arenas = arenas; small = small; page = page }

-- it took a block
pub takes : (heap : HeapParts) (old : Old) (m : Memory) (n : ℕ) (r : Result ℕ AllocError) → KeepsLive heap (with_old_blocks heap old m)
    → ((live : List Extent) (waiting : List ℕ) → HasBlocks heap.old_blocks heap.memory live waiting → IfOk r (λ a. HasBlocks old m ((a, n) ∷ live) waiting))
    → ((live : List Extent) (waiting : List ℕ) → HasBlocks heap.old_blocks heap.memory live waiting → IfOk r (IsElsewhere old waiting))
    → IfOk r (λ a. TakesBlock heap (with_old_blocks heap old m) n a)
takes heap old m n (Ok a) keeps taken elsewhere = record { keeps = keeps; taken = taken; elsewhere = elsewhere }
takes heap old m n (Err e) keeps taken elsewhere = tt

-- or none
pub takes_none : (heap : HeapParts) (old : Old) (m : Memory) (r : Result ℕ AllocError) → KeepsLive heap (with_old_blocks heap old m)
    → ((live : List Extent) (waiting : List ℕ) → HasBlocks heap.old_blocks heap.memory live waiting → OnErr r (HasBlocks old m live waiting))
    → OnErr r (TakesNone heap (with_old_blocks heap old m))
takes_none heap old m (Ok a) keeps same = tt
takes_none heap old m (Err e) keeps same = record { keeps = keeps; same = same }

-- where a block was taken there is room for a birth
pub taken_room : (heap middle : HeapParts) (n place root : ℕ) (info : TypeInfo) (items : ℕ) → HasOldRoom heap root info items → n ≡ words_in info.shape items
    → TakesBlock heap middle n place → HasRoom middle place root info items
taken_room heap middle n place root info items room size taken =
    let only = taken.keeps.only in
    let slots : middle.slots ≡ heap.slots = ap (λ (h : HeapParts). h.slots) only in
    let next : middle.next ≡ heap.next = ap (λ (h : HeapParts). h.next) only in
    let stands = room.stands in
    let blocks = taken.taken stands.live stands.waiting stands.blocks in record {
      slot = subst (λ (xs : List ℕ). root < length xs) (sym slots) room.slot;
      items_few = room.items_few;
      words = subst (λ (k : ℕ). IsTrue (lies_in_one middle.memory.blocks place k)) size
          (HasBlocks-first middle.old_blocks middle.memory (place, n) stands.live stands.waiting blocks).lies;
      next_small = omega (arith, next, room.next_small);
    }

-- an object is born there, and its words are counted
pub bears_old : (heap middle new : HeapParts) (n place root type_id head : ℕ) (info : TypeInfo) (items target : ℕ) → TakesBlock heap middle n place
    → n ≡ words_in info.shape items → head ≡ old_header type_id (keeps_cards heap.setup.settings.card info.shape items)
    → new ≡ with_newborn middle place head root info items target
    → BearsOld heap (record new { old_words = new.old_words + n; fresh = new.fresh + n }) root type_id info items target
bears_old heap middle new n place root type_id head info items target taken size head_is is = record {
  middle = middle;
  place = place;
  takes = subst (λ (k : ℕ). TakesBlock heap middle k place) size taken;
  is = ap (λ (h : HeapParts). record h { old_words = h.old_words + n; fresh = h.fresh + n }) (is ∙ ap (λ (k : ℕ). with_newborn middle place k root info items target) head_is)
      ∙ ap (λ (k : ℕ). record (with_newborn middle place (old_header type_id (keeps_cards heap.setup.settings.card info.shape items)) root info items target) {
        old_words = middle.old_words + k;
        fresh = middle.fresh + k;
      }) size;
}

-- headers of objects that are born outside the nursery
pub tracked-header : (t from word : ℕ) → t < 2 ^ 16 → from ≡ t → word ≡ with_flag from Track → IsHeader word
tracked-header t from word small e is = subst IsHeader (sym is) (IsHeader-with_flag from Track (omega (arith, small, e)))

pub carded-header : (tracked word : ℕ) → IsHeader tracked → word ≡ with_flag tracked HasCards → IsHeader word
carded-header tracked word header is = subst IsHeader (sym is) (IsHeader-with_flag tracked HasCards header)
