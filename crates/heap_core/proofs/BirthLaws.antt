-- What a birth is to the stores that the parts of a heap stand for.
use Rattle.std.proofs.Common.{◌≡◌, ◌≢◌, ℕ, ◌+◌, ◌-◌, ◌^◌, ◌%◌, ◌<◌, ◌≤◌, Bool, true, false, List, [], ◌∷◌, Some, refl, sym, ap, ◌∙◌, subst, inl, inr, arith, append-nil, mod-eq_of_lt}
use Rattle.std.specs.Prelude.{not, nat_lt, sum_by, if◌then◌else◌, Contains}
use Rattle.std.proofs.lemmas.Bool.{cases_Bool, cases_lt}
use Rattle.std.proofs.lemmas.Bool.Decides.{nat_tests}
use Rattle.std.proofs.lemmas.List.Sums.{sum_by-cons}
use Rattle.std.proofs.lemmas.List.Sorted.{sum_by-IsPermutation}
use Rattle.type_table.specs.declared.info.Shape.{Shape}
use Rattle.type_table.specs.declared.info.Shape.TheVariants.{Fixed, IntArray, RefArray, Weak}
use Rattle.type_table.specs.declared.info.TypeInfo.{TypeInfo}
use Rattle.type_table.specs.Table.{Table, value_at}
use Rattle.type_table.specs.Words.{words_in}
use Rattle.heap_space.specs.Memory.{Memory}
use Rattle.heap_space.specs.Extents.{Extent}
use Rattle.nursery_gaps.specs.Ranges.{Range, covers, is_free, words_between}
use Rattle.nursery_gaps.specs.Nursery.{Fits}
use Rattle.object_header.specs.Words.{IsHeader, has_flag, with_flag}
use Rattle.object_header.specs.declared.flags.Flag.{Flag}
use Rattle.object_header.specs.declared.flags.Flag.TheVariants.{Track, Visited, HasShadow, Pinned, HasCards, CardsSet, Free, Shadow, Order1, Order2}
use Rattle.object_header.proofs.HeaderLaws.{has_flag-type}
use Rattle.object_header.proofs.WordLaws.{has_flag-with_flag_other, has_flag-with_flag_same, type_of-with_flag, IsHeader-with_flag}
use Rattle.object_model.specs.Layout.{layout_of}
use Rattle.object_model.specs.Newborn.{Request}
use Rattle.object_model.specs.Shapes.{is_weak_shape}
use Rattle.object_model.specs.ObjectWords.{words_at}
use Rattle.object_model.specs.Holds.{IsPointer}
use Rattle.object_view.proofs.NewbornLaws.{request_for, request-plain}
use Rattle.old_space.specs.declared.Old.{Old}
use Rattle.size_pages.specs.Calls.{page_of}
use Rattle.rawref_links.proofs.Numbers.{Contains-from_is_in}
use Rattle.old_space.specs.Calls.{IsElsewhere, unit_of}
use Rattle.store_model.specs.Store.{Store}
use Rattle.store_model.specs.Births.{array_request}
use Rattle.store_model.specs.Birth.{with_birth, fresh_with}
use Rattle.heap_parts.specs.Parts.{HeapParts, word_in, home_in}
use Rattle.heap_parts.specs.Places.{is_young, young_places, old_places}
use Rattle.heap_parts.specs.Nursery.{IsWalk, AreWalks, walked}
use Rattle.heap_parts.specs.OldSpace.{is_waiting, blocks_of, unit_at}
use Rattle.heap_parts.specs.Headers.{keeps_cards}
use Rattle.heap_parts.specs.StandsFor.{PartsStandFor}
use Rattle.heap_parts.specs.Births.{with_newborn, BearsYoung, with_old_blocks, TakesNone, BearsOld, old_header}
use Rattle.old_space.proofs.JoinLaws.{HasBlocks-first}
use Rattle.frame_laws.proofs.PlaceLaws.{placed_words}
use Rattle.heap_parts.proofs.BlockLaws.{lies-kept}
use Rattle.birth_laws.proofs.BirthStands.{IsBornOld, with_born, weaks_with, unsettled_with}
use Rattle.birth_laws.proofs.YoungBirths.{born_memory, young_birth_stands}
use Rattle.birth_laws.proofs.OldBirths.{old_memory, old_birth_stands}
use Rattle.birth_laws.proofs.SpareLaws.{take_keeps}
use Rattle.frame_laws.proofs.TakeLaws.{MemoryKeeps}
use Rattle.command_laws.proofs.HomeStands.{none_stands}
use Rattle.heap_core.specs.Commands.{PartsKeep}
use Rattle.old_space.specs.HasBlocks.{page_size}

-- what a birth needs beside room, of an object that is weak or not
pub record CanBear (weak : Bool) (heap : HeapParts) (type_id : ℕ) (info : TypeInfo) (items : ℕ) : Type 0 where
  pub known : value_at heap.setup.types type_id ≡ Some info
  pub small : type_id < 65536
  pub kind : is_weak_shape info.shape ≡ weak
  pub limit : heap.unsettled + heap.old_words + words_in info.shape items ≤ heap.setup.settings.limit
  pub next : heap.next + 1 < 2 ^ 63

-- An object is born in the nursery, and listed where it is weak.
pub young_born : (heap new : HeapParts) (store : Store) (root type_id items x : ℕ) (info : TypeInfo) (weak : Bool) (s : PartsStandFor heap store) → CanBear weak heap type_id info items
    → IsPointer s.places x → (b : BearsYoung heap new root type_id info items x)
    → PartsStandFor (record new { weaks = weaks_with weak heap.weaks b.place }) (with_birth false store info (request_for s.name root type_id items info.shape x))
young_born heap new store root type_id items x info weak s can target b =
    let n : ℕ = words_in info.shape items in let place : ℕ = b.place in
    let low : place < 4294967296 = (let inside = b.lowest.fits.inside in let words = s.made.words in let most = s.made.ranges.1 in omega (arith, inside, words, most)) in
    let young : is_young place ≡ true = grind (arith, nat_tests) in
    let memory : Memory = born_memory heap place type_id items x info in
    let made : with_born heap memory b.nursery heap.old_blocks place root info n
    ≡ record (with_newborn heap place type_id root info items x) { nursery = b.nursery; weaks = weaks_with weak heap.weaks place; unsettled = heap.unsettled + n } = λ i.
    record (with_newborn heap place type_id root info items x) {
      nursery = b.nursery;
      weaks = weaks_with (can.kind i) heap.weaks place;
      unsettled = unsettled_with (not (young i)) heap.unsettled n;
      old_words = fresh_with (not (young i)) heap.old_words n;
      fresh = fresh_with (not (young i)) heap.fresh n;
    } in
    subst (λ (h : HeapParts). PartsStandFor h (with_birth false store info (request_for s.name root type_id items info.shape x)))
    (made ∙ ap (λ (h : HeapParts). record h { weaks = weaks_with weak heap.weaks place }) (sym b.is))
    (young_birth_stands heap store s place b.nursery root type_id items x info (record {
      known = can.known;
      small = can.small;
      target = target;
      lowest = b.lowest;
      hands = b.hands;
      laid = b.laid;
      limit = can.limit;
      next = can.next;
    }))

-- an object that is not weak is born in the nursery
pub young_stands : (heap new : HeapParts) (store : Store) (root type_id items : ℕ) (info : TypeInfo) (s : PartsStandFor heap store) → CanBear false heap type_id info items
    → BearsYoung heap new root type_id info items 0 → PartsStandFor new (with_birth false store info (array_request root type_id items))
young_stands heap new store root type_id items info s can b =
    subst (λ (h : HeapParts). PartsStandFor h (with_birth false store info (array_request root type_id items)))
    (ap (λ (h : HeapParts). record h { weaks = heap.weaks }) b.is ∙ sym b.is)
    (subst (λ (r : Request). PartsStandFor (record new { weaks = heap.weaks }) (with_birth false store info r)) (request-plain s.name root type_id items info.shape)
    (young_born heap new store root type_id items 0 info false s can (inl refl) b))

-- the header of an object that is born outside the nursery, by its flags
flags-of : (type_id : ℕ) (cards : Bool) (f : Flag) → f ≢ Track → f ≢ HasCards → type_id < 65536 → has_flag (old_header type_id cards) f ≡ false
flags-of type_id true f t h small =
    has_flag-with_flag_other (with_flag type_id Track) HasCards f h ∙ (has_flag-with_flag_other type_id Track f t ∙ has_flag-type type_id f small)
flags-of type_id false f t h small = has_flag-with_flag_other type_id Track f t ∙ has_flag-type type_id f small

tracked-of : (type_id : ℕ) (cards : Bool) → has_flag (old_header type_id cards) Track ≡ true
tracked-of type_id true = has_flag-with_flag_other (with_flag type_id Track) HasCards Track (λ e. let no : ⊥ = cc in no) ∙ has_flag-with_flag_same type_id Track
tracked-of type_id false = has_flag-with_flag_same type_id Track

cards-of : (type_id : ℕ) (cards : Bool) → type_id < 65536 → has_flag (old_header type_id cards) HasCards ≡ cards
cards-of type_id true small = has_flag-with_flag_same (with_flag type_id Track) HasCards
cards-of type_id false small = has_flag-with_flag_other type_id Track HasCards (λ e. let no : ⊥ = cc in no) ∙ has_flag-type type_id HasCards small

type-of : (type_id : ℕ) (cards : Bool) → type_id < 65536 → old_header type_id cards % 65536 ≡ type_id
type-of type_id true small = type_of-with_flag (with_flag type_id Track) HasCards ∙ (type_of-with_flag type_id Track ∙ mod-eq_of_lt small)
type-of type_id false small = type_of-with_flag type_id Track ∙ mod-eq_of_lt small

header-of : (type_id : ℕ) (cards : Bool) → type_id < 65536 → IsHeader (old_header type_id cards)
header-of type_id true small = IsHeader-with_flag (with_flag type_id Track) HasCards (IsHeader-with_flag type_id Track (omega (arith, small)))
header-of type_id false small = IsHeader-with_flag type_id Track (omega (arith, small))

cards-by : (card : ℕ) (shape : Shape) (a items : ℕ) → keeps_cards card shape (layout_of shape a items).ref_count ≡ keeps_cards card shape items
cards-by card (Fixed ints refs) a items = refl
cards-by card IntArray a items = refl
cards-by card RefArray a items = refl
cards-by card Weak a items = refl

born_old : (card type_id a items : ℕ) (info : TypeInfo) → type_id < 65536
    → IsBornOld card info (layout_of info.shape a items).ref_count (old_header type_id (keeps_cards card info.shape items))
born_old card type_id a items info small =
    let cards : Bool = keeps_cards card info.shape items in
    let off : (f : Flag) → f ≢ Track → f ≢ HasCards → has_flag (old_header type_id cards) f ≡ false = λ f t h. flags-of type_id cards f t h small in record {
      settled = record {
        live = record {
          header = header-of type_id cards small;
          not_free = off Free (λ e. let no : ⊥ = cc in no) (λ e. let no : ⊥ = cc in no);
          not_order1 = off Order1 (λ e. let no : ⊥ = cc in no) (λ e. let no : ⊥ = cc in no);
          not_order2 = off Order2 (λ e. let no : ⊥ = cc in no) (λ e. let no : ⊥ = cc in no);
        };
        not_shadow = off Shadow (λ e. let no : ⊥ = cc in no) (λ e. let no : ⊥ = cc in no);
        not_has_shadow = off HasShadow (λ e. let no : ⊥ = cc in no) (λ e. let no : ⊥ = cc in no);
        not_pinned = off Pinned (λ e. let no : ⊥ = cc in no) (λ e. let no : ⊥ = cc in no);
      };
      not_visited = off Visited (λ e. let no : ⊥ = cc in no) (λ e. let no : ⊥ = cc in no);
      track = tracked-of type_id cards;
      cards = cards-of type_id cards small ∙ sym (cards-by card info.shape a items);
      no_cards = off CardsSet (λ e. let no : ⊥ = cc in no) (λ e. let no : ⊥ = cc in no);
    }

-- a unit that was told not to wait does not
not-waiting : (page : ℕ) (old_blocks : Old) (waiting : List ℕ) (place : ℕ) → page_size old_blocks ≡ page → IsElsewhere old_blocks waiting place
    → is_waiting page waiting place ≡ false
not-waiting page old_blocks waiting place is elsewhere = elim (cases_Bool (is_waiting page waiting place)) [
  | inl waits ↦
      let unit : unit_at page place ≡ unit_of old_blocks place = ap (λ (k : ℕ). if nat_lt place 1099511627776 then page_of k place else place) (sym is) in
      absurd (elsewhere (subst (λ (u : ℕ). Contains waiting u) unit (Contains-from_is_in (unit_at page place) waiting waits)))
  | inr out ↦ out
]

-- An object is born outside the nursery, and listed where it is weak.
pub old_born : (heap new : HeapParts) (store : Store) (root type_id items x : ℕ) (info : TypeInfo) (weak : Bool) (s : PartsStandFor heap store) → CanBear weak heap type_id info items
    → IsPointer s.places x → (b : BearsOld heap new root type_id info items x)
    → PartsStandFor (record new { weaks = weaks_with weak heap.weaks b.place }) (with_birth true store info (request_for s.name root type_id items info.shape x))
old_born heap new store root type_id items x info weak s can target b =
    let n : ℕ = words_in info.shape items in let place : ℕ = b.place in let middle : HeapParts = b.middle in
    let head : ℕ = old_header type_id (keeps_cards heap.setup.settings.card info.shape items) in
    let keeps = b.takes.keeps in
    let words : heap.nursery.words ≤ 1048576 = omega (arith, s.made.words, s.made.ranges.1) in
    let taken : MemoryKeeps heap.setup.types heap.memory middle.memory heap.nursery middle.old_blocks (home_in heap) ((place, n) ∷ []) s.places s.husks s.waiting =
    take_keeps n place s.words words (record { kept = keeps.kept; taken = b.takes.taken; outside = keeps.outside }) in
    let live : List Extent = blocks_of heap.setup.types (word_in heap) (home_in heap) (young_places s.places) (old_places s.places) s.husks [] in
    let elsewhere : is_waiting heap.setup.settings.page s.waiting place ≡ false =
    not-waiting heap.setup.settings.page middle.old_blocks s.waiting place (keeps.page ∙ s.made.page) (b.takes.elsewhere live s.waiting s.words.blocks) in
    let low : 4294967296 ≤ place = (HasBlocks-first middle.old_blocks middle.memory (place, n) live s.waiting (b.takes.taken live s.waiting s.words.blocks)).low in
    let old : is_young place ≡ false = grind (arith, nat_tests) in
    let memory : Memory = old_memory middle.memory place head items x info heap.next in
    let made : with_born heap memory heap.nursery middle.old_blocks place root info n
    ≡ record (with_newborn (with_old_blocks heap middle.old_blocks middle.memory) place head root info items x) {
      weaks = weaks_with weak heap.weaks place;
      old_words = heap.old_words + n;
      fresh = heap.fresh + n;
    } = λ i. record (with_newborn (with_old_blocks heap middle.old_blocks middle.memory) place head root info items x) {
      weaks = weaks_with (can.kind i) heap.weaks place;
      unsettled = unsettled_with (not (old i)) heap.unsettled n;
      old_words = fresh_with (not (old i)) heap.old_words n;
      fresh = fresh_with (not (old i)) heap.fresh n;
    } in
    let back : record (with_newborn (with_old_blocks heap middle.old_blocks middle.memory) place head root info items x) { old_words = heap.old_words + n; fresh = heap.fresh + n } ≡ new =
    ap (λ (h : HeapParts). record (with_newborn h place head root info items x) { old_words = h.old_words + n; fresh = h.fresh + n }) (sym keeps.only) ∙ sym b.is in
    subst (λ (h : HeapParts). PartsStandFor h (with_birth true store info (request_for s.name root type_id items info.shape x)))
    (made ∙ ap (λ (h : HeapParts). record h { weaks = weaks_with weak heap.weaks place }) back)
    (old_birth_stands heap store s middle.memory middle.old_blocks place head root type_id items x info (record {
      known = can.known;
      target = target;
      keeps = taken;
      elsewhere = elsewhere;
      type = type-of type_id (keeps_cards heap.setup.settings.card info.shape items) can.small;
      first = born_old heap.setup.settings.card type_id place items info can.small;
      made = (keeps.arenas, keeps.small, keeps.page);
      limit = can.limit;
      next = can.next;
    }))

-- what is listed stays when an object is born outside the nursery
pub old_listed : {heap new : HeapParts} {root type_id items x : ℕ} {info : TypeInfo} → BearsOld heap new root type_id info items x → new.weaks ≡ heap.weaks
old_listed b = ap (λ (h : HeapParts). h.weaks) b.is ∙ ap (λ (h : HeapParts). h.weaks) b.takes.keeps.only

-- an object that is not weak is born outside the nursery
pub old_stands : (heap new : HeapParts) (store : Store) (root type_id items : ℕ) (info : TypeInfo) (s : PartsStandFor heap store) → CanBear false heap type_id info items
    → BearsOld heap new root type_id info items 0 → PartsStandFor new (with_birth true store info (array_request root type_id items))
old_stands heap new store root type_id items info s can b =
    subst (λ (h : HeapParts). PartsStandFor h (with_birth true store info (array_request root type_id items)))
    (ap (λ (ws : List ℕ). record new { weaks = ws }) (sym (old_listed b)))
    (subst (λ (r : Request). PartsStandFor (record new { weaks = heap.weaks }) (with_birth true store info r)) (request-plain s.name root type_id items info.shape)
    (old_born heap new store root type_id items 0 info false s can (inl refl) b))

-- No block was taken: the parts stand for the same stores.
pub none_keeps : (heap new : HeapParts) → TakesNone heap new → PartsKeep heap new
none_keeps heap new t = record {
  setup = ap (λ (h : HeapParts). h.setup) t.keeps.only;
  stands = λ store s.
      let k = t.keeps in
      let words : heap.nursery.words ≤ 1048576 = omega (arith, s.made.words, s.made.ranges.1) in
      let live : List Extent = blocks_of heap.setup.types (word_in heap) (home_in heap) (young_places s.places) (old_places s.places) s.husks [] in
      subst (λ (h : HeapParts). PartsStandFor h store) (sym k.only)
      (none_stands heap store new.memory new.old_blocks s (record {
        small = words;
        low_words = λ b l. k.outside.below.words b (omega arith) l tt;
        low_lies = lies-kept heap.memory new.memory 4294967296 1 heap.nursery.words k.outside.below.blocks (omega arith) s.words.young.whole;
        live_words = k.kept live s.waiting s.words.blocks;
        blocks = t.same live s.waiting s.words.blocks;
      }) (k.arenas, k.small, k.page));
}

-- objects in a row take the words between the ends of the row
walk-sum : (types : Table TypeInfo) (w : ℕ → ℕ) (from end : ℕ) (places : List ℕ) → IsWalk types w from places end → end ≡ from + sum_by (words_at types w) places
walk-sum types w from end [] walk = sym walk ∙ (let e : from ≡ from + 0 = omega arith in e)
walk-sum types w from end (p ∷ places) walk =
    let here : words_at types w from ≡ words_at types w p = ap (words_at types w) (sym walk.0) in
    let more = walk-sum types w (from + words_at types w p) end places walk.1 in
    omega (arith, more, sum_by-cons (words_at types w) p places)

-- what was handed out, where that is one range from word 1 on
handed-out : (types : Table TypeInfo) (w : ℕ → ℕ) (cursor : ℕ) (walks : List (List ℕ)) → 1 ≤ cursor → AreWalks types w (words_between 1 cursor) walks
    → cursor ≡ 1 + sum_by (words_at types w) (walked walks)
handed-out types w cursor walks l h = elim (cases_lt 1 cursor) [
  | inl some ↦ in-one walks (subst (λ (rs : List Range). AreWalks types w rs walks) (let e : words_between 1 cursor ≡ (1, cursor - 1) ∷ [] = grind (arith, nat_tests) in e) h)
  | inr none ↦ in-none walks (omega (arith, l, none)) (subst (λ (rs : List Range). AreWalks types w rs walks) (let e : words_between 1 cursor ≡ [] = grind (arith, nat_tests) in e) h)
]
  where
    in-one : (walks : List (List ℕ)) → AreWalks types w ((1, cursor - 1) ∷ []) walks → cursor ≡ 1 + sum_by (words_at types w) (walked walks)
    in-one [] h = absurd h
    in-one (ps ∷ []) h =
        let sum = walk-sum types w 1 (1 + (cursor - 1)) ps h.0 in
        let all : sum_by (words_at types w) (walked (ps ∷ [])) ≡ sum_by (words_at types w) ps = ap (sum_by (words_at types w)) (append-nil ps) in
        omega (arith, sum, l, all)
    in-one (ps ∷ (qs ∷ more)) h = absurd h.1

    in-none : (walks : List (List ℕ)) → cursor ≡ 1 → AreWalks types w [] walks → cursor ≡ 1 + sum_by (words_at types w) (walked walks)
    in-none [] is h = is
    in-none (ps ∷ walks) is h = absurd h

-- behind what was handed out all words are free
free-behind : (cursor word : ℕ) → cursor ≤ word → is_free (words_between 1 cursor) word ≡ true
free-behind cursor word l = elim (cases_lt 1 cursor) [
  | inl some ↦ (let e : words_between 1 cursor ≡ (1, cursor - 1) ∷ [] = grind (arith, nat_tests) in
      let out : covers (1, cursor - 1) word ≡ false = grind (arith, nat_tests) in rw (e, out) refl)
  | inr none ↦ (let e : words_between 1 cursor ≡ [] = grind (arith, nat_tests) in rw e refl)
]

-- Where no object was pinned, a birth for which there are words has a place.
pub room_ungapped : (heap : HeapParts) (store : Store) (s : PartsStandFor heap store) (n : ℕ) → heap.gapped ≡ false → heap.unsettled + n ≤ heap.setup.settings.nursery
    → Fits heap.nursery n heap.nursery.cursor
room_ungapped heap store s n ungapped fits =
    let types = heap.setup.types in let w : ℕ → ℕ = word_in heap in
    let un = s.ungapped ungapped in let laid = s.words.young.laid_out in
    let cursor : ℕ = heap.nursery.cursor in
    let least : 1 ≤ cursor = (let passed = laid.passed in omega (arith, passed, un.0)) in
    let sum : cursor ≡ 1 + sum_by (words_at types w) (walked s.words.young.walks) =
    handed-out types w cursor s.words.young.walks least (subst (λ (rs : List Range). AreWalks types w rs s.words.young.walks) un.1 s.words.young.walk) in
    let same : sum_by (words_at types w) (walked s.words.young.walks) ≡ sum_by (words_at types w) (young_places s.places) =
    sym (sum_by-IsPermutation (words_at types w) (walked s.words.young.walks) (young_places s.places) s.words.young.just) in
    let words = placed_words store.settled s.words.objects s.births.settled_are in
    record {
      reached = omega arith;
      inside = omega (arith, sum, same, words.unsettled, s.sums.unsettled_are, s.made.words, fits);
      free = λ word l r. subst (λ (rs : List Range). is_free rs word ≡ true) (sym un.1) (free-behind cursor word l);
    }
