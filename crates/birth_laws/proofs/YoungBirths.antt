-- What the parts of a heap stand for when an object is born in the nursery.
use Rattle.std.proofs.Common.{◌≡◌, ◌≢◌, ℕ, ◌+◌, ◌^◌, ◌<◌, ◌≤◌, ◌⊎◌, Bool, true, false, IsTrue, List, [], ◌∷◌, ◌++◌, map, Option, Some, None, refl, sym, ap, ◌∙◌, subst, inl, inr, arith}
use Rattle.std.specs.Prelude.{not, sum_by, option_map, ◌&&◌, ◌==◌}
use Rattle.std.specs.List.{cons_option}
use Rattle.std.proofs.lemmas.Bool.{cases_Bool, cases_lt}
use Rattle.std.proofs.lemmas.Bool.Decides.{nat_tests}
use Rattle.std.proofs.lemmas.List.Sums.{sum_by-cons}
use Rattle.std.proofs.lemmas.List.Sorted.{list_any-IsPermutation}
use Rattle.type_table.specs.declared.info.Shape.{Shape}
use Rattle.type_table.specs.declared.info.Shape.TheVariants.{Fixed, IntArray, RefArray, Weak}
use Rattle.type_table.specs.declared.info.TypeInfo.{TypeInfo}
use Rattle.type_table.specs.Table.{Table, value_at}
use Rattle.type_table.specs.Words.{words_in}
use Rattle.heap_space.specs.Places.{lies_in_one, word_at, with_run}
use Rattle.heap_space.specs.Memory.{Memory}
use Rattle.heap_space.specs.Extents.{Extent}
use Rattle.heap_space.proofs.Blocks.{lies-with_run}
use Rattle.nursery_gaps.specs.Ranges.{Range, is_free, covers, AreRising}
use Rattle.nursery_gaps.specs.Nursery.{Layout as NurseryLayout, HandsOut, Fits, FitsLowest, IsLaidOut}
use Rattle.object_header.specs.Words.{has_flag}
use Rattle.object_header.specs.declared.flags.Flag.{Flag}
use Rattle.object_header.specs.declared.flags.Flag.TheVariants.{Track, Visited, HasShadow, Pinned, HasCards, CardsSet, Free, Shadow, Order1, Order2}
use Rattle.object_header.proofs.HeaderLaws.{has_flag-type}
use Rattle.object_view.specs.Births.{born_words}
use Rattle.object_view.proofs.InitLaws.{two-words, lies-part}
use Rattle.object_model.proofs.Members.{is_in-cases, is_in-nil, is_in-append, in-either, is_in-named}
use Rattle.object_view.proofs.LayoutLaws.{SameAt, laid_out, keeps-same}
use Rattle.object_view.proofs.NewbornLaws.{BornAt, IsFree, header-plain, born-is, born-info, born-layout, born-first, birth_holds, free-unmet, request_for, request-names, more-pointers, length-born_words}
use Rattle.object_view.proofs.WholeLaws.{born-written, has_object-born, has_object-keeps}
use Rattle.object_view.specs.Views.{HasObject}
use Rattle.old_space.specs.HasBlocks.{HasBlocks, IsBlock}
use Rattle.old_space.proofs.JoinLaws.{HasBlocks-blocks}
use Rattle.object_model.specs.Newborn.{Request, newborn}
use Rattle.store_model.specs.Birth.{with_birth}
use Rattle.store_model.specs.Store.{Store}
use Rattle.store_model.specs.Roots.{is_kept}
use Rattle.object_model.specs.Sets.{is_in}
use Rattle.object_model.specs.ObjectWords.{updated, renamed, target_of, words_at, Covers}
use Rattle.object_model.specs.Holds.{HoldsObjects, IsPointer}
use Rattle.parts_model.specs.Parts.{HeapParts, word_in, home_in}
use Rattle.parts_model.specs.Places.{is_young, young_places, old_places, block_at}
use Rattle.parts_model.specs.Nursery.{IsWalk, AreWalks, walked, HoldsNursery}
use Rattle.parts_model.specs.OldSpace.{reserved_block, reserved_blocks, blocks_of}
use Rattle.parts_model.specs.StandsFor.{PartsStandFor}
use Rattle.frame_laws.proofs.Births.{rise-bounds}
use Rattle.frame_laws.proofs.Members.{each-left, each-right}
use Rattle.frame_laws.proofs.PlaceLaws.{young-is_in, is_in-young, is_in-old, young-more, old-same}
use Rattle.parts_model.proofs.BlockLaws.{each-member, blocks-written}
use Rattle.frame_laws.proofs.WriteWords.{each-reserved}
use Rattle.frame_laws.proofs.KeepWords.{SameWords, blocks_same}
use Rattle.birth_laws.proofs.BumpLaws.{nursery_more, ungapped_more}
use Rattle.frame_laws.proofs.ReviveStands.{named-kept, renamed-none, renamed-full}
use Rattle.birth_laws.proofs.BirthStands.{IsNew, with_born, birth_stands}

-- objects in a row take the words between the ends of the row
walk-sum : (types : Table TypeInfo) (w : ℕ → ℕ) (from end : ℕ) (places : List ℕ) → IsWalk types w from places end → end ≡ from + sum_by (words_at types w) places
walk-sum types w from end [] walk = sym walk ∙ (let e : from ≡ from + 0 = omega arith in e)
walk-sum types w from end (p ∷ places) walk =
    let here : words_at types w from ≡ words_at types w p = ap (words_at types w) (sym walk.0) in
    let more = walk-sum types w (from + words_at types w p) end places walk.1 in
    omega (arith, more, sum_by-cons (words_at types w) p places)

-- each of them lies in the row
walk-within : (types : Table TypeInfo) (w : ℕ → ℕ) (from end p : ℕ) (places : List ℕ) → IsWalk types w from places end → IsTrue (is_in p places)
    → (from ≤ p) × (p + words_at types w p ≤ end)
walk-within types w from end p [] walk t = absurd (is_in-nil p t)
walk-within types w from end p (q ∷ places) walk t =
    let last = walk-sum types w (from + words_at types w q) end places walk.1 in
    elim (is_in-cases p q places t) [
      | inl e ↦
          (let size : words_at types w p ≡ words_at types w q = ap (words_at types w) e in
          (omega (arith, e, walk.0), omega (arith, e, walk.0, size, last)))
      | inr u ↦ (let more = walk-within types w (from + words_at types w q) end p places walk.1 u in (omega (arith, more.0), more.1))
    ]

-- a word of an object is not free
pub covered-in : (types : Table TypeInfo) (w : ℕ → ℕ) (ranges : List Range) (walks : List (List ℕ)) (q b : ℕ) → AreWalks types w ranges walks → IsTrue (is_in q (walked walks))
    → Covers types w q b → is_free ranges b ≡ false
covered-in types w [] [] q b h t c = absurd (is_in-nil q t)
covered-in types w [] (ps ∷ walks) q b h t c = absurd h
covered-in types w (r ∷ ranges) [] q b h t c = absurd h
covered-in types w (r ∷ ranges) (ps ∷ walks) q b h t c = elim (in-either q ps (walked walks) t) [
  | inl here ↦
      (let within = walk-within types w r.0 (r.0 + r.1) q ps h.0 here in
      let low : r.0 ≤ b = omega (arith, within.0, c.0) in let high : b < r.0 + r.1 = omega (arith, within.1, c.1) in
      let inside : covers r b ≡ true = grind (arith, nat_tests) in rw inside refl)
  | inr there ↦ (let rest = covered-in types w ranges walks q b h.1 there c in both-false (not (covers r b)) (is_free ranges b) rest)
]
  where
    both-false : (a b : Bool) → b ≡ false → (a && b) ≡ false
    both-false true b e = e
    both-false false b e = refl

rising-ends : (from to : ℕ) (ranges : List Range) → AreRising from to ranges → from ≤ to
rising-ends from to [] r = r
rising-ends from to (x ∷ ranges) r = (let more = rising-ends (x.0 + x.1) to ranges r.2 in omega (arith, r.0, more))

-- The words that the nursery hands out are free.
pub young_free : (heap : HeapParts) (store : Store) (s : PartsStandFor heap store) (n a : ℕ) → 0 < n → Fits heap.nursery n a
    → IsFree heap.setup.types (word_in heap) s.places s.places a n
young_free heap store s n a some fits =
    let types = heap.setup.types in let w : ℕ → ℕ = word_in heap in
    let laid = s.words.young.laid_out in
    let least = rising-ends 1 heap.nursery.gap laid.below laid.lower in
    let passed = laid.passed in
    let reached = fits.reached in let inside = fits.inside in
    let small : heap.nursery.words ≤ 1048576 = omega (arith, s.made.words, s.made.ranges.1) in
    let apart : (q b : ℕ) → IsTrue (is_in q s.places) → Covers types w q b → a ≤ b → b < a + n → ⊥ = λ q b t c l r. elim (cases_Bool (is_young q)) [
      | inl e ↦
          (let mine : IsTrue (is_in q (walked s.words.young.walks)) =
          subst IsTrue (sym (list_any-IsPermutation (λ (y : ℕ). y == q) (walked s.words.young.walks) (young_places s.places) s.words.young.just)) (is_in-young s.places q t e) in
          let taken = covered-in types w heap.nursery.used s.words.young.walks q b s.words.young.walk mine c in
          let free = fits.free b l r in let no : ⊥ = cc in no)
      | inr e ↦
          (let blocks = HasBlocks-blocks heap.old_blocks heap.memory _ s.waiting s.words.blocks in
          let block = each-member (IsBlock heap.memory) (block_at types w) (old_places s.places) q (each-left (IsBlock heap.memory) (map (block_at types w) (old_places s.places)) _ blocks) (is_in-old s.places q t e) in
          let low = block.low in let no : ⊥ = omega (arith, low, c.0, r, inside, small) in no)
    ] in record {
      above = omega (arith, least, passed, reached);
      apart = apart;
      unmet = free-unmet types w s.places a n some apart;
    }

-- an object is written on free words of the nursery, with the place of a held target if it is weak, and otherwise 0
pub record IsYoungBirth (heap : HeapParts) (store : Store) (s : PartsStandFor heap store) (a : ℕ) (nursery : NurseryLayout) (root type_id items x : ℕ) (info : TypeInfo) : Type 0 where
  pub known : value_at heap.setup.types type_id ≡ Some info
  pub small : type_id < 65536
  pub target : IsPointer s.places x
  pub lowest : FitsLowest heap.nursery (words_in info.shape items) a
  pub hands : HandsOut heap.nursery (words_in info.shape items) a nursery
  pub laid : IsLaidOut nursery
  pub limit : heap.unsettled + heap.old_words + words_in info.shape items ≤ heap.setup.settings.limit
  pub next : heap.next + 1 < 2 ^ 63

abbrev pub born_memory : HeapParts → ℕ → ℕ → ℕ → ℕ → TypeInfo → Memory
born_memory heap a type_id items x info = record heap.memory { blocks = with_run heap.memory.blocks a (born_words info.shape type_id heap.next items x) }

-- what is asked of the birth, by the names of the places before
abbrev pub asked_of : {heap : HeapParts} {store : Store} → PartsStandFor heap store → ℕ → ℕ → ℕ → ℕ → TypeInfo → Request
asked_of s root type_id items x info = request_for s.name root type_id items info.shape x

target-told : (shape : Shape) (o : Option ℕ) (t : ℕ) → target_of shape o ≡ Some t → o ≡ Some t
target-told (Fixed i r) o t e = absurd (let no : ⊥ = cc in no)
target-told IntArray o t e = absurd (let no : ⊥ = cc in no)
target-told RefArray o t e = absurd (let no : ⊥ = cc in no)
target-told Weak o t e = e

-- the target that is asked for is kept
pub target-kept : {heap : HeapParts} {store : Store} (s : PartsStandFor heap store) (shape : Shape) (x t : ℕ) → IsPointer s.places x
    → target_of shape (renamed s.name x) ≡ Some t → IsTrue (is_kept store.kept t)
target-kept {store = store} s shape x t is e =
    let told = target-told shape (renamed s.name x) t e in elim is [
      | inl z ↦ absurd (let none = renamed-none s.name x z in let no : ⊥ = cc in no)
      | inr held ↦
          (let above = s.words.objects.above x held in
          let full = renamed-full s.name x (λ z. absurd (let no : ⊥ = omega (arith, above, z) in no)) in
          let same : s.name x ≡ t = (let both : Some (s.name x) ≡ Some t = sym full ∙ told in cc) in
          subst (λ (k : ℕ). IsTrue (is_kept store.kept k)) same (named-kept s x held))
    ]

young_new : (heap : HeapParts) (store : Store) (s : PartsStandFor heap store) (a : ℕ) (nursery : NurseryLayout) (root type_id items x : ℕ) (info : TypeInfo)
    → IsYoungBirth heap store s a nursery root type_id items x info → IsNew heap store s (born_memory heap a type_id items x info) a info (asked_of s root type_id items x info)
young_new heap store s a nursery root type_id items x info b =
    let types = heap.setup.types in let w : ℕ → ℕ = word_in heap in let n : ℕ = words_in info.shape items in
    let memory : Memory = born_memory heap a type_id items x info in
    let v : ℕ → ℕ = word_at memory.blocks in
    let two = two-words info.shape items in
    let fits = b.lowest.fits in
    let free = young_free heap store s n a (omega (arith, two)) fits in
    let inside = fits.inside in
    let above = free.above in
    let small : heap.nursery.words ≤ 1048576 = omega (arith, s.made.words, s.made.ranges.1) in
    let lies : lies_in_one heap.memory.blocks a n ≡ true = lies-part heap.memory.blocks 1 heap.nursery.words a n s.words.young.whole above (omega (arith, inside)) in
    let born : BornAt types v w a type_id type_id heap.next items x info = born-written heap.memory.blocks types a type_id type_id heap.next items x info b.known (header-plain type_id b.small) lies in
    let size = length-born_words info.shape type_id heap.next items x in
    let stays : (c : ℕ) → (c < a) ⊎ (a + n ≤ c) → v c ≡ w c = λ c out. born.run.elsewhere c (elim out [ inl l ↦ inl l | inr l ↦ inr (omega (arith, l, size)) ]) in
    let objects_same : (q : ℕ) → IsTrue (is_in q s.places) → SameAt types v w q = λ q t. record {
      same = λ c l r. stays c (elim (cases_lt c a) [
        | inl below ↦ inl below
        | inr over ↦ elim (cases_lt c (a + n)) [ inl mine ↦ absurd (free.apart q c t (l, r) over mine) | inr behind ↦ inr behind ]
      ]);
    } in
    let blocks = each-right (IsBlock heap.memory) (map (block_at types w) (old_places s.places)) _ (HasBlocks-blocks heap.old_blocks heap.memory _ s.waiting s.words.blocks) in
    let husk_low : (q : ℕ) → IsTrue (is_in q s.husks) → 4294967296 ≤ q = λ q t. (each-member (IsBlock heap.memory) (block_at types w) s.husks q (each-left (IsBlock heap.memory) (map (block_at types w) s.husks) _ blocks) t).low in
    let husk_same : (q : ℕ) → IsTrue (is_in q s.husks) → SameAt types v w q = λ q t. record { same = λ c l r. stays c (inr (let low = husk_low q t in omega (arith, low, l, inside, small))) } in
    let fresh : (q : ℕ) → IsTrue (is_in q s.places) → s.name q ≢ heap.next = λ q t e.
    absurd (let bounds = rise-bounds 1 heap.next (s.name q) (map s.name s.places) s.births.rise (is_in-named s.name q s.places t) in let no : ⊥ = omega (arith, bounds.1, e) in no) in
    let same : SameWords types v w (home_in heap) s.places s.husks = record {
      objects = record { layouts = λ q t. keeps-same types v w q (objects_same q t); husk_layouts = λ q t. keeps-same types v w q (husk_same q t) };
      firsts = λ q t. (objects_same q t).same q (omega arith) (omega (arith, (laid_out types w q).header));
      husk_firsts = λ q t. (husk_same q t).same q (omega arith) (omega (arith, (laid_out types w q).header));
      shadow_firsts = λ q t.
          let some = each-reserved (IsBlock heap.memory) types w (home_in heap) (young_places s.places) q
          (each-left (IsBlock heap.memory) (reserved_blocks types w (home_in heap) (young_places s.places)) [] (each-right (IsBlock heap.memory) (map (block_at types w) s.husks) _ blocks)) t in
          stays q (inr (let low = some.is.low in omega (arith, low, inside, small)));
    } in
    let is = born-is s.name root born in
    record {
      objects = subst (λ (k : ℕ). HoldsObjects types v (s.places ++ a ∷ []) (s.places ++ a ∷ []) (updated s.name a heap.next) (store.kept ++ newborn k info (asked_of s root type_id items x info) ∷ [])) (sym s.counts.next_is)
          (subst (λ (r : Request). HoldsObjects types v (s.places ++ a ∷ []) (s.places ++ a ∷ []) (updated s.name a heap.next) (store.kept ++ newborn heap.next info r ∷ []))
          (request-names s.name heap.next root type_id items info.shape x free b.target) (birth_holds root s.words.objects free born fresh (more-pointers s.places a x b.target)));
      whole = λ p t. elim (is_in-append s.places a p t) [
        | inl e ↦ subst (HasObject memory types) (sym e) (has_object-born heap.memory types a type_id type_id heap.next items x info b.known (header-plain type_id b.small) lies)
        | inr u ↦ has_object-keeps heap.memory memory types p (same.objects.layouts p u) (λ from k l. lies-with_run heap.memory.blocks a (born_words info.shape type_id heap.next items x) from k ∙ l) (s.words.whole p u)
      ];
      same = same;
      info_is = born-info born;
      layout = born-layout born;
      size = is.words;
      unmet = free.unmet;
      husk_unmet = λ q t e. (let low = husk_low q t in let no : ⊥ = omega (arith, low, e, inside, small, two) in no);
      above = above;
    }

none-last-block : (types : Table TypeInfo) (w : ℕ → ℕ) (home : ℕ → Option ℕ) (ps : List ℕ) (a : ℕ) → home a ≡ None
    → reserved_blocks types w home (ps ++ a ∷ []) ≡ reserved_blocks types w home ps
none-last-block types w home [] a none = ap (λ (o : Option ℕ). cons_option (option_map (λ (at : ℕ). (at, words_at types w a)) o) []) none
none-last-block types w home (p ∷ ps) a none = ap (λ (xs : List Extent). cons_option (reserved_block types w home p) xs) (none-last-block types w home ps a none)

-- An object is born in the nursery.
pub young_birth_stands : (heap : HeapParts) (store : Store) (s : PartsStandFor heap store) (a : ℕ) (nursery : NurseryLayout) (root type_id items x : ℕ) (info : TypeInfo)
    → IsYoungBirth heap store s a nursery root type_id items x info
    → PartsStandFor (with_born heap (born_memory heap a type_id items x info) nursery heap.old_blocks a root info (words_in info.shape items)) (with_birth false store info (asked_of s root type_id items x info))
young_birth_stands heap store s a nursery root type_id items x info b =
    let types = heap.setup.types in let w : ℕ → ℕ = word_in heap in let n : ℕ = words_in info.shape items in
    let memory : Memory = born_memory heap a type_id items x info in
    let v : ℕ → ℕ = word_at memory.blocks in
    let new = young_new heap store s a nursery root type_id items x info b in
    let two = two-words info.shape items in
    let fits = b.lowest.fits in
    let inside = fits.inside in
    let small : heap.nursery.words ≤ 1048576 = omega (arith, s.made.words, s.made.ranges.1) in
    let young : is_young a ≡ true = (let low : a < 4294967296 = omega (arith, inside, small, two) in grind (arith, nat_tests)) in
    let lies : lies_in_one heap.memory.blocks a n ≡ true = lies-part heap.memory.blocks 1 heap.nursery.words a n s.words.young.whole new.above (omega (arith, inside)) in
    let born : BornAt types v w a type_id type_id heap.next items x info = born-written heap.memory.blocks types a type_id type_id heap.next items x info b.known (header-plain type_id b.small) lies in
    let first : v a ≡ type_id = born-first born in
    let flagless : (f : Flag) → has_flag (v a) f ≡ false = λ f. ap (λ (k : ℕ). has_flag k f) first ∙ has_flag-type type_id f b.small in
    let no_home : home_in heap a ≡ None = elim (home_in heap a) as (λ (o : Option ℕ). home_in heap a ≡ o → o ≡ None) [
      | None ↦ λ e. refl
      | Some at ↦ λ e. absurd (new.unmet a (young-is_in s.places a (s.homes.reserved a at e)).0 refl)
    ] refl in
    let size = length-born_words info.shape type_id heap.next items x in
    let live : List Extent = blocks_of types w (home_in heap) (young_places s.places) (old_places s.places) s.husks [] in
    let written : HasBlocks heap.old_blocks memory live s.waiting =
    blocks-written heap.old_blocks heap.memory a (born_words info.shape type_id heap.next items x) live s.waiting s.words.blocks (λ c low out. inr (omega (arith, low, size, inside, small))) in
    let renewed : HasBlocks heap.old_blocks memory (blocks_of types v (home_in heap) (young_places s.places) (old_places s.places) s.husks []) s.waiting =
    subst (λ (xs : List Extent). HasBlocks heap.old_blocks memory xs s.waiting) (blocks_same new.same.objects (home_in heap) []) written in
    subst (λ (old : Bool). PartsStandFor (with_born heap memory nursery heap.old_blocks a root info n) (with_birth old store info (asked_of s root type_id items x info))) (ap not young)
    (birth_stands heap store s memory nursery heap.old_blocks a info (asked_of s root type_id items x info) new
    (λ e. absurd (let no : ⊥ = cc in no))
    (λ e. record {
      young = record {
        live = record {
          header = (let small_type = b.small in omega (arith, first, small_type));
          not_free = flagless Free;
          not_order1 = flagless Order1;
          not_order2 = flagless Order2;
        };
        not_shadow = flagless Shadow;
        not_track = flagless Track;
        not_visited = flagless Visited;
        not_has_cards = flagless HasCards;
        not_cards_set = flagless CardsSet;
      };
      not_pinned = flagless Pinned;
      no_home = flagless HasShadow;
    })
    (subst (λ (ps : List ℕ). HoldsNursery nursery memory types v ps) (sym (young-more s.places a young))
    (nursery_more n a b.hands fits b.laid (omega (arith, two)) (λ p t. new.same.objects.layouts p (young-is_in s.places p t).0) new.size
    (λ from k. lies-with_run heap.memory.blocks a (born_words info.shape type_id heap.next items x) from k) s.words.young))
    (subst (λ (ps : List ℕ). HasBlocks heap.old_blocks memory (blocks_of types v (home_in heap) (young_places (s.places ++ a ∷ [])) ps s.husks []) s.waiting) (sym (old-same s.places a young))
    (subst (λ (xs : List Extent). HasBlocks heap.old_blocks memory (map (block_at types v) (old_places s.places) ++ (map (block_at types v) s.husks ++ (xs ++ []))) s.waiting)
    (sym (ap (λ (ps : List ℕ). reserved_blocks types v (home_in heap) ps) (young-more s.places a young) ∙ none-last-block types v (home_in heap) (young_places s.places) a no_home)) renewed))
    (ungapped_more heap.gapped n a b.hands b.lowest s.words.young.laid_out (omega (arith, two)) s.ungapped)
    (λ e. absurd (let no : ⊥ = cc in no))
    (ap (λ (l : NurseryLayout). l.words) b.hands.is, ap (λ (l : NurseryLayout). l.pins) b.hands.is)
    (refl, refl, refl) b.limit b.next (λ t e. target-kept s info.shape x t b.target e))
