-- A home is reserved for an object of the nursery: a block is taken, and its first word tells what it is.
use Rattle.std.proofs.Common.{◌≡◌, ◌≢◌, ℕ, ◌≤◌, true, false, IsTrue, List, [], ◌∷◌, ◌++◌, map, Option, Some, None, refl, sym, ap, ◌∙◌, subst, inl, inr, arith}
use Rattle.type_table.specs.Table.{value_at, with_value}
use Rattle.heap_space.specs.Places.{has, with_word, word_at}
use Rattle.heap_space.specs.Memory.{Memory}
use Rattle.heap_space.specs.Extents.{Extent, Each, IsApart}
use Rattle.object_header.specs.Words.{has_flag, with_flag}
use Rattle.object_header.specs.declared.flags.Flag.{Flag}
use Rattle.object_header.specs.declared.flags.Flag.TheVariants.{Track, Visited, HasShadow, Pinned, HasCards, CardsSet, Free, Shadow, Order1, Order2}
use Rattle.object_header.proofs.WordLaws.{has_flag-with_flag_same, has_flag-with_flag_other, type_of-with_flag, IsHeader-with_flag}
use Rattle.object_view.proofs.WordLaws.{updated-here}
use Rattle.object_view.proofs.SpaceLaws.{word_at-written, lies-at}
use Rattle.old_space.specs.HasBlocks.{IsBlock, HasBlocks}
use Rattle.old_space.proofs.JoinLaws.{HasBlocks-blocks, HasBlocks-apart, HasBlocks-first}
use Rattle.object_model.specs.Sets.{is_in}
use Rattle.object_model.specs.ObjectWords.{words_at}
use Rattle.store_model.specs.Store.{Store}
use Rattle.store_model.specs.Identity.{TellsHome}
use Rattle.heap_parts.specs.Parts.{HeapParts, word_in, place_in, home_in}
use Rattle.heap_parts.specs.Births.{TakesBlock}
use Rattle.heap_parts.specs.Homes.{shadow_word}
use Rattle.heap_parts.specs.Headers.{IsYoungHeader, IsShadowHeader}
use Rattle.heap_parts.specs.OldSpace.{blocks_of, reserved_blocks}
use Rattle.heap_parts.specs.Places.{is_young, young_places, old_places, block_at}
use Rattle.heap_parts.specs.StandsFor.{PartsStandFor}
use Rattle.frame_laws.proofs.Members.{each-left, each-right}
use Rattle.object_model.proofs.Members.{in-either, in-left}
use Rattle.heap_parts.proofs.BlockLaws.{each-member}
use Rattle.frame_laws.proofs.WriteWords.{each-both, each-imp, each-reserved}
use Rattle.frame_laws.proofs.PlaceLaws.{is_in-young}
use Rattle.frame_laws.proofs.StandLaws.{in_slot}
use Rattle.store_model.proofs.BirthSound.{kept-in}
use Rattle.frame_laws.proofs.ReviveStands.{named-kept}
use Rattle.birth_laws.proofs.SpareLaws.{take_keeps, spare_keeps, word_within}
use Rattle.frame_laws.proofs.ReserveLaws.{with_home, reserve_stands, found-in}
use Rattle.store_model.proofs.HomeSound.{home_sound}
use Rattle.heap_core.proofs.HomeTold.{home_told, new_tells}

no-flags : (f : Flag) → has_flag 0 f ≡ false
unfolding has_flag
no-flags Track = refl
no-flags Visited = refl
no-flags HasShadow = refl
no-flags Pinned = refl
no-flags HasCards = refl
no-flags CardsSet = refl
no-flags Free = refl
no-flags Shadow = refl
no-flags Order1 = refl
no-flags Order2 = refl

shadow-header : IsShadowHeader shadow_word
shadow-header =
    let other : (f : Flag) → f ≢ Shadow → has_flag shadow_word f ≡ false = λ f ne. has_flag-with_flag_other 0 Shadow f ne ∙ no-flags f in record {
      live = record {
        header = IsHeader-with_flag 0 Shadow (omega arith);
        not_free = other Free (λ e. let no : ⊥ = cc in no);
        not_order1 = other Order1 (λ e. let no : ⊥ = cc in no);
        not_order2 = other Order2 (λ e. let no : ⊥ = cc in no);
      };
      shadow = has_flag-with_flag_same 0 Shadow;
      not_visited = other Visited (λ e. let no : ⊥ = cc in no);
    }

housed-header : (word : ℕ) → IsYoungHeader word → IsYoungHeader (with_flag word HasShadow)
housed-header word h =
    let other : (f : Flag) → f ≢ HasShadow → has_flag (with_flag word HasShadow) f ≡ has_flag word f = λ f ne. has_flag-with_flag_other word HasShadow f ne in
    record {
      live = record {
        header = IsHeader-with_flag word HasShadow h.live.header;
        not_free = other Free (λ e. let no : ⊥ = cc in no) ∙ h.live.not_free;
        not_order1 = other Order1 (λ e. let no : ⊥ = cc in no) ∙ h.live.not_order1;
        not_order2 = other Order2 (λ e. let no : ⊥ = cc in no) ∙ h.live.not_order2;
      };
      not_shadow = other Shadow (λ e. let no : ⊥ = cc in no) ∙ h.not_shadow;
      not_track = other Track (λ e. let no : ⊥ = cc in no) ∙ h.not_track;
      not_visited = other Visited (λ e. let no : ⊥ = cc in no) ∙ h.not_visited;
      not_has_cards = other HasCards (λ e. let no : ⊥ = cc in no) ∙ h.not_has_cards;
      not_cards_set = other CardsSet (λ e. let no : ⊥ = cc in no) ∙ h.not_cards_set;
    }

-- blocks of two words or more that are apart begin at different places
apart-begins : (x y : Extent) → IsApart x y → 2 ≤ x.1 → 2 ≤ y.1 → x.0 ≡ y.0 → ⊥
apart-begins x y (inl l) a b e = omega (arith, l, a, e)
apart-begins x y (inr l) a b e = omega (arith, l, b, e)

module _ (heap middle : HeapParts) (store : Store) (s : PartsStandFor heap store) (p at : ℕ)
    (takes : TakesBlock heap middle (words_at heap.setup.types (word_in heap) p) at) where
  abbrev live : List Extent
  live = blocks_of heap.setup.types (word_in heap) (home_in heap) (young_places s.places) (old_places s.places) s.husks []

  taken : HasBlocks middle.old_blocks middle.memory ((at, words_at heap.setup.types (word_in heap) p) ∷ live) s.waiting
  taken = takes.taken live s.waiting s.words.blocks

  block : IsBlock middle.memory (at, words_at heap.setup.types (word_in heap) p)
  block = HasBlocks-first middle.old_blocks middle.memory (at, words_at heap.setup.types (word_in heap) p) live s.waiting taken

  -- all other blocks are apart from it
  others : Each (λ x. IsApart (at, words_at heap.setup.types (word_in heap) p) x × (2 ≤ x.1)) live
  others = each-both (IsApart (at, words_at heap.setup.types (word_in heap) p)) (λ x. 2 ≤ x.1) live
      (HasBlocks-apart middle.old_blocks middle.memory _ s.waiting taken).0
      (each-imp (IsBlock heap.memory) (λ x. 2 ≤ x.1) live (λ x b. b.wide) (HasBlocks-blocks heap.old_blocks heap.memory live s.waiting s.words.blocks))

  -- nobody has it for a home
  free : (other : ℕ) → value_at store.homes other ≡ Some at → ⊥
  free other e =
      let types = heap.setup.types in let w : ℕ → ℕ = word_in heap in
      let settled : List Extent = map (block_at types w) (old_places s.places) in
      let gone : List Extent = map (block_at types w) s.husks in
      let reserved : List Extent = reserved_blocks types w (home_in heap) (young_places s.places) in
      let P : Extent → Type 0 = λ x. IsApart (at, words_at types w p) x × (2 ≤ x.1) in
      elim (s.homes.told other at e) [
        | inl o ↦ elim (in-either at (old_places s.places) s.husks o.there) [
          | inl t ↦ (let one = each-member P (block_at types w) (old_places s.places) at (each-left P settled (gone ++ (reserved ++ [])) others) t in
              apart-begins (at, words_at types w p) (block_at types w at) one.0 block.wide one.1 refl)
          | inr t ↦ (let one = each-member P (block_at types w) s.husks at (each-left P gone (reserved ++ []) (each-right P settled (gone ++ (reserved ++ [])) others)) t in
              apart-begins (at, words_at types w p) (block_at types w at) one.0 block.wide one.1 refl)
        ]
        | inr r ↦ (let some = each-reserved P types w (home_in heap) (young_places s.places) at
            (each-left P reserved [] (each-right P gone (reserved ++ []) (each-right P settled (gone ++ (reserved ++ [])) others)))
            (found-in (home_in heap) (young_places s.places) r.place at r.there r.reserved) in
            apart-begins (at, words_at types w p) (at, _) some.is.0 block.wide some.is.1 refl)
      ]

  -- no home of the object was told
  untold : IsTrue (is_in p s.places) → is_young p ≡ true → home_in heap p ≡ None → (found : Option ℕ) → value_at store.homes (s.name p) ≡ found → value_at store.homes (s.name p) ≡ None
  untold t young none None e = e
  untold t young none (Some a) e = elim (home_told s p a t e) [
    | inl o ↦ (let old = o.0 in let no : ⊥ = cc in absurd no)
    | inr r ↦ (let home = r.1 in let no : ⊥ = cc in absurd no)
  ]

  -- The home is reserved.
  pub home_reserved : IsTrue (is_in p s.places) → is_young p ≡ true → home_in heap p ≡ None
      → PartsStandFor (with_home heap (record middle.memory { blocks = with_word middle.memory.blocks at shadow_word }) middle.old_blocks p (with_flag (word_in heap p) HasShadow) at)
      (record store { homes = with_value store.homes (s.name p) at })
  home_reserved t young none =
      let types = heap.setup.types in let w : ℕ → ℕ = word_in heap in let n : ℕ = words_at types w p in
      let memory : Memory = record middle.memory { blocks = with_word middle.memory.blocks at shadow_word } in
      let there : IsTrue (is_in p (young_places s.places)) = is_in-young s.places p t young in
      let small : heap.nursery.words ≤ 1048576 = omega (arith, s.made.words, s.made.ranges.1) in
      let keeps = take_keeps n at s.words small (record { kept = takes.keeps.kept; taken = takes.taken; outside = takes.keeps.outside }) in
      let wide = block.wide in
      let written = spare_keeps n at (word_within middle.memory n at at shadow_word (omega arith) (omega (arith, wide))) keeps in
      let has_word : has middle.memory.blocks at ≡ true = lies-at middle.memory.blocks at n at block.lies (omega arith) (omega (arith, wide)) in
      let first : word_at memory.blocks at ≡ shadow_word =
      ap (λ (f : ℕ → ℕ). f at) (word_at-written middle.memory.blocks at shadow_word has_word) ∙ updated-here (word_at middle.memory.blocks) at shadow_word at refl in
      reserve_stands heap store s memory middle.old_blocks p (with_flag (w p) HasShadow) at written there none (subst IsShadowHeader (sym first) shadow-header)
      (type_of-with_flag (w p) HasShadow) (housed-header (w p) (s.headers.young.each p there)) (has_flag-with_flag_same (w p) HasShadow)
      (has_flag-with_flag_other (w p) HasShadow Pinned (λ e. let no : ⊥ = cc in no))
      (takes.keeps.arenas, takes.keeps.small, takes.keeps.page)
      (home_sound (s.name p) at s.sound (untold t young none (value_at store.homes (s.name p)) refl) free
      (in-left (s.name p) (map (λ o. o.birth) store.kept) (map (λ h. h.0) store.husks) (kept-in store.kept (s.name p) (named-kept s p t))))

-- What is told of the object in a slot whose home was just reserved.
pub reserve_tells : (heap middle : HeapParts) (store : Store) (root at : ℕ) (s : PartsStandFor heap store) → place_in heap root ≢ 0 → is_young (place_in heap root) ≡ true
    → home_in heap (place_in heap root) ≡ None → TakesBlock heap middle (words_at heap.setup.types (word_in heap) (place_in heap root)) at
    → TellsHome store root at (record store { homes = with_value store.homes (s.name (place_in heap root)) at })
reserve_tells heap middle store root at s full young none takes =
    let p : ℕ = place_in heap root in let t = (in_slot heap store root s full).there in
    let low = (block heap middle store s p at takes).low in
    new_tells heap store root at s full (untold heap middle store s p at takes t young none (value_at store.homes (s.name p)) refl) (omega (arith, low)) (free heap middle store s p at takes)
