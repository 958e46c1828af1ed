-- The home of a settled object is its place. And a block that was asked for in vain changes no store.
use Rattle.std.proofs.Common.{◌≡◌, ℕ, ◌≤◌, Bool, false, IsTrue, List, [], ◌++◌, map, Some, None, sym, ap, ◌∙◌, subst, inl, inr, arith}
use Rattle.std.specs.Prelude.{cond, ◌==◌}
use Rattle.std.proofs.lemmas.Bool.{ne_eqb}
use Rattle.std.proofs.lemmas.Bool.Decides.{eqb_tells}
use Rattle.type_table.specs.Table.{value_at, with_value}
use Rattle.type_table.proofs.TableLaws.{value_at-with_value}
use Rattle.heap_space.specs.Memory.{Memory}
use Rattle.heap_space.specs.Extents.{Extent, Each, IsApart}
use Rattle.old_space.specs.HasBlocks.{IsBlock, greatest_small, page_size}
use Rattle.old_space.specs.declared.Old.{Old}
use Rattle.old_space.proofs.JoinLaws.{HasBlocks-blocks, HasBlocks-apart}
use Rattle.store_model.specs.Store.{Store}
use Rattle.object_model.specs.Sets.{is_in}
use Rattle.parts_model.specs.Parts.{HeapParts, word_in, home_in}
use Rattle.parts_model.specs.Places.{is_young, young_places, old_places, block_at}
use Rattle.parts_model.specs.OldSpace.{reserved_blocks}
use Rattle.parts_model.specs.StandsFor.{PartsStandFor}
use Rattle.frame_laws.proofs.Members.{each-left, each-right, apart-both}
use Rattle.object_model.proofs.Members.{in-left}
use Rattle.frame_laws.proofs.PlaceLaws.{young-is_in, old-is_in}
use Rattle.parts_model.proofs.BlockLaws.{each-member}
use Rattle.frame_laws.proofs.KeepWords.{firsts-stay, headers_kept, young_flags_kept, remembered_kept}
use Rattle.frame_laws.proofs.WriteWords.{each-imp, each-both, each-reserved}
use Rattle.frame_laws.proofs.TakeLaws.{MemoryKeeps, memory_same, memory_kept}
use Rattle.frame_laws.proofs.ReserveLaws.{found-in}
use Rattle.store_model.proofs.HomeSound.{home_sound}
use Rattle.store_model.proofs.BirthSound.{kept-in}
use Rattle.frame_laws.proofs.ReviveStands.{named-kept}

-- a settled object is not at another's home
pub settled_home_free : {heap : HeapParts} {store : Store} (s : PartsStandFor heap store) (p : ℕ) → IsTrue (is_in p (old_places s.places)) → (other : ℕ) → value_at store.homes other ≡ Some p → other ≡ s.name p
settled_home_free {heap = heap} {store = store} s p t other e = elim (s.homes.told other p e) [
  | inl o ↦ sym o.named
  | inr r ↦
      (let types = heap.setup.types in let w : ℕ → ℕ = word_in heap in
      let settled : List Extent = map (block_at types w) (old_places s.places) in
      let gone : List Extent = map (block_at types w) s.husks in
      let reserved : List Extent = reserved_blocks types w (home_in heap) (young_places s.places) in
      let all : List Extent = settled ++ (gone ++ (reserved ++ [])) in
      let apart = each-member (λ x. Each (IsApart x) (gone ++ (reserved ++ []))) (block_at types w) (old_places s.places) p
      (apart-both settled (gone ++ (reserved ++ [])) (HasBlocks-apart heap.old_blocks heap.memory all s.waiting s.words.blocks)) t in
      let blocks = HasBlocks-blocks heap.old_blocks heap.memory all s.waiting s.words.blocks in
      let mine = (each-member (IsBlock heap.memory) (block_at types w) (old_places s.places) p (each-left (IsBlock heap.memory) settled (gone ++ (reserved ++ [])) blocks) t).wide in
      let others : Each (λ x. IsApart (block_at types w p) x × (2 ≤ x.1)) reserved =
      each-both (IsApart (block_at types w p)) (λ x. 2 ≤ x.1) reserved (each-left (IsApart (block_at types w p)) reserved [] (each-right (IsApart (block_at types w p)) gone (reserved ++ []) apart))
      (each-imp (IsBlock heap.memory) (λ x. 2 ≤ x.1) reserved (λ x b. b.wide) (each-left (IsBlock heap.memory) reserved [] (each-right (IsBlock heap.memory) gone (reserved ++ []) (each-right (IsBlock heap.memory) settled (gone ++ (reserved ++ [])) blocks)))) in
      let some = each-reserved (λ x. IsApart (block_at types w p) x × (2 ≤ x.1)) types w (home_in heap) (young_places s.places) p others (found-in (home_in heap) (young_places s.places) r.place p r.there r.reserved) in
      absurd (elim some.is.0 [
        | inl before ↦ (let no : ⊥ = omega (arith, before, mine) in no)
        | inr behind ↦ (let wide = some.is.1 in let no : ⊥ = omega (arith, behind, wide) in no)
      ]))
]

-- The home of a settled object is told for the first time: it is its place. The heap stays.
pub tell_settled_stands : (heap : HeapParts) (store : Store) (p : ℕ) (s : PartsStandFor heap store) → IsTrue (is_in p (old_places s.places)) → value_at store.homes (s.name p) ≡ None
    → PartsStandFor heap (record store { homes = with_value store.homes (s.name p) p })
tell_settled_stands heap store p s t none =
    let place = old-is_in s.places p t in record {
      places = s.places;
      name = s.name;
      husks = s.husks;
      waiting = s.waiting;
      words = s.words;
      headers = s.headers;
      young_flags = s.young_flags;
      visited = s.visited;
      remembered = s.remembered;
      births = s.births;
      slots = s.slots;
      pins = s.pins;
      finalizers = s.finalizers;
      links = s.links;
      homes = record {
        told = λ birth at e. elim (eqb_tells birth (s.name p)) [
          | inl is ↦
              (let same : p ≡ at = (let both : Some p ≡ Some at = sym (value_at-with_value store.homes (s.name p) birth p ∙ ap (λ (b : Bool). cond b (Some p) (value_at store.homes birth)) is.0) ∙ e in cc) in
              inl (record {
                there = (let P : ℕ → Type 0 = λ k. IsTrue (is_in k (old_places s.places ++ s.husks)) in subst P same (in-left p (old_places s.places) s.husks t));
                named = ap s.name (sym same) ∙ sym is.1;
              }))
          | inr differ ↦ s.homes.told birth at (sym (value_at-with_value store.homes (s.name p) birth p ∙ ap (λ (b : Bool). cond b (Some p) (value_at store.homes birth)) differ.0) ∙ e)
        ];
        reserved = s.homes.reserved;
        known = λ q at e.
            let young = young-is_in s.places q (s.homes.reserved q at e) in
            let apart : (s.name q == s.name p) ≡ false = ne_eqb (s.name q) (s.name p) (λ z.
            let same : q ≡ p = s.words.objects.differ q p young.0 place.0 z in let yes = young.1 in let not_young = place.1 in
            absurd (let too : is_young q ≡ is_young p = ap is_young same in let no : ⊥ = cc in no)) in
            value_at-with_value store.homes (s.name p) (s.name q) p ∙ (ap (λ (b : Bool). cond b (Some p) (value_at store.homes (s.name q))) apart ∙ s.homes.known q at e);
      };
      gray = s.gray;
      gray_phase = s.gray_phase;
      sums = s.sums;
      husk_list = s.husk_list;
      counts = s.counts;
      ungapped = s.ungapped;
      units = s.units;
      made = record { ranges = s.made.ranges; words = s.made.words; pins = s.made.pins; card = s.made.card; arena = s.made.arena; small = s.made.small; page = s.made.page };
      order = s.order;
      sound = home_sound (s.name p) p s.sound none
          (λ other e. let same = settled_home_free s p t other e in let no_home : value_at store.homes other ≡ None = ap (value_at store.homes) same ∙ none in let no : ⊥ = cc in no)
          (in-left (s.name p) (map (λ o. o.birth) store.kept) (map (λ h. h.0) store.husks) (kept-in store.kept (s.name p) (named-kept s p place.0)));
    }

-- Where memory was wanting, no block is taken, and the heap stands for the same stores.
pub none_stands : (heap : HeapParts) (store : Store) (memory : Memory) (old_blocks : Old) (s : PartsStandFor heap store)
    → MemoryKeeps heap.setup.types heap.memory memory heap.nursery old_blocks (home_in heap) [] s.places s.husks s.waiting
    → (memory.arena_words ≡ heap.memory.arena_words) × (greatest_small old_blocks ≡ greatest_small heap.old_blocks) × (page_size old_blocks ≡ page_size heap.old_blocks)
    → PartsStandFor (record heap { memory = memory; old_blocks = old_blocks }) store
none_stands heap store memory old_blocks s keeps made =
    let same = memory_same s.words keeps in record {
      places = s.places;
      name = s.name;
      husks = s.husks;
      waiting = s.waiting;
      words = memory_kept s.words keeps;
      headers = headers_kept same s.headers;
      young_flags = young_flags_kept same s.young_flags;
      visited = firsts-stay _ (λ p t. same.firsts p (old-is_in s.places p t).0) s.visited;
      remembered = remembered_kept same s.remembered;
      births = s.births;
      slots = s.slots;
      pins = s.pins;
      finalizers = s.finalizers;
      links = s.links;
      homes = s.homes;
      gray = s.gray;
      gray_phase = s.gray_phase;
      sums = s.sums;
      husk_list = s.husk_list;
      counts = s.counts;
      ungapped = s.ungapped;
      units = s.units;
      made = record { ranges = s.made.ranges; words = s.made.words; pins = s.made.pins; card = s.made.card; arena = made.0 ∙ s.made.arena; small = made.1 ∙ s.made.small; page = made.2 ∙ s.made.page };
      order = s.order;
      sound = s.sound;
    }
