-- What the parts of a heap stand for when an object is born outside the nursery, in a block that was taken for it.
use Rattle.std.proofs.Common.{◌≡◌, ◌≢◌, ℕ, ◌+◌, ◌%◌, ◌^◌, ◌<◌, ◌≤◌, Bool, true, false, IsTrue, List, [], ◌∷◌, ◌++◌, map, Some, refl, sym, ap, ap₂, ◌∙◌, subst, inl, inr, arith, append-nil}
use Rattle.std.specs.Prelude.{not}
use Rattle.std.proofs.lemmas.List.{map-append, append_assoc}
use Rattle.std.proofs.lemmas.List.Sorted.{IsPermutation-to_front, IsPermutation-append_right}
use Rattle.std.proofs.lemmas.Bool.{cases_Bool}
use Rattle.std.proofs.lemmas.Bool.Decides.{nat_tests}
use Rattle.type_table.specs.declared.info.TypeInfo.{TypeInfo}
use Rattle.type_table.specs.Table.{value_at}
use Rattle.type_table.specs.Words.{words_in}
use Rattle.heap_space.specs.Places.{word_at, with_run}
use Rattle.heap_space.specs.Memory.{Memory}
use Rattle.heap_space.specs.Extents.{Extent, Each, IsApart, AreApart}
use Rattle.object_view.specs.Births.{born_words}
use Rattle.object_view.specs.Views.{HasObject}
use Rattle.object_view.proofs.InitLaws.{two-words}
use Rattle.object_model.proofs.Members.{is_in-append, is_in-named}
use Rattle.object_view.proofs.LayoutLaws.{laid_out}
use Rattle.object_view.proofs.NewbornLaws.{BornAt, IsFree, IsHeaderOf, born-is, born-info, born-layout, born-first, birth_holds, free-unmet, request-names, more-pointers, length-born_words}
use Rattle.object_view.proofs.WholeLaws.{born-written, has_object-born}
use Rattle.old_space.specs.HasBlocks.{HasBlocks, IsBlock, greatest_small, page_size}
use Rattle.old_space.specs.declared.Old.{Old}
use Rattle.old_space.proofs.JoinLaws.{HasBlocks-blocks, HasBlocks-apart, HasBlocks_permuted}
use Rattle.object_model.specs.Layout.{Layout, layout_of}
use Rattle.object_model.specs.Newborn.{Request, newborn}
use Rattle.store_model.specs.Birth.{with_birth}
use Rattle.store_model.specs.Store.{Store}
use Rattle.object_model.specs.Sets.{is_in}
use Rattle.object_model.specs.ObjectWords.{updated, words_at, Covers}
use Rattle.object_model.specs.Holds.{HoldsObjects, IsPointer}
use Rattle.parts_model.specs.Parts.{HeapParts, word_in, home_in}
use Rattle.parts_model.specs.Places.{is_young, young_places, old_places, block_at}
use Rattle.parts_model.specs.Nursery.{HoldsNursery}
use Rattle.parts_model.specs.OldSpace.{reserved_blocks, blocks_of, is_waiting}
use Rattle.parts_model.specs.StandsFor.{PartsStandFor}
use Rattle.frame_laws.proofs.Births.{rise-bounds}
use Rattle.frame_laws.proofs.Members.{each-left, each-right}
use Rattle.frame_laws.proofs.PlaceLaws.{is_in-young, is_in-old, young-same, old-more}
use Rattle.parts_model.proofs.BlockLaws.{each-member}
use Rattle.frame_laws.proofs.ReserveLaws.{last-apart}
use Rattle.frame_laws.proofs.TakeLaws.{MemoryKeeps, memory_same, memory_kept}
use Rattle.birth_laws.proofs.SpareLaws.{spare_keeps, run_within}
use Rattle.birth_laws.proofs.YoungBirths.{asked_of, target-kept}
use Rattle.birth_laws.proofs.BirthStands.{IsNew, IsBornOld, with_born, birth_stands}

-- an object can be born in a block that was taken, with this header, and with the place of a held target if it is weak, and otherwise 0
pub record IsOldBirth (heap : HeapParts) (store : Store) (s : PartsStandFor heap store) (memory : Memory) (old_blocks : Old) (a head type_id items x : ℕ) (info : TypeInfo) : Type 0 where
  pub known : value_at heap.setup.types type_id ≡ Some info
  pub target : IsPointer s.places x
  pub keeps : MemoryKeeps heap.setup.types heap.memory memory heap.nursery old_blocks (home_in heap) ((a, words_in info.shape items) ∷ []) s.places s.husks s.waiting
  pub elsewhere : is_waiting heap.setup.settings.page s.waiting a ≡ false
  pub type : head % 65536 ≡ type_id
  pub first : IsBornOld heap.setup.settings.card info (layout_of info.shape a items).ref_count head
  pub made : (memory.arena_words ≡ heap.memory.arena_words) × (greatest_small old_blocks ≡ greatest_small heap.old_blocks) × (page_size old_blocks ≡ page_size heap.old_blocks)
  pub limit : heap.unsettled + heap.old_words + words_in info.shape items ≤ heap.setup.settings.limit
  pub next : heap.next + 1 < 2 ^ 63

-- the memory with the words of the object
abbrev pub old_memory : Memory → ℕ → ℕ → ℕ → ℕ → TypeInfo → ℕ → Memory
old_memory memory a head items x info next = record memory { blocks = with_run memory.blocks a (born_words info.shape head next items x) }

-- What is known of the block.
record BlockIs (heap : HeapParts) (store : Store) (s : PartsStandFor heap store) (memory : Memory) (n a : ℕ) : Type 0 where
  block : IsBlock memory (a, n)
  settled_apart : (q : ℕ) → IsTrue (is_in q (old_places s.places)) → IsApart (block_at heap.setup.types (word_in heap) q) (a, n)
  husk_apart : (q : ℕ) → IsTrue (is_in q s.husks) → IsApart (block_at heap.setup.types (word_in heap) q) (a, n)

block_is : (heap : HeapParts) (store : Store) (s : PartsStandFor heap store) (memory : Memory) (old_blocks : Old) (n a : ℕ)
    → MemoryKeeps heap.setup.types heap.memory memory heap.nursery old_blocks (home_in heap) ((a, n) ∷ []) s.places s.husks s.waiting → BlockIs heap store s memory n a
block_is heap store s memory old_blocks n a k =
    let types = heap.setup.types in let w : ℕ → ℕ = word_in heap in
    let settled : List Extent = map (block_at types w) (old_places s.places) in
    let gone : List Extent = map (block_at types w) s.husks in
    let reserved : List Extent = reserved_blocks types w (home_in heap) (young_places s.places) in
    let all : List Extent = settled ++ (gone ++ (reserved ++ (a, n) ∷ [])) in
    let joined : all ≡ (settled ++ (gone ++ reserved)) ++ (a, n) ∷ [] =
    sym (append_assoc settled (gone ++ reserved) ((a, n) ∷ []) ∙ ap (λ (xs : List Extent). settled ++ xs) (append_assoc gone reserved ((a, n) ∷ []))) in
    let apart : Each (λ x. IsApart x (a, n)) (settled ++ (gone ++ reserved)) = last-apart (settled ++ (gone ++ reserved)) (a, n) (subst AreApart joined (HasBlocks-apart old_blocks memory all s.waiting k.blocks)) in
    record {
      block = (each-right (IsBlock memory) (settled ++ (gone ++ reserved)) ((a, n) ∷ []) (subst (λ (xs : List Extent). Each (IsBlock memory) xs) joined (HasBlocks-blocks old_blocks memory all s.waiting k.blocks))).0;
      settled_apart = λ q t. each-member (λ x. IsApart x (a, n)) (block_at types w) (old_places s.places) q (each-left (λ x. IsApart x (a, n)) settled (gone ++ reserved) apart) t;
      husk_apart = λ q t. each-member (λ x. IsApart x (a, n)) (block_at types w) s.husks q (each-left (λ x. IsApart x (a, n)) gone reserved (each-right (λ x. IsApart x (a, n)) settled (gone ++ reserved) apart)) t;
    }

old_new : (heap : HeapParts) (store : Store) (s : PartsStandFor heap store) (memory : Memory) (old_blocks : Old) (a head root type_id items x : ℕ) (info : TypeInfo)
    → IsOldBirth heap store s memory old_blocks a head type_id items x info → MemoryKeeps heap.setup.types heap.memory (old_memory memory a head items x info heap.next) heap.nursery old_blocks (home_in heap) ((a, words_in info.shape items) ∷ []) s.places s.husks s.waiting
    → IsNew heap store s (old_memory memory a head items x info heap.next) a info (asked_of s root type_id items x info)
old_new heap store s memory old_blocks a head root type_id items x info b keeps =
    let types = heap.setup.types in let w : ℕ → ℕ = word_in heap in let n : ℕ = words_in info.shape items in
    let new : Memory = old_memory memory a head items x info heap.next in
    let m : ℕ → ℕ = word_at memory.blocks in let v : ℕ → ℕ = word_at new.blocks in
    let two = two-words info.shape items in
    let is = block_is heap store s memory old_blocks n a b.keeps in
    let low = is.block.low in
    let small : heap.nursery.words ≤ 1048576 = omega (arith, s.made.words, s.made.ranges.1) in
    let at_first = memory_kept s.words b.keeps in let first_same = memory_same s.words b.keeps in
    let size_m : (q : ℕ) → IsTrue (is_in q s.places) → words_at types m q ≡ words_at types w q = λ q t. ap (λ (l : Layout). l.words) (first_same.objects.layouts q t).layout_stays in
    let apart : (q c : ℕ) → IsTrue (is_in q s.places) → Covers types m q c → a ≤ c → c < a + n → ⊥ = λ q c t o l r. elim (cases_Bool (is_young q)) [
      | inl e ↦ (let inside = at_first.young.inside q (is_in-young s.places q t e) in let no : ⊥ = omega (arith, inside, small, o.1, l, low) in no)
      | inr e ↦ elim (is.settled_apart q (is_in-old s.places q t e)) [
        | inl before ↦ (let z = size_m q t in let no : ⊥ = omega (arith, before, z, o.1, l) in no)
        | inr behind ↦ (let no : ⊥ = omega (arith, behind, o.0, r) in no)
      ]
    ] in
    let free : IsFree types m s.places s.places a n = record { above = omega (arith, low); apart = apart; unmet = free-unmet types m s.places a n (omega (arith, two)) apart } in
    let header : IsHeaderOf type_id head = record { typed = b.type; small = b.first.settled.live.header } in
    let born : BornAt types v m a type_id head heap.next items x info = born-written memory.blocks types a type_id head heap.next items x info b.known header is.block.lies in
    let born_is = born-is s.name root born in
    let fresh : (q : ℕ) → IsTrue (is_in q s.places) → s.name q ≢ heap.next = λ q t e.
    absurd (let bounds = rise-bounds 1 heap.next (s.name q) (map s.name s.places) s.births.rise (is_in-named s.name q s.places t) in let no : ⊥ = omega (arith, bounds.1, e) in no) in
    let same = memory_same s.words keeps in
    let kept = memory_kept s.words keeps in
    record {
      objects = subst (λ (k : ℕ). HoldsObjects types v (s.places ++ a ∷ []) (s.places ++ a ∷ []) (updated s.name a heap.next) (store.kept ++ newborn k info (asked_of s root type_id items x info) ∷ [])) (sym s.counts.next_is)
          (subst (λ (r : Request). HoldsObjects types v (s.places ++ a ∷ []) (s.places ++ a ∷ []) (updated s.name a heap.next) (store.kept ++ newborn heap.next info r ∷ []))
          (request-names s.name heap.next root type_id items info.shape x free b.target) (birth_holds root at_first.objects free born fresh (more-pointers s.places a x b.target)));
      whole = λ p t. elim (is_in-append s.places a p t) [
        | inl e ↦ subst (HasObject new types) (sym e) (has_object-born memory types a type_id head heap.next items x info b.known header is.block.lies)
        | inr old ↦ kept.whole p old
      ];
      same = same;
      info_is = born-info born;
      layout = born-layout born;
      size = born_is.words;
      unmet = free.unmet;
      husk_unmet = λ q t e. elim (is.husk_apart q t) [
        | inl before ↦ (let long = (laid_out types w q).header in let no : ⊥ = omega (arith, before, e, long) in no)
        | inr behind ↦ (let no : ⊥ = omega (arith, behind, e, two) in no)
      ];
      above = free.above;
    }

-- An object is born outside the nursery.
pub old_birth_stands : (heap : HeapParts) (store : Store) (s : PartsStandFor heap store) (memory : Memory) (old_blocks : Old) (a head root type_id items x : ℕ) (info : TypeInfo)
    → IsOldBirth heap store s memory old_blocks a head type_id items x info
    → PartsStandFor (with_born heap (old_memory memory a head items x info heap.next) heap.nursery old_blocks a root info (words_in info.shape items)) (with_birth true store info (asked_of s root type_id items x info))
old_birth_stands heap store s memory old_blocks a head root type_id items x info b =
    let types = heap.setup.types in let w : ℕ → ℕ = word_in heap in let n : ℕ = words_in info.shape items in
    let new : Memory = old_memory memory a head items x info heap.next in
    let v : ℕ → ℕ = word_at new.blocks in
    let two = two-words info.shape items in
    let is = block_is heap store s memory old_blocks n a b.keeps in
    let low = is.block.low in
    let not_young : is_young a ≡ false = grind (arith, nat_tests) in
    let size = length-born_words info.shape head heap.next items x in
    let keeps : MemoryKeeps types heap.memory new heap.nursery old_blocks (home_in heap) ((a, n) ∷ []) s.places s.husks s.waiting =
    spare_keeps n a (run_within memory n a (born_words info.shape head heap.next items x) size) b.keeps in
    let is_new = old_new heap store s memory old_blocks a head root type_id items x info b keeps in
    let kept = memory_kept s.words keeps in
    let header : IsHeaderOf type_id head = record { typed = b.type; small = b.first.settled.live.header } in
    let born : BornAt types v (word_at memory.blocks) a type_id head heap.next items x info = born-written memory.blocks types a type_id head heap.next items x info b.known header is.block.lies in
    let first : v a ≡ head = born-first born in
    let settled : List Extent = map (block_at types v) (old_places s.places) in
    let gone : List Extent = map (block_at types v) s.husks in
    let reserved : List Extent = reserved_blocks types v (home_in heap) (young_places s.places) in
    let moved : HasBlocks old_blocks new (settled ++ ((a, n) ∷ (gone ++ reserved))) s.waiting =
    HasBlocks_permuted old_blocks new (settled ++ ((gone ++ reserved) ++ (a, n) ∷ [])) (settled ++ ((a, n) ∷ (gone ++ reserved))) s.waiting
    (subst (λ (xs : List Extent). HasBlocks old_blocks new (settled ++ xs) s.waiting) (sym (append_assoc gone reserved ((a, n) ∷ []))) kept.blocks)
    (IsPermutation-append_right settled ((gone ++ reserved) ++ (a, n) ∷ []) ((a, n) ∷ (gone ++ reserved)) (IsPermutation-to_front (gone ++ reserved) (a, n))) in
    let told : map (block_at types v) (old_places s.places ++ a ∷ []) ++ (gone ++ (reserved ++ [])) ≡ settled ++ ((a, n) ∷ (gone ++ reserved)) =
    ap₂ (λ (xs ys : List Extent). xs ++ (gone ++ ys)) (map-append (block_at types v) (old_places s.places) (a ∷ []) ∙ ap (λ (k : ℕ). settled ++ (a, k) ∷ []) is_new.size) (append-nil reserved)
    ∙ append_assoc settled ((a, n) ∷ []) (gone ++ reserved) in
    subst (λ (old : Bool). PartsStandFor (with_born heap new heap.nursery old_blocks a root info n) (with_birth old store info (asked_of s root type_id items x info))) (ap not not_young)
    (birth_stands heap store s new heap.nursery old_blocks a info (asked_of s root type_id items x info) is_new
    (λ e. subst (IsBornOld heap.setup.settings.card info (layout_of info.shape a items).ref_count) (sym first) b.first)
    (λ e. absurd (let no : ⊥ = cc in no))
    (subst (λ (ps : List ℕ). HoldsNursery heap.nursery new types v ps) (sym (young-same s.places a not_young)) kept.young)
    (subst (λ (ps : List ℕ). HasBlocks old_blocks new (blocks_of types v (home_in heap) ps (old_places (s.places ++ a ∷ [])) s.husks []) s.waiting) (sym (young-same s.places a not_young))
    (subst (λ (ps : List ℕ). HasBlocks old_blocks new (blocks_of types v (home_in heap) (young_places s.places) ps s.husks []) s.waiting) (sym (old-more s.places a not_young))
    (subst (λ (xs : List Extent). HasBlocks old_blocks new xs s.waiting) (sym told) moved)))
    s.ungapped (λ e. b.elsewhere) (refl, refl) b.made b.limit b.next (λ t e. target-kept s info.shape x t b.target e))
