-- The end of marking from its calls: what clearing and choosing leave, and the clauses of `begin_sweep`, are its premises.
use Rattle.std.proofs.Common.{◌∷◌, ◌≡◌, ℕ, ◌+◌, ◌≤◌, ◌<◌, ◌⊎◌, Bool, IsTrue, List, [], ◌++◌, map, sym, ap, ◌∙◌, subst, inl, inr, arith, refl, true, false}
use Rattle.std.specs.Prelude.{◌==◌, ◌&&◌, ◌%◌, if◌then◌else◌, not}
use Rattle.std.proofs.lemmas.Bool.{cases_Bool}
use Rattle.type_table.specs.declared.info.TypeInfo.{TypeInfo}
use Rattle.type_table.specs.Table.{Table}
use Rattle.heap_space.specs.Places.{word_at}
use Rattle.heap_space.specs.Memory.{Memory}
use Rattle.heap_space.specs.Extents.{Extent, Each, IsInside, KeepsWords, KeepsOutside, extents_between}
use Rattle.heap_space.proofs.ExtentLaws.{Each-map}
use Rattle.object_header.specs.Words.{with_flag, has_flag}
use Rattle.object_header.specs.declared.flags.Flag.TheVariants.{Visited}
use Rattle.object_header.proofs.WordLaws.{type_of-with_flag, IsHeader-with_flag, has_flag-with_flag_same}
use Rattle.object_view.proofs.LayoutLaws.{laid_out}
use Rattle.old_space.specs.HasBlocks.{HasBlocks, greatest_small, IsBlock}
use Rattle.old_space.specs.Calls.{BeginsSweep}
use Rattle.old_space.specs.declared.Old.{Old}
use Rattle.old_space.proofs.JoinLaws.{HasBlocks-blocks}
use Rattle.store_model.specs.Store.{Store, is_settled}
use Rattle.object_model.specs.Sets.{is_in}
use Rattle.store_model.specs.Marking.{is_white, is_condemned}
use Rattle.object_model.specs.ObjectWords.{words_at, layout_at}
use Rattle.heap_parts.specs.Parts.{HeapParts, word_in, home_in}
use Rattle.heap_parts.specs.Places.{is_young, young_places, old_places, block_at}
use Rattle.heap_parts.specs.OldSpace.{blocks_of, reserved_blocks, reserved_homes, AreUnitsSwept}
use Rattle.heap_parts.specs.StandsFor.{PartsStandFor}
use Rattle.frame_laws.proofs.Members.{each-left, each-right}
use Rattle.heap_parts.proofs.BlockLaws.{each-member}
use Rattle.frame_laws.proofs.PlaceLaws.{is_in-young, is_in-old}
use Rattle.frame_laws.proofs.WriteWords.{each-reserved, each-both}
use Rattle.heap_phases.proofs.EndHeaders.{EndsHeads}
use Rattle.heap_phases.proofs.EndCode.{clears, ClearsWords, clears_targets}
use Rattle.heap_phases.proofs.EndStands.{EndsMarking}
use Rattle.text_model.specs.declared.line.Phase.{Phase}
use Rattle.text_model.specs.declared.line.Phase.TheVariants.{Marking}
use Rattle.store_model.specs.Sound.{IsPhaseSound}
use Rattle.heap_parts.specs.Headers.{is_marked}
use Rattle.frame_laws.proofs.MinorNeeds.{settled_place}
use Rattle.object_model.proofs.Members.{not-true, and_second, and_first}
use Rattle.old_space.specs.HasBlocks.{page_size}

-- the blocks outside the nursery, as they stand in marking
abbrev pub marking_blocks : (heap : HeapParts) (store : Store) → PartsStandFor heap store → List Extent
marking_blocks heap store s = blocks_of heap.setup.types (word_in heap) (home_in heap) (young_places s.places) (old_places s.places) [] []

map-none : {X : Type 0} (f : ℕ → X) (ps : List ℕ) → [] ≡ map f ps → ps ≡ []
map-none f [] e = refl
map-none f (p ∷ ps) e = absurd (let no : ⊥ = cc in no)

-- they are live, and no unit waits
pub blocks_in_marking : (heap : HeapParts) (store : Store) (s : PartsStandFor heap store) → heap.phase ≡ Marking → HasBlocks heap.old_blocks heap.memory (marking_blocks heap store s) []
blocks_in_marking heap store s marking =
    let phase : IsPhaseSound Marking heap.setup.settings.sweep store = subst (λ (ph : Phase). IsPhaseSound ph heap.setup.settings.sweep store) (s.counts.phase_is ∙ marking) s.sound.phase in
    let husks : s.husks ≡ [] = map-none _ s.husks (sym phase.0 ∙ s.words.husk.reads) in
    let waiting : s.waiting ≡ [] = subst (λ (ph : Phase). AreUnitsSwept ph heap.setup.settings.sweep store.left s.waiting) marking s.units in
    subst (λ (ws : List ℕ). HasBlocks heap.old_blocks heap.memory (marking_blocks heap store s) ws) waiting
    (subst (λ (hs : List ℕ). HasBlocks heap.old_blocks heap.memory (blocks_of heap.setup.types (word_in heap) (home_in heap) (young_places s.places) (old_places s.places) hs []) s.waiting) husks s.words.blocks)

-- What clearing the weak objects and choosing leave: the blocks are as they were, settled objects that stay carry the mark, and
-- behind first words only targets that lead to what is white change, to nil.
pub record MarksEnd (heap : HeapParts) (store : Store) (s : PartsStandFor heap store) (saved : ℕ → Bool) (memory : Memory) : Type 0 where
  pub blocks : HasBlocks heap.old_blocks memory (marking_blocks heap store s) []
  pub below : extents_between 0 4294967296 memory ≡ extents_between 0 4294967296 heap.memory
  pub arena_words : memory.arena_words ≡ heap.memory.arena_words
  pub heads : EndsHeads (word_at memory.blocks) (word_in heap) (home_in heap) (is_condemned store saved) s.name s.places
  pub words : (p b : ℕ) → IsTrue (is_in p s.places) → p < b → b < p + words_at heap.setup.types (word_in heap) p
      → word_at memory.blocks b ≡ (if clears heap.setup.types (word_in heap) s.name (is_white store) p && (b == (layout_at heap.setup.types (word_in heap) p).ref_start) then 0 else word_in heap b)

-- the clauses of `begin_sweep`, for these live blocks
pub record BeganSweep (old : Old) (m : Memory) (new : Old) (after : Memory) (live : List Extent) : Type 0 where
  pub begun : BeginsSweep new after live
  pub kept : KeepsWords m after live
  pub outside : KeepsOutside 4294967296 9223372036854775808 m after
  pub arena_words : after.arena_words ≡ m.arena_words
  pub page : page_size new ≡ page_size old
  pub small : greatest_small new ≡ greatest_small old

module _ (heap : HeapParts) (store : Store) (s : PartsStandFor heap store) (saved : ℕ → Bool) (m : Memory) (marks : MarksEnd heap store s saved m)
    (new : Old) (after : Memory) (began : BeganSweep heap.old_blocks m new after (marking_blocks heap store s)) where
  abbrev types : Table TypeInfo
  types = heap.setup.types

  abbrev O : List Extent
  O = map (block_at types (word_in heap)) (old_places s.places)

  abbrev R : List Extent
  R = reserved_blocks types (word_in heap) (home_in heap) (young_places s.places)

  nursery-small : heap.nursery.words ≤ 1048576
  nursery-small = omega (arith, s.made.words, s.made.ranges.1)

  old-word : (p b : ℕ) → IsTrue (is_in p (old_places s.places)) → p ≤ b → b < p + words_at types (word_in heap) p → word_at after.blocks b ≡ word_at m.blocks b
  old-word p b t l r = each-member (λ x. (a : ℕ) → IsInside x a → word_at after.blocks a ≡ word_at m.blocks a) (block_at types (word_in heap)) (old_places s.places) p
      (each-left _ O _ began.kept) t b (l, r)

  young-word : (p b : ℕ) → IsTrue (is_in p (young_places s.places)) → b < p + words_at types (word_in heap) p → word_at after.blocks b ≡ word_at m.blocks b
  young-word p b t r = let inside = s.words.young.inside p t in began.outside.below.words b (omega arith) (omega (arith, inside, r, nursery-small)) tt

  same-word : (p b : ℕ) → IsTrue (is_in p s.places) → p ≤ b → b < p + words_at types (word_in heap) p → word_at after.blocks b ≡ word_at m.blocks b
  same-word p b t l r = elim (cases_Bool (is_young p)) [
    | inl e ↦ young-word p b (is_in-young s.places p t e) r
    | inr e ↦ old-word p b (is_in-old s.places p t e) l r
  ]

  first-word : (p : ℕ) → IsTrue (is_in p s.places) → word_at after.blocks p ≡ word_at m.blocks p
  first-word p t = let size = (laid_out types (word_in heap) p).header in same-word p p t (omega arith) (omega (arith, size))

  shadow-word : (a : ℕ) → IsTrue (is_in a (reserved_homes (home_in heap) (young_places s.places))) → word_at after.blocks a ≡ word_at m.blocks a
  shadow-word a t =
      let P : Extent → Type 0 = λ x. ((b : ℕ) → IsInside x b → word_at after.blocks b ≡ word_at m.blocks b) × (2 ≤ x.1) in
      let rest = each-left (λ x. (b : ℕ) → IsInside x b → word_at after.blocks b ≡ word_at m.blocks b) R [] (each-right _ O (R ++ []) began.kept) in
      let blocks = each-left (IsBlock m) R [] (each-right (IsBlock m) O (R ++ []) (HasBlocks-blocks heap.old_blocks m _ [] marks.blocks)) in
      let wide : Each (λ x. 2 ≤ x.1) R = Each-map (IsBlock m) (λ x. 2 ≤ x.1) (λ x b. b.wide) R blocks in
      let both : Each P R = each-both (λ x. (b : ℕ) → IsInside x b → word_at after.blocks b ≡ word_at m.blocks b) (λ x. 2 ≤ x.1) R rest wide in
      let some = each-reserved P types (word_in heap) (home_in heap) (young_places s.places) a both t in
      some.is.0 a (omega arith, omega (arith, some.is.1))

  heads-after : EndsHeads (word_at after.blocks) (word_in heap) (home_in heap) (is_condemned store saved) s.name s.places
  heads-after = record {
    marked = λ p t stays. first-old p t ∙ marks.heads.marked p t stays;
    lost = λ p t gone. first-old p t ∙ marks.heads.lost p t gone;
    young = λ p t. first-young p t ∙ marks.heads.young p t;
    shadow = λ p t. shadow-word p t ∙ marks.heads.shadow p t;
  }
    where
      first-old : (p : ℕ) → IsTrue (is_in p (old_places s.places)) → word_at after.blocks p ≡ word_at m.blocks p
      first-old p t = let size = (laid_out types (word_in heap) p).header in old-word p p t (omega arith) (omega (arith, size))

      first-young : (p : ℕ) → IsTrue (is_in p (young_places s.places)) → word_at after.blocks p ≡ word_at m.blocks p
      first-young p t = let size = (laid_out types (word_in heap) p).header in young-word p p t (omega (arith, size))

  -- a first word afterwards: as it was, or with the mark
  first-kind : (p : ℕ) → IsTrue (is_in p s.places) → (word_at after.blocks p ≡ word_in heap p) ⊎ (word_at after.blocks p ≡ with_flag (word_in heap p) Visited)
  first-kind p t = elim (cases_Bool (is_young p)) [
    | inl e ↦ inl (heads-after.young p (is_in-young s.places p t e))
    | inr e ↦ elim (cases_Bool (is_condemned store saved (s.name p))) [
      | inl gone ↦ inl (heads-after.lost p (is_in-old s.places p t e) gone)
      | inr stays ↦ inr (heads-after.marked p (is_in-old s.places p t e) stays)
    ]
  ]

  cleared : ClearsWords types (word_at after.blocks) (word_in heap) s.places (clears types (word_in heap) s.name (is_white store))
  cleared = record {
    types_stay = λ p t. elim (first-kind p t) [
      | inl e ↦ ap (λ (k : ℕ). k % 65536) e
      | inr e ↦ ap (λ (k : ℕ). k % 65536) e ∙ type_of-with_flag (word_in heap p) Visited
    ];
    headers = λ p t. let few = s.words.objects.header p t in elim (first-kind p t) [
      | inl e ↦ subst (λ (k : ℕ). k < 67108864) (sym e) few
      | inr e ↦ subst (λ (k : ℕ). k < 67108864) (sym e) (IsHeader-with_flag (word_in heap p) Visited few)
    ];
    words = λ p b t l r. same-word p b t (omega (arith, l)) r ∙ marks.words p b t l r;
  }

  -- the premises of the end of marking
  pub ends_marking : EndsMarking heap store s saved after new
  ends_marking = record {
    waiting = began.begun.waiting;
    words = record {
      clears = clears_targets s.name (is_white store) cleared;
      below = began.outside.below.blocks ∙ marks.below;
      blocks = began.begun.blocks;
      every = began.begun.every;
      most = began.begun.most;
      page_is = began.page ∙ s.made.page;
    };
    heads = heads-after;
    arena = began.arena_words ∙ marks.arena_words;
    small = began.small;
  }

-- What is condemned, by places: what lies outside the nursery and carries no mark once clearing and choosing are done.
pub dead_place : (heap : HeapParts) (store : Store) (s : PartsStandFor heap store) (saved : ℕ → Bool) (m : Memory) → heap.phase ≡ Marking → MarksEnd heap store s saved m
    → (p : ℕ) → IsTrue (is_in p s.places) → is_condemned store saved (s.name p) ≡ (not (is_young p) && not (has_flag (word_at m.blocks p) Visited))
dead_place heap store s saved m marking marks p t = elim (cases_Bool (is_young p)) [
  | inl young ↦
      let out : is_settled store.settled (s.name p) ≡ false = settled_place heap store s p t ∙ ap not young in
      rw (out, young) refl
  | inr old ↦
      let there : IsTrue (is_in p (old_places s.places)) = is_in-old s.places p t old in
      elim (cases_Bool (is_condemned store saved (s.name p))) [
        | inl gone ↦
            let white : IsTrue (is_white store (s.name p)) = and_first (is_white store (s.name p)) (not (saved (s.name p))) gone in
            let unvisited : is_in (s.name p) store.visited ≡ false = not-true (is_in (s.name p) store.visited) (and_second (is_settled store.settled (s.name p)) (not (is_in (s.name p) store.visited)) white) in
            let flag : has_flag (word_at m.blocks p) Visited ≡ false = ap (λ (k : ℕ). has_flag k Visited) (marks.heads.lost p there gone)
            ∙ (s.visited.each p there ∙ (ap (λ (ph : Phase). is_marked ph store.visited s.name heap.setup.settings.page s.waiting p) marking ∙ unvisited)) in
            gone ∙ sym (joined (is_young p) (has_flag (word_at m.blocks p) Visited) old flag)
        | inr stays ↦
            let flag : has_flag (word_at m.blocks p) Visited ≡ true = ap (λ (k : ℕ). has_flag k Visited) (marks.heads.marked p there stays) ∙ has_flag-with_flag_same (word_in heap p) Visited in
            stays ∙ sym (kept (is_young p) (has_flag (word_at m.blocks p) Visited) flag)
      ]
]
  where
    joined : (a b : Bool) → a ≡ false → b ≡ false → (not a && not b) ≡ true
    joined a b e f = rw (e, f) refl

    kept : (a b : Bool) → b ≡ true → (not a && not b) ≡ false
    kept true b e = refl
    kept false b e = rw e refl
