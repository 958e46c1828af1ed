-- A block is taken, and its words are written.
use Rattle.std.proofs.Common.{◌≡◌, ℕ, ◌+◌, ◌<◌, ◌≤◌, ◌⊎◌, List, [], ◌∷◌, ◌++◌, map, length, Option, refl, sym, ap, ◌∙◌, subst, inl, inr, arith, append-nil}
use Rattle.std.specs.Prelude.{filter}
use Rattle.std.proofs.lemmas.List.{append_assoc}
use Rattle.type_table.specs.declared.info.TypeInfo.{TypeInfo}
use Rattle.type_table.specs.Table.{Table}
use Rattle.heap_space.specs.Places.{lies_in_one, word_at, with_word, with_run}
use Rattle.heap_space.specs.Memory.{Memory}
use Rattle.heap_space.specs.Extents.{Extent, Each, IsApart, AreApart, IsOutside, IsUntouched, KeepsWords, KeepsOutside, extent_of, begins_between}
use Rattle.heap_space.proofs.Blocks.{lies-with_word, lies-with_run, word_at-elsewhere, word_at-before_run, word_at-after_run}
use Rattle.heap_space.proofs.ExtentLaws.{extents-with_word}
use Rattle.nursery_gaps.specs.Nursery.{Layout as NurseryLayout}
use Rattle.old_space.specs.HasBlocks.{HasBlocks, IsBlock}
use Rattle.old_space.specs.declared.Old.{Old}
use Rattle.old_space.proofs.JoinLaws.{HasBlocks-blocks, HasBlocks-apart, HasBlocks_untouched}
use Rattle.object_model.specs.Object.{Object}
use Rattle.parts_model.specs.Places.{young_places, old_places, block_at}
use Rattle.parts_model.specs.OldSpace.{reserved_blocks, blocks_of}
use Rattle.parts_model.specs.StandsFor.{HoldsWords}
use Rattle.frame_laws.proofs.Members.{each-right}
use Rattle.parts_model.proofs.BlockLaws.{lies-kept, extents-with_run}
use Rattle.frame_laws.proofs.ReserveLaws.{last-apart}
use Rattle.frame_laws.proofs.TakeLaws.{MemoryKeeps, taken_spare}

-- what a call that took a block says
pub record TakesFor (old new : Memory) (old_blocks new_blocks : Old) (n at : ℕ) : Type 0 where
  pub kept : (live : List Extent) (waiting : List ℕ) → HasBlocks old_blocks old live waiting → KeepsWords old new live
  pub taken : (live : List Extent) (waiting : List ℕ) → HasBlocks old_blocks old live waiting → HasBlocks new_blocks new ((at, n) ∷ live) waiting
  pub outside : KeepsOutside 4294967296 9223372036854775808 old new

pub take_keeps : {types : Table TypeInfo} {page : ℕ} {old new : Memory} {nursery : NurseryLayout} {old_blocks new_blocks : Old} {home : ℕ → Option ℕ} {weaks : List ℕ}
    {kept : List Object} {stored : List (ℕ × ℕ)} {places husks waiting : List ℕ} {name : ℕ → ℕ} (n at : ℕ)
    → HoldsWords types page old nursery old_blocks home weaks [] kept stored places husks waiting name → nursery.words ≤ 1048576 → TakesFor old new old_blocks new_blocks n at
    → MemoryKeeps types old new nursery new_blocks home ((at, n) ∷ []) places husks waiting
take_keeps {types = types} {old = old} {new = new} {nursery = nursery} {new_blocks = new_blocks} {home = home} {places = places} {husks = husks} {waiting = waiting} n at h small takes =
    let live : List Extent = blocks_of types (word_at old.blocks) home (young_places places) (old_places places) husks [] in record {
      small = small;
      low_words = λ b l. takes.outside.below.words b (omega arith) l tt;
      low_lies = lies-kept old new 4294967296 1 nursery.words takes.outside.below.blocks (omega arith) h.young.whole;
      live_words = takes.kept live waiting h.blocks;
      blocks = taken_spare new_blocks new (map (block_at types (word_at old.blocks)) (old_places places)) (map (block_at types (word_at old.blocks)) husks)
          (reserved_blocks types (word_at old.blocks) home (young_places places)) (at, n) waiting (takes.taken live waiting h.blocks);
    }

-- words of a block change, and no others
pub record WritesWithin (old new : Memory) (n at : ℕ) : Type 0 where
  pub elsewhere : (b : ℕ) → (b < at) ⊎ (at + n ≤ b) → word_at new.blocks b ≡ word_at old.blocks b
  pub lies : (a k : ℕ) → lies_in_one new.blocks a k ≡ lies_in_one old.blocks a k
  pub extents : map extent_of new.blocks ≡ map extent_of old.blocks
  pub arenas : (new.next_arena ≡ old.next_arena) × (new.arena_words ≡ old.arena_words)

apart-words : (old new : Memory) (n at : ℕ) (xs : List Extent) → WritesWithin old new n at → Each (λ x. IsApart x (at, n)) xs → KeepsWords old new xs
apart-words old new n at [] by all = tt
apart-words old new n at (x ∷ xs) by all = (
  λ b i. by.elsewhere b (elim all.0 [ inl before ↦ inl (omega (arith, before, i.1)) | inr behind ↦ inr (omega (arith, behind, i.0)) ]),
  apart-words old new n at xs by all.1,
)

keeps-twice : (a b c : Memory) (xs : List Extent) → KeepsWords a b xs → KeepsWords b c xs → KeepsWords a c xs
keeps-twice a b c [] p q = tt
keeps-twice a b c (x ∷ xs) p q = ((λ k i. q.0 k i ∙ p.0 k i), keeps-twice a b c xs p.1 q.1)

pub spare_keeps : {types : Table TypeInfo} {first old new : Memory} {nursery : NurseryLayout} {old_blocks : Old} {home : ℕ → Option ℕ} {places husks waiting : List ℕ} (n at : ℕ)
    → WritesWithin old new n at → MemoryKeeps types first old nursery old_blocks home ((at, n) ∷ []) places husks waiting
    → MemoryKeeps types first new nursery old_blocks home ((at, n) ∷ []) places husks waiting
spare_keeps {types = types} {first = first} {old = old} {new = new} {nursery = nursery} {old_blocks = old_blocks} {home = home} {places = places} {husks = husks} {waiting = waiting} n at by k =
    let w : ℕ → ℕ = word_at first.blocks in
    let settled : List Extent = map (block_at types w) (old_places places) in
    let gone : List Extent = map (block_at types w) husks in
    let reserved : List Extent = reserved_blocks types w home (young_places places) in
    let all : List Extent = settled ++ (gone ++ (reserved ++ (at, n) ∷ [])) in
    let joined : all ≡ (settled ++ (gone ++ reserved)) ++ (at, n) ∷ [] =
    sym (append_assoc settled (gone ++ reserved) ((at, n) ∷ []) ∙ ap (λ (xs : List Extent). settled ++ xs) (append_assoc gone reserved ((at, n) ∷ []))) in
    let block = (each-right (IsBlock old) (settled ++ (gone ++ reserved)) ((at, n) ∷ []) (subst (λ (xs : List Extent). Each (IsBlock old) xs) joined (HasBlocks-blocks old_blocks old all waiting k.blocks))).0 in
    let apart : Each (λ x. IsApart x (at, n)) (settled ++ (gone ++ reserved)) = last-apart (settled ++ (gone ++ reserved)) (at, n) (subst AreApart joined (HasBlocks-apart old_blocks old all waiting k.blocks)) in
    let low = block.low in
    let flat : settled ++ (gone ++ reserved) ≡ settled ++ (gone ++ (reserved ++ [])) = ap (λ (xs : List Extent). settled ++ (gone ++ xs)) (sym (append-nil reserved)) in
    let untouched : IsUntouched 4294967296 9223372036854775808 old new all = record {
      blocks = ap (filter (begins_between 4294967296 9223372036854775808)) by.extents;
      words = λ b l r out. by.elsewhere b (each-right (λ x. (b < x.0) ⊎ (x.0 + x.1 ≤ b)) (settled ++ (gone ++ reserved)) ((at, n) ∷ []) (subst (λ (xs : List Extent). IsOutside xs b) joined out)).0;
    } in
    record {
      small = k.small;
      low_words = λ b l. by.elsewhere b (inl (omega (arith, l, low))) ∙ k.low_words b l;
      low_lies = by.lies 1 nursery.words ∙ k.low_lies;
      live_words = keeps-twice first old new (settled ++ (gone ++ (reserved ++ []))) k.live_words
          (subst (λ (xs : List Extent). KeepsWords old new xs) flat (apart-words old new n at (settled ++ (gone ++ reserved)) by apart));
      blocks = HasBlocks_untouched old_blocks old new all waiting k.blocks by.arenas.0 by.arenas.1 untouched;
    }

-- one word of the block is written
pub word_within : (m : Memory) (n at b x : ℕ) → at ≤ b → b < at + n → WritesWithin m (record m { blocks = with_word m.blocks b x }) n at
word_within m n at b x low high = record {
  elsewhere = λ c out. word_at-elsewhere m.blocks b x c (λ e. elim out [ inl l ↦ absurd (omega (arith, l, e, low)) | inr l ↦ absurd (omega (arith, l, e, high)) ]);
  lies = λ a k. lies-with_word m.blocks b x a k;
  extents = extents-with_word m.blocks b x;
  arenas = (refl, refl);
}

-- a run of as many words is written
pub run_within : (m : Memory) (n at : ℕ) (xs : List ℕ) → length xs ≡ n → WritesWithin m (record m { blocks = with_run m.blocks at xs }) n at
run_within m n at xs size = record {
  elsewhere = λ c out. elim out [
    | inl l ↦ word_at-before_run m.blocks at xs c l
    | inr l ↦ word_at-after_run m.blocks at xs c (omega (arith, l, size))
  ];
  lies = λ a k. lies-with_run m.blocks at xs a k;
  extents = extents-with_run m.blocks at xs;
  arenas = (refl, refl);
}
