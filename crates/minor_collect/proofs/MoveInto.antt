-- A move into a block that was taken, and one into a reserved home: the blocks that a move leaves.
use Rattle.std.proofs.Common.{◌≡◌, ◌≢◌, ℕ, true, false, IsTrue, List, [], ◌∷◌, map, Option, Some, None, sym, subst}
use Rattle.type_table.specs.declared.info.TypeInfo.{TypeInfo}
use Rattle.type_table.specs.Table.{Table}
use Rattle.heap_space.specs.Memory.{Memory}
use Rattle.heap_space.specs.Extents.{Extent, IsUntouched}
use Rattle.object_view.proofs.MoveLaws.{moved_to}
use Rattle.old_space.specs.HasBlocks.{HasBlocks}
use Rattle.old_space.specs.declared.Old.{Old}
use Rattle.old_space.proofs.JoinLaws.{HasBlocks_untouched, HasBlocks_permuted}
use Rattle.object_model.specs.Sets.{is_in, AreDifferent}
use Rattle.object_model.specs.ObjectWords.{words_at}
use Rattle.heap_parts.specs.Places.{is_young, young_places, old_places, block_at}
use Rattle.heap_parts.specs.OldSpace.{blocks_of, reserved_blocks}
use Rattle.frame_laws.proofs.TakeLaws.{spare_taken}
use Rattle.object_model.proofs.SameMembers.{part_differs}
use Rattle.minor_collect.proofs.EndBlocks.{without_home, blocks-taken}
use Rattle.minor_collect.proofs.MoveBlocks.{blocks_moved, no_home}
use Rattle.frame_laws.proofs.PlaceLaws.{is_in-young}

-- what both kinds of move tell of places, homes and sizes
pub record MovesBlocks (types : Table TypeInfo) (v w : ℕ → ℕ) (p a : ℕ) (home after : ℕ → Option ℕ) (places husks : List ℕ) : Type 0 where
  pub young : is_young p ≡ true
  pub far : is_young a ≡ false
  pub size : words_at types v a ≡ words_at types w p
  pub differ : AreDifferent places
  pub there : IsTrue (is_in p places)
  pub others : (q : ℕ) → q ≢ p → after q ≡ home q
  pub same : (q : ℕ) → IsTrue (is_in q places) → q ≢ p → words_at types v q ≡ words_at types w q
  pub husk_same : (q : ℕ) → IsTrue (is_in q husks) → words_at types v q ≡ words_at types w q

-- the words that change lie in the nursery and in the block that is moved into
pub record WritesInto (m new : Memory) (live : List Extent) : Type 0 where
  pub next : new.next_arena ≡ m.next_arena
  pub arenas : new.arena_words ≡ m.arena_words
  pub untouched : IsUntouched 4294967296 9223372036854775808 m new live

module _ {types : Table TypeInfo} {v w : ℕ → ℕ} {p a : ℕ} {home after : ℕ → Option ℕ} {places husks : List ℕ} (b : MovesBlocks types v w p a home after places husks)
    (old : Old) (m new : Memory) (waiting : List ℕ) where
  abbrev others : List Extent
  others = blocks_of types w (without_home home p) (young_places places) (old_places places) husks []

  pub moved_into_block : WritesInto m new ((a, words_at types w p) ∷ blocks_of types w (without_home home p) (young_places places) (old_places places) husks [])
      → HasBlocks old m ((a, words_at types w p) ∷ blocks_of types w (without_home home p) (young_places places) (old_places places) husks []) waiting
      → HasBlocks old new (blocks_of types v after (young_places (map (moved_to p a) places)) (old_places (map (moved_to p a) places)) husks []) waiting
  moved_into_block writes has = HasBlocks_permuted old new _ _ waiting (HasBlocks_untouched old m new _ waiting has writes.next writes.arenas writes.untouched)
      (blocks_moved types v w p a b.young b.far b.size home after places husks b.differ b.there b.others b.same b.husk_same)

  -- into a block that was taken, where no home was reserved
  pub moved_into_taken : home p ≡ None → WritesInto m new ((a, words_at types w p) ∷ blocks_of types w (without_home home p) (young_places places) (old_places places) husks [])
      → HasBlocks old m (blocks_of types w home (young_places places) (old_places places) husks ((a, words_at types w p) ∷ [])) waiting
      → HasBlocks old new (blocks_of types v after (young_places (map (moved_to p a) places)) (old_places (map (moved_to p a) places)) husks []) waiting
  moved_into_taken none writes has = moved_into_block writes
      (subst (λ (live : List Extent). HasBlocks old m ((a, words_at types w p) ∷ live) waiting) (sym (no_home types w home p (young_places places) (old_places places) husks none))
      (spare_taken old m (map (block_at types w) (old_places places)) (map (block_at types w) husks) (reserved_blocks types w home (young_places places)) (a, words_at types w p) waiting has))

  -- into the home that was reserved
  pub moved_into_home : home p ≡ Some a → WritesInto m new ((a, words_at types w p) ∷ blocks_of types w (without_home home p) (young_places places) (old_places places) husks [])
      → HasBlocks old m (blocks_of types w home (young_places places) (old_places places) husks []) waiting
      → HasBlocks old new (blocks_of types v after (young_places (map (moved_to p a) places)) (old_places (map (moved_to p a) places)) husks []) waiting
  moved_into_home some writes has = moved_into_block writes (HasBlocks_permuted old m _ _ waiting has
      (blocks-taken types w home p a some (young_places places) (old_places places) husks [] (part_differs is_young places b.differ) (is_in-young places p b.there b.young)))
