-- A block is taken: the middle stays, and has that block.
use Rattle.std.proofs.Common.{◌≡◌, ℕ, ◌+◌, ◌<◌, ◌≤◌, true, IsTrue, List, [], ◌∷◌, map, Result, Ok, Err, IfOk, refl, sym, ap, ◌∙◌, subst, inl, inr, arith}
use Rattle.std.specs.Prelude.{IsSome}
use Rattle.std.specs.List.{filter}
use Rattle.std.specs.declared.alloc.AllocError.{AllocError}
use Rattle.std.proofs.lemmas.Bool.{cases_Bool}
use Rattle.std.proofs.lemmas.Bool.Decides.{nat_tests}
use Rattle.type_table.specs.declared.info.TypeInfo.{TypeInfo}
use Rattle.type_table.specs.Table.{Table, value_at}
use Rattle.heap_space.specs.Places.{lies_in_one, word_at}
use Rattle.heap_space.specs.Memory.{Memory}
use Rattle.heap_space.specs.Extents.{Extent, Each, KeepsWords, KeepsOutside, extent_of, begins_between, extents_between, lies_within}
use Rattle.heap_space.proofs.ExtentLaws.{lies_in_one-extents, lies_in_one-between}
use Rattle.object_view.specs.Moving.{HasLeft}
use Rattle.object_view.proofs.InitLaws.{lies-part}
use Rattle.object_view.proofs.LayoutLaws.{keeps-same, laid_out}
use Rattle.old_space.specs.HasBlocks.{HasBlocks, IsBlock, greatest_small, page_size}
use Rattle.old_space.specs.declared.Old.{Old}
use Rattle.old_space.proofs.JoinLaws.{HasBlocks-blocks}
use Rattle.object_model.specs.Layout.{Layout}
use Rattle.object_model.specs.Sets.{is_in}
use Rattle.object_model.specs.ObjectWords.{words_at}
use Rattle.heap_parts.specs.Parts.{HeapParts, home_in, word_in}
use Rattle.heap_parts.specs.Places.{is_young, young_places, old_places, block_at, AreWhole}
use Rattle.heap_parts.specs.OldSpace.{blocks_of, reserved_blocks}
use Rattle.heap_parts.specs.Births.{with_old_blocks}
use Rattle.frame_laws.proofs.Members.{each-left}
use Rattle.heap_parts.proofs.BlockLaws.{each-member}
use Rattle.frame_laws.proofs.PlaceLaws.{is_in-young, is_in-old}
use Rattle.frame_laws.proofs.TakeLaws.{taken_spare}
use Rattle.minor_collect.specs.Homes.{KeepsAll}
use Rattle.minor_collect.specs.Midway.{Midway, changing_of}
use Rattle.minor_collect.specs.Calls.{Stage, Spot, Middle, TookRoom, remembered_at, entries_of}
use Rattle.minor_collect.proofs.Sizes.{sizes_stay}
use Rattle.minor_collect.proofs.TakeKeeps.{keeps_all}
use Rattle.minor_collect.proofs.Takes.{midway_keeps}

-- what lies in one extent lies in one that begins before an end behind it
within-below : (xs : List Extent) (high a n : ℕ) → a < high → lies_within xs a n ≡ true → lies_within (filter (begins_between 0 high) xs) a n ≡ true
within-below [] high a n l h = h
within-below (x ∷ xs) high a n l h = grind (arith, nat_tests, within-below xs high a n l)

-- words that lie in one block lie in one still where the blocks that begin before an end behind them stay
pub lies-kept : (old new : Memory) (high a n : ℕ) → extents_between 0 high new ≡ extents_between 0 high old → a < high
    → lies_in_one old.blocks a n ≡ true → lies_in_one new.blocks a n ≡ true
lies-kept old new high a n same l lies =
    lies_in_one-between new 0 high a n (ap (λ (xs : List Extent). lies_within xs a n) same
    ∙ within-below (map extent_of old.blocks) high a n l (sym (lies_in_one-extents old.blocks a n) ∙ lies))

-- the live blocks of a middle in which none is taken
abbrev pub live_in : (stage : Stage) (now : HeapParts) (spot : Spot) → List Extent
live_in stage now spot = blocks_of stage.start.setup.types (word_in now) (home_in now) (young_places spot.placing.places) (old_places spot.placing.places) spot.placing.husks []

-- what `take` says of the numbers that parts were made with
pub record KeepsNumbers (m new : Memory) (old after : Old) : Type 0 where
  pub arena : new.arena_words ≡ m.arena_words
  pub page : page_size after ≡ page_size old
  pub small : greatest_small after ≡ greatest_small old

module _ {stage : Stage} {now : HeapParts} {spot : Spot} (middle : Middle stage now spot []) (memory : Memory) (after : Old) (a n : ℕ)
    (has : HasBlocks after memory ((a, n) ∷ live_in stage now spot) spot.placing.waiting)
    (kept : KeepsWords now.memory memory (live_in stage now spot))
    (outside : KeepsOutside 4294967296 9223372036854775808 now.memory memory)
    (numbers : KeepsNumbers now.memory memory now.old_blocks after) where
  abbrev types : Table TypeInfo
  types = stage.start.setup.types

  abbrev mid : Midway stage.start stage.store (remembered_at stage) (changing_of now) spot.placing spot.todo spot.held (entries_of stage) spot.owes spot.moved []
  mid = middle.mid

  small : stage.start.nursery.words ≤ 1048576
  small = omega (arith, middle.mid.made.words, middle.mid.made.ranges.1)

  keeps : KeepsAll stage.start.setup.types (word_at memory.blocks) (word_at now.memory.blocks) (home_in now) spot.placing.places spot.placing.husks
  keeps = keeps_all stage.start.setup.types now.memory memory (home_in now) spot.placing.places spot.placing.husks stage.start.nursery.words middle.mid.words.inside small kept outside

  nursery_lies : IsTrue (lies_in_one memory.blocks 1 stage.start.nursery.words)
  nursery_lies = lies-kept now.memory memory 4294967296 1 stage.start.nursery.words outside.below.blocks (omega arith) middle.mid.words.nursery_whole

  settled_lie : Each (IsBlock memory) (map (block_at types (word_at now.memory.blocks)) (old_places spot.placing.places))
  settled_lie = each-left (IsBlock memory) (map (block_at types (word_at now.memory.blocks)) (old_places spot.placing.places)) _ (HasBlocks-blocks after memory _ spot.placing.waiting has).1

  lies-still : (q : ℕ) → IsTrue (is_in q spot.placing.places) → lies_in_one memory.blocks q (words_at types (word_at now.memory.blocks) q) ≡ true
  lies-still q t = elim (cases_Bool (is_young q)) [
    | inl y ↦ (let i = middle.mid.words.inside q (is_in-young spot.placing.places q t y) in let above = middle.mid.words.objects.above q t in
        lies-part memory.blocks 1 stage.start.nursery.words q (words_at types (word_at now.memory.blocks) q) nursery_lies above (omega (arith, i)))
    | inr o ↦ (each-member (IsBlock memory) (block_at types (word_at now.memory.blocks)) (old_places spot.placing.places) q settled_lie (is_in-old spot.placing.places q t o)).lies
  ]

  whole : AreWhole memory types spot.placing.places
  whole = λ p t. let same = keeps-same types (word_at memory.blocks) (word_at now.memory.blocks) p (keeps.objects p t) in record {
    typed = subst (λ (id : ℕ). IsSome (value_at types id)) (sym same.type_stays) (middle.mid.words.whole p t).typed;
    whole = subst (λ (l : Layout). IsTrue (lies_in_one memory.blocks p l.words)) (sym same.layout_stays) (lies-still p t);
  }

  midway-takes : Midway stage.start stage.store (remembered_at stage) (changing_of (with_old_blocks now after memory)) spot.placing spot.todo spot.held (entries_of stage) spot.owes spot.moved ((a, n) ∷ [])
  midway-takes = midway_keeps middle.mid memory after ((a, n) ∷ []) keeps whole nursery_lies
      (taken_spare after memory (map (block_at types (word_at now.memory.blocks)) (old_places spot.placing.places)) (map (block_at types (word_at now.memory.blocks)) spot.placing.husks)
      (reserved_blocks types (word_at now.memory.blocks) (home_in now) (young_places spot.placing.places)) (a, n) spot.placing.waiting has)
      (record {
        ranges = middle.mid.made.ranges;
        words = middle.mid.made.words;
        pins = middle.mid.made.pins;
        card = middle.mid.made.card;
        arena = numbers.arena ∙ middle.mid.made.arena;
        small = numbers.small ∙ middle.mid.made.small;
        page = numbers.page ∙ middle.mid.made.page;
      })

  left-stays : (x : ℕ) → IsTrue (is_in x spot.placing.met) → HasLeft types (word_at now.memory.blocks) spot.placing.places spot.placing.name x
      → (word_at memory.blocks x ≡ word_at now.memory.blocks x) × (word_at memory.blocks (x + 1) ≡ word_at now.memory.blocks (x + 1))
  left-stays x t gone = elim (middle.mid.words.left_low x t) [
    | inl there ↦ absurd (let two = laid_out types (word_at now.memory.blocks) x in gone.outside x there (inl (omega arith, omega (arith, two.header))))
    | inr low ↦ (keeps.low x (omega (arith, low, small)), keeps.low (x + 1) (omega (arith, low, small)))
  ]

  pub middle_takes : Middle stage (with_old_blocks now after memory) spot ((a, n) ∷ [])
  middle_takes = record {
    mid = midway-takes;
    rest = ap (λ (h : HeapParts). with_old_blocks h after memory) middle.rest;
    sizes = sizes_stay (words_at stage.start.setup.types (word_in stage.start)) middle.mid.words.objects midway-takes.words.objects middle.mid.words.moving
        (λ q t. ap (λ (l : Layout). l.words) (keeps-same types (word_at memory.blocks) (word_at now.memory.blocks) q (keeps.objects q t)).layout_stays) left-stays middle.sizes;
  }

  pub middle_took : TookRoom stage now (with_old_blocks now after memory) spot n a
  middle_took = record { after = middle_takes; only = refl; same = keeps.objects }

-- what `take` says, for each answer
pub take_room_ok : (now : HeapParts) (memory : Memory) (after : Old) (n : ℕ) (r : Result ℕ AllocError)
    → ((live : List Extent) (waiting : List ℕ) → HasBlocks now.old_blocks now.memory live waiting → IfOk r (λ a. HasBlocks after memory ((a, n) ∷ live) waiting))
    → ((live : List Extent) (waiting : List ℕ) → HasBlocks now.old_blocks now.memory live waiting → KeepsWords now.memory memory live)
    → KeepsOutside 4294967296 9223372036854775808 now.memory memory
    → KeepsNumbers now.memory memory now.old_blocks after
    → (stage : Stage) (spot : Spot) → Middle stage now spot [] → IfOk r (λ a. TookRoom stage now (with_old_blocks now after memory) spot n a)
take_room_ok now memory after n (Ok a) taken kept outside numbers stage spot middle =
    middle_took middle memory after a n (taken (live_in stage now spot) spot.placing.waiting middle.mid.blocks) (kept (live_in stage now spot) spot.placing.waiting middle.mid.blocks) outside numbers
take_room_ok now memory after n (Err e) taken kept outside numbers stage spot middle = tt
