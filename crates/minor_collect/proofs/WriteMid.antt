-- A word of an object outside the nursery is written in the middle of a collection: what stays.
use Rattle.std.proofs.Common.{◌≡◌, ◌≢◌, ℕ, ◌+◌, ◌<◌, ◌≤◌, ◌⊎◌, IsTrue, List, [], ◌++◌, map, refl, sym, ap, ◌∙◌, subst, inl, inr, arith}
use Rattle.std.specs.Prelude.{IsSome}
use Rattle.std.specs.List.{filter}
use Rattle.type_table.specs.declared.info.TypeInfo.{TypeInfo}
use Rattle.type_table.specs.Table.{Table, value_at}
use Rattle.heap_space.specs.Places.{word_at, with_word, lies_in_one}
use Rattle.heap_space.specs.Memory.{Memory}
use Rattle.heap_space.specs.Extents.{Extent, Each, IsApart, IsOutside, IsUntouched, begins_between}
use Rattle.heap_space.proofs.ExtentLaws.{extents-with_word}
use Rattle.heap_space.proofs.Blocks.{lies-with_word}
use Rattle.object_view.proofs.WordLaws.{updated-other}
use Rattle.object_view.proofs.SpaceLaws.{word_at-written, lies-at}
use Rattle.object_view.proofs.LayoutLaws.{SameAt, KeepsLayout}
use Rattle.object_model.specs.Layout.{Layout}
use Rattle.object_model.specs.Sets.{is_in}
use Rattle.object_model.specs.ObjectWords.{updated, words_at}
use Rattle.old_space.specs.HasBlocks.{HasBlocks, IsBlock}
use Rattle.old_space.proofs.JoinLaws.{HasBlocks-apart, HasBlocks-blocks, HasBlocks_untouched}
use Rattle.heap_parts.specs.Parts.{HeapParts, word_in, home_in}
use Rattle.heap_parts.specs.Places.{young_places, old_places, block_at, AreWhole}
use Rattle.heap_parts.specs.OldSpace.{blocks_of, reserved_blocks, reserved_homes}
use Rattle.heap_parts.specs.Effects.{with_word_at}
use Rattle.heap_parts.proofs.BlockLaws.{each-member}
use Rattle.frame_laws.proofs.Members.{each-left, each-right, apart-both}
use Rattle.frame_laws.proofs.PlaceLaws.{old-is_in}
use Rattle.frame_laws.proofs.WriteWords.{each-imp, each-both, each-reserved}
use Rattle.minor_collect.specs.Calls.{Stage, Spot, Middle}

module _ {stage : Stage} {now : HeapParts} {spot : Spot} (middle : Middle stage now spot []) (p : ℕ) (there : IsTrue (is_in p (old_places spot.placing.places))) where
  abbrev types : Table TypeInfo
  types = stage.start.setup.types

  abbrev w : ℕ → ℕ
  w = word_at now.memory.blocks

  abbrev settled : List Extent
  settled = map (block_at stage.start.setup.types (word_at now.memory.blocks)) (old_places spot.placing.places)

  abbrev husks : List Extent
  husks = map (block_at stage.start.setup.types (word_at now.memory.blocks)) spot.placing.husks

  abbrev reserved : List Extent
  reserved = reserved_blocks stage.start.setup.types (word_at now.memory.blocks) (home_in now) (young_places spot.placing.places)

  pub place_there : IsTrue (is_in p spot.placing.places)
  place_there = (old-is_in spot.placing.places p there).0

  -- no husk and no reserved home shares a word with the object
  others-apart : Each (IsApart (block_at types w p)) (husks ++ (reserved ++ []))
  others-apart = each-member (λ x. Each (IsApart x) (husks ++ (reserved ++ []))) (block_at types w) (old_places spot.placing.places) p
      (apart-both settled (husks ++ (reserved ++ [])) (HasBlocks-apart now.old_blocks now.memory _ spot.placing.waiting middle.mid.blocks)) there

  others-wide : Each (λ x. IsApart (block_at types w p) x × (2 ≤ x.1)) (husks ++ (reserved ++ []))
  others-wide = each-both (IsApart (block_at types w p)) (λ x. 2 ≤ x.1) (husks ++ (reserved ++ [])) others-apart
      (each-imp (IsBlock now.memory) (λ x. 2 ≤ x.1) (husks ++ (reserved ++ [])) (λ x b. b.wide)
      (each-right (IsBlock now.memory) settled (husks ++ (reserved ++ [])) (HasBlocks-blocks now.old_blocks now.memory _ spot.placing.waiting middle.mid.blocks)))

  husk-apart : (q : ℕ) → IsTrue (is_in q spot.placing.husks) → IsApart (block_at types w p) (block_at types w q)
  husk-apart q u = each-member (IsApart (block_at types w p)) (block_at types w) spot.placing.husks q (each-left (IsApart (block_at types w p)) husks (reserved ++ []) others-apart) u

  pub husk_same : (at value : ℕ) → p ≤ at → at < p + words_at types w p → (q : ℕ) → IsTrue (is_in q spot.placing.husks) → SameAt types (updated w at value) w q
  husk_same at value low high q u = record {
    same = λ b l r. updated-other w at value b (λ e. elim (husk-apart q u) [
      | inl behind ↦ absurd (omega (arith, behind, l, e, high))
      | inr before ↦ absurd (omega (arith, before, r, e, low))
    ]);
  }

  pub shadow_first : (at value : ℕ) → p ≤ at → at < p + words_at types w p → (q : ℕ) → IsTrue (is_in q (reserved_homes (home_in now) (young_places spot.placing.places)))
      → updated w at value q ≡ w q
  shadow_first at value low high q u =
      let P : Extent → Type 0 = λ x. IsApart (block_at types w p) x × (2 ≤ x.1) in
      let some = each-reserved P types w (home_in now) (young_places spot.placing.places) q (each-left P reserved [] (each-right P husks (reserved ++ []) others-wide)) u in
      updated-other w at value q (λ e. elim some.is.0 [
        | inl behind ↦ absurd (omega (arith, behind, e, high))
        | inr before ↦ absurd (omega (arith, before, e, low, some.is.1))
      ])

  outside-object : (a : ℕ) → IsOutside (settled ++ (husks ++ (reserved ++ []))) a → p ≤ a → a < p + words_at types w p → ⊥
  outside-object a out low high =
      let olds = each-left (λ x. (a < x.0) ⊎ (x.0 + x.1 ≤ a)) settled (husks ++ (reserved ++ [])) out in
      elim (each-member (λ x. (a < x.0) ⊎ (x.0 + x.1 ≤ a)) (block_at types w) (old_places spot.placing.places) p olds there) [
        | inl below ↦ absurd (omega (arith, below, low))
        | inr above ↦ absurd (omega (arith, above, high))
      ]

  word-elsewhere : (at value a : ℕ) → p ≤ at → at < p + words_at types w p → a ≢ at → word_at (with_word now.memory.blocks at value) a ≡ w a
  word-elsewhere at value a low high ne = ap (λ (f : ℕ → ℕ). f a) (word_at-written now.memory.blocks at value
      (lies-at now.memory.blocks p (words_at types w p) at (middle.mid.words.whole p place_there).whole low high)) ∙ updated-other w at value a ne

  -- the same blocks are live
  pub blocks_written : (at value : ℕ) → p ≤ at → at < p + words_at types w p
      → HasBlocks now.old_blocks (record now.memory { blocks = with_word now.memory.blocks at value }) (blocks_of types w (home_in now) (young_places spot.placing.places) (old_places spot.placing.places) spot.placing.husks []) spot.placing.waiting
  blocks_written at value low high =
      let live : List Extent = blocks_of types w (home_in now) (young_places spot.placing.places) (old_places spot.placing.places) spot.placing.husks [] in
      let new : Memory = record now.memory { blocks = with_word now.memory.blocks at value } in
      let untouched : IsUntouched 4294967296 9223372036854775808 now.memory new live = record {
        blocks = ap (filter (begins_between 4294967296 9223372036854775808)) (extents-with_word now.memory.blocks at value);
        words = λ a l r out. word-elsewhere at value a low high (λ e. outside-object a out (omega (arith, low, e)) (omega (arith, high, e)));
      } in
      HasBlocks_untouched now.old_blocks now.memory new live spot.placing.waiting middle.mid.blocks refl refl untouched

  -- the words then
  pub words_written : (at value : ℕ) → p ≤ at → at < p + words_at types w p → word_in (with_word_at now at value) ≡ updated w at value
  words_written at value low high = word_at-written now.memory.blocks at value (lies-at now.memory.blocks p (words_at types w p) at (middle.mid.words.whole p place_there).whole low high)

  -- objects lie whole still, where layouts stay
  pub whole_written : (at value : ℕ) → ((q : ℕ) → IsTrue (is_in q spot.placing.places) → KeepsLayout types (word_in (with_word_at now at value)) w q) → AreWhole (with_word_at now at value).memory types spot.placing.places
  whole_written at value keeps = λ q t. let k = keeps q t in let old = middle.mid.words.whole q t in record {
    typed = subst (λ (id : ℕ). IsSome (value_at types id)) (sym k.type_stays) old.typed;
    whole = subst (λ (l : Layout). IsTrue (lies_in_one (with_word now.memory.blocks at value) q l.words)) (sym k.layout_stays) (lies-with_word now.memory.blocks at value q (words_at types w q) ∙ old.whole);
  }

  pub nursery_written : (at value : ℕ) → IsTrue (lies_in_one (with_word now.memory.blocks at value) 1 stage.start.nursery.words)
  nursery_written at value = lies-with_word now.memory.blocks at value 1 stage.start.nursery.words ∙ middle.mid.words.nursery_whole
