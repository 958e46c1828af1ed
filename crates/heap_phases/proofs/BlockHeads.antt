-- The blocks outside the nursery begin with headers.
use Rattle.std.proofs.Common.{map, List, []}
use Rattle.heap_space.specs.Extents.{Extent}
use Rattle.heap_space.proofs.ExtentLaws.{Each-join}
use Rattle.size_pages.specs.Headers.{IsHeaded}
use Rattle.old_space.specs.Headers.{HasHeaders}
use Rattle.store_model.specs.Store.{Store}
use Rattle.heap_parts.specs.Parts.{HeapParts, word_in, home_in}
use Rattle.heap_parts.specs.Places.{young_places, old_places, block_at}
use Rattle.heap_parts.specs.OldSpace.{blocks_of}
use Rattle.heap_parts.specs.StandsFor.{PartsStandFor}
use Rattle.heap_phases.proofs.SweepWords.{each-of-places, each-of-homes}

-- the live blocks, as the parts of a store tell them
abbrev pub live_of : (heap : HeapParts) (store : Store) → PartsStandFor heap store → List Extent
live_of heap store s = blocks_of heap.setup.types (word_in heap) (home_in heap) (young_places s.places) (old_places s.places) s.husks []

pub blocks_headed : (heap : HeapParts) (store : Store) (s : PartsStandFor heap store) → HasHeaders heap.old_blocks heap.memory (live_of heap store s) s.waiting
blocks_headed heap store s = record {
  blocks = s.words.blocks;
  headed = Each-join (IsHeaded heap.memory) (map (block_at heap.setup.types (word_in heap)) (old_places s.places)) _
      (each-of-places (IsHeaded heap.memory) (block_at heap.setup.types (word_in heap)) (old_places s.places) (λ p t. let k = (s.headers.settled.each p t).live in record { header = k.header; live = k.not_free }))
      (Each-join (IsHeaded heap.memory) (map (block_at heap.setup.types (word_in heap)) s.husks) _
      (each-of-places (IsHeaded heap.memory) (block_at heap.setup.types (word_in heap)) s.husks (λ p t. let k = (s.headers.husk.each p t).settled.live in record { header = k.header; live = k.not_free }))
      (each-of-homes (IsHeaded heap.memory) heap.setup.types (word_in heap) (home_in heap) (young_places s.places) (λ a n t. let k = (s.headers.shadow.each a t).live in record { header = k.header; live = k.not_free })));
}
