-- What a sweep stands on.
use Rattle.std.proofs.Common.{◌≡◌, ℕ, true, IsTrue, refl}
use Rattle.object_header.specs.Words.{survives_sweep}
use Rattle.store_model.specs.Store.{Store}
use Rattle.object_model.specs.Sets.{is_in}
use Rattle.parts_model.specs.Parts.{HeapParts, word_in, home_in}
use Rattle.parts_model.specs.Places.{young_places}
use Rattle.parts_model.specs.OldSpace.{reserved_homes}
use Rattle.parts_model.specs.StandsFor.{PartsStandFor}

-- a reserved home stays in a sweep
pub shadow_lives : (heap : HeapParts) (store : Store) (s : PartsStandFor heap store) (p : ℕ) → IsTrue (is_in p (reserved_homes (home_in heap) (young_places s.places)))
    → survives_sweep (word_in heap p) ≡ true
shadow_lives heap store s p t = let h = s.headers.shadow.each p t in rw (h.not_visited, h.shadow) refl
