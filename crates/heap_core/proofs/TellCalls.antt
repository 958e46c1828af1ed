-- What calls that tell homes do.
use Rattle.std.proofs.Common.{◌≡◌, ◌≢◌, ℕ, ◌^◌, ◌<◌, ◌≤◌, [], ◌∷◌, Some, None, Result, Ok, Err, IfOk, OnErr, refl, sym, ap, ◌∙◌, subst, arith}
use Rattle.std.specs.FinMap as map_of
use Rattle.std.specs.declared.alloc.AllocError.{AllocError}
use Rattle.type_table.specs.Table.{value_at, with_value}
use Rattle.heap_space.specs.Memory.{Memory}
use Rattle.heap_space.specs.Places.{with_word}
use Rattle.object_header.specs.Words.{with_flag}
use Rattle.object_header.specs.declared.flags.Flag.TheVariants.{HasShadow}
use Rattle.text_model.specs.declared.command.Command.TheVariants.{Ident, Hash}
use Rattle.text_model.specs.declared.line.Line.TheVariants.{IdentIs, HashIs}
use Rattle.store_model.specs.Identity.{hash_of}
use Rattle.store_model.specs.Steps.{Does}
use Rattle.heap_parts.specs.Parts.{HeapParts, word_in, place_in, home_in}
use Rattle.heap_parts.specs.Homes.{CanReserve, ReservesHome, shadow_word}
use Rattle.heap_parts.specs.Births.{TakesNone, with_old_blocks}
use Rattle.heap_parts.specs.StandsFor.{PartsStandFor}
use Rattle.heap_parts.specs.OldSpace.{blocks_of}
use Rattle.heap_parts.specs.Places.{young_places, old_places}
use Rattle.frame_laws.proofs.PlaceLaws.{is_in-young}
use Rattle.frame_laws.proofs.StandLaws.{in_slot}
use Rattle.heap_core.specs.Commands.{AreStanding, PartsDo, PartsKeep}
use Rattle.heap_core.specs.Telling.{NeedsHome, PartsTell}
use Rattle.heap_core.proofs.BirthLaws.{none_keeps}
use Rattle.heap_core.proofs.IdentityCalls.{young-below, old-above}
use Rattle.heap_core.proofs.HomeTold.{settled_tells, known_tells}
use Rattle.heap_core.proofs.HomeReserved.{home_reserved, reserve_tells}

-- the home of a settled object is its place
pub tells_place : (heap : HeapParts) (root : ℕ) → place_in heap root ≢ 0 → 4294967296 ≤ place_in heap root → PartsTell heap heap root (place_in heap root)
tells_place heap root full high = record {
  setup = refl;
  tells = λ store s. settled_tells heap store root (value_at store.homes (s.name (place_in heap root))) s full (old-above (place_in heap root) high) refl;
}

-- a home that is reserved already is told again
pub tells_again : (heap : HeapParts) (root home : ℕ) → place_in heap root ≢ 0 → home_in heap (place_in heap root) ≡ Some home → PartsTell heap heap root home
tells_again heap root home full e = record {
  setup = refl;
  tells = λ store s. (store, known_tells heap store root home s full (s.homes.known (place_in heap root) home e), s);
}

-- an object in the nursery has none
pub needs_home : (heap : HeapParts) (root place : ℕ) → place ≡ place_in heap root → place < 4294967296 → home_in heap place ≡ None → NeedsHome heap root
needs_home heap root place is low none = record { young = omega (arith, low, is); none = ap (home_in heap) (sym is) ∙ none }

-- what reserving a home asks for
pub can_reserve : (heap : HeapParts) (root : ℕ) → AreStanding heap → place_in heap root ≢ 0 → NeedsHome heap root → CanReserve heap (place_in heap root)
can_reserve heap root standing full needs =
    let store = standing.store in let s = standing.stands in let p : ℕ = place_in heap root in
    let there = (in_slot heap store root s full).there in
    let inside = s.words.young.inside p (is_in-young s.places p there (young-below p needs.young)) in record {
      object = s.words.whole p there;
      young = needs.young;
      words_few = omega (arith, inside, s.made.words, s.made.ranges.1);
      stands = record { live = blocks_of heap.setup.types (word_in heap) (home_in heap) (young_places s.places) (old_places s.places) s.husks []; waiting = s.waiting; blocks = s.words.blocks };
      none = needs.none;
    }

-- A home was reserved, and is told.
pub tells_reserved : (heap new : HeapParts) (root home : ℕ) → place_in heap root ≢ 0 → NeedsHome heap root → ReservesHome heap new (place_in heap root) home
    → PartsTell heap new root home
tells_reserved heap new root home full needs r =
    let p : ℕ = place_in heap root in let middle = r.middle in let young = young-below p needs.young in
    let memory : Memory = record middle.memory { blocks = with_word (with_word middle.memory.blocks home shadow_word) p (with_flag (word_in heap p) HasShadow) } in
    let is : new ≡ record (with_old_blocks heap middle.old_blocks memory) { shadows = map_of.insert heap.shadows p home } =
    r.is ∙ ap (λ (h : HeapParts). record h { memory = memory; shadows = map_of.insert h.shadows p home }) r.takes.keeps.only in record {
      setup = ap (λ (h : HeapParts). h.setup) is;
      tells = λ store s. (
        record store { homes = with_value store.homes (s.name p) home },
        reserve_tells heap middle store root home s full young needs.none r.takes,
        subst (λ (h : HeapParts). PartsStandFor h (record store { homes = with_value store.homes (s.name p) home })) (sym is)
            (home_reserved heap middle store s p home r.takes (in_slot heap store root s full).there young needs.none),
      );
    }

-- The commands that tell a home.
pub ident_does : (heap new : HeapParts) (root home : ℕ) → PartsTell heap new root home → PartsDo heap new (Ident root) (IdentIs home ∷ [])
unfolding Does
ident_does heap new root home t = record {
  setup = t.setup;
  does = λ store s. let told = t.tells store s in (told.0, (home, told.1, refl), told.2);
}

pub hash_does : (heap new : HeapParts) (root home : ℕ) → home < 2 ^ 64 → PartsTell heap new root home → PartsDo heap new (Hash root) (HashIs (hash_of home) ∷ [])
unfolding Does
hash_does heap new root home small t = record {
  setup = t.setup;
  does = λ store s. let told = t.tells store s in (told.0, (home, small, told.1, refl), told.2);
}

-- and the same of what a call answered
pub on_reserved : (heap new : HeapParts) (root : ℕ) (r : Result ℕ AllocError) → place_in heap root ≢ 0 → NeedsHome heap root
    → IfOk r (λ home. ReservesHome heap new (place_in heap root) home) → IfOk r (λ home. PartsTell heap new root home)
on_reserved heap new root (Ok home) full needs reserves = tells_reserved heap new root home full needs reserves
on_reserved heap new root (Err e) full needs reserves = tt

pub on_none : (heap new : HeapParts) (r : Result ℕ AllocError) → OnErr r (TakesNone heap new) → OnErr r (PartsKeep heap new)
on_none heap new (Ok home) none = tt
on_none heap new (Err e) none = none_keeps heap new none

pub on_ident : (heap new : HeapParts) (root : ℕ) (r : Result ℕ AllocError) → IfOk r (λ home. PartsTell heap new root home)
    → IfOk r (λ home. PartsDo heap new (Ident root) (IdentIs home ∷ []))
on_ident heap new root (Ok home) tells = ident_does heap new root home tells
on_ident heap new root (Err e) tells = tt
