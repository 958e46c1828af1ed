-- What is gone is listed range by range.
use Rattle.std.proofs.Common.{◌≡◌, ℕ, zero, suc, ◌+◌, ◌-◌, ◌<◌, IsTrue, List, [], ◌∷◌, ◌++◌, filter, length, refl, sym, ap, ◌∙◌, subst, arith, append-nil}
use Rattle.std.specs.Prelude.{Some, None, slice_get, take}
use Rattle.std.proofs.lemmas.List.{append_assoc}
use Rattle.std.proofs.lemmas.List.Elements.{filter-append}
use Rattle.nursery_gaps.specs.Ranges.{Range}
use Rattle.object_model.specs.Sets.{is_in}
use Rattle.object_model.proofs.Members.{in-left, in-right}
use Rattle.heap_parts.specs.Nursery.{walked}
use Rattle.heap_parts.specs.Parts.{HeapParts}
use Rattle.minor_collect.specs.Walks.{CanWalk, CanWalkAll, IsWalkBy, AreWalksBy, size_in, is_gone_at}

-- a walk through one range among walks: those before it, and those after it
pub record WalkAt (size : ℕ → ℕ) (ranges : List Range) (k : ℕ) (range : Range) (walks : List (List ℕ)) : Type 0 where
  pub places : List ℕ
  pub later : List (List ℕ)
  pub walk : IsWalkBy size range.0 places (range.0 + range.1)
  pub all : walked walks ≡ walked (take k walks) ++ (places ++ walked later)
  pub next : walked (take (suc k) walks) ≡ walked (take k walks) ++ places

walk-at : (size : ℕ → ℕ) (ranges : List Range) (k : ℕ) (range : Range) (walks : List (List ℕ)) → AreWalksBy size ranges walks → slice_get ranges k ≡ Some range → WalkAt size ranges k range walks
walk-at size [] k range walks w e = absurd (let no : ⊥ = cc in no)
walk-at size (r ∷ rs) k range [] w e = absurd w
walk-at size (r ∷ rs) zero range (ps ∷ walks) w e =
    let same : r ≡ range = cc in record {
      places = ps;
      later = walks;
      walk = subst (λ (x : Range). IsWalkBy size x.0 ps (x.0 + x.1)) same w.0;
      all = refl;
      next = append-nil ps;
    }
walk-at size (r ∷ rs) (suc k) range (ps ∷ walks) w e =
    let more = walk-at size rs k range walks w.1 e in record {
      places = more.places;
      later = more.later;
      walk = more.walk;
      all = ap (λ (xs : List ℕ). ps ++ xs) more.all ∙ sym (append_assoc ps (walked (take k walks)) (more.places ++ walked more.later));
      next = ap (λ (xs : List ℕ). ps ++ xs) more.next ∙ sym (append_assoc ps (walked (take k walks)) more.places);
    }

-- So far the walks through the ranges below k are done, whatever they are.
pub record WalkedTo (heap : HeapParts) (k : ℕ) (before now : List ℕ) : Type 0 where
  pub each : (walks : List (List ℕ)) → AreWalksBy (size_in heap) heap.nursery.used walks → now ≡ before ++ filter (is_gone_at heap) (walked (take k walks))

pub walked_begin : (heap : HeapParts) (before : List ℕ) → WalkedTo heap 0 before before
walked_begin heap before = record { each = λ walks w. sym (append-nil before) }

pub range_can : (heap : HeapParts) (k from n : ℕ) (range : Range) → CanWalkAll heap → slice_get heap.nursery.used k ≡ Some range → range.0 ≡ from → range.1 ≡ n → CanWalk heap from (from + n)
range_can heap k from n range c e f g =
    let at = walk-at (size_in heap) heap.nursery.used k range c.walks c.walk e in
    record {
      places = at.places;
      walk = subst (λ (x : ℕ). IsWalkBy (size_in heap) x at.places (x + n)) f (subst (λ (x : ℕ). IsWalkBy (size_in heap) range.0 at.places (range.0 + x)) g at.walk);
      sized = λ p t. c.sized p (subst (λ (ps : List ℕ). IsTrue (is_in p ps)) (sym at.all) (in-right p (walked (take k c.walks)) (at.places ++ walked at.later) (in-left p at.places (walked at.later) t)));
      fits = let below = c.fits k range e in omega (arith, below, f, g);
    }

get-below : (rs : List Range) (k : ℕ) (range : Range) → slice_get rs k ≡ Some range → k < length rs
get-below [] k range e = absurd (let no : ⊥ = cc in no)
get-below (r ∷ rs) zero range e = omega (arith)
get-below (r ∷ rs) (suc k) range e = let more = get-below rs k range e in omega (arith, more)

pub range_below : (heap : HeapParts) (k : ℕ) (range : Range) → slice_get heap.nursery.used k ≡ Some range → k < length heap.nursery.used
range_below heap k range e = get-below heap.nursery.used k range e

-- one range more
pub walked_next : (heap : HeapParts) (k from n : ℕ) (range : Range) (before now new : List ℕ) → WalkedTo heap k before now → slice_get heap.nursery.used k ≡ Some range → range.0 ≡ from → range.1 ≡ n
    → ((places : List ℕ) → IsWalkBy (size_in heap) from places (from + n) → new ≡ now ++ filter (is_gone_at heap) places) → WalkedTo heap (k + 1) before new
walked_next heap k from n range before now new s e f g listed = record {
  each = λ walks w.
      let at = walk-at (size_in heap) heap.nursery.used k range walks w e in
      listed at.places (subst (λ (x : ℕ). IsWalkBy (size_in heap) x at.places (x + n)) f (subst (λ (x : ℕ). IsWalkBy (size_in heap) range.0 at.places (range.0 + x)) g at.walk))
      ∙ (ap (λ (xs : List ℕ). xs ++ filter (is_gone_at heap) at.places) (s.each walks w)
      ∙ (append_assoc before (filter (is_gone_at heap) (walked (take k walks))) (filter (is_gone_at heap) at.places)
      ∙ ap (λ (xs : List ℕ). before ++ xs) (sym (ap (λ (j : ℕ). filter (is_gone_at heap) (walked (take j walks))) (let e : k + 1 ≡ suc k = omega (arith) in e) ∙ (ap (filter (is_gone_at heap)) at.next ∙ filter-append (is_gone_at heap) (walked (take k walks)) at.places)))));
}

none-left : (size : ℕ → ℕ) (rs : List Range) (k : ℕ) (walks : List (List ℕ)) → slice_get rs k ≡ None → AreWalksBy size rs walks → take k walks ≡ walks
none-left size [] zero [] e w = refl
none-left size [] (suc k) [] e w = refl
none-left size [] zero (ps ∷ walks) e w = absurd w
none-left size [] (suc k) (ps ∷ walks) e w = absurd w
none-left size (r ∷ rs) k [] e w = absurd w
none-left size (r ∷ rs) zero (ps ∷ walks) e w = absurd (let no : ⊥ = cc in no)
none-left size (r ∷ rs) (suc k) (ps ∷ walks) e w = ap (λ (xs : List (List ℕ)). ps ∷ xs) (none-left size rs k walks e w.1)

pub walked_end : (heap : HeapParts) (k : ℕ) (before now : List ℕ) (walks : List (List ℕ)) → WalkedTo heap k before now → slice_get heap.nursery.used k ≡ None
    → AreWalksBy (size_in heap) heap.nursery.used walks → now ≡ before ++ filter (is_gone_at heap) (walked walks)
walked_end heap k before now walks s e w = s.each walks w ∙ ap (λ (xs : List (List ℕ)). before ++ filter (is_gone_at heap) (walked xs)) (none-left (size_in heap) heap.nursery.used k walks e w)
