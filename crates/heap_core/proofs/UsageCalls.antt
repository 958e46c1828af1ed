-- What is told of the words that a heap uses.
use Rattle.std.proofs.Common.{◌≡◌, ℕ, ◌+◌, ◌-◌, ◌^◌, ◌<◌, ◌≤◌, [], ◌∷◌, refl, sym, ap, ap₂, ◌∙◌, arith}
use Rattle.text_model.specs.declared.command.Command.TheVariants.{Used}
use Rattle.text_model.specs.declared.line.Line.TheVariants.{UsedIs}
use Rattle.object_model.specs.Object.{kept_words}
use Rattle.store_model.specs.Store.{Store, husk_words}
use Rattle.store_model.specs.Steps.{Does}
use Rattle.heap_parts.specs.Parts.{HeapParts}
use Rattle.heap_parts.specs.StandsFor.{PartsStandFor}
use Rattle.heap_core.specs.Commands.{AreStanding, PartsDo}
use Rattle.heap_core.proofs.LookLaws.{counted_told}

-- the husks are counted among the old words
husks_within : (heap : HeapParts) (store : Store) (s : PartsStandFor heap store) → husk_words heap.husk_list ≤ heap.old_words
husks_within heap store s =
    let same : husk_words store.husks ≡ husk_words heap.husk_list = ap husk_words s.husk_list.are in
    omega (arith, same, s.sums.old_are)

pub husks_small : (heap : HeapParts) → AreStanding heap → husk_words heap.husk_list < 2 ^ 64
husks_small heap standing = let s = standing.stands in let low = husks_within heap standing.store s in omega (arith, low, s.sums.within, s.made.ranges.2.2.1)

pub husks_counted : (heap : HeapParts) → AreStanding heap → husk_words heap.husk_list ≤ heap.unsettled + heap.old_words
husks_counted heap standing = let low = husks_within heap standing.store standing.stands in omega (arith, low)

pub used_does : (heap : HeapParts) (counted husks : ℕ) → counted ≡ heap.unsettled + heap.old_words → husks ≡ husk_words heap.husk_list
    → PartsDo heap heap Used (UsedIs (counted - husks) husks ∷ [])
unfolding Does
used_does heap counted husks counted_is husks_is = record {
  setup = refl;
  does = λ store s.
      let same : husk_words store.husks ≡ husk_words heap.husk_list = ap husk_words s.husk_list.are in
      let all = counted_told heap store s in
      let kept : counted - husks ≡ kept_words store.kept = omega (arith, counted_is, husks_is, same, all) in
      (store, (ap₂ (λ (k h : ℕ). UsedIs k h ∷ []) kept (husks_is ∙ sym same), refl), s);
}
