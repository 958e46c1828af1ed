-- What is listed as gone is what is gone.
use Rattle.std.proofs.Common.{◌≡◌, ℕ, false, IsTrue, List, [], filter, sym, subst}
use Rattle.std.specs.List.Sorted.{IsPermutation, IsNonDecreasing}
use Rattle.heap_space.specs.Places.{word_at}
use Rattle.object_view.specs.Views.{HasObject}
use Rattle.object_model.specs.Sets.{is_in, AreDifferent}
use Rattle.heap_parts.specs.Nursery.{walked}
use Rattle.heap_parts.specs.Parts.{HeapParts, pinned_places}
use Rattle.minor_collect.specs.Midway.{is_lasting}
use Rattle.minor_collect.specs.Calls.{Stage, Spot, Middle}
use Rattle.minor_collect.specs.Walks.{AreWalksBy, size_in, is_gone_at, births_destroyed}
use Rattle.minor_collect.specs.Vanished.{FindsVanished}
use Rattle.minor_collect.proofs.ListDead.{is_dead_at, dead_once, dead_just, dead_all}
use Rattle.minor_collect.proofs.WalkLaws.{dead_told}

abbrev pub IsToldBy : HeapParts → List ℕ → Type 0
IsToldBy now dead = (walks : List (List ℕ)) → AreWalksBy (size_in now) now.nursery.used walks → dead ≡ filter (is_gone_at now) (walked walks)

module _ {stage : Stage} {now : HeapParts} {spot : Spot} (middle : Middle stage now spot []) {dead : List ℕ} (told : IsToldBy now dead) where
  are-dead : dead ≡ filter (is_dead_at (word_at now.memory.blocks) (pinned_places stage.start)) (walked middle.mid.carried.walked_are.walks)
  are-dead = dead_told middle dead told

  just : (p : ℕ) → IsTrue (is_in p dead) → IsTrue (is_in p spot.placing.places) × (is_lasting (pinned_places stage.start) p ≡ false)
  just p t = dead_just middle.mid p (subst (λ (xs : List ℕ). IsTrue (is_in p xs)) are-dead t)

  pub dead_there : (p : ℕ) → IsTrue (is_in p dead) → HasObject now.memory now.setup.types p
  dead_there p t =
      subst (λ (h : HeapParts). HasObject h.memory h.setup.types p) (sym middle.rest)
      (let whole : HasObject now.memory stage.start.setup.types p = middle.mid.words.whole p (just p t).0 in whole)

  pub finds_vanished : {destroyed : List ℕ} → IsPermutation (births_destroyed now dead) destroyed → IsNonDecreasing destroyed → FindsVanished stage spot now dead destroyed
  finds_vanished {destroyed = destroyed} are rise = record {
    once = subst AreDifferent (sym are-dead) (dead_once middle.mid);
    just = just;
    all = λ p t e. subst (λ (xs : List ℕ). IsTrue (is_in p xs)) (sym are-dead) (dead_all middle.mid p t e);
    destroyed_are = are;
    destroyed_rise = rise;
  }
