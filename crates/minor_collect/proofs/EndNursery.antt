-- The nursery after a minor collection: just the pinned objects are left, and each is a used range.
use Rattle.std.proofs.Common.{◌≡◌, ℕ, ◌+◌, ◌≤◌, IsTrue, List, [], ◌∷◌, map, refl, sym, ap, subst, inl, inr, arith}
use Rattle.std.proofs.lemmas.Bool.{cases_lt}
use Rattle.std.specs.List.Sorted.{IsPermutation}
use Rattle.type_table.specs.declared.info.TypeInfo.{TypeInfo}
use Rattle.type_table.specs.Table.{Table}
use Rattle.heap_space.specs.Places.{lies_in_one, word_at}
use Rattle.heap_space.specs.Memory.{Memory}
use Rattle.nursery_gaps.specs.Ranges.{Range, AreRising}
use Rattle.nursery_gaps.specs.Nursery.{Layout as NurseryLayout, IsLaidOut}
use Rattle.object_model.proofs.Members.{is_in-head, is_in-tail}
use Rattle.object_view.proofs.LayoutLaws.{laid_out}
use Rattle.object_model.specs.Object.{Object}
use Rattle.object_model.specs.Sets.{is_in}
use Rattle.object_model.specs.ObjectWords.{words_at}
use Rattle.object_model.specs.Holds.{HoldsObjects}
use Rattle.heap_parts.specs.Places.{block_at}
use Rattle.heap_parts.specs.Nursery.{AreWalks, walked, HoldsNursery}
use Rattle.minor_collect.specs.Ending.{AreAscending}

-- one object in each range

abbrev singles : List ℕ → List (List ℕ)
singles ps = map (λ p. p ∷ []) ps

walked-singles : (ps : List ℕ) → walked (singles ps) ≡ ps
walked-singles [] = refl
walked-singles (p ∷ ps) = ap (λ (qs : List ℕ). p ∷ qs) (walked-singles ps)

pinned-walks : (types : Table TypeInfo) (v : ℕ → ℕ) (ps : List ℕ) → AreWalks types v (map (block_at types v) ps) (singles ps)
pinned-walks types v [] = tt
pinned-walks types v (p ∷ ps) = ((refl, refl), pinned-walks types v ps)

-- The nursery that was made anew around the pinned objects, which are at `sorted`.
pub end_nursery : {types : Table TypeInfo} {new : NurseryLayout} {memory : Memory} (old : NurseryLayout) (sorted young : List ℕ)
    → new ≡ record old { used = map (block_at types (word_at memory.blocks)) sorted; gap = 1; cursor = 1 } → IsLaidOut new
    → IsPermutation sorted young
    → ((p : ℕ) → IsTrue (is_in p young) → p + words_at types (word_at memory.blocks) p ≤ old.words + 1)
    → IsTrue (lies_in_one memory.blocks 1 old.words)
    → HoldsNursery new memory types (word_at memory.blocks) young
end_nursery {types = types} {new = new} {memory = memory} old sorted young is laid same inside whole =
    let v : ℕ → ℕ = word_at memory.blocks in
    let words : old.words ≡ new.words = sym (ap (λ (n : NurseryLayout). n.words) is) in
    record {
      walks = singles sorted;
      walk = subst (λ (ranges : List Range). AreWalks types v ranges (singles sorted)) (sym (ap (λ (n : NurseryLayout). n.used) is)) (pinned-walks types v sorted);
      just = subst (λ (ps : List ℕ). IsPermutation ps young) (sym (walked-singles sorted)) same;
      inside = λ p t. subst (λ (n : ℕ). p + words_at types v p ≤ n + 1) words (inside p t);
      laid_out = laid;
      whole = subst (λ (n : ℕ). IsTrue (lies_in_one memory.blocks 1 n)) words whole;
    }

-- what `reset` asks for: the ranges of sorted places of objects in the nursery rise
pub pinned_rise : {types : Table TypeInfo} {w name : ℕ → ℕ} {met places : List ℕ} {kept : List Object} (words from : ℕ) (sorted : List ℕ)
    → HoldsObjects types w met places name kept → AreAscending from sorted
    → ((p : ℕ) → IsTrue (is_in p sorted) → IsTrue (is_in p places)) → ((p : ℕ) → IsTrue (is_in p sorted) → p + words_at types w p ≤ words + 1)
    → from ≤ words + 1 → AreRising from (words + 1) (map (block_at types w) sorted)
pinned_rise words from [] h up there inside fits = fits
pinned_rise {types = types} {w = w} {places = places} words from (p ∷ ps) h up there inside fits =
    let size = (laid_out types w p).header in (
      up.0,
      omega (arith, size),
      pinned_rise words (p + words_at types w p) ps h (ascending-behind ps up.1 (λ q t. there q (is_in-tail q p ps t)))
          (λ q t. there q (is_in-tail q p ps t)) (λ q t. inside q (is_in-tail q p ps t)) (inside p (is_in-head p ps)),
    )
  where
    behind : (q : ℕ) → p + 1 ≤ q → IsTrue (is_in q places) → p + words_at types w p ≤ q
    behind q l t = elim (cases_lt q (p + words_at types w p)) [
      | inl inner ↦
          let same : p ≡ q = h.apart p q q (there p (is_in-head p ps)) t (omega (arith, l), inner) (omega arith, omega (arith, (laid_out types w q).header)) in
          absurd (omega (arith, same, l))
      | inr out ↦ out
    ]

    ascending-behind : (qs : List ℕ) → AreAscending (p + 1) qs → ((q : ℕ) → IsTrue (is_in q qs) → IsTrue (is_in q places)) → AreAscending (p + words_at types w p) qs
    ascending-behind [] up among = tt
    ascending-behind (q ∷ qs) up among = (behind q up.0 (among q (is_in-head q qs)), up.1)
