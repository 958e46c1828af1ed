-- In the middle of a collection the nursery can be walked, and what is listed is what is gone.
use Rattle.std.proofs.Common.{◌≡◌, ◌≢◌, ℕ, zero, suc, ◌+◌, ◌-◌, ◌<◌, ◌≤◌, Bool, true, false, IsTrue, List, [], ◌∷◌, ◌++◌, filter, refl, sym, ap, ◌∙◌, subst, inl, inr, arith}
use Rattle.std.specs.Prelude.{◌==◌, ◌&&◌, not, if◌then◌else◌, slice_get, Some, nat_lt}
use Rattle.std.proofs.lemmas.Bool.{cases_Bool}
use Rattle.std.proofs.lemmas.Bool.Decides.{eqb_tells, nat_tests}
use Rattle.type_table.specs.declared.info.TypeInfo.{TypeInfo}
use Rattle.type_table.specs.Table.{Table}
use Rattle.heap_space.specs.Places.{word_at}
use Rattle.nursery_gaps.specs.Ranges.{Range, AreRising, words_between}
use Rattle.nursery_gaps.specs.Nursery.{Layout as NurseryLayout, IsLaidOut}
use Rattle.object_view.specs.Views.{HasObject}
use Rattle.object_view.proofs.ForwardLaws.{header-unmarked}
use Rattle.object_model.specs.Sets.{is_in}
use Rattle.object_model.specs.ObjectWords.{words_at}
use Rattle.object_model.proofs.Members.{filter-agree, is_in-head, is_in-tail, in-left, in-right}
use Rattle.heap_parts.specs.Nursery.{AreWalks, IsWalk, walked}
use Rattle.heap_parts.specs.Parts.{HeapParts, word_in, pinned_places}
use Rattle.frame_laws.proofs.PlaceLaws.{is_in-young}
use Rattle.minor_collect.specs.Carried.{HoldsWalked}
use Rattle.minor_collect.specs.Midway.{with_changing, changing_of}
use Rattle.minor_collect.specs.Calls.{Stage, Spot, Middle}
use Rattle.minor_collect.specs.Walks.{CanSize, CanWalkAll, IsWalkBy, AreWalksBy, size_in, is_gone_at}
use Rattle.minor_collect.proofs.FollowCases.{still_there}
use Rattle.minor_collect.proofs.ListDead.{is_dead_at}
use Rattle.minor_collect.proofs.StillLaws.{can_read}

module _ (types : Table TypeInfo) (w : ℕ → ℕ) (size : ℕ → ℕ) where
  walk-by : (from end : ℕ) (ps : List ℕ) → IsWalk types w from ps end → ((p : ℕ) → IsTrue (is_in p ps) → size p ≡ words_at types w p) → IsWalkBy size from ps end
  walk-by from end [] k same = k
  walk-by from end (p ∷ ps) k same = (
    k.0,
    subst (λ (n : ℕ). IsWalkBy size (from + n) ps end) (sym (same p (is_in-head p ps))) (walk-by (from + words_at types w p) end ps k.1 (λ q t. same q (is_in-tail q p ps t))),
  )

  walks-by : (ranges : List Range) (walks : List (List ℕ)) → AreWalks types w ranges walks → ((p : ℕ) → IsTrue (is_in p (walked walks)) → size p ≡ words_at types w p) → AreWalksBy size ranges walks
  walks-by [] [] k same = k
  walks-by [] (ps ∷ walks) k same = absurd k
  walks-by (r ∷ rs) [] k same = absurd k
  walks-by (r ∷ rs) (ps ∷ walks) k same = (
    walk-by r.0 (r.0 + r.1) ps k.0 (λ p t. same p (in-left p ps (walked walks) t)),
    walks-by rs walks k.1 (λ p t. same p (in-right p ps (walked walks) t)),
  )

-- ranges that rise end at or before the last end
rising-end : (from to : ℕ) (rs : List Range) → AreRising from to rs → from ≤ to
rising-end from to [] l = l
rising-end from to (r ∷ rs) l = let more = rising-end (r.0 + r.1) to rs l.2 in omega (arith, more, l.0)

rising-at : (from to k : ℕ) (rs : List Range) (range : Range) → AreRising from to rs → slice_get rs k ≡ Some range → range.0 + range.1 ≤ to
rising-at from to k [] range l e = absurd (let no : ⊥ = cc in no)
rising-at from to zero (r ∷ rs) range l e =
    let same : r ≡ range = cc in subst (λ (x : Range). x.0 + x.1 ≤ to) same (rising-end (r.0 + r.1) to rs l.2)
rising-at from to (suc k) (r ∷ rs) range l e = rising-at (r.0 + r.1) to k rs range l.2 e

-- an element of two lists joined is one of either
joined-at : (P : Range → Type 0) (xs ys : List Range) (k : ℕ) (range : Range) → ((j : ℕ) → slice_get xs j ≡ Some range → P range) → ((j : ℕ) → slice_get ys j ≡ Some range → P range)
    → slice_get (xs ++ ys) k ≡ Some range → P range
joined-at P [] ys k range f g e = g k e
joined-at P (x ∷ xs) ys zero range f g e = f zero e
joined-at P (x ∷ xs) ys (suc k) range f g e = joined-at P xs ys k range (λ j t. f (suc j) t) g e

between-at : (from to j : ℕ) (range : Range) → from ≤ to → slice_get (words_between from to) j ≡ Some range → range.0 + range.1 ≤ to
between-at from to j range l e = elim (cases_Bool (nat_lt from to)) [
  | inl less ↦ one j (subst (λ (b : Bool). slice_get (if b then (from, to - from) ∷ [] else []) j ≡ Some range) less e)
  | inr more ↦ absurd (none j (subst (λ (b : Bool). slice_get (if b then (from, to - from) ∷ [] else []) j ≡ Some range) more e))
]
  where
    one : (j : ℕ) → slice_get ((from, to - from) ∷ []) j ≡ Some range → range.0 + range.1 ≤ to
    one zero e = let same : (from, to - from) ≡ range = cc in subst (λ (x : Range). x.0 + x.1 ≤ to) same (omega (arith, l))
    one (suc j) e = absurd (let no : ⊥ = cc in no)

    none : (j : ℕ) → slice_get [] j ≡ Some range → ⊥
    none j e = cc

range-end : (layout : NurseryLayout) (k : ℕ) (range : Range) → IsLaidOut layout → slice_get layout.used k ≡ Some range → range.0 + range.1 ≤ layout.words + 1
range-end layout k range laid e =
    let up = rising-end layout.cursor (layout.words + 1) laid.above laid.upper in
    let P : Range → Type 0 = λ r. r.0 + r.1 ≤ layout.words + 1 in
    joined-at P (laid.below ++ words_between layout.gap layout.cursor) laid.above k range
    (λ j t. joined-at P laid.below (words_between layout.gap layout.cursor) j range
    (λ i u. let at = rising-at 1 layout.gap i laid.below range laid.lower u in let passed = laid.passed in omega (arith, at, passed, up))
    (λ i u. let at = between-at layout.gap layout.cursor i range laid.passed u in omega (arith, at, up)) t)
    (λ j t. rising-at layout.cursor (layout.words + 1) j laid.above range laid.upper t)
    (subst (λ (xs : List Range). slice_get xs k ≡ Some range) laid.used e)

module _ {stage : Stage} {now : HeapParts} {spot : Spot} (middle : Middle stage now spot []) where
  abbrev heap : HeapParts
  heap = with_changing stage.start (changing_of now)

  abbrev are : HoldsWalked stage.start.setup.types (word_in stage.start) stage.start.nursery.used spot.placing.met spot.placing.places
  are = middle.mid.carried.walked_are

  some : (x : ℕ) → IsTrue (is_in x spot.placing.met) → x ≢ 0
  some x t e = let above = middle.mid.words.moving.above x t in omega (arith, above, e)

  stands : (x : ℕ) → IsTrue (is_in x spot.placing.met) → (b : Bool) → (word_at now.memory.blocks x == 18446744073709551615) ≡ b
      → HasObject now.memory stage.start.setup.types (if b then word_at now.memory.blocks (x + 1) else x)
  stands x t true e = elim (eqb_tells (word_at now.memory.blocks x) 18446744073709551615) [
    | inl y ↦ elim (middle.mid.words.moving.each x t) [
      | inl there ↦ absurd (header-unmarked x middle.mid.words.objects there y.1)
      | inr gone ↦ middle.mid.words.whole (word_at now.memory.blocks (x + 1)) gone.there
    ]
    | inr n ↦ absurd (let clash : true ≡ false = sym e ∙ n.0 in let no : ⊥ = cc in no)
  ]
  stands x t false e = elim (eqb_tells (word_at now.memory.blocks x) 18446744073709551615) [
    | inl y ↦ absurd (let clash : true ≡ false = sym y.0 ∙ e in let no : ⊥ = cc in no)
    | inr n ↦ middle.mid.words.whole x (still_there middle.mid.words.objects middle.mid.words.moving middle.mid.follows x t n.1)
  ]

  sized : (x : ℕ) → IsTrue (is_in x (walked are.walks)) → CanSize heap x
  sized x t =
      let m = are.young x t in let both = can_read middle x (inr m.0) (some x m.0) in record {
        first = both.0;
        second = both.1;
        fits = let low : x < 4294967296 = grind (arith, nat_tests, m.1) in omega (arith, low);
        object = stands x m.0 (word_at now.memory.blocks x == 18446744073709551615) refl;
      }

  by : AreWalksBy (size_in heap) stage.start.nursery.used are.walks
  by = walks-by stage.start.setup.types (word_in stage.start) (size_in heap) stage.start.nursery.used are.walks are.walk (λ p t. let m = are.young p t in middle.sizes p m.0 m.1)

  agrees : (p : ℕ) → IsTrue (is_in p (walked are.walks)) → is_gone_at heap p ≡ is_dead_at (word_at now.memory.blocks) (pinned_places stage.start) p
  agrees p t =
      let m = are.young p t in elim (eqb_tells (word_at now.memory.blocks p) 18446744073709551615) [
        | inl y ↦ rw y.0 refl
        | inr n ↦
            let there = still_there middle.mid.words.objects middle.mid.words.moving middle.mid.follows p m.0 n.1 in
            ap (λ (b : Bool). not (word_at now.memory.blocks p == 18446744073709551615) && not b) (middle.mid.young_flags.pinned.each p (is_in-young spot.placing.places p there m.1))
      ]

  -- the nursery can be walked
  pub can_walk_all : CanWalkAll now
  can_walk_all = subst CanWalkAll (sym middle.rest) (record {
    walks = are.walks;
    walk = by;
    sized = sized;
    fits = λ k range e.
        let at = range-end stage.start.nursery k range stage.stands.words.young.laid_out e in
        let words = middle.mid.made.words in let ranges = middle.mid.made.ranges.1 in omega (arith, at, words, ranges);
    few =
        let few = stage.stands.words.young.laid_out.few in let pins = middle.mid.made.pins in let most = middle.mid.made.ranges.2.2.2.2.2.2.1 in omega (arith, few, pins, most);
  })

  -- what the walk lists is what is gone
  pub dead_told : (dead : List ℕ) → ((walks : List (List ℕ)) → AreWalksBy (size_in now) now.nursery.used walks → dead ≡ filter (is_gone_at now) (walked walks))
      → dead ≡ filter (is_dead_at (word_at now.memory.blocks) (pinned_places stage.start)) (walked middle.mid.carried.walked_are.walks)
  dead_told dead told =
      let here : (walks : List (List ℕ)) → AreWalksBy (size_in heap) stage.start.nursery.used walks → dead ≡ filter (is_gone_at heap) (walked walks) =
      subst (λ (h : HeapParts). (walks : List (List ℕ)) → AreWalksBy (size_in h) h.nursery.used walks → dead ≡ filter (is_gone_at h) (walked walks)) middle.rest told in
      here are.walks by ∙ filter-agree (is_gone_at heap) (is_dead_at (word_at now.memory.blocks) (pinned_places stage.start)) (walked are.walks) agrees
