-- The live blocks that hold condemned objects, as the code lists them.
use Rattle.std.proofs.Common.{◌≡◌, ℕ, ◌<◌, Bool, IsTrue, List, [], ◌∷◌, sym, ap, ◌∙◌, subst, arith, inl, inr, Result, Ok, Err, OnOk, IfOk}
use Rattle.std.specs.Prelude.{filter}
use Rattle.std.specs.List.Sorted.{IsPermutation}
use Rattle.std.proofs.lemmas.Bool.{cases_Bool}
use Rattle.heap_space.specs.Memory.{Memory}
use Rattle.heap_space.specs.Places.{has}
use Rattle.heap_space.specs.Extents.{Extent, Each}
use Rattle.heap_space.proofs.ExtentLaws.{Each-map}
use Rattle.large_objects.proofs.Same.{Each-same, filter-same, same-permutation, permutation-same}
use Rattle.object_view.proofs.SpaceLaws.{lies-at}
use Rattle.size_pages.specs.Headers.{AppendsLive, RiseByPlace}
use Rattle.old_space.specs.HasBlocks.{HasBlocks, IsBlock}
use Rattle.old_space.specs.declared.Old.{Old}
use Rattle.old_space.proofs.JoinLaws.{HasBlocks-blocks}
use Rattle.heap_phases.specs.Ending.{AreDead, AreReadable, is_dead_in}

-- what follows where a call was done
pub on_ok : {T E P Q : Type 0} (r : Result T E) → (P → Q) → OnOk r P → OnOk r Q
on_ok (Ok u) f p = f p
on_ok (Err e) f p = tt

pub if_ok : {T E : Type 0} {P Q : T → Type 0} (r : Result T E) → ((x : T) → P x → Q x) → IfOk r P → IfOk r Q
if_ok (Ok x) f p = f x p
if_ok (Err e) f p = tt

-- each of some blocks is, where each of the same in another order is
pub each_permuted : (P : Extent → Type 0) (xs ys : List Extent) → IsPermutation xs ys → Each P xs → Each P ys
each_permuted P xs ys same all = Each-same P xs ys (same-permutation xs ys same) all

-- those that pass are the same in another order
pub passing_permuted : (test : Extent → Bool) (xs ys : List Extent) → IsPermutation xs ys → IsPermutation (filter test xs) (filter test ys)
passing_permuted test xs ys same = permutation-same (filter test xs) (filter test ys) (filter-same test xs ys (same-permutation xs ys same))

-- the first words of live blocks can be read, in whichever order they are listed
pub live_readable : (old : Old) (m : Memory) (live listed : List Extent) (waiting : List ℕ) → HasBlocks old m live waiting → AppendsLive [] listed live → AreReadable m listed
live_readable old m live listed waiting has_blocks listing =
    subst (λ (xs : List Extent). AreReadable m xs) (sym listing.is) (each_permuted (λ x. IsTrue (has m.blocks x.0)) live listing.appended listing.same (Each-map (IsBlock m) (λ x. IsTrue (has m.blocks x.0))
    (λ x b. let wide = b.wide in lies-at m.blocks x.0 x.1 x.0 b.lies (omega arith) (omega (arith, wide))) live (HasBlocks-blocks old m live waiting has_blocks)))

-- of blocks by rising place those that pass are so too
each-filtered : (P : Extent → Type 0) (test : Extent → Bool) (xs : List Extent) → Each P xs → Each P (filter test xs)
each-filtered P test [] all = tt
each-filtered P test (x ∷ xs) all = elim (cases_Bool (test x)) [
  | inl e ↦ rw e (all.0, each-filtered P test xs all.1)
  | inr e ↦ rw e (each-filtered P test xs all.1)
]

rise-filtered : (test : Extent → Bool) (xs : List Extent) → RiseByPlace xs → RiseByPlace (filter test xs)
rise-filtered test [] rise = tt
rise-filtered test (x ∷ xs) rise = elim (cases_Bool (test x)) [
  | inl e ↦ rw e (each-filtered (λ y. x.0 < y.0) test xs rise.0, rise-filtered test xs rise.1)
  | inr e ↦ rw e (rise-filtered test xs rise.1)
]

pub dead_listed : (m : Memory) (live listed dead : List Extent) → AppendsLive [] listed live → dead ≡ filter (is_dead_in m) listed → AreDead m live dead
dead_listed m live listed dead listing e = record {
  just = subst (λ (xs : List Extent). IsPermutation (filter (is_dead_in m) live) xs) (sym (e ∙ ap (filter (is_dead_in m)) listing.is)) (passing_permuted (is_dead_in m) live listing.appended listing.same);
  rising = subst RiseByPlace (sym (e ∙ ap (filter (is_dead_in m)) listing.is)) (rise-filtered (is_dead_in m) listing.appended listing.rising);
}
