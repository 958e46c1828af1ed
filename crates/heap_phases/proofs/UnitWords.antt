-- The words of the blocks of a page that waits: they are at most those of the page, and none of the blocks is large.
use Rattle.std.proofs.Common.{◌≡◌, ℕ, suc, ◌+◌, ◌*◌, ◌≤◌, ◌<◌, Bool, true, false, List, [], ◌∷◌, ◌++◌, map, length, IsTrue, refl, sym, subst, inl, inr, arith}
use Rattle.std.specs.Prelude.{sum_by, filter, if◌then◌else◌}
use Rattle.std.proofs.lemmas.Bool.{cases_Bool}
use Rattle.std.proofs.lemmas.Bool.Decides.{eqb_tells, nat_tests}
use Rattle.std.proofs.lemmas.List.Sums.{sum_by-cons}
use Rattle.std.proofs.lemmas.List.Sorted.{sum_by-IsPermutation}
use Rattle.heap_space.specs.Memory.{Memory}
use Rattle.heap_space.specs.Extents.{Extent, Each}
use Rattle.heap_space.proofs.ExtentLaws.{Each-map, Each-right}
use Rattle.size_pages.specs.PageWords.{word_in}
use Rattle.size_pages.specs.PageBlocks.{PageHolds}
use Rattle.size_pages.specs.LiveBlocks.{page_at, in_page, blocks_of}
use Rattle.size_pages.specs.HasBlocks as pages
use Rattle.size_pages.specs.declared.Pages.{Pages}
use Rattle.object_model.proofs.Members.{is_in-head, is_in-tail}
use Rattle.object_model.specs.Sets.{is_in}
use Rattle.old_space.specs.HasBlocks.{HasBlocks}
use Rattle.old_space.specs.declared.Old.{Old}
use Rattle.old_space.proofs.JoinLaws.{HasBlocks-each, larges-above}
use Rattle.heap_phases.proofs.UnitOffers.{PageUnit}
use Rattle.size_pages.specs.HasBlocks.{greatest_block, page_count}
use Rattle.old_space.specs.HasBlocks.{page_size}

-- a number where the test passes, and nothing else
abbrev pub where_passes : (Extent → Bool) → Extent → ℕ
where_passes test x = if test x then x.1 else 0

sum-where : (test : Extent → Bool) (xs : List Extent) → sum_by (where_passes test) xs ≡ sum_by (λ x. x.1) (filter test xs)
sum-where test [] = refl
sum-where test (x ∷ xs) =
    let more = sum-where test xs in let whole = sum_by-cons (where_passes test) x xs in
    elim (cases_Bool (test x)) [
      | inl e ↦
          let here : where_passes test x ≡ x.1 = rw e refl in
          let one : sum_by (λ (y : Extent). y.1) (filter test (x ∷ xs)) ≡ x.1 + sum_by (λ (y : Extent). y.1) (filter test xs) = rw e (sum_by-cons (λ (y : Extent). y.1) x (filter test xs)) in
          omega (arith, more, whole, here, one)
      | inr e ↦
          let here : where_passes test x ≡ 0 = rw e refl in
          let one : sum_by (λ (y : Extent). y.1) (filter test (x ∷ xs)) ≡ sum_by (λ (y : Extent). y.1) (filter test xs) = rw e refl in
          omega (arith, more, whole, here, one)
    ]

pub sum_none : (test : Extent → Bool) (xs : List Extent) → Each (λ x. test x ≡ false) xs → sum_by (where_passes test) xs ≡ 0
sum_none test [] all = refl
sum_none test (x ∷ xs) all =
    let more = sum_none test xs all.1 in let whole = sum_by-cons (where_passes test) x xs in let here : where_passes test x ≡ 0 = rw all.0 refl in omega (arith, more, whole, here)

pub sum_append : (f : Extent → ℕ) (xs ys : List Extent) → sum_by f (xs ++ ys) ≡ sum_by f xs + sum_by f ys
sum_append f [] ys = omega arith
sum_append f (x ∷ xs) ys =
    let more = sum_append f xs ys in let one = sum_by-cons f x xs in let all = sum_by-cons f x (xs ++ ys) in omega (arith, more, one, all)

-- the blocks at some places
pub sum_placed : (block : ℕ → Extent) (test : Extent → Bool) (passes : ℕ → Bool) (ps : List ℕ) → ((p : ℕ) → IsTrue (is_in p ps) → test (block p) ≡ passes p)
    → sum_by (where_passes test) (map block ps) ≡ sum_by (λ p. (block p).1) (filter passes ps)
sum_placed block test passes [] same = refl
sum_placed block test passes (p ∷ ps) same =
    let more = sum_placed block test passes ps (λ q t. same q (is_in-tail q p ps t)) in
    let whole = sum_by-cons (where_passes test) (block p) (map block ps) in
    let at = same p (is_in-head p ps) in
    elim (cases_Bool (passes p)) [
      | inl e ↦
          let here : where_passes test (block p) ≡ (block p).1 = rw (at, e) refl in
          let one : sum_by (λ (q : ℕ). (block q).1) (filter passes (p ∷ ps)) ≡ (block p).1 + sum_by (λ (q : ℕ). (block q).1) (filter passes ps) =
          rw e (sum_by-cons (λ (q : ℕ). (block q).1) p (filter passes ps)) in
          omega (arith, more, whole, here, one)
      | inr e ↦
          let here : where_passes test (block p) ≡ 0 = rw (at, e) refl in
          let one : sum_by (λ (q : ℕ). (block q).1) (filter passes (p ∷ ps)) ≡ sum_by (λ (q : ℕ). (block q).1) (filter passes ps) = rw e refl in
          omega (arith, more, whole, here, one)
    ]

same-sum : (n : ℕ) (xs : List Extent) → Each (λ x. x.1 ≡ n) xs → sum_by (λ x. x.1) xs ≡ length xs * n
same-sum n [] all = (let none : 0 * n ≡ 0 = grind arith in sym none)
same-sum n (x ∷ xs) all =
    let more = same-sum n xs all.1 in let whole = sum_by-cons (λ (y : Extent). y.1) x xs in let first = all.0 in
    let rest : suc (length xs) * n ≡ length xs * n + n = grind arith in omega (arith, more, whole, first, rest)

each-passed : (P : Extent → Type 0) (test : Extent → Bool) (xs : List Extent) → Each P (filter test xs) → Each (λ x. test x ≡ true → P x) xs
each-passed P test [] all = tt
each-passed P test (x ∷ xs) all = elim (cases_Bool (test x)) [
  | inl e ↦ let both : P x × Each P (filter test xs) = rw e at all in (λ t. both.0, each-passed P test xs both.1)
  | inr e ↦ let rest : Each P (filter test xs) = rw e at all in (λ t. absurd (let no : ⊥ = cc in no), each-passed P test xs rest)
]

-- the blocks of one page
pub record PageWords (size most : ℕ) (live : List Extent) : Type 0 where
  pub sum : sum_by (λ x. x.1) live ≤ size
  pub each : Each (λ x. x.1 ≤ most) live

page-words : (p : Pages) (m : Memory) (live : List Extent) (waiting : List ℕ) (k : ℕ) → pages.HasBlocks p m live waiting → k < page_count p
    → PageWords (pages.page_size p) (greatest_block p) (blocks_of (pages.page_size p) (page_at (pages.page_size p) k) live)
page-words p m live waiting k h below =
    let is = h.blocks.pages k below in
    elim (eqb_tells (word_in m (page_at (pages.page_size p) k)) 0) [
      | inl e ↦ subst (λ (xs : List Extent). PageWords (pages.page_size p) (greatest_block p) xs) (sym (is.unused e.1)) (record { sum = omega arith; each = tt })
      | inr e ↦ used (blocks_of (pages.page_size p) (page_at (pages.page_size p) k) live) is.free (is.holds e.1) (h.classes.small k below)
    ]
  where
    used : (xs free : List Extent) → PageHolds (word_in m) (pages.page_size p) (page_at (pages.page_size p) k) free xs → word_in m (page_at (pages.page_size p) k) ≤ greatest_block p → PageWords (pages.page_size p) (greatest_block p) xs
    used xs free holds most =
        let n : ℕ = word_in m (page_at (pages.page_size p) k) in
        let same : Each (λ x. x.1 ≡ n) xs = Each-map _ (λ x. x.1 ≡ n) (λ x b. b.0) xs (Each-right _ free xs holds.blocks) in
        let sum = same-sum n xs same in
        let all = holds.all in let high = holds.fresh_high in
        let parts : (length free + length xs) * n ≡ length free * n + length xs * n = distribute (length free) (length xs) n in
        record {
          sum = omega (arith, sum, all, high, parts);
          each = Each-map (λ x. x.1 ≡ n) (λ x. x.1 ≤ greatest_block p) (λ x e. omega (arith, e, most)) xs same;
        }
      where
        distribute : (a b c : ℕ) → (a + b) * c ≡ a * c + b * c
        distribute a b c = grind arith

-- the blocks in the page, among all
pub record UnitFew (old : Old) (unit : ℕ) (live : List Extent) : Type 0 where
  pub sum : sum_by (where_passes (in_page (page_size old) unit)) live ≤ page_size old
  pub each : Each (λ x. in_page (page_size old) unit x ≡ true → x.1 ≤ old.small) live

pub page_few : (old : Old) (m : Memory) (live : List Extent) (unit : ℕ) (rest : List ℕ) → HasBlocks old m live (unit ∷ rest) → PageUnit old unit → UnitFew old unit live
page_few old m live unit rest h p =
    let test : Extent → Bool = in_page (page_size old) unit in
    let one = page-words old.pages m h.small h.waiting_pages p.number h.in_pages p.below in
    let here : PageWords (page_size old) (greatest_block old.pages) (filter (in_page (page_size old) unit) h.small) =
    subst (λ (u : ℕ). PageWords (page_size old) (greatest_block old.pages) (filter (in_page (page_size old) u) h.small)) (sym p.is) one in
    let out : Each (λ x. in_page (page_size old) unit x ≡ false) h.large = Each-map (λ x. 1099511627776 ≤ x.0) (λ x. in_page (page_size old) unit x ≡ false) (λ x l. above x l) h.large
    (larges-above old.large m h.large h.waiting_blocks h.in_larges) in
    let moved = sum_by-IsPermutation (where_passes (in_page (page_size old) unit)) (h.small ++ h.large) live h.same in
    let joined = sum_append (where_passes (in_page (page_size old) unit)) h.small h.large in
    let smalls = sum-where (in_page (page_size old) unit) h.small in
    let none = sum_none (in_page (page_size old) unit) h.large out in
    let most = here.sum in
    record {
      sum = omega (arith, moved, joined, smalls, none, most);
      each = HasBlocks-each (λ x. in_page (page_size old) unit x ≡ true → x.1 ≤ old.small) old m live (unit ∷ rest) h
          (Each-map (λ x. in_page (page_size old) unit x ≡ true → x.1 ≤ greatest_block old.pages) (λ x. in_page (page_size old) unit x ≡ true → x.1 ≤ old.small)
          (λ x f t. let l = f t in let g = h.greatest in omega (arith, l, g)) h.small (each-passed (λ x. x.1 ≤ greatest_block old.pages) (in_page (page_size old) unit) h.small here.each))
          (Each-map (λ x. in_page (page_size old) unit x ≡ false) (λ x. in_page (page_size old) unit x ≡ true → x.1 ≤ old.small) (λ x e t. absurd (let no : ⊥ = cc in no)) h.large out);
    }
  where
    above : (x : Extent) → 1099511627776 ≤ x.0 → in_page (page_size old) unit x ≡ false
    above x high = let end = p.end in grind (arith, nat_tests)
