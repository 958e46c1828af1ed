-- What the old space offers of its waiting units: each waits once, and a block is of the unit that it lies in.
use Rattle.std.proofs.Common.{◌≡◌, ℕ, ◌+◌, ◌≤◌, ◌<◌, ◌⊎◌, Bool, true, false, List, [], ◌∷◌, ◌++◌, length, length-append, refl, sym, ap, ◌∙◌, subst, inl, inr, arith}
use Rattle.std.specs.Prelude.{◌==◌, nat_lt, filter}
use Rattle.std.proofs.lemmas.Bool.{cases_Bool, eq-eqb, ne_eqb}
use Rattle.std.proofs.lemmas.Bool.Decides.{eqb_tells, nat_tests}
use Rattle.heap_space.specs.Memory.{Memory}
use Rattle.heap_space.specs.Extents.{Extent, Each}
use Rattle.heap_space.proofs.ExtentLaws.{Each-map, Each-both}
use Rattle.size_pages.specs.LiveBlocks.{page_at, in_page, IsInPages}
use Rattle.size_pages.specs.PageLists.{EachPlace, IsPage}
use Rattle.size_pages.specs.Calls.{page_of}
use Rattle.size_pages.proofs.GiveLaws.{page_number}
use Rattle.old_space.specs.HasBlocks.{HasBlocks}
use Rattle.old_space.specs.Sweeping.{in_unit, units_left}
use Rattle.old_space.specs.declared.Old.{Old}
use Rattle.old_space.proofs.JoinLaws.{HasBlocks-each, larges-above}
use Rattle.old_space.proofs.PartLaws.{pages-below}
use Rattle.old_space.proofs.SweepLaws.{waiting-ends}
use Rattle.old_space.proofs.WaitLaws.{blocks-above}
use Rattle.heap_parts.specs.OldSpace.{unit_at}
use Rattle.object_model.specs.Sets.{is_in}
use Rattle.large_objects.specs.Blocks.{larges_of, AreRising, places_of}
use Rattle.heap_space.specs.Extents.{begins_between}
use Rattle.size_pages.specs.HasBlocks.{IsRising}
use Rattle.size_pages.specs.HasBlocks.{page_count}
use Rattle.old_space.specs.HasBlocks.{page_size}

-- a waiting unit is a page, or the place of a large block
pub record PageUnit (old : Old) (unit : ℕ) : Type 0 where
  pub number : ℕ
  pub below : number < page_count old.pages
  pub is : unit ≡ page_at (page_size old) number
  pub end : unit + page_size old ≤ 1099511627776

first-of : (P : ℕ → Type 0) (unit : ℕ) (rest wp wb : List ℕ) → unit ∷ rest ≡ wp ++ wb → EachPlace P wb → (EachPlace P wp) → P unit
first-of P unit rest [] [] e b a = absurd (let no : ⊥ = cc in no)
first-of P unit rest [] (q ∷ wb) e b a = let same : unit ≡ q = cc in subst P (sym same) b.0
first-of P unit rest (q ∷ wp) wb e b a = let same : unit ≡ q = cc in subst P (sym same) a.0

each-either : (P Q : ℕ → Type 0) (xs : List ℕ) → ((x : ℕ) → P x → Q x) → EachPlace P xs → EachPlace Q xs
each-either P Q [] f a = tt
each-either P Q (x ∷ xs) f a = (f x a.0, each-either P Q xs f a.1)

each-two : (P Q R : ℕ → Type 0) (xs : List ℕ) → ((x : ℕ) → P x → Q x → R x) → EachPlace P xs → EachPlace Q xs → EachPlace R xs
each-two P Q R [] f a b = tt
each-two P Q R (x ∷ xs) f a b = (f x a.0 b.0, each-two P Q R xs f a.1 b.1)

pub unit_kind : (old : Old) (m : Memory) (live : List Extent) (unit : ℕ) (rest : List ℕ) → HasBlocks old m live (unit ∷ rest) → PageUnit old unit ⊎ (1099511627776 ≤ unit)
unit_kind old m live unit rest h =
    first-of (λ u. PageUnit old u ⊎ (1099511627776 ≤ u)) unit rest h.waiting_pages h.waiting_blocks h.waits
    (each-either (λ q. 1099511627776 ≤ q) _ h.waiting_blocks (λ x l. inr l) (blocks-above old.large m h.large h.waiting_blocks h.in_larges))
    (each-two (IsPage (page_size old) (page_count old.pages)) (λ q. q + page_size old ≤ 1099511627776) _ h.waiting_pages
    (λ x p e. inl (record { number = p.number; below = p.below; is = p.is; end = e }))
    (subst (λ (xs : List ℕ). EachPlace (IsPage (page_size old) (page_count old.pages)) xs) h.in_pages.lists.waits (h.in_pages.lists.pages 1))
    (waiting-ends old.pages m h.small h.waiting_pages h.in_pages))

-- the two places of a page
module _ (old : Old) (unit : ℕ) (x : Extent) (wide : 64 ≤ page_size old) where
  abbrev size : ℕ
  size = page_size old

  abbrev Tells : Type 0
  Tells = in_unit old unit x ≡ (unit_at (page_size old) x.0 == unit)

  small-of : x.0 < 1099511627776 → unit_at (page_size old) x.0 ≡ page_of (page_size old) x.0
  small-of l = let is : nat_lt x.0 1099511627776 ≡ true = grind (arith, nat_tests) in rw is refl

  large-of : 1099511627776 ≤ x.0 → unit_at (page_size old) x.0 ≡ x.0
  large-of l = let is : nat_lt x.0 1099511627776 ≡ false = grind (arith, nat_tests) in rw is refl

  pub page-test : PageUnit old unit → in_unit old unit x ≡ in_page (page_size old) unit x
  page-test p = let l = p.end in let is : nat_lt unit 1099511627776 ≡ true = grind (arith, nat_tests) in rw is refl

  pub large-test : 1099511627776 ≤ unit → in_unit old unit x ≡ (x.0 == unit)
  large-test l = let is : nat_lt unit 1099511627776 ≡ false = grind (arith, nat_tests) in rw is refl

  small-tells : PageUnit old unit → IsInPages (page_size old) (page_count old.pages) x → x.0 < 1099511627776 → Tells
  small-tells p i low =
      let inner = i.low in let outer = i.high in let two = i.wide in
      let mine : page_of (page_size old) x.0 ≡ page_at (page_size old) i.page = ap (page_at (page_size old)) (page_number (page_size old) i.page x.0 wide (omega (arith, inner)) (omega (arith, outer, two))) in
      let at : unit_at (page_size old) x.0 ≡ page_at (page_size old) i.page = small-of low ∙ mine in
      page-test p ∙ (elim (cases_Bool (in_page (page_size old) unit x)) [
        | inl t ↦
            let low_u : unit ≤ x.0 = grind (arith, nat_tests) in
            let high_u : x.0 < unit + page_size old = grind (arith, nat_tests) in
            let k : page_of (page_size old) x.0 ≡ page_at (page_size old) p.number = ap (page_at (page_size old)) (page_number (page_size old) p.number x.0 wide (let e = p.is in omega (arith, low_u, e)) (let e = p.is in omega (arith, high_u, e))) in
            t ∙ sym (eq-eqb (unit_at (page_size old) x.0) unit (small-of low ∙ (k ∙ sym p.is)))
        | inr f ↦ elim (eqb_tells (unit_at (page_size old) x.0) unit) [
          | inl e ↦ absurd (
              let same : unit ≡ page_at (page_size old) i.page = sym e.1 ∙ at in
              let yes : in_page (page_size old) unit x ≡ true = inside (omega (arith, inner, same)) (omega (arith, outer, two, same)) in let no : ⊥ = cc in no)
          | inr e ↦ f ∙ sym e.0
        ]
      ])
    where
      inside : unit ≤ x.0 → x.0 < unit + page_size old → in_page (page_size old) unit x ≡ true
      inside l r = grind (arith, nat_tests)

  large-tells : PageUnit old unit → 1099511627776 ≤ x.0 → Tells
  large-tells p high =
      let end = p.end in
      let out : in_page (page_size old) unit x ≡ false = grind (arith, nat_tests) in
      page-test p ∙ (out ∙ sym (ap (λ (k : ℕ). k == unit) (large-of high) ∙ ne_eqb x.0 unit (λ e. absurd (let no : ⊥ = omega (arith, e, high, end, wide) in no))))

  block-tells : 1099511627776 ≤ unit → 1099511627776 ≤ x.0 → Tells
  block-tells u high = large-test u ∙ ap (λ (k : ℕ). k == unit) (sym (large-of high))

  other-tells : 1099511627776 ≤ unit → x.0 < 1099511627776 → page_of (page_size old) x.0 ≤ x.0 → Tells
  other-tells u low below =
      large-test u ∙ (ne_eqb x.0 unit (λ e. absurd (let no : ⊥ = omega (arith, e, u, low) in no))
      ∙ sym (ap (λ (k : ℕ). k == unit) (small-of low) ∙ ne_eqb (page_of (page_size old) x.0) unit (λ e. absurd (let no : ⊥ = omega (arith, e, u, low, below) in no))))

-- the clause `units`
pub units_tell : (old : Old) (m : Memory) (live : List Extent) (unit : ℕ) (rest : List ℕ) → HasBlocks old m live (unit ∷ rest)
    → Each (λ x. in_unit old unit x ≡ (unit_at (page_size old) x.0 == unit)) live
units_tell old m live unit rest h =
    let wide = h.in_pages.blocks.size_low in
    let kind = unit_kind old m live unit rest h in
    HasBlocks-each (λ x. in_unit old unit x ≡ (unit_at (page_size old) x.0 == unit)) old m live (unit ∷ rest) h
    (Each-both (IsInPages (page_size old) (page_count old.pages)) (λ x. x.0 + x.1 ≤ 1099511627776) (λ x. in_unit old unit x ≡ (unit_at (page_size old) x.0 == unit))
    (λ x i e. let low : x.0 < 1099511627776 = (let two = i.wide in omega (arith, e, two)) in elim kind [
      | inl p ↦ small-tells old unit x wide p i low
      | inr u ↦ other-tells old unit x wide u low (let inner = i.low in let outer = i.high in let two = i.wide in
          let mine : page_of (page_size old) x.0 ≡ page_at (page_size old) i.page = ap (page_at (page_size old)) (page_number (page_size old) i.page x.0 wide (omega (arith, inner)) (omega (arith, outer, two))) in omega (arith, mine, inner))
    ]) h.small h.in_pages.blocks.inside (pages-below old.pages m h.small h.waiting_pages h.in_pages))
    (Each-map (λ x. 1099511627776 ≤ x.0) (λ x. in_unit old unit x ≡ (unit_at (page_size old) x.0 == unit))
    (λ x l. elim kind [ inl p ↦ large-tells old unit x wide p l | inr u ↦ block-tells old unit x wide u l ]) h.large (larges-above old.large m h.large h.waiting_blocks h.in_larges))

-- the number of units that wait
pub units_counted : (old : Old) (m : Memory) (live : List Extent) (waiting : List ℕ) → HasBlocks old m live waiting → units_left old ≡ length waiting
units_counted old m live waiting h =
    let a = h.in_pages.waits in let b = h.in_larges.counted in let all = ap (length {A = ℕ}) h.waits in let both = length-append h.waiting_pages h.waiting_blocks in omega (arith, a, b, all, both)

-- each unit waits once

above-out : (unit : ℕ) (xs : List ℕ) → EachPlace (λ q. unit < q) xs → is_in unit xs ≡ false
above-out unit [] all = refl
above-out unit (x ∷ xs) all = let l = all.0 in rw (ne_eqb x unit (λ e. absurd (let no : ⊥ = omega (arith, e, l) in no))) (above-out unit xs all.1)

each-joined : (P : ℕ → Type 0) (xs ys : List ℕ) → EachPlace P xs → EachPlace P ys → EachPlace P (xs ++ ys)
each-joined P [] ys a b = b
each-joined P (x ∷ xs) ys a b = (a.0, each-joined P xs ys a.1 b)

-- those behind the first of large blocks that wait lie above it
later-above : (test : Extent → Bool) (xs : List Extent) (unit : ℕ) (rest : List ℕ) → AreRising xs → Each (λ x. 2 ≤ x.1) xs → places_of (filter test xs) ≡ unit ∷ rest → EachPlace (λ q. unit < q) rest
later-above test [] unit rest rise wide e = absurd (let no : ⊥ = cc in no)
later-above test (x ∷ xs) unit rest rise wide e = go (test x) refl (later-above test xs unit rest rise.1 wide.1) e
  where
    above : (ys : List Extent) → Each (λ y. x.0 + x.1 ≤ y.0) ys → EachPlace (λ q. x.0 < q) (places_of (filter test ys))
    above [] all = tt
    above (y ∷ ys) all = let l = all.0 in let two = wide.0 in elim (cases_Bool (test y)) [
      | inl t ↦ rw t (omega (arith, l, two), above ys all.1)
      | inr t ↦ rw t (above ys all.1)
    ]

    go : (b : Bool) → test x ≡ b → (places_of (filter test xs) ≡ unit ∷ rest → EachPlace (λ q. unit < q) rest) → places_of (filter test (x ∷ xs)) ≡ unit ∷ rest → EachPlace (λ q. unit < q) rest
    go false t more e = more (rw t at e)
    go true t more e =
        let whole : x.0 ∷ places_of (filter test xs) ≡ unit ∷ rest = rw t at e in
        let first : x.0 ≡ unit = cc in let others : places_of (filter test xs) ≡ rest = cc in
        subst (λ (qs : List ℕ). EachPlace (λ q. unit < q) qs) others (subst (λ (u : ℕ). EachPlace (λ q. u < q) (places_of (filter test xs))) first (above xs rise.0))

pub waits_once : (old : Old) (m : Memory) (live : List Extent) (unit : ℕ) (rest : List ℕ) → HasBlocks old m live (unit ∷ rest) → is_in unit rest ≡ false
waits_once old m live unit rest h =
    go h.waiting_pages h.waiting_blocks h.waits h.in_pages.rising
    (blocks-above old.large m h.large h.waiting_blocks h.in_larges) (waiting-ends old.pages m h.small h.waiting_pages h.in_pages)
    (λ rest2 e. later-above (begins_between old.large.wait_from old.large.wait_end) (larges_of m) unit rest2 h.in_larges.rising h.in_larges.wide (sym h.in_larges.waits ∙ e))
  where
    go : (wp wb : List ℕ) → unit ∷ rest ≡ wp ++ wb → IsRising wp → EachPlace (λ q. 1099511627776 ≤ q) wb → EachPlace (λ q. q + page_size old ≤ 1099511627776) wp
        → ((rest2 : List ℕ) → wb ≡ unit ∷ rest2 → EachPlace (λ q. unit < q) rest2) → is_in unit rest ≡ false
    go [] wb e rise above ends later = above-out unit rest (later rest (sym e))
    go (q ∷ wp) wb e rise above ends later =
        let first : unit ≡ q = cc in let others : rest ≡ wp ++ wb = cc in
        let wide = h.in_pages.blocks.size_low in let end = ends.0 in
        above-out unit rest (subst (λ (qs : List ℕ). EachPlace (λ q. unit < q) qs) (sym others) (each-joined (λ k. unit < k) wp wb
        (subst (λ (u : ℕ). EachPlace (λ k. u < k) wp) (sym first) rise.0)
        (each-either (λ k. 1099511627776 ≤ k) (λ k. unit < k) wb (λ k l. omega (arith, l, end, first, wide)) above)))
