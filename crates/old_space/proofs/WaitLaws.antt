-- Which units wait.
use Rattle.std.proofs.Common.{inl, inr, ◌≡◌, ℕ, ◌-◌, ◌*◌, ◌/◌, ◌<◌, ◌≤◌, ◌⊎◌, true, false, nat_lt, IsTrue, List, [], ◌∷◌, refl, sym, ap, ◌∙◌, arith, subst, get_or, Bool}
use Rattle.std.specs.Prelude.{filter}
use Rattle.std.specs.List.{Contains}
use Rattle.std.proofs.lemmas.Bool.Decides.{nat_tests}
use Rattle.std.proofs.lemmas.List.Elements.{Contains-append_left, Contains-append_right, Contains-append_cases}
use Rattle.heap_space.specs.Memory.{Memory}
use Rattle.heap_space.specs.Extents.{Extent, Each, begins_between}
use Rattle.heap_space.proofs.ExtentLaws.{Each-map}
use Rattle.size_pages.specs.PageLists.{EachPlace, IsIn}
use Rattle.size_pages.specs.Calls as page_calls
use Rattle.size_pages.specs.Calls.{page_of}
use Rattle.large_objects.specs.Blocks.{larges_of, places_of}
use Rattle.large_objects.specs.Large as larges
use Rattle.large_objects.specs.declared.Large.{Large}
use Rattle.large_objects.proofs.Rising.{Each-filter}
use Rattle.large_objects.proofs.LargeLaws.{larges-within}
use Rattle.old_space.specs.HasBlocks.{HasBlocks}
use Rattle.old_space.specs.Calls.{unit_of, BeginsLive}
use Rattle.old_space.specs.declared.Old.{Old}
use Rattle.old_space.proofs.PartLaws.{waiting-below}
use Rattle.old_space.proofs.JoinLaws.{HasBlocks-first}
use Rattle.old_space.proofs.GiveLaws.{live-small, live-large}
use Rattle.old_space.specs.HasBlocks.{page_size}

-- the unit of a block

pub unit-page : (old : Old) (a : ℕ) → a < 1099511627776 → unit_of old a ≡ page_of (page_size old) a
unit-page old a low = let is : nat_lt a 1099511627776 ≡ true = grind (arith, nat_tests) in rw is refl

pub unit-large : (old : Old) (a : ℕ) → 1099511627776 ≤ a → unit_of old a ≡ a
unit-large old a high = let is : nat_lt a 1099511627776 ≡ false = grind (arith, nat_tests) in rw is refl

-- membership, in the words of the parts and of std

pub contains-first : (x : ℕ) (xs : List ℕ) → Contains (x ∷ xs) x
contains-first x xs = (0, omega arith, refl)

pub contains-later : (y x : ℕ) (xs : List ℕ) → Contains xs x → Contains (y ∷ xs) x
contains-later y x xs h = Contains-append_right (y ∷ []) xs x h

pub contains-in : (x : ℕ) (xs : List ℕ) → IsIn x xs → Contains xs x
contains-in x [] h = absurd h
contains-in x (y ∷ ys) h = elim h [
  | inl e ↦ subst (λ (z : ℕ). Contains (z ∷ ys) x) e (contains-first x ys)
  | inr r ↦ contains-later y x ys (contains-in x ys r)
]

contains-cases : (x y : ℕ) (ys : List ℕ) → Contains (y ∷ ys) x → (x ≡ y) ⊎ Contains ys x
contains-cases x y ys h = elim (Contains-append_cases (y ∷ []) ys x h) [
  | inl one ↦ (let k = one.1 in let first : one.0 ≡ 0 = omega (arith, k) in
      inl (sym (ap (λ (i : ℕ). get_or (y ∷ []) i x) (sym first) ∙ one.2)))
  | inr rest ↦ inr rest
]

pub in-contains : (x : ℕ) (xs : List ℕ) → Contains xs x → IsIn x xs
in-contains x [] h = (let k = h.1 in absurd (omega (arith, k)))
in-contains x (y ∷ ys) h = elim (contains-cases x y ys h) [ inl e ↦ inl e | inr r ↦ inr (in-contains x ys r) ]

pub each-contains : (P : ℕ → Type 0) (x : ℕ) (xs : List ℕ) → EachPlace P xs → Contains xs x → P x
each-contains P x [] all h = (let k = h.1 in absurd (omega (arith, k)))
each-contains P x (y ∷ ys) all h = elim (contains-cases x y ys h) [
  | inl e ↦ subst P (sym e) all.0
  | inr r ↦ each-contains P x ys all.1 r
]

-- the large blocks that wait lie above the pages

pub places-each : (P : ℕ → Type 0) (xs : List Extent) → Each (λ x. P x.0) xs → EachPlace P (places_of xs)
places-each P [] all = tt
places-each P (x ∷ xs) all = (all.0, places-each P xs all.1)

pub blocks-above : (l : Large) (m : Memory) (large : List Extent) (w : List ℕ) → larges.HasBlocks l m large w
    → EachPlace (λ q. 1099511627776 ≤ q) w
blocks-above l m large w h =
    subst (λ (xs : List ℕ). EachPlace (λ q. 1099511627776 ≤ q) xs) (sym h.waits)
    (places-each (λ q. 1099511627776 ≤ q) (filter (begins_between l.wait_from l.wait_end) (larges_of m))
    (Each-filter (λ x. 1099511627776 ≤ x.0) (begins_between l.wait_from l.wait_end) (larges_of m)
    (Each-map (λ x. (1099511627776 ≤ x.0) × (x.0 < 9223372036854775808)) (λ x. 1099511627776 ≤ x.0) (λ x p. p.0) (larges_of m) (larges-within m))))

pub page-low : (size a : ℕ) → 0 < size → 4294967296 ≤ a → page_of size a ≤ a
page-low size a some low =
    let k = a - 4294967296 in
    let part : k / size * size ≤ k = grind (arith) in
    omega arith

-- a page's block

pub page-waits : (old : Old) (m : Memory) (a : ℕ) (b : Bool) (live : List Extent) (waiting : List ℕ) → a < 1099511627776 → 4294967296 ≤ a
    → (h : HasBlocks old m live waiting) → (IsTrue b → IsIn (page_of (page_size old) a) h.waiting_pages) × (IsIn (page_of (page_size old) a) h.waiting_pages → IsTrue b)
    → (IsTrue b → Contains waiting (unit_of old a)) × (Contains waiting (unit_of old a) → IsTrue b)
page-waits old m a b live waiting high low h both =
    let u = page_of (page_size old) a in
    let is : nat_lt a 1099511627776 ≡ true = grind (arith, nat_tests) in
    let wide = h.in_pages.blocks.size_low in
    let below : u ≤ a = page-low (page_size old) a (omega arith) low in
    rw is (
      (λ yes. subst (λ (ws : List ℕ). Contains ws u) (sym h.waits)
          (Contains-append_left h.waiting_pages h.waiting_blocks u (contains-in u h.waiting_pages (both.0 yes)))),
      (λ told. elim (Contains-append_cases h.waiting_pages h.waiting_blocks u (subst (λ (ws : List ℕ). Contains ws u) h.waits told)) [
        | inl p ↦ both.1 (in-contains u h.waiting_pages p)
        | inr q ↦ (let above = each-contains (λ r. 1099511627776 ≤ r) u h.waiting_blocks (blocks-above old.large m h.large h.waiting_blocks h.in_larges) q in
            absurd (omega arith))
      ]),
    )

-- a large block

pub large-waits : (old : Old) (m : Memory) (a : ℕ) (b : Bool) (live : List Extent) (waiting : List ℕ) → 1099511627776 ≤ a
    → (h : HasBlocks old m live waiting) → (IsTrue b → Contains h.waiting_blocks a) × (Contains h.waiting_blocks a → IsTrue b)
    → (IsTrue b → Contains waiting (unit_of old a)) × (Contains waiting (unit_of old a) → IsTrue b)
large-waits old m a b live waiting low h both =
    let is : nat_lt a 1099511627776 ≡ false = grind (arith, nat_tests) in
    rw is (
      (λ yes. subst (λ (ws : List ℕ). Contains ws a) (sym h.waits) (Contains-append_right h.waiting_pages h.waiting_blocks a (both.0 yes))),
      (λ told. elim (Contains-append_cases h.waiting_pages h.waiting_blocks a (subst (λ (ws : List ℕ). Contains ws a) h.waits told)) [
        | inl p ↦ (let below = each-contains (λ r. r < 1099511627776) a h.waiting_pages (waiting-below old.pages m h.small h.waiting_pages h.in_pages) p in
            absurd (omega arith))
        | inr q ↦ both.1 q
      ]),
    )

-- what the parts ask

pub begins-small : (old : Old) (m : Memory) (a : ℕ) → a < 1099511627776 → BeginsLive old m a → page_calls.BeginsLive old.pages m a
begins-small old m a low b = record { words = b.words; live = live-small old m a b.words low b.live }

pub begins-large : (old : Old) (m : Memory) (a : ℕ) → 1099511627776 ≤ a → BeginsLive old m a → (n : ℕ) × larges.IsLive old.large m (a, n)
begins-large old m a high b = (b.words, live-large old m a b.words high b.live)

pub begins-low : (old : Old) (m : Memory) (a : ℕ) → BeginsLive old m a → 4294967296 ≤ a
begins-low old m a b = (HasBlocks-first old m (a, b.words) b.live.others b.live.waiting b.live.blocks).low
