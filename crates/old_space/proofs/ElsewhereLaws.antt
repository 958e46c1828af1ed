-- A block that was taken lies in no waiting unit.
use Rattle.std.proofs.Common.{inl, inr, ◌≡◌, ◌≢◌, ℕ, ◌+◌, ◌-◌, ◌*◌, ◌/◌, ◌<◌, ◌≤◌, ◌⊎◌, true, false, nat_lt, List, ◌∷◌, ◌++◌, Result, Ok, Err, IfOk, refl, sym, ap, ◌∙◌, arith, subst}
use Rattle.std.specs.Prelude.{filter}
use Rattle.std.specs.List.{Contains}
use Rattle.std.specs.declared.alloc.AllocError.{AllocError}
use Rattle.std.proofs.lemmas.Bool.Decides.{nat_tests}
use Rattle.std.proofs.lemmas.List.Elements.{Contains-append_cases}
use Rattle.heap_space.specs.Memory.{Memory}
use Rattle.heap_space.specs.Extents.{Extent, Each, IsApart, begins_between}
use Rattle.heap_space.proofs.ExtentLaws.{Each-both}
use Rattle.size_pages.specs.HasBlocks as pages
use Rattle.size_pages.specs.PageLists.{EachPlace}
use Rattle.size_pages.specs.Calls.{page_of, IsInNone}
use Rattle.size_pages.proofs.FrameLaws.{HasBlocks_first}
use Rattle.large_objects.specs.Blocks.{larges_of}
use Rattle.large_objects.specs.Large as larges
use Rattle.large_objects.specs.declared.Large.{Large}
use Rattle.large_objects.proofs.Rising.{Each-filter}
use Rattle.large_objects.proofs.LargeLaws as large_laws
use Rattle.large_objects.proofs.Same.{Same, Each-same, same-permutation}
use Rattle.old_space.specs.HasBlocks.{HasBlocks}
use Rattle.old_space.specs.Calls.{unit_of, IsElsewhere}
use Rattle.old_space.specs.declared.Old.{Old}
use Rattle.old_space.proofs.PartLaws.{waiting-below}
use Rattle.old_space.proofs.JoinLaws.{larges-above}
use Rattle.old_space.proofs.WaitLaws.{each-contains, places-each, blocks-above, page-low}
use Rattle.old_space.specs.HasBlocks.{page_size}

-- a place lies in its page
page-high : (size a : ℕ) → 0 < size → 4294967296 ≤ a → a < page_of size a + size
page-high size a some low =
    let k = a - 4294967296 in
    let part : k < k / size * size + size = grind (arith) in
    omega arith

pub small-elsewhere : (old new : Old) (m now : Memory) (n : ℕ) (r : Result ℕ AllocError) (live : List Extent) (waiting : List ℕ)
    → page_size new ≡ page_size old
    → ((small : List Extent) (w : List ℕ) → pages.HasBlocks old.pages m small w → IfOk r (λ a. pages.HasBlocks new.pages now ((a, n) ∷ small) w))
    → ((small : List Extent) (w : List ℕ) → pages.HasBlocks old.pages m small w → IfOk r (IsInNone (page_size old) w))
    → HasBlocks old m live waiting → IfOk r (IsElsewhere new waiting)
small-elsewhere old new m now n (Err e) live waiting size taken none h = tt
small-elsewhere old new m now n (Ok a) live waiting size taken none h = λ told.
    let b = HasBlocks_first new.pages now a n h.small h.waiting_pages (taken h.small h.waiting_pages h.in_pages) in
    let high = b.high in let wide = b.wide in let from = b.low in
    let some = h.in_pages.blocks.size_low in
    let is : nat_lt a 1099511627776 ≡ true = grind (arith, nat_tests) in
    let u = page_of (page_size old) a in
    let unit : unit_of new a ≡ u = (let e : unit_of new a ≡ page_of (page_size new) a = rw is refl in e) ∙ ap (λ (k : ℕ). page_of k a) size in
    let low : u ≤ a = page-low (page_size old) a (omega arith) (omega arith) in
    let end : a < u + page_size old = page-high (page_size old) a (omega arith) (omega arith) in
    let here : Contains (h.waiting_pages ++ h.waiting_blocks) u =
    subst (λ (ws : List ℕ). Contains ws u) h.waits (subst (λ (k : ℕ). Contains waiting k) unit told) in
    elim (Contains-append_cases h.waiting_pages h.waiting_blocks u here) [
      | inl p ↦ elim (each-contains (λ q. (a < q) ⊎ (q + page_size old ≤ a)) u h.waiting_pages (none h.small h.waiting_pages h.in_pages) p) [
        | inl x ↦ omega arith
        | inr x ↦ omega arith
      ]
      | inr q ↦ (let above = each-contains (λ k. 1099511627776 ≤ k) u h.waiting_blocks (blocks-above old.large m h.large h.waiting_blocks h.in_larges) q in omega arith)
    ]

-- a large block is none of those that wait
none-waits : (l : Large) (m : Memory) (a : ℕ) (large : List Extent) (w : List ℕ) → larges.HasBlocks l m large w → Each (λ x. x.0 ≢ a) large
    → EachPlace (λ q. q ≢ a) w
none-waits l m a large w h other =
    let back : Same large (larges_of m) = record { as_often = λ x. let s = same-permutation (larges_of m) large h.same in sym (s.as_often x) } in
    subst (λ (ws : List ℕ). EachPlace (λ q. q ≢ a) ws) (sym h.waits)
    (places-each (λ q. q ≢ a) (filter (begins_between l.wait_from l.wait_end) (larges_of m))
    (Each-filter (λ x. x.0 ≢ a) (begins_between l.wait_from l.wait_end) (larges_of m) (Each-same (λ x. x.0 ≢ a) large (larges_of m) back other)))

pub large-elsewhere : (old new : Old) (m now : Memory) (n : ℕ) (r : Result ℕ AllocError) (live : List Extent) (waiting : List ℕ)
    → ((large : List Extent) (w : List ℕ) → larges.HasBlocks old.large m large w → IfOk r (λ a. larges.HasBlocks new.large now ((a, n) ∷ large) w))
    → HasBlocks old m live waiting → IfOk r (IsElsewhere new waiting)
large-elsewhere old new m now n (Err e) live waiting taken h = tt
large-elsewhere old new m now n (Ok a) live waiting taken h = λ told.
    let g = taken h.large h.waiting_blocks h.in_larges in
    let above = larges-above new.large now ((a, n) ∷ h.large) h.waiting_blocks g in
    let high : 1099511627776 ≤ a = above.0 in
    let is : nat_lt a 1099511627776 ≡ false = grind (arith, nat_tests) in
    let unit : unit_of new a ≡ a = rw is refl in
    let apart = large_laws.HasBlocks-apart new.large now ((a, n) ∷ h.large) h.waiting_blocks g in
    let wide = large_laws.HasBlocks-wide new.large now ((a, n) ∷ h.large) h.waiting_blocks g in
    let two = wide.0 in
    let other : Each (λ x. x.0 ≢ a) h.large =
    Each-both (IsApart (a, n)) (λ x. 2 ≤ x.1) (λ x. x.0 ≢ a)
    (λ x away w. λ same. elim away [ inl p ↦ omega (arith, same) | inr q ↦ omega (arith, same) ]) h.large apart.0 wide.1 in
    let here : Contains (h.waiting_pages ++ h.waiting_blocks) a =
    subst (λ (ws : List ℕ). Contains ws a) h.waits (subst (λ (k : ℕ). Contains waiting k) unit told) in
    elim (Contains-append_cases h.waiting_pages h.waiting_blocks a here) [
      | inl p ↦ (let below = each-contains (λ q. q < 1099511627776) a h.waiting_pages (waiting-below old.pages m h.small h.waiting_pages h.in_pages) p in omega arith)
      | inr q ↦ each-contains (λ k. k ≢ a) a h.waiting_blocks (none-waits old.large m a h.large h.waiting_blocks h.in_larges other) q refl
    ]
