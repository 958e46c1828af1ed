-- What `give_back` leaves, by the part that the block is of.
use Rattle.std.proofs.Common.{inl, inr, ◌≡◌, ℕ, ◌+◌, ◌<◌, ◌≤◌, ◌⊎◌, true, false, nat_lt, not, List, [], ◌∷◌, ◌++◌, refl, sym, ap, ◌∙◌, arith, subst, append_assoc}
use Rattle.std.specs.Prelude.{filter, ◌==◌}
use Rattle.std.proofs.lemmas.Bool.Decides.{nat_tests}
use Rattle.std.proofs.lemmas.List.Elements.{filter-append}
use Rattle.heap_space.specs.Memory.{Memory, without_large}
use Rattle.heap_space.specs.Extents.{Extent, begins_between, KeepsOutside, KeepsWords}
use Rattle.heap_space.proofs.ExtentLaws.{Each-join}
use Rattle.size_pages.specs.HasBlocks as pages
use Rattle.size_pages.specs.PageWords.{IsInArenas}
use Rattle.size_pages.specs.PageLists.{EachPlace}
use Rattle.size_pages.specs.declared.Pages.{Pages}
use Rattle.size_pages.proofs.OrderLaws.{HasBlocks_front}
use Rattle.large_objects.specs.Blocks.{without_place}
use Rattle.large_objects.specs.Large as larges
use Rattle.large_objects.specs.declared.Large.{Large}
use Rattle.large_objects.proofs.Same.{Same, Splits, Each-same, same-permutation, permutation-same, same-splits, same-out}
use Rattle.large_objects.proofs.PlaceLaws.{splits-first, Each-splits}
use Rattle.large_objects.proofs.LargeLaws as large_laws
use Rattle.old_space.specs.HasBlocks.{HasBlocks, IsLive}
use Rattle.old_space.specs.Calls.{still_waiting}
use Rattle.old_space.specs.declared.Old.{Old}
use Rattle.old_space.proofs.PartLaws.{pages-kept, larges-kept, pages-below, waiting-below}
use Rattle.old_space.proofs.JoinLaws.{larges-above, HasBlocks-first}
use Rattle.old_space.proofs.Narrow.{kept-below, kept-above}
use Rattle.size_pages.specs.HasBlocks.{greatest_block}

-- changes of words within the arenas
pub outside-arenas : (m now : Memory) → IsInArenas m now → KeepsOutside 4294967296 1099511627776 m now
outside-arenas m now i = record {
  below = record { blocks = ap (λ (xs : List Extent). filter (begins_between 0 4294967296) xs) i.extents; words = λ a low high out. i.words a (inl high) };
  above = λ end. record {
    blocks = ap (λ (xs : List Extent). filter (begins_between 1099511627776 end) xs) i.extents;
    words = λ a low high out. i.words a (inr low);
  };
}

-- which part a block is of

splits-later : (x y : Extent) (ys : List Extent) → Splits x ys → Splits x (y ∷ ys)
splits-later x y ys s = record { front = y ∷ s.front; back = s.back; is = ap (λ (zs : List Extent). y ∷ zs) s.is }

splits-here : (x y : Extent) (ys : List Extent) → y ≡ x → Splits x (y ∷ ys)
splits-here x y ys e = record { front = []; back = ys; is = ap (λ (z : Extent). z ∷ ys) e }

splits-append : (x : Extent) (xs ys : List Extent) → Splits x (xs ++ ys) → Splits x xs ⊎ Splits x ys
splits-append x [] ys s = inr s
splits-append x (z ∷ xs) ys s = elim (splits-first x z (xs ++ ys) s) [
  | inl e ↦ inl (splits-here x z xs e)
  | inr r ↦ elim (splits-append x xs ys r) [ inl a ↦ inl (splits-later x z xs a) | inr b ↦ inr b ]
]

pub in-small : (old : Old) (m : Memory) (x : Extent) (live : List Extent) (waiting : List ℕ) (h : HasBlocks old m (x ∷ live) waiting)
    → x.0 < 1099511627776 → Splits x h.small
in-small old m x live waiting h low =
    let s = same-permutation (h.small ++ h.large) (x ∷ live) h.same in
    elim (splits-append x h.small h.large (same-splits x (h.small ++ h.large) live s)) [
      | inl a ↦ a
      | inr b ↦ (let above = Each-splits (λ y. 1099511627776 ≤ y.0) x h.large b (larges-above old.large m h.large h.waiting_blocks h.in_larges) in
          absurd (omega arith))
    ]

pub in-large : (old : Old) (m : Memory) (x : Extent) (live : List Extent) (waiting : List ℕ) (h : HasBlocks old m (x ∷ live) waiting)
    → 1099511627776 ≤ x.0 → 2 ≤ x.1 → Splits x h.large
in-large old m x live waiting h high two =
    let s = same-permutation (h.small ++ h.large) (x ∷ live) h.same in
    elim (splits-append x h.small h.large (same-splits x (h.small ++ h.large) live s)) [
      | inl a ↦ (let below = Each-splits (λ y. y.0 + y.1 ≤ 1099511627776) x h.small a (pages-below old.pages m h.small h.waiting_pages h.in_pages) in
          absurd (omega arith))
      | inr b ↦ b
    ]

-- the block first among those of its part

pub small-front : (p : Pages) (m : Memory) (x : Extent) (small : List Extent) (w : List ℕ) (s : Splits x small) → pages.HasBlocks p m small w
    → pages.HasBlocks p m (x ∷ (s.front ++ s.back)) w
small-front p m x small w s h = HasBlocks_front p m s.front s.back x w (subst (λ (xs : List Extent). pages.HasBlocks p m xs w) s.is h)

pub large-front : (l : Large) (m : Memory) (x : Extent) (large : List Extent) (w : List ℕ) (s : Splits x large) → larges.HasBlocks l m large w
    → larges.HasBlocks l m (x ∷ (s.front ++ s.back)) w
large-front l m x large w s h = large_laws.HasBlocks_front l m s.front s.back x w (subst (λ (xs : List Extent). larges.HasBlocks l m xs w) s.is h)

-- the others are the live ones

small-others : (x : Extent) (small large live : List Extent) (s : Splits x small) → Same (small ++ large) (x ∷ live)
    → Same ((s.front ++ s.back) ++ large) live
small-others x small large live s same =
    let e : small ++ large ≡ s.front ++ x ∷ (s.back ++ large) =
    ap (λ (xs : List Extent). xs ++ large) s.is ∙ append_assoc s.front (x ∷ s.back) large in
    let out = same-out x s.front (s.back ++ large) live (subst (λ (xs : List Extent). Same xs (x ∷ live)) e same) in
    subst (λ (xs : List Extent). Same xs live) (sym (append_assoc s.front s.back large)) out

large-others : (x : Extent) (small large live : List Extent) (s : Splits x large) → Same (small ++ large) (x ∷ live)
    → Same (small ++ (s.front ++ s.back)) live
large-others x small large live s same =
    let e : small ++ large ≡ (small ++ s.front) ++ x ∷ s.back =
    ap (λ (xs : List Extent). small ++ xs) s.is ∙ sym (append_assoc small s.front (x ∷ s.back)) in
    let out = same-out x (small ++ s.front) s.back live (subst (λ (xs : List Extent). Same xs (x ∷ live)) e same) in
    subst (λ (xs : List Extent). Same xs live) (append_assoc small s.front s.back) out

-- a block of a page

pub given-small : (old : Old) (p : Pages) (m now : Memory) (a n : ℕ) (live : List Extent) (waiting : List ℕ) → a < 1099511627776
    → ((others : List Extent) (w : List ℕ) → pages.HasBlocks old.pages m ((a, n) ∷ others) w → pages.HasBlocks p now others w)
    → IsInArenas m now → greatest_block p ≡ greatest_block old.pages → HasBlocks old m ((a, n) ∷ live) waiting
    → HasBlocks (record { pages = p; large = old.large; small = old.small }) now live (still_waiting a waiting)
given-small old p m now a n live waiting low given arenas size h =
    let s = in-small old m (a, n) live waiting h low in
    let others = s.front ++ s.back in
    let same = small-others (a, n) h.small h.large live s (same-permutation (h.small ++ h.large) ((a, n) ∷ live) h.same) in
    let below : nat_lt a 1099511627776 ≡ true = grind (arith, nat_tests) in
    rw below (record {
      small = others;
      large = h.large;
      waiting_pages = h.waiting_pages;
      waiting_blocks = h.waiting_blocks;
      in_pages = given others h.waiting_pages (small-front old.pages m (a, n) h.small h.waiting_pages s h.in_pages);
      in_larges = larges-kept old.large m now h.large h.waiting_blocks h.in_larges (outside-arenas m now arenas);
      same = permutation-same (others ++ h.large) live same;
      waits = h.waits;
      greatest = size ∙ h.greatest;
    })

-- a large block

without-none : (a : ℕ) (xs : List ℕ) → 1099511627776 ≤ a → EachPlace (λ q. q < 1099511627776) xs → without_place a xs ≡ xs
without-none a [] high all = refl
without-none a (x ∷ xs) high all = let low = all.0 in grind (arith, nat_tests, without-none a xs high all.1)

pub given-large : (old : Old) (l : Large) (m now : Memory) (a n : ℕ) (live : List Extent) (waiting : List ℕ) → 1099511627776 ≤ a → 2 ≤ n
    → ((others : List Extent) (w : List ℕ) → larges.HasBlocks old.large m ((a, n) ∷ others) w → larges.HasBlocks l now others (without_place a w))
    → KeepsOutside 1099511627776 9223372036854775808 m now → now ≡ without_large m a → HasBlocks old m ((a, n) ∷ live) waiting
    → HasBlocks (record { pages = old.pages; large = l; small = old.small }) now live (still_waiting a waiting)
given-large old l m now a n live waiting high two given outside gone h =
    let s = in-large old m (a, n) live waiting h high two in
    let others = s.front ++ s.back in
    let same = large-others (a, n) h.small h.large live s (same-permutation (h.small ++ h.large) ((a, n) ∷ live) h.same) in
    let above : nat_lt a 1099511627776 ≡ false = grind (arith, nat_tests) in
    let left : without_place a waiting ≡ h.waiting_pages ++ without_place a h.waiting_blocks =
    ap (λ (xs : List ℕ). without_place a xs) h.waits
    ∙ filter-append (λ b. not (b == a)) h.waiting_pages h.waiting_blocks
    ∙ ap (λ (xs : List ℕ). xs ++ without_place a h.waiting_blocks)
    (without-none a h.waiting_pages high (waiting-below old.pages m h.small h.waiting_pages h.in_pages)) in
    rw above (record {
      small = h.small;
      large = others;
      waiting_pages = h.waiting_pages;
      waiting_blocks = without_place a h.waiting_blocks;
      in_pages = pages-kept old.pages m now h.small h.waiting_pages h.in_pages (ap (λ (k : Memory). k.next_arena) gone)
          (ap (λ (k : Memory). k.arena_words) gone) outside;
      in_larges = given others h.waiting_blocks (large-front old.large m (a, n) h.large h.waiting_blocks s h.in_larges);
      same = permutation-same (h.small ++ others) live same;
      waits = left;
      greatest = h.greatest;
    })

-- what the part asks

pub live-small : (old : Old) (m : Memory) (a n : ℕ) → a < 1099511627776 → IsLive old m (a, n) → pages.IsLive old.pages m (a, n)
live-small old m a n low is =
    let h = is.blocks in let s = in-small old m (a, n) is.others is.waiting h low in
    record { others = s.front ++ s.back; waiting = h.waiting_pages; fits = small-front old.pages m (a, n) h.small h.waiting_pages s h.in_pages }

pub live-large : (old : Old) (m : Memory) (a n : ℕ) → 1099511627776 ≤ a → IsLive old m (a, n) → larges.IsLive old.large m (a, n)
live-large old m a n high is =
    let h = is.blocks in let b = HasBlocks-first old m (a, n) is.others is.waiting h in
    let s = in-large old m (a, n) is.others is.waiting h high b.wide in
    record { others = s.front ++ s.back; waiting = h.waiting_blocks; blocks = large-front old.large m (a, n) h.large h.waiting_blocks s h.in_larges }

-- no word of the others changes

pub kept-given-small : (old : Old) (m now : Memory) (a n : ℕ) (live : List Extent) (waiting : List ℕ) → a < 1099511627776
    → ((others : List Extent) (w : List ℕ) → pages.HasBlocks old.pages m ((a, n) ∷ others) w → KeepsWords m now others) → IsInArenas m now
    → HasBlocks old m ((a, n) ∷ live) waiting → KeepsWords m now live
kept-given-small old m now a n live waiting low kept arenas h =
    let s = in-small old m (a, n) live waiting h low in
    let others = s.front ++ s.back in
    Each-same _ (others ++ h.large) live (small-others (a, n) h.small h.large live s (same-permutation (h.small ++ h.large) ((a, n) ∷ live) h.same))
    (Each-join _ others h.large (kept others h.waiting_pages (small-front old.pages m (a, n) h.small h.waiting_pages s h.in_pages))
    (kept-above m now h.large (outside-arenas m now arenas) (larges-above old.large m h.large h.waiting_blocks h.in_larges)))

pub kept-given-large : (old : Old) (m now : Memory) (a n : ℕ) (live : List Extent) (waiting : List ℕ) → 1099511627776 ≤ a
    → ((others : List Extent) (w : List ℕ) → larges.HasBlocks old.large m ((a, n) ∷ others) w → KeepsWords m now others)
    → KeepsOutside 1099511627776 9223372036854775808 m now → HasBlocks old m ((a, n) ∷ live) waiting → KeepsWords m now live
kept-given-large old m now a n live waiting high kept outside h =
    let b = HasBlocks-first old m (a, n) live waiting h in
    let s = in-large old m (a, n) live waiting h high b.wide in
    let others = s.front ++ s.back in
    Each-same _ (h.small ++ others) live (large-others (a, n) h.small h.large live s (same-permutation (h.small ++ h.large) ((a, n) ∷ live) h.same))
    (Each-join _ h.small others (kept-below m now h.small outside (pages-below old.pages m h.small h.waiting_pages h.in_pages))
    (kept others h.waiting_blocks (large-front old.large m (a, n) h.large h.waiting_blocks s h.in_larges)))
