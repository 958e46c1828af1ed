-- A unit is swept, whichever part it is of.
use Rattle.std.proofs.Common.{◌≡◌, ℕ, ◌+◌, ◌<◌, ◌≤◌, Bool, true, false, cond, not, ◌&&◌, nat_lt, List, [], ◌∷◌, ◌++◌, map, refl, sym, ap, ◌∙◌, arith, subst, append-nil}
use Rattle.std.specs.Prelude.{filter, ◌==◌}
use Rattle.std.specs.List.Sorted.{IsPermutation}
use Rattle.std.proofs.lemmas.Bool.Decides.{nat_tests}
use Rattle.std.proofs.lemmas.List.{append_cancel_left}
use Rattle.std.proofs.lemmas.List.Elements.{filter-append}
use Rattle.std.proofs.lemmas.List.Sorted.{IsPermutation-map, IsPermutation-trans}
use Rattle.heap_space.specs.Memory.{Memory}
use Rattle.heap_space.specs.Extents.{Extent, Each, IsInside, KeepsWords}
use Rattle.heap_space.proofs.ExtentLaws.{Each-map, Each-both, Each-join, Each-left, Each-right}
use Rattle.object_header.specs.Words.{has_flag, without_flag, IsHeader, survives_sweep}
use Rattle.object_header.specs.declared.flags.Flag.TheVariants.{Free, Visited}
use Rattle.object_header.proofs.WordLaws as header_laws
use Rattle.size_pages.specs.HasBlocks as pages
use Rattle.size_pages.specs.Headers.{IsHeaded}
use Rattle.size_pages.specs.PageWords.{word_in, IsInArenas}
use Rattle.size_pages.specs.PageLists.{EachPlace, IsPage}
use Rattle.size_pages.specs.LiveBlocks.{in_page, page_at}
use Rattle.size_pages.specs.Sweeping as page_sweep
use Rattle.size_pages.specs.Sweeping.{birth_in}
use Rattle.size_pages.specs.declared.Pages.{Pages}
use Rattle.size_pages.proofs.FitLaws.{pages_part}
use Rattle.size_pages.proofs.FrameLaws.{IsBlock}
use Rattle.large_objects.proofs.Rising.{Each-filter}
use Rattle.large_objects.proofs.LargeLaws as large_laws
use Rattle.large_objects.proofs.Same.{Same, Each-same, same-permutation, permutation-same, filter-same}
use Rattle.large_objects.specs.Large as larges
use Rattle.old_space.specs.Sweeping.{in_unit, dies, dead_blocks, kept_blocks, swept_word, SweepsUnit}
use Rattle.old_space.specs.declared.Old.{Old}
use Rattle.old_space.proofs.Narrow.{kept-above}
use Rattle.old_space.proofs.PartLaws.{larges-kept, waiting-below, pages-each}
use Rattle.old_space.proofs.JoinLaws.{larges-above}
use Rattle.old_space.proofs.GiveLaws.{outside-arenas}
use Rattle.size_pages.specs.HasBlocks.{greatest_block, page_count}
use Rattle.old_space.specs.HasBlocks.{page_size}

-- headers stay headers

pub headed-unvisited : (m after : Memory) (x : Extent) → IsHeaded m x → word_in after x.0 ≡ without_flag (word_in m x.0) Visited → IsHeaded after x
headed-unvisited m after x h e = record {
  header = subst (λ (w : ℕ). IsHeader w) (sym e) (header_laws.IsHeader-without_flag (word_in m x.0) Visited h.header);
  live = ap (λ (w : ℕ). has_flag w Free) e ∙ header_laws.has_flag-without_flag_other (word_in m x.0) Visited Free (λ same. cc) ∙ h.live;
}

pub headed-same : (m after : Memory) (x : Extent) → IsHeaded m x → word_in after x.0 ≡ word_in m x.0 → IsHeaded after x
headed-same m after x h e = record {
  header = subst (λ (w : ℕ). IsHeader w) (sym e) h.header;
  live = ap (λ (w : ℕ). has_flag w Free) e ∙ h.live;
}

pub headed-swept : (b : Bool) (m after : Memory) (x : Extent) → IsHeaded m x
    → word_in after x.0 ≡ cond b (without_flag (word_in m x.0) Visited) (word_in m x.0) → IsHeaded after x
headed-swept true m after x h e = headed-unvisited m after x h e
headed-swept false m after x h e = headed-same m after x h e

-- filters of extents

pub filter-none : (t : Extent → Bool) (xs : List Extent) → Each (λ x. t x ≡ false) xs → filter t xs ≡ []
filter-none t [] all = refl
filter-none t (x ∷ xs) all = rw (all.0) (filter-none t xs all.1)

pub filter-all : (t : Extent → Bool) (xs : List Extent) → Each (λ x. t x ≡ true) xs → filter t xs ≡ xs
filter-all t [] all = refl
filter-all t (x ∷ xs) all = rw (all.0) (ap (λ (ys : List Extent). x ∷ ys) (filter-all t xs all.1))

pub filter-alike : (s t : Extent → Bool) (xs : List Extent) → Each (λ x. s x ≡ t x) xs → filter s xs ≡ filter t xs
filter-alike s t [] all = refl
filter-alike s t (x ∷ xs) all = rw (all.0) (ap (λ (ys : List Extent). cond (t x) (x ∷ ys) ys) (filter-alike s t xs all.1))

-- both parts of a list, each filtered in its own way
pub filter-both : (t : Extent → Bool) (small large live left right : List Extent) → Same (small ++ large) live
    → filter t small ≡ left → filter t large ≡ right → Same (left ++ right) (filter t live)
filter-both t small large live left right s l r =
    let e : filter t (small ++ large) ≡ left ++ right =
    filter-append t small large ∙ ap (λ (xs : List Extent). xs ++ filter t large) l ∙ ap (λ (xs : List Extent). left ++ xs) r in
    subst (λ (xs : List Extent). Same xs (filter t live)) e (filter-same t (small ++ large) live s)

-- a page is swept

-- the waiting pages end below the large blocks

ends-each : (size count top : ℕ) (xs : List ℕ) → page_at size count ≤ top → EachPlace (IsPage size count) xs → EachPlace (λ q. q + size ≤ top) xs
ends-each size count top [] high all = tt
ends-each size count top (x ∷ xs) high all =
    let page = all.0 in
    let at : x ≡ page_at size page.number = page.is in
    let part : page_at size page.number + size ≤ page_at size count = pages_part size page.number count page.below in
    (omega arith, ends-each size count top xs high all.1)

pub waiting-ends : (p : Pages) (m : Memory) (small : List Extent) (waiting : List ℕ) → pages.HasBlocks p m small waiting
    → EachPlace (λ q. q + pages.page_size p ≤ 1099511627776) waiting
waiting-ends p m small waiting h =
    let below = h.arenas.below in
    subst (λ (xs : List ℕ). EachPlace (λ q. q + pages.page_size p ≤ 1099511627776) xs) h.lists.waits
    (ends-each (pages.page_size p) (page_count p) 1099511627776 (h.lists.lists 1) (omega arith) (h.lists.pages 1))

page-unit : (old : Old) (unit : ℕ) (x : Extent) → nat_lt unit 1099511627776 ≡ true → in_unit old unit x ≡ in_page (page_size old) unit x
page-unit old unit x is = ap (λ (b : Bool). cond b (in_page (page_size old) unit x) (x.0 == unit)) is

page-dies : (old : Old) (m : Memory) (unit : ℕ) (x : Extent) → nat_lt unit 1099511627776 ≡ true
    → dies old m unit x ≡ page_sweep.dies (word_in m) (page_size old) unit x
page-dies old m unit x is = ap (λ (b : Bool). b && not (survives_sweep (word_in m x.0))) (page-unit old unit x is)

above-page : (size unit : ℕ) (x : Extent) → unit + size ≤ 1099511627776 → 1099511627776 ≤ x.0 → in_page size unit x ≡ false
above-page size unit x end above = grind (arith, nat_tests)

large-lives : (old : Old) (m : Memory) (unit : ℕ) (x : Extent) → nat_lt unit 1099511627776 ≡ true → unit + page_size old ≤ 1099511627776
    → 1099511627776 ≤ x.0 → dies old m unit x ≡ false
large-lives old m unit x is end above =
    page-dies old m unit x is ∙ ap (λ (b : Bool). b && not (survives_sweep (word_in m x.0))) (above-page (page_size old) unit x end above)

large-word : (old : Old) (m : Memory) (unit : ℕ) (x : Extent) (a : ℕ) → nat_lt unit 1099511627776 ≡ true → unit + page_size old ≤ 1099511627776
    → 1099511627776 ≤ x.0 → swept_word old m unit x a ≡ word_in m a
large-word old m unit x a is end above =
    ap (λ (b : Bool). cond (b && (a == x.0)) (without_flag (word_in m a) Visited) (word_in m a))
    (page-unit old unit x is ∙ above-page (page_size old) unit x end above)

each-of : (P : Extent → Type 0) → ((x : Extent) → P x) → (xs : List Extent) → Each P xs
each-of P f [] = tt
each-of P f (x ∷ xs) = (f x, each-of P f xs)

page-word : (old : Old) (m : Memory) (unit : ℕ) (x : Extent) (a : ℕ) → nat_lt unit 1099511627776 ≡ true
    → swept_word old m unit x a ≡ page_sweep.swept_word (word_in m) (page_size old) unit x a
page-word old m unit x a is =
    ap (λ (b : Bool). cond (b && (a == x.0)) (without_flag (word_in m a) Visited) (word_in m a)) (page-unit old unit x is)

-- the headers of both parts
pub headed-parts : (m : Memory) (small large live : List Extent) → Same (small ++ large) live → Each (IsHeaded m) live → Each (IsHeaded m) (small ++ large)
headed-parts m small large live s headed = Each-same (IsHeaded m) live (small ++ large) (record { as_often = λ x. sym (s.as_often x) }) headed

wide-small : (p : Pages) (m : Memory) (small : List Extent) (waiting : List ℕ) → pages.HasBlocks p m small waiting → Each (λ x. 2 ≤ x.1) small
wide-small p m small waiting h = Each-map (IsBlock m (greatest_block p)) (λ x. 2 ≤ x.1) (λ x b. b.wide) small (pages-each p m small waiting h)

-- of the blocks that stay, where word 0 may lose the flag Visited
heads-swept : (t u : Extent → Bool) (m after : Memory) (small : List Extent) → Each (IsHeaded m) small → Each (λ x. 2 ≤ x.1) small
    → Each (λ x. (a : ℕ) → IsInside x a → word_in after a ≡ cond (u x && (a == x.0)) (without_flag (word_in m a) Visited) (word_in m a)) (filter (λ x. not (t x)) small)
    → Each (IsHeaded after) (filter (λ x. not (t x)) small)
heads-swept t u m after small heads wide words =
    let left = filter (λ x. not (t x)) small in
    Each-both (λ x. IsHeaded m x × (2 ≤ x.1))
    (λ x. (a : ℕ) → IsInside x a → word_in after a ≡ cond (u x && (a == x.0)) (without_flag (word_in m a) Visited) (word_in m a)) (IsHeaded after)
    (λ x h f. let two = h.1 in headed-swept (u x && (x.0 == x.0)) m after x h.0 (f x.0 (omega arith, omega arith))) left
    (Each-both (IsHeaded m) (λ x. 2 ≤ x.1) (λ x. IsHeaded m x × (2 ≤ x.1)) (λ x a b. (a, b)) left
    (Each-filter (IsHeaded m) (λ x. not (t x)) small heads) (Each-filter (λ x. 2 ≤ x.1) (λ x. not (t x)) small wide)) words

-- of blocks whose words stay
pub heads-kept : (m after : Memory) (xs : List Extent) → Each (IsHeaded m) xs → Each (λ x. 2 ≤ x.1) xs → KeepsWords m after xs → Each (IsHeaded after) xs
heads-kept m after xs heads wide still =
    Each-both (λ x. IsHeaded m x × (2 ≤ x.1)) (λ x. (a : ℕ) → IsInside x a → word_in after a ≡ word_in m a) (IsHeaded after)
    (λ x h f. let two = h.1 in headed-same m after x h.0 (f x.0 (omega arith, omega arith))) xs
    (Each-both (IsHeaded m) (λ x. 2 ≤ x.1) (λ x. IsHeaded m x × (2 ≤ x.1)) (λ x a b. (a, b)) xs heads wide) still

-- the births of the same blocks
pub freed-alike : (f : Extent → ℕ) (gone dead : List Extent) (births told : List ℕ) → IsPermutation gone (dead ++ []) → told ≡ births
    → IsPermutation (map f dead) told → IsPermutation (map f gone) births
freed-alike f gone dead births told perm same freed =
    let p : IsPermutation gone dead = subst (λ (xs : List Extent). IsPermutation gone xs) (append-nil dead) perm in
    IsPermutation-trans (map f gone) (map f dead) births (IsPermutation-map f gone dead p) (subst (λ (xs : List ℕ). IsPermutation (map f dead) xs) same freed)

page-first : (p : Pages) (m : Memory) (small : List Extent) (unit : ℕ) (rest : List ℕ) → pages.HasBlocks p m small (unit ∷ rest)
    → nat_lt unit 1099511627776 ≡ true
page-first p m small unit rest h =
    let low : unit < 1099511627776 = (waiting-below p m small (unit ∷ rest) h).0 in grind (arith, nat_tests)

pub swept-page : (old : Old) (p : Pages) (m after : Memory) (before now births : List ℕ) (live small large : List Extent) (unit : ℕ) (pages_left blocks_left : List ℕ)
    → page_sweep.SweepsPage p m after (page_size old) small unit pages_left before now → now ≡ before ++ births → IsInArenas m after
    → greatest_block p ≡ greatest_block old.pages → pages.HasBlocks old.pages m small (unit ∷ pages_left) → larges.HasBlocks old.large m large blocks_left
    → IsPermutation (small ++ large) live → greatest_block old.pages ≡ old.small → Each (IsHeaded m) live
    → SweepsUnit old m (record { pages = p; large = old.large; small = old.small }) after births live unit (pages_left ++ blocks_left)
swept-page old p m after before now births live small large unit pages_left blocks_left sw appended arenas size in_pages in_larges perm greatest headed =
    let new : Old = record { pages = p; large = old.large; small = old.small } in
    let w = word_in m in
    let n = page_size old in
    let end : unit + n ≤ 1099511627776 = (waiting-ends old.pages m small (unit ∷ pages_left) in_pages).0 in
    let is = page-first old.pages m small unit pages_left in_pages in
    let whole = same-permutation (small ++ large) live perm in
    let above = larges-above old.large m large blocks_left in_larges in
    let left = page_sweep.kept_blocks w n unit small in
    let dead = page_sweep.dead_blocks w n unit small in
    let kept_small : filter (λ x. not (dies old m unit x)) small ≡ left =
    filter-alike (λ x. not (dies old m unit x)) (λ x. not (page_sweep.dies w n unit x)) small
    (each-of _ (λ x. ap not (page-dies old m unit x is)) small) in
    let kept_large : filter (λ x. not (dies old m unit x)) large ≡ large =
    filter-all (λ x. not (dies old m unit x)) large
    (Each-map (λ x. 1099511627776 ≤ x.0) (λ x. not (dies old m unit x) ≡ true) (λ x a. ap not (large-lives old m unit x is end a)) large above) in
    let dead_small : filter (dies old m unit) small ≡ dead =
    filter-alike (dies old m unit) (page_sweep.dies w n unit) small (each-of _ (λ x. page-dies old m unit x is) small) in
    let dead_large : filter (dies old m unit) large ≡ [] =
    filter-none (dies old m unit) large
    (Each-map (λ x. 1099511627776 ≤ x.0) (λ x. dies old m unit x ≡ false) (λ x a. large-lives old m unit x is end a) large above) in
    let kept : Same (left ++ large) (kept_blocks old m unit live) = filter-both (λ x. not (dies old m unit x)) small large live left large whole kept_small kept_large in
    let gone : Same (dead ++ []) (dead_blocks old m unit live) = filter-both (dies old m unit) small large live dead [] whole dead_small dead_large in
    let outside = outside-arenas m after arenas in
    let still = kept-above m after large outside above in
    let heads_small = Each-left (IsHeaded m) small large (headed-parts m small large live whole headed) in
    let heads_large = Each-right (IsHeaded m) small large (headed-parts m small large live whole headed) in
    record {
      has = record {
        blocks = record {
          small = left;
          large = large;
          waiting_pages = pages_left;
          waiting_blocks = blocks_left;
          in_pages = sw.fits;
          in_larges = larges-kept old.large m after large blocks_left in_larges outside;
          same = permutation-same (left ++ large) (kept_blocks old m unit live) kept;
          waits = refl;
          greatest = size ∙ greatest;
        };
        headed = Each-same (IsHeaded after) (left ++ large) (kept_blocks old m unit live) kept
            (Each-join (IsHeaded after) left large
            (heads-swept (page_sweep.dies w n unit) (in_page n unit) m after small heads_small (wide-small old.pages m small (unit ∷ pages_left) in_pages) sw.words)
            (heads-kept m after large heads_large (large_laws.HasBlocks-wide old.large m large blocks_left in_larges) still));
      };
      freed = freed-alike (birth_in w) (dead_blocks old m unit live) dead births sw.births
          (permutation-same (dead_blocks old m unit live) (dead ++ []) (record { as_often = λ x. sym (gone.as_often x) }))
          (append_cancel_left before sw.births births (sym sw.appended ∙ appended)) sw.freed;
      words = Each-same (λ x. (a : ℕ) → IsInside x a → word_in after a ≡ swept_word old m unit x a) (left ++ large) (kept_blocks old m unit live) kept
          (Each-join (λ x. (a : ℕ) → IsInside x a → word_in after a ≡ swept_word old m unit x a) left large
          (Each-map (λ x. (a : ℕ) → IsInside x a → word_in after a ≡ page_sweep.swept_word w n unit x a)
          (λ x. (a : ℕ) → IsInside x a → word_in after a ≡ swept_word old m unit x a)
          (λ x f a i. f a i ∙ sym (page-word old m unit x a is)) left sw.words)
          (Each-both (λ x. 1099511627776 ≤ x.0) (λ x. (a : ℕ) → IsInside x a → word_in after a ≡ word_in m a)
          (λ x. (a : ℕ) → IsInside x a → word_in after a ≡ swept_word old m unit x a)
          (λ x high f a i. f a i ∙ sym (large-word old m unit x a is end high)) large above still));
    }
