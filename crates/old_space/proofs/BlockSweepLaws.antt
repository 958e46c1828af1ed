-- A large block is swept.
use Rattle.std.proofs.Common.{inl, inr, ◌≡◌, ◌≢◌, ℕ, ◌+◌, ◌<◌, ◌≤◌, ◌⊎◌, Bool, true, false, cond, not, ◌&&◌, ◌||◌, nat_lt, List, [], ◌∷◌, ◌++◌, map, refl, sym, ap, ◌∙◌, arith, subst, append-nil}
use Rattle.std.specs.Prelude.{filter, ◌==◌}
use Rattle.std.specs.List.Sorted.{IsPermutation}
use Rattle.std.proofs.lemmas.Bool.{cases_Bool, cases_eq}
use Rattle.std.proofs.lemmas.Bool.Decides.{nat_tests}
use Rattle.std.proofs.lemmas.List.Elements.{filter-append}
use Rattle.std.proofs.lemmas.List.Sorted.{IsPermutation-refl}
use Rattle.heap_space.specs.Places.{word_at, has}
use Rattle.heap_space.specs.Memory.{Memory, without_large}
use Rattle.heap_space.specs.Order.{IsInOrder}
use Rattle.heap_space.specs.Extents.{Extent, Each, IsApart, IsInside, AreApart, KeepsOutside}
use Rattle.heap_space.proofs.Blocks.{word_at-here, word_at-elsewhere}
use Rattle.heap_space.proofs.ExtentLaws.{Each-map, Each-both, Each-join, Each-left, Each-right, Each-out, Each-into, AreApart-out}
use Rattle.object_header.specs.Words.{has_flag, without_flag, survives_sweep}
use Rattle.object_header.specs.declared.flags.Flag.TheVariants.{Visited, Shadow}
use Rattle.size_pages.specs.HasBlocks as pages
use Rattle.size_pages.specs.Headers.{IsHeaded}
use Rattle.size_pages.specs.PageWords.{word_in}
use Rattle.size_pages.specs.Sweeping.{birth_in}
use Rattle.size_pages.proofs.FrameLaws.{IsBlock}
use Rattle.large_objects.specs.Blocks.{larges_of, begin_elsewhere}
use Rattle.large_objects.specs.Large as larges
use Rattle.large_objects.specs.Sweep.{unvisited, swept, left_over, freed_births}
use Rattle.large_objects.specs.declared.Large.{Large}
use Rattle.large_objects.proofs.Rising.{Each-filter}
use Rattle.large_objects.proofs.LargeLaws as large_laws
use Rattle.large_objects.proofs.NextLaws as next_laws
use Rattle.large_objects.proofs.PlaceLaws.{word_at-dropped}
use Rattle.large_objects.proofs.Same.{Same, Splits, Each-same, same-permutation, permutation-same, same-splits, count, count-middle}
use Rattle.old_space.specs.Sweeping.{in_unit, dies, dead_blocks, kept_blocks, swept_word, SweepsUnit}
use Rattle.old_space.specs.declared.Old.{Old}
use Rattle.old_space.proofs.Narrow.{kept-below}
use Rattle.old_space.proofs.PartLaws.{pages-kept, pages-each, pages-below}
use Rattle.old_space.proofs.SweepLaws.{headed-swept, heads-kept, headed-parts, filter-none, filter-all, filter-both, freed-alike}
use Rattle.size_pages.specs.HasBlocks.{greatest_block}

-- the block that is swept, among the others

pub record IsFirst (m : Memory) (large : List Extent) (unit : ℕ) : Type 0 where
  pub words : ℕ
  pub front : List Extent
  pub back : List Extent
  pub is : large ≡ front ++ (unit, words) ∷ back
  pub wide : 2 ≤ words
  pub low : 1099511627776 ≤ unit
  pub high : unit < 9223372036854775808
  pub splits : Splits (unit, words) (larges_of m)
  -- the others share no word with it
  pub apart : Each (IsApart (unit, words)) (front ++ back)

-- what stands in one list stands in the other
split-same : (x : Extent) (xs ys : List Extent) → Same xs ys → Splits x xs → Splits x ys
split-same x xs ys s at =
    let back : Same ys (x ∷ (at.front ++ at.back)) = record { as_often = λ z. sym (s.as_often z) ∙ ap (λ (zs : List Extent). count z zs) at.is ∙ count-middle z x at.front at.back } in
    same-splits x ys (at.front ++ at.back) back

pub first-large : (l : Large) (m : Memory) (large : List Extent) (unit : ℕ) (rest : List ℕ) → larges.HasBlocks l m large (unit ∷ rest)
    → IsFirst m large unit
first-large l m large unit rest h =
    let b = next_laws.next-block l m unit (record { live = large; waiting = rest; blocks = h }) in
    let w = next_laws.block-within m unit b in
    let x : Extent = (unit, b.words) in
    let s : Splits x large = split-same x (larges_of m) large (same-permutation (larges_of m) large h.same) b.splits in
    let apart = large_laws.HasBlocks-apart l m large (unit ∷ rest) h in
    let out : AreApart (x ∷ (s.front ++ s.back)) = AreApart-out s.front s.back x (subst (λ (xs : List Extent). AreApart xs) s.is apart) in
    record { words = b.words; front = s.front; back = s.back; is = s.is; wide = b.wide; low = w.0; high = w.1; splits = b.splits; apart = out.0 }

-- which blocks go

unit-block : (old : Old) (unit : ℕ) (x : Extent) → 1099511627776 ≤ unit → in_unit old unit x ≡ (x.0 == unit)
unit-block old unit x low = let is : nat_lt unit 1099511627776 ≡ false = grind (arith, nat_tests) in rw is refl

-- a block elsewhere stays
other-lives : (old : Old) (m : Memory) (unit : ℕ) (x : Extent) → 1099511627776 ≤ unit → x.0 ≢ unit → dies old m unit x ≡ false
other-lives old m unit x low other =
    ap (λ (b : Bool). b && not (survives_sweep (word_in m x.0))) (unit-block old unit x low) ∙ (let no : (x.0 == unit) ≡ false = grind (arith, nat_tests) in rw no refl)

-- the block itself goes where it is not kept
self-dies : (old : Old) (m : Memory) (unit : ℕ) (x : Extent) → 1099511627776 ≤ unit → x.0 ≡ unit → dies old m unit x ≡ not (survives_sweep (word_at m.blocks unit))
self-dies old m unit x low same =
    ap (λ (b : Bool). b && not (survives_sweep (word_in m x.0))) (unit-block old unit x low)
    ∙ (let yes : (x.0 == unit) ≡ true = grind (arith, nat_tests) in rw yes refl)
    ∙ ap (λ (a : ℕ). not (survives_sweep (word_in m a))) same

others-apart : (unit n : ℕ) (x : Extent) → 2 ≤ n → 2 ≤ x.1 → IsApart (unit, n) x → x.0 ≢ unit
others-apart unit n x two wide away same = elim away [ inl a ↦ omega (arith, same) | inr b ↦ omega (arith, same) ]

-- a word of a block elsewhere stays
other-word : (old : Old) (m : Memory) (unit : ℕ) (x : Extent) (a : ℕ) → 1099511627776 ≤ unit → x.0 ≢ unit → swept_word old m unit x a ≡ word_in m a
other-word old m unit x a low other =
    ap (λ (b : Bool). cond (b && (a == x.0)) (without_flag (word_in m a) Visited) (word_in m a))
    (unit-block old unit x low ∙ (let no : (x.0 == unit) ≡ false = grind (arith, nat_tests) in no))

self-word : (old : Old) (m : Memory) (unit n a : ℕ) → 1099511627776 ≤ unit
    → swept_word old m unit (unit, n) a ≡ cond (a == unit) (without_flag (word_in m a) Visited) (word_in m a)
self-word old m unit n a low =
    ap (λ (b : Bool). cond (b && (a == unit)) (without_flag (word_in m a) Visited) (word_in m a))
    (unit-block old unit (unit, n) low ∙ (let yes : (unit == unit) ≡ true = grind (arith, nat_tests) in yes))

-- filters that differ at one

filter-out : (t : Extent → Bool) (front back : List Extent) (x : Extent) → Each (λ y. t y ≡ true) (front ++ back) → t x ≡ false
    → filter t (front ++ x ∷ back) ≡ front ++ back
filter-out t front back x all out =
    filter-append t front (x ∷ back)
    ∙ ap (λ (xs : List Extent). xs ++ filter t (x ∷ back)) (filter-all t front (Each-left _ front back all))
    ∙ ap (λ (xs : List Extent). front ++ xs) (rw out (filter-all t back (Each-right _ front back all)))

filter-one : (t : Extent → Bool) (front back : List Extent) (x : Extent) → Each (λ y. t y ≡ false) (front ++ back) → t x ≡ true
    → filter t (front ++ x ∷ back) ≡ x ∷ []
filter-one t front back x none one =
    filter-append t front (x ∷ back)
    ∙ ap (λ (xs : List Extent). xs ++ filter t (x ∷ back)) (filter-none t front (Each-left _ front back none))
    ∙ rw one (ap (λ (xs : List Extent). x ∷ xs) (filter-none t back (Each-right _ front back none)))

-- the large blocks that stay still have headers
heads-left : (old : Old) (m after : Memory) (unit : ℕ) (large left : List Extent) → filter (λ x. not (dies old m unit x)) large ≡ left
    → Each (IsHeaded m) large → Each (λ x. 2 ≤ x.1) large
    → Each (λ x. (a : ℕ) → IsInside x a → word_in after a ≡ swept_word old m unit x a) left → Each (IsHeaded after) left
heads-left old m after unit large left e heads wide words =
    let t : Extent → Bool = λ x. not (dies old m unit x) in
    let h : Each (IsHeaded m) left = subst (λ (xs : List Extent). Each (IsHeaded m) xs) e (Each-filter (IsHeaded m) t large heads) in
    let w : Each (λ x. 2 ≤ x.1) left = subst (λ (xs : List Extent). Each (λ x. 2 ≤ x.1) xs) e (Each-filter (λ x. 2 ≤ x.1) t large wide) in
    Each-both (λ x. IsHeaded m x × (2 ≤ x.1)) (λ x. (a : ℕ) → IsInside x a → word_in after a ≡ swept_word old m unit x a) (IsHeaded after)
    (λ x p f. let two = p.1 in headed-swept (in_unit old unit x && (x.0 == x.0)) m after x p.0 (f x.0 (omega arith, omega arith))) left
    (Each-both (IsHeaded m) (λ x. 2 ≤ x.1) (λ x. IsHeaded m x × (2 ≤ x.1)) (λ x a b. (a, b)) left h w) words

-- what was swept, put together from both parts
swept-parts : (old : Old) (l : Large) (m after : Memory) (births : List ℕ) (live small large left dead : List Extent) (unit : ℕ) (rest : List ℕ)
    → 1099511627776 ≤ unit → pages.HasBlocks old.pages m small [] → larges.HasBlocks old.large m large (unit ∷ rest)
    → larges.HasBlocks l after left rest → KeepsOutside 1099511627776 9223372036854775808 m after → after.next_arena ≡ m.next_arena
    → after.arena_words ≡ m.arena_words → IsPermutation (small ++ large) live → greatest_block old.pages ≡ old.small → Each (IsHeaded m) live
    → filter (λ x. not (dies old m unit x)) large ≡ left → filter (dies old m unit) large ≡ dead
    → IsPermutation (map (birth_in (word_in m)) dead) births
    → Each (λ x. (a : ℕ) → IsInside x a → word_in after a ≡ swept_word old m unit x a) left
    → SweepsUnit old m (record { pages = old.pages; large = l; small = old.small }) after births live unit rest
swept-parts old l m after births live small large left dead unit rest low in_pages in_larges now outside next words_same perm greatest headed kept_large dead_large freed words =
    let new : Old = record { pages = old.pages; large = l; small = old.small } in
    let whole = same-permutation (small ++ large) live perm in
    let below = pages-below old.pages m small [] in_pages in
    let wide : Each (λ x. 2 ≤ x.1) small = Each-map (IsBlock m (greatest_block old.pages)) (λ x. 2 ≤ x.1) (λ x b. b.wide) small (pages-each old.pages m small [] in_pages) in
    let other : Each (λ x. x.0 ≢ unit) small =
    Each-both (λ x. x.0 + x.1 ≤ 1099511627776) (λ x. 2 ≤ x.1) (λ x. x.0 ≢ unit) (λ x b w. λ same. omega (arith, same)) small below wide in
    let kept_small : filter (λ x. not (dies old m unit x)) small ≡ small =
    filter-all (λ x. not (dies old m unit x)) small
    (Each-map (λ x. x.0 ≢ unit) (λ x. not (dies old m unit x) ≡ true) (λ x o. ap not (other-lives old m unit x low o)) small other) in
    let dead_small : filter (dies old m unit) small ≡ [] =
    filter-none (dies old m unit) small (Each-map (λ x. x.0 ≢ unit) (λ x. dies old m unit x ≡ false) (λ x o. other-lives old m unit x low o) small other) in
    let kept : Same (small ++ left) (kept_blocks old m unit live) = filter-both (λ x. not (dies old m unit x)) small large live small left whole kept_small kept_large in
    let gone : Same dead (dead_blocks old m unit live) = filter-both (dies old m unit) small large live [] dead whole dead_small dead_large in
    let still = kept-below m after small outside below in
    let heads_small = Each-left (IsHeaded m) small large (headed-parts m small large live whole headed) in
    let heads_large = Each-right (IsHeaded m) small large (headed-parts m small large live whole headed) in
    let W : Extent → Type 0 = λ x. (a : ℕ) → IsInside x a → word_in after a ≡ swept_word old m unit x a in
    record {
      has = record {
        blocks = record {
          small = small;
          large = left;
          waiting_pages = [];
          waiting_blocks = rest;
          in_pages = pages-kept old.pages m after small [] in_pages next words_same outside;
          in_larges = now;
          same = permutation-same (small ++ left) (kept_blocks old m unit live) kept;
          waits = refl;
          greatest = greatest;
        };
        headed = Each-same (IsHeaded after) (small ++ left) (kept_blocks old m unit live) kept
            (Each-join (IsHeaded after) small left (heads-kept m after small heads_small wide still)
            (heads-left old m after unit large left kept_large heads_large (large_laws.HasBlocks-wide old.large m large (unit ∷ rest) in_larges) words));
      };
      freed = freed-alike (birth_in (word_in m)) (dead_blocks old m unit live) dead births births
          (subst (λ (xs : List Extent). IsPermutation (dead_blocks old m unit live) xs) (sym (append-nil dead))
          (permutation-same (dead_blocks old m unit live) dead (record { as_often = λ x. sym (gone.as_often x) })))
          refl freed;
      words = Each-same W (small ++ left) (kept_blocks old m unit live) kept
          (Each-join W small left
          (Each-both (λ x. x.0 ≢ unit) (λ x. (a : ℕ) → IsInside x a → word_in after a ≡ word_in m a) W
          (λ x o f a i. f a i ∙ sym (other-word old m unit x a low o)) small other still)
          words);
    }

-- the others begin elsewhere
others-elsewhere : (l : Large) (m : Memory) (large : List Extent) (unit : ℕ) (rest : List ℕ) (h : larges.HasBlocks l m large (unit ∷ rest)) (f : IsFirst m large unit)
    → Each (λ x. x.0 ≢ unit) (f.front ++ f.back)
others-elsewhere l m large unit rest h f =
    let two = f.wide in
    let wide = Each-out (λ x. 2 ≤ x.1) f.front f.back (unit, f.words)
    (subst (λ (xs : List Extent). Each (λ x. 2 ≤ x.1) xs) f.is (large_laws.HasBlocks-wide l m large (unit ∷ rest) h)) in
    Each-both (IsApart (unit, f.words)) (λ x. 2 ≤ x.1) (λ x. x.0 ≢ unit) (λ x away w. others-apart unit f.words x two w away) (f.front ++ f.back) f.apart wide.1

-- a place of another block is none of the block's
apart-place : (unit n : ℕ) (x : Extent) (a : ℕ) → 2 ≤ n → IsApart (unit, n) x → IsInside x a → (a < unit) ⊎ (unit + n ≤ a)
apart-place unit n x a two away inside = elim away [ inl p ↦ inr (let i = inside.0 in omega arith) | inr q ↦ inl (let i = inside.1 in omega arith) ]

-- the block is kept

kept-words : (old : Old) (m : Memory) (unit : ℕ) (large : List Extent) (f : IsFirst m large unit) → has m.blocks unit ≡ true
    → Each (λ x. x.0 ≢ unit) (f.front ++ f.back)
    → Each (λ x. (a : ℕ) → IsInside x a → word_in (unvisited m unit) a ≡ swept_word old m unit x a) large
kept-words old m unit large f there other =
    let v = without_flag (word_at m.blocks unit) Visited in
    let two = f.wide in
    let W : Extent → Type 0 = λ x. (a : ℕ) → IsInside x a → word_in (unvisited m unit) a ≡ swept_word old m unit x a in
    let others : Each W (f.front ++ f.back) =
    Each-both (IsApart (unit, f.words)) (λ x. x.0 ≢ unit) W
    (λ x away o a i.
    let place = apart-place unit f.words x a two away i in
    word_at-elsewhere m.blocks unit v a (λ same. elim place [ inl p ↦ omega (arith, same) | inr q ↦ omega (arith, same) ])
    ∙ sym (other-word old m unit x a f.low o)) (f.front ++ f.back) f.apart other in
    let self : W (unit, f.words) = λ a i. elim (cases_eq a unit) [
      | inl e ↦ (let is : (a == unit) ≡ true = grind (arith, nat_tests) in
          ap (λ (b : ℕ). word_in (unvisited m unit) b) e ∙ word_at-here m.blocks unit v there
          ∙ ap (λ (b : ℕ). without_flag (word_in m b) Visited) (sym e)
          ∙ sym (self-word old m unit f.words a f.low ∙ rw is refl))
      | inr n ↦ (let is : (a == unit) ≡ false = grind (arith, nat_tests) in
          word_at-elsewhere m.blocks unit v a n ∙ sym (self-word old m unit f.words a f.low ∙ rw is refl))
    ] in
    subst (λ (xs : List Extent). Each W xs) (sym f.is) (Each-into W f.front f.back (unit, f.words) self others)

pub swept-kept : (old : Old) (l : Large) (m after : Memory) (births : List ℕ) (live small large : List Extent) (unit : ℕ) (rest : List ℕ)
    → survives_sweep (word_at m.blocks unit) ≡ true → pages.HasBlocks old.pages m small [] → larges.HasBlocks old.large m large (unit ∷ rest)
    → larges.HasBlocks l after (left_over m unit large) rest → after ≡ swept m unit → births ≡ freed_births m unit
    → KeepsOutside 1099511627776 9223372036854775808 m after → IsPermutation (small ++ large) live → greatest_block old.pages ≡ old.small
    → Each (IsHeaded m) live → SweepsUnit old m (record { pages = old.pages; large = l; small = old.small }) after births live unit rest
swept-kept old l m after births live small large unit rest k in_pages in_larges now is told outside perm greatest headed =
    let f = first-large old.large m large unit rest in_larges in
    let other = others-elsewhere old.large m large unit rest in_larges f in
    let there = next_laws.block-has m unit (next_laws.next-block old.large m unit (record { live = large; waiting = rest; blocks = in_larges })) in
    let same : after ≡ unvisited m unit = is ∙ rw k refl in
    let lives : Each (λ x. dies old m unit x ≡ false) large =
    subst (λ (xs : List Extent). Each (λ x. dies old m unit x ≡ false) xs) (sym f.is)
    (Each-into (λ x. dies old m unit x ≡ false) f.front f.back (unit, f.words) (self-dies old m unit (unit, f.words) f.low refl ∙ ap not k)
    (Each-map (λ x. x.0 ≢ unit) (λ x. dies old m unit x ≡ false) (λ x o. other-lives old m unit x f.low o) (f.front ++ f.back) other)) in
    swept-parts old l m after births live small large large [] unit rest f.low in_pages in_larges
    (subst (λ (xs : List Extent). larges.HasBlocks l after xs rest) (let e : left_over m unit large ≡ large = rw k refl in e) now) outside
    (ap (λ (q : Memory). q.next_arena) same) (ap (λ (q : Memory). q.arena_words) same) perm greatest headed
    (filter-all (λ x. not (dies old m unit x)) large (Each-map (λ x. dies old m unit x ≡ false) (λ x. not (dies old m unit x) ≡ true) (λ x e. ap not e) large lives))
    (filter-none (dies old m unit) large lives)
    (subst (λ (xs : List ℕ). IsPermutation [] xs) (sym (told ∙ rw k refl)) (IsPermutation-refl []))
    (subst (λ (q : Memory). Each (λ x. (a : ℕ) → IsInside x a → word_in q a ≡ swept_word old m unit x a) large) (sym same)
    (kept-words old m unit large f there other))

-- the block goes

pub swept-freed : (old : Old) (l : Large) (m after : Memory) (births : List ℕ) (live small large : List Extent) (unit : ℕ) (rest : List ℕ)
    → survives_sweep (word_at m.blocks unit) ≡ false → IsInOrder m → pages.HasBlocks old.pages m small [] → larges.HasBlocks old.large m large (unit ∷ rest)
    → larges.HasBlocks l after (left_over m unit large) rest → after ≡ swept m unit → births ≡ freed_births m unit
    → KeepsOutside 1099511627776 9223372036854775808 m after → IsPermutation (small ++ large) live → greatest_block old.pages ≡ old.small
    → Each (IsHeaded m) live → SweepsUnit old m (record { pages = old.pages; large = l; small = old.small }) after births live unit rest
swept-freed old l m after births live small large unit rest k o in_pages in_larges now is told outside perm greatest headed =
    let f = first-large old.large m large unit rest in_larges in
    let other = others-elsewhere old.large m large unit rest in_larges f in
    let x : Extent = (unit, f.words) in
    let two = f.wide in
    let others : List Extent = f.front ++ f.back in
    let same : after ≡ without_large m unit = is ∙ rw k refl in
    let elsewhere : begin_elsewhere unit large ≡ others =
    ap (λ (xs : List Extent). begin_elsewhere unit xs) f.is
    ∙ filter-out (λ y. not (y.0 == unit)) f.front f.back x
    (Each-map (λ y. y.0 ≢ unit) (λ y. not (y.0 == unit) ≡ true) (λ y n. grind (arith, nat_tests)) others other)
    (let yes' : (unit == unit) ≡ true = grind (arith, nat_tests) in rw yes' refl) in
    let left : left_over m unit large ≡ others = (let e : left_over m unit large ≡ begin_elsewhere unit large = rw k refl in e) ∙ elsewhere in
    let self : dies old m unit x ≡ true = self-dies old m unit x f.low refl ∙ ap not k in
    let lives : Each (λ y. dies old m unit y ≡ false) others =
    Each-map (λ y. y.0 ≢ unit) (λ y. dies old m unit y ≡ false) (λ y n. other-lives old m unit y f.low n) others other in
    swept-parts old l m after births live small large others (x ∷ []) unit rest f.low in_pages in_larges
    (subst (λ (xs : List Extent). larges.HasBlocks l after xs rest) left now) outside
    (ap (λ (q : Memory). q.next_arena) same) (ap (λ (q : Memory). q.arena_words) same) perm greatest headed
    (ap (λ (xs : List Extent). filter (λ y. not (dies old m unit y)) xs) f.is
    ∙ filter-out (λ y. not (dies old m unit y)) f.front f.back x
    (Each-map (λ y. dies old m unit y ≡ false) (λ y. not (dies old m unit y) ≡ true) (λ y e. ap not e) others lives) (ap not self))
    (ap (λ (xs : List Extent). filter (dies old m unit) xs) f.is ∙ filter-one (dies old m unit) f.front f.back x lives self)
    (subst (λ (xs : List ℕ). IsPermutation (word_at m.blocks (unit + 1) ∷ []) xs) (sym (told ∙ rw k refl)) (IsPermutation-refl (word_at m.blocks (unit + 1) ∷ [])))
    (subst (λ (q : Memory). Each (λ y. (a : ℕ) → IsInside y a → word_in q a ≡ swept_word old m unit y a) others) (sym same)
    (Each-both (IsApart x) (λ y. y.0 ≢ unit) (λ y. (a : ℕ) → IsInside y a → word_in (without_large m unit) a ≡ swept_word old m unit y a)
    (λ y away n a i. word_at-dropped m x a o (omega arith) f.splits (apart-place unit f.words y a two away i) ∙ sym (other-word old m unit y a f.low n)) others f.apart other))

-- either way
pub swept-block : (old : Old) (l : Large) (m after : Memory) (births : List ℕ) (live small large : List Extent) (unit : ℕ) (rest : List ℕ)
    → IsInOrder m → pages.HasBlocks old.pages m small [] → larges.HasBlocks old.large m large (unit ∷ rest)
    → larges.HasBlocks l after (left_over m unit large) rest → after ≡ swept m unit → births ≡ freed_births m unit
    → KeepsOutside 1099511627776 9223372036854775808 m after → IsPermutation (small ++ large) live → greatest_block old.pages ≡ old.small
    → Each (IsHeaded m) live → SweepsUnit old m (record { pages = old.pages; large = l; small = old.small }) after births live unit rest
swept-block old l m after births live small large unit rest o in_pages in_larges now is told outside perm greatest headed =
    elim (cases_Bool (survives_sweep (word_at m.blocks unit))) [
      | inl k ↦ swept-kept old l m after births live small large unit rest k in_pages in_larges now is told outside perm greatest headed
      | inr k ↦ swept-freed old l m after births live small large unit rest k o in_pages in_larges now is told outside perm greatest headed
    ]
