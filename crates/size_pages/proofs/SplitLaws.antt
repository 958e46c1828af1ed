-- A live block among the others: which begin below its place, and which behind its end.
use Rattle.std.proofs.Common.{◌≡◌, ℕ, ◌+◌, ◌<◌, ◌≤◌, ◌⊎◌, inl, inr, Bool, cond, nat_lt, List, [], ◌∷◌, ◌++◌, arith, refl, sym, ◌∙◌, ap, subst}
use Rattle.std.proofs.lemmas.Bool.{cases_Bool}
use Rattle.std.proofs.lemmas.Bool.Decides.{nat_tests}
use Rattle.std.specs.List.{filter}
use Rattle.heap_space.specs.Extents.{Extent, Each, IsApart, AreApart}
use Rattle.heap_space.proofs.ExtentLaws.{Each-map, Each-both, Each-left, Each-right, Each-join, AreApart-out}
use Rattle.size_pages.specs.PageBlocks.{BeginsAt}
use Rattle.size_pages.proofs.FitLaws.{filter_takes, filter_skips}

-- the block at b of n words, and the others, each of which begins below it or behind it
pub record Among (b n : ℕ) (live : List Extent) : Type 0 where
  pub front : List Extent
  pub back : List Extent
  pub is : live ≡ front ++ (b, n) ∷ back
  pub away : Each (λ y. (y.0 < b) ⊎ (b + n ≤ y.0)) (front ++ back)

-- where one begins at b
record Cut (b : ℕ) (live : List Extent) : Type 0 where
  pub front : List Extent
  pub back : List Extent
  pub words : ℕ
  pub is : live ≡ front ++ (b, words) ∷ back

cut_at : (b : ℕ) (live : List Extent) → BeginsAt b live → Cut b live
cut_at b [] h = absurd h
cut_at b (x ∷ xs) h = elim h [
  | inl e ↦ record { front = []; back = xs; words = x.1; is = ap (λ (a : ℕ). (a, x.1) ∷ xs) e }
  | inr t ↦ let c = cut_at b xs t in record { front = x ∷ c.front; back = c.back; words = c.words; is = ap (λ (ys : List Extent). x ∷ ys) c.is }
]

pub each_middle : (P : Extent → Type 0) (F L : List Extent) (x : Extent) → Each P (F ++ x ∷ L) → P x
each_middle P [] L x h = h.0
each_middle P (f ∷ F) L x h = each_middle P F L x h.1

pub Each_without : (P : Extent → Type 0) (F L : List Extent) (x : Extent) → Each P (F ++ x ∷ L) → Each P (F ++ L)
Each_without P [] L x h = h.1
Each_without P (f ∷ F) L x h = (h.0, Each_without P F L x h.1)

-- a block of several apart from each other, of which each has words
pub among : (b n : ℕ) (live : List Extent) → BeginsAt b live → AreApart live → Each (λ x. 2 ≤ x.1) live → Each (λ x. x.0 ≡ b → x.1 ≡ n) live → Among b n live
among b n live begins apart wide sized =
    let c = cut_at b live begins in
    let words : c.words ≡ n = each_middle (λ x. x.0 ≡ b → x.1 ≡ n) c.front c.back (b, c.words) (subst (Each (λ x. x.0 ≡ b → x.1 ≡ n)) c.is sized) refl in
    let is : live ≡ c.front ++ (b, n) ∷ c.back = c.is ∙ ap (λ (k : ℕ). c.front ++ (b, k) ∷ c.back) words in
    let parted = AreApart-out c.front c.back (b, n) (subst AreApart is apart) in
    let all : Each (λ x. 2 ≤ x.1) (c.front ++ (b, n) ∷ c.back) = subst (Each (λ x. 2 ≤ x.1)) is wide in
    record {
      front = c.front;
      back = c.back;
      is = is;
      away = Each-both (λ x. 2 ≤ x.1) (IsApart (b, n)) (λ y. (y.0 < b) ⊎ (b + n ≤ y.0)) (λ y two a. elim a [ inl p ↦ inr p | inr q ↦ inl (omega arith) ]) (c.front ++ c.back) (Each_without (λ x. 2 ≤ x.1) c.front c.back (b, n) all) parted.0;
    }

pub filter_both : (t : Extent → Bool) (F G : List Extent) → filter t (F ++ G) ≡ filter t F ++ filter t G
filter_both t [] G = refl
filter_both t (f ∷ F) G = elim (cases_Bool (t f)) [
  | inl e ↦ rw e (ap (λ (ys : List Extent). f ∷ ys) (filter_both t F G))
  | inr e ↦ rw e (filter_both t F G)
]

pub filter_same : (t u : Extent → Bool) (xs : List Extent) → Each (λ x. t x ≡ u x) xs → filter t xs ≡ filter u xs
filter_same t u [] same = refl
filter_same t u (x ∷ xs) same = ap (λ (b : Bool). cond b (x ∷ filter t xs) (filter t xs)) same.0 ∙ ap (λ (ys : List Extent). cond (u x) (x ∷ ys) ys) (filter_same t u xs same.1)

pub each_filter : (P : Extent → Type 0) (t : Extent → Bool) (xs : List Extent) → Each P xs → Each P (filter t xs)
each_filter P t [] all = tt
each_filter P t (x ∷ xs) all = elim (cases_Bool (t x)) [
  | inl e ↦ subst (Each P) (sym (filter_takes t x xs e)) (all.0, each_filter P t xs all.1)
  | inr e ↦ subst (Each P) (sym (filter_skips t x xs e)) (each_filter P t xs all.1)
]

-- of the blocks that pass a test, whose answer at the others is the same before the block at b and behind it
pub record Split (T : ℕ → Extent → Bool) (b n : ℕ) (live : List Extent) : Type 0 where
  pub front : List Extent
  pub back : List Extent
  pub before : filter (T b) live ≡ front ++ cond (T b (b, n)) ((b, n) ∷ back) back
  pub behind : filter (T (b + n)) live ≡ front ++ cond (T (b + n) (b, n)) ((b, n) ∷ back) back
  pub away : Each (λ y. (y.0 < b) ⊎ (b + n ≤ y.0)) (front ++ back)

-- whether a test answers the same at two places for the blocks that begin at neither and nowhere between
abbrev pub IsSteady : (ℕ → Extent → Bool) → Type 0
IsSteady T = (low high : ℕ) (x : Extent) → low ≤ high → (x.0 < low) ⊎ (high ≤ x.0) → T high x ≡ T low x

pub filter_steady : (T : ℕ → Extent → Bool) → IsSteady T → (low high : ℕ) (xs : List Extent) → low ≤ high → Each (λ x. (x.0 < low) ⊎ (high ≤ x.0)) xs → filter (T high) xs ≡ filter (T low) xs
filter_steady T steady low high xs up away = filter_same (T high) (T low) xs (Each-map (λ x. (x.0 < low) ⊎ (high ≤ x.0)) (λ x. T high x ≡ T low x) (λ x out. steady low high x up out) xs away)

pub split_at : (T : ℕ → Extent → Bool) → IsSteady T → (b n : ℕ) (live : List Extent) → Among b n live → Split T b n live
split_at T steady b n live a =
    let F = a.front in
    let L = a.back in
    let x : Extent = (b, n) in
    let Away : Extent → Type 0 = λ y. (y.0 < b) ⊎ (b + n ≤ y.0) in
    let up : Each Away F = Each-left Away F L a.away in
    let back : Each Away L = Each-right Away F L a.away in
    let both : (k : ℕ) → filter (T k) live ≡ filter (T k) F ++ cond (T k x) (x ∷ filter (T k) L) (filter (T k) L) = λ k. ap (filter (T k)) a.is ∙ filter_both (T k) F (x ∷ L) in
    record {
      front = filter (T b) F;
      back = filter (T b) L;
      before = both b;
      behind = both (b + n)
          ∙ ap (λ (ys : List Extent). ys ++ cond (T (b + n) x) (x ∷ filter (T (b + n)) L) (filter (T (b + n)) L)) (filter_steady T steady b (b + n) F (omega arith) up)
          ∙ ap (λ (ys : List Extent). filter (T b) F ++ cond (T (b + n) x) (x ∷ ys) ys) (filter_steady T steady b (b + n) L (omega arith) back);
      away = Each-join Away (filter (T b) F) (filter (T b) L) (each_filter Away (T b) F up) (each_filter Away (T b) L back);
    }

-- the test of beginning below a place
pub below_steady : IsSteady (λ place x. nat_lt x.0 place)
below_steady low high x up out = grind (arith, nat_tests)
