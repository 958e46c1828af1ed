-- What handing out and giving back make of a page.
use Rattle.std.proofs.Common.{◌≡◌, ℕ, suc, ◌+◌, ◌*◌, ◌<◌, ◌≤◌, ◌⊎◌, inl, inr, List, [], ◌∷◌, ◌++◌, length, arith, refl, sym, ◌∙◌, ap, subst}
use Rattle.std.proofs.Math.Nat.{mul-le-mul_right}
use Rattle.std.proofs.lemmas.Bool.{cases_lt}
use Rattle.heap_space.specs.Extents.{Extent, Each, IsApart, AreApart, IsOutside}
use Rattle.size_pages.specs.PageWords.{Words}
use Rattle.size_pages.specs.PageBlocks.{Chain, IsBlockOf, BeginsAt, PageHolds, TakesChained, TakesFresh, GivesBack}
use Rattle.heap_space.proofs.ExtentLaws.{Each-into, Each-out, Each-map, Each-both, Each-left, Each-right, AreApart-into, AreApart-out, AreApart-between}

-- the two words of each that a chain reads are the same
abbrev pub LinksStay : Words → Words → List Extent → Type 0
LinksStay old new xs = Each (λ x. (new x.0 ≡ old x.0) × (new (x.0 + 1) ≡ old (x.0 + 1))) xs

pub Chain-frame : (old new : Words) (n p : ℕ) (xs : List Extent) → LinksStay old new xs → Chain old n p xs → Chain new n p xs
Chain-frame old new n p [] same c = c
Chain-frame old new n p (x ∷ xs) same c =
    let word : new p ≡ old p = ap new c.0 ∙ same.0.0 ∙ sym (ap old c.0) in
    let link : new (p + 1) ≡ old (p + 1) = ap (λ q. new (q + 1)) c.0 ∙ same.0.1 ∙ sym (ap (λ q. old (q + 1)) c.0) in
    let rest : Chain new n (old (p + 1)) xs = Chain-frame old new n (old (p + 1)) xs same.1 c.3 in
    (c.0, c.1, word ∙ c.2, subst (λ (q : ℕ). Chain new n q xs) (sym link) rest)

-- each block of n words from low on and below high is one of these
abbrev pub IsFilled : ℕ → ℕ → ℕ → List Extent → Type 0
IsFilled n low high xs = (i : ℕ) → low + i * n < high → BeginsAt (low + i * n) xs

pub begins_into : (a : ℕ) (fs ls : List Extent) (x : Extent) → BeginsAt a (x ∷ (fs ++ ls)) → BeginsAt a (fs ++ x ∷ ls)
begins_into a [] ls x h = h
begins_into a (f ∷ fs) ls x h = elim h [
  | inl e ↦ inr (begins_into a fs ls x (inl e))
  | inr r ↦ elim r [ inl e ↦ inl e | inr t ↦ inr (begins_into a fs ls x (inr t)) ]
]

pub begins_out : (a : ℕ) (fs ls : List Extent) (x : Extent) → BeginsAt a (fs ++ x ∷ ls) → BeginsAt a (x ∷ (fs ++ ls))
begins_out a [] ls x h = h
begins_out a (f ∷ fs) ls x h = elim h [
  | inl e ↦ inr (inl e)
  | inr r ↦ elim (begins_out a fs ls x r) [ inl e ↦ inl e | inr t ↦ inr (inr t) ]
]

last_step : (k i n low x : ℕ) → k * n + low ≡ x → x ≤ low + i * n → low + i * n < x + n → x ≡ low + i * n
last_step k i n low x at from upto = elim (cases_lt i k) [
  | inl a ↦ absurd (let m : (i + 1) * n ≤ k * n = grind (arith, mul-le-mul_right) in let d : (i + 1) * n ≡ i * n + n = grind arith in omega arith)
  | inr b ↦ elim (cases_lt k i) [
    | inl a ↦ absurd (let m : (k + 1) * n ≤ i * n = grind (arith, mul-le-mul_right) in let d : (k + 1) * n ≡ k * n + n = grind arith in omega arith)
    | inr c ↦ (let e : k ≡ i = omega arith in let f : k * n ≡ i * n = ap (λ (j : ℕ). j * n) e in omega arith)
  ]
]

-- a page is told by its words, where n is its class and high the first word never handed out
pub page_holds : (w : Words) (size p n high : ℕ) (free live : List Extent) → w p ≡ n → w (p + 3) ≡ high → 2 ≤ n → Chain w n (w (p + 1)) free → w (p + 2) ≡ length live → p + 8 ≤ high → high ≤ p + size → Each (IsBlockOf n (p + 8) high) (free ++ live) → AreApart (free ++ live) → (length free + length live) * n + (p + 8) ≡ high → IsFilled n (p + 8) high (free ++ live) → PageHolds w size p free live
page_holds w size p n high free live is_n is_high two chain count low up blocks apart all filled = record {
  words = subst (λ (k : ℕ). 2 ≤ k) (sym is_n) two;
  chain = subst (λ (k : ℕ). Chain w k (w (p + 1)) free) (sym is_n) chain;
  count = count;
  fresh_low = subst (λ (k : ℕ). p + 8 ≤ k) (sym is_high) low;
  fresh_high = subst (λ (k : ℕ). k ≤ p + size) (sym is_high) up;
  blocks = subst (λ (k : ℕ). Each (IsBlockOf k (p + 8) (w (p + 3))) (free ++ live)) (sym is_n) (subst (λ (k : ℕ). Each (IsBlockOf n (p + 8) k) (free ++ live)) (sym is_high) blocks);
  apart = apart;
  all = ap (λ (k : ℕ). (length free + length live) * k + (p + 8)) is_n ∙ all ∙ sym is_high;
  filled = subst (λ (k : ℕ). IsFilled k (p + 8) (w (p + 3)) (free ++ live)) (sym is_n) (subst (λ (k : ℕ). IsFilled n (p + 8) k (free ++ live)) (sym is_high) filled);
}

-- all words of the page behind its header and outside x are the same
abbrev pub StaysRound : Words → Words → ℕ → Extent → Type 0
StaysRound old new p x = (e : ℕ) → p + 8 ≤ e → (e < x.0) ⊎ (x.0 + x.1 ≤ e) → new e ≡ old e

link_stays : (old new : Words) (p n high : ℕ) (x f : Extent) → 2 ≤ n → StaysRound old new p x → IsBlockOf n (p + 8) high f → IsApart x f → (new f.0 ≡ old f.0) × (new (f.0 + 1) ≡ old (f.0 + 1))
link_stays old new p n high x f two stays is apart =
    let size : f.1 ≡ n = is.0 in
    let low : p + 8 ≤ f.0 = is.1 in
    elim apart [
      | inl a ↦ (stays f.0 low (inr a), stays (f.0 + 1) (omega arith) (inr (omega arith)))
      | inr b ↦ (stays f.0 low (inl (omega arith)), stays (f.0 + 1) (omega arith) (inl (omega arith)))
    ]

pub links_stay : (old new : Words) (p n high : ℕ) (x : Extent) (fs : List Extent) → 2 ≤ n → StaysRound old new p x → Each (IsBlockOf n (p + 8) high) fs → Each (IsApart x) fs → LinksStay old new fs
links_stay old new p n high x fs two stays is apart =
    Each-both (IsBlockOf n (p + 8) high) (IsApart x) (λ f. (new f.0 ≡ old f.0) × (new (f.0 + 1) ≡ old (f.0 + 1))) (λ f. link_stays old new p n high x f two stays) fs is apart

-- a chained block is handed out
pub holds_chained : (old new : Words) (size p : ℕ) (x : Extent) (fs live : List Extent) → PageHolds old size p (x ∷ fs) live → TakesChained old new p x.0 → PageHolds new size p fs (x ∷ live)
holds_chained old new size p x fs live h t =
    let n = old p in
    let high = old (p + 3) in
    let first : IsBlockOf n (p + 8) high x = h.blocks.0 in
    let far : p + 8 ≤ x.0 = first.1 in
    let wide : x.1 ≡ n = first.0 in
    let two : 2 ≤ n = h.words in
    let stays : StaysRound old new p x = λ e low out. elim out [ inl a ↦ t.rest e (omega arith) (omega arith) (omega arith) (omega arith) | inr b ↦ t.rest e (omega arith) (omega arith) (omega arith) (omega arith) ] in
    let links : LinksStay old new fs = links_stay old new p n high x fs two stays (Each-left (IsBlockOf n (p + 8) high) fs live h.blocks.1) (Each-left (IsApart x) fs live h.apart.0) in
    let rest : Chain old n (old (x.0 + 1)) fs = subst (λ (q : ℕ). Chain old n (old (q + 1)) fs) h.chain.0 h.chain.3 in
    let moved : Chain new n (new (p + 1)) fs = subst (λ (q : ℕ). Chain new n q fs) (sym t.head) (Chain-frame old new n (old (x.0 + 1)) fs links rest) in
    page_holds new size p n high fs (x ∷ live)
    (t.rest p (omega arith) (omega arith) (omega arith) (omega arith))
    (t.rest (p + 3) (omega arith) (omega arith) (omega arith) (omega arith))
    two moved (t.count ∙ (let e : old (p + 2) ≡ length live = h.count in omega arith)) h.fresh_low h.fresh_high
    (Each-into (IsBlockOf n (p + 8) high) fs live x first h.blocks.1)
    (AreApart-into fs live x h.apart)
    (ap (λ (k : ℕ). k * n + (p + 8)) (omega arith) ∙ h.all)
    (λ i low. begins_into (p + 8 + i * n) fs live x (h.filled i low))

below_apart : (n low high at : ℕ) (xs : List Extent) → Each (IsBlockOf n low high) xs → Each (IsApart (high, at)) xs
below_apart n low high at xs all = Each-map (IsBlockOf n low high) (IsApart (high, at)) (λ f is. inr is.2) xs all

higher : (n low high more : ℕ) (xs : List Extent) → high ≤ more → Each (IsBlockOf n low high) xs → Each (IsBlockOf n low more) xs
higher n low high more xs up all = Each-map (IsBlockOf n low high) (IsBlockOf n low more) (λ f is. (is.0, is.1, omega (arith, is.2))) xs all

one_more : (f l n low x : ℕ) → (f + l) * n + low ≡ x → (f + suc l) * n + low ≡ x + n
one_more f l n low x h = grind arith

-- a block that was never handed out is handed out
pub holds_fresh : (old new : Words) (size p x n : ℕ) (free live : List Extent) → PageHolds old size p free live → n ≡ old p → TakesFresh old new p x n → x + n ≤ p + size → PageHolds new size p free ((x, n) ∷ live)
holds_fresh old new size p x n free live h is_n t room =
    let high = old (p + 3) in
    let at : x ≡ high = t.first in
    let far : p + 8 ≤ high = h.fresh_low in
    let two : 2 ≤ n = subst (λ (k : ℕ). 2 ≤ k) (sym is_n) h.words in
    let chain : Chain old n (old (p + 1)) free = subst (λ (k : ℕ). Chain old k (old (p + 1)) free) (sym is_n) h.chain in
    let blocks : Each (IsBlockOf n (p + 8) x) (free ++ live) = subst (λ (k : ℕ). Each (IsBlockOf n (p + 8) k) (free ++ live)) (sym at) (subst (λ (k : ℕ). Each (IsBlockOf k (p + 8) high) (free ++ live)) (sym is_n) h.blocks) in
    let stays : StaysRound old new p (x, n) = λ e low out. elim out [ inl a ↦ t.rest e (omega arith) (omega arith) (omega arith) (omega arith) | inr b ↦ t.rest e (omega arith) (omega arith) (omega arith) (omega arith) ] in
    let links : LinksStay old new free = links_stay old new p n x (x, n) free two stays (Each-left (IsBlockOf n (p + 8) x) free live blocks) (Each-left (IsApart (x, n)) free live (below_apart n (p + 8) x n (free ++ live) blocks)) in
    let total : (length free + length live) * n + (p + 8) ≡ x = ap (λ (k : ℕ). (length free + length live) * k + (p + 8)) is_n ∙ h.all ∙ sym at in
    let was : IsFilled n (p + 8) high (free ++ live) = subst (λ (k : ℕ). IsFilled k (p + 8) high (free ++ live)) (sym is_n) h.filled in
    let head : new (p + 1) ≡ old (p + 1) = t.rest (p + 1) (omega arith) (omega arith) (omega arith) (omega arith) in
    let moved : Chain new n (new (p + 1)) free = subst (λ (q : ℕ). Chain new n q free) (sym head) (Chain-frame old new n (old (p + 1)) free links chain) in
    page_holds new size p n (x + n) free ((x, n) ∷ live)
    (t.rest p (omega arith) (omega arith) (omega arith) (omega arith) ∙ sym is_n)
    t.fresh two moved (t.count ∙ (let e : old (p + 2) ≡ length live = h.count in omega arith)) (omega arith) room
    (Each-into (IsBlockOf n (p + 8) (x + n)) free live (x, n) (refl, omega arith, omega arith) (higher n (p + 8) x (x + n) (free ++ live) (omega arith) blocks))
    (AreApart-into free live (x, n) (below_apart n (p + 8) x n (free ++ live) blocks, h.apart))
    (one_more (length free) (length live) n (p + 8) x total)
    (λ i low. elim (cases_lt (p + 8 + i * n) x) [
      | inl below ↦ begins_into (p + 8 + i * n) free live (x, n) (inr (was i (omega (arith, below))))
      | inr above ↦ begins_into (p + 8 + i * n) free live (x, n) (inl (last_step (length free + length live) i n (p + 8) x total above low))
    ])

-- a live block is given back
pub holds_given : (old new : Words) (size p : ℕ) (x : Extent) (free live : List Extent) → PageHolds old size p free (x ∷ live) → GivesBack old new p x.0 → PageHolds new size p (x ∷ free) live
holds_given old new size p x free live h t =
    let n = old p in
    let high = old (p + 3) in
    let out = Each-out (IsBlockOf n (p + 8) high) free live x h.blocks in
    let parted = AreApart-out free live x h.apart in
    let first : IsBlockOf n (p + 8) high x = out.0 in
    let far : p + 8 ≤ x.0 = first.1 in
    let wide : x.1 ≡ n = first.0 in
    let two : 2 ≤ n = h.words in
    let stays : StaysRound old new p x = λ e low out. elim out [ inl a ↦ t.rest e (omega arith) (omega arith) (omega arith) (omega arith) | inr b ↦ t.rest e (omega arith) (omega arith) (omega arith) (omega arith) ] in
    let links : LinksStay old new free = links_stay old new p n high x free two stays (Each-left (IsBlockOf n (p + 8) high) free live out.1) (Each-left (IsApart x) free live parted.0) in
    let rest : Chain new n (new (x.0 + 1)) free = subst (λ (q : ℕ). Chain new n q free) (sym t.next) (Chain-frame old new n (old (p + 1)) free links h.chain) in
    let chain : Chain new n x.0 (x ∷ free) = (refl, omega arith, t.free, rest) in
    page_holds new size p n high (x ∷ free) live
    (t.rest p (omega arith) (omega arith) (omega arith) (omega arith))
    (t.rest (p + 3) (omega arith) (omega arith) (omega arith) (omega arith))
    two (subst (λ (q : ℕ). Chain new n q (x ∷ free)) (sym t.head) chain)
    (let e : old (p + 2) ≡ length live + 1 = h.count ∙ omega arith in let f : new (p + 2) + 1 ≡ old (p + 2) = t.count in omega arith)
    h.fresh_low h.fresh_high (first, out.1) parted
    (ap (λ (k : ℕ). k * n + (p + 8)) (omega arith) ∙ h.all)
    (λ i low. begins_out (p + 8 + i * n) free live x (h.filled i low))

-- the words outside live blocks are the same
abbrev pub StaysOutside : Words → Words → ℕ → ℕ → List Extent → Type 0
StaysOutside old new low high live = (e : ℕ) → low ≤ e → e < high → IsOutside live e → new e ≡ old e

outside_header : (n low high e : ℕ) (live : List Extent) → e < low → Each (IsBlockOf n low high) live → IsOutside live e
outside_header n low high e live below all = Each-map (IsBlockOf n low high) (λ x. (e < x.0) ⊎ (x.0 + x.1 ≤ e)) (λ x is. inl (omega (arith, is.1))) live all

outside_free : (f : Extent) (live : List Extent) (k : ℕ) → k < f.1 → Each (IsApart f) live → IsOutside live (f.0 + k)
outside_free f live k small all = Each-map (IsApart f) (λ x. (f.0 + k < x.0) ⊎ (x.0 + x.1 ≤ f.0 + k)) (λ x is. elim is [ inl a ↦ inl (omega arith) | inr b ↦ inr (omega arith) ]) live all

-- the same but for words 4 to 7 of the page's header
abbrev pub StaysInPage : Words → Words → ℕ → ℕ → List Extent → Type 0
StaysInPage old new size p live = (e : ℕ) → p ≤ e → e < p + size → (e < p + 4) ⊎ (p + 8 ≤ e) → IsOutside live e → new e ≡ old e

-- writes inside live blocks and to the links of pages leave a page's blocks as they are
pub holds_frame : (old new : Words) (size p : ℕ) (free live : List Extent) → PageHolds old size p free live → StaysInPage old new size p live → PageHolds new size p free live
holds_frame old new size p free live h same =
    let n = old p in
    let high = old (p + 3) in
    let two : 2 ≤ n = h.words in
    let low : p + 8 ≤ high = h.fresh_low in
    let up : high ≤ p + size = h.fresh_high in
    let lives : Each (IsBlockOf n (p + 8) high) live = Each-right (IsBlockOf n (p + 8) high) free live h.blocks in
    let frees : Each (IsBlockOf n (p + 8) high) free = Each-left (IsBlockOf n (p + 8) high) free live h.blocks in
    let header : (k : ℕ) → k < 4 → new (p + k) ≡ old (p + k) = λ k small. same (p + k) (omega arith) (omega arith) (inl (omega arith)) (outside_header n (p + 8) high (p + k) live (omega arith) lives) in
    let links : LinksStay old new free =
    Each-both (IsBlockOf n (p + 8) high) (λ f. Each (IsApart f) live) (λ f. (new f.0 ≡ old f.0) × (new (f.0 + 1) ≡ old (f.0 + 1)))
    (λ f is apart.
    let wide : f.1 ≡ n = is.0 in
    let lower : p + 8 ≤ f.0 = is.1 in
    let upper : f.0 + f.1 ≤ high = is.2 in
    (same f.0 (omega arith) (omega arith) (inr lower) (subst (λ (e : ℕ). IsOutside live e) (omega arith) (outside_free f live 0 (omega arith) apart)), same (f.0 + 1) (omega arith) (omega arith) (inr (omega arith)) (outside_free f live 1 (omega arith) apart)))
    free frees (AreApart-between free live h.apart) in
    let same_n : new p ≡ n = subst (λ (e : ℕ). new e ≡ old e) (omega arith) (header 0 (omega arith)) in
    page_holds new size p n high free live same_n (header 3 (omega arith)) two
    (subst (λ (q : ℕ). Chain new n q free) (sym (header 1 (omega arith))) (Chain-frame old new n (old (p + 1)) free links h.chain))
    (header 2 (omega arith) ∙ h.count) low up h.blocks h.apart h.all h.filled
