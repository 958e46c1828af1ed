-- What handing out and giving back make of all pages.
use Rattle.std.proofs.Common.{◌≡◌, ◌≢◌, ℕ, ◌+◌, ◌<◌, ◌≤◌, ◌⊎◌, inl, inr, Bool, true, false, cond, List, [], ◌∷◌, arith, refl, sym, ◌∙◌, ap, subst}
use Rattle.std.proofs.lemmas.Bool.Decides.{eqb_tells, nat_tests}
use Rattle.std.specs.List.{filter}
use Rattle.heap_space.specs.Extents.{Extent, Each, IsApart, AreApart}
use Rattle.size_pages.specs.PageWords.{Words}
use Rattle.size_pages.specs.PageBlocks.{IsBlockOf, PageHolds}
use Rattle.size_pages.specs.LiveBlocks.{page_at, in_page, blocks_of, PageIs, IsInPages, BlocksFit}
use Rattle.heap_space.proofs.ExtentLaws.{Each-map, Each-right, AreApart-right}
use Rattle.size_pages.proofs.PageLaws.{holds_frame, StaysOutside, StaysInPage}

pub pages_part : (size j k : ℕ) → j < k → page_at size j + size ≤ page_at size k
pages_part size j k h = grind arith

pub pages_apart : (size j k : ℕ) → j ≢ k → (page_at size j + size ≤ page_at size k) ⊎ (page_at size k + size ≤ page_at size j)
pages_apart size j k h = grind (arith, pages_part)

pub filter_takes : (t : Extent → Bool) (x : Extent) (xs : List Extent) → t x ≡ true → filter t (x ∷ xs) ≡ x ∷ filter t xs
filter_takes t x xs e = rw e refl

pub filter_skips : (t : Extent → Bool) (x : Extent) (xs : List Extent) → t x ≡ false → filter t (x ∷ xs) ≡ filter t xs
filter_skips t x xs e = rw e refl

pub in_page_true : (size p : ℕ) (x : Extent) → p ≤ x.0 → x.0 < p + size → in_page size p x ≡ true
in_page_true size p x low high = grind (arith, nat_tests)

pub in_page_false : (size p : ℕ) (x : Extent) → (x.0 < p) ⊎ (p + size ≤ x.0) → in_page size p x ≡ false
in_page_false size p x out = grind (arith, nat_tests)

each_case : (t : Extent → Bool) (P : Extent → Type 0) (x : Extent) (xs rest : List Extent) (b : Bool) → t x ≡ b → (Each P rest → Each P xs) → Each P (cond b (x ∷ rest) rest) → (b ≡ false → P x) → P x × Each P xs
each_case t P x xs rest true e more all other = (all.0, more all.1)
each_case t P x xs rest false e more all other = (other refl, more all)

-- what holds of those that pass and of those that do not holds of all
pub each_by_test : (t : Extent → Bool) (P : Extent → Type 0) (xs : List Extent) → Each P (filter t xs) → Each (λ y. t y ≡ false → P y) xs → Each P xs
each_by_test t P [] all other = tt
each_by_test t P (x ∷ xs) all other =
    each_case t P x xs (filter t xs) (t x) refl (λ a. each_by_test t P xs a other.1) all other.0

-- another place of another page is apart
elsewhere : (size count k : ℕ) (x y : Extent) → page_at size k ≤ x.0 → x.0 + x.1 ≤ page_at size k + size → IsInPages size count y → in_page size (page_at size k) y ≡ false → IsApart x y
elsewhere size count k x y low high is missed =
    let wide : 2 ≤ y.1 = is.wide in
    let ylow : page_at size is.page + 8 ≤ y.0 = is.low in
    let yhigh : y.0 + y.1 ≤ page_at size is.page + size = is.high in
    elim (eqb_tells is.page k) [
      | inl a ↦ let p : page_at size is.page ≡ page_at size k = ap (page_at size) a.1 in
          let yes : in_page size (page_at size k) y ≡ true = in_page_true size (page_at size k) y (omega arith) (omega arith) in absurd (cc)
      | inr b ↦ elim (pages_apart size is.page k b.1) [ inl c ↦ inr (omega arith) | inr d ↦ inl (omega arith) ]
    ]

-- a block is apart from all live ones if it is from those of its page
pub apart_from_all : (size count k : ℕ) (x : Extent) (live : List Extent) → page_at size k ≤ x.0 → x.0 + x.1 ≤ page_at size k + size → Each (IsInPages size count) live → Each (IsApart x) (blocks_of size (page_at size k) live) → Each (IsApart x) live
apart_from_all size count k x live low high inside here =
    each_by_test (in_page size (page_at size k)) (IsApart x) live here
    (Each-map (IsInPages size count) (λ y. in_page size (page_at size k) y ≡ false → IsApart x y) (λ y is. elsewhere size count k x y low high is) live inside)

-- the words of the page outside its live blocks are the same
pub page_frame : (old new : Words) (size p : ℕ) (live : List Extent) → PageIs old size p live → new p ≡ old p → StaysInPage old new size p live → PageIs new size p live
page_frame old new size p live h first same = record {
  free = h.free;
  unused = λ e. h.unused (sym first ∙ e);
  holds = λ e. holds_frame old new size p h.free live (h.holds (λ z. e (first ∙ z))) same;
}

-- a used page
pub page_used : (w : Words) (size p : ℕ) (free live : List Extent) → PageHolds w size p free live → PageIs w size p live
page_used w size p free live h = record {
  free = free;
  unused = λ e. absurd (let two : 2 ≤ w p = h.words in omega arith);
  holds = λ e. h;
}

-- all words of the other pages are the same
abbrev pub StaysElsewhere : Words → Words → ℕ → ℕ → ℕ → Type 0
StaysElsewhere old new size count k = (j : ℕ) → j < count → j ≢ k → (e : ℕ) → page_at size j ≤ e → e < page_at size j + size → new e ≡ old e

-- one page changes
pub fits_one : (old new : Words) (size count k : ℕ) (live after : List Extent) → BlocksFit old size count live → PageIs new size (page_at size k) (blocks_of size (page_at size k) after) → ((j : ℕ) → j ≢ k → blocks_of size (page_at size j) after ≡ blocks_of size (page_at size j) live) → StaysElsewhere old new size count k → Each (IsInPages size count) after → AreApart after → BlocksFit new size count after
fits_one old new size count k live after h page others same inside apart = record {
  size_low = h.size_low;
  pages = λ j below. elim (eqb_tells j k) [
    | inl a ↦ subst (λ (i : ℕ). PageIs new size (page_at size i) (blocks_of size (page_at size i) after)) (sym a.1) page
    | inr b ↦ let low : 64 ≤ size = h.size_low in
        subst (λ (bs : List Extent). PageIs new size (page_at size j) bs) (sym (others j b.1))
        (page_frame old new size (page_at size j) (blocks_of size (page_at size j) live) (h.pages j below) (same j below b.1 (page_at size j) (omega arith) (omega arith)) (λ e from upto part out. same j below b.1 e from upto))
  ];
  inside = inside;
  apart = apart;
}

-- what changes words of one page alone leaves the others
pub stays_elsewhere : (old new : Words) (size count k : ℕ) → ((e : ℕ) → (e < page_at size k) ⊎ (page_at size k + size ≤ e) → new e ≡ old e) → StaysElsewhere old new size count k
stays_elsewhere old new size count k same j below other e from upto =
    same e (elim (pages_apart size j k other) [ inl a ↦ inl (omega arith) | inr b ↦ inr (omega arith) ])

-- a new live block of page k
pub fits_more : (old new : Words) (size count k : ℕ) (x : Extent) (free live : List Extent) → k < count → BlocksFit old size count live → PageHolds new size (page_at size k) free (x ∷ blocks_of size (page_at size k) live) → StaysElsewhere old new size count k → BlocksFit new size count (x ∷ live)
fits_more old new size count k x free live below h page same =
    let p = page_at size k in
    let n = new p in
    let here : Each (IsBlockOf n (p + 8) (new (p + 3))) (x ∷ blocks_of size p live) = Each-right (IsBlockOf n (p + 8) (new (p + 3))) free (x ∷ blocks_of size p live) page.blocks in
    let first : IsBlockOf n (p + 8) (new (p + 3)) x = here.0 in
    let two : 2 ≤ n = page.words in
    let end : new (p + 3) ≤ p + size = page.fresh_high in
    let wide : x.1 ≡ n = first.0 in
    let low : p + 8 ≤ x.0 = first.1 in
    let high : x.0 + x.1 ≤ new (p + 3) = first.2 in
    let inside : IsInPages size count x = record { page = k; below = below; wide = omega arith; low = low; high = omega arith } in
    let apart : Each (IsApart x) (blocks_of size p live) = (AreApart-right free (x ∷ blocks_of size p live) page.apart).0 in
    let yes_ : in_page size p x ≡ true = in_page_true size p x (omega arith) (omega arith) in
    fits_one old new size count k live (x ∷ live) h
    (page_used new size p free (blocks_of size p (x ∷ live)) (subst (λ (bs : List Extent). PageHolds new size p free bs) (sym (filter_takes (in_page size p) x live yes_)) page))
    (λ j other. filter_skips (in_page size (page_at size j)) x live (in_page_false size (page_at size j) x (elim (pages_apart size j k other) [ inl a ↦ inr (omega arith) | inr b ↦ inl (omega arith) ])))
    same (inside, h.inside) (apart_from_all size count k x live (omega arith) (omega arith) h.inside apart, h.apart)

-- a live block of page k goes
pub fits_less : (old new : Words) (size count k : ℕ) (x : Extent) (free live : List Extent) → k < count → BlocksFit old size count (x ∷ live) → (page_at size k ≤ x.0) → (x.0 < page_at size k + size) → PageIs new size (page_at size k) (blocks_of size (page_at size k) live) → StaysElsewhere old new size count k → BlocksFit new size count live
fits_less old new size count k x free live below h low high page same =
    fits_one old new size count k (x ∷ live) live h page
    (λ j other. sym (filter_skips (in_page size (page_at size j)) x live (in_page_false size (page_at size j) x (elim (pages_apart size j k other) [ inl a ↦ inr (omega arith) | inr b ↦ inl (omega arith) ]))))
    same h.inside.1 h.apart.1

-- every live block of page k
pub page_of_block : (w : Words) (size count k : ℕ) (x : Extent) (live : List Extent) → k < count → BlocksFit w size count (x ∷ live) → (page_at size k ≤ x.0) → (x.0 < page_at size k + size) → PageIs w size (page_at size k) (x ∷ blocks_of size (page_at size k) live)
page_of_block w size count k x live below h low high =
    subst (λ (bs : List Extent). PageIs w size (page_at size k) bs) (filter_takes (in_page size (page_at size k)) x live (in_page_true size (page_at size k) x low high)) (h.pages k below)

outside_one : (size count k e : ℕ) (x : Extent) → page_at size k ≤ e → e < page_at size k + size → IsInPages size count x → in_page size (page_at size k) x ≡ false → (e < x.0) ⊎ (x.0 + x.1 ≤ e)
outside_one size count k e x low high is missed =
    elim (elsewhere size count k (e, 1) x low (omega arith) is missed) [ inl a ↦ inl (omega arith) | inr b ↦ inr b ]

outside_start : (size count k : ℕ) (x : Extent) → IsInPages size count x → (page_at size k < x.0) ⊎ (x.0 + x.1 ≤ page_at size k)
outside_start size count k x is =
    let low : page_at size is.page + 8 ≤ x.0 = is.low in
    let high : x.0 + x.1 ≤ page_at size is.page + size = is.high in
    elim (eqb_tells is.page k) [
      | inl a ↦ let p : page_at size is.page ≡ page_at size k = ap (page_at size) a.1 in inl (omega arith)
      | inr b ↦ elim (pages_apart size is.page k b.1) [ inl c ↦ inr (omega arith) | inr d ↦ inl (omega arith) ]
    ]

-- THE FRAME LAW: writes inside live blocks change nothing
pub fits_frame : (old new : Words) (size count : ℕ) (live : List Extent) → BlocksFit old size count live → StaysOutside old new (page_at size 0) (page_at size count) live → BlocksFit new size count live
fits_frame old new size count live h same = record {
  size_low = h.size_low;
  pages = λ k below.
      let p = page_at size k in
      let s : 64 ≤ size = h.size_low in
      let low : page_at size 0 ≤ p = grind arith in
      let high : p + size ≤ page_at size count = pages_part size k count below in
      page_frame old new size p (blocks_of size p live) (h.pages k below)
      (same p low (omega arith) (Each-map (IsInPages size count) (λ x. (p < x.0) ⊎ (x.0 + x.1 ≤ p)) (outside_start size count k) live h.inside))
      (λ e from upto part out. same e (omega arith) (omega arith)
      (each_by_test (in_page size p) (λ x. (e < x.0) ⊎ (x.0 + x.1 ≤ e)) live out
      (Each-map (IsInPages size count) (λ x. in_page size p x ≡ false → (e < x.0) ⊎ (x.0 + x.1 ≤ e)) (λ x is. outside_one size count k e x from upto is) live h.inside)));
  inside = h.inside;
  apart = h.apart;
}

-- all words but the links in the pages' headers are the same
abbrev pub StaysButLinks : Words → Words → ℕ → ℕ → Type 0
StaysButLinks old new size count = (k : ℕ) → k < count → (e : ℕ) → page_at size k ≤ e → e < page_at size k + size → (e < page_at size k + 4) ⊎ (page_at size k + 8 ≤ e) → new e ≡ old e

pub fits_links : (old new : Words) (size count : ℕ) (live : List Extent) → BlocksFit old size count live → StaysButLinks old new size count → BlocksFit new size count live
fits_links old new size count live h same = record {
  size_low = h.size_low;
  pages = λ k below.
      let s : 64 ≤ size = h.size_low in
      let p = page_at size k in
      page_frame old new size p (blocks_of size p live) (h.pages k below) (same k below p (omega arith) (omega arith) (inl (omega arith)))
      (λ e from upto part out. same k below e from upto part);
  inside = h.inside;
  apart = h.apart;
}
