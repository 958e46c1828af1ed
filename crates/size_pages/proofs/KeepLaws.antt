-- No step changes a word of a live block.
use Rattle.std.proofs.Common.{◌≡◌, ◌≢◌, ℕ, ◌+◌, ◌<◌, ◌≤◌, ◌⊎◌, inl, inr, List, [], ◌∷◌, slice_index, arith, sym, ◌∙◌, ap, subst}
use Rattle.std.proofs.lemmas.Bool.Decides.{eqb_tells}
use Rattle.heap_space.specs.Memory.{Memory}
use Rattle.heap_space.specs.Extents.{Extent, Each, IsApart, IsInside, KeepsWords}
use Rattle.heap_space.proofs.ExtentLaws.{Each-map, Each-both}
use Rattle.size_pages.specs.PageWords.{word_in, IsInArenas}
use Rattle.size_pages.specs.PageBlocks.{GivesBack, Starts, Clears}
use Rattle.size_pages.specs.LiveBlocks.{page_at, IsInPages}
use Rattle.size_pages.specs.PageLists.{first_of_list, IsPage, Unlinks, Links}
use Rattle.size_pages.specs.HasBlocks.{HasBlocksBut, HasBlocks}
use Rattle.size_pages.specs.Steps.{CanTakeOff, CanTakeFrom, CanTakeUnlisted}
use Rattle.size_pages.specs.declared.Pages.{Pages}
use Rattle.size_pages.proofs.FitLaws.{pages_apart}
use Rattle.size_pages.proofs.ListMoves.{not_zero, first_page}
use Rattle.size_pages.proofs.FitsLaws.{beside, OnList, on_list}
use Rattle.size_pages.proofs.TakeLaws.{Taken, taken_fits}

-- the place lies in a page, behind its header
pub record AtBlock (size count e : ℕ) : Type 0 where
  pub page : ℕ
  pub below : page < count
  pub low : page_at size page + 8 ≤ e
  pub high : e < page_at size page + size

pub at_block : (size count e : ℕ) (x : Extent) → IsInPages size count x → IsInside x e → AtBlock size count e
at_block size count e x is h =
    let low : page_at size is.page + 8 ≤ x.0 = is.low in
    let high : x.0 + x.1 ≤ page_at size is.page + size = is.high in
    record { page = is.page; below = is.below; low = omega (arith, h.0); high = omega (arith, h.1) }

-- what holds of each place behind a header holds within each live block
pub keeps_at : (old new : Memory) (size count : ℕ) (live : List Extent) → Each (IsInPages size count) live → ((e : ℕ) → AtBlock size count e → word_in new e ≡ word_in old e) → KeepsWords old new live
keeps_at old new size count live inside same =
    Each-map (IsInPages size count) (λ x. (e : ℕ) → IsInside x e → word_in new e ≡ word_in old e) (λ x is e h. same e (at_block size count e x is h)) live inside

pub keeps_then : (a b c : Memory) (live : List Extent) → KeepsWords a b live → KeepsWords b c live → KeepsWords a c live
keeps_then a b c live h g =
    Each-both (λ x. (e : ℕ) → IsInside x e → word_in b e ≡ word_in a e) (λ x. (e : ℕ) → IsInside x e → word_in c e ≡ word_in b e) (λ x. (e : ℕ) → IsInside x e → word_in c e ≡ word_in a e) (λ x f k e i. k e i ∙ f e i) live h g

pub keeps_same : (a b : Memory) (live : List Extent) → ((e : ℕ) → word_in b e ≡ word_in a e) → KeepsWords a b live
keeps_same a b [] same = tt
keeps_same a b (x ∷ xs) same = (λ e i. same e, keeps_same a b xs same)

pub no_header : (size count e y i : ℕ) → AtBlock size count e → (y ≡ 0) ⊎ IsPage size count y → i < 8 → e ≢ y + i
no_header size count e y i b py small same =
    let low : page_at size b.page + 8 ≤ e = b.low in
    let high : e < page_at size b.page + size = b.high in
    elim py [
      | inl z ↦ omega arith
      | inr q ↦ let at : y ≡ page_at size q.number = q.is in
          elim (eqb_tells q.number b.page) [
            | inl a ↦ let p : page_at size q.number ≡ page_at size b.page = ap (page_at size) a.1 in omega arith
            | inr n ↦ elim (pages_apart size q.number b.page n.1) [ inl x ↦ omega arith | inr x ↦ omega arith ]
          ]
    ]

pub keeps_on : (pages : Pages) (after : List ℕ) (m new : Memory) (page list : ℕ) → OnList pages m page list → Unlinks (word_in m) (word_in new) pages.heads.items after page list → (live : List Extent) (waiting : List ℕ) → HasBlocks pages m live waiting → KeepsWords m new live
keeps_on pages after m new page list c u live waiting f =
    let size = pages.page in
    let count = pages.count in
    let b = beside (word_in m) size count page list pages.heads.items waiting 0 f.lists c.is_page (not_zero size count page c.is_page) c.is_list c.some in
    keeps_at m new size count live f.blocks.inside (λ e at. u.rest e (no_header size count e (word_in m (page + 5)) 4 at b.before (omega arith)) (no_header size count e (word_in m (page + 4)) 5 at b.next (omega arith)))

pub off_keeps : (pages : Pages) (after : List ℕ) (m new : Memory) (page list : ℕ) → CanTakeOff pages m page list → Unlinks (word_in m) (word_in new) pages.heads.items after page list → (live : List Extent) (waiting : List ℕ) → HasBlocks pages m live waiting → KeepsWords m new live
off_keeps pages after m new page list c u live waiting f = keeps_on pages after m new page list (on_list c) u live waiting f

pub links_keep : (pages : Pages) (after : List ℕ) (m new : Memory) (page list kind : ℕ) (live : List Extent) (waiting : List ℕ) → IsPage pages.page pages.count page → Links (word_in m) (word_in new) pages.heads.items after page list kind → HasBlocksBut pages m live waiting page → KeepsWords m new live
links_keep pages after m new page list kind live waiting is_page u f =
    let size = pages.page in
    let count = pages.count in
    let next = slice_index pages.heads.items list in
    let is_next : next ≡ first_of_list (f.lists.lists list) = f.lists.heads_are list in
    let next_page : (next ≡ 0) ⊎ IsPage size count next = subst (λ (y : ℕ). (y ≡ 0) ⊎ IsPage size count y) (sym is_next) (first_page size count (f.lists.lists list) (f.lists.pages list)) in
    keeps_at m new size count live f.blocks.inside (λ e at. u.rest e (no_header size count e page 4 at (inr is_page) (omega arith)) (no_header size count e page 5 at (inr is_page) (omega arith)) (no_header size count e page 6 at (inr is_page) (omega arith)) (no_header size count e next 5 at next_page (omega arith)))

inside_apart : (x y : Extent) (e : ℕ) → 0 < x.1 → IsApart x y → IsInside y e → e ≢ x.0
inside_apart x y e some a h = elim a [ inl p ↦ (λ same. omega (arith, same, h.0)) | inr q ↦ (λ same. omega (arith, same, h.1)) ]

pub taken_kept : {except : ℕ} (pages : Pages) (m new : Memory) (page n x : ℕ) → CanTakeFrom pages m except page n → Taken (word_in m) (word_in new) page n x
    → (live : List Extent) (waiting : List ℕ) → HasBlocksBut pages m live waiting except → HasBlocksBut pages new ((x, n) ∷ live) waiting except → KeepsWords m new live
taken_kept pages m new page n x c t live waiting f after =
    let size = pages.page in
    let count = pages.count in
    let two : 2 ≤ n = c.low in
    Each-both (IsInPages size count) (IsApart (x, n)) (λ y. (e : ℕ) → IsInside y e → word_in new e ≡ word_in m e) (λ y is apart e i.
    let at = at_block size count e y is i in
    let away : e ≢ x = inside_apart (x, n) y e (omega arith) apart i in
    let head : (k : ℕ) → k < 8 → e ≢ page + k = λ k small. no_header size count e page k at (inr c.is_page) small in
    elim (eqb_tells (word_in m (page + 1)) 0) [
      | inl z ↦ (t.fresh z.1).rest e (head 2 (omega arith)) (head 3 (omega arith)) (head 3 (omega arith)) away
      | inr z ↦ (t.chained z.1).rest e (head 1 (omega arith)) (head 2 (omega arith)) (head 2 (omega arith)) away
    ]) live f.blocks.inside after.blocks.apart.0

pub taken_keeps : (pages : Pages) (m new : Memory) (page n x : ℕ) → CanTakeUnlisted pages m page n → Taken (word_in m) (word_in new) page n x → IsInArenas m new → (live : List Extent) (waiting : List ℕ) → HasBlocksBut pages m live waiting page → KeepsWords m new live
taken_keeps pages m new page n x c t s live waiting f = taken_kept pages m new page n x c t live waiting f (taken_fits pages m new page n x c t s live waiting f)

pub taken_clear : (m new : Memory) (page n x : ℕ) → Taken (word_in m) (word_in new) page n x → word_in new x ≡ 0
taken_clear m new page n x t = elim (eqb_tells (word_in m (page + 1)) 0) [ inl z ↦ (t.fresh z.1).cleared | inr y ↦ (t.chained y.1).cleared ]

pub started_keeps : (pages : Pages) (m new : Memory) (page n except : ℕ) → IsPage pages.page pages.count page → Starts (word_in m) (word_in new) page n → (live : List Extent) (waiting : List ℕ) → HasBlocksBut pages m live waiting except → KeepsWords m new live
started_keeps pages m new page n except is g live waiting f =
    let size = pages.page in
    keeps_at m new size pages.count live f.blocks.inside (λ e at.
    let zero_ : e ≢ page + 0 = no_header size pages.count e page 0 at (inr is) (omega arith) in
    g.rest e (omega arith) (no_header size pages.count e page 1 at (inr is) (omega arith)) (no_header size pages.count e page 2 at (inr is) (omega arith)) (no_header size pages.count e page 3 at (inr is) (omega arith)))

pub cleared_keeps : (pages : Pages) (m new : Memory) (page except : ℕ) → IsPage pages.page pages.count page → Clears (word_in m) (word_in new) page → (live : List Extent) (waiting : List ℕ) → HasBlocksBut pages m live waiting except → KeepsWords m new live
cleared_keeps pages m new page except is g live waiting f =
    let size = pages.page in
    keeps_at m new size pages.count live f.blocks.inside (λ e at.
    let zero_ : e ≢ page + 0 = no_header size pages.count e page 0 at (inr is) (omega arith) in
    let word : (i : ℕ) → i < 8 → e ≢ page + i = λ i small. no_header size pages.count e page i at (inr is) small in
    g.rest e (word 6 (omega arith)) (omega arith) (word 1 (omega arith)) (word 2 (omega arith)) (word 3 (omega arith)))

-- a block that goes on the chain changes no word of another
pub given_keeps : (pages : Pages) (m new : Memory) (page a n except : ℕ) → 2 ≤ n → IsPage pages.page pages.count page → GivesBack (word_in m) (word_in new) page a → (live : List Extent) (waiting : List ℕ) → HasBlocksBut pages m ((a, n) ∷ live) waiting except → KeepsWords m new live
given_keeps pages m new page a n except two is g live waiting f =
    let size = pages.page in
    Each-both (IsInPages size pages.count) (IsApart (a, n)) (λ y. (e : ℕ) → IsInside y e → word_in new e ≡ word_in m e) (λ y inside apart e i.
    let at = at_block size pages.count e y inside i in
    let first : e ≢ a = inside_apart (a, n) y e (omega arith) apart i in
    let second : e ≢ a + 1 = elim apart [ inl p ↦ (λ same. omega (arith, same, i.0)) | inr q ↦ (λ same. omega (arith, same, i.1)) ] in
    g.rest e (no_header size pages.count e page 1 at (inr is) (omega arith)) (no_header size pages.count e page 2 at (inr is) (omega arith)) first second) live f.blocks.inside.1 f.blocks.apart.0
