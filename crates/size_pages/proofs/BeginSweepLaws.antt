-- A sweep begins: each page with live blocks waits.
use Rattle.std.proofs.Common.{◌≡◌, ◌≢◌, ℕ, ◌+◌, ◌*◌, ◌<◌, ◌≤◌, inl, inr, Bool, true, false, cond, nat_le, List, [], ◌∷◌, ◌++◌, length, append-nil, append_assoc, arith, refl, sym, ◌∙◌, ap, subst}
use Rattle.std.proofs.lemmas.Bool.{cases_lt}
use Rattle.std.proofs.lemmas.Bool.Decides.{eqb_tells, nat_tests}
use Rattle.std.specs.List.{filter}
use Rattle.heap_space.specs.Memory.{Memory}
use Rattle.heap_space.specs.Extents.{Extent, Each, KeepsWords}
use Rattle.heap_space.proofs.ExtentLaws.{Each-map, Each-both}
use Rattle.size_pages.specs.PageWords.{Words, word_in, IsInArenas}
use Rattle.size_pages.specs.PageBlocks.{PageHolds, Chain}
use Rattle.size_pages.specs.LiveBlocks.{page_at, blocks_of, in_page, PageIs, IsInPages}
use Rattle.size_pages.specs.PageLists.{EachPlace, IsIn, IsPage, IsListedRightly}
use Rattle.size_pages.specs.HasBlocks.{HasBlocks, IsRising, KeepsSizes}
use Rattle.size_pages.specs.Calls.{page_of, NoneWaits, HasLive, BeginsSweep}
use Rattle.size_pages.specs.SweepSteps.{CanWait, WaitsMore}
use Rattle.size_pages.specs.Growth.{IsOnlyOrder}
use Rattle.size_pages.specs.Gathering.{IsUsed, IsOrder}
use Rattle.size_pages.specs.declared.Pages.{Pages}
use Rattle.size_pages.proofs.FitLaws.{pages_part, in_page_true}
use Rattle.size_pages.proofs.ListLaws.{places_map, places_both, places_at}
use Rattle.size_pages.proofs.FitsLaws.{page_mono}
use Rattle.size_pages.proofs.GiveLaws.{page_number}
use Rattle.size_pages.proofs.KeepLaws.{keeps_then, keeps_same}
use Rattle.size_pages.proofs.ArenaLaws.{arenas_then, arenas_same}
use Rattle.size_pages.proofs.EndLaws.{order_fits}
use Rattle.size_pages.proofs.WaitLaws.{waits_exactly}
use Rattle.size_pages.proofs.TimesLaws.{each_from}

-- the pages of `order` are in use, and do not wait yet: all above them that are in use do
pub record WaitsBut (old new : Pages) (m after : Memory) (order : List ℕ) : Type 0 where
  pub waiting : List ℕ
  pub all : IsOrder old m (order ++ waiting)
  pub fits : (live : List Extent) → HasBlocks old m live [] → HasBlocks new after live waiting
  pub later : EachPlace (λ q. word_in after (q + 6) ≡ word_in m (q + 6)) order
  pub classes : (j : ℕ) → j < old.count → word_in after (page_at old.page j) ≡ word_in m (page_at old.page j)
  pub kept : (live : List Extent) → HasBlocks old m live [] → KeepsWords m after live
  pub sizes : KeepsSizes old new
  pub count : new.count ≡ old.count
  pub arenas : IsInArenas m after

pub waits_start : (old new : Pages) (m : Memory) (order : List ℕ) → IsOrder old m order → IsOnlyOrder old new → WaitsBut old new m m order
waits_start old new m order h only = record {
  waiting = [];
  all = subst (IsOrder old m) (sym (append-nil order)) h;
  fits = λ live f. order_fits old new m live [] 0 only f;
  later = each_from (λ q. word_in m (q + 6) ≡ word_in m (q + 6)) order (λ q i. refl);
  classes = λ j low. refl;
  kept = λ live f. keeps_same m m live (λ e. refl);
  sizes = only.sizes;
  count = only.count;
  arenas = arenas_same m;
}

-- no page waits in a memory where none does
none_three : (pages : Pages) (m : Memory) (live : List Extent) (k : ℕ) → HasBlocks pages m live [] → k < pages.count → word_in m (page_at pages.page k + 6) ≢ 3
none_three pages m live k f below three = (waits_exactly pages m (page_at pages.page k) live [] f (record { number = k; below = below; is = refl })).0 three

rising_around : (p : ℕ) (xs ys : List ℕ) → IsRising (xs ++ p ∷ ys) → EachPlace (λ q. q < p) xs × EachPlace (λ q. p < q) ys
rising_around p [] ys h = (tt, h.0)
rising_around p (x ∷ xs) ys h = let rest = rising_around p xs ys h.1 in ((places_at (λ q. x < q) xs ys p h.0, rest.0), rest.1)

places_front : (P : ℕ → Type 0) (xs ys : List ℕ) → EachPlace P (xs ++ ys) → EachPlace P xs
places_front P [] ys all = tt
places_front P (x ∷ xs) ys all = (all.0, places_front P xs ys all.1)

-- the last page of the order goes in front of the waiting ones
module _ (old new less : Pages) (m after : Memory) (order : List ℕ) (page : ℕ) (n : NoneWaits old m) (h : WaitsBut old new m after (order ++ page ∷ [])) (only : IsOnlyOrder new less) where
  all_of : IsOrder old m (order ++ page ∷ h.waiting)
  all_of = subst (IsOrder old m) (append_assoc order (page ∷ []) h.waiting) h.all

  its_use : IsUsed old m page
  its_use = places_at (IsUsed old m) order h.waiting page all_of.used

  size_same : less.page ≡ old.page
  size_same = only.sizes.page ∙ h.sizes.page

  count_same : less.count ≡ old.count
  count_same = only.count ∙ h.count

  fits_less : (live : List Extent) → HasBlocks old m live [] → HasBlocks less after live h.waiting
  fits_less live f = order_fits new less after live h.waiting 0 only (h.fits live f)

  pub can_wait_next : CanWait less after page
  can_wait_next =
      let u = its_use in
      let is = u.is_page in
      let class : word_in after page ≡ word_in m page = subst (λ (q : ℕ). word_in after q ≡ word_in m q) (sym is.is) (h.classes is.number is.below) in
      let kind : word_in after (page + 6) ≡ word_in m (page + 6) = places_at (λ q. word_in after (q + 6) ≡ word_in m (q + 6)) order [] page h.later in
      record {
        live = n.live;
        waiting = h.waiting;
        fits = fits_less n.live n.fits;
        is_page = subst (λ (s : ℕ). IsPage s less.count page) (sym size_same) (subst (λ (k : ℕ). IsPage old.page k page) (sym count_same) is);
        used = λ e. u.used (sym class ∙ e);
        not_waiting = λ e. none_three old m n.live is.number n.fits is.below (ap (λ (q : ℕ). word_in m (q + 6)) (sym is.is) ∙ sym kind ∙ e);
      }

  pub waits_next : (last : Pages) (final : Memory) → WaitsMore less last after final page → WaitsBut old last m final order
  waits_next last final g =
      let around = rising_around page order h.waiting all_of.rising in
      let more : (live : List Extent) → HasBlocks old m live [] → HasBlocks last final live (page ∷ h.waiting) = λ live f. g.fits live h.waiting (fits_less live f) around.1 in
      let low : EachPlace (λ q. q < page) order = around.0 in
      let before : EachPlace (IsUsed old m) order = places_front (IsUsed old m) order (page ∷ h.waiting) all_of.used in
      let words : EachPlace (λ q. word_in final (q + 6) ≡ word_in after (q + 6)) order = places_both (IsUsed old m) (λ q. q < page) (λ q. word_in final (q + 6) ≡ word_in after (q + 6))
      (λ q u less_than.
      let is = u.is_page in
      let at : q ≡ page_at less.page is.number = is.is ∙ ap (λ (s : ℕ). page_at s is.number) (sym size_same) in
      subst (λ (r : ℕ). word_in final (r + 6) ≡ word_in after (r + 6)) (sym at) (g.others is.number (omega (arith, count_same, is.below)) (λ e. omega (arith, at ∙ e, less_than)))) order before low in
      record {
        waiting = page ∷ h.waiting;
        all = all_of;
        fits = more;
        later = places_both (λ q. word_in final (q + 6) ≡ word_in after (q + 6)) (λ q. word_in after (q + 6) ≡ word_in m (q + 6)) (λ q. word_in final (q + 6) ≡ word_in m (q + 6)) (λ q a b. a ∙ b) order words
            (places_front (λ q. word_in after (q + 6) ≡ word_in m (q + 6)) order (page ∷ []) h.later);
        classes = λ j below. subst (λ (s : ℕ). word_in final (page_at s j) ≡ word_in after (page_at s j)) size_same (g.classes j (omega (arith, count_same, below))) ∙ h.classes j below;
        kept = λ live f. keeps_then m after final live (h.kept live f) (g.kept live h.waiting (fits_less live f));
        sizes = record { page = g.sizes.page ∙ size_same; pages_per_arena = g.sizes.pages_per_arena ∙ only.sizes.pages_per_arena ∙ h.sizes.pages_per_arena; small = g.sizes.small ∙ only.sizes.small ∙ h.sizes.small };
        count = g.count ∙ count_same;
        arenas = arenas_then m after final h.arenas g.arenas;
      }

no_places : (xs : List ℕ) → length xs ≡ 0 → xs ≡ []
no_places [] e = refl
no_places (x ∷ xs) e = absurd (omega (arith, e))

pub waits_end : (old new less : Pages) (m after : Memory) (order : List ℕ) → length order ≡ 0 → IsOnlyOrder new less → WaitsBut old new m after order → WaitsBut old less m after []
waits_end old new less m after order none only h = record {
  waiting = h.waiting;
  all = subst (λ (xs : List ℕ). IsOrder old m (xs ++ h.waiting)) (no_places order none) h.all;
  fits = λ live f. order_fits new less after live h.waiting 0 only (h.fits live f);
  later = tt;
  classes = h.classes;
  kept = h.kept;
  sizes = record { page = only.sizes.page ∙ h.sizes.page; pages_per_arena = only.sizes.pages_per_arena ∙ h.sizes.pages_per_arena; small = only.sizes.small ∙ h.sizes.small };
  count = only.count ∙ h.count;
  arenas = h.arenas;
}

chain_none : (w : Words) (n : ℕ) (free : List Extent) → Chain w n 0 free → length free ≡ 0
chain_none w n [] c = refl
chain_none w n (x ∷ xs) c = absurd (omega (arith, c.1))

none_live : (w : Words) (size p : ℕ) (free : List Extent) → PageHolds w size p free [] → w (p + 1) ≡ 0 → w (p + 3) ≡ p + 8
none_live w size p free h none =
    let f : length free ≡ 0 = chain_none w (w p) free (subst (λ (q : ℕ). Chain w (w p) q free) none h.chain) in
    sym h.all ∙ ap (λ (k : ℕ). (k + 0) * w p + (p + 8)) f ∙ omega arith

-- a page in use that does not wait has a live block
pub HasBlocks_used : (pages : Pages) (m : Memory) (live : List Extent) (waiting : List ℕ) (k : ℕ) → HasBlocks pages m live waiting → k < pages.count → word_in m (page_at pages.page k) ≢ 0 → word_in m (page_at pages.page k + 6) ≢ 3 → HasLive pages.page live (page_at pages.page k)
HasBlocks_used pages m live waiting k f below used no3 none =
    let size = pages.page in
    let p = page_at size k in
    let w = word_in m in
    let is : PageIs w size p [] = subst (λ (bs : List Extent). PageIs w size p bs) none (f.blocks.pages k below) in
    let h = is.holds used in
    let right : IsListedRightly w size p = f.lists.rightly k below (omega arith) in
    let no0 : w (p + 6) ≢ 0 = λ e. used (right.unused e) in
    let known : w (p + 6) ≤ 3 = right.known in
    let count : w (p + 2) ≡ 0 = h.count in
    let class : w p ≤ pages.small = f.classes.small k below in
    let small : pages.small + 8 ≤ size = f.setup.small_high in
    elim (eqb_tells (w (p + 6)) 1) [
      | inl a ↦ (let busy : 0 < w (p + 2) = right.busy a.1 in omega arith)
      | inr b ↦ (let two : w (p + 6) ≡ 2 = (let d : w (p + 6) ≢ 1 = b.1 in omega arith) in let full = right.full two in let fresh : w (p + 3) ≡ p + 8 = none_live w size p is.free h full.0 in omega (arith, full.1))
    ]

-- the blocks of a page, and those that begin at a later page or above it, are together no more than those from this page on
more_above : (size p q : ℕ) (xs : List Extent) → p + size ≤ q → length (filter (in_page size p) xs) + length (filter (λ x. nat_le q x.0) xs) ≤ length (filter (λ x. nat_le p x.0) xs)
more_above size p q [] far = omega arith
more_above size p q (x ∷ xs) far = grind (arith, nat_tests, more_above size p q xs far)

some_length : (xs : List Extent) → xs ≢ [] → 1 ≤ length xs
some_length [] n = absurd (n refl)
some_length (x ∷ xs) n = omega arith

all_above : (a : ℕ) (xs : List Extent) → length (filter (λ x. nat_le a x.0) xs) ≤ length xs
all_above a [] = omega arith
all_above a (x ∷ xs) = grind (arith, nat_tests, all_above a xs)

next_page_far : (size count p q : ℕ) → IsPage size count p → IsPage size count q → p < q → p + size ≤ q
next_page_far size count p q ip iq less =
    let at : p ≡ page_at size ip.number = ip.is in
    let to : q ≡ page_at size iq.number = iq.is in
    elim (cases_lt ip.number iq.number) [
      | inl a ↦ (let part : page_at size ip.number + size ≤ page_at size iq.number = pages_part size ip.number iq.number a in omega arith)
      | inr b ↦ absurd (let up : page_at size iq.number ≤ page_at size ip.number = page_mono size iq.number ip.number b in omega arith)
    ]

pages_few : (size count p : ℕ) (ps : List ℕ) (live : List Extent) → IsRising (p ∷ ps) → EachPlace (IsPage size count) (p ∷ ps) → EachPlace (HasLive size live) (p ∷ ps) → length (p ∷ ps) ≤ length (filter (λ x. nat_le p x.0) live)
pages_few size count p [] live r all some =
    let one = some_length (filter (in_page size p) live) some.0 in let more = more_above size p (p + size) live (omega arith) in omega arith
pages_few size count p (q ∷ ps) live r all some =
    let one = some_length (filter (in_page size p) live) some.0 in
    let more = more_above size p q live (next_page_far size count p q all.0 all.1.0 r.0.0) in
    let rest = pages_few size count q ps live r.1 all.1 some.1 in omega arith

waiting_few : (size count : ℕ) (ps : List ℕ) (live : List Extent) → IsRising ps → EachPlace (IsPage size count) ps → EachPlace (HasLive size live) ps → length ps ≤ length live
waiting_few size count [] live r all some = omega arith
waiting_few size count (p ∷ ps) live r all some = let few = pages_few size count p ps live r all some in let top = all_above p live in omega arith

-- the page of a live block
own_page : (pages : Pages) (m : Memory) (live : List Extent) (x : Extent) → HasBlocks pages m live [] → (is : IsInPages pages.page pages.count x) → page_of pages.page x.0 ≡ page_at pages.page is.page
own_page pages m live x f is =
    let wide : 64 ≤ pages.page = f.blocks.size_low in
    let low : page_at pages.page is.page + 8 ≤ x.0 = is.low in
    let high : x.0 + x.1 ≤ page_at pages.page is.page + pages.page = is.high in
    let two : 2 ≤ x.1 = is.wide in
    ap (page_at pages.page) (page_number pages.page is.page x.0 wide (omega arith) (omega arith))

out_case : (b : Bool) (x : Extent) (xs : List Extent) → cond b (x ∷ xs) xs ≡ [] → (b ≡ false) × (xs ≡ [])
out_case true x xs e = absurd (let l : length (x ∷ xs) ≡ 0 = ap length e in omega arith)
out_case false x xs e = (refl, e)

-- where a page has no block, no block lies in it
pub out_each : (size p : ℕ) (xs : List Extent) → blocks_of size p xs ≡ [] → Each (λ x. in_page size p x ≡ false) xs
out_each size p [] e = tt
out_each size p (x ∷ xs) e = let o = out_case (in_page size p x) x (blocks_of size p xs) e in (o.0, out_each size p xs o.1)

each_for : (size : ℕ) (all xs : List Extent) → ((k : ℕ) → blocks_of size (page_at size k) all ≡ [] → Each (λ x. in_page size (page_at size k) x ≡ false) xs) → Each (λ x. (k : ℕ) → blocks_of size (page_at size k) all ≡ [] → in_page size (page_at size k) x ≡ false) xs
each_for size all [] h = tt
each_for size all (x ∷ xs) h = (λ k e. (h k e).0, each_for size all xs (λ k e. (h k e).1))

-- the page of a live block is in use
pages_in_use : (pages : Pages) (m : Memory) (live : List Extent) → HasBlocks pages m live [] → Each (λ x. (is : IsInPages pages.page pages.count x) × (word_in m (page_at pages.page is.page) ≢ 0)) live
pages_in_use pages m live f =
    let size = pages.page in
    Each-both (IsInPages size pages.count) (λ x. (k : ℕ) → blocks_of size (page_at size k) live ≡ [] → in_page size (page_at size k) x ≡ false) (λ x. (is : IsInPages size pages.count x) × (word_in m (page_at size is.page) ≢ 0))
    (λ x is out. (
      is,
      λ unused.
          let p = page_at size is.page in
          let low : p + 8 ≤ x.0 = is.low in
          let high : x.0 + x.1 ≤ p + size = is.high in
          let two : 2 ≤ x.1 = is.wide in
          let here : in_page size p x ≡ true = in_page_true size p x (omega arith) (omega arith) in
          let away : in_page size p x ≡ false = out is.page ((f.blocks.pages is.page is.below).unused unused) in absurd (cc),
    )) live f.blocks.inside (each_for size live live (λ k e. out_each size (page_at size k) live e))

pub sweep_begun : (old new : Pages) (m after : Memory) → WaitsBut old new m after [] → (live : List Extent) → HasBlocks old m live [] → BeginsSweep new after live
sweep_begun old new m after h live f =
    let size = old.page in
    let g = h.fits live f in
    let same : new.page ≡ size = h.sizes.page in
    let was : EachPlace (IsPage size old.count) h.waiting = places_map (IsUsed old m) (IsPage size old.count) (λ q u. u.is_page) h.waiting h.all.used in
    let only : EachPlace (HasLive size live) h.waiting = places_map (IsUsed old m) (HasLive size live) (λ q u.
    let is = u.is_page in subst (λ (p : ℕ). HasLive size live p) (sym is.is) (HasBlocks_used old m live [] is.number f is.below (λ e. u.used (ap (word_in m) is.is ∙ e)) (none_three old m live is.number f is.below))) h.waiting h.all.used in
    let every : Each (λ x. IsIn (page_of size x.0) h.waiting) live =
    Each-map (λ x. (is : IsInPages size old.count x) × (word_in m (page_at size is.page) ≢ 0)) (λ x. IsIn (page_of size x.0) h.waiting)
    (λ x u. subst (λ (p : ℕ). IsIn p h.waiting) (sym (own_page old m live x f u.0)) (h.all.every u.0.page u.0.below u.1)) live (pages_in_use old m live f) in
    record {
      waiting = h.waiting;
      fits = g;
      every = subst (λ (s : ℕ). Each (λ x. IsIn (page_of s x.0) h.waiting) live) (sym same) every;
      only = subst (λ (s : ℕ). EachPlace (HasLive s live) h.waiting) (sym same) only;
      most = waiting_few size old.count h.waiting live g.rising was only;
    }
