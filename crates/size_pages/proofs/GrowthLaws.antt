-- An arena more, and which page a block comes from.
use Rattle.std.proofs.Common.{◌≡◌, ◌≢◌, ℕ, ◌+◌, ◌*◌, ◌<◌, ◌≤◌, inl, inr, List, [], ◌∷◌, length, replicate, slice_index, vec_capacity, arith, refl, sym, ◌∙◌, ap, subst}
use Rattle.std.proofs.lemmas.Bool.{cases_lt}
use Rattle.std.proofs.lemmas.Bool.Decides.{eqb_tells, nat_tests}
use Rattle.std.specs.List.{filter}
use Rattle.heap_space.specs.Places.{zeros_at}
use Rattle.heap_space.specs.Memory.{Memory, with_arena}
use Rattle.heap_space.specs.Order.{IsInOrder}
use Rattle.heap_space.specs.Extents.{Extent, Each, begins_between, extents_between, KeepsOutside}
use Rattle.heap_space.proofs.Blocks.{length-zeros_at, word_at-none}
use Rattle.heap_space.proofs.ExtentLaws.{Each-map, extents-elsewhere, word_at-zeros, lies_within-with_block}
use Rattle.size_pages.specs.PageWords.{Words, word_in, CanStore, IsInArenas}
use Rattle.size_pages.specs.LiveBlocks.{page_at, in_page, blocks_of, PageIs, IsInPages, BlocksFit, ClassesFit}
use Rattle.size_pages.specs.PageLists.{EachPlace, IsIn, first_of_list, IsPage, list_number, list_of, IsListedRightly, ListsFit}
use Rattle.size_pages.specs.HasBlocks.{HasBlocks, Stands}
use Rattle.size_pages.specs.Growth.{AllUsed}
use Rattle.size_pages.specs.Calls.{NoneHasRoom}
use Rattle.size_pages.specs.declared.Pages.{Pages}
use Rattle.size_pages.proofs.FitLaws.{pages_part, filter_skips, in_page_false}
use Rattle.size_pages.proofs.ListMoves.{not_zero, right_unused}
use Rattle.size_pages.proofs.FitsLaws.{page_mono, places_of}
use Rattle.size_pages.proofs.ListLaws.{places_map}

funext : {A B : Type 0} {f g : A → B} → ((a : A) → f a ≡ g a) → f ≡ g
funext h = λ i a. h a i

same_words : (P : Words → Type 0) (v w : Words) → ((a : ℕ) → w a ≡ v a) → P v → P w
same_words P v w e h = subst P (funext (λ a. sym (e a))) h

-- the words of a new arena are 0, as those of no block are
pub arena_words_same : (m : Memory) → IsInOrder m → IsInOrder (with_arena m) → (b : ℕ) → word_in (with_arena m) b ≡ word_in m b
arena_words_same m o n b =
    word_at-zeros m.blocks m.next_arena m.arena_words (λ a low high. let end : m.next_arena + m.arena_words ≤ 1099511627776 = n.arenas_end in o.free a low (omega arith)) b

arena_end : (size count per words : ℕ) → words ≡ size * per → page_at size count + words ≡ page_at size (count + per)
arena_end size count per words e = grind arith

-- no block lies in a page beyond the last
no_blocks : (size count k : ℕ) (live : List Extent) → count ≤ k → Each (IsInPages size count) live → blocks_of size (page_at size k) live ≡ []
no_blocks size count k [] beyond all = refl
no_blocks size count k (x ∷ xs) beyond all =
    let i = all.0 in
    let below : i.page < count = i.below in
    let high : x.0 + x.1 ≤ page_at size i.page + size = i.high in
    let two : 2 ≤ x.1 = i.wide in
    let part : page_at size i.page + size ≤ page_at size k = pages_part size i.page k (omega arith) in
    filter_skips (in_page size (page_at size k)) x xs (in_page_false size (page_at size k) x (inl (omega arith))) ∙ no_blocks size count k xs beyond all.1

page_grows : (size count n p : ℕ) → IsPage size count p → IsPage size (count + n) p
page_grows size count n p i = let b : i.number < count = i.below in record { number = i.number; below = omega arith; is = i.is }

-- the words of a header that are 0 in an unused page
abbrev NoneIn : Words → ℕ → ℕ → Type 0
NoneIn w size k = (i : ℕ) → i < 8 → w (page_at size k + i) ≡ 0

-- so many pages more, which are unused
module _ (w : Words) (size count n : ℕ) (none : (k : ℕ) → count ≤ k → k < count + n → NoneIn w size k) where
  class_none : (k : ℕ) → count ≤ k → k < count + n → w (page_at size k) ≡ 0
  class_none k low high = subst (λ (e : ℕ). w e ≡ 0) (omega arith) (none k low high 0 (omega arith))

  more_blocks : (live : List Extent) → BlocksFit w size count live → BlocksFit w size (count + n) live
  more_blocks live h = record {
    size_low = h.size_low;
    pages = λ k below. elim (cases_lt k count) [
      | inl a ↦ h.pages k a
      | inr b ↦ subst (λ (bs : List Extent). PageIs w size (page_at size k) bs) (sym (no_blocks size count k live b h.inside)) (record { free = []; unused = λ e. refl; holds = λ e. absurd (e (class_none k b below)) })
    ];
    inside = Each-map (IsInPages size count) (IsInPages size (count + n)) (λ x i. let b : i.page < count = i.below in record { page = i.page; below = omega arith; wide = i.wide; low = i.low; high = i.high }) live h.inside;
    apart = h.apart;
  }

  more_classes : (most lowest : ℕ) → ClassesFit w size count most lowest → ClassesFit w size (count + n) most lowest
  more_classes most lowest h = record {
    small = λ k below. elim (cases_lt k count) [ inl a ↦ h.small k a | inr b ↦ subst (λ (c : ℕ). c ≤ most) (sym (class_none k b below)) (omega arith) ];
    within = let i : lowest ≤ count = h.within in omega arith;
    used = h.used;
    last = λ k below. elim (cases_lt k count) [ inl a ↦ h.last k a | inr b ↦ none k b below 7 (omega arith) ];
  }

  more_lists : (heads waiting : List ℕ) → ListsFit w size count heads waiting 0 → ListsFit w size (count + n) heads waiting 0
  more_lists heads waiting h = record {
    lists = h.lists;
    none = h.none;
    waits = h.waits;
    heads_are = h.heads_are;
    linked = h.linked;
    distinct = h.distinct;
    pages = λ s. places_map (IsPage size count) (IsPage size (count + n)) (page_grows size count n) (h.lists s) (h.pages s);
    right = h.right;
    listed = λ k below used other. elim (cases_lt k count) [ inl a ↦ h.listed k a used other | inr b ↦ absurd (used (class_none k b below)) ];
    rightly = λ k below other. elim (cases_lt k count) [ inl a ↦ h.rightly k a other | inr b ↦ right_unused w size (page_at size k) (class_none k b below) (none k b below 6 (omega arith)) ];
  }

-- an arena is added to pages
module _ (pages : Pages) (m : Memory) (o : IsInOrder m) (n : IsInOrder (with_arena m)) (room : pages.count + pages.pages_per_arena ≤ vec_capacity pages.order) (long : 2 * pages.small + 2 ≤ length pages.heads.items) (live : List Extent) (waiting : List ℕ) (f : HasBlocks pages m live waiting) where
  arena_total : m.next_arena + m.arena_words ≡ page_at pages.page (pages.count + pages.pages_per_arena)
  arena_total = ap (λ (k : ℕ). k + m.arena_words) f.arenas.end ∙ arena_end pages.page pages.count pages.pages_per_arena m.arena_words f.setup.arena_size

  -- its first page is unused
  pub arena_unused : word_in m (page_at pages.page pages.count) ≡ 0
  arena_unused =
      let end : m.next_arena ≡ page_at pages.page pages.count = f.arenas.end in
      let short : m.next_arena + m.arena_words ≤ 1099511627776 = n.arenas_end in
      let some : 0 < m.arena_words = o.arena_some in
      word_at-none m.blocks (page_at pages.page pages.count) (o.free (page_at pages.page pages.count) (omega arith) (omega arith))

  pub arena_fits : HasBlocks (record pages { count = pages.count + pages.pages_per_arena }) (with_arena m) live waiting
  arena_fits =
      let size = pages.page in
      let count = pages.count in
      let per = pages.pages_per_arena in
      let new = with_arena m in
      let same = arena_words_same m o n in
      let short : m.next_arena + m.arena_words ≤ 1099511627776 = n.arenas_end in
      let some : 0 < m.arena_words = o.arena_some in
      let end : m.next_arena ≡ page_at size count = f.arenas.end in
      let total = arena_total in
      let wide : 64 ≤ size = f.blocks.size_low in
      let none : (k : ℕ) → count ≤ k → k < count + per → NoneIn (word_in m) size k = λ k low high i small.
      let base : page_at size count ≤ page_at size k = page_mono size count k low in
      let part : page_at size k + size ≤ page_at size (count + per) = pages_part size k (count + per) high in
      word_at-none m.blocks (page_at size k + i) (o.free (page_at size k + i) (omega arith) (omega arith)) in
      record {
        setup = f.setup;
        arenas = record {
          end = total;
          below = omega arith;
          placed = λ k low. elim (cases_lt k count) [
            | inl old ↦ lies_within-with_block m new 4294967296 m.next_arena (m.next_arena + m.arena_words) (zeros_at m.next_arena m.arena_words) (page_at size k) size refl (omega arith) (inr (f.arenas.placed k old))
            | inr more ↦ lies_within-with_block m new 4294967296 m.next_arena (m.next_arena + m.arena_words) (zeros_at m.next_arena m.arena_words) (page_at size k) size refl (omega arith)
                (inl (let len : length (replicate m.arena_words 0) ≡ m.arena_words = length-zeros_at m.next_arena m.arena_words in
                let base : 4294967296 ≤ m.next_arena = omega arith in
                let from : page_at size count ≤ page_at size k = page_mono size count k more in
                let upto : page_at size k + size ≤ page_at size (count + per) = pages_part size k (count + per) low in
                (base, omega arith, omega arith, omega arith)))
          ];
        };
        blocks = same_words (λ (w : Words). BlocksFit w size (count + per) live) (word_in m) (word_in new) same (more_blocks (word_in m) size count per none live f.blocks);
        classes = same_words (λ (w : Words). ClassesFit w size (count + per) pages.small pages.lowest) (word_in m) (word_in new) same (more_classes (word_in m) size count per none pages.small pages.lowest f.classes);
        lists = same_words (λ (w : Words). ListsFit w size (count + per) pages.heads.items waiting 0) (word_in m) (word_in new) same (more_lists (word_in m) size count per none pages.heads.items waiting f.lists);
        heads = λ some. long;
        waits = f.waits;
        rising = f.rising;
        room = room;
      }

pub arenas_outside : (m new : Memory) → IsInArenas m new → KeepsOutside 4294967296 1099511627776 m new
arenas_outside m new s =
    let extents : (low high : ℕ) → extents_between low high new ≡ extents_between low high m = λ low high. ap (λ (xs : List Extent). filter (begins_between low high) xs) s.extents in
    record {
      below = record { blocks = extents 0 4294967296; words = λ a low high out. s.words a (inl high) };
      above = λ end. record { blocks = extents 1099511627776 end; words = λ a low high out. s.words a (inr low) };
    }

pub outside_then : (a b c : Memory) → KeepsOutside 4294967296 1099511627776 a b → KeepsOutside 4294967296 1099511627776 b c → KeepsOutside 4294967296 1099511627776 a c
outside_then a b c h g = record {
  below = record { blocks = g.below.blocks ∙ h.below.blocks; words = λ e low high out. g.below.words e low high out ∙ h.below.words e low high out };
  above = λ end. record { blocks = (g.above end).blocks ∙ (h.above end).blocks; words = λ e low high out. (g.above end).words e low high out ∙ (h.above end).words e low high out };
}

pub arena_outside : (m : Memory) → 4294967296 ≤ m.next_arena → IsInOrder m → IsInOrder (with_arena m) → KeepsOutside 4294967296 1099511627776 m (with_arena m)
arena_outside m base o n =
    let new = with_arena m in
    let same = arena_words_same m o n in
    let end : m.next_arena + m.arena_words ≤ 1099511627776 = n.arenas_end in
    let some : 0 < m.arena_words = o.arena_some in
    let q = zeros_at m.next_arena m.arena_words in
    record {
      below = record { blocks = extents-elsewhere m new 0 4294967296 q refl (grind (arith, nat_tests)); words = λ a low high out. same a };
      above = λ top. record { blocks = extents-elsewhere m new 1099511627776 top q refl (grind (arith, nat_tests)); words = λ a low high out. same a };
    }

-- the first of an empty list is 0, and that of no other list of pages
none_first : (size count : ℕ) (xs : List ℕ) (p : ℕ) → EachPlace (IsPage size count) xs → first_of_list xs ≡ 0 → IsIn p xs → ⊥
none_first size count [] p all z i = i
none_first size count (x ∷ xs) p all z i = not_zero size count x all.0 z

kind_with_room : (kind class n : ℕ) → 2 ≤ n → class ≡ n → kind ≤ 3 → kind ≢ 3 → kind ≢ 2 → (kind ≡ 0 → class ≡ 0) → list_number kind class ≡ 2 * n
kind_with_room kind class n two e high no3 no2 zero_ = grind (arith, nat_tests)

-- where no list of pages with room for n words is, no page of them has room, but for waiting ones
pub none_has_room : (pages : Pages) (m : Memory) (n : ℕ) (live : List Extent) (waiting : List ℕ) → HasBlocks pages m live waiting → 2 ≤ n → slice_index pages.heads.items (2 * n) ≡ 0 → NoneHasRoom (word_in m) pages.page pages.count n
none_has_room pages m n live waiting f two none k below class no3 room =
    let size = pages.page in
    let p = page_at size k in
    let w = word_in m in
    let right : IsListedRightly w size p = f.lists.rightly k below (omega arith) in
    let no2 : w (p + 6) ≢ 2 = λ e. let full = right.full e in elim room [ inl a ↦ a full.0 | inr b ↦ omega (arith, full.1, b) ] in
    let s : list_of w p ≡ 2 * n = kind_with_room (w (p + 6)) (w p) n two class right.known no3 no2 right.unused in
    let used : w p ≢ 0 = λ z. omega (arith, z, class, two) in
    none_first size pages.count (f.lists.lists (2 * n)) p (f.lists.pages (2 * n)) (sym (f.lists.heads_are (2 * n)) ∙ none)
    (subst (λ (t : ℕ). IsIn p (f.lists.lists t)) s (f.lists.listed k below used (omega arith)))

pub used_more : (w : Words) (size k : ℕ) → AllUsed w size k → w (page_at size k) ≢ 0 → AllUsed w size (k + 1)
used_more w size k all n j below = elim (eqb_tells j k) [
  | inl a ↦ subst (λ (i : ℕ). w (page_at size i) ≢ 0) (sym a.1) n
  | inr b ↦ all j (let d : j ≢ k = b.1 in omega arith)
]

pub page_can : (pages : Pages) (m : Memory) (k : ℕ) → Stands pages m → k < pages.count → CanStore m (page_at pages.page k)
page_can pages m k s below =
    let f = s.fits in
    let wide : 64 ≤ pages.page = f.blocks.size_low in
    let part : page_at pages.page k + pages.page ≤ page_at pages.page pages.count = pages_part pages.page k pages.count below in
    places_of f (page_at pages.page k) (omega arith) (omega arith)
