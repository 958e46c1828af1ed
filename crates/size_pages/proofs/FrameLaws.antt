-- What callers may do and know: writes inside live blocks and changes outside the arenas leave the live blocks
-- as they are, and these lie in the memory and apart from each other.
use Rattle.std.proofs.Common.{◌≡◌, ◌≢◌, ℕ, ◌+◌, ◌<◌, ◌≤◌, ◌⊎◌, inl, inr, true, List, ◌∷◌, IsTrue, arith, refl, sym, ◌∙◌, ap, subst}
use Rattle.std.proofs.lemmas.Bool.Decides.{eqb_tells}
use Rattle.std.specs.List.{filter}
use Rattle.heap_space.specs.Places.{lies_in_one, with_word}
use Rattle.heap_space.specs.Memory.{Memory}
use Rattle.heap_space.specs.Extents.{Extent, AreApart, IsInside, IsOutside, extents_between, begins_between, lies_within, IsUntouched}
use Rattle.heap_space.proofs.Blocks.{word_at-elsewhere}
use Rattle.heap_space.proofs.ExtentLaws.{Each-map, extents-with_word, lies_in_one-between, lies_within-part}
use Rattle.size_pages.specs.PageWords.{Words, word_in}
use Rattle.size_pages.specs.LiveBlocks.{page_at, IsInPages}
use Rattle.size_pages.specs.PageLists.{ListsFit, SameSigns}
use Rattle.size_pages.specs.HasBlocks.{HasSetup, HasBlocks}
use Rattle.size_pages.specs.declared.Pages.{Pages}
use Rattle.size_pages.proofs.FitLaws.{pages_apart, pages_part, fits_frame}
use Rattle.size_pages.proofs.ListMoves.{SameLinks, signs_from, lists_frame, rightly_same}
use Rattle.size_pages.proofs.FitsLaws.{below_of, classes_same}
use Rattle.size_pages.proofs.GiveLaws.{used_page}
use Rattle.size_pages.specs.PageBlocks.{PageHolds, IsBlockOf}
use Rattle.size_pages.specs.LiveBlocks.{blocks_of}
use Rattle.heap_space.proofs.ExtentLaws.{Each-right}

outside_header : (size count k i : ℕ) (x : Extent) → i < 8 → IsInPages size count x → (page_at size k + i < x.0) ⊎ (x.0 + x.1 ≤ page_at size k + i)
outside_header size count k i x small is =
    let low : page_at size is.page + 8 ≤ x.0 = is.low in
    let high : x.0 + x.1 ≤ page_at size is.page + size = is.high in
    let two : 2 ≤ x.1 = is.wide in
    elim (eqb_tells is.page k) [
      | inl a ↦ let p : page_at size is.page ≡ page_at size k = ap (page_at size) a.1 in inl (omega arith)
      | inr b ↦ elim (pages_apart size is.page k b.1) [ inl c ↦ inr (omega arith) | inr d ↦ inl (omega arith) ]
    ]

-- the live blocks and the waiting pages are as before, where only words of live blocks and what lies outside the arenas changed
pub HasBlocks_untouched : (pages : Pages) (old new : Memory) (live : List Extent) (waiting : List ℕ) → HasBlocks pages old live waiting → new.next_arena ≡ old.next_arena → new.arena_words ≡ old.arena_words → IsUntouched 4294967296 old.next_arena old new live → HasBlocks pages new live waiting
HasBlocks_untouched pages old new live waiting f next size_same u =
    let size = pages.page in
    let count = pages.count in
    let w = word_in old in
    let now = word_in new in
    let wide : 64 ≤ size = f.blocks.size_low in
    let end : old.next_arena ≡ page_at size count = f.arenas.end in
    let word : (k i : ℕ) → k < count → i < 8 → now (page_at size k + i) ≡ w (page_at size k + i) = λ k i below small.
    let part : page_at size k + size ≤ page_at size count = pages_part size k count below in
    u.words (page_at size k + i) (omega arith) (omega arith) (Each-map (IsInPages size count) (λ x. (page_at size k + i < x.0) ⊎ (x.0 + x.1 ≤ page_at size k + i)) (λ x is. outside_header size count k i x small is) live f.blocks.inside) in
    let signs : (k : ℕ) → k < count → SameSigns w now (page_at size k) = λ k below. signs_from w now (page_at size k) (λ i small n4 n5. word k i below small) in
    let lists : ListsFit now size count pages.heads.items waiting 0 = lists_frame w now size count pages.heads.items waiting 0 f.lists
    (λ x px n. subst (λ (y : ℕ). SameLinks w now y) (sym px.is) (let s = signs px.number px.below in record { class = s.class; next = word px.number 4 px.below (omega arith); before = word px.number 5 px.below (omega arith); kind = s.kind }))
    (λ k below n. rightly_same w now size (page_at size k) (signs k below) (f.lists.rightly k below n)) in
    let P : ℕ → ℕ → Type 0 = λ high k. lies_within (extents_between 4294967296 high new) (page_at size k) size ≡ true in
    record {
      setup = subst (HasSetup size pages.pages_per_arena pages.small) (sym size_same) f.setup;
      arenas = record { end = next ∙ f.arenas.end; below = f.arenas.below; placed = λ k low. subst (λ (high : ℕ). P high k) (sym next) (ap (λ (xs : List Extent). lies_within xs (page_at size k) size) u.blocks ∙ f.arenas.placed k low) };
      blocks = fits_frame w now size count live f.blocks (λ e from upto out. u.words e (omega arith) (omega arith) out);
      classes = classes_same w now size count pages.small pages.lowest f.classes (λ k below. (signs k below).class) (λ k below. word k 7 below (omega arith));
      lists = lists;
      heads = f.heads;
      waits = f.waits;
      rising = f.rising;
      room = f.room;
    }

-- one word within a live block is written
pub HasBlocks_write : (pages : Pages) (m : Memory) (live : List Extent) (waiting : List ℕ) (a v : ℕ) → HasBlocks pages m live waiting → ((e : ℕ) → IsOutside live e → e ≢ a) → HasBlocks pages (record m { blocks = with_word m.blocks a v }) live waiting
HasBlocks_write pages m live waiting a v f inside =
    let new : Memory = record m { blocks = with_word m.blocks a v } in
    HasBlocks_untouched pages m new live waiting f refl refl (record {
      blocks = ap (λ (xs : List Extent). filter (begins_between 4294967296 m.next_arena) xs) (extents-with_word m.blocks a v);
      words = λ e low high out. word_at-elsewhere m.blocks a v e (inside e out);
    })

-- a place within the first of them
pub not_outside : (x : Extent) (live : List Extent) (a : ℕ) → IsInside x a → (e : ℕ) → IsOutside (x ∷ live) e → e ≢ a
not_outside x live a i e out same = elim out.0 [ inl l ↦ omega (arith, same, i.0) | inr r ↦ omega (arith, same, i.1) ]

-- no two live blocks share a word
pub HasBlocks_apart : (pages : Pages) (m : Memory) (live : List Extent) (waiting : List ℕ) → HasBlocks pages m live waiting → AreApart live
HasBlocks_apart pages m live waiting f = f.blocks.apart

first_class : (w : Words) (size p : ℕ) (free live : List Extent) (a n : ℕ) → PageHolds w size p free ((a, n) ∷ live) → n ≡ w p
first_class w size p free live a n h = (Each-right (IsBlockOf (w p) (p + 8) (w (p + 3))) free ((a, n) ∷ live) h.blocks).0.0

-- what is known of a live block by itself
pub record IsBlock (m : Memory) (small : ℕ) (x : Extent) : Type 0 where
  -- its words lie together in the memory
  pub lies : IsTrue (lies_in_one m.blocks x.0 x.1)
  pub wide : 2 ≤ x.1
  pub small_enough : x.1 ≤ small
  pub low : 4294967304 ≤ x.0
  pub high : x.0 + x.1 ≤ 1099511627776

pub HasBlocks_first : (pages : Pages) (m : Memory) (a n : ℕ) (live : List Extent) (waiting : List ℕ) → HasBlocks pages m ((a, n) ∷ live) waiting → IsBlock m pages.small (a, n)
HasBlocks_first pages m a n live waiting f =
    let size = pages.page in
    let w = word_in m in
    let is = f.blocks.inside.0 in
    let k = is.page in
    let p = page_at size k in
    let low : p + 8 ≤ a = is.low in
    let high : a + n ≤ p + size = is.high in
    let below : k < pages.count = is.below in
    let part : p + size ≤ page_at size pages.count = pages_part size k pages.count is.below in
    let top : page_at size pages.count ≤ 1099511627776 = below_of f in
    let u = used_page w size pages.count a n p live f.blocks (record { page = record { number = k; below = is.below; is = refl }; wide = is.wide; low = low; high = high }) in
    let class : w p ≡ n = sym (first_class w size p u.free (blocks_of size p live) a n u.holds) in
    let least : w p ≤ pages.small = f.classes.small k is.below in
    record {
      lies = lies_in_one-between m 4294967296 m.next_arena a n (lies_within-part (extents_between 4294967296 m.next_arena m) p size a n (omega arith) (omega arith) (f.arenas.placed k is.below));
      wide = is.wide;
      small_enough = omega arith;
      low = omega arith;
      high = omega arith;
    }
