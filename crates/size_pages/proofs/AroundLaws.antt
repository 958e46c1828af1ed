-- Which words a block that is given back changes, and the sizes that stay.
use Rattle.std.proofs.Common.{sym, subst, refl, ◌≡◌, ◌≢◌, ℕ, ◌+◌, ◌-◌, ◌*◌, ◌/◌, ◌<◌, ◌≤◌, ◌⊎◌, inl, inr, List, ◌∷◌, slice_index, arith, ◌∙◌, ap}
use Rattle.heap_space.specs.Memory.{Memory}
use Rattle.heap_space.specs.Extents.{Extent, KeepsWords}
use Rattle.size_pages.specs.PageWords.{Words, word_in, IsInArenas}
use Rattle.size_pages.specs.PageBlocks.{GivesBack, Clears}
use Rattle.size_pages.specs.LiveBlocks.{page_at}
use Rattle.size_pages.specs.PageLists.{Unlinks, Links, SameSigns}
use Rattle.size_pages.specs.HasBlocks.{HasBlocksBut, HasBlocks, IsLive, KeepsSizes}
use Rattle.size_pages.specs.Steps.{CanEnd, CanGiveFull, IsOnlyHeads, CanPutOn, CanTakeOff}
use Rattle.size_pages.specs.Calls.{ChangesAround, IsPageOrNone}
use Rattle.size_pages.specs.Growth.{IsLowered}
use Rattle.size_pages.specs.Moves.{GivesBlock}
use Rattle.size_pages.proofs.ListMoves.{not_zero, first_page}
use Rattle.size_pages.proofs.FitsLaws.{Beside, beside}
use Rattle.size_pages.specs.declared.Pages.{Pages}
use Rattle.size_pages.proofs.EndLaws.{IsOff, end_fits, full_fits, full_put_on, same_block, give_facts, give_plain}
use Rattle.size_pages.proofs.KeepLaws.{keeps_then, off_keeps, links_keep, cleared_keeps, given_keeps}
use Rattle.size_pages.proofs.ArenaLaws.{arenas_then}

-- the pages beside a listed page, and the first page of a list
pub beside_off : (pages : Pages) (m : Memory) (page list : ℕ) → CanTakeOff pages m page list → Beside (word_in m) pages.page pages.count page
beside_off pages m page list c = beside (word_in m) pages.page pages.count page list pages.heads.items c.stands.waiting 0 c.stands.fits.lists c.is_page (not_zero pages.page pages.count page c.is_page) c.is_list (λ z. omega (arith, z, c.low))

pub head_page : (pages after : Pages) (m : Memory) (page list kind : ℕ) → CanPutOn after m page list kind → after.page ≡ pages.page → after.count ≡ pages.count → IsPageOrNone pages.page pages.count (slice_index after.heads.items list)
head_page pages after m page list kind c size count =
    let f = c.stands.fits.lists in
    let first : IsPageOrNone after.page after.count (slice_index after.heads.items list) = subst (IsPageOrNone after.page after.count) (sym (f.heads_are list)) (first_page after.page after.count (f.lists list) (f.pages list)) in
    subst (λ (s : ℕ). IsPageOrNone s pages.count (slice_index after.heads.items list)) size (subst (λ (k : ℕ). IsPageOrNone after.page k (slice_index after.heads.items list)) count first)

-- a page that moves from one list to another, with a change to its own words or the block's in between
pub around_moved : (m m2 m3 m4 : Words) (heads after heads2 after2 : List ℕ) (size count page a list list2 kind : ℕ) → Beside m size count page → IsPageOrNone size count (slice_index heads2 list2) → Unlinks m m2 heads after page list → ((e : ℕ) → e ≢ a → e ≢ a + 1 → (e < page) ⊎ (page + 8 ≤ e) → m3 e ≡ m2 e) → Links m3 m4 heads2 after2 page list2 kind → ChangesAround m m4 size count page a
around_moved m m2 m3 m4 heads after heads2 after2 size count page a list list2 kind b head u same l = record {
  first = m (page + 5);
  second = m (page + 4);
  third = slice_index heads2 list2;
  pages = (b.before, b.next, head);
  rest = λ e n1 n2 out n3 n4 n5.
      let off : (i : ℕ) → i < 8 → e ≢ page + i = λ i small. elim out [ inl x ↦ omega arith | inr y ↦ omega arith ] in
      l.rest e (off 4 (omega arith)) (off 5 (omega arith)) (off 6 (omega arith)) n5 ∙ same e n1 n2 out ∙ u.rest e n3 n4;
}

-- a page that leaves its list, and is unused then
pub around_ended : (m m2 m3 : Words) (heads after : List ℕ) (size count page a list : ℕ) → Beside m size count page → Unlinks m m2 heads after page list → Clears m2 m3 page → ChangesAround m m3 size count page a
around_ended m m2 m3 heads after size count page a list b u g = record {
  first = m (page + 5);
  second = m (page + 4);
  third = 0;
  pages = (b.before, b.next, inl refl);
  rest = λ e n1 n2 out n3 n4 n5.
      let off : (i : ℕ) → i < 8 → e ≢ page + i = λ i small. elim out [ inl x ↦ omega arith | inr y ↦ omega arith ] in
      let zero_ : e ≢ page + 0 = off 0 (omega arith) in
      g.rest e (off 6 (omega arith)) (omega arith) (off 1 (omega arith)) (off 2 (omega arith)) (off 3 (omega arith)) ∙ u.rest e n3 n4;
}

pub given_around : (m n : Words) (page a : ℕ) → GivesBack m n page a → (e : ℕ) → e ≢ a → e ≢ a + 1 → (e < page) ⊎ (page + 8 ≤ e) → n e ≡ m e
given_around m n page a g e n1 n2 out = elim out [
  | inl x ↦ g.rest e (omega arith) (omega arith) n1 n2
  | inr y ↦ g.rest e (omega arith) (omega arith) n1 n2
]

pub around_given : (m n : Words) (size count page a : ℕ) → GivesBack m n page a → ChangesAround m n size count page a
around_given m n size count page a g = record { first = 0; second = 0; third = 0; pages = (inl refl, inl refl, inl refl); rest = λ e n1 n2 out n3 n4 n5. given_around m n page a g e n1 n2 out }

pub sizes_heads : (a b : Pages) → IsOnlyHeads a b → KeepsSizes a b
sizes_heads a b h = record { page = h.page; pages_per_arena = h.pages_per_arena; small = h.small }

pub sizes_then : (a b c : Pages) → KeepsSizes a b → KeepsSizes b c → KeepsSizes a c
sizes_then a b c h g = record { page = g.page ∙ h.page; pages_per_arena = g.pages_per_arena ∙ h.pages_per_arena; small = g.small ∙ h.small }

pub end_keeps : (pages p2 : Pages) (m m2 m3 : Memory) (page a n list : ℕ) (c : CanEnd pages m page a n list) → IsOff pages m p2 m2 page → Unlinks (word_in m) (word_in m2) pages.heads.items p2.heads.items page list → IsOnlyHeads pages p2 → Clears (word_in m2) (word_in m3) page
    → (live : List Extent) (waiting : List ℕ) → HasBlocks pages m ((a, n) ∷ live) waiting → KeepsWords m m3 live
end_keeps pages p2 m m2 m3 page a n list c off u only clears live waiting f =
    keeps_then m m2 m3 live (off_keeps pages p2.heads.items m m2 page list c.off u ((a, n) ∷ live) waiting f).1
    (cleared_keeps p2 m2 m3 page page (same_block pages p2 page a n only c.block).page clears ((a, n) ∷ live) waiting (off ((a, n) ∷ live) waiting f)).1

pub full_keeps : (pages p2 p4 : Pages) (m m2 m3 m4 : Memory) (page a n : ℕ) (c : CanGiveFull pages m page a n) → IsOff pages m p2 m2 page → Unlinks (word_in m) (word_in m2) pages.heads.items p2.heads.items page (2 * n + 1) → IsOnlyHeads pages p2 → GivesBack (word_in m2) (word_in m3) page a → IsInArenas m2 m3 → Links (word_in m3) (word_in m4) p2.heads.items p4.heads.items page (2 * n) 1
    → (live : List Extent) (waiting : List ℕ) → HasBlocks pages m ((a, n) ∷ live) waiting → KeepsWords m m4 live
full_keeps pages p2 p4 m m2 m3 m4 page a n c off u only g s l live waiting f =
    let f2 = off ((a, n) ∷ live) waiting f in
    let b2 = same_block pages p2 page a n only c.block in
    let f3 = full_fits pages p2 m m2 m3 page a n c off only g s live waiting f in
    keeps_then m m2 m4 live (off_keeps pages p2.heads.items m m2 page (2 * n + 1) c.off u ((a, n) ∷ live) waiting f).1
    (keeps_then m2 m3 m4 live (given_keeps p2 m2 m3 page a n page b2.wide b2.page g live waiting f2)
    (links_keep p2 p4.heads.items m3 m4 page (2 * n) 1 live waiting b2.page l f3))

-- what the three ways to give a block back leave
pub gives_plain : (pages : Pages) (m new : Memory) (page a n kind live : ℕ) → IsLive pages m (a, n) → page ≡ page_at pages.page ((a - 4294967296) / pages.page) → kind ≡ word_in m (page + 6) → live ≡ word_in m (page + 2) → kind ≢ 2 → (kind ≡ 1 → live ≢ 1) → GivesBack (word_in m) (word_in new) page a → IsInArenas m new → GivesBlock pages pages m new page a n
gives_plain pages m new page a n kind live l is is_kind is_live not_full more g s =
    let f = give_facts pages m page a n l is in
    record {
      given = give_plain pages m new page a n kind live is is_kind is_live not_full more g s;
      kept = given_keeps pages m new page a n 0 f.block.wide f.block.page g;
      around = around_given (word_in m) (word_in new) pages.page pages.count page a g;
      arenas = s;
      sizes = record { page = refl; pages_per_arena = refl; small = refl };
    }

pub gives_last : (pages p2 p3 : Pages) (m m2 m3 : Memory) (page a n list : ℕ) (c : CanEnd pages m page a n list) → IsOff pages m p2 m2 page → Unlinks (word_in m) (word_in m2) pages.heads.items p2.heads.items page list → SameSigns (word_in m) (word_in m2) page → IsOnlyHeads pages p2 → IsInArenas m m2 → IsLowered p2 p3 page → Clears (word_in m2) (word_in m3) page → IsInArenas m2 m3 → GivesBlock pages p3 m m3 page a n
gives_last pages p2 p3 m m2 m3 page a n list c off u signs only s low g s2 = record {
  given = end_fits pages p2 p3 m m2 m3 page a n list c off signs only low g s2;
  kept = end_keeps pages p2 m m2 m3 page a n list c off u only g;
  around = around_ended (word_in m) (word_in m2) (word_in m3) pages.heads.items p2.heads.items pages.page pages.count page a list (beside_off pages m page list c.off) u g;
  arenas = arenas_then m m2 m3 s s2;
  sizes = record { page = ap (λ (p : Pages). p.page) low.is ∙ only.page; pages_per_arena = ap (λ (p : Pages). p.pages_per_arena) low.is ∙ only.pages_per_arena; small = ap (λ (p : Pages). p.small) low.is ∙ only.small };
}

pub gives_full : (pages p2 p4 : Pages) (m m2 m3 m4 : Memory) (page a n : ℕ) (c : CanGiveFull pages m page a n) → IsOff pages m p2 m2 page → Unlinks (word_in m) (word_in m2) pages.heads.items p2.heads.items page (2 * n + 1) → SameSigns (word_in m) (word_in m2) page → IsOnlyHeads pages p2 → IsInArenas m m2 → GivesBack (word_in m2) (word_in m3) page a → IsInArenas m2 m3
    → ((live : List Extent) (waiting : List ℕ) → HasBlocksBut p2 m3 live waiting page → HasBlocks p4 m4 live waiting) → Links (word_in m3) (word_in m4) p2.heads.items p4.heads.items page (2 * n) 1 → IsOnlyHeads p2 p4 → IsInArenas m3 m4 → GivesBlock pages p4 m m4 page a n
gives_full pages p2 p4 m m2 m3 m4 page a n c off u signs only s g s2 on l only2 s3 =
    let put = full_put_on pages p2 m m2 m3 page a n c off signs only g s2 in
    record {
      given = λ live waiting f. on live waiting (full_fits pages p2 m m2 m3 page a n c off only g s2 live waiting f);
      kept = full_keeps pages p2 p4 m m2 m3 m4 page a n c off u only g s2 l;
      around = around_moved (word_in m) (word_in m2) (word_in m3) (word_in m4) pages.heads.items p2.heads.items p2.heads.items p4.heads.items pages.page pages.count page a (2 * n + 1) (2 * n) 1 (beside_off pages m page (2 * n + 1) c.off)
          (head_page pages p2 m3 page (2 * n) 1 put only.page only.count) u (given_around (word_in m2) (word_in m3) page a g) l;
      arenas = arenas_then m m2 m4 s (arenas_then m2 m3 m4 s2 s3);
      sizes = sizes_then pages p2 p4 (sizes_heads pages p2 only) (sizes_heads p2 p4 only2);
    }
