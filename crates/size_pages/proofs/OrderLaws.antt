-- The live blocks may be named in any order.
use Rattle.std.proofs.Common.{◌≡◌, ℕ, ◌+◌, ◌*◌, inl, inr, Bool, true, false, cond, List, [], ◌∷◌, ◌++◌, length, arith, sym, ◌∙◌, ap, subst}
use Rattle.std.proofs.Common.{length-append}
use Rattle.std.specs.List.{filter}
use Rattle.heap_space.specs.Memory.{Memory}
use Rattle.heap_space.specs.Extents.{Extent, Each, IsApart, AreApart}
use Rattle.heap_space.proofs.ExtentLaws.{Each-out, AreApart-out}
use Rattle.size_pages.specs.PageWords.{Words, word_in}
use Rattle.size_pages.specs.PageBlocks.{IsBlockOf, BeginsAt, PageHolds}
use Rattle.size_pages.specs.LiveBlocks.{page_at, in_page, PageIs, IsInPages}
use Rattle.size_pages.specs.HasBlocks.{HasBlocks}
use Rattle.size_pages.specs.declared.Pages.{Pages}
use Rattle.size_pages.proofs.PageLaws.{begins_out}
use Rattle.size_pages.proofs.SplitLaws.{filter_both}

-- moving x from behind F to the front, behind free blocks
each_front : (P : Extent → Type 0) (free F L : List Extent) (x : Extent) → Each P (free ++ (F ++ x ∷ L)) → Each P (free ++ x ∷ (F ++ L))
each_front P [] F L x h = Each-out P F L x h
each_front P (f ∷ free) F L x h = (h.0, each_front P free F L x h.1)

apart_front : (free F L : List Extent) (x : Extent) → AreApart (free ++ (F ++ x ∷ L)) → AreApart (free ++ x ∷ (F ++ L))
apart_front [] F L x h = AreApart-out F L x h
apart_front (f ∷ free) F L x h = (each_front (IsApart f) free F L x h.0, apart_front free F L x h.1)

begins_front : (a : ℕ) (free F L : List Extent) (x : Extent) → BeginsAt a (free ++ (F ++ x ∷ L)) → BeginsAt a (free ++ x ∷ (F ++ L))
begins_front a [] F L x h = begins_out a F L x h
begins_front a (f ∷ free) F L x h = elim h [ inl e ↦ inl e | inr t ↦ inr (begins_front a free F L x t) ]

length_front : (F L : List Extent) (x : Extent) → length (F ++ x ∷ L) ≡ length (x ∷ (F ++ L))
length_front F L x = omega (arith, length-append F (x ∷ L), length-append F L)

holds_front : (w : Words) (size p : ℕ) (free F L : List Extent) (x : Extent) → PageHolds w size p free (F ++ x ∷ L) → PageHolds w size p free (x ∷ (F ++ L))
holds_front w size p free F L x h = record {
  words = h.words;
  chain = h.chain;
  count = h.count ∙ length_front F L x;
  fresh_low = h.fresh_low;
  fresh_high = h.fresh_high;
  blocks = each_front (IsBlockOf (w p) (p + 8) (w (p + 3))) free F L x h.blocks;
  apart = apart_front free F L x h.apart;
  all = ap (λ (k : ℕ). (length free + k) * w p + (p + 8)) (sym (length_front F L x)) ∙ h.all;
  filled = λ i low. begins_front (p + 8 + i * w p) free F L x (h.filled i low);
}

not_nil : (F L : List Extent) (x : Extent) → F ++ x ∷ L ≡ [] → ⊥
not_nil F L x e = let l : length (F ++ x ∷ L) ≡ 0 = ap length e in omega (arith, length-append F (x ∷ L))

page_front_case : (w : Words) (size p : ℕ) (F L both : List Extent) (x : Extent) (b : Bool) → both ≡ F ++ L → PageIs w size p (F ++ cond b (x ∷ L) L) → PageIs w size p (cond b (x ∷ both) both)
page_front_case w size p F L both x true e h = subst (λ (ys : List Extent). PageIs w size p (x ∷ ys)) (sym e) (record { free = h.free; unused = λ z. absurd (not_nil F L x (h.unused z)); holds = λ z. holds_front w size p h.free F L x (h.holds z) })
page_front_case w size p F L both x false e h = subst (λ (ys : List Extent). PageIs w size p ys) (sym e) h

-- any block moved to the front
pub HasBlocks_front : (pages : Pages) (m : Memory) (F L : List Extent) (x : Extent) (waiting : List ℕ) → HasBlocks pages m (F ++ x ∷ L) waiting → HasBlocks pages m (x ∷ (F ++ L)) waiting
HasBlocks_front pages m F L x waiting f = record {
  setup = f.setup;
  arenas = f.arenas;
  blocks = record {
    size_low = f.blocks.size_low;
    pages = λ k below.
        let t = in_page pages.page (page_at pages.page k) in
        page_front_case (word_in m) pages.page (page_at pages.page k) (filter t F) (filter t L) (filter t (F ++ L)) x (t x) (filter_both t F L)
        (subst (λ (bs : List Extent). PageIs (word_in m) pages.page (page_at pages.page k) bs) (filter_both t F (x ∷ L)) (f.blocks.pages k below));
    inside = Each-out (IsInPages pages.page pages.count) F L x f.blocks.inside;
    apart = AreApart-out F L x f.blocks.apart;
  };
  classes = f.classes;
  lists = f.lists;
  heads = f.heads;
  waits = f.waits;
  rising = f.rising;
  room = f.room;
}
