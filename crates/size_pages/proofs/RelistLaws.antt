-- A page that was swept leaves the waiting ones, and goes on the list that its words call for.
use Rattle.std.proofs.Common.{◌≡◌, ◌≢◌, ℕ, ◌+◌, ◌-◌, ◌*◌, ◌<◌, ◌≤◌, ◌⊎◌, inl, inr, List, ◌∷◌, length, arith, refl, sym, ◌∙◌, ap, subst}
use Rattle.heap_space.specs.Memory.{Memory}
use Rattle.heap_space.specs.Extents.{Extent}
use Rattle.size_pages.specs.PageWords.{word_in, HasAll, IsInArenas}
use Rattle.size_pages.specs.PageBlocks.{Clears}
use Rattle.size_pages.specs.LiveBlocks.{page_at}
use Rattle.size_pages.specs.PageLists.{IsPage, list_number, Unlinks, Links, SameSigns}
use Rattle.size_pages.specs.HasBlocks.{HasBlocksBut, HasBlocks}
use Rattle.size_pages.specs.Steps.{CanPutOn, IsOnlyHeads}
use Rattle.size_pages.specs.Growth.{IsLowered}
use Rattle.size_pages.specs.SweepSteps.{IsOnlyLists}
use Rattle.size_pages.specs.SlotSteps.{CanRelist, Relists}
use Rattle.size_pages.specs.declared.Pages.{Pages}
use Rattle.size_pages.proofs.FitsLaws.{OnList, off_any, header_has, places_of, below_of}
use Rattle.size_pages.proofs.GiveLaws.{none_left}
use Rattle.size_pages.proofs.EndLaws.{heads_long}
use Rattle.size_pages.proofs.TakeLaws.{list_is}
use Rattle.size_pages.proofs.KeepLaws.{keeps_on, keeps_then, links_keep, cleared_keeps}
use Rattle.size_pages.proofs.ArenaLaws.{arenas_then, all_after}
use Rattle.size_pages.proofs.ChoiceLaws.{IsWaitingPage, waiting_pages}

-- the first waiting page
first_page_is : (pages : Pages) (m : Memory) (page : ℕ) → CanRelist pages m page → IsWaitingPage (word_in m) pages.page pages.count page
first_page_is pages m page c = (waiting_pages (word_in m) pages.page pages.count pages.heads.items (page ∷ c.rest) c.fits.lists).0

pub first_on : (pages : Pages) (m : Memory) (page : ℕ) → CanRelist pages m page → OnList pages m page 1
first_on pages m page c =
    let w = first_page_is pages m page c in
    record { stands = record { live = c.live; waiting = page ∷ c.rest; fits = c.fits }; is_page = w.is_page; is_list = sym (ap (λ (t : ℕ). list_number t (word_in m page)) w.kind); some = λ z. omega (arith, z) }

pub first_off : (pages after : Pages) (m new : Memory) (page : ℕ) → CanRelist pages m page → Unlinks (word_in m) (word_in new) pages.heads.items after.heads.items page 1 → IsInArenas m new → IsOnlyLists pages after → after.waiting ≡ pages.waiting - 1 → (live : List Extent) (rest : List ℕ) → HasBlocks pages m live (page ∷ rest) → HasBlocksBut after new live rest page
first_off pages after m new page c u s only less live rest f =
    off_any pages after m new page 1 (first_on pages m page c) u s only live (page ∷ rest) rest f (λ e. refl) (λ n. absurd (n refl)) (less ∙ (let e : pages.waiting ≡ length (page ∷ rest) = f.waits in omega arith)) f.rising.1

page_after : (a b : Pages) (page : ℕ) → b.page ≡ a.page → b.count ≡ a.count → IsPage a.page a.count page → IsPage b.page b.count page
page_after a b page size count is = subst (λ (s : ℕ). IsPage s b.count page) (sym size) (subst (λ (k : ℕ). IsPage a.page k page) (sym count) is)

-- a step from pages of which the page is the first that waits to pages where it is on no list
abbrev pub IsFirstOff : Pages → Memory → Pages → Memory → ℕ → Type 0
IsFirstOff pages m p1 m1 page = (live : List Extent) (rest : List ℕ) → HasBlocks pages m live (page ∷ rest) → HasBlocksBut p1 m1 live rest page

module _ (pages p1 : Pages) (m m1 : Memory) (page : ℕ) (c : CanRelist pages m page) (off : IsFirstOff pages m p1 m1 page) (u : Unlinks (word_in m) (word_in m1) pages.heads.items p1.heads.items page 1) (signs : SameSigns (word_in m) (word_in m1) page) (only : IsOnlyLists pages p1) (s : IsInArenas m m1) where
  pub is_listed_page : IsPage p1.page p1.count page
  is_listed_page = page_after pages p1 page only.page only.count (first_on pages m page c).is_page

  pub used_page_words : 2 ≤ word_in m1 page
  used_page_words = subst (λ (k : ℕ). 2 ≤ k) (sym signs.class) (first_page_is pages m page c).used

  pub first_header : HasAll m1 page (page + 8)
  first_header =
      let f = c.fits in
      all_after m m1 page (page + 8) s (header_has m pages.page pages.count page f.blocks.size_low (places_of f) (below_of f) (first_on pages m page c).is_page)

  -- the page is unused again
  pub ended_relists : (p2 : Pages) (m2 : Memory) → word_in m1 (page + 2) ≡ 0 → IsLowered p1 p2 page → Clears (word_in m1) (word_in m2) page → IsInArenas m1 m2 → Relists pages p2 m m2 page
  ended_relists p2 m2 none low g s2 = record {
    fits = λ live rest f. none_left p1 p2 m1 m2 live rest page (off live rest f) is_listed_page none (λ z. omega (arith, z, used_page_words)) low g s2;
    kept = λ live rest f. keeps_then m m1 m2 live (keeps_on pages p1.heads.items m m1 page 1 (first_on pages m page c) u live (page ∷ rest) f)
        (cleared_keeps p1 m1 m2 page page is_listed_page g live rest (off live rest f));
    arenas = arenas_then m m1 m2 s s2;
    sizes = record { page = ap (λ (p : Pages). p.page) low.is ∙ only.page; pages_per_arena = ap (λ (p : Pages). p.pages_per_arena) low.is ∙ only.pages_per_arena; small = ap (λ (p : Pages). p.small) low.is ∙ only.small };
  }

  -- the page has live blocks
  pub swept_put : (class kind : ℕ) → class ≡ word_in m1 page → word_in m1 (page + 2) ≢ 0 → (kind ≡ 1) ⊎ (kind ≡ 2) → (kind ≡ 1 → (word_in m1 (page + 1) ≢ 0) ⊎ (word_in m1 (page + 3) + class ≤ page + p1.page)) → (kind ≡ 2 → (word_in m1 (page + 1) ≡ 0) × (page + p1.page < word_in m1 (page + 3) + class)) → CanPutOn p1 m1 page (2 * class + (kind - 1)) kind
  swept_put class kind is_class some known room full =
      let f = off c.live c.rest c.fits in
      let is = is_listed_page in
      let two : 2 ≤ word_in m1 page = used_page_words in
      let low : 1 ≤ kind = elim known [ inl a ↦ omega arith | inr b ↦ omega arith ] in
      let high : kind ≤ 2 = elim known [ inl a ↦ omega arith | inr b ↦ omega arith ] in
      let at : page ≡ page_at p1.page is.number = is.is in
      let small : word_in m1 page ≤ p1.small = subst (λ (q : ℕ). word_in m1 q ≤ p1.small) (sym at) (f.classes.small is.number is.below) in
      record {
        stands = record { live = c.live; waiting = c.rest; fits = f };
        is_page = is;
        is_list = list_is kind (word_in m1 page) class (sym is_class) known;
        low = omega arith;
        in_heads = heads_long f page (2 * class + (kind - 1)) is (omega arith);
        right = record {
          known = omega arith;
          unused = λ e. absurd (omega arith);
          used = λ e. two;
          room = λ e. elim (room e) [ inl a ↦ inl a | inr b ↦ inr (omega arith) ];
          full = λ e. ((full e).0, (let g : page + p1.page < word_in m1 (page + 3) + class = (full e).1 in omega arith));
          busy = λ e. (let n : word_in m1 (page + 2) ≢ 0 = some in omega arith);
        };
      }

  pub swept_relists : (p2 : Pages) (m2 : Memory) (list kind : ℕ) → ((live : List Extent) (waiting : List ℕ) → HasBlocksBut p1 m1 live waiting page → HasBlocksBut p2 m2 live waiting 0) → Links (word_in m1) (word_in m2) p1.heads.items p2.heads.items page list kind → IsOnlyHeads p1 p2 → IsInArenas m1 m2 → Relists pages p2 m m2 page
  swept_relists p2 m2 list kind on l heads s2 = record {
    fits = λ live rest f. on live rest (off live rest f);
    kept = λ live rest f. keeps_then m m1 m2 live (keeps_on pages p1.heads.items m m1 page 1 (first_on pages m page c) u live (page ∷ rest) f)
        (links_keep p1 p2.heads.items m1 m2 page list kind live rest is_listed_page l (off live rest f));
    arenas = arenas_then m m1 m2 s s2;
    sizes = record { page = heads.page ∙ only.page; pages_per_arena = heads.pages_per_arena ∙ only.pages_per_arena; small = heads.small ∙ only.small };
  }
