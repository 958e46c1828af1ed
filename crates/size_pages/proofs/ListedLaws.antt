-- A block is taken from a page that stays on its list.
use Rattle.std.proofs.Common.{◌≡◌, ℕ, ◌+◌, ◌<◌, ◌≤◌, inl, inr, List, ◌∷◌, arith, sym, ◌∙◌, ap, subst}
use Rattle.std.proofs.lemmas.Bool.Decides.{eqb_tells}
use Rattle.heap_space.specs.Memory.{Memory}
use Rattle.heap_space.specs.Extents.{Extent}
use Rattle.size_pages.specs.PageWords.{word_in, IsInArenas}
use Rattle.size_pages.specs.PageLists.{IsRight, IsListedRightly, HasRoom}
use Rattle.size_pages.specs.HasBlocks.{HasBlocks}
use Rattle.size_pages.specs.Steps.{CanTakeFrom, IsOpen, StaysOpen}
use Rattle.size_pages.specs.Calls.{TakesFrom, TakesFirst, page_of}
use Rattle.size_pages.specs.Moves.{TakesListed}
use Rattle.size_pages.specs.declared.Pages.{Pages}
use Rattle.size_pages.proofs.ListMoves.{SameLinks}
use Rattle.size_pages.proofs.TakeLaws.{Taken, taken_signs, can_take, taken_place, taken_page, taken_from}
use Rattle.size_pages.proofs.KeepLaws.{taken_kept, taken_clear}
use Rattle.size_pages.proofs.ChoiceLaws.{waiting_pages, in_none, first_not_waiting, from_first, arena_first}

-- a block can be taken from a page that is on the list of those with room
pub can_take_open : (pages : Pages) (m : Memory) (page n : ℕ) → IsOpen pages m page n → 2 ≤ n → n ≤ pages.small → CanTakeFrom pages m 0 page n
can_take_open pages m page n g two small =
    let st = g.off.stands in
    record { stands = record { live = st.live; waiting = st.waiting; fits = st.fits }; is_page = g.off.is_page; class = g.class; low = two; small = small; room = g.room }

-- the page that keeps room stays rightly on its list
listed_on : (pages : Pages) (m new : Memory) (page n x : ℕ) → StaysOpen pages m page n → Taken (word_in m) (word_in new) page n x → SameLinks (word_in m) (word_in new) page × IsListedRightly (word_in new) pages.page page
listed_on pages m new page n x c t =
    let two : 2 ≤ n = c.low in
    let w = word_in m in
    let now = word_in new in
    let from = can_take_open pages m page n c.listed two c.small in
    let signs = taken_signs m new page n x (can_take pages m page n from) t in
    let far : page + 8 ≤ x = (taken_place pages m new page n x from t).0 in
    let word : (i : ℕ) → 4 ≤ i → i < 8 → now (page + i) ≡ w (page + i) = λ i low high. elim (eqb_tells (w (page + 1)) 0) [
      | inl z ↦ (t.fresh z.1).rest (page + i) (omega arith) (omega arith) (omega arith) (omega arith)
      | inr y ↦ (t.chained y.1).rest (page + i) (omega arith) (omega arith) (omega arith) (omega arith)
    ] in
    let class : now page ≡ n = signs.class ∙ c.listed.class in
    let kind : now (page + 6) ≡ 1 = word 6 (omega arith) (omega arith) ∙ c.listed.kind in
    let room : HasRoom now pages.page page = elim (eqb_tells (w (page + 1)) 0) [
      | inl z ↦
          let g = t.fresh z.1 in
          let first : x ≡ w (page + 3) = g.first in
          let fresh : now (page + 3) ≡ x + n = g.fresh in
          let keeps : w (page + 3) + n + n ≤ page + pages.page = c.keeps.fresh z.1 in
          inr (omega arith)
      | inr y ↦
          let g = t.chained y.1 in
          let fresh : now (page + 3) ≡ w (page + 3) = g.rest (page + 3) (omega arith) (omega arith) (omega arith) (omega arith) in
          elim (c.keeps.chained y.1) [
            | inl some ↦ inl (λ z. some (ap (λ (a : ℕ). w (a + 1)) (sym g.first) ∙ sym g.head ∙ z))
            | inr left ↦ inr (omega arith)
          ]
    ] in (
      record { class = signs.class; next = word 4 (omega arith) (omega arith); before = word 5 (omega arith) (omega arith); kind = word 6 (omega arith) (omega arith) },
      subst (λ (k : ℕ). IsRight k now pages.page page) (sym kind) (record {
        known = omega arith;
        unused = λ e. absurd (omega arith);
        used = λ e. omega arith;
        room = λ e. room;
        full = λ e. absurd (omega arith);
        busy = λ e. signs.count;
      }),
    )

-- the block is live from then on, and all else stays
pub takes_listed : (pages : Pages) (m new : Memory) (page n x : ℕ) → StaysOpen pages m page n → Taken (word_in m) (word_in new) page n x → IsInArenas m new → TakesListed pages m new n x
takes_listed pages m new page n x c t s =
    let w = word_in m in
    let st = c.listed.off.stands in
    let two : 2 ≤ n = c.low in
    let from = can_take_open pages m page n c.listed two c.small in
    let place = taken_place pages m new page n x from t in
    let is : page ≡ page_of pages.page x = taken_page pages m new page n x from t in
    let fits : (live : List Extent) (waiting : List ℕ) → HasBlocks pages m live waiting → HasBlocks pages new ((x, n) ∷ live) waiting =
    taken_from pages m new page n x from t s (λ ne. listed_on pages m new page n x c t) in
    record {
      taken = fits;
      kept = λ live waiting f. taken_kept pages m new page n x from t live waiting f (fits live waiting f);
      apart = λ live waiting f. in_none w pages.page pages.count page x waiting (waiting_pages w pages.page pages.count pages.heads.items waiting f.lists) pages.count c.listed.off.is_page
          (inl (first_not_waiting pages m page n two c.listed)) (omega (arith, place.0)) (omega (arith, place.1, two));
      cleared = taken_clear m new page n x t;
      from = subst (TakesFrom w pages.page pages.count n) is (from_first pages m page n two c.listed);
      first = subst (λ (p : ℕ). TakesFirst w p x) is (record {
        chained = λ used some. (t.chained some).first;
        fresh = λ used none. (t.fresh none).first;
        begun = λ z. absurd (let e : n ≡ 0 = sym c.listed.class ∙ z in omega arith);
      });
      arena = arena_first pages m new page n two st c.listed s.next_arena;
      arenas = s;
    }
