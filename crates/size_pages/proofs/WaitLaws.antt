-- Pages that wait for a sweep.
use Rattle.std.proofs.Common.{◌≡◌, ◌≢◌, ℕ, ◌+◌, inl, inr, List, [], ◌∷◌, arith, sym, ap, subst}
use Rattle.std.specs.Prelude.{◌↔◌}
use Rattle.heap_space.specs.Memory.{Memory}
use Rattle.heap_space.specs.Extents.{Extent}
use Rattle.size_pages.specs.PageWords.{word_in}
use Rattle.size_pages.specs.LiveBlocks.{page_at}
use Rattle.size_pages.specs.Kinds.{HasKind}
use Rattle.size_pages.specs.PageLists.{EachPlace, IsIn, IsPage, IsListedRightly, list_number, list_of}
use Rattle.size_pages.specs.HasBlocks.{HasBlocks}
use Rattle.size_pages.specs.Calls.{page_of, BeginsLive}
use Rattle.size_pages.specs.declared.Pages.{Pages}
use Rattle.size_pages.proofs.ListMoves.{used_list}
use Rattle.size_pages.proofs.EndLaws.{give_facts}
use Rattle.size_pages.proofs.ChoiceLaws.{IsWaitingPage, waiting_pages}

pub each_in : (P : ℕ → Type 0) (xs : List ℕ) (p : ℕ) → EachPlace P xs → IsIn p xs → P p
each_in P [] p all i = absurd i
each_in P (x ∷ xs) p all i = elim i [ inl e ↦ subst P (sym e) all.0 | inr j ↦ each_in P xs p all.1 j ]

pub waits_exactly : (pages : Pages) (m : Memory) (page : ℕ) (live : List Extent) (waiting : List ℕ) → HasBlocks pages m live waiting → IsPage pages.page pages.count page → (word_in m (page + 6) ≡ 3) ↔ IsIn page waiting
waits_exactly pages m page live waiting f is =
    let w = word_in m in
    let size = pages.page in
    let at : page_at size is.number ≡ page = sym is.is in
    let here : w page ≢ 0 → IsIn page (f.lists.lists (list_of w page)) = subst (λ (q : ℕ). w q ≢ 0 → IsIn q (f.lists.lists (list_of w q))) at (λ used. f.lists.listed is.number is.below used (omega arith)) in
    let one : w (page + 6) ≡ 3 → list_of w page ≡ 1 = λ k. ap (λ (t : ℕ). list_number t (w page)) k in
    let used : w (page + 6) ≡ 3 → w page ≢ 0 = λ k. used_list w size page 1 (subst (λ (q : ℕ). IsListedRightly w size q) at (f.lists.rightly is.number is.below (omega arith))) (sym (one k)) (λ z. omega (arith, z)) in (
      λ k. subst (λ (xs : List ℕ). IsIn page xs) f.lists.waits (subst (λ (t : ℕ). IsIn page (f.lists.lists t)) (one k) (here (used k))),
      λ i. (each_in (IsWaitingPage w size pages.count) waiting page (waiting_pages w size pages.count pages.heads.items waiting f.lists) i).kind,
    )

-- the page of a live block, and the word that says whether it waits
pub record LivePage (pages : Pages) (m : Memory) (page : ℕ) : Type 0 where
  pub is_page : IsPage pages.page pages.count page
  pub header : HasKind m page

pub live_page : (pages : Pages) (m : Memory) (a page : ℕ) → BeginsLive pages m a → page ≡ page_of pages.page a → LivePage pages m page
live_page pages m a page b is =
    let g = give_facts pages m page a b.words b.live is in
    record { is_page = g.block.page; header = (g.header 6 (omega arith), g.right.known) }
