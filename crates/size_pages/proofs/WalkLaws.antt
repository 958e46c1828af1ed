-- A list of pages that is walked from its first page on.
use Rattle.std.proofs.Common.{◌≡◌, ◌≢◌, ℕ, ◌+◌, ◌<◌, ◌≤◌, List, [], ◌∷◌, ◌++◌, length, length-append, append_assoc, append-nil, arith, refl, sym, ◌∙◌, ap, subst}
use Rattle.heap_space.specs.Memory.{Memory}
use Rattle.size_pages.specs.PageWords.{word_in, CanStore}
use Rattle.size_pages.specs.Gathering.{IsListFrom}

-- of the list's pages, those from `page` on are still to be gathered
pub record IsWalked (m : Memory) (start now : List ℕ) (page : ℕ) (list : List ℕ) : Type 0 where
  pub left : List ℕ
  pub all : now ++ left ≡ start ++ list
  pub rest : IsListFrom m page left

pub walk_start : (m : Memory) (start : List ℕ) (first : ℕ) (list : List ℕ) → IsListFrom m first list → IsWalked m start start first list
walk_start m start first list h = record { left = list; all = refl; rest = h }

-- the list's next page
pub record HasNext (m : Memory) (start now : List ℕ) (page : ℕ) (list : List ℕ) : Type 0 where
  pub word : CanStore m (page + 4)
  pub few : length now < length start + length list
  pub walked : IsWalked m start (now ++ page ∷ []) (word_in m (page + 4)) list

next_walked : (m : Memory) (start now : List ℕ) (page : ℕ) (list left : List ℕ) → page ≢ 0 → now ++ left ≡ start ++ list → IsListFrom m page left → HasNext m start now page list
next_walked m start now page list [] n all h = absurd (n h.starts)
next_walked m start now page list (x ∷ xs) n all h =
    let at : page ≡ x = h.starts in
    let same : now ++ page ∷ xs ≡ start ++ list = ap (λ (p : ℕ). now ++ p ∷ xs) at ∙ all in
    let long : length (now ++ page ∷ xs) ≡ length (start ++ list) = ap length same in
    record {
      word = subst (λ (p : ℕ). CanStore m (p + 4)) (sym at) h.words.0;
      few = omega (arith, length-append now (page ∷ xs), length-append start list, long);
      walked = record {
        left = xs;
        all = append_assoc now (page ∷ []) xs ∙ same;
        rest = record { starts = ap (λ (p : ℕ). word_in m (p + 4)) at ∙ h.linked.1; before = x; linked = h.linked.2; words = h.words.1 };
      };
    }

pub walk_next : (m : Memory) (start now : List ℕ) (page : ℕ) (list : List ℕ) → page ≢ 0 → IsWalked m start now page list → HasNext m start now page list
walk_next m start now page list n w = next_walked m start now page list w.left n w.all w.rest

end_of : (m : Memory) (start now list left : List ℕ) → now ++ left ≡ start ++ list → IsListFrom m 0 left → now ≡ start ++ list
end_of m start now list [] all h = sym (append-nil now) ∙ all
end_of m start now list (x ∷ xs) all h = absurd (let at : 0 ≡ x = h.starts in let low : 4294967296 ≤ x + 4 = h.words.0.low in omega arith)

pub walk_end : (m : Memory) (start now : List ℕ) (page : ℕ) (list : List ℕ) → page ≡ 0 → IsWalked m start now page list → now ≡ start ++ list
walk_end m start now page list z w = end_of m start now list w.left w.all (subst (λ (p : ℕ). IsListFrom m p w.left) z w.rest)
