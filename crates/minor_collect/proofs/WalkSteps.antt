-- What is gone is listed by a walk.
use Rattle.std.proofs.Common.{◌≡◌, ℕ, ◌+◌, ◌-◌, ◌<◌, ◌≤◌, Bool, true, false, IsTrue, List, [], ◌∷◌, ◌++◌, filter, refl, sym, ap, ◌∙◌, subst, arith, append-nil}
use Rattle.std.specs.Prelude.{◌==◌, if◌then◌else◌}
use Rattle.std.proofs.lemmas.List.{append_assoc}
use Rattle.std.proofs.lemmas.List.Elements.{filter-append}
use Rattle.object_view.proofs.LayoutLaws.{laid_out}
use Rattle.object_model.specs.Sets.{is_in}
use Rattle.object_model.specs.ObjectWords.{words_at}
use Rattle.object_model.proofs.Members.{is_in-head, in-right}
use Rattle.heap_parts.specs.Parts.{HeapParts, word_in}
use Rattle.minor_collect.specs.Walks.{CanSize, CanWalk, IsWalkBy, size_in, stands_at, is_gone_at}

pub size_stands : (heap : HeapParts) (p n : ℕ) → n ≡ words_at heap.setup.types (word_in heap) (stands_at heap p) → n ≡ size_in heap p
size_stands heap p n e = e ∙ go (word_in heap p == 18446744073709551615)
  where
    go : (b : Bool) → words_at heap.setup.types (word_in heap) (if b then word_in heap (p + 1) else p)
        ≡ (if b then words_at heap.setup.types (word_in heap) (word_in heap (p + 1)) else words_at heap.setup.types (word_in heap) p)
    go true = refl
    go false = refl

-- each step goes on
pub size_some : (heap : HeapParts) (p : ℕ) → 2 ≤ size_in heap p
size_some heap p = let e = size_stands heap p (words_at heap.setup.types (word_in heap) (stands_at heap p)) refl in
    let two = (laid_out heap.setup.types (word_in heap) (stands_at heap p)).header in omega (arith, e, two)

walk-up : (heap : HeapParts) (from end : ℕ) (ps : List ℕ) → IsWalkBy (size_in heap) from ps end → from ≤ end
walk-up heap from end [] w = omega (arith, w)
walk-up heap from end (p ∷ ps) w = let more = walk-up heap (from + size_in heap p) end ps w.1 in omega (arith, more)

-- what is left of a walk at a place
pub record WalksOn (heap : HeapParts) (from end p : ℕ) (before now : List ℕ) (places : List ℕ) : Type 0 where
  pub done : List ℕ
  pub rest : List ℕ
  pub parts_are : places ≡ done ++ rest
  pub walk : IsWalkBy (size_in heap) p rest end
  pub listed : now ≡ before ++ filter (is_gone_at heap) done

-- So far the walk came to p, whatever its places are.
pub record WalksTo (heap : HeapParts) (from end p : ℕ) (before now : List ℕ) : Type 0 where
  pub each : (places : List ℕ) → IsWalkBy (size_in heap) from places end → WalksOn heap from end p before now places

pub walk_begin : (heap : HeapParts) (from end : ℕ) (before : List ℕ) → WalksTo heap from end from before before
walk_begin heap from end before = record { each = λ places w. record { done = []; rest = places; parts_are = refl; walk = w; listed = sym (append-nil before) } }

-- the place is one of the walk, while the end is not reached
pub record IsNext (heap : HeapParts) (p end : ℕ) (rest : List ℕ) : Type 0 where
  pub later : List ℕ
  pub first : rest ≡ p ∷ later
  pub walk : IsWalkBy (size_in heap) (p + size_in heap p) later end

next-one : (heap : HeapParts) (p end : ℕ) (rest : List ℕ) → IsWalkBy (size_in heap) p rest end → p < end → IsNext heap p end rest
next-one heap p end [] w l = absurd (omega (arith, w, l))
next-one heap p end (q ∷ rest) w l = record {
  later = rest;
  first = ap (λ (k : ℕ). k ∷ rest) w.0;
  walk = subst (λ (k : ℕ). IsWalkBy (size_in heap) (p + size_in heap k) rest end) w.0 w.1;
}

pub walk_can : (heap : HeapParts) (from end p : ℕ) (before now : List ℕ) (c : CanWalk heap from end) → WalksTo heap from end p before now → p < end → CanSize heap p
walk_can heap from end p before now c s l =
    let on = s.each c.places c.walk in let n = next-one heap p end on.rest on.walk l in
    c.sized p (subst (λ (ps : List ℕ). IsTrue (is_in p ps)) (sym on.parts_are) (in-right p on.done on.rest (subst (λ (ps : List ℕ). IsTrue (is_in p ps)) (sym n.first) (is_in-head p n.later))))

pub walk_fits : (heap : HeapParts) (from end p n : ℕ) (before now : List ℕ) (c : CanWalk heap from end) → WalksTo heap from end p before now → p < end → n ≡ size_in heap p → p + n ≤ end
walk_fits heap from end p n before now c s l e =
    let on = s.each c.places c.walk in let next = next-one heap p end on.rest on.walk l in
    let up = walk-up heap (p + size_in heap p) end next.later next.walk in omega (arith, up, e)

-- one place more: it is listed where its object is gone
pub walk_next : (heap : HeapParts) (from end p n : ℕ) (before now new : List ℕ) → WalksTo heap from end p before now → p < end → n ≡ size_in heap p
    → new ≡ now ++ filter (is_gone_at heap) (p ∷ []) → WalksTo heap from end (p + n) before new
walk_next heap from end p n before now new s l e listed = record {
  each = λ places w.
      let on = s.each places w in let next = next-one heap p end on.rest on.walk l in record {
        done = on.done ++ p ∷ [];
        rest = next.later;
        parts_are = on.parts_are ∙ (ap (λ (ps : List ℕ). on.done ++ ps) next.first ∙ sym (append_assoc on.done (p ∷ []) next.later));
        walk = subst (λ (k : ℕ). IsWalkBy (size_in heap) (p + k) next.later end) (sym e) next.walk;
        listed = listed ∙ (ap (λ (xs : List ℕ). xs ++ filter (is_gone_at heap) (p ∷ [])) on.listed
            ∙ (append_assoc before (filter (is_gone_at heap) on.done) (filter (is_gone_at heap) (p ∷ [])) ∙ ap (λ (xs : List ℕ). before ++ xs) (sym (filter-append (is_gone_at heap) on.done (p ∷ [])))));
      };
}

pub gone_one : (heap : HeapParts) (p : ℕ) (now : List ℕ) → is_gone_at heap p ≡ true → now ++ p ∷ [] ≡ now ++ filter (is_gone_at heap) (p ∷ [])
gone_one heap p now e = ap (λ (xs : List ℕ). now ++ xs) (let f : filter (is_gone_at heap) (p ∷ []) ≡ p ∷ [] = rw e refl in sym f)

pub gone_none : (heap : HeapParts) (p : ℕ) (now : List ℕ) → is_gone_at heap p ≡ false → now ≡ now ++ filter (is_gone_at heap) (p ∷ [])
gone_none heap p now e = sym (append-nil now) ∙ ap (λ (xs : List ℕ). now ++ xs) (let f : filter (is_gone_at heap) (p ∷ []) ≡ [] = rw e refl in sym f)

pub walk_end : (heap : HeapParts) (from end p : ℕ) (before now places : List ℕ) → WalksTo heap from end p before now → end ≤ p → IsWalkBy (size_in heap) from places end → now ≡ before ++ filter (is_gone_at heap) places
walk_end heap from end p before now places s l w =
    let on = s.each places w in
    on.listed ∙ ap (λ (ps : List ℕ). before ++ filter (is_gone_at heap) ps) (sym (on.parts_are ∙ (ap (λ (ps : List ℕ). on.done ++ ps) (none on.rest on.walk) ∙ append-nil on.done)))
  where
    none : (rest : List ℕ) → IsWalkBy (size_in heap) p rest end → rest ≡ []
    none [] v = refl
    none (q ∷ rest) v =
        let up = walk-up heap (p + size_in heap q) end rest v.1 in let two = size_some heap q in absurd (omega (arith, up, two, l))
