-- Where objects are now, and which of them are left.
use Rattle.std.proofs.Common.{◌≡◌, ℕ, ◌+◌, ◌^◌, ◌<◌, ◌≤◌, Bool, true, false, IsTrue, List, [], ◌∷◌, map, filter, refl, sym, ap, ◌∙◌, arith}
use Rattle.std.specs.Prelude.{◌==◌, not}
use Rattle.std.proofs.lemmas.Bool.{ne_eqb}
use Rattle.heap_space.specs.Places.{has, word_at, lies_in_one}
use Rattle.heap_space.specs.Memory.{Memory}
use Rattle.heap_space.specs.Order.{IsInOrder}
use Rattle.heap_space.proofs.Rising.{has-within}
use Rattle.object_model.specs.Sets.{is_in}
use Rattle.object_view.specs.Moving.{place_now}
use Rattle.object_model.proofs.Members.{is_in-head, is_in-tail}
use Rattle.object_view.proofs.SpaceLaws.{lies-fits, lies-at}
use Rattle.object_view.proofs.ForwardLaws.{place_now-moved}
use Rattle.weak_lists.specs.Targets.{survives, weaks_left, left_at}

-- two words that can be read
pub record HasTwo (memory : Memory) (a : ℕ) : Type 0 where
  pub above : 1 ≤ a
  pub fits : a + 2 < 2 ^ 63
  pub first : has memory.blocks a ≡ true
  pub second : has memory.blocks (a + 1) ≡ true

pub has-two : (memory : Memory) (a : ℕ) → IsInOrder memory → IsTrue (lies_in_one memory.blocks a 2) → HasTwo memory a
has-two memory a o lies =
    let f = lies-fits memory a 2 o (omega arith) lies in
    record { above = f.0; fits = f.1; first = lies-at memory.blocks a 2 a lies (omega arith) (omega arith); second = lies-at memory.blocks a 2 (a + 1) lies (omega arith) (omega arith) }

pub has-above : (memory : Memory) (a : ℕ) → IsInOrder memory → has memory.blocks a ≡ true → 1 ≤ a
has-above memory a o h = (has-within 1 memory.next_large a memory.blocks o.rises h).0

pub place-read : (memory : Memory) (a x : ℕ) → IsInOrder memory → IsTrue (lies_in_one memory.blocks a 2) → word_at memory.blocks a ≡ 18446744073709551615 → x ≡ word_at memory.blocks (a + 1)
    → x ≡ place_now (word_at memory.blocks) a
place-read memory a x o lies marked read = read ∙ sym (place_now-moved (word_at memory.blocks) a (has-two memory a o lies).above marked)

-- what is left is what is not 0
pub left-filtered : (nursery : ℕ) (w : ℕ → ℕ) (ps : List ℕ) → ((p : ℕ) → IsTrue (is_in p ps) → 1 ≤ place_now w p) → filter (λ q. not (q == 0)) (map (left_at nursery w) ps) ≡ weaks_left nursery w ps
left-filtered nursery w [] above = refl
left-filtered nursery w (p ∷ ps) above = go (survives nursery w (place_now w p)) refl (left-filtered nursery w ps (λ q t. above q (is_in-tail q p ps t)))
  where
    some : (place_now w p == 0) ≡ false
    some = let l = above p (is_in-head p ps) in ne_eqb (place_now w p) 0 (λ e. absurd (omega (arith, l, e)))

    go : (b : Bool) → survives nursery w (place_now w p) ≡ b → filter (λ q. not (q == 0)) (map (left_at nursery w) ps) ≡ weaks_left nursery w ps
        → filter (λ q. not (q == 0)) (map (left_at nursery w) (p ∷ ps)) ≡ weaks_left nursery w (p ∷ ps)
    go true e rest =
        let at : left_at nursery w p ≡ place_now w p = rw e refl in
        let one : filter (λ q. not (q == 0)) (map (left_at nursery w) (p ∷ ps)) ≡ place_now w p ∷ filter (λ q. not (q == 0)) (map (left_at nursery w) ps) =
        ap (λ k. filter (λ q. not (q == 0)) (k ∷ map (left_at nursery w) ps)) at ∙ rw some refl in
        let two : weaks_left nursery w (p ∷ ps) ≡ place_now w p ∷ weaks_left nursery w ps = rw e refl in
        one ∙ (ap (λ qs. place_now w p ∷ qs) rest ∙ sym two)
    go false e rest =
        let at : left_at nursery w p ≡ 0 = rw e refl in
        let one : filter (λ q. not (q == 0)) (map (left_at nursery w) (p ∷ ps)) ≡ filter (λ q. not (q == 0)) (map (left_at nursery w) ps) =
        ap (λ k. filter (λ q. not (q == 0)) (k ∷ map (left_at nursery w) ps)) at in
        let two : weaks_left nursery w (p ∷ ps) ≡ weaks_left nursery w ps = rw e refl in
        one ∙ (rest ∙ sym two)
