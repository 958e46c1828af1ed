-- One turn of a loop that changes first words.
use Rattle.std.proofs.Common.{◌≡◌, ℕ, ◌+◌, ◌<◌, ◌^◌, IsTrue, false, List, [], ◌∷◌, ◌++◌, length, get_or, take, map, refl, sym, ap, ◌∙◌, subst, inl, inr, arith, append_assoc}
use Rattle.std.proofs.lemmas.Bool.{cases_Bool}
use Rattle.std.proofs.lemmas.List.{map-append}
use Rattle.heap_space.specs.Order.{IsInOrder}
use Rattle.object_view.proofs.SpaceLaws.{lies-at, lies-fits}
use Rattle.finalizer_order.specs.Passes.{settled_word, HaveHeads}
use Rattle.heap_space.specs.Memory.{Memory}
use Rattle.heap_space.specs.Places.{Placed, has, word_at, with_word}
use Rattle.object_model.specs.Sets.{is_in}
use Rattle.finalizer_order.specs.Changes.{changed_at}
use Rattle.finalizer_order.proofs.Changes.{has-changed, changed-append, untouched}
use Rattle.finalizer_order.proofs.Lists.{take-one, in-get, in-taken, clash}
use Rattle.finalizer_order.proofs.Objects.{changed}

pub has_next : (f : ℕ → ℕ) (ps : List ℕ) (i : ℕ) (m now : Memory) → ((p : ℕ) → IsTrue (is_in p ps) → IsTrue (has m.blocks p)) → i < length ps → now ≡ changed f (take i ps) m
    → IsTrue (has now.blocks (get_or ps i 0))
has_next f ps i m now there l is =
    subst (λ (k : Memory). IsTrue (has k.blocks (get_or ps i 0))) (sym is) (has-changed f (take i ps) m.blocks (get_or ps i 0) ∙ there (get_or ps i 0) (in-get ps i l))

pub changes_next : (f : ℕ → ℕ) (ps : List ℕ) (i : ℕ) (m now new : Memory) → i < length ps → now ≡ changed f (take i ps) m
    → new ≡ record now { blocks = with_word now.blocks (get_or ps i 0) (f (word_at now.blocks (get_or ps i 0))) } → new ≡ changed f (take (i + 1) ps) m
changes_next f ps i m now new l is written =
    written
    ∙ ap (λ (k : Memory). record k { blocks = with_word k.blocks (get_or ps i 0) (f (word_at k.blocks (get_or ps i 0))) }) is
    ∙ ap (λ (bs : List Placed). record m { blocks = bs }) (sym (changed-append f (take i ps) (get_or ps i 0 ∷ []) m.blocks) ∙ ap (λ (qs : List ℕ). changed_at f qs m.blocks) (sym (take-one ps i 0 l)))

-- Headers and births.

in-front : (x : ℕ) (xs : List ℕ) (i : ℕ) → IsTrue (is_in x (take i xs)) → IsTrue (is_in x xs)
in-front x xs i t = subst (λ (ys : List ℕ). IsTrue (is_in x ys)) (map-id xs) (in-taken (λ (k : ℕ). k) xs i x (subst (λ (ys : List ℕ). IsTrue (is_in x ys)) (sym (map-id (take i xs))) t))
  where
    map-id : (ys : List ℕ) → map (λ (k : ℕ). k) ys ≡ ys
    map-id [] = refl
    map-id (y ∷ ys) = ap (λ (zs : List ℕ). y ∷ zs) (map-id ys)

module _ {m : Memory} {marked : List ℕ} (h : HaveHeads m marked) where
  pub head-has : (p : ℕ) → IsTrue (is_in p marked) → IsTrue (has m.blocks p)
  head-has p t = lies-at m.blocks p 2 p (h.lies p t) (omega arith) (omega arith)

  pub head-fits : (i : ℕ) → IsInOrder m → i < length marked → get_or marked i 0 + 1 < 2 ^ 64
  head-fits i o l = let f = (lies-fits m (get_or marked i 0) 2 o (omega arith) (h.lies (get_or marked i 0) (in-get marked i l))).1 in omega (arith, f)

  module _ {now : Memory} (i : ℕ) (l : i < length marked) (is : now ≡ changed settled_word (take i marked) m) where
    pub birth-has : IsTrue (has now.blocks (get_or marked i 0 + 1))
    birth-has = subst (λ (k : Memory). IsTrue (has k.blocks (get_or marked i 0 + 1))) (sym is)
        (has-changed settled_word (take i marked) m.blocks (get_or marked i 0 + 1) ∙ lies-at m.blocks (get_or marked i 0) 2 (get_or marked i 0 + 1) (h.lies (get_or marked i 0) (in-get marked i l)) (omega arith) (omega arith))

    not-yet : is_in (get_or marked i 0 + 1) (take i marked) ≡ false
    not-yet = elim (cases_Bool (is_in (get_or marked i 0 + 1) (take i marked))) [
      | inl t ↦ absurd (clash (is_in (get_or marked i 0 + 1) marked) (in-front (get_or marked i 0 + 1) marked i t) (h.apart (get_or marked i 0) (in-get marked i l)))
      | inr f ↦ f
    ]

    pub births_next : (before items after : List ℕ) (b : ℕ) → items ≡ before ++ map (λ p. word_at m.blocks (p + 1)) (take i marked) → b ≡ word_at now.blocks (get_or marked i 0 + 1) → after ≡ items ++ b ∷ []
        → after ≡ before ++ map (λ p. word_at m.blocks (p + 1)) (take (i + 1) marked)
    births_next before items after b listed read pushed =
        let f : ℕ → ℕ = λ p. word_at m.blocks (p + 1) in
        let b_is : b ≡ f (get_or marked i 0) = read ∙ ap (λ (k : Memory). word_at k.blocks (get_or marked i 0 + 1)) is ∙ untouched settled_word (take i marked) m.blocks (get_or marked i 0 + 1) not-yet in
        pushed ∙ ap (λ (xs : List ℕ). xs ++ b ∷ []) listed ∙ ap (λ (k : ℕ). (before ++ map f (take i marked)) ++ k ∷ []) b_is
        ∙ append_assoc before (map f (take i marked)) (f (get_or marked i 0) ∷ [])
        ∙ ap (λ (xs : List ℕ). before ++ xs) (sym (ap (map f) (take-one marked i 0 l) ∙ map-append f (take i marked) (get_or marked i 0 ∷ [])))
