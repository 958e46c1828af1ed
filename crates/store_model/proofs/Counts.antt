-- How many objects became settled.
use Rattle.std.proofs.Common.{◌≡◌, ℕ, suc, ◌+◌, Bool, true, false, List, [], ◌∷◌, length, refl, inl, inr, arith}
use Rattle.std.specs.Prelude.{◌||◌}
use Rattle.std.proofs.lemmas.Bool.{cases_Bool}
use Rattle.object_model.specs.Object.{Object}
use Rattle.store_model.specs.Reach.{births_where}

-- of two tests of which no object passes both, either takes its own number
pub count_either : (kept : List Object) (f g : ℕ → Bool) → ((x : ℕ) → f x ≡ true → g x ≡ false)
    → length (births_where kept (λ x. f x || g x)) ≡ length (births_where kept f) + length (births_where kept g)
count_either [] f g apart = refl
count_either (o ∷ os) f g apart =
    let more = count_either os f g apart in
    elim (cases_Bool (f o.birth)) [
      | inl t ↦
          let a : length (births_where (o ∷ os) (λ x. f x || g x)) ≡ suc (length (births_where os (λ x. f x || g x))) = rw t refl in
          let b : length (births_where (o ∷ os) f) ≡ suc (length (births_where os f)) = rw t refl in
          let c : length (births_where (o ∷ os) g) ≡ length (births_where os g) = rw (apart o.birth t) refl in
          omega (arith, a, b, c, more)
      | inr e ↦
          let b : length (births_where (o ∷ os) f) ≡ length (births_where os f) = rw e refl in
          elim (cases_Bool (g o.birth)) [
            | inl u ↦
                let a : length (births_where (o ∷ os) (λ x. f x || g x)) ≡ suc (length (births_where os (λ x. f x || g x))) = rw (e, u) refl in
                let c : length (births_where (o ∷ os) g) ≡ suc (length (births_where os g)) = rw u refl in
                omega (arith, a, b, c, more)
            | inr u ↦
                let a : length (births_where (o ∷ os) (λ x. f x || g x)) ≡ length (births_where os (λ x. f x || g x)) = rw (e, u) refl in
                let c : length (births_where (o ∷ os) g) ≡ length (births_where os g) = rw u refl in
                omega (arith, a, b, c, more)
          ]
    ]
