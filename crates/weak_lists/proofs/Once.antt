-- Each member once, as a list grows.
use Rattle.std.proofs.Common.{◌≡◌, ℕ, ◌⊎◌, Bool, true, false, IsTrue, List, [], ◌∷◌, ◌++◌, refl, sym, ap, subst, inl, inr}
use Rattle.std.specs.Prelude.{◌==◌, ◌||◌}
use Rattle.std.proofs.lemmas.Bool.Decides.{eqb_tells}
use Rattle.object_model.specs.Sets.{is_in, AreDifferent}
use Rattle.object_model.proofs.Members.{is_in-head, is_in-tail, is_in-cases, is_in-nil}
use Rattle.weak_lists.specs.Cleared.{once_after}

same-in : (x y : ℕ) (xs : List ℕ) → x ≡ y → IsTrue (is_in y xs) → IsTrue (is_in x xs)
same-in x y xs e t = let P : ℕ → Type 0 = λ k. IsTrue (is_in k xs) in subst P (sym e) t

-- what was seen before is not listed again
pub once-again : (seen xs : List ℕ) (x : ℕ) → IsTrue (is_in x seen) ⊎ IsTrue (is_in x xs) → once_after seen (xs ++ x ∷ []) ≡ once_after seen xs
once-again seen [] x why = elim why [ inl t ↦ rw t refl | inr t ↦ absurd (is_in-nil x t) ]
once-again seen (y ∷ xs) x why = go (is_in y seen) refl (once-again seen xs x) (once-again (y ∷ seen) xs x)
  where
    go : (b : Bool) → is_in y seen ≡ b → (IsTrue (is_in x seen) ⊎ IsTrue (is_in x xs) → once_after seen (xs ++ x ∷ []) ≡ once_after seen xs)
        → (IsTrue (is_in x (y ∷ seen)) ⊎ IsTrue (is_in x xs) → once_after (y ∷ seen) (xs ++ x ∷ []) ≡ once_after (y ∷ seen) xs)
        → once_after seen ((y ∷ xs) ++ x ∷ []) ≡ once_after seen (y ∷ xs)
    go true e same other = rw e (same (elim why [
      | inl t ↦ inl t
      | inr t ↦ elim (is_in-cases x y xs t) [ inl is ↦ inl (same-in x y seen is e) | inr u ↦ inr u ]
    ]))
    go false e same other = rw e (ap (λ l. y ∷ l) (other (elim why [
      | inl t ↦ inl (is_in-tail x y seen t)
      | inr t ↦ elim (is_in-cases x y xs t) [ inl is ↦ inl (same-in x y (y ∷ seen) is (is_in-head y seen)) | inr u ↦ inr u ]
    ])))

-- and what was not is listed last
pub once-new : (seen xs : List ℕ) (x : ℕ) → is_in x seen ≡ false → is_in x xs ≡ false → once_after seen (xs ++ x ∷ []) ≡ once_after seen xs ++ x ∷ []
once-new seen [] x none new = rw none refl
once-new seen (y ∷ xs) x none new =
    go (is_in y seen) refl (once-new seen xs x none (not-in new).1) (once-new (y ∷ seen) xs x (out-of (not-in new).0 none) (not-in new).1)
  where
    first-false : (a b : Bool) → (a || b) ≡ false → (a ≡ false) × (b ≡ false)
    first-false true b f = absurd (let no : ⊥ = cc in no)
    first-false false b f = (refl, f)

    not-in : is_in x (y ∷ xs) ≡ false → ((y == x) ≡ false) × (is_in x xs ≡ false)
    not-in f = first-false (y == x) (is_in x xs) f

    out-of : (y == x) ≡ false → is_in x seen ≡ false → is_in x (y ∷ seen) ≡ false
    out-of ne f = rw (ne, f) refl

    go : (b : Bool) → is_in y seen ≡ b → once_after seen (xs ++ x ∷ []) ≡ once_after seen xs ++ x ∷ [] → once_after (y ∷ seen) (xs ++ x ∷ []) ≡ once_after (y ∷ seen) xs ++ x ∷ []
        → once_after seen ((y ∷ xs) ++ x ∷ []) ≡ once_after seen (y ∷ xs) ++ x ∷ []
    go true e same other = rw e same
    go false e same other = rw e (ap (λ l. y ∷ l) other)

once-unseen : (seen xs : List ℕ) → ((x : ℕ) → IsTrue (is_in x xs) → is_in x seen ≡ false) → AreDifferent xs → once_after seen xs ≡ xs
once-unseen seen [] new differ = refl
once-unseen seen (x ∷ xs) new differ =
    rw (new x (is_in-head x xs)) (ap (λ l. x ∷ l) (once-unseen (x ∷ seen) xs (λ y t. unseen y t (x == y) refl) differ.1))
  where
    unseen : (y : ℕ) → IsTrue (is_in y xs) → (b : Bool) → (x == y) ≡ b → is_in y (x ∷ seen) ≡ false
    unseen y t true e = absurd (let there : IsTrue (is_in x xs) = same-in x y xs (equal x y e) t in let none = differ.0 in let no : ⊥ = cc in no)
      where
        equal : (a b : ℕ) → (a == b) ≡ true → a ≡ b
        equal a b e = elim (eqb_tells a b) [ inl z ↦ z.1 | inr n ↦ absurd (let f = n.0 in let no : ⊥ = cc in no) ]
    unseen y t false e = rw e (new y (is_in-tail y x xs t))

-- then each once is just the list
pub once-different : (xs : List ℕ) → AreDifferent xs → once_after [] xs ≡ xs
once-different xs differ = once-unseen [] xs (λ x t. refl) differ
