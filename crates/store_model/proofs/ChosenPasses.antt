-- Which dying objects are chosen, by two passes of marking: forward over the registered ones, and back over those that no earlier one reached.
use Rattle.std.proofs.Common.{◌≡◌, ◌≢◌, ℕ, ◌⊎◌, Bool, true, false, IsTrue, List, [], ◌∷◌, ◌++◌, refl, sym, ap, ◌∙◌, subst, inl, inr}
use Rattle.std.specs.Prelude.{IsFalse, not, ◌==◌, ◌&&◌, ◌||◌, if◌then◌else◌}
use Rattle.std.specs.List.{list_any}
use Rattle.std.proofs.lemmas.Bool.{cases_Bool, eq-eqb, ne_eqb}
use Rattle.std.proofs.lemmas.Bool.Decides.{eqb_tells}
use Rattle.object_model.proofs.Members.{is_in-head, is_in-tail, is_in-cases, is_in-nil, in-left, in-right, in-either, or_cases, or_first, or_second, not_both}
use Rattle.object_model.specs.Sets.{is_in}

-- whether one of them reaches x
abbrev pub is_reached : (ℕ → ℕ → Bool) → List ℕ → ℕ → Bool
is_reached r hs x = list_any (λ h. r h x) hs

-- those that no earlier one reaches: what the first pass, with the flag Order1, finds unmarked
abbrev pub candidates : (ℕ → ℕ → Bool) → List ℕ → List ℕ → List ℕ
candidates r done [] = []
candidates r done (x ∷ xs) = if is_reached r done x then candidates r (done ++ x ∷ []) xs else x ∷ candidates r (done ++ x ∷ []) xs

-- those of them that no later one reaches: what the second pass, from the last to the first with the flag Order2, finds unmarked
abbrev pub unreached_later : (ℕ → ℕ → Bool) → List ℕ → List ℕ
unreached_later r [] = []
unreached_later r (x ∷ cs) = if is_reached r cs x then unreached_later r cs else x ∷ unreached_later r cs

-- whether a stands before b
abbrev pub is_before : ℕ → ℕ → List ℕ → Bool
is_before a b [] = false
is_before a b (x ∷ xs) = not (x == b) && (x == a || is_before a b xs)

-- none stands twice
abbrev pub AreOnce : List ℕ → Type 0
AreOnce [] = Unit {0}
AreOnce (x ∷ xs) = IsFalse (is_in x xs) × AreOnce xs

-- what IsChosen says, of a list of dying objects
pub record IsFirst (r : ℕ → ℕ → Bool) (xs : List ℕ) (x : ℕ) : Type 0 where
  pub there : IsTrue (is_in x xs)
  pub gives_way : (h : ℕ) → IsTrue (is_in h xs) → h ≢ x → r h x ≡ true → (r x h ≡ true) × IsFalse (is_before h x xs)

pub record ReachedBy (r : ℕ → ℕ → Bool) (hs : List ℕ) (x : ℕ) : Type 0 where
  pub by : ℕ
  pub there : IsTrue (is_in by hs)
  pub reaches : r by x ≡ true

module _ (r : ℕ → ℕ → Bool) (self : (x : ℕ) → r x x ≡ true) (joins : (x y z : ℕ) → r x y ≡ true → r y z ≡ true → r x z ≡ true) where
  by-one : (hs : List ℕ) (x : ℕ) → is_reached r hs x ≡ true → ReachedBy r hs x
  by-one [] x t = absurd (let no : ⊥ = cc in no)
  by-one (h ∷ hs) x t = elim (or_cases (r h x) (is_reached r hs x) t) [
    | inl here ↦ record { by = h; there = is_in-head h hs; reaches = here }
    | inr more ↦ let m = by-one hs x more in record { by = m.by; there = is_in-tail m.by h hs m.there; reaches = m.reaches }
  ]

  one-by : (hs : List ℕ) (x h : ℕ) → IsTrue (is_in h hs) → r h x ≡ true → is_reached r hs x ≡ true
  one-by [] x h t e = absurd (is_in-nil h t)
  one-by (g ∷ hs) x h t e = elim (is_in-cases h g hs t) [
    | inl is ↦ or_first (r g x) (is_reached r hs x) (subst (λ (k : ℕ). r k x ≡ true) is e)
    | inr u ↦ or_second (r g x) (is_reached r hs x) (one-by hs x h u e)
  ]

  -- a candidate is one of them, and none that was done reaches it
  candidate-part : (done xs : List ℕ) (x : ℕ) → IsTrue (is_in x (candidates r done xs)) → IsTrue (is_in x xs) × (is_reached r done x ≡ false)
  candidate-part done [] x t = absurd (is_in-nil x t)
  candidate-part done (y ∷ ys) x t = go (candidate-part (done ++ y ∷ []) ys x) (is_reached r done y) refl t
    where
      fewer : is_reached r (done ++ y ∷ []) x ≡ false → is_reached r done x ≡ false
      fewer e = elim (cases_Bool (is_reached r done x)) [
        | inl t ↦ absurd (let b = by-one done x t in let yes : is_reached r (done ++ y ∷ []) x ≡ true = one-by (done ++ y ∷ []) x b.by (in-left b.by done (y ∷ []) b.there) b.reaches in let no : ⊥ = cc in no)
        | inr f ↦ f
      ]

      go : (IsTrue (is_in x (candidates r (done ++ y ∷ []) ys)) → IsTrue (is_in x ys) × (is_reached r (done ++ y ∷ []) x ≡ false)) → (b : Bool) → is_reached r done y ≡ b
          → IsTrue (is_in x (candidates r done (y ∷ ys))) → IsTrue (is_in x (y ∷ ys)) × (is_reached r done x ≡ false)
      go more true b t = let m = more (rw b at t) in (is_in-tail x y ys m.0, fewer m.1)
      go more false b t = elim (is_in-cases x y (candidates r (done ++ y ∷ []) ys) (rw b at t)) [
        | inl is ↦ (subst (λ (k : ℕ). IsTrue (is_in k (y ∷ ys))) (sym is) (is_in-head y ys), ap (is_reached r done) is ∙ b)
        | inr u ↦ let m = more u in (is_in-tail x y ys m.0, fewer m.1)
      ]

  -- each is reached by one that was done, or by a candidate
  covered : (done xs : List ℕ) (h : ℕ) → IsTrue (is_in h xs) → ReachedBy r done h ⊎ ReachedBy r (candidates r done xs) h
  covered done [] h t = absurd (is_in-nil h t)
  covered done (y ∷ ys) h t = go (is_reached r done y) refl (is_in-cases h y ys t) (covered (done ++ y ∷ []) ys h)
    where
      later : ReachedBy r (candidates r (done ++ y ∷ []) ys) h → ReachedBy r (candidates r done (y ∷ ys)) h
      later m = elim (cases_Bool (is_reached r done y)) [
        | inl e ↦ record { by = m.by; there = rw e m.there; reaches = m.reaches }
        | inr e ↦ record { by = m.by; there = rw e (is_in-tail m.by y (candidates r (done ++ y ∷ []) ys) m.there); reaches = m.reaches }
      ]

      here : (x : ℕ) → r y x ≡ true → ReachedBy r done x ⊎ ReachedBy r (candidates r done (y ∷ ys)) x
      here x e = elim (cases_Bool (is_reached r done y)) [
        | inl d ↦ let b = by-one done y d in inl (record { by = b.by; there = b.there; reaches = joins b.by y x b.reaches e })
        | inr d ↦ inr (record { by = y; there = rw d (is_in-head y (candidates r (done ++ y ∷ []) ys)); reaches = e })
      ]

      earlier : ReachedBy r (done ++ y ∷ []) h → ReachedBy r done h ⊎ ReachedBy r (candidates r done (y ∷ ys)) h
      earlier m = elim (in-either m.by done (y ∷ []) m.there) [
        | inl d ↦ inl (record { by = m.by; there = d; reaches = m.reaches })
        | inr one ↦ elim (is_in-cases m.by y [] one) [
          | inl is ↦ here h (subst (λ (k : ℕ). r k h ≡ true) is m.reaches)
          | inr none ↦ absurd (is_in-nil m.by none)
        ]
      ]

      go : (b : Bool) → is_reached r done y ≡ b → (h ≡ y) ⊎ IsTrue (is_in h ys) → (IsTrue (is_in h ys) → ReachedBy r (done ++ y ∷ []) h ⊎ ReachedBy r (candidates r (done ++ y ∷ []) ys) h)
          → ReachedBy r done h ⊎ ReachedBy r (candidates r done (y ∷ ys)) h
      go b e (inl is) more = here h (subst (λ (k : ℕ). r y k ≡ true) (sym is) (self y))
      go b e (inr u) more = elim (more u) [ inl m ↦ earlier m | inr m ↦ inr (later m) ]

  later-part : (cs : List ℕ) (x : ℕ) → IsTrue (is_in x (unreached_later r cs)) → IsTrue (is_in x cs)
  later-part [] x t = t
  later-part (c ∷ cs) x t = go (later-part cs x) (is_reached r cs c) refl t
    where
      go : (IsTrue (is_in x (unreached_later r cs)) → IsTrue (is_in x cs)) → (b : Bool) → is_reached r cs c ≡ b → IsTrue (is_in x (unreached_later r (c ∷ cs))) → IsTrue (is_in x (c ∷ cs))
      go more true b t = is_in-tail x c cs (more (rw b at t))
      go more false b t = elim (is_in-cases x c (unreached_later r cs) (rw b at t)) [
        | inl is ↦ subst (λ (k : ℕ). IsTrue (is_in k (c ∷ cs))) (sym is) (is_in-head c cs)
        | inr u ↦ is_in-tail x c cs (more u)
      ]

  -- the passes find what gives way to none
  pub passes_find : (done xs : List ℕ) (x : ℕ) → AreOnce xs → IsTrue (is_in x (unreached_later r (candidates r done xs))) → IsFirst r xs x × (is_reached r done x ≡ false)
  passes_find done [] x once t = absurd (is_in-nil x t)
  passes_find done (y ∷ ys) x once t =
      go (passes_find (done ++ y ∷ []) ys x once.1) (is_reached r done y) refl (is_reached r (candidates r (done ++ y ∷ []) ys) y) refl t
    where
      cs : List ℕ
      cs = candidates r (done ++ y ∷ []) ys

      rest : IsFirst r ys x × (is_reached r (done ++ y ∷ []) x ≡ false) → IsFirst r (y ∷ ys) x × (is_reached r done x ≡ false)
      rest m = (
        record {
          there = is_in-tail x y ys m.0.there;
          gives_way = λ h t ne e. elim (is_in-cases h y ys t) [
            | inl is ↦ absurd (let yes : is_reached r (done ++ y ∷ []) x ≡ true = one-by (done ++ y ∷ []) x y (in-right y done (y ∷ []) (is_in-head y [])) (subst (λ (k : ℕ). r k x ≡ true) is e) in
                let out = m.1 in let no : ⊥ = cc in no)
            | inr u ↦ let w = m.0.gives_way h u ne e in (w.0, not-first h u w.1)
          ];
        },
        elim (cases_Bool (is_reached r done x)) [
          | inl d ↦ absurd (let b = by-one done x d in
              let yes : is_reached r (done ++ y ∷ []) x ≡ true = one-by (done ++ y ∷ []) x b.by (in-left b.by done (y ∷ []) b.there) b.reaches in let out = m.1 in let no : ⊥ = cc in no)
          | inr d ↦ d
        ],
      )
        where
          not-first : (h : ℕ) → IsTrue (is_in h ys) → IsFalse (is_before h x ys) → IsFalse (is_before h x (y ∷ ys))
          not-first h u f = elim (eqb_tells y h) [
            | inl is ↦ absurd (not_both (is_in y ys) (subst (λ (k : ℕ). IsTrue (is_in k ys)) (sym is.1) u) once.0)
            | inr other ↦ rw other.0 (rw f (none (y == x)))
          ]
            where
              none : (b : Bool) → (not b && false) ≡ false
              none true = refl
              none false = refl

      first : is_reached r done y ≡ false → is_reached r (candidates r (done ++ y ∷ []) ys) y ≡ false → IsFirst r (y ∷ ys) y × (is_reached r done y ≡ false)
      first d c = (
        record {
          there = is_in-head y ys;
          gives_way = λ h t ne e. elim (is_in-cases h y ys t) [
            | inl is ↦ absurd (ne is)
            | inr u ↦ (back h e (covered (done ++ y ∷ []) ys h u), rw (eq-eqb y y refl) refl)
          ];
        },
        d,
      )
        where
          back : (h : ℕ) → r h y ≡ true → ReachedBy r (done ++ y ∷ []) h ⊎ ReachedBy r (candidates r (done ++ y ∷ []) ys) h → r y h ≡ true
          back h e (inl m) = elim (in-either m.by done (y ∷ []) m.there) [
            | inl u ↦ absurd (let yes : is_reached r done y ≡ true = one-by done y m.by u (joins m.by h y m.reaches e) in let no : ⊥ = cc in no)
            | inr one ↦ elim (is_in-cases m.by y [] one) [
              | inl is ↦ subst (λ (k : ℕ). r k h ≡ true) is m.reaches
              | inr none ↦ absurd (is_in-nil m.by none)
            ]
          ]
          back h e (inr m) = absurd (let yes : is_reached r (candidates r (done ++ y ∷ []) ys) y ≡ true = one-by (candidates r (done ++ y ∷ []) ys) y m.by m.there (joins m.by h y m.reaches e) in let no : ⊥ = cc in no)

      go : (IsTrue (is_in x (unreached_later r (candidates r (done ++ y ∷ []) ys))) → IsFirst r ys x × (is_reached r (done ++ y ∷ []) x ≡ false))
          → (a : Bool) → is_reached r done y ≡ a → (c : Bool) → is_reached r (candidates r (done ++ y ∷ []) ys) y ≡ c
          → IsTrue (is_in x (unreached_later r (candidates r done (y ∷ ys)))) → IsFirst r (y ∷ ys) x × (is_reached r done x ≡ false)
      go more true a c0 c t = rest (more (rw a at t))
      go more false a true c t = rest (more (rw c at (rw a at t)))
      go more false a false c t = elim (is_in-cases x y (unreached_later r (candidates r (done ++ y ∷ []) ys)) (rw c at (rw a at t))) [
        | inl is ↦ subst (λ (k : ℕ). IsFirst r (y ∷ ys) k × (is_reached r done k ≡ false)) (sym is) (first a c)
        | inr u ↦ rest (more u)
      ]

  -- and all of it
  pub passes_all : (done xs : List ℕ) (x : ℕ) → AreOnce xs → IsFirst r xs x → is_reached r done x ≡ false → IsTrue (is_in x (unreached_later r (candidates r done xs)))
  passes_all done [] x once f d = absurd (is_in-nil x f.there)
  passes_all done (y ∷ ys) x once f d = go (eqb_tells y x) (passes_all (done ++ y ∷ []) ys x once.1)
    where
      none-later : y ≡ x → is_reached r (candidates r (done ++ y ∷ []) ys) y ≡ false
      none-later is = elim (cases_Bool (is_reached r (candidates r (done ++ y ∷ []) ys) y)) [
        | inl t ↦ absurd (
            let b = by-one (candidates r (done ++ y ∷ []) ys) y t in
            let part = candidate-part (done ++ y ∷ []) ys b.by b.there in
            let ne : b.by ≢ x = λ e. not_both (is_in y ys) (subst (λ (k : ℕ). IsTrue (is_in k ys)) (e ∙ sym is) part.0) once.0 in
            let w = f.gives_way b.by (is_in-tail b.by y ys part.0) ne (subst (λ (k : ℕ). r b.by k ≡ true) is b.reaches) in
            let yes : is_reached r (done ++ y ∷ []) b.by ≡ true = one-by (done ++ y ∷ []) b.by y (in-right y done (y ∷ []) (is_in-head y [])) (subst (λ (k : ℕ). r k b.by ≡ true) (sym is) w.0) in
            let out = part.1 in let no : ⊥ = cc in no)
        | inr n ↦ n
      ]

      go : (((y == x) ≡ true) × (y ≡ x)) ⊎ (((y == x) ≡ false) × (y ≢ x))
          → (IsFirst r ys x → is_reached r (done ++ y ∷ []) x ≡ false → IsTrue (is_in x (unreached_later r (candidates r (done ++ y ∷ []) ys))))
          → IsTrue (is_in x (unreached_later r (candidates r done (y ∷ ys))))
      go (inl is) more =
          let out : is_reached r done y ≡ false = ap (is_reached r done) is.1 ∙ d in
          rw out (rw (none-later is.1) (subst (λ (k : ℕ). IsTrue (is_in k (y ∷ unreached_later r (candidates r (done ++ y ∷ []) ys)))) is.1 (is_in-head y _)))
      go (inr other) more =
          let in_rest : IsTrue (is_in x ys) = elim (is_in-cases x y ys f.there) [ inl e ↦ absurd (other.1 (sym e)) | inr u ↦ u ] in
          let no_y : r y x ≡ false = elim (cases_Bool (r y x)) [
            | inl e ↦ absurd (let w = f.gives_way y (is_in-head y ys) other.1 e in
                let before : is_before y x (y ∷ ys) ≡ true = rw (other.0, eq-eqb y y refl) refl in let no : ⊥ = not_both (is_before y x (y ∷ ys)) before w.1 in no)
            | inr e ↦ e
          ] in
          let out : is_reached r (done ++ y ∷ []) x ≡ false = elim (cases_Bool (is_reached r (done ++ y ∷ []) x)) [
            | inl t ↦ absurd (let b = by-one (done ++ y ∷ []) x t in elim (in-either b.by done (y ∷ []) b.there) [
              | inl u ↦ let yes : is_reached r done x ≡ true = one-by done x b.by u b.reaches in let no : ⊥ = cc in no
              | inr one ↦ elim (is_in-cases b.by y [] one) [
                | inl is ↦ let yes : r y x ≡ true = subst (λ (k : ℕ). r k x ≡ true) is b.reaches in let no : ⊥ = cc in no
                | inr none ↦ is_in-nil b.by none
              ]
            ])
            | inr n ↦ n
          ] in
          let first : IsFirst r ys x = record {
            there = in_rest;
            gives_way = λ h t ne e. let w = f.gives_way h (is_in-tail h y ys t) ne e in (w.0, later h (λ same. not_both (is_in y ys) (subst (λ (k : ℕ). IsTrue (is_in k ys)) (sym same) t) once.0) other.1 w.1);
          } in
          kept (more first out)
        where
          later : (h : ℕ) → (y ≡ h → ⊥) → y ≢ x → IsFalse (is_before h x (y ∷ ys)) → IsFalse (is_before h x ys)
          later h ne nx e = elim (cases_Bool (is_before h x ys)) [
            | inl t ↦ absurd (let yes : is_before h x (y ∷ ys) ≡ true = rw (ne_eqb y x nx, ne_eqb y h ne) t in not_both (is_before h x (y ∷ ys)) yes e)
            | inr n ↦ n
          ]

          kept : IsTrue (is_in x (unreached_later r (candidates r (done ++ y ∷ []) ys))) → IsTrue (is_in x (unreached_later r (candidates r done (y ∷ ys))))
          kept t = elim (cases_Bool (is_reached r done y)) [
            | inl a ↦ rw a t
            | inr a ↦ rw a (elim (cases_Bool (is_reached r (candidates r (done ++ y ∷ []) ys) y)) [
              | inl c ↦ rw c t
              | inr c ↦ rw c (is_in-tail x y (unreached_later r (candidates r (done ++ y ∷ []) ys)) t)
            ])
          ]
