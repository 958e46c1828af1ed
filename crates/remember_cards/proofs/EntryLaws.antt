-- Entries where that of one object is changed, or a new one comes last.
use Rattle.std.proofs.Common.{◌≡◌, ℕ, ◌⊎◌, Bool, true, false, IsTrue, List, [], ◌∷◌, ◌++◌, map, refl, sym, ap, ◌∙◌, subst, inl, inr, Result, Ok, Err, OnErr}
use Rattle.std.specs.Prelude.{◌==◌, ◌&&◌, ◌||◌}
use Rattle.std.specs.List.{list_any}
use Rattle.std.proofs.lemmas.Bool.Decides.{eqb_tells}
use Rattle.object_model.proofs.Members.{is_in-head, is_in-tail, is_in-cases}
use Rattle.object_model.specs.Sets.{is_in}
use Rattle.remember_cards.specs.Remembered.{Held, with_entry}

pub or-either : (a b : Bool) → IsTrue (a || b) → IsTrue a ⊎ IsTrue b
or-either true b t = inl refl
or-either false b t = inr t

pub or-first : (a b : Bool) → IsTrue a → IsTrue (a || b)
or-first true b t = refl
or-first false b t = absurd (let no : ⊥ = cc in no)

pub or-second : (a b : Bool) → IsTrue b → IsTrue (a || b)
or-second true b t = refl
or-second false b t = t

pub not-first : (a b : Bool) → (a || b) ≡ false → a ≡ false
not-first true b e = e
not-first false b e = refl

pub not-second : (a b : Bool) → (a || b) ≡ false → b ≡ false
not-second true b e = absurd (let no : ⊥ = cc in no)
not-second false b e = e

-- what holds is so where there is an error
pub on_err : {T E P : Type 0} (r : Result T E) → P → OnErr r P
on_err (Ok x) p = tt
on_err (Err e) p = p

-- the places of entries
abbrev pub places_of : List Held → List ℕ
places_of entries = map (λ held. held.place) entries

-- of a place that no entry has nothing is found
pub any_absent : (F : Held → Bool) (hs : List Held) (q : ℕ) → is_in q (places_of hs) ≡ false → list_any (λ held. held.place == q && F held) hs ≡ false
any_absent F [] q out = refl
any_absent F (h ∷ hs) q out = elim (eqb_tells h.place q) [
  | inl e ↦ absurd (let yes : is_in q (places_of (h ∷ hs)) ≡ true = rw e.0 refl in let no : ⊥ = cc in no)
  | inr e ↦ let rest : is_in q (places_of hs) ≡ false = not-second (h.place == q) (is_in q (places_of hs)) out in rw e.0 (any_absent F hs q rest)
]

module _ (change : Held → Held) (new : Held) (p : ℕ) where
  -- a test that the change keeps, and that the new entry does not pass
  pub any_same : (f : Held → Bool) (hs : List Held) → f new ≡ false → ((h : Held) → h.place ≡ p → f (change h) ≡ f h)
      → list_any f (with_entry change new hs p) ≡ list_any f hs
  any_same f [] none same = rw none refl
  any_same f (h ∷ hs) none same = elim (eqb_tells h.place p) [
    | inl e ↦ rw e.0 (ap (λ (b : Bool). b || list_any f hs) (same h e.1))
    | inr e ↦ rw e.0 (ap (λ (b : Bool). f h || b) (any_same f hs none same))
  ]

  -- a test that the change does not end
  pub any_more : (f : Held → Bool) (hs : List Held) → ((h : Held) → h.place ≡ p → IsTrue (f h) → IsTrue (f (change h)))
      → IsTrue (list_any f hs) → IsTrue (list_any f (with_entry change new hs p))
  any_more f [] more t = absurd (let no : ⊥ = cc in no)
  any_more f (h ∷ hs) more t = elim (eqb_tells h.place p) [
    | inl e ↦ rw e.0 (elim (or-either (f h) (list_any f hs) t) [
      | inl here ↦ or-first (f (change h)) (list_any f hs) (more h e.1 here)
      | inr there ↦ or-second (f (change h)) (list_any f hs) there
    ])
    | inr e ↦ rw e.0 (elim (or-either (f h) (list_any f hs) t) [
      | inl here ↦ or-first (f h) (list_any f (with_entry change new hs p)) here
      | inr there ↦ or-second (f h) (list_any f (with_entry change new hs p)) (any_more f hs more there)
    ])
  ]

  -- a test that what is changed passes
  pub any_here : (f : Held → Bool) (hs : List Held) → IsTrue (f new) → ((h : Held) → h.place ≡ p → IsTrue (f (change h)))
      → IsTrue (list_any f (with_entry change new hs p))
  any_here f [] here each = or-first (f new) false here
  any_here f (h ∷ hs) here each = elim (eqb_tells h.place p) [
    | inl e ↦ rw e.0 (or-first (f (change h)) (list_any f hs) (each h e.1))
    | inr e ↦ rw e.0 (or-second (f h) (list_any f (with_entry change new hs p)) (any_here f hs here each))
  ]

  -- no other place comes in
  pub places_more : ((h : Held) → (change h).place ≡ h.place) → new.place ≡ p → (hs : List Held) (q : ℕ)
      → IsTrue (is_in q (places_of (with_entry change new hs p))) → (q ≡ p) ⊎ IsTrue (is_in q (places_of hs))
  places_more keeps is [] q t = elim (is_in-cases q new.place [] t) [ inl e ↦ inl (e ∙ is) | inr u ↦ inr u ]
  places_more keeps is (h ∷ hs) q t = elim (eqb_tells h.place p) [
    | inl e ↦
        let same : places_of (with_entry change new (h ∷ hs) p) ≡ h.place ∷ places_of hs = rw e.0 (ap (λ (x : ℕ). x ∷ places_of hs) (keeps h)) in
        inr (subst (λ (l : List ℕ). IsTrue (is_in q l)) same t)
    | inr e ↦
        let same : places_of (with_entry change new (h ∷ hs) p) ≡ h.place ∷ places_of (with_entry change new hs p) = rw e.0 refl in
        let u = subst (λ (l : List ℕ). IsTrue (is_in q l)) same t in
        elim (is_in-cases q h.place (places_of (with_entry change new hs p)) u) [
          | inl is_h ↦ inr (subst (λ (k : ℕ). IsTrue (is_in k (h.place ∷ places_of hs))) (sym is_h) (is_in-head h.place (places_of hs)))
          | inr later ↦ elim (places_more keeps is hs q later) [ inl e ↦ inl e | inr old ↦ inr (is_in-tail q h.place (places_of hs) old) ]
        ]
  ]

  -- the entry lies behind those of other places
  pub entry_behind : (xs hs : List Held) → is_in p (places_of xs) ≡ false → with_entry change new (xs ++ hs) p ≡ xs ++ with_entry change new hs p
  entry_behind [] hs out = refl
  entry_behind (x ∷ xs) hs out = elim (eqb_tells x.place p) [
    | inl e ↦ absurd (let yes : is_in p (places_of (x ∷ xs)) ≡ true = rw e.0 refl in let no : ⊥ = cc in no)
    | inr e ↦ let rest : is_in p (places_of xs) ≡ false = not-second (x.place == p) (is_in p (places_of xs)) out in rw e.0 (ap (λ (l : List Held). x ∷ l) (entry_behind xs hs rest))
  ]

  -- the new entry comes last
  pub entry_last : (hs : List Held) → is_in p (places_of hs) ≡ false → with_entry change new hs p ≡ hs ++ new ∷ []
  entry_last [] out = refl
  entry_last (h ∷ hs) out = elim (eqb_tells h.place p) [
    | inl e ↦ absurd (let yes : is_in p (places_of (h ∷ hs)) ≡ true = rw e.0 refl in let no : ⊥ = cc in no)
    | inr e ↦ let rest : is_in p (places_of hs) ≡ false = not-second (h.place == p) (is_in p (places_of hs)) out in rw e.0 (ap (λ (l : List Held). h ∷ l) (entry_last hs rest))
  ]
