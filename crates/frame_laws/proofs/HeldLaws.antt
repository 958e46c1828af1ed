-- What is remembered where an object is from now on remembered whole.
use Rattle.std.proofs.Common.{◌≡◌, ◌≢◌, ℕ, ◌⊎◌, Bool, true, false, IsTrue, List, [], ◌∷◌, map, refl, sym, ap, ◌∙◌, subst, inl, inr}
use Rattle.std.specs.Prelude.{◌==◌, ◌&&◌, ◌||◌}
use Rattle.std.specs.List.{list_any}
use Rattle.std.proofs.lemmas.Bool.{eq-eqb, ne_eqb}
use Rattle.std.proofs.lemmas.Bool.Decides.{eqb_tells}
use Rattle.object_model.proofs.Members.{is_in-head, is_in-tail, is_in-cases, or_cases, or_first, or_second, is_in-named}
use Rattle.object_model.specs.Sets.{is_in}
use Rattle.store_model.specs.MarkingOrder.{HeldSettled}
use Rattle.remember_cards.specs.Remembered.{Held, Remembered, held_whole, hold_whole, with_whole, held_places, is_held_whole, has_held_cards, is_held_of, holds_item, has_any}
use Rattle.parts_model.specs.Places.{AreAmong}

any-same : (f : Held → Bool) (hs : List Held) (p : ℕ) → f (held_whole p) ≡ false → ((h : Held) → h.place ≡ p → f (record h { is_whole = true }) ≡ f h)
    → list_any f (hold_whole hs p) ≡ list_any f hs
any-same f [] p new same = rw new refl
any-same f (h ∷ hs) p new same = elim (eqb_tells h.place p) [
  | inl e ↦ rw e.0 (ap (λ (b : Bool). b || list_any f hs) (same h e.1))
  | inr e ↦ rw e.0 (ap (λ (b : Bool). f h || b) (any-same f hs p new same))
]

and-false : (b : Bool) → (b && false) ≡ false
and-false true = refl
and-false false = refl

and-first : (a b : Bool) → IsTrue (a && b) → IsTrue a
and-first true b t = refl
and-first false b t = t

any-more : (f : Held → Bool) (hs : List Held) (p : ℕ) → ((h : Held) → IsTrue (f h) → IsTrue (f (record h { is_whole = true })))
    → IsTrue (list_any f hs) → IsTrue (list_any f (hold_whole hs p))
any-more f [] p more t = absurd (let no : ⊥ = cc in no)
any-more f (h ∷ hs) p more t = elim (eqb_tells h.place p) [
  | inl e ↦ rw e.0 (elim (or_cases (f h) (list_any f hs) t) [
    | inl here ↦ or_first (f (record h { is_whole = true })) (list_any f hs) (more h here)
    | inr there ↦ or_second (f (record h { is_whole = true })) (list_any f hs) there
  ])
  | inr e ↦ rw e.0 (elim (or_cases (f h) (list_any f hs) t) [
    | inl here ↦ or_first (f h) (list_any f (hold_whole hs p)) here
    | inr there ↦ or_second (f h) (list_any f (hold_whole hs p)) (any-more f hs p more there)
  ])
]

any-whole : (hs : List Held) (p : ℕ) → list_any (λ h. h.place == p && h.is_whole) (hold_whole hs p) ≡ true
any-whole [] p = rw (eq-eqb p p refl) refl
any-whole (h ∷ hs) p = elim (eqb_tells h.place p) [
  | inl e ↦ rw e.0 (ap (λ (b : Bool). (b && true) || list_any (λ (k : Held). k.place == p && k.is_whole) hs) e.0)
  | inr e ↦ rw e.0 (or_second (h.place == p && h.is_whole) (list_any (λ (k : Held). k.place == p && k.is_whole) (hold_whole hs p)) (any-whole hs p))
]

-- the object is remembered whole
pub whole_here : (r : Remembered) (p : ℕ) → is_held_whole (with_whole r p) p ≡ true
whole_here r p = any-whole r.held p

-- of another object the same is remembered
pub whole_other : (r : Remembered) (p q : ℕ) → q ≢ p → is_held_whole (with_whole r p) q ≡ is_held_whole r q
whole_other r p q ne =
    let f : Held → Bool = λ h. h.place == q && h.is_whole in
    let far : (x : ℕ) → x ≡ p → (x == q) ≡ false = λ x e. ne_eqb x q (λ z. ne (sym z ∙ e)) in
    any-same f r.held p (rw (far p refl) refl) (λ h e. rw (far h.place e) refl)

pub cards_same : (r : Remembered) (p q : ℕ) → has_held_cards (with_whole r p) q ≡ has_held_cards r q
cards_same r p q = any-same (λ h. h.place == q && has_any h.cards) r.held p (and-false (p == q)) (λ h e. refl)

-- nothing is forgotten
pub held_more : (r : Remembered) (name : ℕ → ℕ) (p x i : ℕ) → IsTrue (is_held_of r name x i) → IsTrue (is_held_of (with_whole r p) name x i)
held_more r name p x i t = any-more (λ h. name h.place == x && holds_item r.card h i) r.held p
    (λ h u. rw (and-first (name h.place == x) (holds_item r.card h i) u) refl) t

places-more : (hs : List Held) (p q : ℕ) → IsTrue (is_in q (map (λ (h : Held). h.place) (hold_whole hs p))) → (q ≡ p) ⊎ IsTrue (is_in q (map (λ (h : Held). h.place) hs))
places-more [] p q t = elim (is_in-cases q p [] t) [ inl e ↦ inl e | inr u ↦ inr u ]
places-more (h ∷ hs) p q t = elim (eqb_tells h.place p) [
  | inl e ↦ inr (subst (λ (l : List ℕ). IsTrue (is_in q l)) (let same : map (λ (k : Held). k.place) (hold_whole (h ∷ hs) p) ≡ h.place ∷ map (λ (k : Held). k.place) hs = rw e.0 refl in same) t)
  | inr e ↦
      let u = subst (λ (l : List ℕ). IsTrue (is_in q l)) (let same : map (λ (k : Held). k.place) (hold_whole (h ∷ hs) p) ≡ h.place ∷ map (λ (k : Held). k.place) (hold_whole hs p) = rw e.0 refl in same) t in
      elim (is_in-cases q h.place (map (λ (k : Held). k.place) (hold_whole hs p)) u) [
        | inl is ↦ inr (subst (λ (k : ℕ). IsTrue (is_in k (h.place ∷ map (λ (g : Held). g.place) hs))) (sym is) (is_in-head h.place (map (λ (g : Held). g.place) hs)))
        | inr more ↦ elim (places-more hs p q more) [ inl is ↦ inl is | inr old ↦ inr (is_in-tail q h.place (map (λ (g : Held). g.place) hs) old) ]
      ]
]

pub among_more : (r : Remembered) (p : ℕ) (places : List ℕ) → IsTrue (is_in p places) → AreAmong places (held_places r) → AreAmong places (held_places (with_whole r p))
among_more r p places t among q u = elim (places-more r.held p q u) [
  | inl e ↦ subst (λ (k : ℕ). IsTrue (is_in k places)) (sym e) t
  | inr old ↦ among q old
]

-- what is remembered belongs to objects of the names of these places
held-in : (card : ℕ) (hs : List Held) (name : ℕ → ℕ) (places : List ℕ) (x i : ℕ) → AreAmong places (map (λ (h : Held). h.place) hs)
    → IsTrue (list_any (λ h. name h.place == x && holds_item card h i) hs) → IsTrue (is_in x (map name places))
held-in card [] name places x i among t = absurd (let no : ⊥ = cc in no)
held-in card (h ∷ hs) name places x i among t = elim (or_cases (name h.place == x && holds_item card h i) (list_any (λ g. name g.place == x && holds_item card g i) hs) t) [
  | inl here ↦ elim (eqb_tells (name h.place) x) [
    | inl e ↦ subst (λ (k : ℕ). IsTrue (is_in k (map name places))) e.1 (is_in-named name h.place places (among h.place (is_in-head h.place (map (λ (g : Held). g.place) hs))))
    | inr e ↦ absurd (let f : (name h.place == x && holds_item card h i) ≡ false = rw e.0 refl in let no : ⊥ = cc in no)
  ]
  | inr there ↦ held-in card hs name places x i (λ q u. among q (is_in-tail q h.place (map (λ (g : Held). g.place) hs) u)) there
]

pub held_settled : (r : Remembered) (name : ℕ → ℕ) (places settled : List ℕ) → settled ≡ map name places → AreAmong places (held_places r)
    → HeldSettled settled (is_held_of r name)
held_settled r name places settled is among x i t = subst (λ (l : List ℕ). IsTrue (is_in x l)) (sym is) (held-in r.card r.held name places x i among t)
