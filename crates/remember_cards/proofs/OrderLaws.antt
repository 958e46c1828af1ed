-- Entries as places in order with marks: what a change of marks and of the order is to them.
use Rattle.std.proofs.Common.{◌≡◌, ◌≢◌, ℕ, Bool, true, false, IsTrue, List, [], ◌∷◌, ◌++◌, Option, Some, None, is_some, refl, sym, ap, ap₂, ◌∙◌, subst, inl, inr}
use Rattle.std.specs.Prelude.{◌==◌, ◌&&◌, ◌||◌}
use Rattle.std.proofs.lemmas.Bool.{eq-eqb, ne_eqb, cases_Bool}
use Rattle.std.proofs.lemmas.Bool.Decides.{eqb_tells}
use Rattle.std.proofs.lemmas.List.{map-append}
use Rattle.object_model.proofs.Members.{is_in-cases, is_in-before, is_in-append}
use Rattle.object_model.specs.Sets.{is_in, AreDifferent}
use Rattle.remember_cards.specs.Remembered.{Held, held_whole, has_any, is_whole_among, with_entry}
use Rattle.remember_cards.specs.Entries.{Marks, MarksAt, with_marks, held_at, entries_of, AreOrderly, AreListed}
use Rattle.remember_cards.proofs.EntryLaws.{places_of, not-first, not-second, entry_last}

pub place_at : (p : ℕ) (m : Option Marks) → (held_at p m).place ≡ p
place_at p None = refl
place_at p (Some marks) = refl

pub places_order : (f : MarksAt) (order : List ℕ) → places_of (entries_of f order) ≡ order
places_order f [] = refl
places_order f (x ∷ xs) = ap₂ (λ (y : ℕ) (ys : List ℕ). y ∷ ys) (place_at x (f x)) (places_order f xs)

pub marks-here : (f : MarksAt) (p q : ℕ) (v : Option Marks) → (q == p) ≡ true → with_marks f p v q ≡ v
marks-here f p q v e = rw e refl

pub marks-other : (f : MarksAt) (p q : ℕ) (v : Option Marks) → (q == p) ≡ false → with_marks f p v q ≡ f q
marks-other f p q v e = rw e refl

-- the marks that a place has already
pub marks-again : (f : MarksAt) (p : ℕ) → with_marks f p (f p) ≡ f
marks-again f p = λ i q. (at q) i
  where
    at : (q : ℕ) → with_marks f p (f p) q ≡ f q
    at q = elim (eqb_tells q p) [ inl e ↦ marks-here f p q (f p) e.0 ∙ ap f (sym e.1) | inr e ↦ marks-other f p q (f p) e.0 ]

-- marks at a place that is not in the order
pub elsewhere : (f : MarksAt) (p : ℕ) (v : Option Marks) (order : List ℕ) → is_in p order ≡ false → entries_of (with_marks f p v) order ≡ entries_of f order
elsewhere f p v [] out = refl
elsewhere f p v (x ∷ xs) out =
    ap₂ (λ (h : Held) (hs : List Held). h ∷ hs) (ap (held_at x) (marks-other f p x v (not-first (x == p) (is_in p xs) out)))
    (elsewhere f p v xs (not-second (x == p) (is_in p xs) out))

pub entry-head : (change : Held → Held) (new h : Held) (rest : List Held) (p : ℕ) → h.place ≡ p → with_entry change new (h ∷ rest) p ≡ change h ∷ rest
entry-head change new h rest p e = rw (eq-eqb h.place p e) refl

pub entry-tail : (change : Held → Held) (new h : Held) (rest : List Held) (p : ℕ) → h.place ≢ p → with_entry change new (h ∷ rest) p ≡ h ∷ with_entry change new rest p
entry-tail change new h rest p ne = rw (ne_eqb h.place p ne) refl

-- marks at a place in the order change its entry
pub changed_one : (change : Held → Held) (new : Held) (f : MarksAt) (p : ℕ) (v : Option Marks) (order : List ℕ) → AreDifferent order → IsTrue (is_in p order)
    → change (held_at p (f p)) ≡ held_at p v → entries_of (with_marks f p v) order ≡ with_entry change new (entries_of f order) p
changed_one change new f p v [] d t same = absurd (let no : ⊥ = cc in no)
changed_one change new f p v (x ∷ xs) d t same = elim (eqb_tells x p) [
  | inl e ↦
      let here : held_at x (with_marks f p v x) ≡ change (held_at x (f x)) =
      ap (held_at x) (marks-here f p x v e.0) ∙ sym (let F : ℕ → Type 0 = λ y. change (held_at y (f y)) ≡ held_at y v in subst F (sym e.1) same) in
      let out : is_in p xs ≡ false = (let F : ℕ → Type 0 = λ y. is_in y xs ≡ false in subst F e.1 d.0) in
      ap₂ (λ (h : Held) (hs : List Held). h ∷ hs) here (elsewhere f p v xs out)
      ∙ sym (entry-head change new (held_at x (f x)) (entries_of f xs) p (place_at x (f x) ∙ e.1))
  | inr e ↦ elim (is_in-cases p x xs t) [
    | inl is ↦ absurd (e.1 (sym is))
    | inr later ↦
        ap₂ (λ (h : Held) (hs : List Held). h ∷ hs) (ap (held_at x) (marks-other f p x v e.0)) (changed_one change new f p v xs d.1 later same)
        ∙ sym (entry-tail change new (held_at x (f x)) (entries_of f xs) p (λ z. e.1 (sym (place_at x (f x)) ∙ z)))
  ]
]

-- a new place comes last
pub added_one : (change : Held → Held) (new : Held) (f : MarksAt) (p : ℕ) (v : Option Marks) (order : List ℕ) → is_in p order ≡ false
    → held_at p v ≡ new → entries_of (with_marks f p v) (order ++ p ∷ []) ≡ with_entry change new (entries_of f order) p
added_one change new f p v order out same =
    let absent : is_in p (places_of (entries_of f order)) ≡ false = ap (is_in p) (places_order f order) ∙ out in
    map-append (λ x. held_at x (with_marks f p v x)) order (p ∷ [])
    ∙ (ap₂ (λ (hs ls : List Held). hs ++ ls) (elsewhere f p v order out) (ap (λ (h : Held). h ∷ []) (ap (held_at p) (marks-here f p p v (eq-eqb p p refl)) ∙ same))
    ∙ sym (entry_last change new p (entries_of f order) absent))

-- a place in the order that has no marks is remembered whole
whole-there : (f : MarksAt) (p : ℕ) (order : List ℕ) → f p ≡ None → IsTrue (is_in p order) → is_whole_among (entries_of f order) p ≡ true
whole-there f p [] none t = absurd (let no : ⊥ = cc in no)
whole-there f p (x ∷ xs) none t = elim (is_in-cases p x xs t) [
  | inl is ↦
      let entry : held_at x (f x) ≡ held_whole p = (let F : ℕ → Type 0 = λ y. held_at y (f y) ≡ held_whole p in subst F is (ap (held_at p) none)) in
      ap (λ (h : Held). is_whole_among (h ∷ entries_of f xs) p) entry ∙ head (entries_of f xs)
  | inr later ↦ either (whole-there f p xs none later)
]
  where
    head : (hs : List Held) → is_whole_among (held_whole p ∷ hs) p ≡ true
    head hs = rw (eq-eqb p p refl) refl

    or-true : (a b : Bool) → b ≡ true → (a || b) ≡ true
    or-true true b e = refl
    or-true false b e = e

    either : is_whole_among (entries_of f xs) p ≡ true → is_whole_among (entries_of f (x ∷ xs)) p ≡ true
    either e = or-true ((held_at x (f x)).place == p && (held_at x (f x)).is_whole) (is_whole_among (entries_of f xs) p) e

pub not_there : (f : MarksAt) (p : ℕ) (order : List ℕ) → f p ≡ None → is_whole_among (entries_of f order) p ≡ false → is_in p order ≡ false
not_there f p order none out = elim (cases_Bool (is_in p order)) [
  | inl t ↦ absurd (let whole : is_whole_among (entries_of f order) p ≡ true = whole-there f p order none t in let no : ⊥ = cc in no)
  | inr e ↦ e
]

pub none_of : (m : Option Marks) → is_some m ≡ false → m ≡ None
none_of None e = refl
none_of (Some marks) e = absurd (let no : ⊥ = cc in no)

-- the order stays, and marks at one place change
pub listed_with : (f : MarksAt) (p : ℕ) (v : Option Marks) (order : List ℕ) → AreListed f order → (IsTrue (is_some v) → IsTrue (is_in p order))
    → (IsTrue (is_some v) → has_any (held_at p v).cards ≡ true) → AreListed (with_marks f p v) order
listed_with f p v order l there cards = record {
  differ = l.differ;
  listed = λ q t. elim (eqb_tells q p) [
    | inl e ↦ (let F : ℕ → Type 0 = λ y. IsTrue (is_in y order) in subst F (sym e.1) (there (subst (λ (m : Option Marks). IsTrue (is_some m)) (marks-here f p q v e.0) t)))
    | inr e ↦ l.listed q (subst (λ (m : Option Marks). IsTrue (is_some m)) (marks-other f p q v e.0) t)
  ];
  some_cards = λ q t. elim (eqb_tells q p) [
    | inl e ↦
        ap (λ (m : Option Marks). has_any (held_at q m).cards) (marks-here f p q v e.0)
        ∙ (let F : ℕ → Type 0 = λ y. has_any (held_at y v).cards ≡ true in subst F (sym e.1) (cards (subst (λ (m : Option Marks). IsTrue (is_some m)) (marks-here f p q v e.0) t)))
    | inr e ↦
        ap (λ (m : Option Marks). has_any (held_at q m).cards) (marks-other f p q v e.0)
        ∙ l.some_cards q (subst (λ (m : Option Marks). IsTrue (is_some m)) (marks-other f p q v e.0) t)
  ];
}

out-append : (x p : ℕ) (xs : List ℕ) → is_in x xs ≡ false → x ≢ p → is_in x (xs ++ p ∷ []) ≡ false
out-append x p xs out ne = elim (cases_Bool (is_in x (xs ++ p ∷ []))) [
  | inl t ↦ elim (is_in-append xs p x t) [ inl e ↦ absurd (ne e) | inr there ↦ absurd (let no : ⊥ = cc in no) ]
  | inr e ↦ e
]

-- a new place behind those that differ
pub differ_push : (order : List ℕ) (p : ℕ) → AreDifferent order → is_in p order ≡ false → AreDifferent (order ++ p ∷ [])
differ_push [] p d out = (refl, tt)
differ_push (x ∷ xs) p d out = (
  out-append x p xs d.0 (λ e. let head : (x == p) ≡ true = eq-eqb x p e in let first : (x == p) ≡ false = not-first (x == p) (is_in p xs) out in let no : ⊥ = cc in no),
  differ_push xs p d.1 (not-second (x == p) (is_in p xs) out),
)

-- one place more
pub listed_push : (f : MarksAt) (p : ℕ) (order : List ℕ) → AreListed f order → is_in p order ≡ false → AreListed f (order ++ p ∷ [])
listed_push f p order l out = record {
  differ = differ_push order p l.differ out;
  listed = λ q t. is_in-before order p q (l.listed q t);
  some_cards = l.some_cards;
}

-- the first place and its marks are gone
pub listed_rest : (f : MarksAt) (p : ℕ) (order : List ℕ) → AreListed f (p ∷ order) → AreListed (with_marks f p None) order
listed_rest f p order l = record {
  differ = l.differ.1;
  listed = λ q t. elim (eqb_tells q p) [
    | inl e ↦ absurd (let gone : IsTrue (is_some (let n : Option Marks = None in n)) = subst (λ (m : Option Marks). IsTrue (is_some m)) (marks-here f p q None e.0) t in let no : ⊥ = cc in no)
    | inr e ↦ elim (is_in-cases q p order (l.listed q (subst (λ (m : Option Marks). IsTrue (is_some m)) (marks-other f p q None e.0) t))) [
      | inl is ↦ absurd (e.1 is)
      | inr later ↦ later
    ]
  ];
  some_cards = λ q t. elim (eqb_tells q p) [
    | inl e ↦ absurd (let gone : IsTrue (is_some (let n : Option Marks = None in n)) = subst (λ (m : Option Marks). IsTrue (is_some m)) (marks-here f p q None e.0) t in let no : ⊥ = cc in no)
    | inr e ↦
        ap (λ (m : Option Marks). has_any (held_at q m).cards) (marks-other f p q None e.0)
        ∙ l.some_cards q (subst (λ (m : Option Marks). IsTrue (is_some m)) (marks-other f p q None e.0) t)
  ];
}

-- what the two structures are kept to, as entries
pub orderly : (f : MarksAt) (order : List ℕ) → AreDifferent order → ((q : ℕ) → IsTrue (is_some (f q)) → has_any (held_at q (f q)).cards ≡ true) → AreOrderly (entries_of f order)
orderly f [] d some = tt
orderly f (x ∷ xs) d some =
    (ap₂ (λ (y : ℕ) (ys : List ℕ). is_in y ys) (place_at x (f x)) (places_order f xs) ∙ d.0, by (f x) (some x), orderly f xs d.1 some)
  where
    or-true : (a b : Bool) → b ≡ true → (a || b) ≡ true
    or-true true b e = refl
    or-true false b e = e

    by : (m : Option Marks) → (IsTrue (is_some m) → has_any (held_at x m).cards ≡ true) → ((held_at x m).is_whole || has_any (held_at x m).cards) ≡ true
    by None s = refl
    by (Some marks) s = or-true marks.is_whole (has_any marks.cards) (s refl)
