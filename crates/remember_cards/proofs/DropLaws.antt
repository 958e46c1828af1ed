-- Objects at some places are taken off.
use Rattle.std.proofs.Common.{◌≡◌, ℕ, Bool, true, false, cond, IsTrue, List, [], ◌∷◌, map, Option, None, is_some, refl, sym, ap, ap₂, ◌∙◌, subst, inl, inr}
use Rattle.std.specs.Prelude.{◌==◌, ◌||◌, not, if◌then◌else◌, filter}
use Rattle.std.proofs.lemmas.Bool.{cases_Bool}
use Rattle.object_model.proofs.Members.{is_in-head, is_in-tail, is_in-cases}
use Rattle.object_model.specs.Sets.{is_in, AreDifferent}
use Rattle.remember_cards.specs.Remembered.{Held, held_whole, has_any}
use Rattle.remember_cards.specs.Entries.{Marks, MarksAt, held_at, entries_of, AreListed, AreKept}
use Rattle.remember_cards.proofs.EntryLaws.{not-first, not-second}
use Rattle.remember_cards.proofs.OrderLaws.{place_at}

or-both : (a b : Bool) → a ≡ false → b ≡ false → (a || b) ≡ false
or-both true b e f = e
or-both false b e f = f

filter-out : (keep : ℕ → Bool) (q : ℕ) (xs : List ℕ) → is_in q xs ≡ false → is_in q (filter keep xs) ≡ false
filter-out keep q [] out = refl
filter-out keep q (x ∷ xs) out =
    let rest = filter-out keep q xs (not-second (x == q) (is_in q xs) out) in
    elim (cases_Bool (keep x)) [
      | inl k ↦ rw k (or-both (x == q) (is_in q (filter keep xs)) (not-first (x == q) (is_in q xs) out) rest)
      | inr k ↦ rw k rest
    ]

filter-in : (keep : ℕ → Bool) (q : ℕ) (xs : List ℕ) → IsTrue (is_in q xs) → keep q ≡ true → IsTrue (is_in q (filter keep xs))
filter-in keep q [] t k = t
filter-in keep q (x ∷ xs) t k = elim (is_in-cases q x xs t) [
  | inl e ↦ let kept : keep x ≡ true = ap keep (sym e) ∙ k in
      rw kept (let F : ℕ → Type 0 = λ y. IsTrue (is_in y (x ∷ filter keep xs)) in subst F (sym e) (is_in-head x (filter keep xs)))
  | inr later ↦ elim (cases_Bool (keep x)) [
    | inl kept ↦ rw kept (is_in-tail q x (filter keep xs) (filter-in keep q xs later k))
    | inr gone ↦ rw gone (filter-in keep q xs later k)
  ]
]

pub differ-filter : (keep : ℕ → Bool) (xs : List ℕ) → AreDifferent xs → AreDifferent (filter keep xs)
differ-filter keep [] d = tt
differ-filter keep (x ∷ xs) d = elim (cases_Bool (keep x)) [
  | inl k ↦ rw k (filter-out keep x xs d.0, differ-filter keep xs d.1)
  | inr k ↦ rw k (differ-filter keep xs d.1)
]

-- the entries of the places that are left are those that are left
module _ (f g : MarksAt) (dead : List ℕ) (is : (q : ℕ) → g q ≡ (if is_in q dead then None else f q)) where
  kept-marks : (q : ℕ) → is_in q dead ≡ false → g q ≡ f q
  kept-marks q out = is q ∙ ap (λ b. cond b None (f q)) out

  pub dropped : (order : List ℕ) → entries_of g (filter (λ place. not (is_in place dead)) order) ≡ filter (λ held. not (is_in held.place dead)) (entries_of f order)
  dropped [] = refl
  dropped (x ∷ xs) = elim (cases_Bool (is_in x dead)) [
    | inl there ↦
        let gone : is_in (held_at x (f x)).place dead ≡ true = ap (λ (y : ℕ). is_in y dead) (place_at x (f x)) ∙ there in
        rw (there, gone) (dropped xs)
    | inr out ↦
        let stays : is_in (held_at x (f x)).place dead ≡ false = ap (λ (y : ℕ). is_in y dead) (place_at x (f x)) ∙ out in
        rw (out, stays) (ap₂ (λ (h : Held) (hs : List Held). h ∷ hs) (ap (held_at x) (kept-marks x out)) (dropped xs))
  ]

  out-of : (q : ℕ) → IsTrue (is_some (g q)) → is_in q dead ≡ false
  out-of q t = elim (cases_Bool (is_in q dead)) [
    | inl there ↦ absurd (let none : g q ≡ None = is q ∙ ap (λ b. cond b None (f q)) there in let gone : is_some (g q) ≡ false = ap is_some none in let no : ⊥ = cc in no)
    | inr out ↦ out
  ]

  pub listed_dropped : (order : List ℕ) → AreListed f order → AreListed g (filter (λ place. not (is_in place dead)) order)
  listed_dropped order l = record {
    differ = differ-filter (λ place. not (is_in place dead)) order l.differ;
    listed = λ q t. let out = out-of q t in
        filter-in (λ place. not (is_in place dead)) q order (l.listed q (subst (λ (m : Option Marks). IsTrue (is_some m)) (kept-marks q out) t)) (ap not out);
    some_cards = λ q t. let out = out-of q t in
        ap (λ (m : Option Marks). has_any (held_at q m).cards) (kept-marks q out) ∙ l.some_cards q (subst (λ (m : Option Marks). IsTrue (is_some m)) (kept-marks q out) t);
  }

-- what is kept is less by these places
pub kept_dropped : (keep : ℕ → Bool) (keys order keys' order' : List ℕ) → AreKept keys order → keys' ≡ filter keep keys → order' ≡ filter keep order → AreKept keys' order'
kept_dropped keep keys order keys' order' k one two = record {
  same = one ∙ (ap (filter keep) k.same ∙ sym two);
  differ = subst AreDifferent (sym two) (differ-filter keep order k.differ);
}

-- what is kept is remembered whole, and so less by these places too
pub whole_dropped : (dead : List ℕ) (places : List ℕ) → map held_whole (filter (λ place. not (is_in place dead)) places) ≡ filter (λ held. not (is_in held.place dead)) (map held_whole places)
whole_dropped dead [] = refl
whole_dropped dead (p ∷ places) = elim (cases_Bool (is_in p dead)) [
  | inl there ↦ rw there (whole_dropped dead places)
  | inr out ↦ rw out (ap (λ (hs : List Held). held_whole p ∷ hs) (whole_dropped dead places))
]
