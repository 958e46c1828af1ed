-- A collection by births: what each move makes of what was found and what is left.
use Rattle.std.proofs.Common.{◌≡◌, ◌≢◌, ℕ, ◌⊎◌, Bool, false, IsTrue, List, [], ◌∷◌, ◌++◌, sym, subst, inl, inr}
use Rattle.object_model.proofs.Members.{is_in-head, is_in-tail, is_in-cases, in-either, in-left, in-right}
use Rattle.object_model.specs.Sets.{is_in}
use Rattle.store_model.specs.Reach.{Leads, LeadsTo, Tells}
use Rattle.store_model.proofs.Rounds.{LeadsTo-start, LeadsTo-step}
use Rattle.minor_collect.specs.Traces.{Traces}

-- entries are young, and so is what a step leads to
pub record AreYoung (entry : ℕ → Bool) (step : ℕ → ℕ → Bool) (young : ℕ → Bool) : Type 0 where
  pub first : (x : ℕ) → IsTrue (entry x) → IsTrue (young x)
  pub next : (x y : ℕ) → IsTrue (step x y) → IsTrue (young y)

pub member-here : (x y : ℕ) (ys : List ℕ) → x ≡ y → IsTrue (is_in x (y ∷ ys))
member-here x y ys e = let P : ℕ → Type 0 = λ k. IsTrue (is_in k (y ∷ ys)) in subst P (sym e) (is_in-head y ys)

-- The beginning: what is left to look at has every entry, and of young ones nothing else.
pub begins : (entry : ℕ → Bool) (step : ℕ → ℕ → Bool) (young : ℕ → Bool) (left : List ℕ) → ((x : ℕ) → IsTrue (entry x) → IsTrue (is_in x left)) → ((x : ℕ) → IsTrue (is_in x left) → IsTrue (young x) → IsTrue (entry x))
    → Traces entry step young [] [] left
begins entry step young left all only = record {
  entered = λ x t. inr (all x t);
  followed = λ x y t s. absurd (let no : ⊥ = cc in no);
  opened = λ x t. absurd (let no : ⊥ = cc in no);
  led = λ x t. absurd (let no : ⊥ = cc in no);
  may = λ x t u. LeadsTo-start entry step x (only x t u);
}

-- what is left, but for the first, which is found or not young
drop-head : (found left : List ℕ) (y x : ℕ) → (IsTrue (is_in y found)) ⊎ (x ≢ y) → IsTrue (is_in x found) ⊎ IsTrue (is_in x (y ∷ left)) → IsTrue (is_in x found) ⊎ IsTrue (is_in x left)
drop-head found left y x why (inl t) = inl t
drop-head found left y x why (inr t) = elim (is_in-cases x y left t) [
  | inl e ↦ elim why [
    | inl u ↦ inl (let P : ℕ → Type 0 = λ k. IsTrue (is_in k found) in subst P (sym e) u)
    | inr differs ↦ absurd (differs e)
  ]
  | inr u ↦ inr u
]

why-not : (young : ℕ → Bool) (found : List ℕ) (y x : ℕ) → IsTrue (is_in y found) ⊎ (young y ≡ false) → IsTrue (young x) → IsTrue (is_in y found) ⊎ (x ≢ y)
why-not young found y x (inl t) u = inl t
why-not young found y x (inr old) u = inr (λ e. let no : ⊥ = (let P : ℕ → Type 0 = λ k. IsTrue (young k) in let bad : IsTrue (young y) = subst P e u in cc) in no)

more-left : (found gray left : List ℕ) (x y z : ℕ) → IsTrue (is_in z found) ⊎ (y ≢ z) → IsTrue (is_in x gray) ⊎ (IsTrue (is_in y found) ⊎ IsTrue (is_in y (z ∷ left))) → IsTrue (is_in x gray) ⊎ (IsTrue (is_in y found) ⊎ IsTrue (is_in y left))
more-left found gray left x y z why (inl t) = inl t
more-left found gray left x y z why (inr t) = inr (drop-head found left z y why t)

-- a reference to what is found, or is not young, is passed over
pub passes-over : (entry : ℕ → Bool) (step : ℕ → ℕ → Bool) (young : ℕ → Bool) (found gray left : List ℕ) (y : ℕ) → AreYoung entry step young → Traces entry step young found gray (y ∷ left) → IsTrue (is_in y found) ⊎ (young y ≡ false)
    → Traces entry step young found gray left
passes-over entry step young found gray left y are t why = record {
  entered = λ x u. drop-head found left y x (why-not young found y x why (are.first x u)) (t.entered x u);
  followed = λ x z u s. more-left found gray left x z y (why-not young found y z why (are.next x z s)) (t.followed x z u s);
  opened = t.opened;
  led = t.led;
  may = λ x u v. t.may x (is_in-tail x y left u) v;
}

head-found : (found left : List ℕ) (y x : ℕ) → IsTrue (is_in x found) ⊎ IsTrue (is_in x (y ∷ left)) → IsTrue (is_in x (y ∷ found)) ⊎ IsTrue (is_in x left)
head-found found left y x (inl t) = inl (is_in-tail x y found t)
head-found found left y x (inr t) = elim (is_in-cases x y left t) [
  | inl e ↦ inl (member-here x y found e)
  | inr u ↦ inr u
]

followed-found : (found gray left : List ℕ) (x y z : ℕ) → IsTrue (is_in x gray) ⊎ (IsTrue (is_in z found) ⊎ IsTrue (is_in z (y ∷ left))) → IsTrue (is_in x (y ∷ gray)) ⊎ (IsTrue (is_in z (y ∷ found)) ⊎ IsTrue (is_in z left))
followed-found found gray left x y z (inl t) = inl (is_in-tail x y gray t)
followed-found found gray left x y z (inr t) = inr (head-found found left y z t)

-- a young one that is met is found
pub finds : (entry : ℕ → Bool) (step : ℕ → ℕ → Bool) (young : ℕ → Bool) (found gray left : List ℕ) (y : ℕ) → Traces entry step young found gray (y ∷ left) → IsTrue (young y)
    → Traces entry step young (y ∷ found) (y ∷ gray) left
finds entry step young found gray left y t is = record {
  entered = λ x u. head-found found left y x (t.entered x u);
  followed = λ x z u s. elim (is_in-cases x y found u) [
    | inl e ↦ inl (member-here x y gray e)
    | inr v ↦ followed-found found gray left x y z (t.followed x z v s)
  ];
  opened = λ x u. elim (is_in-cases x y gray u) [
    | inl e ↦ member-here x y found e
    | inr v ↦ is_in-tail x y found (t.opened x v)
  ];
  led = λ x u. elim (is_in-cases x y found u) [
    | inl e ↦ (let P : ℕ → Type 0 = λ k. LeadsTo entry step k in subst P (sym e) (t.may y (is_in-head y left) is))
    | inr v ↦ t.led x v
  ];
  may = λ x u v. t.may x (is_in-tail x y left u) v;
}

-- an object's references are opened: `refs` has each step from it, and of young ones nothing else
opened-more : (found gray left refs : List ℕ) (x y z : ℕ) → (x ≡ y → IsTrue (is_in z refs)) → IsTrue (is_in x (y ∷ gray)) ⊎ (IsTrue (is_in z found) ⊎ IsTrue (is_in z left)) → IsTrue (is_in x gray) ⊎ (IsTrue (is_in z found) ⊎ IsTrue (is_in z (refs ++ left)))
opened-more found gray left refs x y z all (inr (inl t)) = inr (inl t)
opened-more found gray left refs x y z all (inr (inr t)) = inr (inr (in-right z refs left t))
opened-more found gray left refs x y z all (inl t) = elim (is_in-cases x y gray t) [
  | inl e ↦ inr (inr (in-left z refs left (all e)))
  | inr u ↦ inl u
]

pub opens : (entry : ℕ → Bool) (step : ℕ → ℕ → Bool) (young : ℕ → Bool) (found gray left refs : List ℕ) (y : ℕ) → Traces entry step young found (y ∷ gray) left
    → ((z : ℕ) → IsTrue (step y z) → IsTrue (is_in z refs)) → ((z : ℕ) → IsTrue (is_in z refs) → IsTrue (young z) → IsTrue (step y z))
    → Traces entry step young found gray (refs ++ left)
opens entry step young found gray left refs y t all only = record {
  entered = λ x u. elim (t.entered x u) [
    | inl v ↦ inl v
    | inr v ↦ inr (in-right x refs left v)
  ];
  followed = λ x z u s. opened-more found gray left refs x y z (λ e. all z (let P : ℕ → Type 0 = λ k. IsTrue (step k z) in subst P e s)) (t.followed x z u s);
  opened = λ x u. t.opened x (is_in-tail x y gray u);
  led = t.led;
  may = λ x u v. elim (in-either x refs left u) [
    | inl r ↦ LeadsTo-step entry step y x (t.led y (t.opened y (is_in-head y gray))) (only x r v)
    | inr r ↦ t.may x r v
  ];
}

-- The end: nothing is left.
found-here : (found : List ℕ) (x : ℕ) → IsTrue (is_in x found) ⊎ IsTrue (is_in x []) → IsTrue (is_in x found)
found-here found x (inl t) = t
found-here found x (inr t) = absurd (let no : ⊥ = cc in no)

found-next : (found : List ℕ) (x y : ℕ) → IsTrue (is_in x []) ⊎ (IsTrue (is_in y found) ⊎ IsTrue (is_in y [])) → IsTrue (is_in y found)
found-next found x y (inl t) = absurd (let no : ⊥ = cc in no)
found-next found x y (inr t) = found-here found y t

found-on : (entry : ℕ → Bool) (step : ℕ → ℕ → Bool) (young : ℕ → Bool) (found : List ℕ) (x : ℕ) (path : List ℕ) (y : ℕ) → Traces entry step young found [] [] → IsTrue (is_in x found) → Leads step x path y → IsTrue (is_in y found)
found-on entry step young found x [] y t is l = let P : ℕ → Type 0 = λ k. IsTrue (is_in k found) in subst P l is
found-on entry step young found x (z ∷ path) y t is l = found-on entry step young found z path y t (found-next found x z (t.followed x z is l.0)) l.1

pub tells-found : (entry : ℕ → Bool) (step : ℕ → ℕ → Bool) (young : ℕ → Bool) (found : List ℕ) → Traces entry step young found [] [] → Tells (λ x. is_in x found) (LeadsTo entry step)
tells-found entry step young found t x = (λ u. t.led x u, λ l. found-on entry step young found l.0 l.2 x t (found-here found l.0 (t.entered l.0 l.1)) l.3)
