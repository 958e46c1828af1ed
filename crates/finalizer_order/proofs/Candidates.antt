-- Which objects the passes find, over any way to lead from one to another.
use Rattle.std.proofs.Common.{◌≡◌, ◌≢◌, ℕ, Bool, true, false, IsTrue, ◌==◌, List, [], ◌∷◌, ◌++◌, refl, sym, ap, ◌∙◌, subst, inl, inr}
use Rattle.std.specs.Prelude.{not, cond, take_while, IsFalse, ◌||◌}
use Rattle.std.proofs.lemmas.Bool.{cases_Bool, eq-eqb, ne_eqb}
use Rattle.std.proofs.lemmas.Bool.Decides.{eqb_tells}
use Rattle.std.proofs.lemmas.List.Sums.{take_while-cons}
use Rattle.object_model.specs.Sets.{is_in}
use Rattle.object_model.proofs.Members.{is_in-head, is_in-tail, is_in-cases, is_in-nil}
use Rattle.finalizer_order.specs.Choosing.{stands_before}
use Rattle.finalizer_order.specs.Passes.{FromOne, NoneLeadsLater, AreCandidates, AreFound}
use Rattle.finalizer_order.proofs.Lists.{in-left, in-right, in-either, in-one, clash}

-- what stands in front

front-same : (a b : ℕ) (xs : List ℕ) → stands_before a b (b ∷ xs) ≡ false
front-same a b xs = ap (is_in a) (take_while-cons (λ y. not (y == b)) b xs ∙ ap (λ (t : Bool). cond (not t) (b ∷ take_while (λ y. not (y == b)) xs) []) (eq-eqb b b refl))

pub front-other : (a b x : ℕ) (xs : List ℕ) → x ≢ b → stands_before a b (x ∷ xs) ≡ (x == a || stands_before a b xs)
front-other a b x xs ne = ap (is_in a) (take_while-cons (λ y. not (y == b)) x xs ∙ ap (λ (t : Bool). cond (not t) (x ∷ take_while (λ y. not (y == b)) xs) []) (ne_eqb x b ne))

pub first-none : (a b x : ℕ) (xs : List ℕ) → x ≡ b → stands_before a b (x ∷ xs) ≡ false
first-none a b x xs e = subst (λ (k : ℕ). stands_before a b (k ∷ xs) ≡ false) (sym e) (front-same a b xs)

-- what stands in front of something that is there is there still where the list goes on
pub front-grows : (a b : ℕ) (xs ys : List ℕ) → IsTrue (is_in b xs) → stands_before a b (xs ++ ys) ≡ stands_before a b xs
front-grows a b [] ys t = absurd (is_in-nil b t)
front-grows a b (x ∷ xs) ys t = elim (eqb_tells x b) [
  | inl e ↦ first-none a b x (xs ++ ys) e.1 ∙ sym (first-none a b x xs e.1)
  | inr e ↦
      let u : IsTrue (is_in b xs) = elim (is_in-cases b x xs t) [ inl is ↦ absurd (e.1 (sym is)) | inr u ↦ u ] in
      front-other a b x (xs ++ ys) e.1 ∙ ap (λ (k : Bool). x == a || k) (front-grows a b xs ys u) ∙ sym (front-other a b x xs e.1)
]

-- all stands in front of what comes new at the end
pub front-last : (a b : ℕ) (xs : List ℕ) → is_in b xs ≡ false → stands_before a b (xs ++ b ∷ []) ≡ is_in a xs
front-last a b [] n = front-same a b []
front-last a b (x ∷ xs) n =
    let ne : x ≢ b = λ e. clash (is_in b (x ∷ xs)) (subst (λ (k : ℕ). IsTrue (is_in k (x ∷ xs))) e (is_in-head x xs)) n in
    let m : is_in b xs ≡ false = elim (cases_Bool (is_in b xs)) [ inl t ↦ absurd (clash (is_in b (x ∷ xs)) (is_in-tail b x xs t) n) | inr f ↦ f ] in
    front-other a b x (xs ++ b ∷ []) ne ∙ ap (λ (k : Bool). x == a || k) (front-last a b xs m)

-- what stands in front is there, and is another
pub front-in : (a b : ℕ) (xs : List ℕ) → stands_before a b xs ≡ true → IsTrue (is_in a xs) × (a ≢ b)
front-in a b [] t = absurd (is_in-nil a t)
front-in a b (x ∷ xs) t = elim (eqb_tells x b) [
  | inl e ↦ absurd (clash (stands_before a b (x ∷ xs)) t (first-none a b x xs e.1))
  | inr e ↦
      let now : (x == a || stands_before a b xs) ≡ true = sym (front-other a b x xs e.1) ∙ t in
      elim (eqb_tells x a) [
        | inl f ↦ (subst (λ (k : ℕ). IsTrue (is_in k (x ∷ xs))) f.1 (is_in-head x xs), λ is. e.1 (f.1 ∙ is))
        | inr f ↦ let m = front-in a b xs (ap (λ (k : Bool). k || stands_before a b xs) (sym f.0) ∙ now) in (is_in-tail a x xs m.0, m.1)
      ]
]

-- of two that are there one stands in front
pub front-total : (a b : ℕ) (xs : List ℕ) → IsTrue (is_in a xs) → IsTrue (is_in b xs) → a ≢ b → stands_before a b xs ≡ false → stands_before b a xs ≡ true
front-total a b [] t u ne n = absurd (is_in-nil a t)
front-total a b (x ∷ xs) t u ne n = elim (eqb_tells x b) [
  | inl e ↦ front-other b a x xs (λ is. ne (sym is ∙ e.1)) ∙ ap (λ (k : Bool). k || stands_before b a xs) e.0
  | inr e ↦
      let now : (x == a || stands_before a b xs) ≡ false = sym (front-other a b x xs e.1) ∙ n in
      elim (eqb_tells x a) [
        | inl f ↦ absurd (clash (x == a || stands_before a b xs) (ap (λ (k : Bool). k || stands_before a b xs) f.0) now)
        | inr f ↦
            let a_in : IsTrue (is_in a xs) = elim (is_in-cases a x xs t) [ inl is ↦ absurd (f.1 (sym is)) | inr v ↦ v ] in
            let b_in : IsTrue (is_in b xs) = elim (is_in-cases b x xs u) [ inl is ↦ absurd (e.1 (sym is)) | inr v ↦ v ] in
            let m : stands_before a b xs ≡ false = ap (λ (k : Bool). k || stands_before a b xs) (sym f.0) ∙ now in
            let yes = front-total a b xs a_in b_in ne m in
            front-other b a x xs f.1 ∙ ap (λ (k : Bool). x == b || k) yes ∙ ap (λ (k : Bool). k || true) e.0
      ]
]

module _ (R : ℕ → ℕ → Type 0) (self : (x : ℕ) → R x x) (joins : (x y z : ℕ) → R x y → R y z → R x z) where
  pub no_candidates : AreCandidates R [] []
  no_candidates = record {
    dying_ones = λ x t. t;
    first = λ x h t s r. is_in-nil x t;
    covers = λ x t. absurd (is_in-nil x t);
    all = λ x t n. absurd (is_in-nil x t);
    none_later = tt;
  }

  -- a dying object to which an earlier one leads
  pub candidates_stay : (ds cs : List ℕ) (x : ℕ) → AreCandidates R ds cs → FromOne R ds x → AreCandidates R (ds ++ x ∷ []) cs
  candidates_stay ds cs x c from = record {
    dying_ones = λ y t. in-left y ds (x ∷ []) (c.dying_ones y t);
    first = λ y h t s r. c.first y h t (sym (front-grows h y ds (x ∷ []) (c.dying_ones y t)) ∙ s) r;
    covers = λ y t. elim (in-either y ds (x ∷ []) t) [
      | inl u ↦ c.covers y u
      | inr u ↦ let e = in-one y x u in let m = c.covers from.by from.there in
          record { by = m.by; there = m.there; leads = subst (R m.by) (sym e) (joins m.by from.by x m.leads from.leads) }
    ];
    all = λ y t n. elim (cases_Bool (is_in y ds)) [
      | inl u ↦ c.all y u (λ h s r. n h (front-grows h y ds (x ∷ []) u ∙ s) r)
      | inr u ↦ absurd (
          let e : y ≡ x = elim (in-either y ds (x ∷ []) t) [ inl v ↦ absurd (clash (is_in y ds) v u) | inr v ↦ in-one y x v ] in
          let out : is_in x ds ≡ false = ap (λ (k : ℕ). is_in k ds) (sym e) ∙ u in
          let before : stands_before from.by y (ds ++ x ∷ []) ≡ true = ap (λ (k : ℕ). stands_before from.by k (ds ++ x ∷ [])) e ∙ front-last from.by x ds out ∙ from.there in
          n from.by before (subst (R from.by) (sym e) from.leads))
    ];
    none_later = c.none_later;
  }

  none-last : (cs : List ℕ) (x : ℕ) → NoneLeadsLater R cs → ((c : ℕ) → IsTrue (is_in c cs) → R c x → ⊥) → NoneLeadsLater R (cs ++ x ∷ [])
  none-last [] x n out = (λ y t r. is_in-nil y t, tt)
  none-last (c ∷ cs) x n out = (
    λ y t r. elim (in-either y cs (x ∷ []) t) [
      | inl u ↦ n.0 y u r
      | inr u ↦ out c (is_in-head c cs) (subst (R c) (in-one y x u) r)
    ],
    none-last cs x n.1 (λ k t r. out k (is_in-tail k c cs t) r),
  )

  -- one to which no earlier one leads
  pub candidates_grow : (ds cs : List ℕ) (x : ℕ) → AreCandidates R ds cs → ((h : ℕ) → IsTrue (is_in h ds) → R h x → ⊥) → AreCandidates R (ds ++ x ∷ []) (cs ++ x ∷ [])
  candidates_grow ds cs x c none =
      let out : is_in x ds ≡ false = elim (cases_Bool (is_in x ds)) [ inl t ↦ absurd (none x t (self x)) | inr f ↦ f ] in
      record {
        dying_ones = λ y t. elim (in-either y cs (x ∷ []) t) [
          | inl u ↦ in-left y ds (x ∷ []) (c.dying_ones y u)
          | inr u ↦ in-right y ds (x ∷ []) u
        ];
        first = λ y h t s r. elim (in-either y cs (x ∷ []) t) [
          | inl u ↦ c.first y h u (sym (front-grows h y ds (x ∷ []) (c.dying_ones y u)) ∙ s) r
          | inr u ↦ let e = in-one y x u in
              none h (sym (front-last h x ds out) ∙ ap (λ (k : ℕ). stands_before h k (ds ++ x ∷ [])) (sym e) ∙ s) (subst (R h) e r)
        ];
        covers = λ y t. elim (in-either y ds (x ∷ []) t) [
          | inl u ↦ let m = c.covers y u in record { by = m.by; there = in-left m.by cs (x ∷ []) m.there; leads = m.leads }
          | inr u ↦ record { by = x; there = in-right x cs (x ∷ []) (is_in-head x []); leads = subst (R x) (sym (in-one y x u)) (self x) }
        ];
        all = λ y t n. elim (in-either y ds (x ∷ []) t) [
          | inl u ↦ in-left y cs (x ∷ []) (c.all y u (λ h s r. n h (front-grows h y ds (x ∷ []) u ∙ s) r))
          | inr u ↦ in-right y cs (x ∷ []) u
        ];
        none_later = none-last cs x c.none_later (λ k t r. none k (c.dying_ones k t) r);
      }

  pub none_found : AreFound R [] []
  none_found = record {
    candidate = λ x t. t;
    first = λ x h t u ne r. is_in-nil x t;
    all = λ x t n. absurd (is_in-nil x t);
  }

  -- a candidate to which a later one leads
  pub found_stay : (later found : List ℕ) (x : ℕ) → AreFound R later found → ((y : ℕ) → IsTrue (is_in y later) → R x y → ⊥) → FromOne R later x → AreFound R (x ∷ later) found
  found_stay later found x f none from = record {
    candidate = λ y t. is_in-tail y x later (f.candidate y t);
    first = λ y h t u ne r. elim (is_in-cases h x later u) [
      | inl e ↦ none y (f.candidate y t) (subst (λ (k : ℕ). R k y) e r)
      | inr v ↦ f.first y h t v ne r
    ];
    all = λ y t n. elim (is_in-cases y x later t) [
      | inl e ↦ absurd (
          let other : from.by ≢ y = λ is. none from.by from.there (subst (R x) (sym (is ∙ e)) (self x)) in
          n from.by (is_in-tail from.by x later from.there) other (subst (R from.by) (sym e) from.leads))
      | inr u ↦ f.all y u (λ h v ne r. n h (is_in-tail h x later v) ne r)
    ];
  }

  -- one to which no later one leads
  pub found_grow : (later found : List ℕ) (x : ℕ) → AreFound R later found → ((y : ℕ) → IsTrue (is_in y later) → R x y → ⊥) → ((y : ℕ) → IsTrue (is_in y later) → R y x → ⊥)
      → AreFound R (x ∷ later) (found ++ x ∷ [])
  found_grow later found x f none none_back = record {
    candidate = λ y t. elim (in-either y found (x ∷ []) t) [
      | inl u ↦ is_in-tail y x later (f.candidate y u)
      | inr u ↦ subst (λ (k : ℕ). IsTrue (is_in k (x ∷ later))) (sym (in-one y x u)) (is_in-head x later)
    ];
    first = λ y h t u ne r. elim (in-either y found (x ∷ []) t) [
      | inl a ↦ elim (is_in-cases h x later u) [
        | inl e ↦ none y (f.candidate y a) (subst (λ (k : ℕ). R k y) e r)
        | inr v ↦ f.first y h a v ne r
      ]
      | inr a ↦ let is = in-one y x a in elim (is_in-cases h x later u) [
        | inl e ↦ ne (e ∙ sym is)
        | inr v ↦ none_back h v (subst (R h) is r)
      ]
    ];
    all = λ y t n. elim (is_in-cases y x later t) [
      | inl e ↦ in-right y found (x ∷ []) (subst (λ (k : ℕ). IsTrue (is_in k (x ∷ []))) (sym e) (is_in-head x []))
      | inr u ↦ in-left y found (x ∷ []) (f.all y u (λ h v ne r. n h (is_in-tail h x later v) ne r))
    ];
  }

  -- What both passes find: each other dying object that leads to it is led to, and does not stand in front of it.
  pub found_gives_way : (ds cs found : List ℕ) → AreCandidates R ds cs → AreFound R cs found → (x : ℕ) → IsTrue (is_in x found)
      → IsTrue (is_in x ds) × ((h : ℕ) → h ≢ x → IsTrue (is_in h ds) → R h x → R x h × IsFalse (stands_before h x ds))
  found_gives_way ds cs found c f x t = (
    c.dying_ones x (f.candidate x t),
    λ h ne there r.
        let m = c.covers h there in
        let is : m.by ≡ x = elim (eqb_tells m.by x) [ inl e ↦ e.1 | inr e ↦ absurd (f.first x m.by t m.there e.1 (joins m.by h x m.leads r)) ] in (
          subst (λ (k : ℕ). R k h) is m.leads,
          elim (cases_Bool (stands_before h x ds)) [ inl s ↦ absurd (c.first x h (f.candidate x t) s r) | inr n ↦ n ],
        ),
  )

  -- and all of these.
  pub found_all : (ds cs found : List ℕ) → AreCandidates R ds cs → AreFound R cs found → (x : ℕ) → IsTrue (is_in x ds)
      → ((h : ℕ) → h ≢ x → IsTrue (is_in h ds) → R h x → R x h × IsFalse (stands_before h x ds)) → IsTrue (is_in x found)
  found_all ds cs found c f x there gives =
      let candidate : IsTrue (is_in x cs) = c.all x there (λ h s r. let m = front-in h x ds s in clash (stands_before h x ds) s (gives h m.1 m.0 r).1) in
      f.all x candidate (λ h t ne r.
      let there_h = c.dying_ones h t in
      let w = gives h ne there_h r in
      c.first h x t (front-total h x ds there_h there ne w.1) w.0)
