-- What the passes over the dying objects find is what the store chooses.
use Rattle.std.proofs.Common.{◌≡◌, ◌≢◌, ℕ, Bool, true, false, IsTrue, List, [], ◌∷◌, ◌++◌, nat_eq, refl, sym, ap, ◌∙◌, subst, inl, inr, arith}
use Rattle.std.specs.Prelude.{IsFalse, not, ◌==◌, ◌||◌, filter, cond, take_while}
use Rattle.std.specs.List.{IsDistinct, AllByRecursion}
use Rattle.std.proofs.lemmas.Bool.{cases_Bool, eq-eqb, ne_eqb}
use Rattle.std.proofs.lemmas.Bool.Decides.{eqb_tells, nat_tests}
use Rattle.std.proofs.lemmas.List.Sums.{take_while-cons}
use Rattle.object_model.proofs.Members.{filter-part, filter-member, or_cases, or_first, or_second, and_first, and_second, and_both}
use Rattle.object_model.specs.declared.settings.Settings.{Settings}
use Rattle.object_model.specs.Object.{Object}
use Rattle.store_model.specs.Store.{Store}
use Rattle.object_model.specs.Sets.{is_in}
use Rattle.store_model.specs.Roots.{registered_births}
use Rattle.store_model.specs.Reach.{Tells, Leads, Reaches, refers, is_registered}
use Rattle.store_model.specs.Marking.{is_white, is_dying, stands_before, IsChosen}
use Rattle.store_model.specs.Sound.{IsSound, waiting_births}
use Rattle.store_model.proofs.Times.{once_first}
use Rattle.store_model.proofs.ChosenPasses.{candidates, unreached_later, is_before, AreOnce, IsFirst, passes_find, passes_all}
use Rattle.store_model.proofs.TestsExist.{reaches, reaches_tells}

leads-join : (step : ℕ → ℕ → Bool) (x : ℕ) (one : List ℕ) (y : ℕ) (two : List ℕ) (z : ℕ) → Leads step x one y → Leads step y two z → Leads step x (one ++ two) z
leads-join step x [] y two z a b = subst (λ (k : ℕ). Leads step k two z) (sym a) b
leads-join step x (w ∷ one) y two z a b = (a.0, leads-join step w one y two z a.1 b)

-- which births lead to which, each to itself
abbrev pub leads : List Object → ℕ → ℕ → Bool
leads kept x y = (x == y) || reaches kept x y

pub leads_self : (kept : List Object) (x : ℕ) → leads kept x x ≡ true
leads_self kept x = or_first (x == x) (reaches kept x x) (eq-eqb x x refl)

pub leads_joins : (kept : List Object) (x y z : ℕ) → leads kept x y ≡ true → leads kept y z ≡ true → leads kept x z ≡ true
leads_joins kept x y z a b = elim (or_cases (x == y) (reaches kept x y) a) [
  | inl e ↦ elim (eqb_tells x y) [
    | inl same ↦ subst (λ (k : ℕ). leads kept k z ≡ true) (sym same.1) b
    | inr other ↦ absurd (let no_e = other.0 in let no : ⊥ = cc in no)
  ]
  | inr r ↦ elim (or_cases (y == z) (reaches kept y z) b) [
    | inl e ↦ elim (eqb_tells y z) [
      | inl same ↦ subst (λ (k : ℕ). leads kept x k ≡ true) same.1 a
      | inr other ↦ absurd (let no_e = other.0 in let no : ⊥ = cc in no)
    ]
    | inr q ↦
        let one : Reaches kept x y = (reaches_tells kept x y).0 r in
        let two : Reaches kept y z = (reaches_tells kept y z).0 q in
        or_second (x == z) (reaches kept x z) ((reaches_tells kept x z).1 (one.0, one.1 ++ two.1, leads-join (refers kept) x one.1 y two.1 z one.2 two.2))
  ]
]

leads-other : (kept : List Object) (x y : ℕ) → x ≢ y → leads kept x y ≡ true → Reaches kept x y
leads-other kept x y ne t = elim (or_cases (x == y) (reaches kept x y) t) [
  | inl e ↦ elim (eqb_tells x y) [ inl same ↦ absurd (ne same.1) | inr other ↦ absurd (let no_e = other.0 in let no : ⊥ = cc in no) ]
  | inr r ↦ (reaches_tells kept x y).0 r
]

-- what stands in front of b in a list that begins with another
stands-next : (a b x : ℕ) (xs : List ℕ) → (x == b) ≡ false → stands_before a b (x ∷ xs) ≡ (x == a || stands_before a b xs)
stands-next a b x xs e = ap (is_in a) (take_while-cons (λ y. not (y == b)) x xs ∙ ap (λ (t : Bool). cond (not t) (x ∷ take_while (λ y. not (y == b)) xs) []) e)

-- births that pass, in their order
before-passed : (white : ℕ → Bool) (a b : ℕ) → white a ≡ true → white b ≡ true → (xs : List ℕ) → is_before a b (filter white xs) ≡ stands_before a b xs
before-passed white a b wa wb [] = refl
before-passed white a b wa wb (x ∷ xs) = go (white x) (x == b) refl refl (before-passed white a b wa wb xs)
  where
    apart : (y : ℕ) → white y ≡ true → white x ≡ false → (x == y) ≡ false
    apart y w out = ne_eqb x y (λ same. let now : white y ≡ false = ap white (sym same) ∙ out in let no : ⊥ = cc in no)

    go : (c d : Bool) → white x ≡ c → (x == b) ≡ d → is_before a b (filter white xs) ≡ stands_before a b xs
        → is_before a b (filter white (x ∷ xs)) ≡ stands_before a b (x ∷ xs)
    go true true c d more = rw (c, d) refl
    go true false c d more = rw (c, stands-next a b x xs d, d) (ap (λ (t : Bool). x == a || t) more)
    go false true c d more = absurd (let other = apart b wb c in let no : ⊥ = cc in no)
    go false false c d more = rw (c, stands-next a b x xs d, apart a wa c) more

once-passed : (test : ℕ → Bool) (xs : List ℕ) → IsDistinct nat_eq xs → AreOnce (filter test xs)
unfolding IsDistinct
once-passed test [] d = tt
once-passed test (x ∷ xs) d = elim (cases_Bool (test x)) [
  | inl e ↦ rw e (out, once-passed test xs d.1)
  | inr e ↦ rw e (once-passed test xs d.1)
]
  where
    apart : (ys : List ℕ) → AllByRecursion (λ y. nat_eq x y ≡ false) ys → IsFalse (is_in x (filter test ys))
    apart [] all = refl
    apart (y ∷ ys) all = let f = all.0 in let other : (y == x) ≡ false = grind (arith, nat_tests) in elim (cases_Bool (test y)) [
      | inl e ↦ rw e (rw other (apart ys all.1))
      | inr e ↦ rw e (apart ys all.1)
    ]

    out : IsFalse (is_in x (filter test xs))
    out = apart xs d.0

-- the dying objects, in the order of registration, and those of them that the passes find
abbrev pub dying_births : Store → List ℕ
dying_births store = filter (is_white store) (registered_births store)

abbrev pub found_births : Store → List ℕ
found_births store = unreached_later (leads store.kept) (candidates (leads store.kept) [] (dying_births store))

-- The passes find exactly what is chosen.
pub finds_chosen : (settings : Settings) (store : Store) → IsSound settings store → Tells (λ x. is_in x (found_births store)) (IsChosen store)
finds_chosen settings store sound x = (λ t. found t, λ c. passes_all (leads store.kept) (leads_self store.kept) (leads_joins store.kept) [] (dying_births store) x is_once (first c) refl)
  where
    is_once : AreOnce (dying_births store)
    is_once = once-passed (is_white store) (registered_births store) (once_first (registered_births store) (waiting_births store) sound.once)

    dying-in : (h : ℕ) → IsTrue (is_dying store h) → IsTrue (is_in h (dying_births store))
    dying-in h d = filter-member (is_white store) (registered_births store) h (and_first (is_registered store h) (is_white store h) d) (and_second (is_registered store h) (is_white store h) d)

    in-dying : (h : ℕ) → IsTrue (is_in h (dying_births store)) → IsTrue (is_dying store h)
    in-dying h t = let part = filter-part (is_white store) (registered_births store) h t in and_both (is_registered store h) (is_white store h) part.0 part.1

    white-of : (h : ℕ) → IsTrue (is_dying store h) → is_white store h ≡ true
    white-of h d = and_second (is_registered store h) (is_white store h) d

    found : IsTrue (is_in x (found_births store)) → IsChosen store x
    found t =
        let f = (passes_find (leads store.kept) (leads_self store.kept) (leads_joins store.kept) [] (dying_births store) x is_once t).0 in
        let d : IsTrue (is_dying store x) = in-dying x f.there in (
          d,
          λ h ne dying r.
              let w = f.gives_way h (dying-in h dying) ne (or_second (h == x) (reaches store.kept h x) ((reaches_tells store.kept h x).1 r)) in
              (leads-other store.kept x h (λ e. ne (sym e)) w.0, sym (before-passed (is_white store) h x (white-of h dying) (white-of x d) (registered_births store)) ∙ w.1),
        )

    first : IsChosen store x → IsFirst (leads store.kept) (dying_births store) x
    first c = record {
      there = dying-in x c.0;
      gives_way = λ h t ne r.
          let dying : IsTrue (is_dying store h) = in-dying h t in
          let w = c.1 h ne dying (leads-other store.kept h x ne r) in
          (or_second (x == h) (reaches store.kept x h) ((reaches_tells store.kept x h).1 w.0), before-passed (is_white store) h x (white-of h dying) (white-of x c.0) (registered_births store) ∙ w.1);
    }
