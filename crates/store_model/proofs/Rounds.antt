-- What starts lead to, told by a test: by rounds over the births, as many as there are.
use Rattle.std.specs.List.{list_any, list_all}
use Rattle.std.proofs.Common.{◌≡◌, ℕ, zero, suc, ◌+◌, ◌<◌, ◌≤◌, ◌⊎◌, Bool, true, false, IsTrue, List, [], ◌∷◌, ◌++◌, map, length, Option, Some, None, refl, sym, ap, ◌∙◌, subst, inl, inr, arith, ⊎_elim}
use Rattle.std.specs.Prelude.{not, ◌&&◌, ◌||◌, ◌==◌, filter, cond}
use Rattle.std.proofs.lemmas.Bool.{false≢true, cases_Bool}
use Rattle.std.proofs.lemmas.Bool.Decides.{nat_tests}
use Rattle.std.proofs.lemmas.Map.Views.{any-filter_same}
use Rattle.object_model.specs.Sets.{is_in}
use Rattle.object_model.specs.Object.{Object, object_at}
use Rattle.store_model.specs.Roots.{is_kept, referents_in}
use Rattle.store_model.specs.Reach.{Tells, Leads, LeadsTo, refers}
use Rattle.store_model.specs.PlainCommands.{IsRevived}
use Rattle.object_model.proofs.Members.{and_first, and_second, and_both, or_cases, or_first, or_second}

pub decide : (b : Bool) → IsTrue b ⊎ IsTrue (not b)
decide true = inl refl
decide false = inr refl

pub equal : (a b : ℕ) → IsTrue (a == b) → a ≡ b
equal a b h = grind (arith, nat_tests)

module _ (step : ℕ → ℕ → Bool) where
  -- one path after another
  pub Leads-append : (x : ℕ) (path : List ℕ) (y : ℕ) (more : List ℕ) (z : ℕ) → Leads step x path y → Leads step y more z → Leads step x (path ++ more) z
  Leads-append x [] y more z a b = subst (λ w. Leads step w more z) (sym a) b
  Leads-append x (w ∷ path) y more z a b = (a.0, Leads-append w path y more z a.1 b)

  -- what holds at the start and is kept by each step holds at the end
  pub Leads-keeps : (P : ℕ → Type 0) → ((x y : ℕ) → P x → IsTrue (step x y) → P y) → (x : ℕ) (path : List ℕ) (y : ℕ) → P x → Leads step x path y → P y
  Leads-keeps P keeps x [] y p a = subst P a p
  Leads-keeps P keeps x (w ∷ path) y p a = Leads-keeps P keeps w path y (keeps x w p a.0) a.1

module _ (start : ℕ → Bool) (step : ℕ → ℕ → Bool) where
  pub LeadsTo-start : (x : ℕ) → IsTrue (start x) → LeadsTo start step x
  LeadsTo-start x h = (x, h, [], refl)

  pub LeadsTo-step : (x y : ℕ) → LeadsTo start step x → IsTrue (step x y) → LeadsTo start step y
  LeadsTo-step x y (s, starts, path, leads) h = (s, starts, path ++ y ∷ [], Leads-append step s path x (y ∷ []) y leads (h, refl))

  -- what starts lead to is the least set that has the starts and is closed under steps
  pub LeadsTo-least : (P : ℕ → Type 0) → ((x : ℕ) → IsTrue (start x) → P x) → ((x y : ℕ) → P x → IsTrue (step x y) → P y) → (y : ℕ) → LeadsTo start step y → P y
  LeadsTo-least P starts steps y (x, h, path, leads) = Leads-keeps step P steps x path y (starts x h) leads

abbrev pub spread : (ℕ → ℕ → Bool) → List ℕ → List ℕ → List ℕ
spread step all xs = filter (λ y. is_in y xs || list_any (λ x. step x y) xs) all

abbrev pub closure : (ℕ → ℕ → Bool) → List ℕ → ℕ → List ℕ → List ℕ
closure step all zero xs = xs
closure step all (suc n) xs = closure step all n (spread step all xs)

-- whether the list has each start, and what a member leads to
abbrev pub is_closed : (ℕ → Bool) → (ℕ → ℕ → Bool) → List ℕ → List ℕ → Bool
is_closed start step all xs = list_all (λ y. is_in y xs || not (start y || list_any (λ x. step x y) xs)) all

pub list_all-is_in : (p : ℕ → Bool) (y : ℕ) (xs : List ℕ) → IsTrue (list_all p xs) → IsTrue (is_in y xs) → IsTrue (p y)
list_all-is_in p y [] h m = absurd (grind arith)
list_all-is_in p y (x ∷ xs) h m =
    ⊎_elim (λ e. rw (← equal x y e) (and_first (p x) (list_all p xs) h)) (λ k. list_all-is_in p y xs (and_second (p x) (list_all p xs) h) k) (or_cases (x == y) (is_in y xs) m)

pub list_all-each : (p : ℕ → Bool) (xs : List ℕ) → ((y : ℕ) → IsTrue (is_in y xs) → IsTrue (p y)) → IsTrue (list_all p xs)
list_all-each p [] each = refl
list_all-each p (x ∷ xs) each =
    and_both (p x) (list_all p xs) (each x (or_first (x == x) (is_in x xs) (grind (arith, nat_tests)))) (list_all-each p xs (λ y m. each y (or_second (x == y) (is_in y xs) m)))

pub list_any-is_in : (p : ℕ → Bool) (y : ℕ) (xs : List ℕ) → IsTrue (is_in y xs) → IsTrue (p y) → IsTrue (list_any p xs)
list_any-is_in p y [] m h = absurd (grind arith)
list_any-is_in p y (x ∷ xs) m h =
    ⊎_elim (λ e. or_first (p x) (list_any p xs) (rw (equal x y e) h)) (λ k. or_second (p x) (list_any p xs) (list_any-is_in p y xs k h)) (or_cases (x == y) (is_in y xs) m)

-- the member that passes
pub any_member : (p : ℕ → Bool) (xs : List ℕ) → IsTrue (list_any p xs) → (x : ℕ) × IsTrue (is_in x xs) × IsTrue (p x)
any_member p [] h = absurd (grind arith)
any_member p (x ∷ xs) h =
    ⊎_elim (λ e. (x, or_first (x == x) (is_in x xs) (grind (arith, nat_tests)), e))
    (λ k. let m : (y : ℕ) × IsTrue (is_in y xs) × IsTrue (p y) = any_member p xs k in (m.0, or_second (x == m.0) (is_in m.0 xs) m.1, m.2)) (or_cases (p x) (list_any p xs) h)

pub is_in-filter : (test : ℕ → Bool) (y : ℕ) (xs : List ℕ) → is_in y (filter test xs) ≡ (test y && is_in y xs)
is_in-filter test y xs = any-filter_same (λ x. x == y) test (test y) (λ k h. ap test (equal k y h)) xs

pub open_or_in : (a b : Bool) → IsTrue (a || not b) → IsTrue b → IsTrue a
open_or_in true b h k = refl
open_or_in false true h k = h
open_or_in false false h k = absurd (grind arith)

module _ (start : ℕ → Bool) (step : ℕ → ℕ → Bool) (all : List ℕ) where
  spread_led : (xs : List ℕ) → ((y : ℕ) → IsTrue (is_in y xs) → LeadsTo start step y) → (y : ℕ) → IsTrue (is_in y (spread step all xs)) → LeadsTo start step y
  spread_led xs led y h =
      ⊎_elim (λ m. led y m) (λ a. let p : (x : ℕ) × IsTrue (is_in x xs) × IsTrue (step x y) = any_member (λ x. step x y) xs a in LeadsTo-step start step p.0 y (led p.0 p.1) p.2)
      (or_cases (is_in y xs) (list_any (λ x. step x y) xs) (and_first (is_in y xs || list_any (λ x. step x y) xs) (is_in y all) (rw (is_in-filter (λ y. is_in y xs || list_any (λ x. step x y) xs) y all) at h)))

  closure_led : (n : ℕ) (xs : List ℕ) → ((y : ℕ) → IsTrue (is_in y xs) → LeadsTo start step y) → (y : ℕ) → IsTrue (is_in y (closure step all n xs)) → LeadsTo start step y
  closure_led zero xs led = led
  closure_led (suc n) xs led = closure_led n (spread step all xs) (spread_led xs led)

  pub Tells-closure : ((x : ℕ) → IsTrue (start x) → IsTrue (is_in x all)) → ((x y : ℕ) → IsTrue (step x y) → IsTrue (is_in y all)) → (n : ℕ)
      → IsTrue (is_closed start step all (closure step all n (filter start all))) → Tells (λ y. is_in y (closure step all n (filter start all))) (LeadsTo start step)
  Tells-closure starts steps n closed y = (
    closure_led n (filter start all) (λ x h. LeadsTo-start start step x (and_first (start x) (is_in x all) (rw (is_in-filter start x all) at h))) y,
    LeadsTo-least start step (λ z. IsTrue (is_in z (closure step all n (filter start all))))
        (λ x h. found x (starts x h) (or_first (start x) (list_any (λ w. step w x) (closure step all n (filter start all))) h))
        (λ x z m h. found z (steps x z h) (or_second (start z) (list_any (λ w. step w z) (closure step all n (filter start all))) (list_any-is_in (λ w. step w z) x (closure step all n (filter start all)) m h))) y,
  )
    where
      found : (x : ℕ) → IsTrue (is_in x all) → IsTrue (start x || list_any (λ w. step w x) (closure step all n (filter start all))) → IsTrue (is_in x (closure step all n (filter start all)))
      found x here h =
          open_or_in (is_in x (closure step all n (filter start all))) (start x || list_any (λ w. step w x) (closure step all n (filter start all)))
          (list_all-is_in (λ y. is_in y (closure step all n (filter start all)) || not (start y || list_any (λ x. step x y) (closure step all n (filter start all)))) x all closed here) h

-- tests that agree on the members keep the same
filter_agree_in : (p q : ℕ → Bool) (xs : List ℕ) → ((y : ℕ) → IsTrue (is_in y xs) → p y ≡ q y) → filter p xs ≡ filter q xs
filter_agree_in p q [] same = refl
filter_agree_in p q (x ∷ xs) same =
    ap (λ b. cond b (x ∷ filter p xs) (filter p xs)) (same x (or_first (x == x) (is_in x xs) (grind (arith, nat_tests))))
    ∙ ap (λ ys. cond (q x) (x ∷ ys) ys) (filter_agree_in p q xs (λ y m. same y (or_second (x == y) (is_in y xs) m)))

length-filter_le : (p : ℕ → Bool) (xs : List ℕ) → length (filter p xs) ≤ length xs
length-filter_le p [] = omega arith
length-filter_le p (x ∷ xs) = elim (p x) as (λ b. length (cond b (x ∷ filter p xs) (filter p xs)) ≤ suc (length xs)) [ true ↦ omega (arith, length-filter_le p xs) | false ↦ omega (arith, length-filter_le p xs) ]

-- a test that lets no fewer pass, and one more
filter_grows : (p q : ℕ → Bool) → ((y : ℕ) → IsTrue (p y) → IsTrue (q y)) → (xs : List ℕ) → (length (filter p xs) ≤ length (filter q xs)) × (IsTrue (list_any (λ y. q y && not (p y)) xs) → length (filter p xs) < length (filter q xs))
filter_grows p q more [] = (omega arith, λ h. absurd (false≢true h))
filter_grows p q more (x ∷ xs) = go (p x) (q x) (more x) (filter_grows p q more xs)
  where
    go : (a b : Bool) → (IsTrue a → IsTrue b) → (length (filter p xs) ≤ length (filter q xs)) × (IsTrue (list_any (λ y. q y && not (p y)) xs) → length (filter p xs) < length (filter q xs))
        → (length (cond a (x ∷ filter p xs) (filter p xs)) ≤ length (cond b (x ∷ filter q xs) (filter q xs))) × (IsTrue ((b && not a) || list_any (λ y. q y && not (p y)) xs) → length (cond a (x ∷ filter p xs) (filter p xs)) < length (cond b (x ∷ filter q xs) (filter q xs)))
    go true true f r = (omega (arith, r.0), λ h. omega (arith, r.1 h))
    go true false f r = absurd (false≢true (f refl))
    go false true f r = (omega (arith, r.0), λ h. omega (arith, r.0))
    go false false f r = r

-- where all that may pass is as long as the list, each member passes
all_pass : (p : ℕ → Bool) (xs : List ℕ) → length xs ≤ length (filter p xs) → (y : ℕ) → IsTrue (is_in y xs) → IsTrue (p y)
all_pass p [] h y m = absurd (false≢true m)
all_pass p (x ∷ xs) h y m =
    elim (p x) as (λ b. p x ≡ b → suc (length xs) ≤ length (cond b (x ∷ filter p xs) (filter p xs)) → IsTrue (p y)) [
      | true ↦ λ t h. ⊎_elim (λ e. rw (← equal x y e) t) (λ k. all_pass p xs (omega arith) y k) (or_cases (x == y) (is_in y xs) m)
      | false ↦ λ t h. absurd (omega (arith, length-filter_le p xs))
    ] refl h

module _ (start : ℕ → Bool) (step : ℕ → ℕ → Bool) (all : List ℕ) where
  abbrev grown : List ℕ → ℕ → Bool
  grown xs y = is_in y xs || list_any (λ x. step x y) xs

  -- a list of members in their order
  canonical : (p : ℕ → Bool) → filter (λ y. is_in y (filter p all)) all ≡ filter p all
  canonical p = filter_agree_in (λ y. is_in y (filter p all)) p all (λ y m. is_in-filter p y all ∙ ap (λ b. p y && b) m ∙ and_true (p y))
    where
      and_true : (b : Bool) → (b && true) ≡ b
      and_true true = refl
      and_true false = refl

  -- no round adds to a closed list
  spread_closed : (xs : List ℕ) → filter (λ y. is_in y xs) all ≡ xs → IsTrue (is_closed start step all xs) → spread step all xs ≡ xs
  spread_closed xs same closed =
      filter_agree_in (grown xs) (λ y. is_in y xs) all
      (λ y m. shut (is_in y xs) (start y) (list_any (λ x. step x y) xs) (list_all-is_in (λ y. is_in y xs || not (start y || list_any (λ x. step x y) xs)) y all closed m)) ∙ same
    where
      shut : (a s b : Bool) → IsTrue (a || not (s || b)) → (a || b) ≡ a
      shut true s b h = refl
      shut false true b h = absurd (false≢true h)
      shut false false true h = absurd (false≢true h)
      shut false false false h = refl

  stays_closed : (n : ℕ) (xs : List ℕ) → filter (λ y. is_in y xs) all ≡ xs → IsTrue (is_closed start step all xs) → IsTrue (is_closed start step all (closure step all n xs))
  stays_closed zero xs same closed = closed
  stays_closed (suc n) xs same closed = rw (spread_closed xs same closed) (stays_closed n xs same closed)

  -- a list that has the starts and is not closed grows
  not_closed : (xs ys : List ℕ) → ((y : ℕ) → IsTrue (start y) → IsTrue (is_in y ys) → IsTrue (is_in y xs)) → IsTrue (not (list_all (λ y. is_in y xs || not (start y || list_any (λ x. step x y) xs)) ys)) → IsTrue (list_any (λ y. grown xs y && not (is_in y xs)) ys)
  not_closed xs [] starts h = absurd (false≢true h)
  not_closed xs (y ∷ ys) starts h =
      go (is_in y xs) (start y) (list_any (λ x. step x y) xs) (λ s. starts y s (or_first (y == y) (is_in y ys) (grind (arith, nat_tests)))) (not_closed xs ys (λ z s m. starts z s (or_second (y == z) (is_in z ys) m))) h
    where
      go : (a s b : Bool) → (IsTrue s → IsTrue a) → (IsTrue (not (list_all (λ y. is_in y xs || not (start y || list_any (λ x. step x y) xs)) ys)) → IsTrue (list_any (λ y. grown xs y && not (is_in y xs)) ys))
          → IsTrue (not ((a || not (s || b)) && list_all (λ y. is_in y xs || not (start y || list_any (λ x. step x y) xs)) ys)) → IsTrue (((a || b) && not a) || list_any (λ y. grown xs y && not (is_in y xs)) ys)
      go true s b f rest h = rest h
      go false true b f rest h = absurd (false≢true (f refl))
      go false false true f rest h = refl
      go false false false f rest h = rest h

  closes : (n : ℕ) (xs : List ℕ) → ((y : ℕ) → IsTrue (start y) → IsTrue (is_in y all) → IsTrue (is_in y xs)) → filter (λ y. is_in y xs) all ≡ xs → length all ≤ n + length xs → IsTrue (is_closed start step all (closure step all n xs))
  closes zero xs starts same h =
      list_all-each (λ y. is_in y xs || not (start y || list_any (λ x. step x y) xs)) all
      (λ y m. or_first (is_in y xs) (not (start y || list_any (λ x. step x y) xs)) (all_pass (λ y. is_in y xs) all (rw same (omega arith)) y m))
  closes (suc n) xs starts same h =
      ⊎_elim (λ c. stays_closed (suc n) xs same c)
      (λ o. closes n (spread step all xs)
      (λ y s m. is_in-filter (grown xs) y all ∙ and_both (grown xs y) (is_in y all) (or_first (is_in y xs) (list_any (λ x. step x y) xs) (starts y s m)) m)
      (canonical (grown xs))
      (let more : length (filter (λ y. is_in y xs) all) < length (spread step all xs) = (filter_grows (λ y. is_in y xs) (grown xs) (λ y m. or_first (is_in y xs) (list_any (λ x. step x y) xs) m) all).1 (not_closed xs all starts o) in
      let less : length xs < length (spread step all xs) = subst (λ ys. length ys < length (spread step all xs)) same more in omega arith))
      (decide (is_closed start step all xs))

  pub closure_closes : IsTrue (is_closed start step all (closure step all (length all) (filter start all)))
  closure_closes =
      closes (length all) (filter start all) (λ y s m. is_in-filter start y all ∙ and_both (start y) (is_in y all) s m) (canonical start) (omega arith)

-- a test that tells what starts lead to
abbrev pub led_test : (ℕ → Bool) → (ℕ → ℕ → Bool) → List ℕ → ℕ → Bool
led_test start step all y = is_in y (closure step all (length all) (filter start all))

pub led_tells : (start : ℕ → Bool) (step : ℕ → ℕ → Bool) (all : List ℕ) → ((x : ℕ) → IsTrue (start x) → IsTrue (is_in x all))
    → ((x y : ℕ) → IsTrue (step x y) → IsTrue (is_in y all)) → Tells (led_test start step all) (LeadsTo start step)
led_tells start step all starts steps = Tells-closure start step all starts steps (length all) (closure_closes start step all)

pub kept-births : (kept : List Object) (x : ℕ) → IsTrue (is_kept kept x) → IsTrue (is_in x (map (λ o. o.birth) kept))
kept-births [] x h = h
kept-births (o ∷ os) x h = elim (cases_Bool (x == o.birth)) [
  | inl t ↦ or_first (o.birth == x) (is_in x (map (λ (p : Object). p.birth) os)) (let e = equal x o.birth t in grind (arith, nat_tests))
  | inr f ↦ or_second (o.birth == x) (is_in x (map (λ (p : Object). p.birth) os)) (kept-births os x (rw f at h))
]

-- what an object reaches, as a test
abbrev pub revived_by : List Object → Option ℕ → ℕ → Bool
revived_by kept None y = false
revived_by kept (Some x) y = led_test (λ z. z == x && is_kept kept z) (refers kept) (map (λ o. o.birth) kept) y

pub tells_revived : (kept : List Object) (birth : Option ℕ) → Tells (revived_by kept birth) (IsRevived kept birth)
tells_revived kept None y = (λ t. absurd (false≢true t), λ n. absurd n)
tells_revived kept (Some x) y =
    let start : ℕ → Bool = λ z. z == x && is_kept kept z in
    let told = led_tells start (refers kept) (map (λ (o : Object). o.birth) kept)
    (λ z h. kept-births kept z (and_second (z == x) (is_kept kept z) h))
    (λ a b h. kept-births kept b (and_second (is_in b (referents_in (object_at kept a))) (is_kept kept b) h)) y in (
      λ t. let l = told.0 t in
          let same : l.0 ≡ x = equal l.0 x (and_first (l.0 == x) (is_kept kept l.0) l.1) in
          (subst (λ (k : ℕ). IsTrue (is_kept kept k)) same (and_second (l.0 == x) (is_kept kept l.0) l.1), l.2, subst (λ (k : ℕ). Leads (refers kept) k l.2 y) same l.3),
      λ r. told.1 (x, and_both (x == x) (is_kept kept x) (grind (arith, nat_tests)) r.0, r.1, r.2),
    )
