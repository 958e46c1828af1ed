-- Queues that lie side by side, as a table of those that are not empty.
use Rattle.std.proofs.Common.{◌≡◌, ℕ, zero, suc, ◌+◌, ◌<◌, ◌≤◌, Bool, true, false, ◌==◌, List, [], ◌∷◌, ◌++◌, length, set, get_or, drop, replicate, Option, Some, None, refl, sym, ap, ap₂, ◌∙◌, subst, arith, append_assoc}
use Rattle.std.specs.Prelude.{slice_get, option_map, unwrap_or, nat_lt, cond, not, if◌then◌else◌}
use Rattle.std.proofs.lemmas.Bool.{eq-eqb, ne_eqb}
use Rattle.std.proofs.lemmas.Bool.Decides.{nat_tests}
use Rattle.std.proofs.lemmas.List.Sums.{sum_by-append}
use lib.ListN.{length-replicate}
use Rattle.type_table.specs.Table.{Table, value_at, with_value, without_key}
use Rattle.finalizer_order.specs.declared.entry.Entry.{Entry}
use Rattle.finalizer_order.specs.Finalizers.{Finalizers, no_finalizers, places_of, queued_entries}
use Rattle.finalizer_order.specs.Queues.{first_of, without_first, next_place, take_next, queues_with, tabled, AreInRange, push_all, joined}
use Rattle.finalizer_order.specs.Listed.{times_of}

pub joined-tabled : (n : ℕ) (qs : List (List Entry)) → queued_entries (tabled n qs) ≡ joined qs
joined-tabled n [] = refl
joined-tabled n ([] ∷ qs) = joined-tabled (n + 1) qs
joined-tabled n ((x ∷ xs) ∷ qs) = ap (λ (es : List Entry). (x ∷ xs) ++ es) (joined-tabled (n + 1) qs)

-- what a table has of a queue that is not empty
abbrev pub filled : Option (List Entry) → Option (List Entry)
filled None = None
filled (Some []) = None
filled (Some (x ∷ xs)) = Some (x ∷ xs)

value-below : (n : ℕ) (qs : List (List Entry)) (j : ℕ) → j < n → value_at (tabled n qs) j ≡ None
value-below n [] j l = refl
value-below n ([] ∷ qs) j l = value-below (n + 1) qs j (omega (arith, l))
value-below n ((x ∷ xs) ∷ qs) j l =
    ap (λ (t : Bool). cond t (Some (x ∷ xs)) (value_at (tabled (n + 1) qs) j)) (ne_eqb j n (λ e. let no : ⊥ = omega (arith, l, e) in no)) ∙ value-below (n + 1) qs j (omega (arith, l))

pub value-tabled : (n : ℕ) (qs : List (List Entry)) (k : ℕ) → value_at (tabled n qs) (n + k) ≡ filled (slice_get qs k)
value-tabled n [] k = refl
value-tabled n ([] ∷ qs) zero = value-below (n + 1) qs (n + 0) (omega arith)
value-tabled n ([] ∷ qs) (suc k) = ap (value_at (tabled (n + 1) qs)) (let e : n + suc k ≡ (n + 1) + k = omega arith in e) ∙ value-tabled (n + 1) qs k
value-tabled n ((x ∷ xs) ∷ qs) zero = ap (λ (t : Bool). cond t (Some (x ∷ xs)) (value_at (tabled (n + 1) qs) (n + 0))) (eq-eqb (n + 0) n (omega arith))
value-tabled n ((x ∷ xs) ∷ qs) (suc k) =
    ap (λ (t : Bool). cond t (Some (x ∷ xs)) (value_at (tabled (n + 1) qs) (n + suc k))) (ne_eqb (n + suc k) n (λ e. let no : ⊥ = omega (arith, e) in no))
    ∙ ap (value_at (tabled (n + 1) qs)) (let e : n + suc k ≡ (n + 1) + k = omega arith in e) ∙ value-tabled (n + 1) qs k

with-below : (n : ℕ) (qs : List (List Entry)) (j : ℕ) (v : List Entry) → j < n → with_value (tabled n qs) j v ≡ (j, v) ∷ tabled n qs
with-below n [] j v l = refl
with-below n ([] ∷ qs) j v l = with-below (n + 1) qs j v (omega (arith, l))
with-below n ((x ∷ xs) ∷ qs) j v l =
    let ne : (j == n) ≡ false = ne_eqb j n (λ e. let no : ⊥ = omega (arith, l, e) in no) in
    let lt : nat_lt j n ≡ true = grind (arith, nat_tests) in
    rw (ne, lt) refl

without-below : (n : ℕ) (qs : List (List Entry)) (j : ℕ) → j < n → without_key (tabled n qs) j ≡ tabled n qs
without-below n [] j l = refl
without-below n ([] ∷ qs) j l = without-below (n + 1) qs j (omega (arith, l))
without-below n ((x ∷ xs) ∷ qs) j l =
    let ne : (n == j) ≡ false = ne_eqb n j (λ e. let no : ⊥ = omega (arith, l, e) in no) in
    ap (λ (t : Bool). cond (not t) ((n, x ∷ xs) ∷ without_key (tabled (n + 1) qs) j) (without_key (tabled (n + 1) qs) j)) ne
    ∙ ap (λ (es : Table (List Entry)). (n, x ∷ xs) ∷ es) (without-below (n + 1) qs j (omega (arith, l)))

pub set-some : (n : ℕ) (qs : List (List Entry)) (k : ℕ) (x : Entry) (xs : List Entry) → k < length qs → tabled n (set qs k (x ∷ xs)) ≡ with_value (tabled n qs) (n + k) (x ∷ xs)
set-some n [] k x xs l = absurd (omega (arith, l))
set-some n ([] ∷ qs) zero x xs l =
    ap (λ (j : ℕ). (j, x ∷ xs) ∷ tabled (n + 1) qs) (let e : n ≡ n + 0 = omega arith in e) ∙ sym (with-below (n + 1) qs (n + 0) (x ∷ xs) (omega arith))
set-some n ([] ∷ qs) (suc k) x xs l =
    set-some (n + 1) qs k x xs (omega (arith, l)) ∙ ap (λ (j : ℕ). with_value (tabled (n + 1) qs) j (x ∷ xs)) (let e : (n + 1) + k ≡ n + suc k = omega arith in e)
set-some n ((y ∷ ys) ∷ qs) zero x xs l =
    ap (λ (j : ℕ). (j, x ∷ xs) ∷ tabled (n + 1) qs) (let e : n ≡ n + 0 = omega arith in e)
    ∙ sym (ap (λ (t : Bool). cond t ((n + 0, x ∷ xs) ∷ tabled (n + 1) qs) (cond (nat_lt (n + 0) n) ((n + 0, x ∷ xs) ∷ ((n, y ∷ ys) ∷ tabled (n + 1) qs)) ((n, y ∷ ys) ∷ with_value (tabled (n + 1) qs) (n + 0) (x ∷ xs))))
    (eq-eqb (n + 0) n (omega arith)))
set-some n ((y ∷ ys) ∷ qs) (suc k) x xs l =
    let ne : (n + suc k == n) ≡ false = ne_eqb (n + suc k) n (λ e. let no : ⊥ = omega (arith, e) in no) in
    let lt : nat_lt (n + suc k) n ≡ false = grind (arith, nat_tests) in
    ap (λ (es : Table (List Entry)). (n, y ∷ ys) ∷ es)
    (set-some (n + 1) qs k x xs (omega (arith, l)) ∙ ap (λ (j : ℕ). with_value (tabled (n + 1) qs) j (x ∷ xs)) (let e : (n + 1) + k ≡ n + suc k = omega arith in e))
    ∙ sym (ap (λ (t : Bool). cond t ((n + suc k, x ∷ xs) ∷ tabled (n + 1) qs) (cond (nat_lt (n + suc k) n) ((n + suc k, x ∷ xs) ∷ ((n, y ∷ ys) ∷ tabled (n + 1) qs)) ((n, y ∷ ys) ∷ with_value (tabled (n + 1) qs) (n + suc k) (x ∷ xs)))) ne
    ∙ ap (λ (t : Bool). cond t ((n + suc k, x ∷ xs) ∷ ((n, y ∷ ys) ∷ tabled (n + 1) qs)) ((n, y ∷ ys) ∷ with_value (tabled (n + 1) qs) (n + suc k) (x ∷ xs))) lt)

pub set-none : (n : ℕ) (qs : List (List Entry)) (k : ℕ) → k < length qs → tabled n (set qs k []) ≡ without_key (tabled n qs) (n + k)
set-none n [] k l = absurd (omega (arith, l))
set-none n ([] ∷ qs) zero l = sym (without-below (n + 1) qs (n + 0) (omega arith))
set-none n ([] ∷ qs) (suc k) l =
    set-none (n + 1) qs k (omega (arith, l)) ∙ ap (without_key (tabled (n + 1) qs)) (let e : (n + 1) + k ≡ n + suc k = omega arith in e)
set-none n ((y ∷ ys) ∷ qs) zero l =
    sym (ap (λ (t : Bool). cond (not t) ((n, y ∷ ys) ∷ without_key (tabled (n + 1) qs) (n + 0)) (without_key (tabled (n + 1) qs) (n + 0))) (eq-eqb n (n + 0) (omega arith))
    ∙ without-below (n + 1) qs (n + 0) (omega arith))
set-none n ((y ∷ ys) ∷ qs) (suc k) l =
    ap (λ (es : Table (List Entry)). (n, y ∷ ys) ∷ es)
    (set-none (n + 1) qs k (omega (arith, l)) ∙ ap (without_key (tabled (n + 1) qs)) (let e : (n + 1) + k ≡ n + suc k = omega arith in e))
    ∙ sym (ap (λ (t : Bool). cond (not t) ((n, y ∷ ys) ∷ without_key (tabled (n + 1) qs) (n + suc k)) (without_key (tabled (n + 1) qs) (n + suc k))) (ne_eqb n (n + suc k) (λ e. let no : ⊥ = omega (arith, e) in no)))

set-nothing : (qs : List (List Entry)) (k : ℕ) → slice_get qs k ≡ Some [] → set qs k [] ≡ qs
set-nothing [] k e = refl
set-nothing (q ∷ qs) zero e = ap (λ (p : List Entry). p ∷ qs) (let is : [] ≡ q = cc in is)
set-nothing (q ∷ qs) (suc k) e = ap (λ (ps : List (List Entry)). q ∷ ps) (set-nothing qs k e)

in-list : (qs : List (List Entry)) (k : ℕ) (l : List Entry) → slice_get qs k ≡ Some l → k < length qs
in-list [] k l e = absurd (let no : ⊥ = cc in no)
in-list (q ∷ qs) zero l e = omega arith
in-list (q ∷ qs) (suc k) l e = let m = in-list qs k l e in omega (arith, m)

-- The first of a queue, and the queues without it.
pub record TakesNext (qs : List (List Entry)) (k : ℕ) (l : List Entry) : Type 0 where
  pub place : option_map (λ (e : Entry). e.place) (slice_get l 0) ≡ next_place (tabled 0 qs) k
  pub rest : tabled 0 (set qs k (drop 1 l)) ≡ take_next (tabled 0 qs) k

pub takes_next : (qs : List (List Entry)) (k : ℕ) (l : List Entry) → slice_get qs k ≡ Some l → TakesNext qs k l
takes_next qs k l e = go l e (ap (value_at (tabled 0 qs)) (let z : k ≡ 0 + k = omega arith in z) ∙ value-tabled 0 qs k ∙ ap filled e)
  where
    at : (n : ℕ) → 0 + n ≡ n
    at n = omega arith

    go : (l : List Entry) → slice_get qs k ≡ Some l → value_at (tabled 0 qs) k ≡ filled (Some l) → TakesNext qs k l
    go [] e v = record {
      place = sym (ap (λ (f : Option (List Entry)). option_map (λ (e : Entry). e.place) (first_of f)) v);
      rest = ap (tabled 0) (set-nothing qs k e) ∙ sym (ap (without_first (tabled 0 qs) k) v);
    }
    go (x ∷ []) e v = record {
      place = sym (ap (λ (f : Option (List Entry)). option_map (λ (e : Entry). e.place) (first_of f)) v);
      rest = set-none 0 qs k (in-list qs k (x ∷ []) e) ∙ ap (without_key (tabled 0 qs)) (at k) ∙ sym (ap (without_first (tabled 0 qs) k) v);
    }
    go (x ∷ (y ∷ r)) e v = record {
      place = sym (ap (λ (f : Option (List Entry)). option_map (λ (e : Entry). e.place) (first_of f)) v);
      rest = set-some 0 qs k y r (in-list qs k (x ∷ (y ∷ r)) e) ∙ ap (λ (j : ℕ). with_value (tabled 0 qs) j (y ∷ r)) (at k) ∙ sym (ap (without_first (tabled 0 qs) k) v);
    }

-- no such queue
pub takes_none : (qs : List (List Entry)) (k : ℕ) → length qs ≤ k → value_at (tabled 0 qs) k ≡ None
takes_none qs k l = ap (value_at (tabled 0 qs)) (let z : k ≡ 0 + k = omega arith in z) ∙ value-tabled 0 qs k ∙ ap filled (out qs k l)
  where
    out : (qs : List (List Entry)) (k : ℕ) → length qs ≤ k → slice_get qs k ≡ None
    out [] k l = refl
    out (q ∷ qs) zero l = absurd (omega (arith, l))
    out (q ∷ qs) (suc k) l = out qs k (omega (arith, l))

pub get-there : (qs : List (List Entry)) (k : ℕ) (d : List Entry) → k < length qs → slice_get qs k ≡ Some (get_or qs k d)
get-there [] k d l = absurd (omega (arith, l))
get-there (q ∷ qs) zero d l = refl
get-there (q ∷ qs) (suc k) d l = get-there qs k d (omega (arith, l))

-- Objects that enter their queues.

pub length-queues : (qs : List (List Entry)) (k : ℕ) (l : List Entry) → length (set qs k l) ≡ length qs
length-queues [] k l = refl
length-queues (q ∷ qs) zero l = refl
length-queues (q ∷ qs) (suc k) l = ap suc (length-queues qs k l)

pub length-push_all : (qs : List (List Entry)) (es : List Entry) → length (push_all qs es) ≡ length qs
length-push_all qs [] = refl
length-push_all qs (e ∷ es) = length-push_all (set qs e.queue (get_or qs e.queue [] ++ e ∷ [])) es ∙ length-queues qs e.queue (get_or qs e.queue [] ++ e ∷ [])

unwrapped : (l : List Entry) → unwrap_or (filled (Some l)) [] ≡ l
unwrapped [] = refl
unwrapped (x ∷ xs) = refl

pushed-one : (qs : List (List Entry)) (e : Entry) → e.queue < length qs
    → tabled 0 (set qs e.queue (get_or qs e.queue [] ++ e ∷ [])) ≡ with_value (tabled 0 qs) e.queue (unwrap_or (value_at (tabled 0 qs) e.queue) [] ++ e ∷ [])
pushed-one qs e l =
    some (get_or qs e.queue [])
    ∙ ap (λ (es : List Entry). with_value (tabled 0 qs) e.queue (es ++ e ∷ []))
    (sym (ap (λ (f : Option (List Entry)). unwrap_or f []) (ap (value_at (tabled 0 qs)) (let z : e.queue ≡ 0 + e.queue = omega arith in z) ∙ value-tabled 0 qs e.queue ∙ ap filled (get-there qs e.queue [] l))
    ∙ unwrapped (get_or qs e.queue [])))
  where
    at : 0 + e.queue ≡ e.queue
    at = omega arith

    some : (l' : List Entry) → tabled 0 (set qs e.queue (l' ++ e ∷ [])) ≡ with_value (tabled 0 qs) e.queue (l' ++ e ∷ [])
    some [] = set-some 0 qs e.queue e [] l ∙ ap (λ (j : ℕ). with_value (tabled 0 qs) j (e ∷ [])) at
    some (x ∷ xs) = set-some 0 qs e.queue x (xs ++ e ∷ []) l ∙ ap (λ (j : ℕ). with_value (tabled 0 qs) j (x ∷ (xs ++ e ∷ []))) at

pub pushed : (qs : List (List Entry)) (es : List Entry) → AreInRange (length qs) es → tabled 0 (push_all qs es) ≡ queues_with (tabled 0 qs) es
pushed qs [] r = refl
pushed qs (e ∷ es) r =
    let now : List (List Entry) = set qs e.queue (get_or qs e.queue [] ++ e ∷ []) in
    pushed now es (subst (λ (n : ℕ). AreInRange n es) (sym (length-queues qs e.queue (get_or qs e.queue [] ++ e ∷ []))) r.1)
    ∙ ap (λ (t : Table (List Entry)). queues_with t es) (pushed-one qs e r.0)

pub push_all-last : (qs : List (List Entry)) (es : List Entry) (e : Entry) → push_all qs (es ++ e ∷ []) ≡ set (push_all qs es) e.queue (get_or (push_all qs es) e.queue [] ++ e ∷ [])
push_all-last qs [] e = refl
push_all-last qs (x ∷ es) e = push_all-last (set qs x.queue (get_or qs x.queue [] ++ x ∷ [])) es e

-- how often objects are queued, where one queue changes
pub times-set : (birth : ℕ) (qs : List (List Entry)) (k : ℕ) (l : List Entry) → k < length qs
    → times_of birth (joined (set qs k l)) + times_of birth (get_or qs k []) ≡ times_of birth (joined qs) + times_of birth l
times-set birth [] k l m = absurd (omega (arith, m))
times-set birth (q ∷ qs) zero l m =
    let f : Entry → ℕ = λ e. if e.birth == birth then 1 else 0 in
    let a = sum_by-append f l (joined qs) in let b = sum_by-append f q (joined qs) in omega (arith, a, b)
times-set birth (q ∷ qs) (suc k) l m =
    let f : Entry → ℕ = λ e. if e.birth == birth then 1 else 0 in
    let a = sum_by-append f q (joined (set qs k l)) in let b = sum_by-append f q (joined qs) in
    let more = times-set birth qs k l (omega (arith, m)) in omega (arith, a, b, more)

-- no queue has anything

pub joined-empty : (n : ℕ) → joined (replicate n []) ≡ []
joined-empty zero = refl
joined-empty (suc n) = joined-empty n

pub tabled-empty : (k n : ℕ) → tabled k (replicate n []) ≡ []
tabled-empty k zero = refl
tabled-empty k (suc n) = tabled-empty (k + 1) n

-- What `next` leaves, over the fields.

abbrev pub finals_of : ℕ → List Entry → List Entry → Table (List Entry) → Finalizers
finals_of queue_count registered chosen queues = record { queue_count = queue_count; registered = registered; chosen = chosen; queues = queues }

abbrev pub view_of : List Entry → List Entry → List (List Entry) → Finalizers
view_of registered chosen queues = finals_of (length queues) registered chosen (tabled 0 queues)

pub next_view : (qs : List (List Entry)) (k : ℕ) (l x : List Entry) (registered chosen : List Entry) (f : Finalizers) → view_of registered chosen qs ≡ f → slice_get qs k ≡ Some l → x ≡ drop 1 l
    → view_of registered chosen (set qs k x) ≡ record f { queues = take_next f.queues k }
next_view qs k l x registered chosen f is there rest =
    subst (λ (g : Finalizers). view_of registered chosen (set qs k x) ≡ record g { queues = take_next g.queues k }) is
    (ap₂ (λ (n : ℕ) (t : Table (List Entry)). finals_of n registered chosen t) (length-queues qs k x) (ap (λ (y : List Entry). tabled 0 (set qs k y)) rest ∙ (takes_next qs k l there).rest))

pub next_first : (qs : List (List Entry)) (k : ℕ) (l : List Entry) (registered chosen : List Entry) (f : Finalizers) → view_of registered chosen qs ≡ f → slice_get qs k ≡ Some l
    → option_map (λ (e : Entry). e.place) (slice_get l 0) ≡ next_place f.queues k
next_first qs k l registered chosen f is there =
    (takes_next qs k l there).place ∙ ap (λ (g : Finalizers). next_place g.queues k) is

pub none_first : (qs : List (List Entry)) (k : ℕ) (registered chosen : List Entry) (f : Finalizers) → view_of registered chosen qs ≡ f → length qs ≤ k → next_place f.queues k ≡ None
none_first qs k registered chosen f is out =
    ap (λ (g : Finalizers). next_place g.queues k) (sym is) ∙ ap (λ (v : Option (List Entry)). option_map (λ (e : Entry). e.place) (first_of v)) (takes_none qs k out)

pub none_taken : (qs : List (List Entry)) (k : ℕ) (registered chosen : List Entry) (f : Finalizers) → view_of registered chosen qs ≡ f → length qs ≤ k → f ≡ record f { queues = take_next f.queues k }
none_taken qs k registered chosen f is out =
    subst (λ (g : Finalizers). g ≡ record g { queues = take_next g.queues k }) is
    (ap (finals_of (length qs) registered chosen) (sym (ap (without_first (tabled 0 qs) k) (takes_none qs k out))))

pub unset : (qs : List (List Entry)) (k : ℕ) (l : List Entry) → slice_get qs k ≡ Some l → slice_get l 0 ≡ None → set qs k (drop 1 l) ≡ qs
unset qs k [] there none = set-nothing qs k there
unset qs k (x ∷ xs) there none = absurd (let no : ⊥ = cc in no)

pub same-queue : (qs : List (List Entry)) (k : ℕ) (l : List Entry) → k < length qs → l ≡ get_or qs k l → set qs k l ≡ qs
same-queue [] k l m e = refl
same-queue (q ∷ qs) zero l m e = ap (λ (p : List Entry). p ∷ qs) e
same-queue (q ∷ qs) (suc k) l m e = ap (λ (ps : List (List Entry)). q ∷ ps) (same-queue qs k l (omega (arith, m)) e)

-- and what `flush` leaves
pub flush_view : (qs after : List (List Entry)) (registered chosen left : List Entry) (f : Finalizers) → view_of registered chosen qs ≡ f → AreInRange (length qs) chosen → after ≡ push_all qs chosen → left ≡ []
    → view_of registered left after ≡ record f { chosen = []; queues = queues_with f.queues f.chosen }
flush_view qs after registered chosen left f is r queued none =
    subst (λ (g : Finalizers). view_of registered left after ≡ record g { chosen = []; queues = queues_with g.queues g.chosen }) is
    (ap₂ (λ (es : List Entry) (ks : List (List Entry)). view_of registered es ks) none queued
    ∙ ap₂ (λ (n : ℕ) (t : Table (List Entry)). finals_of n registered [] t) (length-push_all qs chosen) (pushed qs chosen r))

-- the places of what waits
pub waiting_are : (qs : List (List Entry)) (registered chosen : List Entry) (f : Finalizers) (before mid after : List ℕ) → view_of registered chosen qs ≡ f
    → mid ≡ before ++ places_of (joined qs) → after ≡ mid ++ places_of chosen → after ≡ before ++ (places_of (queued_entries f.queues) ++ places_of f.chosen)
waiting_are qs registered chosen f before mid after is queued rest =
    subst (λ (g : Finalizers). after ≡ before ++ (places_of (queued_entries g.queues) ++ places_of g.chosen)) is
    (rest ∙ ap (λ (xs : List ℕ). xs ++ places_of chosen) queued
    ∙ append_assoc before (places_of (joined qs)) (places_of chosen)
    ∙ ap (λ (es : List Entry). before ++ (places_of es ++ places_of chosen)) (sym (joined-tabled 0 qs)))

replicate-suc : (e : List Entry) (n : ℕ) → replicate (suc n) e ≡ replicate n e ++ e ∷ []
replicate-suc e zero = refl
replicate-suc e (suc n) = ap (λ (qs : List (List Entry)). e ∷ qs) (replicate-suc e n)

pub replicate-last : (e : List Entry) (n : ℕ) → replicate (n + 1) e ≡ replicate n e ++ e ∷ []
replicate-last e n = ap (λ (k : ℕ). replicate k e) (let z : n + 1 ≡ suc n = omega arith in z) ∙ replicate-suc e n

-- no object is listed at first
pub new_view : (qs : List (List Entry)) (n : ℕ) → qs ≡ replicate n [] → view_of [] [] qs ≡ no_finalizers n
new_view qs n is = ap (view_of [] []) is ∙ ap₂ (λ (k : ℕ) (t : Table (List Entry)). finals_of k [] [] t) (length-replicate n []) (tabled-empty 0 n)
