-- How often objects are listed.
use Rattle.std.proofs.Common.{◌≡◌, ℕ, zero, suc, ◌+◌, ◌<◌, ◌≤◌, Bool, true, false, ◌==◌, List, [], ◌∷◌, ◌++◌, length, set, get_or, drop, Some, refl, sym, ap, ap₂, ◌∙◌, subst, inl, inr, arith}
use Rattle.std.specs.Prelude.{slice_get, filter, nat_lt, cond, not, ◌||◌, if◌then◌else◌}
use Rattle.std.proofs.lemmas.Bool.{cases_Bool}
use Rattle.std.proofs.lemmas.Bool.Decides.{eqb_tells, nat_tests}
use Rattle.std.proofs.lemmas.List.Folds.{list_any-append}
use Rattle.std.proofs.lemmas.List.Sums.{sum_by-append, sum_by-cons, sum_by-set}
use Rattle.object_model.specs.Sets.{is_in}
use Rattle.finalizer_order.specs.declared.entry.Entry.{Entry}
use Rattle.finalizer_order.specs.Finalizers.{births_of, queued_entries}
use Rattle.finalizer_order.specs.Queues.{AreInRange, joined, tabled}
use Rattle.finalizer_order.specs.Listed.{times_of, AreListed}
use Rattle.finalizer_order.proofs.QueueLaws.{joined-tabled, times-set}

abbrev pub one_if : Bool → ℕ
one_if b = if b then 1 else 0

abbrev pub one_of : ℕ → Entry → ℕ
one_of birth entry = if entry.birth == birth then 1 else 0

one-same : (birth : ℕ) (e : Entry) → (e.birth == birth) ≡ true → one_of birth e ≡ 1
one-same birth e h = ap (λ (b : Bool). if b then 1 else 0) h

one-other : (birth : ℕ) (e : Entry) → (e.birth == birth) ≡ false → one_of birth e ≡ 0
one-other birth e h = ap (λ (b : Bool). if b then 1 else 0) h

pub times-cons : (birth : ℕ) (e : Entry) (es : List Entry) → times_of birth (e ∷ es) ≡ one_of birth e + times_of birth es
times-cons birth e es = sum_by-cons (one_of birth) e es

pub times-append : (birth : ℕ) (xs ys : List Entry) → times_of birth (xs ++ ys) ≡ times_of birth xs + times_of birth ys
times-append birth xs ys = sum_by-append (one_of birth) xs ys

pub times-last : (birth : ℕ) (xs : List Entry) (e : Entry) → times_of birth (xs ++ e ∷ []) ≡ times_of birth xs + one_of birth e
times-last birth xs e = let a = times-append birth xs (e ∷ []) in let b = times-cons birth e [] in omega (arith, a, b)

-- listed or not, by how often
pub in-times : (birth : ℕ) (es : List Entry) → is_in birth (births_of es) ≡ nat_lt 0 (times_of birth es)
in-times birth [] = refl
in-times birth (e ∷ es) =
    let more = in-times birth es in let c = times-cons birth e es in
    elim (cases_Bool (e.birth == birth)) [
      | inl h ↦ let o = one-same birth e h in let p : nat_lt 0 (times_of birth (e ∷ es)) ≡ true = (let l : 0 < times_of birth (e ∷ es) = omega (arith, o, c) in grind (arith, nat_tests)) in
          ap (λ (b : Bool). b || is_in birth (births_of es)) h ∙ sym p
      | inr h ↦ let o = one-other birth e h in
          let same : times_of birth es ≡ times_of birth (e ∷ es) = omega (arith, o, c) in
          ap (λ (b : Bool). b || is_in birth (births_of es)) h ∙ more ∙ ap (nat_lt 0) same
    ]

listed-tests : (a b c : ℕ) (v : Bool) → a + (b + c) ≡ (if v then 1 else 0) → v ≡ (nat_lt 0 a || (nat_lt 0 b || nat_lt 0 c))
listed-tests a b c v e = grind (arith, nat_tests)

pub listed_is : {births : ℕ → Bool} {registered chosen : List Entry} {queues : List (List Entry)} (birth : ℕ) → AreListed births registered chosen queues
    → births birth ≡ is_in birth (births_of registered ++ (births_of chosen ++ births_of (queued_entries (tabled 0 queues))))
listed_is {births = births} {registered = registered} {chosen = chosen} {queues = queues} birth h =
    listed-tests (times_of birth registered) (times_of birth chosen) (times_of birth (joined queues)) (births birth) (h.listed birth)
    ∙ ap₂ (λ (x y : Bool). x || y) (sym (in-times birth registered))
    (ap₂ (λ (x y : Bool). x || y) (sym (in-times birth chosen)) (sym (in-times birth (joined queues)) ∙ ap (λ (es : List Entry). is_in birth (births_of es)) (sym (joined-tabled 0 queues)))
    ∙ sym (list_any-append (λ (y : ℕ). y == birth) (births_of chosen) (births_of (queued_entries (tabled 0 queues)))))
    ∙ sym (list_any-append (λ (y : ℕ). y == birth) (births_of registered) (births_of chosen ++ births_of (queued_entries (tabled 0 queues))))

-- ranges

pub range-append : (n : ℕ) (xs ys : List Entry) → AreInRange n xs → AreInRange n ys → AreInRange n (xs ++ ys)
range-append n [] ys a b = b
range-append n (x ∷ xs) ys a b = (a.0, range-append n xs ys a.1 b)

pub range-front : (n : ℕ) (xs ys : List Entry) → AreInRange n (xs ++ ys) → AreInRange n xs
range-front n [] ys a = tt
range-front n (x ∷ xs) ys a = (a.0, range-front n xs ys a.1)

pub range-back : (n : ℕ) (xs ys : List Entry) → AreInRange n (xs ++ ys) → AreInRange n ys
range-back n [] ys a = a
range-back n (x ∷ xs) ys a = range-back n xs ys a.1

pub range-filter : (n : ℕ) (test : Entry → Bool) (xs : List Entry) → AreInRange n xs → AreInRange n (filter test xs)
range-filter n test [] a = tt
range-filter n test (x ∷ xs) a = go (range-filter n test xs a.1) (test x) refl
  where
    go : AreInRange n (filter test xs) → (b : Bool) → test x ≡ b → AreInRange n (filter test (x ∷ xs))
    go more true e = rw e (a.0, more)
    go more false e = rw e more

pub range-set : (n : ℕ) (xs : List Entry) (k : ℕ) (e : Entry) → e.queue < n → AreInRange n xs → AreInRange n (set xs k e)
range-set n [] k e l a = tt
range-set n (x ∷ xs) zero e l a = (l, a.1)
range-set n (x ∷ xs) (suc k) e l a = (a.0, range-set n xs k e l a.1)

pub range-get : (n : ℕ) (xs : List Entry) (k : ℕ) (d : Entry) → k < length xs → AreInRange n xs → (get_or xs k d).queue < n
range-get n [] k d l a = absurd (omega (arith, l))
range-get n (x ∷ xs) zero d l a = a.0
range-get n (x ∷ xs) (suc k) d l a = range-get n xs k d (omega (arith, l)) a.1

-- changes of what is listed

pub listed_none : (births : ℕ → Bool) (queues : List (List Entry)) → ((b : ℕ) → births b ≡ false) → joined queues ≡ [] → AreListed births [] [] queues
listed_none births queues none empty = record {
  listed = λ b. let e : times_of b (joined queues) ≡ 0 = ap (times_of b) empty in let z : one_if (births b) ≡ 0 = ap one_if (none b) in omega (arith, e, z);
  registered_in = tt;
  chosen_in = tt;
}

pub listed_more : {births more : ℕ → Bool} {registered chosen : List Entry} {queues : List (List Entry)} (e : Entry) → AreListed births registered chosen queues
    → births e.birth ≡ false → ((q : ℕ) → more q ≡ cond (e.birth == q) true (births q)) → e.queue < length queues → AreListed more (registered ++ e ∷ []) chosen queues
listed_more {births = births} {more = more} {registered = registered} {chosen = chosen} {queues = queues} e h none adds l = record {
  listed = λ q.
      let t = times-last q registered e in let old = h.listed q in
      elim (eqb_tells e.birth q) [
        | inl is ↦
            let o = one-same q e is.0 in
            let was : births q ≡ false = ap births (sym is.1) ∙ none in
            let zero_old : times_of q registered + (times_of q chosen + times_of q (joined queues)) ≡ 0 = old ∙ ap one_if was in
            let now : one_if (more q) ≡ 1 = ap one_if (adds q ∙ ap (λ (b : Bool). cond b true (births q)) is.0) in
            omega (arith, t, o, zero_old, now)
        | inr ne ↦
            let o = one-other q e ne.0 in
            let same : one_if (more q) ≡ one_if (births q) = ap one_if (adds q ∙ ap (λ (b : Bool). cond b true (births q)) ne.0) in
            omega (arith, t, o, old, same)
      ];
  registered_in = range-append (length queues) registered (e ∷ []) h.registered_in (l, tt);
  chosen_in = h.chosen_in;
}

pub listed_less : {births less : ℕ → Bool} {registered chosen : List Entry} {queues after : List (List Entry)} (e : Entry) → AreListed births registered chosen queues
    → ((q : ℕ) → times_of q (joined after) + one_of q e ≡ times_of q (joined queues)) → ((q : ℕ) → less q ≡ cond (e.birth == q) false (births q)) → length after ≡ length queues
    → AreListed less registered chosen after
listed_less {births = births} {less = less} {registered = registered} {chosen = chosen} {queues = queues} {after = after} e h takes drops same = record {
  listed = λ q.
      let t = takes q in let old = h.listed q in
      elim (eqb_tells e.birth q) [
        | inl is ↦
            let o = one-same q e is.0 in
            let most : one_if (births q) ≤ 1 = at_most (births q) in
            let now : one_if (less q) ≡ 0 = ap one_if (drops q ∙ ap (λ (b : Bool). cond b false (births q)) is.0) in
            omega (arith, t, o, old, most, now)
        | inr ne ↦
            let o = one-other q e ne.0 in
            let kept : one_if (less q) ≡ one_if (births q) = ap one_if (drops q ∙ ap (λ (b : Bool). cond b false (births q)) ne.0) in
            omega (arith, t, o, old, kept)
      ];
  registered_in = subst (λ (n : ℕ). AreInRange n registered) (sym same) h.registered_in;
  chosen_in = subst (λ (n : ℕ). AreInRange n chosen) (sym same) h.chosen_in;
}
  where
    at_most : (b : Bool) → one_if b ≤ 1
    at_most true = omega arith
    at_most false = omega arith

times-split : (birth : ℕ) (test : Entry → Bool) (es : List Entry) → times_of birth (filter (λ e. not (test e)) es) + times_of birth (filter test es) ≡ times_of birth es
times-split birth test [] = refl
times-split birth test (e ∷ es) = go (times-split birth test es) (test e) refl
  where
    go : times_of birth (filter (λ k. not (test k)) es) + times_of birth (filter test es) ≡ times_of birth es → (b : Bool) → test e ≡ b
        → times_of birth (filter (λ k. not (test k)) (e ∷ es)) + times_of birth (filter test (e ∷ es)) ≡ times_of birth (e ∷ es)
    go more true t =
        let c = times-cons birth e es in let d = times-cons birth e (filter test es) in
        rw t (omega (arith, more, c, d))
    go more false t =
        let c = times-cons birth e es in let d = times-cons birth e (filter (λ k. not (test k)) es) in
        rw t (omega (arith, more, c, d))

pub listed_split : {births : ℕ → Bool} {registered chosen : List Entry} {queues : List (List Entry)} (test : Entry → Bool) → AreListed births registered chosen queues
    → AreListed births (filter (λ e. not (test e)) registered) (chosen ++ filter test registered) queues
listed_split {registered = registered} {chosen = chosen} {queues = queues} test h = record {
  listed = λ q. let s = times-split q test registered in let a = times-append q chosen (filter test registered) in let old = h.listed q in
      sym (sum (times_of q (filter (λ e. not (test e)) registered)) (times_of q (filter test registered)) (times_of q registered) (times_of q chosen) (times_of q (chosen ++ filter test registered)) (times_of q (joined queues)) s a) ∙ old;
  registered_in = range-filter (length queues) (λ e. not (test e)) registered h.registered_in;
  chosen_in = range-append (length queues) chosen (filter test registered) h.chosen_in (range-filter (length queues) test registered h.registered_in);
}
  where
    sum : (a b r c d j : ℕ) → a + b ≡ r → d ≡ c + b → r + (c + j) ≡ a + (d + j)
    sum a b r c d j s t = omega (arith, s, t)

pub listed_moved : {births : ℕ → Bool} {registered chosen : List Entry} {queues : List (List Entry)} (k to : ℕ) (d : Entry) → k < length registered → AreListed births registered chosen queues
    → AreListed births (set registered k (record (get_or registered k d) { place = to })) chosen queues
listed_moved {registered = registered} {chosen = chosen} {queues = queues} k to d l h = record {
  listed = λ q. let s = sum_by-set (one_of q) registered k (record (get_or registered k d) { place = to }) d l in let old = h.listed q in
      ap (λ (n : ℕ). n + (times_of q chosen + times_of q (joined queues))) (same _ _ _ s) ∙ old;
  registered_in = range-set (length queues) registered k (record (get_or registered k d) { place = to }) (range-get (length queues) registered k d l h.registered_in) h.registered_in;
  chosen_in = h.chosen_in;
}
  where
    same : (a b c : ℕ) → a + c ≡ b + c → a ≡ b
    same a b c e = omega (arith, e)

pub listed_queued : {births : ℕ → Bool} {registered chosen left : List Entry} {queues after : List (List Entry)} → AreListed births registered chosen queues
    → ((q : ℕ) → times_of q left + times_of q (joined after) ≡ times_of q chosen + times_of q (joined queues)) → length after ≡ length queues → AreInRange (length queues) left
    → AreListed births registered left after
listed_queued {registered = registered} {left = left} h same many in_range = record {
  listed = λ q. ap (λ (n : ℕ). times_of q registered + n) (same q) ∙ h.listed q;
  registered_in = subst (λ (n : ℕ). AreInRange n registered) (sym many) h.registered_in;
  chosen_in = subst (λ (n : ℕ). AreInRange n left) (sym many) in_range;
}

-- the first of a queue is taken out
pub times-popped : (birth : ℕ) (qs : List (List Entry)) (k : ℕ) (e : Entry) → k < length qs → slice_get (get_or qs k []) 0 ≡ Some e
    → times_of birth (joined (set qs k (drop 1 (get_or qs k [])))) + one_of birth e ≡ times_of birth (joined qs)
times-popped birth qs k e l first = go (get_or qs k []) first (times-set birth qs k (drop 1 (get_or qs k [])) l)
  where
    go : (q : List Entry) → slice_get q 0 ≡ Some e → times_of birth (joined (set qs k (drop 1 q))) + times_of birth q ≡ times_of birth (joined qs) + times_of birth (drop 1 q)
        → times_of birth (joined (set qs k (drop 1 q))) + one_of birth e ≡ times_of birth (joined qs)
    go [] f s = absurd (let no : ⊥ = cc in no)
    go (x ∷ xs) f s =
        let is : x ≡ e = (let z : Some x ≡ Some e = f in cc) in
        let c = times-cons birth x xs in
        let o : one_of birth x ≡ one_of birth e = ap (one_of birth) is in
        omega (arith, s, c, o)
