-- How many times a number stands in a list: births of finalizers stand once at most.
use Rattle.std.proofs.Common.{◌≡◌, ℕ, ◌+◌, ◌<◌, ◌≤◌, Bool, true, false, nat_eq, List, [], ◌∷◌, ◌++◌, map, Option, Some, None, refl, sym, ap, ◌∙◌, subst, inl, inr, arith}
use Rattle.std.specs.Prelude.{IsFalse, not, ◌==◌, filter, flat_map, unwrap_or, nat_lt}
use Rattle.std.specs.List.{All, IsDistinct}
use Rattle.std.proofs.lemmas.Bool.{cases_Bool, eq-eqb}
use Rattle.std.proofs.lemmas.Bool.Decides.{eqb_tells, nat_tests}
use Rattle.std.proofs.lemmas.List.Elements.{All-head, All-tail}
use Rattle.type_table.specs.Table.{Table, KeysRise, value_at, with_value, without_key}
use Rattle.type_table.proofs.TableLaws.{KeysRise-tail, KeysRise-with_value, first_key_below}
use Rattle.object_model.specs.Sets.{is_in}
use Rattle.store_model.specs.PlainCommands.{without_first}
use Rattle.store_model.specs.Sweeping.{queues_with}
use Rattle.object_model.proofs.Distinct.{all_differ, apart-out}

-- one where the test holds
abbrev pub one_if : Bool → ℕ
one_if true = 1
one_if false = 0

-- how many times x stands in the list
abbrev pub times : ℕ → List ℕ → ℕ
times x [] = 0
times x (y ∷ ys) = one_if (y == x) + times x ys

pub times_append : (x : ℕ) (xs ys : List ℕ) → times x (xs ++ ys) ≡ times x xs + times x ys
times_append x [] ys = omega arith
times_append x (y ∷ xs) ys = let more = times_append x xs ys in omega (arith, more)

times-out : (x : ℕ) (xs : List ℕ) → IsFalse (is_in x xs) → times x xs ≡ 0
times-out x [] out = refl
times-out x (y ∷ ys) out = elim (cases_Bool (y == x)) [
  | inl e ↦ absurd (let yes : is_in x (y ∷ ys) ≡ true = rw e refl in let no : ⊥ = cc in no)
  | inr e ↦ rw e (let more = times-out x ys (let rest : is_in x (y ∷ ys) ≡ is_in x ys = rw e refl in sym rest ∙ out) in omega (arith, more))
]

out-times : (x : ℕ) (xs : List ℕ) → times x xs ≡ 0 → IsFalse (is_in x xs)
out-times x [] none = refl
out-times x (y ∷ ys) none = elim (cases_Bool (y == x)) [
  | inl e ↦ absurd (let is : times x (y ∷ ys) ≡ 1 + times x ys = rw e refl in let no : ⊥ = omega (arith, is, none) in no)
  | inr e ↦ (let is : times x (y ∷ ys) ≡ 0 + times x ys = rw e refl in rw e (out-times x ys (omega (arith, is, none))))
]

-- what differs stands once at most, and the other way round
distinct-times : (xs : List ℕ) → IsDistinct nat_eq xs → (x : ℕ) → times x xs ≤ 1
unfolding IsDistinct
distinct-times [] d x = omega arith
distinct-times (y ∷ ys) d x = elim (eqb_tells y x) [
  | inl e ↦ rw e.0 (let none = times-out x ys (subst (λ (k : ℕ). IsFalse (is_in k ys)) e.1 (apart-out y ys d.0)) in omega (arith, none))
  | inr e ↦ rw e.0 (let more = distinct-times ys d.1 x in omega (arith, more))
]

times-distinct : (xs : List ℕ) → ((x : ℕ) → times x xs ≤ 1) → IsDistinct nat_eq xs
unfolding IsDistinct
times-distinct [] few = tt
times-distinct (y ∷ ys) few = (
  all_differ y ys (out-times y ys (
      let f : times y (y ∷ ys) ≤ 1 = few y in
      let is : times y (y ∷ ys) ≡ 1 + times y ys = rw (eq-eqb y y refl) refl in omega (arith, f, is))),
  times-distinct ys (λ x. let f : one_if (y == x) + times x ys ≤ 1 = few x in omega (arith, f)),
)

-- the first of joined lists that differ
pub once_first : (xs ys : List ℕ) → IsDistinct nat_eq (xs ++ ys) → IsDistinct nat_eq xs
once_first xs ys once = times-distinct xs (λ x. let few = distinct-times (xs ++ ys) once x in let a = times_append x xs ys in omega (arith, few, a))

-- three lists, joined, in which no number stands more often than in others that differ
pub once_less : (rs cs qs rs2 cs2 qs2 : List ℕ) → IsDistinct nat_eq (rs ++ (cs ++ qs))
    → ((x : ℕ) → times x rs2 + (times x cs2 + times x qs2) ≤ times x rs + (times x cs + times x qs)) → IsDistinct nat_eq (rs2 ++ (cs2 ++ qs2))
once_less rs cs qs rs2 cs2 qs2 once less = times-distinct (rs2 ++ (cs2 ++ qs2)) (λ x.
    let few = distinct-times (rs ++ (cs ++ qs)) once x in
    let a = times_append x rs (cs ++ qs) in let b = times_append x cs qs in
    let c = times_append x rs2 (cs2 ++ qs2) in let d = times_append x cs2 qs2 in
    let l = less x in omega (arith, few, a, b, c, d, l))

-- what fails a test and what passes it
pub times_parts : (x : ℕ) (test : ℕ → Bool) (es : List (ℕ × ℕ))
    → times x (map (λ e. e.0) (filter (λ e. not (test e.0)) es)) + times x (map (λ e. e.0) (filter (λ e. test e.0) es)) ≡ times x (map (λ e. e.0) es)
times_parts x test [] = refl
times_parts x test (e ∷ es) =
    let more = times_parts x test es in
    elim (cases_Bool (test e.0)) [
      | inl t ↦ rw t (omega (arith, more))
      | inr t ↦ rw t (omega (arith, more))
    ]

abbrev queued : Table (List ℕ) → List ℕ
queued queues = flat_map (λ (entry : ℕ × List ℕ). entry.1) queues

none-above : (key least : ℕ) (qs : Table (List ℕ)) → key < least → All (λ (later : ℕ × List ℕ). least < later.0) qs → value_at qs key ≡ None
none-above key least [] low above = refl
none-above key least (q ∷ qs) low above =
    let l = All-head (λ (later : ℕ × List ℕ). least < later.0) q qs above in
    let e : (key == q.0) ≡ false = grind (arith, nat_tests) in
    rw e (none-above key least qs low (All-tail (λ (later : ℕ × List ℕ). least < later.0) q qs above))

-- one queue is written
times-with : (x key : ℕ) (xs : List ℕ) (qs : Table (List ℕ)) → KeysRise qs
    → times x (queued (with_value qs key xs)) + times x (unwrap_or (value_at qs key) []) ≡ times x xs + times x (queued qs)
times-with x key xs [] rises = let a = times_append x xs [] in omega (arith, a)
times-with x key xs (q ∷ qs) rises =
    let more = times-with x key xs qs (KeysRise-tail q qs rises) in
    let here = times_append x q.1 (queued qs) in
    elim (cases_Bool (key == q.0)) [
      | inl e ↦ rw e (let a = times_append x xs (queued qs) in omega (arith, a, here))
      | inr e ↦ elim (cases_Bool (nat_lt key q.0)) [
        | inl l ↦
            let low : key < q.0 = grind (arith, nat_tests) in
            let none = none-above key q.0 qs low (first_key_below q qs rises) in
            rw (e, l, none) (let a = times_append x xs (q.1 ++ queued qs) in omega (arith, a))
        | inr l ↦ rw (e, l) (let a = times_append x q.1 (queued (with_value qs key xs)) in omega (arith, a, here, more))
      ]
    ]

times-without : (x key : ℕ) (qs : Table (List ℕ)) → times x (queued (without_key qs key)) ≤ times x (queued qs)
times-without x key [] = omega arith
times-without x key (q ∷ qs) =
    let more = times-without x key qs in
    let here = times_append x q.1 (queued qs) in
    elim (cases_Bool (q.0 == key)) [
      | inl e ↦ rw e (omega (arith, more, here))
      | inr e ↦ rw e (let a = times_append x q.1 (queued (without_key qs key)) in omega (arith, a, more, here))
    ]

-- one queue loses its first
pub times_first : (x queue : ℕ) (queues : Table (List ℕ)) (found : Option (List ℕ)) → KeysRise queues → value_at queues queue ≡ found
    → times x (queued (without_first queues queue found)) ≤ times x (queued queues)
times_first x queue queues None rises e = omega arith
times_first x queue queues (Some []) rises e = omega arith
times_first x queue queues (Some (b ∷ [])) rises e = times-without x queue queues
times_first x queue queues (Some (b ∷ (c ∷ rest))) rises e =
    let w = times-with x queue (c ∷ rest) queues rises in
    let many : times x (unwrap_or (value_at queues queue) []) ≡ one_if (b == x) + times x (c ∷ rest) = ap (λ (o : Option (List ℕ)). times x (unwrap_or o [])) e in
    omega (arith, w, many)

-- entries enter their queues
pub times_queued : (x : ℕ) (entries : List (ℕ × ℕ)) (queues : Table (List ℕ)) → KeysRise queues
    → times x (queued (queues_with queues entries)) ≡ times x (map (λ e. e.0) entries) + times x (queued queues)
times_queued x [] queues rises = omega arith
times_queued x (e ∷ entries) queues rises =
    let old : List ℕ = unwrap_or (value_at queues e.1) [] in
    let more = times_queued x entries (with_value queues e.1 (old ++ e.0 ∷ [])) (KeysRise-with_value queues e.1 (old ++ e.0 ∷ []) rises) in
    let w = times-with x e.1 (old ++ e.0 ∷ []) queues rises in
    let a = times_append x old (e.0 ∷ []) in
    omega (arith, more, w, a)
