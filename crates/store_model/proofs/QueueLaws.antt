-- Finalizer queues, of which one loses its first object.
use Rattle.std.proofs.Common.{◌≡◌, ℕ, ◌⊎◌, Bool, true, false, IsTrue, List, [], ◌∷◌, ◌++◌, map, Option, Some, None, refl, sym, ◌∙◌, subst, inl, inr, arith}
use Rattle.std.specs.Prelude.{flat_map, option_map, ◌==◌, cond, not, nat_lt}
use Rattle.std.proofs.lemmas.Bool.Decides.{eqb_tells, nat_tests}
use Rattle.type_table.specs.Table.{Table, KeysRise, value_at, with_value, without_key}
use Rattle.type_table.proofs.TableLaws.{KeysRise-with_value, KeysRise-entries_where}
use Rattle.object_model.proofs.Members.{is_in-head, is_in-tail, is_in-nil, in-left, in-right, in-either}
use Rattle.object_model.specs.Sets.{is_in}
use Rattle.store_model.specs.PlainCommands.{first_of, without_first}

abbrev queued_in : Table (List ℕ) → List ℕ
queued_in queues = flat_map (λ entry. entry.1) queues

-- queues of which one changed
queue-cases : (queue x : ℕ) (rest : List ℕ) (qs : Table (List ℕ)) → IsTrue (is_in x (queued_in (with_value qs queue rest))) → IsTrue (is_in x (queued_in qs)) ⊎ IsTrue (is_in x rest)
queue-cases queue x rest [] c = elim (in-either x rest [] c) [ inl a ↦ inr a | inr b ↦ absurd (is_in-nil x b) ]
queue-cases queue x rest (q ∷ qs) c = by (λ d. queue-cases queue x rest qs d) (queue == q.0) (nat_lt queue q.0) c
  where
    by : (IsTrue (is_in x (queued_in (with_value qs queue rest))) → IsTrue (is_in x (queued_in qs)) ⊎ IsTrue (is_in x rest)) → (a b : Bool) → IsTrue (is_in x (queued_in (cond a ((queue, rest) ∷ qs) (cond b ((queue, rest) ∷ (q ∷ qs)) (q ∷ with_value qs queue rest)))))
        → IsTrue (is_in x (q.1 ++ queued_in qs)) ⊎ IsTrue (is_in x rest)
    by more true b c = elim (in-either x rest (queued_in qs) c) [ inl a ↦ inr a | inr d ↦ inl (in-right x q.1 (queued_in qs) d) ]
    by more false true c = elim (in-either x rest (q.1 ++ queued_in qs) c) [ inl a ↦ inr a | inr d ↦ inl d ]
    by more false false c = elim (in-either x q.1 (queued_in (with_value qs queue rest)) c) [
      | inl a ↦ inl (in-left x q.1 (queued_in qs) a)
      | inr d ↦ elim (more d) [ inl a ↦ inl (in-right x q.1 (queued_in qs) a) | inr b ↦ inr b ]
    ]

queue-without : (queue x : ℕ) (qs : Table (List ℕ)) → IsTrue (is_in x (queued_in (without_key qs queue))) → IsTrue (is_in x (queued_in qs))
queue-without queue x [] c = c
queue-without queue x (q ∷ qs) c = by (λ d. queue-without queue x qs d) (q.0 == queue) c
  where
    by : (IsTrue (is_in x (queued_in (without_key qs queue))) → IsTrue (is_in x (queued_in qs))) → (a : Bool) → IsTrue (is_in x (queued_in (cond (not a) (q ∷ without_key qs queue) (without_key qs queue)))) → IsTrue (is_in x (q.1 ++ queued_in qs))
    by more true c = in-right x q.1 (queued_in qs) (more c)
    by more false c = elim (in-either x q.1 (queued_in (without_key qs queue)) c) [
      | inl a ↦ in-left x q.1 (queued_in qs) a
      | inr d ↦ in-right x q.1 (queued_in qs) (more d)
    ]

-- what stands in a queue is queued
in-queue : (queue x : ℕ) (births : List ℕ) (qs : Table (List ℕ)) → value_at qs queue ≡ Some births → IsTrue (is_in x births) → IsTrue (is_in x (queued_in qs))
in-queue queue x births [] e t = absurd (let no : ⊥ = cc in no)
in-queue queue x births (q ∷ qs) e t = elim (eqb_tells queue q.0) [
  | inl same ↦
      (let first : value_at (q ∷ qs) queue ≡ Some q.1 = (let z = same.1 in grind (arith, nat_tests)) in
      let is : q.1 ≡ births = (let both : Some q.1 ≡ Some births = sym first ∙ e in cc) in
      in-left x q.1 (queued_in qs) (subst (λ (xs : List ℕ). IsTrue (is_in x xs)) (sym is) t))
  | inr differ ↦
      (let rest : value_at (q ∷ qs) queue ≡ value_at qs queue = (let z = differ.1 in grind (arith, nat_tests)) in
      in-right x q.1 (queued_in qs) (in-queue queue x births qs (sym rest ∙ e) t))
]

-- without the first of a queue there is no more than before
pub first-less : (queues : Table (List ℕ)) (queue x : ℕ) (found : Option (List ℕ)) → value_at queues queue ≡ found → IsTrue (is_in x (queued_in (without_first queues queue found))) → IsTrue (is_in x (queued_in queues))
first-less queues queue x None e t = t
first-less queues queue x (Some []) e t = t
first-less queues queue x (Some (b ∷ [])) e t = queue-without queue x queues t
first-less queues queue x (Some (b ∷ (c ∷ rest))) e t = elim (queue-cases queue x (c ∷ rest) queues t) [
  | inl a ↦ a
  | inr u ↦ in-queue queue x (b ∷ (c ∷ rest)) queues e (is_in-tail x b (c ∷ rest) u)
]

pub first-queued : (queues : Table (List ℕ)) (queue x : ℕ) (found : Option (List ℕ)) → value_at queues queue ≡ found → first_of found ≡ Some x → IsTrue (is_in x (queued_in queues))
first-queued queues queue x None e f = absurd (let no : ⊥ = cc in no)
first-queued queues queue x (Some []) e f = absurd (let no : ⊥ = cc in no)
first-queued queues queue x (Some (b ∷ rest)) e f =
    let same : b ≡ x = cc in in-queue queue x (b ∷ rest) queues e (subst (λ (k : ℕ). IsTrue (is_in k (b ∷ rest))) same (is_in-head b rest))

pub first-rises : (queues : Table (List ℕ)) (queue : ℕ) (found : Option (List ℕ)) → KeysRise queues → KeysRise (without_first queues queue found)
first-rises queues queue None r = r
first-rises queues queue (Some []) r = r
first-rises queues queue (Some (b ∷ [])) r = KeysRise-entries_where (λ other. not (other == queue)) queues r
first-rises queues queue (Some (b ∷ (c ∷ rest))) r = KeysRise-with_value queues queue (c ∷ rest) r

pub first-is : (name : ℕ → ℕ) (found : Option (List ℕ)) → first_of (option_map (map name) found) ≡ option_map name (first_of found)
first-is name None = refl
first-is name (Some []) = refl
first-is name (Some (b ∷ rest)) = refl
