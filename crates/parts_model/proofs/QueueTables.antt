-- Queues whose elements are told in another way.
use Rattle.std.proofs.Common.{◌≡◌, ℕ, Bool, true, false, nat_eq, List, [], ◌∷◌, map, refl, ap}
use Rattle.std.specs.Prelude.{option_map, ◌==◌, cond, not, nat_lt}
use Rattle.std.proofs.lemmas.Map.Made.{lookup-map_values}
use Rattle.type_table.specs.Table.{Table, value_at, with_value, without_key}

-- the queues, where each element is told by a function
abbrev pub told_queues : {A : Type 0} → (A → ℕ) → Table (List A) → Table (List ℕ)
told_queues tell queues = map (λ queue. (queue.0, map tell queue.1)) queues

pub value-told : {A : Type 0} (tell : A → ℕ) (queues : Table (List A)) (queue : ℕ) → value_at (told_queues tell queues) queue ≡ option_map (map tell) (value_at queues queue)
value-told tell queues queue = lookup-map_values (map tell) (nat_eq queue) queues

pub with-told : {A : Type 0} (tell : A → ℕ) (queue : ℕ) (rest : List A) (qs : Table (List A)) → told_queues tell (with_value qs queue rest) ≡ with_value (told_queues tell qs) queue (map tell rest)
with-told tell queue rest [] = refl
with-told {A = A} tell queue rest (q ∷ qs) = by (with-told tell queue rest qs) (queue == q.0) (nat_lt queue q.0)
  where
    by : told_queues tell (with_value qs queue rest) ≡ with_value (told_queues tell qs) queue (map tell rest) → (a b : Bool) → told_queues tell (cond a ((queue, rest) ∷ qs) (cond b ((queue, rest) ∷ (q ∷ qs)) (q ∷ with_value qs queue rest)))
        ≡ cond a ((queue, map tell rest) ∷ told_queues tell qs) (cond b ((queue, map tell rest) ∷ ((q.0, map tell q.1) ∷ told_queues tell qs)) ((q.0, map tell q.1) ∷ with_value (told_queues tell qs) queue (map tell rest)))
    by more true b = refl
    by more false true = refl
    by more false false = ap (λ (xs : Table (List ℕ)). (q.0, map tell q.1) ∷ xs) more

pub without-told : {A : Type 0} (tell : A → ℕ) (queue : ℕ) (qs : Table (List A)) → told_queues tell (without_key qs queue) ≡ without_key (told_queues tell qs) queue
without-told tell queue [] = refl
without-told tell queue (q ∷ qs) = by (without-told tell queue qs) (q.0 == queue)
  where
    by : told_queues tell (without_key qs queue) ≡ without_key (told_queues tell qs) queue → (a : Bool)
        → told_queues tell (cond (not a) (q ∷ without_key qs queue) (without_key qs queue)) ≡ cond (not a) ((q.0, map tell q.1) ∷ without_key (told_queues tell qs) queue) (without_key (told_queues tell qs) queue)
    by more true = more
    by more false = ap (λ (xs : Table (List ℕ)). (q.0, map tell q.1) ∷ xs) more
