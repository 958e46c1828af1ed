-- What a caller sees that keeps places with numbers of queues, and queues of places.
use Rattle.std.proofs.Common.{◌≡◌, ℕ, zero, suc, Bool, true, false, List, [], ◌∷◌, ◌++◌, set, map, Option, Some, None, refl, ap}
use Rattle.std.specs.Prelude.{filter, option_map, nat_eq, nat_lt, ◌==◌, not, cond, unwrap_or}
use Rattle.std.proofs.lemmas.List.{map-append}
use Rattle.std.proofs.lemmas.Map.Made.{lookup-map_values}
use Rattle.type_table.specs.Table.{Table, value_at, with_value, without_key}
use Rattle.finalizer_order.specs.declared.entry.Entry.{Entry}
use Rattle.finalizer_order.specs.Finalizers.{places_of, placed, placed_queues}

-- one more
pub placed-last : (es : List Entry) (e : Entry) → placed (es ++ e ∷ []) ≡ placed es ++ (e.place, e.queue) ∷ []
placed-last es e = map-append (λ (k : Entry). (k.place, k.queue)) es (e ∷ [])

pub placed-append : (xs ys : List Entry) → placed (xs ++ ys) ≡ placed xs ++ placed ys
placed-append xs ys = map-append (λ (k : Entry). (k.place, k.queue)) xs ys

-- those that pass a test of places
pub placed-filter : (test : ℕ → Bool) (es : List Entry) → placed (filter (λ e. test e.place) es) ≡ filter (λ p. test p.0) (placed es)
placed-filter test [] = refl
placed-filter test (e ∷ es) = go (test e.place) refl (placed-filter test es)
  where
    go : (b : Bool) → test e.place ≡ b → placed (filter (λ k. test k.place) es) ≡ filter (λ p. test p.0) (placed es)
        → placed (filter (λ k. test k.place) (e ∷ es)) ≡ filter (λ p. test p.0) (placed (e ∷ es))
    go true b more = rw b (ap (λ (ps : List (ℕ × ℕ)). (e.place, e.queue) ∷ ps) more)
    go false b more = rw b more

-- one that moved
pub placed-moved : (es : List Entry) (k to : ℕ) (e : Entry) → placed (set es k (record e { place = to })) ≡ set (placed es) k (to, e.queue)
placed-moved [] k to e = refl
placed-moved (x ∷ es) zero to e = refl
placed-moved (x ∷ es) (suc k) to e = ap (λ (ps : List (ℕ × ℕ)). (x.place, x.queue) ∷ ps) (placed-moved es k to e)

pub placed-places : (es : List Entry) → map (λ (p : ℕ × ℕ). p.0) (placed es) ≡ places_of es
placed-places [] = refl
placed-places (e ∷ es) = ap (λ (ps : List ℕ). e.place ∷ ps) (placed-places es)

-- the queues

pub value-placed : (queues : Table (List Entry)) (queue : ℕ) → value_at (placed_queues queues) queue ≡ option_map places_of (value_at queues queue)
value-placed queues queue = lookup-map_values places_of (nat_eq queue) queues

pub with-placed : (queue : ℕ) (es : List Entry) (qs : Table (List Entry)) → placed_queues (with_value qs queue es) ≡ with_value (placed_queues qs) queue (places_of es)
with-placed queue es [] = refl
with-placed queue es (q ∷ qs) = by (with-placed queue es qs) (queue == q.0) (nat_lt queue q.0)
  where
    by : placed_queues (with_value qs queue es) ≡ with_value (placed_queues qs) queue (places_of es) → (a b : Bool)
        → placed_queues (cond a ((queue, es) ∷ qs) (cond b ((queue, es) ∷ (q ∷ qs)) (q ∷ with_value qs queue es)))
        ≡ cond a ((queue, places_of es) ∷ placed_queues qs)
        (cond b ((queue, places_of es) ∷ ((q.0, places_of q.1) ∷ placed_queues qs)) ((q.0, places_of q.1) ∷ with_value (placed_queues qs) queue (places_of es)))
    by more true b = refl
    by more false true = refl
    by more false false = ap (λ (xs : Table (List ℕ)). (q.0, places_of q.1) ∷ xs) more

pub without-placed : (queue : ℕ) (qs : Table (List Entry)) → placed_queues (without_key qs queue) ≡ without_key (placed_queues qs) queue
without-placed queue [] = refl
without-placed queue (q ∷ qs) = by (without-placed queue qs) (q.0 == queue)
  where
    by : placed_queues (without_key qs queue) ≡ without_key (placed_queues qs) queue → (a : Bool)
        → placed_queues (cond (not a) (q ∷ without_key qs queue) (without_key qs queue))
        ≡ cond (not a) ((q.0, places_of q.1) ∷ without_key (placed_queues qs) queue) (without_key (placed_queues qs) queue)
    by more true = more
    by more false = ap (λ (xs : Table (List ℕ)). (q.0, places_of q.1) ∷ xs) more

pub unwrap-placed : (found : Option (List Entry)) → unwrap_or (option_map places_of found) [] ≡ places_of (unwrap_or found [])
unwrap-placed None = refl
unwrap-placed (Some es) = refl
