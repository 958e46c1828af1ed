use Rattle.std.proofs.Common.{◌≡◌, ◌∙◌, ℕ, ◌+◌, ◌*◌, ◌≤◌, List, length, replicate, ap, subst, arith}
use Rattle.heap_space.specs.Places.{Placed, zeros_at}
use Rattle.heap_space.specs.Memory.{Memory, with_arena}
use Rattle.heap_space.specs.Order.{IsInOrder}
use Rattle.heap_space.proofs.Fields.{in-order, add-arena}
use Rattle.heap_space.proofs.areas.Areas.add_arena.Goals as goal

-- a block of zeros at a place that is counted
new_block : (size count arenas : ℕ) (x : Placed) (words : List ℕ)
    → x ≡ record { base = 4294967296 + count * size; words = words }
    → words ≡ replicate size 0 → count ≡ arenas → x ≡ zeros_at (4294967296 + arenas * size) size
new_block size count arenas x words e f g =
    e ∙ ap (λ (ws : List ℕ). record { base = 4294967296 + count * size; words = ws }) f
    ∙ ap (λ (k : ℕ). zeros_at (4294967296 + k * size) size) g

pub invariant_of-self-2 : goal.invariant_of-self-2
invariant_of-self-2 c =
    let s = c.self.inside in let count = c.len.ensures ∙ s.arenas.ok.0 in
    let new = new_block s.arena_words _ _ _ _ c.new.ensures c.in_ok-words.ensures count in
    let room : (4294967296 + length s.arenas.items * s.arena_words) + s.arena_words ≤ 1099511627776 =
    omega (arith, c.if-base-self.false, ap (λ (k : ℕ). k * s.arena_words) count) in
    (add-arena s c.self.invariant c.new.result c.push.new.self c.in_ok-push.ensures.items new room).0

pub returns-clause-ok : goal.returns-clause-ok
returns-clause-ok c =
    let s = c.self.inside in let count = c.len.ensures ∙ s.arenas.ok.0 in
    let new = new_block s.arena_words _ _ _ _ c.new.ensures c.in_ok-words.ensures count in
    let room : (4294967296 + length s.arenas.items * s.arena_words) + s.arena_words ≤ 1099511627776 =
    omega (arith, c.if-base-self.false, ap (λ (k : ℕ). k * s.arena_words) count) in
    let added = (add-arena s c.self.invariant c.new.result c.push.new.self c.in_ok-push.ensures.items new room).1 in
    let place = ap (λ (k : ℕ). 4294967296 + k * s.arena_words) count in
    (place ∙ ap (λ (m : Memory). m.next_arena) c.self.view_is, added ∙ ap with_arena c.self.view_is)

pub returns-clause-ordered : goal.returns-clause-ordered
returns-clause-ordered c =
    let s = c.self.inside in let count = c.len.ensures ∙ s.arenas.ok.0 in
    let new = new_block s.arena_words _ _ _ _ c.new.ensures c.in_ok-words.ensures count in
    let room : (4294967296 + length s.arenas.items * s.arena_words) + s.arena_words ≤ 1099511627776 =
    omega (arith, c.if-base-self.false, ap (λ (k : ℕ). k * s.arena_words) count) in
    in-order _ (add-arena s c.self.invariant c.new.result c.push.new.self c.in_ok-push.ensures.items new room).0

pub returns-then-base-self-clause-ordered : goal.returns-then-base-self-clause-ordered
returns-then-base-self-clause-ordered c = subst IsInOrder c.self.view_is (in-order _ c.self.invariant)

pub returns-in_err-words-clause-ordered : goal.returns-in_err-words-clause-ordered
returns-in_err-words-clause-ordered c = subst IsInOrder c.self.view_is (in-order _ c.self.invariant)

pub returns-in_err-push-clause-ordered : goal.returns-in_err-push-clause-ordered
returns-in_err-push-clause-ordered c = rw c.in_err-push.ensures.items (in-order _ c.self.invariant)
