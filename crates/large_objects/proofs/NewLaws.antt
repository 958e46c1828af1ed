-- A block that was added, and one that was added and dropped again.
use Rattle.std.proofs.Common.{◌≡◌, ℕ, ◌+◌, ◌≤◌, min, true, List, ◌∷◌, sym, ap, ◌∙◌, arith, subst}
use Rattle.std.specs.BTreeMap.{insert_entry}
use Rattle.std.specs.Ordering.{nat_cmp}
use Rattle.heap_space.specs.Places.{Placed, is_base, word_at}
use Rattle.heap_space.specs.Memory.{Memory, with_large, without_large}
use Rattle.heap_space.specs.Order.{IsInOrder}
use Rattle.heap_space.specs.Extents.{Extent}
use Rattle.heap_space.proofs.Order.{is_base-with_large}
use Rattle.large_objects.specs.Large.{HasBlocks}
use Rattle.large_objects.specs.declared.Large.{Large}
use Rattle.large_objects.proofs.CallLaws.{taken}
use Rattle.large_objects.proofs.MemoryLaws.{dropped-new}
use Rattle.large_objects.proofs.PlaceLaws.{word_at-new_large}

pub new-place : (m now : Memory) (a n : ℕ) → IsInOrder m → 2 ≤ n → (a ≡ m.next_large) × (now ≡ with_large m n)
    → (1099511627776 ≤ a) × (is_base now.blocks a ≡ true)
new-place m now a n o two e =
    let low = o.large_above in let at = e.0 in
    let base : is_base (with_large m n).blocks a ≡ true =
    subst (λ (b : ℕ). is_base (with_large m n).blocks b ≡ true) (sym e.0) (is_base-with_large m n (omega arith)) in
    (omega arith, subst (λ (k : Memory). is_base k.blocks a ≡ true) (sym e.1) base)

pub new-cleared : (m now : Memory) (a n : ℕ) → IsInOrder m → (a ≡ m.next_large) × (now ≡ with_large m n) → word_at now.blocks a ≡ 0
new-cleared m now a n o e =
    ap (λ (k : Memory). word_at k.blocks a) e.1 ∙ ap (λ (b : ℕ). word_at (with_large m n).blocks b) e.0 ∙ word_at-new_large m n o

pub grown : (old new : Large) (m now : Memory) (a n : ℕ) (live : List Extent) (waiting : List ℕ) → IsInOrder m → 2 ≤ n
    → (a ≡ m.next_large) × (now ≡ with_large m n) → new.blocks.entries ≡ insert_entry nat_cmp old.blocks.entries a n
    → new.wait_from ≡ old.wait_from → new.wait_end ≡ min old.wait_end a → new.waiting ≡ old.waiting
    → HasBlocks old m live waiting → HasBlocks new now ((a, n) ∷ live) waiting
grown old new m now a n live waiting o two e entries from end count h =
    let here = taken old new m n live waiting o two (entries ∙ ap (λ (b : ℕ). insert_entry nat_cmp old.blocks.entries b n) e.0) from
    (end ∙ ap (λ (b : ℕ). min old.wait_end b) e.0) count h in
    subst (λ (k : Memory). HasBlocks new k ((a, n) ∷ live) waiting) (sym e.1)
    (subst (λ (b : ℕ). HasBlocks new (with_large m n) ((b, n) ∷ live) waiting) (sym e.0) here)

pub regrown : (m mid now : Memory) (a n : ℕ) → IsInOrder m → 2 ≤ n → (a ≡ m.next_large) × (mid ≡ with_large m n) → now ≡ without_large mid a
    → now ≡ record m { next_large = now.next_large }
regrown m mid now a n o two e gone =
    let whole : now ≡ without_large (with_large m n) m.next_large =
    gone ∙ ap (λ (k : Memory). without_large k a) e.1 ∙ ap (λ (b : ℕ). without_large (with_large m n) b) e.0 in
    let same : without_large (with_large m n) m.next_large ≡ record m { next_large = m.next_large + n } =
    ap (λ (ps : List Placed). let k : Memory = record m { blocks = ps; next_large = m.next_large + n } in k) (dropped-new m n o (omega arith)) in
    let next : now.next_large ≡ m.next_large + n = ap (λ (k : Memory). k.next_large) (whole ∙ same) in
    whole ∙ same ∙ ap (λ (b : ℕ). let k : Memory = record m { next_large = b } in k) (sym next)

pub regrown-blocks : (m mid now : Memory) (a n : ℕ) → IsInOrder m → 2 ≤ n → (a ≡ m.next_large) × (mid ≡ with_large m n)
    → now ≡ without_large mid a → now.blocks ≡ m.blocks
regrown-blocks m mid now a n o two e gone = ap (λ (k : Memory). k.blocks) (regrown m mid now a n o two e gone)
