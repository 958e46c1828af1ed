-- What each call leaves.
use Rattle.std.proofs.Common.{inl, inr, ◌≡◌, ◌≢◌, ℕ, ◌+◌, ◌-◌, ◌<◌, ◌≤◌, min, Bool, true, false, cond, not, List, [], ◌∷◌, ◌++◌, length, refl, sym, ap, ◌∙◌, arith, subst, map}
use Rattle.std.specs.Prelude.{filter, ◌==◌}
use mir.Val.{bool_byte}
use Rattle.std.specs.BTreeMap.{insert_entry, is_at}
use Rattle.std.specs.Map.{remove_entry}
use Rattle.std.specs.Ordering.{nat_cmp}
use Rattle.std.specs.List.Sorted.{IsPermutation}
use Rattle.std.proofs.lemmas.Bool.{cases_Bool}
use Rattle.std.proofs.lemmas.Bool.Decides.{nat_tests}
use Rattle.heap_space.specs.Places.{Placed, with_word}
use Rattle.heap_space.specs.Memory.{Memory, with_large, without_large}
use Rattle.heap_space.specs.Order.{IsInOrder}
use Rattle.heap_space.specs.Extents.{Extent, extent_of, Each, IsApart, begins_between}
use Rattle.heap_space.proofs.ExtentLaws.{Each-map, Each-both, Each-join, extents-with_word}
use Rattle.large_objects.specs.Blocks.{larges_of, places_of, AreRising, begin_elsewhere, without_place}
use Rattle.large_objects.specs.Large.{HasBlocks}
use Rattle.large_objects.specs.declared.Large.{Large}
use Rattle.large_objects.proofs.Same.{Same, same-permutation, permutation-same, filter-same, length-same, count-append}
use Rattle.large_objects.proofs.Rising.{AreRising-append, AreRising-filter, Each-filter, insert-last, remove-elsewhere, elsewhere-all, waiting-append, places-elsewhere, waiting-all, waiting-rest, waiting-passed, length-places}
use Rattle.large_objects.proofs.MemoryLaws.{larges-below, larges-with_large, larges-without_large}
use Rattle.large_objects.proofs.LargeLaws.{HasBlocks-apart, HasBlocks-wide, blocks-as, larges-within}

-- a block more

places-below : (m : Memory) → IsInOrder m → Each (λ x. 2 ≤ x.1) (larges_of m) → Each (λ x. x.0 < m.next_large) (larges_of m)
places-below m o wide = Each-both (λ x. x.0 + x.1 ≤ m.next_large) (λ x. 2 ≤ x.1) (λ x. x.0 < m.next_large) (λ x p q. omega arith) (larges_of m) (larges-below m o) wide

same-last : (x : Extent) (xs ys : List Extent) → Same xs ys → Same (xs ++ x ∷ []) (x ∷ ys)
same-last x xs ys s = record { as_often = λ z. omega (arith, count-append z xs (x ∷ []), s.as_often z) }

-- the blocks that wait, by the numbers that the record has
cuts : (large : Large) (from end : ℕ) (xs : List Extent) → large.wait_from ≡ from → large.wait_end ≡ end
    → places_of (filter (begins_between large.wait_from large.wait_end) xs) ≡ places_of (filter (begins_between from end) xs)
cuts large from end xs e f =
    ap (λ (k : ℕ). places_of (filter (begins_between k large.wait_end) xs)) e ∙ ap (λ (k : ℕ). places_of (filter (begins_between from k) xs)) f

pub taken : (old new : Large) (m : Memory) (n : ℕ) (live : List Extent) (waiting : List ℕ) → IsInOrder m → 2 ≤ n
    → new.blocks.entries ≡ insert_entry nat_cmp old.blocks.entries m.next_large n → new.wait_from ≡ old.wait_from
    → new.wait_end ≡ min old.wait_end m.next_large → new.waiting ≡ old.waiting
    → HasBlocks old m live waiting → HasBlocks new (with_large m n) ((m.next_large, n) ∷ live) waiting
taken old new m n live waiting o two entries from end count h =
    let below = places-below m o h.wide in
    let grown = larges-with_large m n o in
    let a = m.next_large in
    let now : List Extent = larges_of m ++ (a, n) ∷ [] in
    let before : Same (larges_of m) live = same-permutation (larges_of m) live h.same in
    let same : Same (larges_of (with_large m n)) ((a, n) ∷ live) =
    subst (λ (xs : List Extent). Same xs ((a, n) ∷ live)) (sym grown) (same-last (a, n) (larges_of m) live before) in
    record {
      listed = entries ∙ ap (λ (xs : List Extent). insert_entry nat_cmp xs a n) h.listed ∙ insert-last (larges_of m) a n below ∙ sym grown;
      same = permutation-same (larges_of (with_large m n)) ((a, n) ∷ live) same;
      rising = subst (λ (xs : List Extent). AreRising xs) (sym grown) (AreRising-append (larges_of m) a n h.rising (larges-below m o));
      wide = subst (λ (xs : List Extent). Each (λ x. 2 ≤ x.1) xs) (sym grown) (Each-join (λ x. 2 ≤ x.1) (larges_of m) ((a, n) ∷ []) h.wide (two, tt));
      waits =
          h.waits
          ∙ ap places_of (sym (waiting-append old.wait_from old.wait_end a n (larges_of m) below))
          ∙ ap (λ (xs : List Extent). places_of (filter (begins_between old.wait_from (min old.wait_end a)) xs)) (sym grown)
          ∙ sym (cuts new old.wait_from (min old.wait_end a) (larges_of (with_large m n)) from end);
      counted = count ∙ h.counted;
    }

-- nothing changes

pub unchanged : (old new : Large) (m now : Memory) (live : List Extent) (waiting : List ℕ) → new.blocks.entries ≡ old.blocks.entries
    → new.wait_from ≡ old.wait_from → new.wait_end ≡ old.wait_end → new.waiting ≡ old.waiting → now.blocks ≡ m.blocks
    → HasBlocks old m live waiting → HasBlocks new now live waiting
unchanged old new m now live waiting entries from end count blocks h =
    let same : HasBlocks new m live waiting = record {
      listed = entries ∙ h.listed;
      same = h.same;
      rising = h.rising;
      wide = h.wide;
      waits = h.waits ∙ sym (cuts new old.wait_from old.wait_end (larges_of m) from end);
      counted = count ∙ h.counted;
    } in
    blocks-as new m now live waiting same
    (ap (λ (ps : List Placed). filter (begins_between 1099511627776 9223372036854775808) (map extent_of ps)) blocks)

-- a block less

-- the others begin elsewhere
others-elsewhere : (large : Large) (m : Memory) (x : Extent) (live : List Extent) (waiting : List ℕ) → HasBlocks large m (x ∷ live) waiting
    → Each (λ y. y.0 ≢ x.0) live
others-elsewhere large m x live waiting h =
    let apart = HasBlocks-apart large m (x ∷ live) waiting h in
    let wide = HasBlocks-wide large m (x ∷ live) waiting h in
    let two = wide.0 in
    Each-both (IsApart x) (λ y. 2 ≤ y.1) (λ y. y.0 ≢ x.0) (λ y p q. λ same. elim p [ inl a ↦ omega (arith, same) | inr b ↦ omega (arith, same) ]) live apart.0 wide.1

pub left-live : (large : Large) (m : Memory) (a n : ℕ) (live : List Extent) (waiting : List ℕ) → HasBlocks large m ((a, n) ∷ live) waiting
    → begin_elsewhere a ((a, n) ∷ live) ≡ live
left-live large m a n live waiting h =
    let others = elsewhere-all live a (others-elsewhere large m (a, n) live waiting h) in grind (arith, nat_tests, others)

-- the blocks without that at a, whatever waits then
dropped : (old new : Large) (m : Memory) (a : ℕ) (live : List Extent) (waiting now : List ℕ)
    → new.blocks.entries ≡ remove_entry (is_at (nat_cmp a)) old.blocks.entries
    → now ≡ places_of (filter (begins_between new.wait_from new.wait_end) (begin_elsewhere a (larges_of m))) → new.waiting ≡ length now
    → HasBlocks old m live waiting → HasBlocks new (without_large m a) (begin_elsewhere a live) now
dropped old new m a live waiting now entries waits count h =
    let left = larges-without_large m a h.wide in
    let t : Extent → Bool = λ x. not (x.0 == a) in
    let same : Same (begin_elsewhere a (larges_of m)) (begin_elsewhere a live) =
    filter-same t (larges_of m) live (same-permutation (larges_of m) live h.same) in
    record {
      listed =
          entries ∙ ap (λ (xs : List Extent). remove_entry (is_at (nat_cmp a)) xs) h.listed
          ∙ remove-elsewhere (larges_of m) a h.rising h.wide ∙ sym left;
      same = subst (λ (xs : List Extent). IsPermutation xs (begin_elsewhere a live)) (sym left) (permutation-same (begin_elsewhere a (larges_of m)) (begin_elsewhere a live) same);
      rising = subst (λ (xs : List Extent). AreRising xs) (sym left) (AreRising-filter t (larges_of m) h.rising);
      wide = subst (λ (xs : List Extent). Each (λ x. 2 ≤ x.1) xs) (sym left) (Each-filter (λ x. 2 ≤ x.1) t (larges_of m) h.wide);
      waits = waits ∙ ap (λ (xs : List Extent). places_of (filter (begins_between new.wait_from new.wait_end) xs)) (sym left);
      counted = count;
    }

-- how many wait without it
count-left : (from end a n : ℕ) (xs live : List Extent) → Same xs ((a, n) ∷ live) → begin_elsewhere a ((a, n) ∷ live) ≡ live
    → length (filter (begins_between from end) (begin_elsewhere a xs)) + cond (begins_between from end (a, n)) 1 0
    ≡ length (filter (begins_between from end) xs)
count-left from end a n xs live s e =
    let t = begins_between from end in
    let whole = length-same (filter t xs) (filter t ((a, n) ∷ live)) (filter-same t xs ((a, n) ∷ live) s) in
    let part = length-same (filter t (begin_elsewhere a xs)) (filter t (begin_elsewhere a ((a, n) ∷ live)))
    (filter-same t (begin_elsewhere a xs) (begin_elsewhere a ((a, n) ∷ live)) (filter-same (λ x. not (x.0 == a)) xs ((a, n) ∷ live) s)) in
    let part' = part ∙ ap (λ (ys : List Extent). length (filter t ys)) e in
    elim (cases_Bool (t (a, n))) [
      | inl h ↦ (let w = rw h at whole in rw h (omega (arith, w, part')))
      | inr h ↦ (let w = rw h at whole in rw h (omega (arith, w, part')))
    ]

pub byte-cond : (b : Bool) → bool_byte b ≡ cond b 1 0
byte-cond true = refl
byte-cond false = refl

-- it is counted where it waits
pub held-counted : (large : Large) (m : Memory) (a n : ℕ) (live : List Extent) (waiting : List ℕ) (b : Bool)
    → b ≡ begins_between large.wait_from large.wait_end (a, 0) → HasBlocks large m ((a, n) ∷ live) waiting → bool_byte b ≤ large.waiting
held-counted large m a n live waiting b e h =
    let counts = count-left large.wait_from large.wait_end a n (larges_of m) live (same-permutation (larges_of m) ((a, n) ∷ live) h.same)
    (left-live large m a n live waiting h) in
    let size = ap (length {A = ℕ}) h.waits ∙ length-places (filter (begins_between large.wait_from large.wait_end) (larges_of m)) in
    let byte = byte-cond b ∙ ap (λ (t : Bool). cond t 1 0) e in
    omega (arith, counts, size, h.counted, byte)

pub given : (old new : Large) (m now : Memory) (a n : ℕ) (b : Bool) (live : List Extent) (waiting : List ℕ)
    → new.blocks.entries ≡ remove_entry (is_at (nat_cmp a)) old.blocks.entries → new.wait_from ≡ old.wait_from → new.wait_end ≡ old.wait_end
    → b ≡ begins_between old.wait_from old.wait_end (a, 0) → new.waiting ≡ old.waiting - bool_byte b → now ≡ without_large m a
    → HasBlocks old m ((a, n) ∷ live) waiting → HasBlocks new now live (without_place a waiting)
given old new m now a n b live waiting entries from end held count is h =
    let left = left-live old m a n live waiting h in
    let xs = filter (begins_between old.wait_from old.wait_end) (larges_of m) in
    let ys = filter (begins_between old.wait_from old.wait_end) (begin_elsewhere a (larges_of m)) in
    let now : without_place a waiting ≡ places_of ys =
    ap (λ (ps : List ℕ). without_place a ps) h.waits ∙ sym (places-elsewhere old.wait_from old.wait_end a (larges_of m)) in
    let counts = count-left old.wait_from old.wait_end a n (larges_of m) live (same-permutation (larges_of m) ((a, n) ∷ live) h.same) left in
    let size = ap (length {A = ℕ}) h.waits ∙ length-places xs in
    let size' = ap (length {A = ℕ}) now ∙ length-places ys in
    let fewer = held-counted old m a n live waiting b held h in
    let byte = byte-cond b ∙ ap (λ (t : Bool). cond t 1 0) held in
    subst (λ (k : Memory). HasBlocks new k live (without_place a waiting)) (sym is)
    (subst (λ (zs : List Extent). HasBlocks new (without_large m a) zs (without_place a waiting)) left
    (dropped old new m a ((a, n) ∷ live) waiting (without_place a waiting) entries
    (now ∙ sym (cuts new old.wait_from old.wait_end (begin_elsewhere a (larges_of m)) from end))
    (omega (arith, count, counts, size, size', h.counted, fewer, byte)) h))

-- a sweep begins

pub begun : (old new : Large) (m : Memory) (live : List Extent) (waiting : List ℕ) → new.blocks.entries ≡ old.blocks.entries → new.wait_from ≡ 0
    → new.wait_end ≡ 18446744073709551615 → new.waiting ≡ length old.blocks.entries
    → HasBlocks old m live waiting → HasBlocks new m live (places_of (larges_of m))
begun old new m live waiting entries from end count h =
    let all : filter (begins_between 0 18446744073709551615) (larges_of m) ≡ larges_of m =
    waiting-all 18446744073709551615 (larges_of m)
    (Each-map (λ x. (1099511627776 ≤ x.0) × (x.0 < 9223372036854775808)) (λ x. x.0 < 18446744073709551615) (λ x p. omega (arith, p.1)) (larges_of m) (larges-within m)) in
    record {
      listed = entries ∙ h.listed;
      same = h.same;
      rising = h.rising;
      wide = h.wide;
      waits = ap places_of (sym all) ∙ sym (cuts new 0 18446744073709551615 (larges_of m) from end);
      counted = count ∙ ap (length {A = Extent}) h.listed ∙ sym (length-places (larges_of m));
    }

-- the first that waits was swept

pub swept-kept : (old new : Large) (m now : Memory) (a v : ℕ) (live : List Extent) (waiting : List ℕ) → new.blocks.entries ≡ old.blocks.entries
    → new.wait_from ≡ a + 1 → new.wait_end ≡ old.wait_end → new.waiting ≡ old.waiting - 1 → now ≡ record m { blocks = with_word m.blocks a v }
    → HasBlocks old m live (a ∷ waiting) → HasBlocks new now live waiting
swept-kept old new m now a v live waiting entries from end count is h =
    let rest = waiting-rest old.wait_from old.wait_end a (larges_of m) waiting h.rising h.wide (sym h.waits) in
    let same : HasBlocks new m live waiting = record {
      listed = entries ∙ h.listed;
      same = h.same;
      rising = h.rising;
      wide = h.wide;
      waits = sym rest ∙ sym (cuts new (a + 1) old.wait_end (larges_of m) from end);
      counted = omega (arith, count, h.counted);
    } in
    subst (λ (k : Memory). HasBlocks new k live waiting) (sym is)
    (blocks-as new m (record m { blocks = with_word m.blocks a v }) live waiting same
    (ap (λ (xs : List Extent). filter (begins_between 1099511627776 9223372036854775808) xs) (extents-with_word m.blocks a v)))

pub swept-freed : (old new : Large) (m now : Memory) (a : ℕ) (live : List Extent) (waiting : List ℕ)
    → new.blocks.entries ≡ remove_entry (is_at (nat_cmp a)) old.blocks.entries → new.wait_from ≡ a + 1 → new.wait_end ≡ old.wait_end
    → new.waiting ≡ old.waiting - 1 → now ≡ without_large m a
    → HasBlocks old m live (a ∷ waiting) → HasBlocks new now (begin_elsewhere a live) waiting
swept-freed old new m now a live waiting entries from end count is h =
    let rest = waiting-rest old.wait_from old.wait_end a (larges_of m) waiting h.rising h.wide (sym h.waits) in
    subst (λ (k : Memory). HasBlocks new k (begin_elsewhere a live) waiting) (sym is)
    (dropped old new m a live (a ∷ waiting) waiting entries
    (sym rest ∙ ap places_of (sym (waiting-passed a old.wait_end (larges_of m))) ∙ sym (cuts new (a + 1) old.wait_end (begin_elsewhere a (larges_of m)) from end))
    (omega (arith, count, h.counted)) h)
