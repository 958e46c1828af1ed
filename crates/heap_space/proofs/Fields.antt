-- The fields of `Areas` hold its memory: where each place has its word, and what each change of a field does.
use Rattle.std.proofs.Common.{◌≡◌, ◌≢◌, ℕ, suc, ◌+◌, ◌-◌, ◌*◌, ◌/◌, ◌%◌, ◌^◌, ◌<◌, ◌≤◌, true, false, List, [], ◌∷◌, ◌++◌, length, set, get_or, map, refl, sym, ap, ◌∙◌, subst, arith, length-append, length-set, append_assoc, append-nil}
use Rattle.std.proofs.lemmas.List.{set-append_left, set-append_right}
use lib.ListN.{length-replicate}
use Rattle.std.specs.Prelude.{slice_index, nat_lt}
use Rattle.std.specs.Vec.{with_item}
use Rattle.std.specs.declared.vec.Vec.{Vec}
use Rattle.std.specs.declared.alloc.Global.{Global}
use Rattle.heap_space.specs.declared.areas.Areas.TheInside.{Inside}
use Rattle.heap_space.specs.Places.{Placed, covers, end_of, has, word_at, with_word, lies_in_one, with_run, zeros_at, with_block, is_base, RiseTo}
use Rattle.heap_space.specs.Runs.{overlaid, with_words}
use Rattle.heap_space.specs.Memory.{Memory, with_arena, with_large}
use Rattle.heap_space.specs.Order.{IsInOrder}
use Rattle.heap_space.specs.Seats.{AreArenas, IsSeat, full_blocks, seen, emptied, with_emptied}
use Rattle.heap_space.specs.Areas.{nursery_block, memory_of, HasAreas}
use Rattle.heap_space.proofs.Overlays.{length-overlaid, overlaid-behind, overlaid-shift}
use Rattle.heap_space.proofs.Blocks.{covers-inside, covers-above, is_base-has, lies-has}
use Rattle.heap_space.proofs.Rising.{has-below, has-above, has-append, is_base-append, rise_le, rise-more, rise-less, rise-append, arenas-rise, spans-here, arenas-append, arenas-set, rise-set, with_word-index, with_block-between}
use Rattle.heap_space.proofs.Larges.{emptied-index, emptied-behind, full-append, full-full, rise-full}
use Rattle.heap_space.proofs.Seats.{seat-nursery, seat-arena, seat-large, has-large, has-arenas, seat-word, seat-written, at-left, at-right}

abbrev pub nursery_of : Inside → Placed
nursery_of s = nursery_block s.nursery

abbrev pub arenas_of : Inside → List Placed
arenas_of s = s.arenas.items

abbrev pub larges_of : Inside → List Placed
larges_of s = s.larges.items

-- how the areas lie
module _ (s : Inside) (i : HasAreas s) where
  pub arenas-below : RiseTo 4294967296 (arenas_of s) 1099511627776
  arenas-below =
      rise-more 4294967296 (4294967296 + length (arenas_of s) * s.arena_words) 1099511627776 (arenas_of s) i.arenas_end
      (arenas-rise 4294967296 s.arena_words (arenas_of s) i.arenas)

  pub rest-rises : RiseTo 4294967296 (arenas_of s ++ larges_of s) s.next_large
  rest-rises = rise-append 4294967296 1099511627776 s.next_large (arenas_of s) (larges_of s) arenas-below i.larges

  pub space-rises : RiseTo 1 (memory_of s).blocks s.next_large
  space-rises = (
    omega arith,
    rise-less (end_of (nursery_of s)) 4294967296 s.next_large (arenas_of s ++ larges_of s) i.nursery_ends rest-rises,
  )

  -- nothing lies where the next arena goes
  next-is-free : (b : ℕ) → (memory_of s).next_arena ≤ b → b < 1099511627776 → has (memory_of s).blocks b ≡ false
  next-is-free b l m =
      let end : ℕ = 4294967296 + length (arenas_of s) * s.arena_words in
      let c = covers-above (nursery_of s) b (omega (arith, l, i.nursery_ends)) in
      let d = has-above 4294967296 end b (arenas_of s) (arenas-rise 4294967296 s.arena_words (arenas_of s) i.arenas) l in
      let f = has-below 1099511627776 s.next_large b (larges_of s) i.larges m in
      let g = has-append (arenas_of s) (larges_of s) b in grind arith

  pub in-order : IsInOrder (memory_of s)
  in-order = record {
    rises = space-rises;
    free = next-is-free;
    arenas_end = i.arenas_end;
    arena_some = i.arena_some;
    arena_most = i.arena_most;
    large_above = rise_le 1099511627776 s.next_large (larges_of s) i.larges;
    large_small = i.large_small;
  }

-- where a place has its word, by the area that it lies in
module _ (s : Inside) (i : HasAreas s) (m : Memory) (e : memory_of s ≡ m) (a : ℕ) (h : has m.blocks a ≡ true) where
  here : has (memory_of s).blocks a ≡ true
  here = subst (λ (n : Memory). has n.blocks a ≡ true) (sym e) h

  pub at-nursery : a < 4294967296 → (1 ≤ a) × IsSeat m.blocks a 0 (a - 1)
  at-nursery l =
      subst (λ (n : Memory). (1 ≤ a) × IsSeat n.blocks a 0 (a - 1)) e
      (seat-nursery (nursery_of s) s.arena_words s.next_large a (arenas_of s) (larges_of s) i.arenas i.arena_some i.nursery_ends i.arenas_end i.larges here l)

  pub at-arena : 4294967296 ≤ a → a < 1099511627776
      → IsSeat m.blocks a ((a - 4294967296) / s.arena_words + 1) ((a - 4294967296) % s.arena_words)
  at-arena l k =
      subst (λ (n : Memory). IsSeat n.blocks a ((a - 4294967296) / s.arena_words + 1) ((a - 4294967296) % s.arena_words)) e
      (seat-arena (nursery_of s) s.arena_words s.next_large a (arenas_of s) (larges_of s) i.arenas i.arena_some i.nursery_ends i.arenas_end i.larges here l k)

  pub at-larges : (ls : List Placed) → ls ≡ larges_of s → 1099511627776 ≤ a → has ls a ≡ true
  at-larges ls f l =
      ap (λ (ks : List Placed). has ks a) f
      ∙ has-large (nursery_of s) s.arena_words s.next_large a (arenas_of s) (larges_of s) i.arenas i.arena_some i.nursery_ends i.arenas_end i.larges here l

  pub at-large : (ls : List Placed) → ls ≡ larges_of s → (k n : ℕ) (x : Placed) → n ≡ length (arenas_of s)
      → k < length ls
      → x ≡ get_or (larges_of s) k x → ((d : Placed) → covers (get_or ls k d) a ≡ true)
      → (x.base ≤ a) × IsSeat m.blocks a (n + k + 1) (a - x.base)
  at-large ls f k n x g l w v =
      let l' = subst (λ (ks : List Placed). k < length ks) f l in
      let v' = subst (λ (ks : List Placed). (d : Placed) → covers (get_or ks k d) a ≡ true) f v in
      let t = seat-large (nursery_of s) s.arena_words s.next_large a (arenas_of s) (larges_of s) i.arenas i.arena_some i.nursery_ends i.arenas_end i.larges here k l' v' x in
      let u = subst (λ (p : Placed). IsSeat (memory_of s).blocks a (length (arenas_of s) + k + 1) (a - p.base)) (sym w) t in
      let c = subst (λ (p : Placed). covers p a ≡ true) (sym w) (v' x) in (
        (covers-inside x a c).0,
        subst (λ (j : ℕ). IsSeat m.blocks a (j + k + 1) (a - x.base)) (sym g)
            (subst (λ (o : Memory). IsSeat o.blocks a (length (arenas_of s) + k + 1) (a - x.base)) e u),
      )

-- whether a place has a word, by the area that it lies in
module _ (s : Inside) (i : HasAreas s) (m : Memory) (e : memory_of s ≡ m) (a : ℕ) where
  pub has-in-nursery : a < 4294967296 → covers (nursery_of s) a ≡ has m.blocks a
  has-in-nursery l =
      let h = has-below 4294967296 s.next_large a (arenas_of s ++ larges_of s) (rest-rises s i) l in
      let r : covers (nursery_of s) a ≡ has (memory_of s).blocks a = grind arith in
      r ∙ ap (λ (n : Memory). has n.blocks a) e

  pub has-in-arena : 4294967296 ≤ a → a < 1099511627776 → (n : ℕ) → n ≡ length (arenas_of s)
      → nat_lt ((a - 4294967296) / s.arena_words) n ≡ has m.blocks a
  has-in-arena l k n f =
      let c = covers-above (nursery_of s) a (omega (arith, l, i.nursery_ends)) in
      let b = has-below 1099511627776 s.next_large a (larges_of s) i.larges k in
      let g = has-append (arenas_of s) (larges_of s) a in
      let h = has-arenas 4294967296 s.arena_words a (arenas_of s) (nursery_of s) i.arenas i.arena_some l in
      let r : has (arenas_of s) a ≡ has (memory_of s).blocks a = grind arith in
      ap (nat_lt ((a - 4294967296) / s.arena_words)) f ∙ h ∙ r ∙ ap (λ (o : Memory). has o.blocks a) e

  pub has-in-large : 1099511627776 ≤ a → has (larges_of s) a ≡ has m.blocks a
  has-in-large l =
      let c = covers-above (nursery_of s) a (omega (arith, l, i.nursery_ends)) in
      let g = has-append (arenas_of s) (larges_of s) a in
      let b = has-above 4294967296 1099511627776 a (arenas_of s) (arenas-below s i) l in
      let r : has (larges_of s) a ≡ has (memory_of s).blocks a = grind arith in
      r ∙ ap (λ (o : Memory). has o.blocks a) e

-- blocks that lie behind the places of xs
with_run-above : (from end a : ℕ) (xs : List ℕ) (ps : List Placed) → RiseTo from ps end → a + length xs ≤ from
    → with_run ps a xs ≡ ps
with_run-above from end a xs [] r l = refl
with_run-above from end a xs (p ∷ ps) r l =
    let low : from ≤ p.base = r.0 in
    let here = overlaid-behind p.base p.words a xs (omega (arith, low, l)) in
    let rest = with_run-above (end_of p) end a xs ps r.1 (omega (arith, low, l)) in
    ap (λ (ws : List ℕ). record p { words = ws } ∷ with_run ps a xs) here ∙ ap (λ (qs : List Placed). p ∷ qs) rest

-- a run of words in the nursery
module _ (s : Inside) (i : HasAreas s) (m : Memory) (e : memory_of s ≡ m) (a n : ℕ) (z : 0 < n) (h : lies_in_one m.blocks a n ≡ true)
    (l : a < 4294967296) where
  first-lies : (1 ≤ a) × IsSeat m.blocks a 0 (a - 1)
  first-lies = at-nursery s i m e a (lies-has m.blocks a n z h) l

  run-ends : a + n ≤ end_of (nursery_of s)
  run-ends =
      let h' : lies_in_one (memory_of s).blocks a n ≡ true = subst (λ (o : Memory). lies_in_one o.blocks a n ≡ true) (sym e) h in
      let t = subst (λ (o : Memory). IsSeat o.blocks a 0 (a - 1)) (sym e) first-lies.1 in
      spans-here 1 s.next_large a n 0 (memory_of s).blocks (nursery_of s) (space-rises s i) t.inside z (t.covered (nursery_of s)) h'

  pub run-in-nursery : (1 ≤ a) × ((a - 1) + n ≤ length s.nursery)
  run-in-nursery = let k = first-lies.0 in (k, omega (arith, run-ends, k))

  pub nursery-run : (ws xs : List ℕ) → length xs ≡ n → ws ≡ with_words s.nursery (a - 1) xs
      → memory_of (record s { nursery = ws }) ≡ record m { blocks = with_run m.blocks a xs }
  nursery-run ws xs f g =
      let k = first-lies.0 in let back : (a - 1) + 1 ≡ a = omega (arith, k) in
      let own : overlaid 1 s.nursery a xs ≡ with_words s.nursery (a - 1) xs =
      ap (λ (b : ℕ). overlaid 1 s.nursery b xs) (sym back) ∙ overlaid-shift 0 s.nursery (a - 1) xs in
      let rest : with_run (arenas_of s ++ larges_of s) a xs ≡ arenas_of s ++ larges_of s =
      with_run-above 4294967296 s.next_large a xs (arenas_of s ++ larges_of s) (rest-rises s i) (omega (arith, run-ends, f, i.nursery_ends)) in
      let all : nursery_block ws ∷ (arenas_of s ++ larges_of s) ≡ with_run (memory_of s).blocks a xs =
      ap (λ (us : List ℕ). nursery_block us ∷ (arenas_of s ++ larges_of s)) (g ∙ sym own)
      ∙ ap (λ (ps : List Placed). nursery_block (overlaid 1 s.nursery a xs) ∷ ps) (sym rest) in
      ap (λ (bs : List Placed). record (memory_of s) { blocks = bs }) all
      ∙ ap (λ (o : Memory). record o { blocks = with_run o.blocks a xs }) e

-- other words of as many
pub nursery-areas : (s : Inside) → HasAreas s → (ws xs : List ℕ) (at : ℕ) → ws ≡ with_words s.nursery at xs
    → HasAreas (record s { nursery = ws })
nursery-areas s i ws xs at g =
    let long : length ws ≡ length s.nursery = ap length g ∙ length-overlaid 0 s.nursery at xs in
    record {
      nursery_some = rw long i.nursery_some;
      nursery_ends = rw long i.nursery_ends;
      arena_some = i.arena_some;
      arena_most = i.arena_most;
      arena_shift = i.arena_shift;
      arenas = i.arenas;
      arenas_end = i.arenas_end;
      larges = i.larges;
      large_small = i.large_small;
    }

-- the word of a seat, in the field that has it
module _ (s : Inside) (i : HasAreas s) (m : Memory) (e : memory_of s ≡ m) (a w o : ℕ) (t : IsSeat m.blocks a w o) where
  sits : IsSeat (memory_of s).blocks a w o
  sits = subst (λ (n : Memory). IsSeat n.blocks a w o) (sym e) t

  abbrev pub HasWord : Placed → Type 0
  HasWord p = (o < length p.words) × (slice_index p.words o ≡ word_at m.blocks a)

  at-block : (p : Placed) → get_or (memory_of s).blocks w p ≡ p → HasWord p
  at-block p f =
      let r = seat-word 1 s.next_large a w o (memory_of s).blocks p (space-rises s i) sits in
      subst HasWord f (r.0, r.1 ∙ ap (λ (n : Memory). word_at n.blocks a) e)

  arena-is : (x : Placed) → w ≢ 0 → w ≤ length (arenas_of s) → x ≡ get_or (arenas_of s) (w - 1) x
      → get_or (memory_of s).blocks w x ≡ x
  arena-is x z l f = at-left (nursery_of s) (arenas_of s) (larges_of s) w x z l ∙ sym f

  large-is : (x : Placed) (n : ℕ) → n ≡ length (arenas_of s) → n < w → x ≡ get_or (larges_of s) (w - 1 - n) x
      → get_or (memory_of s).blocks w x ≡ x
  large-is x n g l f =
      at-right (nursery_of s) (arenas_of s) (larges_of s) w x (omega (arith, g, l))
      ∙ ap (λ (k : ℕ). get_or (larges_of s) (w - 1 - k) x) (sym g) ∙ sym f

  pub word-nursery : w ≡ 0 → HasWord (nursery_of s)
  word-nursery z = at-block (nursery_of s) (ap (λ (k : ℕ). get_or (memory_of s).blocks k (nursery_of s)) z)

  pub word-arena : (x : Placed) → w ≢ 0 → w ≤ length (arenas_of s) → x ≡ get_or (arenas_of s) (w - 1) x → HasWord x
  word-arena x z l f = at-block x (arena-is x z l f)

  pub word-large : (x : Placed) (n : ℕ) → n ≡ length (arenas_of s) → n < w → x ≡ get_or (larges_of s) (w - 1 - n) x
      → HasWord x
  word-large x n g l f = at-block x (large-is x n g l f)

  -- a word is written to the block that has it
  module _ (v : ℕ) where
    abbrev pub Writes : Inside → Type 0
    Writes s' = memory_of s' ≡ record m { blocks = with_word m.blocks a v }

    abbrev with_word_of : Placed → Placed
    with_word_of p = record p { words = set p.words o v }

    blocks-set : (p : Placed) → get_or (memory_of s).blocks w p ≡ p
        → with_word (memory_of s).blocks a v ≡ set (memory_of s).blocks w (with_word_of p)
    blocks-set p f =
        with_word-index 1 s.next_large a v w (memory_of s).blocks p (space-rises s i) sits.inside (sits.covered p)
        ∙ ap (set (memory_of s).blocks w) (seat-written a w o v (memory_of s).blocks p sits ∙ ap with_word_of f)

    finish : (s' : Inside) → memory_of s' ≡ record (memory_of s) { blocks = with_word (memory_of s).blocks a v }
        → Writes s'
    finish s' f = f ∙ ap (λ (n : Memory). record n { blocks = with_word n.blocks a v }) e

    pub set-nursery : (ws : List ℕ) → w ≡ 0 → ws ≡ set s.nursery o v → Writes (record s { nursery = ws })
    set-nursery ws z f =
        let p = nursery_of s in
        let old = blocks-set p (ap (λ (k : ℕ). get_or (memory_of s).blocks k p) z) in
        let first = ap (λ (k : ℕ). set (memory_of s).blocks k (with_word_of p)) z in
        let new = ap (λ (us : List ℕ). nursery_block us ∷ (arenas_of s ++ larges_of s)) f in
        finish (record s { nursery = ws }) (ap (λ (bs : List Placed). record (memory_of s) { blocks = bs }) (new ∙ sym (old ∙ first)))

    pub set-arena : (x y : Placed) → w ≢ 0 → w ≤ length (arenas_of s) → x ≡ get_or (arenas_of s) (w - 1) x
        → y ≡ with_word_of x
        → HasAreas (record s { arenas = with_item s.arenas (w - 1) y }) × Writes (record s { arenas = with_item s.arenas (w - 1) y })
    set-arena x y z l f g =
        let k : ℕ = w - 1 in let s' = record s { arenas = with_item s.arenas k y } in
        let kl : k < length (arenas_of s) = omega (arith, z, l) in let is : w ≡ suc k = omega (arith, z) in
        let left : set (arenas_of s ++ larges_of s) k y ≡ set (arenas_of s) k y ++ larges_of s = set-append_left (arenas_of s) (larges_of s) k y kl in
        let all : nursery_of s ∷ (set (arenas_of s) k y ++ larges_of s) ≡ with_word (memory_of s).blocks a v =
        ap (λ (ps : List Placed). nursery_of s ∷ ps) (sym left) ∙ ap (set (memory_of s).blocks (suc k)) g
        ∙ sym (blocks-set x (arena-is x z l f) ∙ ap (λ (j : ℕ). set (memory_of s).blocks j (with_word_of x)) is) in
        let base : y.base ≡ (get_or (arenas_of s) k x).base = ap (λ (p : Placed). p.base) (g ∙ ap with_word_of f) in
        let long : length y.words ≡ length (get_or (arenas_of s) k x).words =
        ap (λ (p : Placed). length p.words) g ∙ length-set x.words o v ∙ ap (λ (p : Placed). length p.words) f in
        let count : length (set (arenas_of s) k y) ≡ length (arenas_of s) = length-set (arenas_of s) k y in (
          record {
            nursery_some = i.nursery_some;
            nursery_ends = i.nursery_ends;
            arena_some = i.arena_some;
            arena_most = i.arena_most;
            arena_shift = i.arena_shift;
            arenas = arenas-set 4294967296 s.arena_words k (arenas_of s) x y i.arenas kl base long;
            arenas_end = rw count i.arenas_end;
            larges = i.larges;
            large_small = i.large_small;
          },
          finish s' (ap (λ (j : ℕ). record (memory_of s') { next_arena = 4294967296 + j * s.arena_words }) count
              ∙ ap (λ (bs : List Placed). record (memory_of s) { blocks = bs }) all),
        )

    pub set-large : (x y : Placed) (c : ℕ) → c ≡ length (arenas_of s) → c < w → x ≡ get_or (larges_of s) (w - 1 - c) x
        → y ≡ with_word_of x
        → HasAreas (record s { larges = with_item s.larges (w - 1 - c) y }) × Writes (record s { larges = with_item s.larges (w - 1 - c) y })
    set-large x y c h l f g =
        let k : ℕ = w - 1 - c in let s' = record s { larges = with_item s.larges k y } in
        let b = sits.inside in let ab = length-append (arenas_of s) (larges_of s) in
        let kl : k < length (larges_of s) = omega (arith, l, h, ab, b) in
        let is : w ≡ suc (w - 1) = omega (arith, l) in
        let right : set (arenas_of s ++ larges_of s) (w - 1) y ≡ arenas_of s ++ set (larges_of s) k y =
        set-append_right (arenas_of s) (larges_of s) c (w - 1) y (sym h) (omega (arith, l)) in
        let all : nursery_of s ∷ (arenas_of s ++ set (larges_of s) k y) ≡ with_word (memory_of s).blocks a v =
        ap (λ (ps : List Placed). nursery_of s ∷ ps) (sym right) ∙ ap (set (memory_of s).blocks (suc (w - 1))) g
        ∙ sym (blocks-set x (large-is x c h l f) ∙ ap (λ (j : ℕ). set (memory_of s).blocks j (with_word_of x)) is) in
        let base : y.base ≡ (get_or (larges_of s) k x).base = ap (λ (p : Placed). p.base) (g ∙ ap with_word_of f) in
        let long : length y.words ≡ length (get_or (larges_of s) k x).words =
        ap (λ (p : Placed). length p.words) g ∙ length-set x.words o v ∙ ap (λ (p : Placed). length p.words) f in (
          record {
            nursery_some = i.nursery_some;
            nursery_ends = i.nursery_ends;
            arena_some = i.arena_some;
            arena_most = i.arena_most;
            arena_shift = i.arena_shift;
            arenas = i.arenas;
            arenas_end = i.arenas_end;
            larges = rise-set 1099511627776 s.next_large k (larges_of s) x y i.larges kl base (omega (arith, long));
            large_small = i.large_small;
          },
          finish s' (ap (λ (bs : List Placed). record (memory_of s) { blocks = bs }) all),
        )

-- a block is added
module _ (s : Inside) (i : HasAreas s) (x : Placed) where
  pub add-arena : (v : Vec Placed Global) → v.items ≡ arenas_of s ++ x ∷ []
      → x ≡ zeros_at (4294967296 + length (arenas_of s) * s.arena_words) s.arena_words
      → (4294967296 + length (arenas_of s) * s.arena_words) + s.arena_words ≤ 1099511627776
      → HasAreas (record s { arenas = v }) × (memory_of (record s { arenas = v }) ≡ with_arena (memory_of s))
  add-arena v f q l =
      let place : ℕ = 4294967296 + length (arenas_of s) * s.arena_words in
      let more : length v.items ≡ suc (length (arenas_of s)) = ap length f ∙ length-append (arenas_of s) (x ∷ []) ∙ omega arith in
      let next : 4294967296 + length v.items * s.arena_words ≡ place + s.arena_words =
      ap (λ (k : ℕ). 4294967296 + k * s.arena_words) more ∙ grind arith in
      let base : x.base ≡ place = ap (λ (p : Placed). p.base) q in
      let long : length x.words ≡ s.arena_words = ap (λ (p : Placed). length p.words) q ∙ length-replicate s.arena_words 0 in
      let left : RiseTo 1 (nursery_of s ∷ arenas_of s) place =
      (omega arith, rise-less (end_of (nursery_of s)) 4294967296 place (arenas_of s) i.nursery_ends (arenas-rise 4294967296 s.arena_words (arenas_of s) i.arenas)) in
      let put = with_block-between 1 place 1099511627776 s.next_large (nursery_of s ∷ arenas_of s) (larges_of s) x left
      (omega (arith, base)) (omega (arith, base, l, i.arena_some)) i.larges in
      let all : nursery_of s ∷ (v.items ++ larges_of s) ≡ with_block (memory_of s).blocks (zeros_at place s.arena_words) =
      ap (λ (ps : List Placed). nursery_of s ∷ (ps ++ larges_of s)) f
      ∙ ap (λ (ps : List Placed). nursery_of s ∷ ps) (append_assoc (arenas_of s) (x ∷ []) (larges_of s))
      ∙ sym put ∙ ap (with_block (memory_of s).blocks) q in (
        record {
          nursery_some = i.nursery_some;
          nursery_ends = i.nursery_ends;
          arena_some = i.arena_some;
          arena_most = i.arena_most;
          arena_shift = i.arena_shift;
          arenas = subst (AreArenas 4294967296 s.arena_words) (sym f) (arenas-append 4294967296 s.arena_words (arenas_of s) x i.arenas base long);
          arenas_end = omega (arith, next, l);
          larges = i.larges;
          large_small = i.large_small;
        },
        λ j. record { blocks = all j; arena_words = s.arena_words; next_arena = next j; next_large = s.next_large },
      )

  pub add-large : (v : Vec Placed Global) (n : ℕ) → v.items ≡ larges_of s ++ x ∷ [] → x ≡ zeros_at s.next_large n
      → s.next_large + n < 2 ^ 63
      → HasAreas (record s { larges = v; next_large = s.next_large + n })
      × (memory_of (record s { larges = v; next_large = s.next_large + n }) ≡ with_large (memory_of s) n)
  add-large v n f q l =
      let base : x.base ≡ s.next_large = ap (λ (p : Placed). p.base) q in
      let long : length x.words ≡ n = ap (λ (p : Placed). length p.words) q ∙ length-replicate n 0 in
      let after : ℕ = x.base + 1 in
      let put = with_block-between 1 s.next_large after after (memory_of s).blocks [] x (space-rises s i) (omega (arith, base)) (omega arith) (omega arith) in
      let last : RiseTo s.next_large (x ∷ []) (s.next_large + n) = (omega (arith, base), omega (arith, base, long)) in
      let all : nursery_of s ∷ (arenas_of s ++ v.items) ≡ with_block (memory_of s).blocks (zeros_at s.next_large n) =
      ap (λ (ps : List Placed). nursery_of s ∷ (arenas_of s ++ ps)) f
      ∙ sym (append_assoc (nursery_of s ∷ arenas_of s) (larges_of s) (x ∷ []))
      ∙ sym put ∙ ap (λ (ps : List Placed). with_block ps x) (append-nil (memory_of s).blocks)
      ∙ ap (with_block (memory_of s).blocks) q in (
        record {
          nursery_some = i.nursery_some;
          nursery_ends = i.nursery_ends;
          arena_some = i.arena_some;
          arena_most = i.arena_most;
          arena_shift = i.arena_shift;
          arenas = i.arenas;
          arenas_end = i.arenas_end;
          larges = subst (λ (ps : List Placed). RiseTo 1099511627776 ps (s.next_large + n)) (sym f)
              (rise-append 1099511627776 s.next_large (s.next_large + n) (larges_of s) (x ∷ []) i.larges last);
          large_small = l;
        },
        λ j. record { blocks = all j; arena_words = s.arena_words; next_arena = (memory_of s).next_arena; next_large = s.next_large + n },
      )

-- a large block is emptied
module _ (s : Inside) (i : HasAreas s) (m : Memory) (e : memory_of s ≡ m) (a : ℕ) (l : 1099511627776 ≤ a) (b : is_base m.blocks a ≡ true) where
  no-nursery : covers (nursery_of s) a ≡ false
  no-nursery = covers-above (nursery_of s) a (omega (arith, l, i.nursery_ends))

  no-arena : has (arenas_of s) a ≡ false
  no-arena = has-above 4294967296 1099511627776 a (arenas_of s) (arenas-below s i) l

  large-base : is_base (larges_of s) a ≡ true
  large-base =
      let h : is_base (memory_of s).blocks a ≡ true = subst (λ (n : Memory). is_base n.blocks a ≡ true) (sym e) b in
      let n = no-nursery in let k = no-arena in let g = is_base-append (arenas_of s) (larges_of s) a in
      let f = is_base-has (arenas_of s) a in let j : is_base (arenas_of s) a ≡ false = grind arith in grind arith

  pub base-held : (ls : List Placed) → ls ≡ larges_of s → has ls a ≡ true
  base-held ls f = ap (λ (ks : List Placed). has ks a) f ∙ is_base-has (larges_of s) a large-base

  pub empty-large : (ls : List Placed) (k : ℕ) → ls ≡ larges_of s → k < length ls
      → ((d : Placed) → covers (get_or ls k d) a ≡ true)
      → {x : Placed} → x ≡ get_or (larges_of s) k x → (y : Placed) → y ≡ record x { words = [] }
      → HasAreas (record s { larges = with_item s.larges k y }) × (memory_of (record s { larges = with_item s.larges k y }) ≡ with_emptied m a)
  empty-large ls k f h c {x} at y q =
      let h' = subst (λ (ks : List Placed). k < length ks) f h in
      let c' = subst (λ (ks : List Placed). (d : Placed) → covers (get_or ks k d) a ≡ true) f c in
      let base : y.base ≡ (get_or (larges_of s) k x).base = ap (λ (p : Placed). p.base) q ∙ ap (λ (p : Placed). p.base) at in
      let short : length y.words ≤ length (get_or (larges_of s) k x).words = omega (arith, ap (λ (p : Placed). length p.words) q) in
      let gone : map (emptied a) (larges_of s) ≡ set (larges_of s) k y =
      emptied-index 1099511627776 s.next_large a k (larges_of s) x i.larges h' (c' x) large-base
      ∙ ap (λ (p : Placed). set (larges_of s) k (record p { words = [] })) (sym at)
      ∙ ap (set (larges_of s) k) (sym q) in
      let all : nursery_of s ∷ (arenas_of s ++ set (larges_of s) k y) ≡ map (emptied a) (memory_of s).blocks =
      ap (λ (ps : List Placed). nursery_of s ∷ (arenas_of s ++ ps)) (sym gone)
      ∙ sym (emptied-behind (nursery_of s) (arenas_of s) (larges_of s) a no-nursery no-arena) in (
        record {
          nursery_some = i.nursery_some;
          nursery_ends = i.nursery_ends;
          arena_some = i.arena_some;
          arena_most = i.arena_most;
          arena_shift = i.arena_shift;
          arenas = i.arenas;
          arenas_end = i.arenas_end;
          larges = rise-set 1099511627776 s.next_large k (larges_of s) x y i.larges h' base short;
          large_small = i.large_small;
        },
        ap (λ (bs : List Placed). record (memory_of s) { blocks = bs }) all ∙ ap (λ (n : Memory). with_emptied n a) e,
      )

-- the emptied blocks go
pub keep-full : (s : Inside) → HasAreas s → (v : Vec Placed Global) → v.items ≡ full_blocks (larges_of s)
    → HasAreas (record s { larges = v }) × (seen (memory_of (record s { larges = v })) ≡ seen (memory_of s))
keep-full s i v f =
    let front : List Placed = nursery_of s ∷ arenas_of s in let back : List Placed = larges_of s in
    let all : full_blocks (front ++ v.items) ≡ full_blocks (front ++ back) =
    ap (λ (ps : List Placed). full_blocks (front ++ ps)) f ∙ full-append front (full_blocks back)
    ∙ ap (λ (ps : List Placed). full_blocks front ++ ps) (full-full back) ∙ sym (full-append front back) in (
      record {
        nursery_some = i.nursery_some;
        nursery_ends = i.nursery_ends;
        arena_some = i.arena_some;
        arena_most = i.arena_most;
        arena_shift = i.arena_shift;
        arenas = i.arenas;
        arenas_end = i.arenas_end;
        larges = subst (λ (ps : List Placed). RiseTo 1099511627776 ps s.next_large) (sym f) (rise-full 1099511627776 s.next_large back i.larges);
        large_small = i.large_small;
      },
      ap (λ (bs : List Placed). record (memory_of s) { blocks = bs }) all,
    )
