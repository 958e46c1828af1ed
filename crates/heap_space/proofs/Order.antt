-- Laws of memories whose blocks lie in order, for callers: that each call keeps the order, and what it does
-- to `has` and `word_at` then.
use Rattle.std.proofs.Common.{◌≡◌, ℕ, ◌+◌, ◌-◌, ◌<◌, ◌≤◌, true, false, ◌&&◌, ◌||◌, not, List, [], ◌∷◌, refl, sym, ap, ◌∙◌, arith, inl, inr}
use Rattle.std.proofs.lemmas.Bool.{cases_Bool}
use Rattle.std.proofs.lemmas.Bool.Decides.{nat_tests}
use Rattle.std.proofs.lemmas.List.{get_or-replicate}
use Rattle.heap_space.specs.Runs.{within}
use Rattle.heap_space.specs.Places.{Placed, covers, has, word_at, with_word, with_run, zeros_at, with_block, lies_in_one, is_base, length_at, without_block, begins}
use Rattle.heap_space.specs.Memory.{Memory, fresh_memory, with_arena, with_large, without_large}
use Rattle.heap_space.specs.Order.{IsInOrder}
use Rattle.heap_space.proofs.Blocks.{covers-inside, covers-above, length-zeros_at, has-with_word, has-with_run, has-with_block, is_base-with_block, length_at-with_block, word_at-with_block, word_at-new, word_at-none, is_base-has, length_at-new}
use Rattle.heap_space.proofs.Rising.{has-above, rise-with_word, rise-with_run, rise-without, has-without, word_at-kept}

-- each call keeps the order

pub ordered-fresh : (nursery arena_words : ℕ) → nursery ≤ 1048576 → 0 < arena_words → arena_words ≤ 16777219
    → IsInOrder (fresh_memory nursery arena_words)
ordered-fresh nursery arena_words l z m =
    let e = length-zeros_at 1 nursery in record {
      rises = (omega arith, omega (arith, e));
      free = λ b k h. let c = covers-above (zeros_at 1 nursery) b (omega (arith, e)) in grind arith;
      arenas_end = omega arith;
      arena_some = z;
      arena_most = m;
      large_above = omega arith;
      large_small = omega arith;
    }

pub ordered-with_word : (m : Memory) (a v : ℕ) → IsInOrder m
    → IsInOrder (record m { blocks = with_word m.blocks a v })
ordered-with_word m a v o = record {
  rises = rise-with_word 1 m.next_large a v m.blocks o.rises;
  free = λ b l h. has-with_word m.blocks a v b ∙ o.free b l h;
  arenas_end = o.arenas_end;
  arena_some = o.arena_some;
  arena_most = o.arena_most;
  large_above = o.large_above;
  large_small = o.large_small;
}

pub ordered-with_run : (m : Memory) (a : ℕ) (xs : List ℕ) → IsInOrder m
    → IsInOrder (record m { blocks = with_run m.blocks a xs })
ordered-with_run m a xs o = record {
  rises = rise-with_run 1 m.next_large a xs m.blocks o.rises;
  free = λ b l h. has-with_run m.blocks a xs b ∙ o.free b l h;
  arenas_end = o.arenas_end;
  arena_some = o.arena_some;
  arena_most = o.arena_most;
  large_above = o.large_above;
  large_small = o.large_small;
}

has-without_free : (ps : List Placed) (a b : ℕ) → has ps b ≡ false → has (without_block ps a) b ≡ false
has-without_free [] a b h = refl
has-without_free (p ∷ ps) a b h = grind (arith, has-without_free ps a b)

pub ordered-without_large : (m : Memory) (a : ℕ) → IsInOrder m → IsInOrder (without_large m a)
ordered-without_large m a o = record {
  rises = rise-without 1 m.next_large a m.blocks o.rises;
  free = λ b l h. has-without_free m.blocks a b (o.free b l h);
  arenas_end = o.arenas_end;
  arena_some = o.arena_some;
  arena_most = o.arena_most;
  large_above = o.large_above;
  large_small = o.large_small;
}

-- where the next blocks come, nothing lies yet

pub has-next_arena : (m : Memory) (b : ℕ) → IsInOrder (with_arena m) → IsInOrder m
    → within m.next_arena m.arena_words b ≡ true
    → has m.blocks b ≡ false
has-next_arena m b new o h = let e = new.arenas_end in o.free b (grind (arith, nat_tests)) (grind (arith, nat_tests))

pub has-next_large : (m : Memory) (b : ℕ) → IsInOrder m → m.next_large ≤ b → has m.blocks b ≡ false
has-next_large m b o l = has-above 1 m.next_large b m.blocks o.rises l

-- a new block: its places are there, with words of 0, and every other word is as it was

covers-zeros : (a n b : ℕ) → covers (zeros_at a n) b ≡ within a n b
covers-zeros a n b = let e = length-zeros_at a n in grind (arith, nat_tests)

pub has-with_arena : (m : Memory) (b : ℕ)
    → has (with_arena m).blocks b ≡ (within m.next_arena m.arena_words b || has m.blocks b)
has-with_arena m b =
    let q = zeros_at m.next_arena m.arena_words in let c = covers-zeros m.next_arena m.arena_words b in
    has-with_block m.blocks q b ∙ ap (λ t. t || has m.blocks b) c

pub has-with_large : (m : Memory) (n b : ℕ)
    → has (with_large m n).blocks b ≡ (within m.next_large n b || has m.blocks b)
has-with_large m n b =
    let q = zeros_at m.next_large n in let c = covers-zeros m.next_large n b in
    has-with_block m.blocks q b ∙ ap (λ t. t || has m.blocks b) c

-- a word of a new block is 0, and so is the word at a place with no block
word_at-zeros : (ps : List Placed) (a n b : ℕ) → (within a n b ≡ true → has ps b ≡ false)
    → word_at (with_block ps (zeros_at a n)) b ≡ word_at ps b
word_at-zeros ps a n b free = elim (cases_Bool (covers (zeros_at a n) b)) [
  | inl t ↦ (let none = free (sym (covers-zeros a n b) ∙ t) in let i = covers-inside (zeros_at a n) b t in
      let l : b - a < n = (let e = length-zeros_at a n in omega (arith, i.0, i.1)) in
      word_at-new ps (zeros_at a n) b t none ∙ get_or-replicate n (b - a) 0 0 l ∙ sym (word_at-none ps b none))
  | inr f ↦ word_at-with_block ps (zeros_at a n) b f
]

pub word_at-with_arena : (m : Memory) (b : ℕ) → IsInOrder (with_arena m) → IsInOrder m
    → word_at (with_arena m).blocks b ≡ word_at m.blocks b
word_at-with_arena m b new o = word_at-zeros m.blocks m.next_arena m.arena_words b (has-next_arena m b new o)

pub word_at-with_large : (m : Memory) (n b : ℕ) → IsInOrder m → word_at (with_large m n).blocks b ≡ word_at m.blocks b
word_at-with_large m n b o =
    word_at-zeros m.blocks m.next_large n b (λ h. has-next_large m b o (grind (arith, nat_tests)))

-- the block that was added begins at its place, with its length

begins-zeros : (a n : ℕ) → 0 < n → begins (zeros_at a n) a ≡ true
begins-zeros a n l = let e = length-zeros_at a n in grind (arith, nat_tests)

pub is_base-with_large : (m : Memory) (n : ℕ) → 0 < n → is_base (with_large m n).blocks m.next_large ≡ true
is_base-with_large m n l =
    let t = begins-zeros m.next_large n l in
    let e = is_base-with_block m.blocks (zeros_at m.next_large n) m.next_large in
    grind arith

pub length_at-with_large : (m : Memory) (n : ℕ) → IsInOrder m → 0 < n
    → length_at (with_large m n).blocks m.next_large ≡ n
length_at-with_large m n o l =
    let none = has-next_large m m.next_large o (omega arith) in let f = is_base-has m.blocks m.next_large in
    let no_base : is_base m.blocks m.next_large ≡ false = grind arith in
    length_at-new m.blocks (zeros_at m.next_large n) m.next_large (begins-zeros m.next_large n l) no_base
    ∙ length-zeros_at m.next_large n

-- every other large block still begins at its place

begins-later : (m : Memory) (n a : ℕ) → a < m.next_large → begins (zeros_at m.next_large n) a ≡ false
begins-later m n a l = grind (arith, nat_tests)

pub is_base-kept : (m : Memory) (n a : ℕ) → a < m.next_large → is_base (with_large m n).blocks a ≡ is_base m.blocks a
is_base-kept m n a l =
    let f = begins-later m n a l in is_base-with_block m.blocks (zeros_at m.next_large n) a ∙ rw f refl

pub length_at-kept : (m : Memory) (n a : ℕ) → a < m.next_large
    → length_at (with_large m n).blocks a ≡ length_at m.blocks a
length_at-kept m n a l = length_at-with_block m.blocks (zeros_at m.next_large n) a (begins-later m n a l)

-- a large block is dropped: its places are gone, and every other word is as it was

pub has-without_large : (m : Memory) (a b : ℕ) → IsInOrder m → is_base m.blocks a ≡ true
    → has (without_large m a).blocks b ≡ (has m.blocks b && not (within a (length_at m.blocks a) b))
has-without_large m a b o h = has-without 1 m.next_large a b m.blocks o.rises h

pub word_at-without_large : (m : Memory) (a b : ℕ) → IsInOrder m → has (without_large m a).blocks b ≡ true
    → word_at (without_large m a).blocks b ≡ word_at m.blocks b
word_at-without_large m a b o h = word_at-kept 1 m.next_large a b m.blocks o.rises h

-- the places of a block that begins at a
pub has-length_at : (ps : List Placed) (a j : ℕ) → is_base ps a ≡ true → j < length_at ps a → has ps (a + j) ≡ true
has-length_at [] a j h l = grind arith
has-length_at (p ∷ ps) a j h l = grind (arith, nat_tests, has-length_at ps a j)

pub lies-length_at : (ps : List Placed) (a j n : ℕ) → is_base ps a ≡ true → j + n ≤ length_at ps a
    → lies_in_one ps (a + j) n ≡ true
lies-length_at [] a j n h l = grind arith
lies-length_at (p ∷ ps) a j n h l = grind (arith, nat_tests, lies-length_at ps a j n)

-- what a caller uses that keeps the order of its blocks over several calls
pub ruleset orders = (ordered-with_word, ordered-with_run, ordered-without_large)
