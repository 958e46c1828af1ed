-- Where a word of an arena or of a large block stands in the fields of `Areas`, by what the code finds.
use Rattle.std.proofs.Common.{◌≡◌, ◌≢◌, ℕ, ◌+◌, ◌-◌, ◌*◌, ◌/◌, ◌%◌, ◌<◌, ◌≤◌, true, List, length, set, get_or, refl, sym, ap, ◌∙◌, subst, arith}
use Rattle.std.proofs.Math.Nat.{div-add-mod}
use Rattle.std.proofs.lemmas.Bool.Decides.{nat_tests}
use Rattle.std.specs.Prelude.{slice_index, nat_lt}
use Rattle.std.specs.Vec.{with_item}
use Rattle.heap_space.specs.declared.areas.Areas.TheInside.{Inside}
use Rattle.heap_space.specs.Places.{Placed, covers, has, word_at, with_word}
use Rattle.heap_space.specs.Memory.{Memory}
use Rattle.heap_space.specs.Seats.{IsSeat}
use Rattle.heap_space.specs.Areas.{memory_of, HasAreas}
use Rattle.heap_space.proofs.Fields.{at-arena, at-large, has-in-arena, word-arena, word-large, set-arena, set-large}

-- what is left of a distance behind whole arenas
rest_of : (n d k : ℕ) → k ≡ n / d → n - k * d ≡ n % d
rest_of n d k e =
    let whole : d * (n / d) + n % d ≡ n = div-add-mod n d in let turned : d * (n / d) ≡ (n / d) * d = grind arith in
    ap (λ (j : ℕ). n - j * d) e ∙ omega (arith, whole, turned)

arena_offset : (ps : List Placed) (a n d k : ℕ) → k ≡ n / d → IsSeat ps a (n / d + 1) (n % d) → IsSeat ps a (k + 1) (n - k * d)
arena_offset ps a n d k e t =
    subst (λ (o : ℕ). IsSeat ps a (k + 1) o) (sym (rest_of n d k e)) (subst (λ (j : ℕ). IsSeat ps a (j + 1) (n % d)) (sym e) t)

-- a place of the arenas, and the number of its arena
module _ (s : Inside) (i : HasAreas s) (m : Memory) (e : memory_of s ≡ m) (a : ℕ) (h : has m.blocks a ≡ true)
    (low : 4294967296 ≤ a) (high : a < 1099511627776) (k : ℕ) (is : k ≡ (a - 4294967296) / m.arena_words) where
  number : k ≡ (a - 4294967296) / s.arena_words
  number = is ∙ ap (λ (o : Memory). (a - 4294967296) / o.arena_words) (sym e)

  abbrev offset : ℕ
  offset = (a - 4294967296) - k * s.arena_words

  pub arena_seat : IsSeat m.blocks a (k + 1) offset
  arena_seat = arena_offset m.blocks a (a - 4294967296) s.arena_words k number (at-arena s i m e a h low high)

  pub arena_within : k < length s.arenas.items
  arena_within =
      let there : nat_lt ((a - 4294967296) / s.arena_words) (length s.arenas.items) ≡ true =
      has-in-arena s i m e a low high (length s.arenas.items) refl ∙ h in
      let short : (a - 4294967296) / s.arena_words < length s.arenas.items = grind (arith, nat_tests) in
      subst (λ (j : ℕ). j < length s.arenas.items) (sym number) short

  back : (k + 1) - 1 ≡ k
  back = omega arith

  one : k + 1 ≢ 0
  one z = absurd (omega (arith, z))

  up : k + 1 ≤ length s.arenas.items
  up = omega (arith, arena_within)

  moved : (x : Placed) → x ≡ get_or s.arenas.items k x → x ≡ get_or s.arenas.items ((k + 1) - 1) x
  moved x at = at ∙ ap (λ (j : ℕ). get_or s.arenas.items j x) (sym back)

  pub arena_word : (x : Placed) → x ≡ get_or s.arenas.items k x
      → (offset < length x.words) × (slice_index x.words offset ≡ word_at m.blocks a)
  arena_word x at = word-arena s i m e a (k + 1) offset arena_seat x one up (moved x at)

  pub arena_written : (v : ℕ) (x y : Placed) → x ≡ get_or s.arenas.items k x → y ≡ record x { words = set x.words offset v }
      → HasAreas (record s { arenas = with_item s.arenas k y })
      × (memory_of (record s { arenas = with_item s.arenas k y }) ≡ record m { blocks = with_word m.blocks a v })
  arena_written v x y at written =
      subst (λ (j : ℕ). HasAreas (record s { arenas = with_item s.arenas j y })
      × (memory_of (record s { arenas = with_item s.arenas j y }) ≡ record m { blocks = with_word m.blocks a v })) back
      (set-arena s i m e a (k + 1) offset arena_seat v x y one up (moved x at) written)

-- a place of the large blocks, and the number of its block
module _ (s : Inside) (i : HasAreas s) (m : Memory) (e : memory_of s ≡ m) (a : ℕ) (h : has m.blocks a ≡ true)
    (ls : List Placed) (same : ls ≡ s.larges.items) (k : ℕ) (inside : k < length ls)
    (found : (d : Placed) → covers (get_or ls k d) a ≡ true) (x : Placed) (at : x ≡ get_or s.larges.items k x) where
  there : (x.base ≤ a) × IsSeat m.blocks a (length s.arenas.items + k + 1) (a - x.base)
  there = at-large s i m e a h ls same k (length s.arenas.items) x refl inside at found

  pub large_begins : x.base ≤ a
  large_begins = there.0

  behind : length s.arenas.items < length s.arenas.items + k + 1
  behind = omega arith

  alone : (length s.arenas.items + k + 1) - 1 - length s.arenas.items ≡ k
  alone = omega arith

  held : x ≡ get_or s.larges.items ((length s.arenas.items + k + 1) - 1 - length s.arenas.items) x
  held = at ∙ ap (λ (j : ℕ). get_or s.larges.items j x) (sym alone)

  pub large_word : (a - x.base < length x.words) × (slice_index x.words (a - x.base) ≡ word_at m.blocks a)
  large_word =
      word-large s i m e a (length s.arenas.items + k + 1) (a - x.base) there.1 x (length s.arenas.items) refl behind held

  pub large_written : (v : ℕ) (y : Placed) → y ≡ record x { words = set x.words (a - x.base) v }
      → HasAreas (record s { larges = with_item s.larges k y })
      × (memory_of (record s { larges = with_item s.larges k y }) ≡ record m { blocks = with_word m.blocks a v })
  large_written v y written =
      subst (λ (j : ℕ). HasAreas (record s { larges = with_item s.larges j y })
      × (memory_of (record s { larges = with_item s.larges j y }) ≡ record m { blocks = with_word m.blocks a v })) alone
      (set-large s i m e a (length s.arenas.items + k + 1) (a - x.base) there.1 v x y (length s.arenas.items) refl behind held written)
