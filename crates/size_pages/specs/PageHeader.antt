-- The eight words of a page's header, each by its place and by what it says. Behind them come the blocks.
use Rattle.std.specs.Prelude.{ℕ, ◌+◌}
use Rattle.heap_space.specs.Memory.{Memory}
use Rattle.size_pages.specs.PageWords.{Words, HasAll}

-- word 1 of the page at p
abbrev pub first_free_at : ℕ → ℕ
first_free_at p = p + 1

-- word 2
abbrev pub live_count_at : ℕ → ℕ
live_count_at p = p + 2

-- word 3
abbrev pub first_fresh_at : ℕ → ℕ
first_fresh_at p = p + 3

-- word 4
abbrev pub next_at : ℕ → ℕ
next_at p = p + 4

-- word 5
abbrev pub previous_at : ℕ → ℕ
previous_at p = p + 5

-- word 6
abbrev pub kind_at : ℕ → ℕ
kind_at p = p + 6

-- word 7, which is always 0
abbrev pub spare_at : ℕ → ℕ
spare_at p = p + 7

-- where the first block of the page at p begins, behind the header
abbrev pub blocks_at : ℕ → ℕ
blocks_at p = p + 8

-- the words of a block of the page at p, or 0 where it is unused
abbrev pub class_of : Words → ℕ → ℕ
class_of w p = w p

-- the first free block of its chain, or 0
abbrev pub first_free : Words → ℕ → ℕ
first_free w p = w (first_free_at p)

-- how many of its blocks are live
abbrev pub live_count : Words → ℕ → ℕ
live_count w p = w (live_count_at p)

-- its first word that was never handed out
abbrev pub first_fresh : Words → ℕ → ℕ
first_fresh w p = w (first_fresh_at p)

-- the page behind it on its list, or 0
abbrev pub next_of : Words → ℕ → ℕ
next_of w p = w (next_at p)

-- the page before it on its list, or 0
abbrev pub previous_of : Words → ℕ → ℕ
previous_of w p = w (previous_at p)

-- of which kind it is, and so on which list
abbrev pub kind_of : Words → ℕ → ℕ
kind_of w p = w (kind_at p)

-- where the word of a free block stands that names the next one
abbrev pub link_at : ℕ → ℕ
link_at block = block + 1

-- the free block behind the one at `block`, or 0
abbrev pub next_free : Words → ℕ → ℕ
next_free w block = w (link_at block)

-- the words of the header of the page at p are there
abbrev pub HasPageHeader : Memory → ℕ → Type 0
HasPageHeader m p = HasAll m p (blocks_at p)
