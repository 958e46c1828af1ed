-- The kinds of pages. Each has a number in the header, and a list in `heads`.
use Rattle.std.specs.Prelude.{ℕ, ◌+◌, ◌*◌, ◌≤◌}
use Rattle.heap_space.specs.Memory.{Memory}
use Rattle.size_pages.specs.PageWords.{word_in, CanStore}
use Rattle.size_pages.specs.PageHeader.{kind_of, kind_at}
use Rattle.size_pages.specs.declared.kinds.PageKind.{PageKind}
use Rattle.size_pages.specs.declared.kinds.PageKind.TheVariants.{Unused, Room, Full, Waiting}

-- the number in the header of a page of this kind
abbrev pub kind_number : PageKind → ℕ
kind_number Unused = 0
kind_number Room = 1
kind_number Full = 2
kind_number Waiting = 3

-- the list of the pages of this kind with blocks of so many words. Unused pages are on none, and list 0 stays empty
abbrev pub list_index : PageKind → ℕ → ℕ
list_index Unused class = 0
list_index Room class = 2 * class
list_index Full class = 2 * class + 1
list_index Waiting class = 1

-- the header of the page at p names a kind
abbrev pub HasKind : Memory → ℕ → Type 0
HasKind m p = CanStore m (kind_at p) × (kind_of (word_in m) p ≤ kind_number Waiting)
