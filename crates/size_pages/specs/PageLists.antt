-- The lists of pages, linked both ways through the words of their headers.
use Rattle.std.specs.Prelude.{◌≡◌, ◌≢◌, ℕ, ◌+◌, ◌*◌, ◌-◌, ◌<◌, ◌≤◌, ◌⊎◌, ◌==◌, List, [], ◌∷◌, length}
use Rattle.std.specs.Prelude.{slice_index, if◌then◌else◌}
use Rattle.size_pages.specs.PageWords.{Words}
use Rattle.size_pages.specs.PageHeader.{class_of, first_free, live_count, first_fresh, next_of, previous_of}
use Rattle.size_pages.specs.PageHeader.{kind_of, next_at, previous_at, kind_at}
use Rattle.size_pages.specs.Kinds.{kind_number}
use Rattle.size_pages.specs.declared.kinds.PageKind.TheVariants.{Unused, Room, Full, Waiting}
use Rattle.size_pages.specs.LiveBlocks.{page_at}

-- each of the places is so
abbrev pub EachPlace : (ℕ → Type 0) → List ℕ → Type 0
EachPlace P [] = Unit {0}
EachPlace P (x ∷ xs) = P x × EachPlace P xs

-- the place is one of them
abbrev pub IsIn : ℕ → List ℕ → Type 0
IsIn p [] = ⊥
IsIn p (x ∷ xs) = (p ≡ x) ⊎ IsIn p xs

-- no place comes twice
abbrev pub AreDistinct : List ℕ → Type 0
AreDistinct [] = Unit {0}
AreDistinct (x ∷ xs) = EachPlace (λ y. x ≢ y) xs × AreDistinct xs

-- the first of them, or 0
abbrev pub first_of_list : List ℕ → ℕ
first_of_list [] = 0
first_of_list (x ∷ xs) = x

-- the last of them, or what stood before
abbrev pub last_or : ℕ → List ℕ → ℕ
last_or before [] = before
last_or before (x ∷ xs) = last_or x xs

-- each page names the one before it and the one behind it
abbrev pub Linked : Words → ℕ → List ℕ → Type 0
Linked w before [] = Unit {0}
Linked w before (x ∷ xs) = (previous_of w x ≡ before) × (next_of w x ≡ first_of_list xs) × Linked w x xs

-- p is a page
pub record IsPage (size count p : ℕ) : Type 0 where
  pub number : ℕ
  pub below : number < count
  pub is : p ≡ page_at size number

-- the list of the pages of the kind with that number, as `list_index` has it: 0 for the unused ones, which are on none,
-- 1 for the waiting ones, and two of each class, for those with room and the full ones
abbrev pub list_number : ℕ → ℕ → ℕ
list_number kind class =
    if kind == kind_number Unused then 0 else (if kind == kind_number Waiting then 1 else 2 * class + (kind - 1))

-- the list of the page at p
abbrev pub list_of : Words → ℕ → ℕ
list_of w p = list_number (kind_of w p) (class_of w p)

-- the page has a free block, chained or never handed out
abbrev pub HasRoom : Words → ℕ → ℕ → Type 0
HasRoom w size p = (first_free w p ≢ 0) ⊎ (first_fresh w p + class_of w p ≤ p + size)

-- the page's words allow it to be of the kind with that number
pub record IsRight (kind : ℕ) (w : Words) (size p : ℕ) : Type 0 where
  pub known : kind ≤ kind_number Waiting
  pub unused : kind ≡ kind_number Unused → class_of w p ≡ 0
  pub used : kind ≢ kind_number Unused → 2 ≤ class_of w p
  pub room : kind ≡ kind_number Room → HasRoom w size p
  pub full : kind ≡ kind_number Full → (first_free w p ≡ 0) × (p + size < first_fresh w p + class_of w p)
  pub busy : kind ≡ kind_number Room → 0 < live_count w p

-- the page is on the list that its words call for
abbrev pub IsListedRightly : Words → ℕ → ℕ → Type 0
IsListedRightly w size p = IsRight (kind_of w p) w size p

-- every page in use but `except` is on its list, and on no other
pub record ListsFit (w : Words) (size count : ℕ) (heads : List ℕ) (waiting : List ℕ) (except : ℕ) : Type 0 where
  pub lists : ℕ → List ℕ
  pub none : lists 0 ≡ []
  pub waits : lists 1 ≡ waiting
  pub heads_are : (s : ℕ) → slice_index heads s ≡ first_of_list (lists s)
  pub linked : (s : ℕ) → Linked w 0 (lists s)
  pub distinct : (s : ℕ) → AreDistinct (lists s)
  pub pages : (s : ℕ) → EachPlace (IsPage size count) (lists s)
  pub right : (s : ℕ) → EachPlace (λ p. (list_of w p ≡ s) × (p ≢ except)) (lists s)
  pub listed : (k : ℕ) → k < count → class_of w (page_at size k) ≢ 0 → page_at size k ≢ except
      → IsIn (page_at size k) (lists (list_of w (page_at size k)))
  pub rightly : (k : ℕ) → k < count → page_at size k ≢ except → IsListedRightly w size (page_at size k)

-- the page is taken off the list s
pub record Unlinks (old new : Words) (heads after : List ℕ) (p s : ℕ) : Type 0 where
  pub same_size : length after ≡ length heads
  pub first : previous_of old p ≡ 0 → slice_index after s ≡ next_of old p
  pub not_first : previous_of old p ≢ 0 → slice_index after s ≡ slice_index heads s
  pub others : (t : ℕ) → t ≢ s → slice_index after t ≡ slice_index heads t
  pub forth : previous_of old p ≢ 0 → next_of new (previous_of old p) ≡ next_of old p
  pub back : next_of old p ≢ 0 → previous_of new (next_of old p) ≡ previous_of old p
  pub rest : (e : ℕ) → e ≢ next_at (previous_of old p) → e ≢ previous_at (next_of old p) → new e ≡ old e

-- the page is put in front of the list s, as a page of this kind
pub record Links (old new : Words) (heads after : List ℕ) (p s kind : ℕ) : Type 0 where
  pub same_size : length after ≡ length heads
  pub first : slice_index after s ≡ p
  pub others : (t : ℕ) → t ≢ s → slice_index after t ≡ slice_index heads t
  pub next : next_of new p ≡ slice_index heads s
  pub before : previous_of new p ≡ 0
  pub kind_is : kind_of new p ≡ kind
  pub back : slice_index heads s ≢ 0 → previous_of new (slice_index heads s) ≡ p
  pub rest : (e : ℕ) → e ≢ next_at p → e ≢ previous_at p → e ≢ kind_at p → e ≢ previous_at (slice_index heads s)
      → new e ≡ old e

-- the words that tell whether a page has room
pub record SameSigns (old new : Words) (p : ℕ) : Type 0 where
  pub class : class_of new p ≡ class_of old p
  pub chain : first_free new p ≡ first_free old p
  pub count : live_count new p ≡ live_count old p
  pub fresh : first_fresh new p ≡ first_fresh old p
  pub kind : kind_of new p ≡ kind_of old p
