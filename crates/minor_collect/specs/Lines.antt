-- What the code tells of a minor collection where nothing is owed any more: what is gone, and which targets are.
use Rattle.std.specs.Prelude.{◌≡◌, ◌≢◌, ℕ, ◌+◌, Bool, false, not, ◌&&◌, ◌==◌, IsTrue, List, map, filter, if◌then◌else◌}
use Rattle.std.specs.List.Sorted.{IsPermutation}
use Rattle.type_table.specs.declared.info.TypeInfo.{TypeInfo}
use Rattle.type_table.specs.Table.{Table}
use Rattle.object_view.specs.Moving.{place_now}
use Rattle.object_model.specs.Sets.{is_in, AreDifferent}
use Rattle.object_model.specs.ObjectWords.{info_at, layout_at}
use Rattle.heap_parts.specs.Places.{RiseBetween}
use Rattle.minor_collect.specs.Midway.{is_lasting}

-- where the weak objects are that stay
abbrev pub weaks_left : (ℕ → ℕ) → List ℕ → List ℕ → List ℕ
weaks_left word pins weaks = filter (λ p. is_lasting pins p) (map (place_now word) weaks)

-- whether a pointer leads to what is gone
abbrev pub is_gone_pointer : (ℕ → ℕ) → List ℕ → ℕ → Bool
is_gone_pointer word pins x = not (x == 0) && not (is_lasting pins (place_now word x))

-- whether the target of the weak object at a place is gone
abbrev pub loses_target : Table TypeInfo → (ℕ → ℕ) → List ℕ → ℕ → Bool
loses_target types word pins p = is_gone_pointer word pins (word (layout_at types word p).ref_start)

-- dead: the places of what is gone; cleared and destroyed: births that are printed
pub record TellsLoss (types : Table TypeInfo) (word : ℕ → ℕ) (pins places weaks : List ℕ) (next : ℕ) (dead cleared destroyed : List ℕ) : Type 0 where
  pub once : AreDifferent dead
  pub just : (p : ℕ) → IsTrue (is_in p dead) → IsTrue (is_in p places) × (is_lasting pins p ≡ false)
  pub all : (p : ℕ) → IsTrue (is_in p places) → is_lasting pins p ≡ false → IsTrue (is_in p dead)
  pub destroyed_rise : RiseBetween 1 destroyed next
  pub destroyed_are : IsPermutation (map (λ p. word (p + 1)) (filter (λ p. (info_at types word p).destructor) dead)) destroyed
  pub cleared_rise : RiseBetween 1 cleared next
  pub cleared_are : IsPermutation (map (λ p. word (p + 1)) (filter (loses_target types word pins) (weaks_left word pins weaks))) cleared

-- What the pass over the weak objects leaves: they stand where they are now, and each target follows, or is nil where it is gone.
pub record ClearsWeaks (types : Table TypeInfo) (after word : ℕ → ℕ) (pins weaks left : List ℕ) : Type 0 where
  pub left_are : left ≡ weaks_left word pins weaks
  pub written : (p : ℕ) → IsTrue (is_in p left) → after (layout_at types word p).ref_start
      ≡ (if is_gone_pointer word pins (word (layout_at types word p).ref_start) then 0 else place_now word (word (layout_at types word p).ref_start))
  pub elsewhere : (b : ℕ) → ((p : ℕ) → IsTrue (is_in p left) → b ≢ (layout_at types word p).ref_start) → after b ≡ word b
