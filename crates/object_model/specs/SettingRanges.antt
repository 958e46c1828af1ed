-- The ranges of the settings.
use Rattle.std.specs.Prelude.{ℕ, ◌≤◌, Bool, true, ◌||◌, nat_lt, List, [], ◌∷◌, Option, Some, None}
use Rattle.object_model.specs.declared.settings.Settings.{Settings}

-- the least and the greatest value of each setting, in their order
abbrev pub ranges : List (ℕ × ℕ)
ranges =
    (16, 1048576) ∷ (8, 1048576) ∷ (64, 16777216) ∷ (1, 1048576) ∷ (1, 16777216) ∷ (1, 65536) ∷ (0, 1024) ∷ (64, 8192) ∷ (1, 1024)
    ∷ (2, 4096) ∷ (1, 65536) ∷ (1, 65536) ∷ (1, 256) ∷ []

-- whether the value lies outside the range, if there is one
abbrev pub is_outside : Option (ℕ × ℕ) → ℕ → Bool
is_outside None value = true
is_outside (Some range) value = nat_lt value range.0 || nat_lt range.1 value

-- each value lies in its range
abbrev pub AreWithin : List (ℕ × ℕ) → List ℕ → Type 0
AreWithin [] values = Unit {0}
AreWithin (range ∷ ranges) [] = ⊥
AreWithin (range ∷ ranges) (value ∷ values) = (range.0 ≤ value) × (value ≤ range.1) × AreWithin ranges values

-- the values of the settings, in their order
abbrev pub values_of : Settings → List ℕ
values_of settings =
    settings.nursery ∷ settings.young ∷ settings.limit ∷ settings.increment ∷ settings.minimum ∷ settings.sweep ∷ settings.pins ∷ settings.page
    ∷ settings.arena ∷ settings.small ∷ settings.card ∷ settings.roots ∷ settings.queues ∷ []

-- each setting lies in its range
abbrev pub AreInRange : Settings → Type 0
AreInRange settings = AreWithin ranges (values_of settings)
