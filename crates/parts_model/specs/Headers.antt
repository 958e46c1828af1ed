-- The flags in the first words of blocks and of the objects of the nursery.
use Rattle.std.specs.Prelude.{◌≡◌, ℕ, Bool, true, false, nat_lt, List}
use Rattle.type_table.specs.declared.info.TypeInfo.{TypeInfo}
use Rattle.type_table.specs.declared.info.Shape.{Shape}
use Rattle.type_table.specs.declared.info.Shape.TheVariants.{Fixed, IntArray, RefArray, Weak}
use Rattle.type_table.specs.Table.{Table}
use Rattle.object_header.specs.Words.{IsHeader, has_flag}
use Rattle.object_header.specs.declared.flags.Flag.TheVariants.{Track, Visited, HasShadow, Pinned, HasCards, CardsSet, Free, Shadow, Order1, Order2}
use Rattle.text_model.specs.declared.line.Phase.{Phase}
use Rattle.text_model.specs.declared.line.Phase.TheVariants.{Scanning, Marking, Sweeping, Finalizing}
use Rattle.object_model.specs.Sets.{is_in}
use Rattle.object_model.specs.ObjectWords.{info_at, layout_at}
use Rattle.parts_model.specs.OldSpace.{is_waiting}

-- a header without the flags of free blocks, and of the pass that orders finalizers
pub record IsLiveHeader (word : ℕ) : Type 0 where
  pub header : IsHeader word
  pub not_free : has_flag word Free ≡ false
  pub not_order1 : has_flag word Order1 ≡ false
  pub not_order2 : has_flag word Order2 ≡ false

-- the first word of a settled object or of a husk: no reserved home, and nothing of the nursery
pub record IsSettledHeader (word : ℕ) : Type 0 where
  pub live : IsLiveHeader word
  pub not_shadow : has_flag word Shadow ≡ false
  pub not_has_shadow : has_flag word HasShadow ≡ false
  pub not_pinned : has_flag word Pinned ≡ false

-- the first word of a husk: it was not visited
pub record IsHuskHeader (word : ℕ) : Type 0 where
  pub settled : IsSettledHeader word
  pub not_visited : has_flag word Visited ≡ false

-- the first word of a reserved home
pub record IsShadowHeader (word : ℕ) : Type 0 where
  pub live : IsLiveHeader word
  pub shadow : has_flag word Shadow ≡ true
  pub not_visited : has_flag word Visited ≡ false

-- the first word of an object of the nursery: nothing but its type and the flags that tell of a home and of a pin
pub record IsYoungHeader (word : ℕ) : Type 0 where
  pub live : IsLiveHeader word
  pub not_shadow : has_flag word Shadow ≡ false
  pub not_track : has_flag word Track ≡ false
  pub not_visited : has_flag word Visited ≡ false
  pub not_has_cards : has_flag word HasCards ≡ false
  pub not_cards_set : has_flag word CardsSet ≡ false

-- whether a settled object carries the mark of this cycle
abbrev pub is_marked : Phase → List ℕ → (ℕ → ℕ) → ℕ → List ℕ → ℕ → Bool
is_marked Scanning visited name page waiting place = false
is_marked Marking visited name page waiting place = is_in (name place) visited
is_marked Sweeping visited name page waiting place = is_waiting page waiting place
is_marked Finalizing visited name page waiting place = false

-- whether objects of the shape with so many references keep cards
abbrev pub keeps_cards : ℕ → Shape → ℕ → Bool
keeps_cards card (Fixed ints refs) count = false
keeps_cards card IntArray count = false
keeps_cards card RefArray count = nat_lt card count
keeps_cards card Weak count = false

-- a settled object has the flag exactly where it keeps cards
abbrev pub IsCarded : Table TypeInfo → ℕ → (ℕ → ℕ) → ℕ → Type 0
IsCarded types card word place =
    has_flag (word place) HasCards ≡ keeps_cards card (info_at types word place).shape (layout_at types word place).ref_count
