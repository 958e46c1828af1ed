-- An object is born.
use Rattle.std.specs.Prelude.{◌≡◌, ℕ, ◌+◌, ◌<◌, ◌≤◌, Bool, true, false, List, [], ◌∷◌, ◌++◌, Some, slice_set}
use Rattle.type_table.specs.declared.info.TypeInfo.{TypeInfo}
use Rattle.type_table.specs.Words.{words_in}
use Rattle.text_model.specs.declared.line.Line.{Line}
use Rattle.text_model.specs.declared.line.Line.TheVariants.{Born}
use Rattle.object_model.specs.Setup.{Setup, young_words}
use Rattle.object_model.specs.Newborn.{Request, newborn}
use Rattle.store_model.specs.Store.{Store}

-- the settled objects after a birth, in the old space or in the nursery
abbrev pub settled_with : Bool → List ℕ → ℕ → List ℕ
settled_with true settled birth = settled ++ birth ∷ []
settled_with false settled birth = settled

-- the fresh words after a birth of so many
abbrev pub fresh_with : Bool → ℕ → ℕ → ℕ
fresh_with true fresh words = fresh + words
fresh_with false fresh words = fresh

-- the store with a newborn object in the slot, which is settled from birth where it is old
abbrev pub with_birth : Bool → Store → TypeInfo → Request → Store
with_birth is_old store info request = record store {
  next = store.next + 1;
  kept = store.kept ++ newborn store.next info request ∷ [];
  slots = slice_set store.slots request.slot (Some store.next);
  settled = settled_with is_old store.settled store.next;
  fresh = fresh_with is_old store.fresh (words_in info.shape request.items);
}

-- An object of this type is born: old where it has more words than an object of the nursery may have, and otherwise
-- young, but in a gapped store, where it may be either.
pub record BirthOf (setup : Setup) (info : TypeInfo) (old : Store) (request : Request) (lines : List Line) (new : Store) : Type 0 where
  pub is_old : Bool
  pub large : young_words setup.settings < words_in info.shape request.items → is_old ≡ true
  pub small : words_in info.shape request.items ≤ young_words setup.settings → old.gapped ≡ false → is_old ≡ false
  pub printed : lines ≡ Born old.next is_old ∷ []
  pub leaves : new ≡ with_birth is_old old info request
