-- Births of weak objects.
use Rattle.std.specs.Prelude.{◌≡◌, ℕ, Bool, true, false, [], ◌∷◌, ◌++◌}
use Rattle.type_table.specs.declared.info.Shape.TheVariants.{Weak}
use Rattle.type_table.specs.declared.info.TypeInfo.{TypeInfo}
use Rattle.type_table.specs.Words.{words_in}
use Rattle.nursery_gaps.specs.Nursery.{Fits}
use Rattle.parts_model.specs.Parts.{HeapParts}
use Rattle.parts_model.specs.Births.{HasNurseryRoom, HasOldRoom, BearsYoung, BearsOld}

-- the parts where one more place is listed as that of a weak object
abbrev pub with_listed : HeapParts → ℕ → HeapParts
with_listed heap place = record heap { weaks = heap.weaks ++ place ∷ [] }

-- a birth of a weak object can be tried in the nursery, and counted outside it
pub record HasWeakRoom (heap : HeapParts) (root : ℕ) (info : TypeInfo) : Type 0 where
  pub weak : info.shape ≡ Weak
  pub young : HasNurseryRoom heap root info 0
  pub old : HasOldRoom heap root info 0

-- a weak object is born in the nursery, and its place is listed
pub record BearsWeakYoung (old new : HeapParts) (root type_id : ℕ) (info : TypeInfo) (target : ℕ) : Type 0 where
  pub born : HeapParts
  pub bears : BearsYoung old born root type_id info 0 target
  pub is : new ≡ with_listed born bears.place

-- a weak object for which the nursery has no room is born outside it, and its place is listed
pub record BearsWeakOld (old new : HeapParts) (root type_id : ℕ) (info : TypeInfo) (target : ℕ) : Type 0 where
  pub full : (place : ℕ) → ¬ Fits old.nursery (words_in info.shape 0) place
  pub born : HeapParts
  pub bears : BearsOld old born root type_id info 0 target
  pub is : new ≡ with_listed born bears.place

-- a weak object is born, outside the nursery or in it
abbrev pub BearsWeak : Bool → HeapParts → HeapParts → ℕ → ℕ → TypeInfo → ℕ → Type 0
BearsWeak true old new root type_id info target = BearsWeakOld old new root type_id info target
BearsWeak false old new root type_id info target = BearsWeakYoung old new root type_id info target
