-- Objects as they are born.
use Rattle.std.specs.Prelude.{ℕ, Option}
use Rattle.type_table.specs.declared.info.TypeInfo.{TypeInfo}
use Rattle.object_model.specs.Object.{Object, new_ints, new_refs}

-- what an allocating command asks for: an object of a type with so many items, for a slot
pub record Request : Type 0 where
  pub slot : ℕ
  pub type_id : ℕ
  pub items : ℕ
  pub target : Option ℕ

-- an object as it is born
abbrev pub newborn : ℕ → TypeInfo → Request → Object
newborn birth info request = record {
  birth = birth;
  type_id = request.type_id;
  info = info;
  ints = new_ints info.shape request.items;
  refs = new_refs info.shape request.items;
  target = request.target;
}
