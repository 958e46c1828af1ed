-- What follows where checks refuse nothing.
use Rattle.std.proofs.Common.{◌≡◌, ℕ, ◌≤◌, Bool, true, false, cond, [], ◌∷◌, ◌++◌, Option, Some, None, refl}
use Rattle.std.specs.Prelude.{◌||◌}
use Rattle.std.proofs.lemmas.Bool.{ltb-false}
use Rattle.text_model.specs.declared.command.Command.TheVariants.{NewArray, CopyRefs}
use Rattle.text_model.specs.declared.item.Item.{Item}
use Rattle.text_model.specs.declared.item.Item.TheVariants.{Blank, Setting, TypeDef, Command as CommandItem}
use Rattle.text_model.specs.declared.item.Reason.{Reason}
use Rattle.text_model.specs.declared.item.Reason.TheVariants.{Range}
use Rattle.text_model.specs.Range.{is_above, is_above_ids, is_above_items}
use Rattle.store_model.specs.Checks.{Checks, first_reason}
use Rattle.store_model.specs.Look.{look}
use Rattle.store_model.specs.Progress.{Progress}
use Rattle.store_model.specs.Refusal.{checks_in_range, refusal, refusal_seen}

-- a check that does not refuse does not hold
pub passed : (b : Bool) (reason : Reason) (rest : Option Reason) → cond b (Some reason) rest ≡ None → (b ≡ false) × (rest ≡ None)
passed true reason rest e = cc
passed false reason rest e = (refl, e)

or_false : (a b : Bool) → (a || b) ≡ false → (a ≡ false) × (b ≡ false)
or_false true b e = absurd (let no : ⊥ = cc in no)
or_false false b e = (refl, e)

-- the ranges of a copy whose numbers are in range
pub copy_in_range : (root item from from_item count : ℕ) → is_above (CopyRefs root item from from_item count) ≡ false
    → (item ≤ 16777216) × (from_item ≤ 16777216) × (count ≤ 16777216)
unfolding is_above
copy_in_range root item from from_item count e =
    let a = (or_false (is_above_ids root) _ e).1 in
    let b = or_false (is_above_items item) _ a in
    let c = (or_false (is_above_ids from) _ b.1).1 in
    let d = or_false (is_above_items from_item) (is_above_items count) c in
    (ltb-false 16777216 item b.0, ltb-false 16777216 from_item d.0, ltb-false 16777216 count d.1)

-- what the checks in front refuse, all refuse
pub front_refuses : (checks more : Checks) (reason : Reason) → first_reason checks ≡ Some reason → first_reason (checks ++ more) ≡ Some reason
front_refuses [] more reason e = absurd (let no : ⊥ = cc in no)
front_refuses ((true, first) ∷ checks) more reason e = e
front_refuses ((false, first) ∷ checks) more reason e = front_refuses checks more reason e
