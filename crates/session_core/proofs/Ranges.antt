-- Settings stay in their ranges when one is set in its range.
use Rattle.std.proofs.Common.{◌≡◌, ◌≤◌, ℕ, zero, suc, false, List, [], ◌∷◌, refl, sym, subst}
use Rattle.std.specs.Prelude.{slice_get, slice_set, nat_lt, ◌||◌, Bool, true}
use Rattle.std.proofs.lemmas.Bool.{ltb-false}
use Rattle.object_model.specs.declared.settings.Settings.{Settings}
use Rattle.object_model.specs.SettingRanges.{AreWithin, AreInRange, values_of, ranges, is_outside}
use Rattle.store_model.specs.Progress.{with_setting}

or_false : (a b : Bool) → (a || b) ≡ false → (a ≡ false) × (b ≡ false)
or_false true b e = absurd (let no : ⊥ = cc in no)
or_false false b e = (refl, e)

-- one value among others is replaced by one in its range
within-set : (limits : List (ℕ × ℕ)) (values : List ℕ) (name value : ℕ) → AreWithin limits values → is_outside (slice_get limits name) value ≡ false
    → AreWithin limits (slice_set values name value)
within-set [] values name value within inside = tt
within-set (limit ∷ limits) [] name value within inside = within
within-set (limit ∷ limits) (v ∷ values) zero value within inside =
    let both = or_false (nat_lt value limit.0) (nat_lt limit.1 value) inside in
    (ltb-false value limit.0 both.0, ltb-false limit.1 value both.1, within.2)
within-set (limit ∷ limits) (v ∷ values) (suc name) value within inside = (within.0, within.1, within-set limits values name value within.2 inside)

-- a setting that is set is one value replaced
set-value : (settings : Settings) (name value : ℕ) → is_outside (slice_get ranges name) value ≡ false
    → values_of (with_setting settings name value) ≡ slice_set (values_of settings) name value
set-value settings zero value inside = refl
set-value settings (suc zero) value inside = refl
set-value settings (suc (suc zero)) value inside = refl
set-value settings (suc (suc (suc zero))) value inside = refl
set-value settings (suc (suc (suc (suc zero)))) value inside = refl
set-value settings (suc (suc (suc (suc (suc zero))))) value inside = refl
set-value settings (suc (suc (suc (suc (suc (suc zero)))))) value inside = refl
set-value settings (suc (suc (suc (suc (suc (suc (suc zero))))))) value inside = refl
set-value settings (suc (suc (suc (suc (suc (suc (suc (suc zero)))))))) value inside = refl
set-value settings (suc (suc (suc (suc (suc (suc (suc (suc (suc zero))))))))) value inside = refl
set-value settings (suc (suc (suc (suc (suc (suc (suc (suc (suc (suc zero)))))))))) value inside = refl
set-value settings (suc (suc (suc (suc (suc (suc (suc (suc (suc (suc (suc zero))))))))))) value inside = refl
set-value settings (suc (suc (suc (suc (suc (suc (suc (suc (suc (suc (suc (suc zero)))))))))))) value inside = refl
set-value settings (suc (suc (suc (suc (suc (suc (suc (suc (suc (suc (suc (suc (suc name))))))))))))) value inside =
    absurd (let no : ⊥ = cc in no)

pub setting_in_range : (settings : Settings) (name value : ℕ) → AreInRange settings → is_outside (slice_get ranges name) value ≡ false
    → AreInRange (with_setting settings name value)
setting_in_range settings name value within inside =
    subst (AreWithin ranges) (sym (set-value settings name value inside)) (within-set ranges (values_of settings) name value within inside)

-- the greatest nursery, and the greatest limit
pub few_words : (settings : Settings) → AreInRange settings → (settings.nursery ≤ 1048576) × (settings.limit ≤ 16777216)
few_words settings within = (within.1, within.2.2.1)
