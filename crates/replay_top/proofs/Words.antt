-- Words are one command at most.
use Rattle.std.proofs.Common.{◌≡◌, ℕ, List, [], ◌∷◌, Some, None, true, false, refl, inl, inr}
use Rattle.std.specs.Prelude.{codes, bytes_eq, ◌==◌}
use Rattle.std.proofs.lemmas.Bool.{cases_Bool, and_parts, eqb-true}
use Rattle.replay_top.specs.Top.{named, replayed, converted, benched}

not_both : (word : List ℕ) → bytes_eq word (codes "replay") ≡ true → bytes_eq word (codes "convert") ≡ false
not_both [] is = refl
not_both (w ∷ word) is =
    let parts = and_parts (w == 114) (bytes_eq word (codes "eplay")) is in
    let first : w ≡ 114 = eqb-true w 114 parts.0 in
    rw first refl

-- words that ask for a replay ask for no conversion
pub one_command : (words : List (List ℕ)) (name : List ℕ) → Some name ≡ replayed words → converted words ≡ None
one_command [] name is = refl
one_command (word ∷ []) name is = refl
one_command (word ∷ file ∷ []) name is =
    elim (cases_Bool (bytes_eq word (codes "replay"))) [
      | inl replay ↦ rw (not_both word replay) refl
      | inr other ↦ cc (rw other at is)
    ]
one_command (word ∷ file ∷ more ∷ words) name is = refl

-- words that ask for a file ask for no generated script
pub two_words : (command : List ℕ) (words : List (List ℕ)) (name : List ℕ) → Some name ≡ named command words → benched words ≡ None
two_words command [] name is = refl
two_words command (word ∷ []) name is = refl
two_words command (word ∷ file ∷ []) name is = refl
two_words command (word ∷ file ∷ more ∷ words) name is = absurd (let no : ⊥ = cc in no)

-- and the other way round
pub three_words : (command : List ℕ) (words : List (List ℕ)) (asked : ℕ × ℕ) → Some asked ≡ benched words → named command words ≡ None
three_words command [] asked is = refl
three_words command (word ∷ []) asked is = refl
three_words command (word ∷ file ∷ []) asked is = absurd (let no : ⊥ = cc in no)
three_words command (word ∷ file ∷ more ∷ words) asked is = refl
