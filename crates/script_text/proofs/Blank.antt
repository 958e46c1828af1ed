-- Lines that are blank, and lines that are not.
use Rattle.std.proofs.Common.{◌≡◌, ℕ, ◌<◌, false, List, [], ◌∷◌, length, get_or, Ok, refl, arith}
use Rattle.std.specs.Prelude.{◌==◌}
use Rattle.text_model.specs.declared.item.Item.TheVariants.{Blank}
use Rattle.text_model.specs.Numbers.{words_of}
use Rattle.text_model.specs.Grammar.{item_of, form_of}

pub item_of-blank : (line : List ℕ) → length line ≡ 0 → item_of line ≡ Ok Blank
unfolding item_of
item_of-blank [] e = refl
item_of-blank (b ∷ bytes) e = absurd (omega arith)

pub item_of-comment : (line : List ℕ) → 0 < length line → get_or line 0 0 ≡ 35 → item_of line ≡ Ok Blank
unfolding item_of
item_of-comment [] some e = absurd (omega arith)
item_of-comment (b ∷ bytes) some e = rw e refl

pub item_of-form : (line : List ℕ) → 0 < length line → (get_or line 0 0 == 35) ≡ false → item_of line ≡ form_of (words_of line)
unfolding item_of
item_of-form [] some e = absurd (omega arith)
item_of-form (b ∷ bytes) some e = rw e refl
