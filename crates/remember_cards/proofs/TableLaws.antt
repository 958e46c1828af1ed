-- Marks are taken off a table.
use Rattle.std.proofs.Common.{◌≡◌, ℕ, ◌+◌, ◌<◌, Bool, true, false, cond, ◌==◌, nat_eq, List, Option, None, get_or, take, length, refl, sym, ap, ◌∙◌, arith}
use Rattle.std.specs.Prelude.{◌||◌}
use Rattle.std.specs.Map.{lookup}
use Rattle.std.proofs.lemmas.Bool.Decides.{nat_tests}
use Rattle.std.proofs.lemmas.List.Folds.{list_any_more}
use Rattle.object_model.specs.Sets.{is_in}
use Rattle.remember_cards.specs.Entries.{Marks, MarksAt, marks_in, with_marks}

-- the test of two equal numbers may be turned round
nat_eq-turned : (m n : ℕ) → nat_eq m n ≡ (n == m)
nat_eq-turned m n = grind (arith, nat_tests)

pub removed : (old new : List (ℕ × Marks)) (place : ℕ) → ((q : ℕ) → lookup (nat_eq q) new ≡ cond (nat_eq place q) None (lookup (nat_eq q) old))
    → marks_in new ≡ with_marks (marks_in old) place None
removed old new place at = λ i q. (at q ∙ ap (λ t. cond t None (lookup (nat_eq q) old)) (nat_eq-turned place q)) i

-- the marks at one place more are taken off
pub forgotten_more : (before after : MarksAt) (places : List ℕ) (n q : ℕ) (old : Option Marks) → n < length places
    → after ≡ with_marks before (get_or places n 0) None → before q ≡ cond (is_in q (take n places)) None old
    → after q ≡ cond (is_in q (take (n + 1) places)) None old
forgotten_more before after places n q old within taken so_far =
    ap (λ (f : MarksAt). f q) taken
    ∙ (by (is_in q (take n places)) (get_or places n 0 == q) (q == get_or places n 0) (nat_eq-turned (get_or places n 0) q) so_far
    ∙ ap (λ t. cond t None old) (sym (list_any_more (λ y. y == q) places n 0 within)))
  where
    by : (before_it here turned : Bool) → here ≡ turned → before q ≡ cond before_it None old
        → cond turned None (before q) ≡ cond (before_it || here) None old
    by true here true same far = refl
    by true here false same far = far
    by false here true same far = ap (λ t. cond t None old) (sym same)
    by false here false same far = far ∙ ap (λ t. cond t None old) (sym same)
