-- The commands of a generated script, and the forms that each of them has.
use Rattle.std.proofs.Common.{◌≡◌, ℕ, zero, suc, ◌+◌, ◌*◌, ◌/◌, ◌%◌, ◌^◌, ◌<◌, ◌≤◌, ◌⊎◌, Bool, true, false, List, [], ◌∷◌, ◌++◌, length, cond, refl, inl, inr, arith}
use Rattle.std.specs.Prelude.{◌==◌, nat_lt}
use Rattle.std.proofs.lemmas.Bool.{cases_lt}
use Rattle.std.proofs.lemmas.Nat.{mod_below}
use Rattle.text_model.specs.declared.command.Command.{Command}
use Rattle.text_model.specs.declared.command.Command.TheVariants.{NewFixed, NewArray, NewWeak, Put, Get, Link, Load, Hash, Deref, Collect}
use Rattle.text_model.specs.Generated.{filling_commands, drawn_command, command_of_kind, drawn_commands, generated_commands, next_drawn}

-- the slots below `now` are those below `filled` and the slot of a birth
abbrev pub Covers : ℕ → ℕ → ℕ → Type 0
Covers filled root now = (slot : ℕ) → slot < now → (slot < filled) ⊎ (slot ≡ root)

-- A command of a generated script, where the slots below `filled` are not empty, and those below `now` are not afterwards.
pub data IsDrawn (filled : ℕ) : ℕ → Command → Type 0 where
  Pair : {now : ℕ} (root : ℕ) → root < 8 → Covers filled root now → IsDrawn filled now (NewFixed root 1)
  Row : {now : ℕ} (root : ℕ) → 8 ≤ root → root < 12 → Covers filled root now → IsDrawn filled now (NewArray root 2 8)
  Numbers : {now : ℕ} (root len : ℕ) → 12 ≤ root → root < 14 → len ≤ 700 → Covers filled root now → IsDrawn filled now (NewArray root 4 len)
  WeakTo : {now : ℕ} (target : ℕ) → target < 8 → target < filled → Covers filled 14 now → IsDrawn filled now (NewWeak 14 3 target)
  PutIn : (root value : ℕ) → root < 8 → root < filled → IsDrawn filled filled (Put root 0 value)
  GetFrom : (root : ℕ) → root < 8 → root < filled → IsDrawn filled filled (Get root 0)
  LinkPair : (root item from : ℕ) → root < 8 → root < filled → item < 2 → from < 8 → IsDrawn filled filled (Link root item from)
  LinkRow : (root item from : ℕ) → 8 ≤ root → root < 12 → root < filled → item < 8 → from < 8 → IsDrawn filled filled (Link root item from)
  LoadPair : (root item : ℕ) → root < 8 → root < filled → item < 2 → IsDrawn filled filled (Load 15 root item)
  LoadRow : (root item : ℕ) → 8 ≤ root → root < 12 → root < filled → item < 8 → IsDrawn filled filled (Load 15 root item)
  DerefWeak : 14 < filled → IsDrawn filled filled (Deref 15 14)
  HashPair : (root : ℕ) → root < 8 → root < filled → IsDrawn filled filled (Hash root)
  Whole : IsDrawn filled filled Collect

-- commands one after another
pub data AreDrawn : ℕ → List Command → Type 0 where
  Finished : {filled : ℕ} → AreDrawn filled []
  Then : {filled now : ℕ} {command : Command} {commands : List Command} → IsDrawn filled now command → now ≤ 15 → AreDrawn now commands → AreDrawn filled (command ∷ commands)

-- all slots below 15 are filled
abbrev Anew : Command → Type 0
Anew command = IsDrawn 15 15 command

stay : (root : ℕ) → Covers 15 root 15
stay root slot below = inl below

either : (b : Bool) (x y : Command) → Anew x → Anew y → Anew (cond b x y)
either true x y p q = p
either false x y p q = q

kind_is_drawn : (kind a b c i r : ℕ) → a < 8 → b < 8 → c < 4 → i < 8 → Anew (command_of_kind kind a b c i r)
kind_is_drawn kind a b c i r a8 b8 c4 i8 =
    let two = mod_below i 2 (omega arith) in
    let side = mod_below c 2 (omega arith) in
    either (nat_lt kind 4) _ _ (Pair a a8 (stay a)) (
    either (kind == 4) _ _ (PutIn a r a8 (omega (arith, a8))) (
    either (kind == 5) _ _ (GetFrom a a8 (omega (arith, a8))) (
    either (nat_lt kind 8) _ _ (LinkPair a (i % 2) b a8 (omega (arith, a8)) two b8) (
    either (kind == 8) _ _ (LinkRow (8 + c) i a (omega arith) (omega (arith, c4)) (omega (arith, c4)) i8 a8) (
    either (kind == 9) _ _ (LoadPair a (i % 2) a8 (omega (arith, a8)) two) (
    either (kind == 10) _ _ (LoadRow (8 + c) i (omega arith) (omega (arith, c4)) (omega (arith, c4)) i8) (
    either (kind == 11) _ _ (Row (8 + c) (omega arith) (omega (arith, c4)) (stay (8 + c))) (
    either (kind == 12) _ _ (Numbers (12 + c % 2) (i * 100) (omega arith) (omega (arith, side)) (omega (arith, i8)) (stay (12 + c % 2))) (
    either (kind == 13) _ _ (WeakTo a a8 (omega (arith, a8)) (stay 14)) (
    either (kind == 14) _ _ (DerefWeak (omega arith)) (HashPair a a8 (omega (arith, a8)))))))))))))

is_drawn : (r : ℕ) → Anew (drawn_command r)
unfolding drawn_command
is_drawn r =
    kind_is_drawn (r % 16) (r / 16 % 8) (r / 128 % 8) (r / 1024 % 4) (r / 4096 % 8) r (mod_below (r / 16) 8 (omega arith)) (mod_below (r / 128) 8 (omega arith)) (mod_below (r / 1024) 4 (omega arith))
    (mod_below (r / 4096) 8 (omega arith))

are_drawn : (x n : ℕ) → AreDrawn 15 (drawn_commands x n ++ Collect ∷ [])
are_drawn x zero = Then Whole (omega arith) Finished
are_drawn x (suc n) = Then (is_drawn (next_drawn x / 2 ^ 33)) (omega arith) (are_drawn (next_drawn x) n)

-- one slot more is filled
more : (root : ℕ) → Covers root root (root + 1)
more root slot below = elim (cases_lt slot root) [ inl less ↦ inl less | inr from ↦ inr (omega (arith, below, from)) ]

filling_drawn : (commands : List Command) → AreDrawn 15 commands → AreDrawn 0 (filling_commands ++ commands)
filling_drawn commands rest =
    let pair : (root : ℕ) → root < 8 → IsDrawn root (root + 1) (NewFixed root 1) = λ root below. Pair root below (more root) in
    let row : (root : ℕ) → 8 ≤ root → root < 12 → IsDrawn root (root + 1) (NewArray root 2 8) = λ root from below. Row root from below (more root) in
    let numbers : (root : ℕ) → 12 ≤ root → root < 14 → IsDrawn root (root + 1) (NewArray root 4 0) = λ root from below. Numbers root 0 from below (omega arith) (more root) in
    Then (pair 0 (omega arith)) (omega arith) (
    Then (pair 1 (omega arith)) (omega arith) (
    Then (pair 2 (omega arith)) (omega arith) (
    Then (pair 3 (omega arith)) (omega arith) (
    Then (pair 4 (omega arith)) (omega arith) (
    Then (pair 5 (omega arith)) (omega arith) (
    Then (pair 6 (omega arith)) (omega arith) (
    Then (pair 7 (omega arith)) (omega arith) (
    Then (row 8 (omega arith) (omega arith)) (omega arith) (
    Then (row 9 (omega arith) (omega arith)) (omega arith) (
    Then (row 10 (omega arith) (omega arith)) (omega arith) (
    Then (row 11 (omega arith) (omega arith)) (omega arith) (
    Then (numbers 12 (omega arith) (omega arith)) (omega arith) (
    Then (numbers 13 (omega arith) (omega arith)) (omega arith) (
    Then (WeakTo 0 (omega arith) (omega arith) (more 14)) (omega arith) rest))))))))))))))

pub generated_drawn : (start n : ℕ) → AreDrawn 0 (generated_commands start n)
generated_drawn start n = filling_drawn (drawn_commands start n ++ Collect ∷ []) (are_drawn start n)

drawn_length : (x n : ℕ) → length (drawn_commands x n ++ Collect ∷ []) ≡ n + 1
drawn_length x zero = refl
drawn_length x (suc n) = let rest = drawn_length (next_drawn x) n in omega (arith, rest)

pub generated_length : (start n : ℕ) → length (generated_commands start n) ≡ n + 16
generated_length start n = let rest = drawn_length start n in omega (arith, rest)
