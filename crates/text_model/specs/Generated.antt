-- Generated scripts: settings and types, commands that fill the slots, commands that are drawn by a linear congruential sequence, and a collection.
use Rattle.std.specs.Prelude.{ℕ, zero, suc, ◌+◌, ◌*◌, ◌/◌, ◌%◌, ◌^◌, Bool, true, false, nat_lt, ◌==◌, if◌then◌else◌, List, [], ◌∷◌, ◌++◌, map}
use Rattle.type_table.specs.declared.info.Shape.{Shape}
use Rattle.type_table.specs.declared.info.Shape.TheVariants.{Fixed, IntArray, RefArray, Weak}
use Rattle.text_model.specs.declared.command.Command.{Command}
use Rattle.text_model.specs.declared.command.Command.TheVariants.{NewFixed, NewArray, NewWeak, Put, Get, Link, Load, Hash, Deref, Collect}
use Rattle.text_model.specs.declared.item.Item.{Item}
use Rattle.text_model.specs.declared.item.Item.TheVariants.{Setting, TypeDef, Command as CommandItem}
use Rattle.text_model.specs.Lines.{whole_text}
use Rattle.text_model.specs.ItemText.{item_text}

abbrev pub plain_type : ℕ → Shape → Item
plain_type id shape = TypeDef id (record { shape = shape; destructor = false })

-- sixteen slots, which is setting 11, and a type of each shape, without destructors
abbrev pub generated_header : List Item
generated_header = Setting 11 16 ∷ plain_type 1 (Fixed 1 2) ∷ plain_type 2 RefArray ∷ plain_type 3 Weak ∷ plain_type 4 IntArray ∷ []

-- the commands that fill slots 0 to 14
abbrev pub filling_commands : List Command
filling_commands =
    NewFixed 0 1 ∷ NewFixed 1 1 ∷ NewFixed 2 1 ∷ NewFixed 3 1 ∷ NewFixed 4 1 ∷ NewFixed 5 1 ∷ NewFixed 6 1 ∷ NewFixed 7 1
    ∷ NewArray 8 2 8 ∷ NewArray 9 2 8 ∷ NewArray 10 2 8 ∷ NewArray 11 2 8 ∷ NewArray 12 4 0 ∷ NewArray 13 4 0 ∷ NewWeak 14 3 0 ∷ []

-- the number of the sequence behind x
unfoldable pub next_drawn : ℕ → ℕ
next_drawn x = (x * 6364136223846793005 + 1442695040888963407) % 2 ^ 64

-- the command of a kind below 16. Slots 0 to 7 hold objects of type 1, a and b are two of these; slots 8 to 11 hold arrays of eight references, 8 + c is
-- one of these and i one of the references.
abbrev pub command_of_kind : ℕ → ℕ → ℕ → ℕ → ℕ → ℕ → Command
command_of_kind kind a b c i r =
    if nat_lt kind 4 then NewFixed a 1 else
    if kind == 4 then Put a 0 r else
    if kind == 5 then Get a 0 else
    if nat_lt kind 8 then Link a (i % 2) b else
    if kind == 8 then Link (8 + c) i a else
    if kind == 9 then Load 15 a (i % 2) else
    if kind == 10 then Load 15 (8 + c) i else
    if kind == 11 then NewArray (8 + c) 2 8 else
    if kind == 12 then NewArray (12 + c % 2) 4 (i * 100) else
    if kind == 13 then NewWeak 14 3 a else
    if kind == 14 then Deref 15 14 else
    Hash a

-- the command that the number r draws
unfoldable pub drawn_command : ℕ → Command
drawn_command r = command_of_kind (r % 16) (r / 16 % 8) (r / 128 % 8) (r / 1024 % 4) (r / 4096 % 8) r

-- so many commands, drawn by the upper 31 bits of the numbers behind x
abbrev pub drawn_commands : ℕ → ℕ → List Command
drawn_commands x zero = []
drawn_commands x (suc n) = drawn_command (next_drawn x / 2 ^ 33) ∷ drawn_commands (next_drawn x) n

abbrev pub generated_commands : ℕ → ℕ → List Command
generated_commands start n = filling_commands ++ (drawn_commands start n ++ Collect ∷ [])

-- all items of the script, with n drawn commands
abbrev pub generated_items : ℕ → ℕ → List Item
generated_items start n = generated_header ++ map CommandItem (generated_commands start n)

-- its bytes
abbrev pub generated_script : ℕ → ℕ → List ℕ
generated_script start n = whole_text (map item_text (generated_items start n))
