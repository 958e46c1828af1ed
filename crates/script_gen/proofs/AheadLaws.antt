-- What is ahead of a generator, and that each of its commands has a line.
use Rattle.std.proofs.Common.{◌≡◌, ℕ, zero, suc, ◌+◌, ◌*◌, ◌/◌, ◌%◌, ◌^◌, ◌<◌, Bool, true, false, nat_lt, ◌==◌, if◌then◌else◌, List, [], ◌∷◌, ◌++◌, drop, map, get_or, length, refl, sym, ap, ◌∙◌, subst, arith, append_assoc}
use Rattle.std.specs.Prelude.{codes}
use Rattle.std.specs.Fmt.{digits}
use Rattle.std.proofs.lemmas.List.{map-append}
use Rattle.std.proofs.lemmas.List.Concat.{flat_map-append}
use Rattle.std.proofs.Math.Seq.{drop-cons}
use Rattle.std.proofs.lemmas.Bool.Decides.{nat_tests}
use Rattle.text_model.specs.declared.command.Command.{Command}
use Rattle.text_model.specs.declared.command.Command.TheVariants.{NewFixed, NewArray, NewWeak, Put, Get, Link, Load, Hash, Deref, Collect}
use Rattle.text_model.specs.declared.item.Item.{Item}
use Rattle.text_model.specs.declared.item.Item.TheVariants.{Command as CommandItem}
use Rattle.type_table.specs.declared.info.Shape.{Shape}
use Rattle.type_table.specs.declared.info.Shape.TheVariants.{Fixed, IntArray, RefArray, Weak}
use Rattle.text_model.specs.Grammar.{is_above_shape}
use Rattle.text_model.specs.ItemLine.{StoresWord, IsCommandInRange, HasLine}
use Rattle.text_model.specs.Range.{is_above, is_above_ids, is_above_items}
use Rattle.text_model.specs.Lines.{whole_text}
use Rattle.text_model.specs.ItemText.{item_text}
use Rattle.text_model.specs.Generated.{plain_type, generated_header, filling_commands, drawn_command, command_of_kind, drawn_commands, generated_commands, generated_script}
use Rattle.script_gen.specs.Ahead.{commands_ahead, items_ahead, last_command}
use Rattle.script_text.specs.Printing.{Extends}

-- the first of the commands that fill the slots
pub filling-next : (filled x left : ℕ) (collected : Bool) (command : Command) → filled < 15 → command ≡ get_or filling_commands filled command
    → commands_ahead filled x left collected ≡ command ∷ commands_ahead (filled + 1) x left collected
filling-next filled x left collected command l e =
    let more : filled + 1 ≡ suc filled = omega arith in
    let rest : List Command = drawn_commands x left ++ last_command collected in
    ap (λ (cs : List Command). cs ++ rest) (drop-cons filling_commands filled command l)
    ∙ ap (λ (c : Command). c ∷ (drop (suc filled) filling_commands ++ rest)) (sym e)
    ∙ ap (λ (k : ℕ). command ∷ (drop k filling_commands ++ rest)) (sym more)

-- the first of the settings and types
pub header-next : (given : ℕ) (commands : List Command) (item : Item) → given < 5 → item ≡ get_or generated_header given item
    → items_ahead given commands ≡ item ∷ items_ahead (given + 1) commands
header-next given commands item l e =
    let more : given + 1 ≡ suc given = omega arith in
    let rest : List Item = map CommandItem commands in
    ap (λ (is : List Item). is ++ rest) (drop-cons generated_header given item l)
    ∙ ap (λ (i : Item). i ∷ (drop (suc given) generated_header ++ rest)) (sym e)
    ∙ ap (λ (k : ℕ). item ∷ (drop k generated_header ++ rest)) (sym more)

-- each of the commands has numbers in their places' ranges
abbrev pub AreInRange : List Command → Type 0
AreInRange [] = Unit {0}
AreInRange (command ∷ commands) = IsCommandInRange command × AreInRange commands

small : (n : ℕ) → n < 100 → is_above_ids n ≡ false
small n l = grind (arith, nat_tests)

short : (n : ℕ) → n < 1000 → is_above_items n ≡ false
short n l = grind (arith, nat_tests)

fixed-range : (k : ℕ) → k < 100 → IsCommandInRange (NewFixed k 1)
unfolding is_above
fixed-range k l = record { below = rw (small k l) refl; stored = tt }

array-range : (k t n : ℕ) → k < 100 → t < 100 → n < 1000 → IsCommandInRange (NewArray k t n)
unfolding is_above
array-range k t n l m o = record { below = rw (small k l, small t m, short n o) refl; stored = tt }

weak-range : IsCommandInRange (NewWeak 14 3 0)
unfolding is_above
weak-range = record { below = refl; stored = tt }

pub filling-range : AreInRange filling_commands
filling-range =
    let f : (k : ℕ) → k < 100 → IsCommandInRange (NewFixed k 1) = fixed-range in
    let a : (k t n : ℕ) → k < 100 → t < 100 → n < 1000 → IsCommandInRange (NewArray k t n) = array-range in (
      f 0 (omega arith),
      (
        f 1 (omega arith),
        (
          f 2 (omega arith),
          (
            f 3 (omega arith),
            (
              f 4 (omega arith),
              (
                f 5 (omega arith),
                (
                  f 6 (omega arith),
                  (
                    f 7 (omega arith),
                    (
                      a 8 2 8 (omega arith) (omega arith) (omega arith),
                      (
                        a 9 2 8 (omega arith) (omega arith) (omega arith),
                        (
                          a 10 2 8 (omega arith) (omega arith) (omega arith),
                          (a 11 2 8 (omega arith) (omega arith) (omega arith), (a 12 4 0 (omega arith) (omega arith) (omega arith), (a 13 4 0 (omega arith) (omega arith) (omega arith), (weak-range, tt)))),
                        ),
                      ),
                    ),
                  ),
                ),
              ),
            ),
          ),
        ),
      ),
    )

-- one of commands in range
range-at : (cs : List Command) (k : ℕ) (d : Command) → AreInRange cs → k < length cs → IsCommandInRange (get_or cs k d)
range-at [] k d h l = absurd (omega (arith, l))
range-at (c ∷ cs) zero d h l = h.0
range-at (c ∷ cs) (suc k) d h l = range-at cs k d h.1 (omega (arith, l))

pub filling-in_range : (k : ℕ) (command : Command) → k < 15 → command ≡ get_or filling_commands k command → IsCommandInRange command
filling-in_range k command l e = subst IsCommandInRange (sym e) (range-at filling_commands k command filling-range l)

choice-range : (b : Bool) (x y : Command) → is_above x ≡ false → is_above y ≡ false → is_above (if b then x else y) ≡ false
choice-range true x y h k = h
choice-range false x y h k = k

-- a command of each kind has small numbers
kind-range : (kind a b c i r : ℕ) → a < 8 → b < 8 → c < 4 → i < 8 → is_above (command_of_kind kind a b c i r) ≡ false
unfolding is_above
kind-range kind a b c i r la lb lc li =
    let ra = small a (omega (arith, la)) in let rb = small b (omega (arith, lb)) in
    let rc = small (8 + c) (omega (arith, lc)) in let rd = small (12 + c % 2) (omega (arith, lc)) in
    let ri = short i (omega (arith, li)) in let rj = short (i % 2) (omega (arith, li)) in let rk = short (i * 100) (omega (arith, li)) in
    choice-range (nat_lt kind 4) (NewFixed a 1) _ (rw ra refl)
    (choice-range (kind == 4) (Put a 0 r) _ (rw ra refl)
    (choice-range (kind == 5) (Get a 0) _ (rw ra refl)
    (choice-range (nat_lt kind 8) (Link a (i % 2) b) _ (rw (ra, rj, rb) refl)
    (choice-range (kind == 8) (Link (8 + c) i a) _ (rw (rc, ri, ra) refl)
    (choice-range (kind == 9) (Load 15 a (i % 2)) _ (rw (ra, rj) refl)
    (choice-range (kind == 10) (Load 15 (8 + c) i) _ (rw (rc, ri) refl)
    (choice-range (kind == 11) (NewArray (8 + c) 2 8) _ (rw rc refl)
    (choice-range (kind == 12) (NewArray (12 + c % 2) 4 (i * 100)) _ (rw (rd, rk) refl)
    (choice-range (kind == 13) (NewWeak 14 3 a) _ (rw ra refl)
    (choice-range (kind == 14) (Deref 15 14) (Hash a) refl (rw ra refl)))))))))))

choice-stored : (b : Bool) (x y : Command) → StoresWord x → StoresWord y → StoresWord (if b then x else y)
choice-stored true x y h k = h
choice-stored false x y h k = k

kind-stored : (kind a b c i r : ℕ) → r < 2 ^ 64 → StoresWord (command_of_kind kind a b c i r)
kind-stored kind a b c i r l =
    choice-stored (nat_lt kind 4) (NewFixed a 1) _ tt
    (choice-stored (kind == 4) (Put a 0 r) _ l
    (choice-stored (kind == 5) (Get a 0) _ tt
    (choice-stored (nat_lt kind 8) (Link a (i % 2) b) _ tt
    (choice-stored (kind == 8) (Link (8 + c) i a) _ tt
    (choice-stored (kind == 9) (Load 15 a (i % 2)) _ tt
    (choice-stored (kind == 10) (Load 15 (8 + c) i) _ tt
    (choice-stored (kind == 11) (NewArray (8 + c) 2 8) _ tt
    (choice-stored (kind == 12) (NewArray (12 + c % 2) 4 (i * 100)) _ tt
    (choice-stored (kind == 13) (NewWeak 14 3 a) _ tt
    (choice-stored (kind == 14) (Deref 15 14) (Hash a) tt tt))))))))))

drawn-above : (r : ℕ) → is_above (drawn_command r) ≡ false
unfolding drawn_command
drawn-above r = kind-range (r % 16) (r / 16 % 8) (r / 128 % 8) (r / 1024 % 4) (r / 4096 % 8) r (omega arith) (omega arith) (omega arith) (omega arith)

drawn-stored : (r : ℕ) → r < 2 ^ 64 → StoresWord (drawn_command r)
unfolding drawn_command
drawn-stored r l = kind-stored (r % 16) (r / 16 % 8) (r / 128 % 8) (r / 1024 % 4) (r / 4096 % 8) r l

pub drawn-range : (r : ℕ) → r < 2 ^ 64 → IsCommandInRange (drawn_command r)
drawn-range r l = record { below = drawn-above r; stored = drawn-stored r l }

pub collect-range : IsCommandInRange Collect
unfolding is_above
collect-range = record { below = refl; stored = tt }

-- the lines of commands
abbrev pub command_line : Command → List ℕ
command_line command = item_text (CommandItem command) ++ 10 ∷ []

abbrev pub command_lines : List Command → List ℕ
command_lines [] = []
command_lines (command ∷ commands) = command_line command ++ command_lines commands

lines-whole : (cs : List Command) → whole_text (map item_text (map CommandItem cs)) ≡ command_lines cs
lines-whole [] = refl
lines-whole (c ∷ cs) = ap (λ (text : List ℕ). command_line c ++ text) (lines-whole cs)

-- What is printed, and what is ahead: together they are the script, behind what was in the buffer.
pub record Prints (before now : List ℕ) (start n : ℕ) (ahead : List Command) : Type 0 where
  pub whole : now ++ command_lines ahead ≡ before ++ generated_script start n
  pub kept : Extends before now

-- the bytes of the settings and types
abbrev pub header_text : List ℕ
header_text = whole_text (map item_text generated_header)

script-whole : (cs : List Command) → whole_text (map item_text (generated_header ++ map CommandItem cs)) ≡ header_text ++ command_lines cs
script-whole cs =
    ap (λ (texts : List (List ℕ)). whole_text texts) (map-append item_text generated_header (map CommandItem cs))
    ∙ flat_map-append (λ line. line ++ 10 ∷ []) (map item_text generated_header) (map item_text (map CommandItem cs))
    ∙ ap (λ (text : List ℕ). header_text ++ text) (lines-whole cs)

pub header-bytes : header_text ≡ codes "set roots 16\ntype 1 fixed 1 2\ntype 2 refs\ntype 3 weak\ntype 4 ints\n"
unfolding digits
header-bytes = refl

pub prints-first : (before now : List ℕ) (start n : ℕ) (ahead : List Command) → now ≡ before ++ header_text → ahead ≡ generated_commands start n
    → Prints before now start n ahead
prints-first before now start n ahead e is = record {
  whole = ap (λ (text : List ℕ). text ++ command_lines ahead) e ∙ append_assoc before header_text (command_lines ahead)
      ∙ ap (λ (cs : List Command). before ++ (header_text ++ command_lines cs)) is
      ∙ ap (λ (text : List ℕ). before ++ text) (sym (script-whole (generated_commands start n)));
  kept = record { rest = header_text; is = e };
}

-- settings and types have lines
pub header-lined : (k : ℕ) (item : Item) → k < 5 → item ≡ get_or generated_header k item → HasLine item
header-lined k item l e = subst HasLine (sym e) (lined k l)
  where
    plain : (id : ℕ) (shape : Shape) → is_above_ids id ≡ false → is_above_shape shape ≡ false → HasLine (plain_type id shape)
    plain id shape i s = record { id_below = i; shape_below = s; weak = λ w. refl }

    lined : (k : ℕ) → k < 5 → HasLine (get_or generated_header k item)
    lined zero l = (omega arith, omega arith)
    lined (suc zero) l = plain 1 (Fixed 1 2) refl refl
    lined (suc (suc zero)) l = plain 2 RefArray refl refl
    lined (suc (suc (suc zero))) l = plain 3 Weak refl refl
    lined (suc (suc (suc (suc zero)))) l = plain 4 IntArray refl refl
    lined (suc (suc (suc (suc (suc k))))) l = absurd (omega (arith, l))
