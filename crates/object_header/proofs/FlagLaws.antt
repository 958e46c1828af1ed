-- Where the flags lie in a header word, and that no two lie at one place.
use Rattle.std.proofs.Common.{◌≡◌, ◌≢◌, ℕ, ◌<◌, ◌≤◌, ◌==◌, if◌then◌else◌, refl, sym, ap, ◌∙◌, arith}
use Rattle.object_header.specs.declared.flags.Flag.{Flag}
use Rattle.object_header.specs.declared.flags.Flag.TheVariants.{Track, Visited, HasShadow, Pinned, HasCards, CardsSet, Free, Shadow, Order1, Order2}
use Rattle.object_header.specs.Words.{bit_of}

-- the flags lie above the type
pub bit_of-least : (flag : Flag) → 16 ≤ bit_of flag
bit_of-least Track = omega arith
bit_of-least Visited = omega arith
bit_of-least HasShadow = omega arith
bit_of-least Pinned = omega arith
bit_of-least HasCards = omega arith
bit_of-least CardsSet = omega arith
bit_of-least Free = omega arith
bit_of-least Shadow = omega arith
bit_of-least Order1 = omega arith
bit_of-least Order2 = omega arith

pub bit_of-most : (flag : Flag) → bit_of flag < 26
bit_of-most Track = omega arith
bit_of-most Visited = omega arith
bit_of-most HasShadow = omega arith
bit_of-most Pinned = omega arith
bit_of-most HasCards = omega arith
bit_of-most CardsSet = omega arith
bit_of-most Free = omega arith
bit_of-most Shadow = omega arith
bit_of-most Order1 = omega arith
bit_of-most Order2 = omega arith

-- the flag at a bit
abbrev flag_at : ℕ → Flag
flag_at bit =
    if bit == 16 then Track
    else if bit == 17 then Visited
    else if bit == 18 then HasShadow
    else if bit == 19 then Pinned
    else if bit == 20 then HasCards
    else if bit == 21 then CardsSet
    else if bit == 22 then Free
    else if bit == 23 then Shadow
    else if bit == 24 then Order1
    else Order2

flag_at-bit_of : (flag : Flag) → flag_at (bit_of flag) ≡ flag
flag_at-bit_of Track = refl
flag_at-bit_of Visited = refl
flag_at-bit_of HasShadow = refl
flag_at-bit_of Pinned = refl
flag_at-bit_of HasCards = refl
flag_at-bit_of CardsSet = refl
flag_at-bit_of Free = refl
flag_at-bit_of Shadow = refl
flag_at-bit_of Order1 = refl
flag_at-bit_of Order2 = refl

-- no two flags lie at one bit
pub bit_of-distinct : (f g : Flag) → f ≢ g → bit_of f ≢ bit_of g
bit_of-distinct f g ne same = ne (sym (flag_at-bit_of f) ∙ ap flag_at same ∙ flag_at-bit_of g)
