-- A header word as a number: what it says of a type and of flags.
use Rattle.std.specs.Prelude.{ℕ, ◌+◌, ◌-◌, ◌*◌, ◌<◌, ◌%◌, ◌^◌, Bool, ◌==◌, ◌||◌, if◌then◌else◌}
use Rattle.std.specs.Int.{bit_at}
use Rattle.object_header.specs.declared.flags.Flag.{Flag}
use Rattle.object_header.specs.declared.flags.Flag.TheVariants.{Track, Visited, HasShadow, Pinned, HasCards, CardsSet, Free, Shadow, Order1, Order2}

-- sixteen bits of the type, and above them the bits of the flags
abbrev pub word_of : ℕ → ℕ → ℕ
word_of type_id flags = type_id + 2 ^ 16 * flags

-- no bit above the ten flags is set
abbrev pub IsHeader : ℕ → Type 0
IsHeader word = word < 2 ^ 26

-- the type that a word says
abbrev pub type_of : ℕ → ℕ
type_of word = word % 2 ^ 16

-- the bit of a flag in a word
abbrev pub bit_of : Flag → ℕ
bit_of Track = 16
bit_of Visited = 17
bit_of HasShadow = 18
bit_of Pinned = 19
bit_of HasCards = 20
bit_of CardsSet = 21
bit_of Free = 22
bit_of Shadow = 23
bit_of Order1 = 24
bit_of Order2 = 25

-- whether a flag is set in a word
unfoldable pub has_flag : ℕ → Flag → Bool
has_flag word flag = bit_at word (bit_of flag) == 1

-- whether a sweep keeps what begins with the word: an object that was visited, or a reserved home
abbrev pub survives_sweep : ℕ → Bool
survives_sweep word = has_flag word Visited || has_flag word Shadow

-- the word with a flag set
unfoldable pub with_flag : ℕ → Flag → ℕ
with_flag word flag = if has_flag word flag then word else word + 2 ^ bit_of flag

-- the word with a flag not set
unfoldable pub without_flag : ℕ → Flag → ℕ
without_flag word flag = if has_flag word flag then word - 2 ^ bit_of flag else word
