-- A header as a word.
use Rattle.std.specs.Prelude.{ℕ}
use Rattle.object_header.specs.declared.flags.FlagSet.{FlagSet}
use Rattle.object_header.specs.declared.Header.{Header}
use Rattle.object_header.specs.Words.{word_of}

-- the set of flags as a number of ten bits, the first flag's lowest
abbrev pub bits_of : FlagSet → ℕ
bits_of flags = flags.0

-- the word of a header
abbrev pub header_word : Header → ℕ
header_word header = word_of header.type_id (bits_of header.flags)
