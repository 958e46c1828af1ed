-- A header and its word tell each other.
use Rattle.std.proofs.Common.{◌≡◌, ℕ, ◌+◌, ◌-◌, ◌*◌, ◌<◌, ◌/◌, ◌^◌, false, ◌==◌, ap, ◌∙◌, subst, arith}
use Rattle.std.proofs.Props.{props}
use Rattle.std.specs.Int.{bit_at}
use Rattle.std.specs.Int.RustNames.{bit_and}
use Rattle.std.proofs.lemmas.Nat.{and_mask}
use Rattle.std.proofs.lemmas.Nat.Bits.{bit_at_above, bit_at_cat_high}
use Rattle.object_header.specs.declared.flags.Flag.{Flag}
use Rattle.object_header.specs.declared.Header.{Header}
use Rattle.object_header.specs.Words.{word_of, type_of, bit_of, has_flag}
use Rattle.object_header.specs.Packing.{header_word}
use Rattle.object_header.proofs.WordLaws.{has_flag-bit}
use Rattle.object_header.proofs.FlagLaws.{bit_of-least}

-- the type and the flags of a word are those that it was made of
pub type_of-word_of : (t f : ℕ) → t < 2 ^ 16 → type_of (word_of t f) ≡ t
type_of-word_of t f small = omega arith

-- a flag of a word is that flag of the set that it was made of
pub has_flag-word_of : (t flags : ℕ) (flag : Flag) → t < 2 ^ 16
    → has_flag (word_of t flags) flag ≡ (bit_at flags (bit_of flag - 16) == 1)
has_flag-word_of t flags flag small =
    let above : word_of t flags ≡ flags * 2 ^ 16 + t = omega arith in
    has_flag-bit (word_of t flags) flag (bit_at flags (bit_of flag - 16))
    (ap (λ n. bit_at n (bit_of flag)) above ∙ bit_at_cat_high flags 16 t (bit_of flag) small (bit_of-least flag))

-- a header without flags is its type, and no flag is set in it
pub has_flag-type : (t : ℕ) (flag : Flag) → t < 2 ^ 16 → has_flag t flag ≡ false
has_flag-type t flag small =
    has_flag-bit t flag 0 (bit_at_above t 16 (bit_of flag) small (bit_of-least flag))

-- the header of a type and a set of flags
abbrev header_of : (t flags : ℕ) → t < 2 ^ 16 → flags < 2 ^ 10 → Header
header_of t flags small known = record { type_id = t; flags = record { 0 = flags }; in_range = small; known = known }

below-prop : (m n : ℕ) → IsProp (m < n)
below-prop m n = hlevel props

header_of-same : (t f t' f' : ℕ) (p : t < 2 ^ 16) (q : f < 2 ^ 10) (p' : t' < 2 ^ 16) (q' : f' < 2 ^ 10)
    → t ≡ t' → f ≡ f' → header_of t f p q ≡ header_of t' f' p' q'
header_of-same t f t' f' p q p' q' same_type same_flags =
    subst (λ u. (r : u < 2 ^ 16) → header_of t f p q ≡ header_of u f' r q') same_type
    (λ r. subst (λ v. (s : v < 2 ^ 10) → header_of t f p q ≡ header_of t v r s) same_flags
    (λ s. ap (λ x. header_of t f x q) (below-prop t (2 ^ 16) p r) ∙ ap (header_of t f r) (below-prop f (2 ^ 10) q s)) q') p'

-- headers of one word are one
pub header_word-same : (g h : Header) → header_word g ≡ header_word h → g ≡ h
header_word-same g h e =
    header_of-same g.type_id g.flags.0 h.type_id h.flags.0 g.in_range g.known h.in_range h.known
    (omega (arith, g.in_range, h.in_range)) (omega (arith, g.in_range, h.in_range))

-- what the code reads of a word: the low 16 bits and those above them
pub parts-word : (w t f : ℕ) → t ≡ bit_and w 65535 → f ≡ w / 65536 → word_of t f ≡ w
parts-word w t f is_type is_flags = omega (arith, is_type, is_flags, and_mask w 16)
