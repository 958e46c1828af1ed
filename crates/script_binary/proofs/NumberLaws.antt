-- Numbers in groups of seven bits are read again, whatever follows.
use Rattle.std.proofs.Common.{◌≡◌, ℕ, zero, suc, ◌+◌, ◌-◌, ◌*◌, ◌/◌, ◌%◌, ◌^◌, ◌<◌, ◌≤◌, List, [], ◌∷◌, ◌++◌, Option, Ok, Err, inl, inr, ◌⊎◌, refl, sym, ap, ◌∙◌, subst, arith}
use Rattle.std.specs.Prelude.{◌==◌}
use Rattle.std.specs.Io.KnownBytes.{Consumes}
use Rattle.std.proofs.Math.Bool.{or-true}
use Rattle.std.proofs.KnownBytes.{Consumes-trans}
use Rattle.std.proofs.lemmas.Bool.{lt-ltb, le-ltb, lt-leb, le-leb, ne_eqb}
use Rattle.text_model.specs.declared.item.BadLine.TheVariants as bad
use Rattle.text_model.specs.Numbers.{◌>>=◌}
use Rattle.text_model.specs.Binary.{groups_of}
use Rattle.text_model.specs.BinaryReading.{groups_at, with_low}
use Rattle.script_binary.specs.Taking.{TakesWhole, IsRefused}
use Rattle.script_binary.proofs.Parts.{Passes}

-- a byte that is the last
pub groups_of-last : (more b : ℕ) → b < 128 → groups_of more b ≡ b ∷ []
unfolding groups_of
groups_of-last zero b small = refl
groups_of-last (suc more) b small = rw (lt-ltb b 128 small) refl

pub groups_at-last : (more b : ℕ) (rest : List ℕ) → b < 128 → groups_at (suc more) (b ∷ rest) ≡ Ok (b, rest)
unfolding groups_at
groups_at-last more b rest small = rw (lt-ltb b 128 small) refl

-- a byte with others behind it
pub groups_at-more : (more b : ℕ) (rest : List ℕ) → 128 ≤ b → groups_at (suc more) (b ∷ rest) ≡ (groups_at more rest >>= with_low (b - 128))
unfolding groups_at
groups_at-more more b rest much = rw (le-ltb b 128 much) refl

pub groups_of-more : (more b high : ℕ) → 128 ≤ b → b < 256 → 0 < high → groups_of (suc more) (b - 128 + 128 * high) ≡ b ∷ groups_of more high
unfolding groups_of
groups_of-more more b high much byte some =
    let n = b - 128 + 128 * high in
    let low : 128 + n % 128 ≡ b = omega arith in
    let top : n / 128 ≡ high = omega arith in
    rw (le-ltb n 128 (omega arith)) (ap (λ m. m ∷ groups_of more (n / 128)) low ∙ ap (λ m. b ∷ groups_of more m) top)

pub groups_at-end : (more : ℕ) → groups_at more [] ≡ Err bad.Syntax
unfolding groups_at
groups_at-end zero = refl
groups_at-end (suc more) = refl

groups_at-none : (low : ℕ) (rest : List ℕ) → (groups_at 0 rest >>= with_low low) ≡ Err bad.Syntax
unfolding groups_at
groups_at-none low rest = refl

-- a group below a number that has at most 64 bits with it, and is not 0
pub with_low-fits : (low high : ℕ) (rest : List ℕ) → 0 < high → high < 2 ^ 57 → with_low low (high, rest) ≡ Ok (low + 128 * high, rest)
with_low-fits low high rest some few =
    rw (ne_eqb high 0 (λ none. absurd (omega arith)), lt-leb (2 ^ 57) high few) refl

with_low-not : (low high : ℕ) (rest : List ℕ) → ((high ≡ 0) ⊎ (2 ^ 57 ≤ high)) → with_low low (high, rest) ≡ Err bad.Syntax
with_low-not low high rest (inl none) = rw none refl
with_low-not low high rest (inr many) = rw (le-leb (2 ^ 57) high many, or-true (high == 0)) refl

-- a group with its top bit set passes on what is refused behind it
pub passes_group : (more inner b : ℕ) → more ≡ suc inner → 128 ≤ b → Passes (b ∷ []) (groups_at (suc inner)) (groups_at (suc more))
passes_group more inner b is much = record {
  passes = λ rest reason refused.
      groups_at-more more b rest much
      ∙ ap (λ m. groups_at m rest >>= with_low (b - 128)) is
      ∙ ap (λ read. read >>= with_low (b - 128)) refused;
}

-- the last byte of a number was taken
pub takes_last : (more b n : ℕ) (before after : Option (List ℕ)) → n ≡ b → b < 128 → Consumes before after (b ∷ [])
    → TakesWhole (groups_at (suc more)) before after (groups_of more n) n
takes_last more b n before after is small taken =
    let same = groups_of-last more b small in
    rw is (record {
      taken = subst (Consumes before after) (sym same) taken;
      reads = λ rest. ap (λ l. groups_at (suc more) (l ++ rest)) same ∙ groups_at-last more b rest small;
    })

-- a byte with its top bit set was taken where it was to be the last
pub refuses_longer : (more b : ℕ) (before after : Option (List ℕ)) → more ≡ 0 → 128 ≤ b → Consumes before after (b ∷ [])
    → IsRefused (groups_at (suc more)) before after bad.Syntax
refuses_longer more b before after none much taken = record {
  part = b ∷ [];
  taken = taken;
  refused = λ rest is. groups_at-more more b rest much ∙ ap (λ m. groups_at m rest >>= with_low (b - 128)) none ∙ groups_at-none (b - 128) rest;
}

-- a group was taken, and a number behind it that is 0 or too great
pub refuses_high : (more inner b high : ℕ) (before mid after : Option (List ℕ)) → more ≡ suc inner → 128 ≤ b → Consumes before mid (b ∷ [])
    → ((high ≡ 0) ⊎ (2 ^ 57 ≤ high)) → TakesWhole (groups_at (suc inner)) mid after (groups_of inner high) high
    → IsRefused (groups_at (suc more)) before after bad.Syntax
refuses_high more inner b high before mid after is much first not h = record {
  part = b ∷ groups_of inner high;
  taken = Consumes-trans before mid after (b ∷ []) (groups_of inner high) first h.taken;
  refused = λ rest same.
      groups_at-more more b (groups_of inner high ++ rest) much
      ∙ ap (λ m. groups_at m (groups_of inner high ++ rest) >>= with_low (b - 128)) is
      ∙ ap (λ read. read >>= with_low (b - 128)) (h.reads rest)
      ∙ with_low-not (b - 128) high rest not;
}

-- a group was taken, and the number behind it
pub takes_more : (more inner b low high : ℕ) (before mid after : Option (List ℕ)) → more ≡ suc inner → 128 ≤ b → b < 256 → low ≡ b - 128
    → Consumes before mid (b ∷ []) → 0 < high → high < 2 ^ 57 → TakesWhole (groups_at (suc inner)) mid after (groups_of inner high) high
    → TakesWhole (groups_at (suc more)) before after (groups_of more (low + 128 * high)) (low + 128 * high)
takes_more more inner b low high before mid after is much byte is_low first some few h =
    let spelled : groups_of more (low + 128 * high) ≡ b ∷ groups_of inner high =
    ap (λ m. groups_of m (low + 128 * high)) is
    ∙ ap (λ l. groups_of (suc inner) (l + 128 * high)) is_low
    ∙ groups_of-more inner b high much byte some in
    record {
      taken = subst (Consumes before after) (sym spelled) (Consumes-trans before mid after (b ∷ []) (groups_of inner high) first h.taken);
      reads = λ rest.
          ap (λ l. groups_at (suc more) (l ++ rest)) spelled
          ∙ groups_at-more more b (groups_of inner high ++ rest) much
          ∙ ap (λ m. groups_at m (groups_of inner high ++ rest) >>= with_low (b - 128)) is
          ∙ ap (λ read. read >>= with_low (b - 128)) (h.reads rest)
          ∙ with_low-fits (b - 128) high rest some few
          ∙ ap (λ l. Ok (l + 128 * high, rest)) (sym is_low);
    }
