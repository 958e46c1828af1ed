-- The spelling of a number, and of numbers, as it is written.
use Rattle.std.proofs.Common.{◌≡◌, ℕ, zero, suc, ◌+◌, ◌/◌, ◌%◌, ◌^◌, ◌<◌, ◌≤◌, List, [], ◌∷◌, ◌++◌, length, take, get_or, Result, Ok, Err, refl, sym, ap, ◌∙◌, subst, arith, append_assoc, append-nil}
use Rattle.std.specs.Prelude.{OnOk, OnErr, is_ok, if◌then◌else◌}
use Rattle.std.proofs.lemmas.Bool.{le-ltb}
use Rattle.std.proofs.lemmas.List.{take_more}
use Rattle.text_model.specs.Binary.{groups_of, number_bytes, numbers_bytes}
use Rattle.script_text.specs.Printing.{Extends}
use Rattle.script_binary.proofs.NumberLaws.{groups_of-last}
use Rattle.script_binary.proofs.NumbersLaws.{numbers_bytes-push}

-- What is left of a number is to be spelled behind what stands there.
pub record IsLeft (old out : List ℕ) (number rest : ℕ) : Type 0 where
  pub more : ℕ
  pub fits : rest < 128 ^ suc more
  pub whole : out ++ groups_of more rest ≡ old ++ number_bytes number
  pub front : Extends old out

pub extends_more : (old out more new : List ℕ) → Extends old out → new ≡ out ++ more → Extends old new
extends_more old out more new h is = record {
  rest = h.rest ++ more;
  is = is ∙ ap (λ l. l ++ more) h.is ∙ append_assoc old h.rest more;
}

-- where memory was wanting, what was in the buffer stands at its front
pub kept : {T E : Type 0} (result : Result T E) (old out new : List ℕ) → Extends old out → new ≡ out → OnErr result (Extends old new)
kept (Ok done) old out new h is = tt
kept (Err failed) old out new h is = subst (Extends old) (sym is) h

-- before its first group
pub left_all : (old : List ℕ) (number : ℕ) → number < 2 ^ 64 → IsLeft old old number number
left_all old number small = record { more = 9; fits = omega arith; whole = refl; front = record { rest = []; is = sym (append-nil old) } }

-- one group more was written
left_by : (old out new : List ℕ) (number rest b more : ℕ) → 128 ≤ rest → b ≡ rest % 128 + 128 → new ≡ out ++ b ∷ []
    → rest < 128 ^ suc more → out ++ groups_of more rest ≡ old ++ number_bytes number → Extends old out → IsLeft old new number (rest / 128)
unfolding groups_of
left_by old out new number rest b zero much is pushed fits whole front = absurd (omega arith)
left_by old out new number rest b (suc more) much is pushed fits whole front =
    let byte : 128 + rest % 128 ≡ b = omega arith in
    let head : groups_of (suc more) rest ≡ b ∷ groups_of more (rest / 128) =
    rw (le-ltb rest 128 much) (ap (λ m. m ∷ groups_of more (rest / 128)) byte) in
    record {
      more = more;
      fits = omega (arith, fits);
      whole = ap (λ l. l ++ groups_of more (rest / 128)) pushed
          ∙ append_assoc out (b ∷ []) (groups_of more (rest / 128))
          ∙ ap (λ l. out ++ l) (sym head)
          ∙ whole;
      front = extends_more old out (b ∷ []) new front pushed;
    }

pub left_more : (old out new : List ℕ) (number rest b : ℕ) → 128 ≤ rest → b ≡ rest % 128 + 128 → new ≡ out ++ b ∷ []
    → IsLeft old out number rest → IsLeft old new number (rest / 128)
left_more old out new number rest b much is pushed h = left_by old out new number rest b h.more much is pushed h.fits h.whole h.front

-- the last group was written
pub left_last : {T E : Type 0} (result : Result T E) (old out new : List ℕ) (number rest b : ℕ) → rest < 128 → b ≡ rest
    → new ≡ (if is_ok result then out ++ b ∷ [] else out) → IsLeft old out number rest → OnOk result (new ≡ old ++ number_bytes number)
left_last (Ok done) old out new number rest b small is pushed h =
    pushed ∙ ap (λ n. out ++ n ∷ []) is ∙ ap (λ l. out ++ l) (sym (groups_of-last h.more rest small)) ∙ h.whole
left_last (Err failed) old out new number rest b small is pushed h = tt

pub left_kept : {T E : Type 0} (result : Result T E) (old out new : List ℕ) (number rest b : ℕ)
    → new ≡ (if is_ok result then out ++ b ∷ [] else out) → IsLeft old out number rest → OnErr result (Extends old new)
left_kept (Ok done) old out new number rest b pushed h = tt
left_kept (Err failed) old out new number rest b pushed h = subst (Extends old) (sym pushed) h.front

-- one number more was written
pub numbers_more : (old out new numbers : List ℕ) (i : ℕ) → i < length numbers → out ≡ old ++ numbers_bytes (take i numbers)
    → new ≡ out ++ number_bytes (get_or numbers i 0) → new ≡ old ++ numbers_bytes (take (i + 1) numbers)
numbers_more old out new numbers i within so_far is =
    let n = get_or numbers i 0 in
    is
    ∙ ap (λ l. l ++ number_bytes n) so_far
    ∙ append_assoc old (numbers_bytes (take i numbers)) (number_bytes n)
    ∙ ap (λ l. old ++ l) (sym (numbers_bytes-push (take i numbers) n))
    ∙ ap (λ l. old ++ numbers_bytes l) (sym (take_more numbers i 0 within))
