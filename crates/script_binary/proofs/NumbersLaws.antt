-- Numbers that stand one behind another.
use Rattle.std.proofs.Common.{◌≡◌, ℕ, zero, suc, ◌+◌, ◌-◌, ◌<◌, List, [], ◌∷◌, ◌++◌, Option, Result, Ok, Err, refl, sym, ap, ◌∙◌, subst, arith, append_assoc, append-nil}
use Rattle.std.specs.Io.KnownBytes.{Consumes}
use Rattle.std.proofs.KnownBytes.{Consumes-nil, Consumes-trans}
use Rattle.text_model.specs.declared.item.BadLine.{BadLine}
use Rattle.text_model.specs.Numbers.{◌>>=◌}
use Rattle.text_model.specs.Binary.{number_bytes, numbers_bytes}
use Rattle.text_model.specs.BinaryReading.{number_at, numbers_at}
use Rattle.script_binary.specs.Taking.{TakesWhole}
use Rattle.script_binary.proofs.Parts.{Passes}

-- numbers that were read, and those behind them
abbrev pub both : List ℕ × List ℕ → Result (List ℕ × List ℕ) BadLine → Result (List ℕ × List ℕ) BadLine
both first more = more >>= (λ m. Ok (first.0 ++ m.0, m.1))

both_nil : (xs : List ℕ) (more : Result (List ℕ × List ℕ) BadLine) → more ≡ both ([], xs) more
both_nil xs (Ok m) = refl
both_nil xs (Err e) = refl

both_front : (n : ℕ) (first : List ℕ × List ℕ) (more : Result (List ℕ × List ℕ) BadLine)
    → (both first more >>= (λ m. Ok (n ∷ m.0, m.1))) ≡ both (n ∷ first.0, first.1) more
both_front n first (Ok m) = refl
both_front n first (Err e) = refl

step : (n : ℕ) (read : Result (List ℕ × List ℕ) BadLine) (next : List ℕ → Result (List ℕ × List ℕ) BadLine)
    → ((read >>= (λ first. both first (next first.1))) >>= (λ m. Ok (n ∷ m.0, m.1)))
    ≡ ((read >>= (λ m. Ok (n ∷ m.0, m.1))) >>= (λ first. both first (next first.1)))
step n (Ok first) next = both_front n first (next first.1)
step n (Err e) next = refl

step_by : (m n : ℕ) (read : Result (ℕ × List ℕ) BadLine)
    → ((xs : List ℕ) → numbers_at (n + m) xs ≡ (numbers_at n xs >>= (λ first. both first (numbers_at m first.1))))
    → (read >>= (λ f. numbers_at (n + m) f.1 >>= (λ more. Ok (f.0 ∷ more.0, more.1))))
    ≡ ((read >>= (λ f. numbers_at n f.1 >>= (λ more. Ok (f.0 ∷ more.0, more.1)))) >>= (λ first. both first (numbers_at m first.1)))
step_by m n (Ok f) again =
    ap (λ r. r >>= (λ more. Ok (f.0 ∷ more.0, more.1))) (again f.1) ∙ step f.0 (numbers_at n f.1) (numbers_at m)
step_by m n (Err e) again = refl

-- the first of the numbers, and then the others
pub numbers_at-sum : (n m : ℕ) (xs : List ℕ) → numbers_at (n + m) xs ≡ (numbers_at n xs >>= (λ first. both first (numbers_at m first.1)))
unfolding numbers_at
numbers_at-sum zero m xs = let same : 0 + m ≡ m = omega arith in ap (λ k. numbers_at k xs) same ∙ both_nil xs (numbers_at m xs)
numbers_at-sum (suc n) m xs =
    let same : suc n + m ≡ suc (n + m) = omega arith in
    ap (λ k. numbers_at k xs) same ∙ step_by m n (number_at xs) (numbers_at-sum n m)

pub numbers_at-behind : (n m : ℕ) (xs ns ys : List ℕ) → numbers_at n xs ≡ Ok (ns, ys) → numbers_at (n + m) xs ≡ both (ns, ys) (numbers_at m ys)
numbers_at-behind n m xs ns ys is = numbers_at-sum n m xs ∙ ap (λ r. r >>= (λ first. both first (numbers_at m first.1))) is

pub numbers_at-one : (xs ys : List ℕ) (n : ℕ) → number_at xs ≡ Ok (n, ys) → numbers_at 1 xs ≡ Ok (n ∷ [], ys)
unfolding numbers_at
numbers_at-one xs ys n is = rw is refl

pub numbers_at-refused : (m : ℕ) (xs : List ℕ) (reason : BadLine) → number_at xs ≡ Err reason → numbers_at (suc m) xs ≡ Err reason
unfolding numbers_at
numbers_at-refused m xs reason is = rw is refl

pub numbers_bytes-push : (ns : List ℕ) (n : ℕ) → numbers_bytes (ns ++ n ∷ []) ≡ numbers_bytes ns ++ number_bytes n
numbers_bytes-push [] n = append-nil (number_bytes n)
numbers_bytes-push (x ∷ ns) n =
    ap (λ l. number_bytes x ++ l) (numbers_bytes-push ns n) ∙ sym (append_assoc (number_bytes x) (numbers_bytes ns) (number_bytes n))

-- no number was taken
pub takes_none : (before : Option (List ℕ)) → TakesWhole (numbers_at 0) before before [] []
unfolding numbers_at
takes_none before = record { taken = Consumes-nil before; reads = λ rest. refl }

-- numbers were taken, and one more
pub takes_one_more : (n : ℕ) (ns all : List ℕ) (x : ℕ) (before mid after : Option (List ℕ)) → all ≡ ns ++ x ∷ []
    → TakesWhole (numbers_at n) before mid (numbers_bytes ns) ns → TakesWhole number_at mid after (number_bytes x) x
    → TakesWhole (numbers_at (n + 1)) before after (numbers_bytes all) all
takes_one_more n ns all x before mid after is first next =
    let spelled = ap numbers_bytes is ∙ numbers_bytes-push ns x in
    record {
      taken = subst (Consumes before after) (sym spelled) (Consumes-trans before mid after (numbers_bytes ns) (number_bytes x) first.taken next.taken);
      reads = λ rest.
          ap (λ l. numbers_at (n + 1) (l ++ rest)) spelled
          ∙ ap (numbers_at (n + 1)) (append_assoc (numbers_bytes ns) (number_bytes x) rest)
          ∙ numbers_at-behind n 1 _ ns (number_bytes x ++ rest) (first.reads (number_bytes x ++ rest))
          ∙ ap (both (ns, number_bytes x ++ rest)) (numbers_at-one (number_bytes x ++ rest) rest x (next.reads rest))
          ∙ ap (λ l. Ok (l, rest)) (sym is);
    }

-- what is refused behind numbers is refused, where one more is wanted
pub passes_numbers : (n count : ℕ) (ns : List ℕ) (before mid : Option (List ℕ)) → n < count
    → TakesWhole (numbers_at n) before mid (numbers_bytes ns) ns → Passes (numbers_bytes ns) number_at (numbers_at count)
passes_numbers n count ns before mid within h = record {
  passes = λ rest reason refused.
      let m : ℕ = count - n - 1 in
      let sum : count ≡ n + suc m = omega arith in
      ap (λ k. numbers_at k (numbers_bytes ns ++ rest)) sum
      ∙ numbers_at-behind n (suc m) _ ns rest (h.reads rest)
      ∙ ap (both (ns, rest)) (numbers_at-refused m rest reason refused);
}
