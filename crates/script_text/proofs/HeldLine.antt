-- A line that stands in the bytes that were read.
use Rattle.std.proofs.Common.{◌≡◌, ℕ, ◌+◌, ◌-◌, suc, List, [], ◌∷◌, ◌++◌, take, drop, Option, Some, None, sym, ap, ◌∙◌, arith, append_assoc, take-append-drop, drop-cons, drop-drop, length-take, add-one}
use Rattle.std.specs.Io.KnownBytes.{Consumes, prepend_known}
use Rattle.std.proofs.lemmas.List.{drop-take}
use Rattle.script_text.specs.Taking.{IsEndOfLine}

-- the bytes from s up to e begin with the line and its LF, and those behind it are left
pub held_taken : (s e n : ℕ) (bytes line : List ℕ) → IsEndOfLine (take (e - s) (drop s bytes)) n
    → take n line ≡ take n (take (e - s) (drop s bytes))
    → take (e - s) (drop s bytes) ≡ take n line ++ 10 ∷ take (e - (s + (n + 1))) (drop (s + (n + 1)) bytes)
held_taken s e n bytes line end copied =
    let held = take (e - s) (drop s bytes) in
    let left = e - (s + (n + 1)) in
    let size : e - s ≡ (n + 1) + left = omega (arith, length-take (e - s) (drop s bytes), end.within) in
    let behind : drop (n + 1) held ≡ take left (drop (s + (n + 1)) bytes) =
    ap (λ k. drop (n + 1) (take k (drop s bytes))) size ∙ drop-take (n + 1) left (drop s bytes) ∙ ap (take left) (drop-drop (n + 1) s bytes) in
    sym (take-append-drop n held)
    ∙ ap (λ (rest : List ℕ). take n held ++ rest) (drop-cons held n 0 end.within ∙ ap (λ b. b ∷ drop (suc n) held) end.lf)
    ∙ ap (λ (rest : List ℕ). take n held ++ 10 ∷ rest) (ap (λ k. drop k held) (sym (add-one n)) ∙ behind)
    ∙ ap (λ (front : List ℕ). front ++ 10 ∷ take left (drop (s + (n + 1)) bytes)) (sym copied)

-- what was taken of them was taken of what is ahead
pub held_consumed : (rest : Option (List ℕ)) (old line new : List ℕ) → old ≡ line ++ 10 ∷ new
    → Consumes (prepend_known old rest) (prepend_known new rest) (line ++ 10 ∷ [])
held_consumed None old line new e = tt
held_consumed (Some bytes) old line new e =
    ap (λ (held : List ℕ). held ++ bytes) e ∙ append_assoc line (10 ∷ new) bytes ∙ sym (append_assoc line (10 ∷ []) (new ++ bytes))
