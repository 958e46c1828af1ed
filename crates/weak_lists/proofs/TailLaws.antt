-- A list whose end was written over, as a write through a slice leaves it.
use Rattle.std.proofs.Common.{◌≡◌, ℕ, ◌-◌, ◌≤◌, List, [], ◌++◌, length, take, drop, arith, sym, ◌∙◌, ap, subst, length-append, length-drop, append-nil}
use Rattle.std.proofs.lemmas.List.{take-append-le, take_all, drop_all, length-take-le}
use borrow.Rule.Slice.PartMut.{put_mid, post_of}

put_end : (from : ℕ) (ys zs : List ℕ) → put_mid from (length ys - from) ys zs ≡ take from ys ++ zs
put_end from ys zs =
    let none : post_of from (length ys - from) ys ≡ [] =
    drop_all (length ys - from) (drop from ys) (omega (arith, length-drop from ys)) in
    ap (λ (t : List ℕ). take from ys ++ (zs ++ t)) none ∙ ap (λ (t : List ℕ). take from ys ++ t) (append-nil zs)

front_of : (len : ℕ) (all ys : List ℕ) → len ≡ length all → take len (all ++ drop (length all) ys) ≡ all
front_of len all ys e =
    take-append-le len all (drop (length all) ys) (omega arith) ∙ take_all len all (omega arith)

-- what was written stands behind the words before it
pub end_written : (from len : ℕ) (xs ys zs : List ℕ) → xs ≡ ys → from ≤ length ys → len ≡ length ys
    → length zs ≡ length xs - from
    → take len (put_mid from (length xs - from) xs zs ++ drop (length (put_mid from (length xs - from) xs zs)) ys)
    ≡ take from ys ++ zs
end_written from len xs ys zs e l n k =
    let P : List ℕ → Type 0 = λ vs. take len (put_mid from (length vs - from) vs zs ++ drop (length (put_mid from (length vs - from) vs zs)) ys) ≡ take from ys ++ zs in
    let Q : List ℕ → Type 0 = λ all. take len (all ++ drop (length all) ys) ≡ take from ys ++ zs in
    let size : length (take from ys ++ zs) ≡ len =
    length-append (take from ys) zs ∙ omega (arith, length-take-le from ys l, ap length e) in
    subst P (sym e) (subst Q (sym (put_end from ys zs)) (front_of len (take from ys ++ zs) ys (sym size)))

-- the parts of such a list
pub take-parts : (from : ℕ) (ys zs : List ℕ) → from ≤ length ys → take from (take from ys ++ zs) ≡ take from ys
take-parts from ys zs l =
    let size = length-take-le from ys l in
    take-append-le from (take from ys) zs (omega arith) ∙ take_all from (take from ys) (omega arith)
