-- A list is gone over, and what is read of each is appended.
use Rattle.std.proofs.Common.{◌≡◌, ℕ, ◌+◌, ◌<◌, List, [], ◌∷◌, ◌++◌, map, length, take, get_or, append_assoc, sym, ap, ◌∙◌}
use Rattle.std.proofs.lemmas.List.{map-append, take_more}

pub read_each : {X Y : Type 0} (f : X → Y) (xs : List X) (i : ℕ) (d : X) (old now new : List Y) → i < length xs
    → now ≡ old ++ map f (take i xs) → new ≡ now ++ f (get_or xs i d) ∷ [] → new ≡ old ++ map f (take (i + 1) xs)
read_each {X = X} {Y = Y} f xs i d old now new l was more =
    more ∙ (ap (λ (ys : List Y). ys ++ f (get_or xs i d) ∷ []) was ∙ (append_assoc old (map f (take i xs)) (f (get_or xs i d) ∷ [])
    ∙ ap (λ (ys : List Y). old ++ ys) (sym (ap (map f) (take_more xs i d l) ∙ map-append f (take i xs) (get_or xs i d ∷ [])))))
