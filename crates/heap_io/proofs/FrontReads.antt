-- What a read takes from the front of bytes.
use Rattle.std.proofs.Common.{◌≡◌, ℕ, ◌+◌, ◌<◌, List, [], ◌++◌, length, take, drop, min, ap, sym, ◌∙◌, arith}
use Rattle.std.proofs.lemmas.List.{drop-drop, take-append-drop, take-take, length-drop, length-take}
use Rattle.std.proofs.Math.ListN.{drop_of_length-le}

-- A read of as much as fits and as may be takes the front, and none only at the end.
pub reads_front : (rest bytes got buf : List ℕ) (at most front count : ℕ)
    → rest ≡ drop at bytes → 0 < most → 0 < length buf → front ≡ min (length rest) most
    → count ≡ min (length (take front rest)) (length buf) → got ≡ take count (take front rest)
    → (rest ≡ got ++ drop (at + count) bytes) × (count ≡ 0 → drop (at + count) bytes ≡ [])
reads_front rest bytes got buf at most front count left some room is fits taken =
    let few = length-take front rest in
    let same = taken ∙ take-take count front rest (omega (arith, few)) in (
      sym (take-append-drop count rest)
          ∙ ap (λ taken. taken ++ drop count rest) (sym same)
          ∙ ap (λ behind. got ++ behind) (ap (drop count) left ∙ drop-drop count at bytes),
      λ none. drop_of_length-le bytes (omega (arith, few, ap length left, length-drop at bytes)),
    )
