-- Lines that are refused, one for each reason.
use Rattle.std.proofs.Common.{◌≡◌, ℕ, ◌≤◌, true, false, Some, None, [], ◌∷◌, refl, arith, length}
use Rattle.std.specs.Prelude.{nat_le, codes, Err}
use Rattle.std.proofs.lemmas.Bool.Decides.{nat_tests}
use Rattle.type_table.specs.declared.info.TypeInfo.{TypeInfo}
use Rattle.type_table.specs.Table.{value_at}
use Rattle.text_model.specs.declared.item.Item.TheVariants.{TypeDef}
use Rattle.text_model.specs.Script.{reading}
use Rattle.store_model.specs.Progress.{Progress}
use Rattle.store_model.specs.Refusal.{refusal, refusal_seen}
use Rattle.text_model.specs.declared.item.Reason.TheVariants.{NoType, NoRoot, WrongShape, NoItem, Range, Syntax, Late, SetTwice, SetRange, TypeTwice, NotPinned, NoQueue, Registered, StructUsed, HasPLink, NoStruct, StructPending, CountFull, CountZero, LineTooLong, TooManyLines, TooManyTypes}
use Rattle.store_model.proofs.Rows.{Refuses, refuses, computes}

refused01 : Refuses [] "new 0 1" [] NoType
unfolding computes
refused01 = refuses [] refl refl

refused02 : Refuses ("type 1 fixed 0 0" ∷ []) "new 256 1" [] NoRoot
unfolding computes
refused02 = refuses [] refl refl

refused03 : Refuses ("type 1 fixed 0 0" ∷ []) "new 0 1 3" [] WrongShape
unfolding computes
refused03 = refuses [] refl refl

refused04 : Refuses ("type 1 ints" ∷ "new 0 1 2" ∷ []) "put 0 2 1" ("new 1 young" ∷ []) NoItem
unfolding computes
refused04 = refuses [] refl refl

refused05 : Refuses ("type 1 ints" ∷ []) "new 0 1 16777217" [] Range
unfolding computes
refused05 = refuses [] refl refl

refused06 : Refuses ("type 1 fixed 1 0" ∷ "new 0 1" ∷ []) "put 0 0 18446744073709551616" ("new 1 young" ∷ []) Syntax
unfolding computes
refused06 = refuses [] refl refl

refused07 : Refuses ("type 1 refs" ∷ "new 0 1 2" ∷ []) "copyrefs 0 1 0 0 2" ("new 1 young" ∷ []) NoItem
unfolding computes
refused07 = refuses [] refl refl

refused08 : Refuses ("used" ∷ []) "set pins 1" ("used 0 0" ∷ []) Late
unfolding computes
refused08 = refuses [] refl refl

refused09 : Refuses ("set pins 1" ∷ []) "set pins 1" [] SetTwice
unfolding computes
refused09 = refuses [] refl refl

refused10 : Refuses [] "set pins 1025" [] SetRange
unfolding computes
refused10 = refuses [] refl refl

refused11 : Refuses ("type 1 ints" ∷ []) "type 1 refs" [] TypeTwice
unfolding computes
refused11 = refuses [] refl refl

refused12 : Refuses ("type 1 fixed 0 0" ∷ "new 0 1" ∷ []) "unpin 0" ("new 1 young" ∷ []) NotPinned
unfolding computes
refused12 = refuses [] refl refl

refused13 : Refuses ("type 1 fixed 0 0" ∷ "new 0 1" ∷ []) "register 0 4" ("new 1 young" ∷ []) NoQueue
unfolding computes
refused13 = refuses [] refl refl

refused14 : Refuses ("type 1 fixed 0 0" ∷ "new 0 1" ∷ "register 0 0" ∷ []) "register 0 1" ("new 1 young" ∷ []) Registered
unfolding computes
refused14 = refuses [] refl refl

refused15 : Refuses ("type 1 fixed 0 0" ∷ "new 0 1" ∷ "plink 1 0 plain 0" ∷ []) "olink 1 0 plain 0" ("new 1 young" ∷ []) StructUsed
unfolding computes
refused15 = refuses [] refl refl

refused16 : Refuses ("type 1 fixed 0 0" ∷ "new 0 1" ∷ "plink 1 0 plain 0" ∷ []) "plink 2 0 plain 0" ("new 1 young" ∷ []) HasPLink
unfolding computes
refused16 = refuses [] refl refl

refused17 : Refuses [] "inc 9" [] NoStruct
unfolding computes
refused17 = refuses [] refl refl

refused18 : Refuses ("type 1 fixed 0 0" ∷ "new 0 1" ∷ "plink 1 0 plain 0" ∷ "drop 0" ∷ "minor" ∷ []) "inc 1" ("new 1 young" ∷ "minor 0 1" ∷ "pending 1" ∷ []) StructPending
unfolding computes
refused18 = refuses [] refl refl

refused19 : Refuses ("type 1 fixed 0 0" ∷ "new 0 1" ∷ "olink 1 0 plain 4294967295" ∷ []) "inc 1" ("new 1 young" ∷ []) CountFull
unfolding computes
refused19 = refuses [] refl refl

refused20 : Refuses ("type 1 fixed 0 0" ∷ "new 0 1" ∷ "olink 1 0 plain 0" ∷ []) "dec 1" ("new 1 young" ∷ []) CountZero
unfolding computes
refused20 = refuses [] refl refl

refused21 : Refuses [] "drop  0" [] Syntax
unfolding computes
refused21 = refuses [] refl refl

refused22 : Refuses [] "xxxxxxxxxxxxxxxxxxxxxxxxxxxxxxxxxxxxxxxxxxxxxxxxxxxxxxxxxxxxxxxxxxxxxxxxxxxxxxxxxxxxxxxxxxxxxxxxxxxxxxxxxxxxxxxxxxxxxxxxxxxxxxxxxxxxxxxxxxxxxxxxxxxxxxxxxxxxxxxxxxxxxxxxxxxxxxxxxxxxxxxxxxxxxxxxxxxxxxxxx" [] LineTooLong
unfolding computes
refused22 = refuses [] refl refl

refused23 : reading 16000001 (codes "used") ≡ Err TooManyLines
unfolding computes
refused23 = refl

-- wherever 4,096 types are known before the first command, one more is refused
too_many_types : (at : Progress) (id : ℕ) (info : TypeInfo) → at.late ≡ false → value_at at.setup.types id ≡ None → 4096 ≤ length at.setup.types
    → refusal at (TypeDef id info) ≡ Some TooManyTypes
unfolding refusal_seen
too_many_types at id info early new many = let full : nat_le 4096 (length at.setup.types) ≡ true = grind (arith, nat_tests) in rw (early, new, full) refl
