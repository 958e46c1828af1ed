use Rattle.std.proofs.Common.{◌≡◌, take}
use Rattle.std.specs.Prelude.{sum_by}
use Rattle.minor_collect.specs.Remade.{words_of}
use Rattle.minor_collect.proofs.ending.count_words.Given as goal

abbrev pub invariant-loop-p : goal.invariant-loop-p
invariant-loop-p l = l.words ≡ sum_by (words_of l.parts) (take l.p-index l.places)
