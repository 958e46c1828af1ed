-- A reader at a script's beginning.
use Rattle.std.proofs.Common.{◌≡◌, ℕ, true, false, List, [], Option, refl, sym, ap, ◌∙◌, subst}
use Rattle.std.specs.Io.KnownBytes.{Consumes, prepend_known}
use Rattle.std.proofs.lemmas.Bool.{both_ways}
use Rattle.text_model.specs.Binary.{binary_mark}
use Rattle.script_text.specs.Reader.{ReaderState}
use Rattle.script_text.specs.Mark.{TestsMark}
use Rattle.script_binary.specs.Reader.{BinState}
use Rattle.script_convert.specs.Reader.{HandedLines, HandedRecords, MayReadLine, MayReadRecord}
use Rattle.script_convert.proofs.LinesRead.{lines_from}
use Rattle.script_convert.proofs.RecordsRead.{records_from}

pub begins_lines : (script rest : Option (List ℕ)) (held : List ℕ) (reader : ReaderState) → reader ≡ record { held = held; count = 0; ended = false }
    → TestsMark script (prepend_known held rest) false → HandedLines script rest reader [] × MayReadLine reader rest 0
begins_lines script rest held reader is tests = rw is (
  lines_from script rest (record { held = held; count = 0; ended = false }) tests.0 refl tests.1,
  (refl, λ e. absurd (both_ways false refl e)),
)

pub begins_records : (script rest : Option (List ℕ)) (held : List ℕ) (reader : BinState) → reader ≡ record { held = held; count = 0; ended = false }
    → TestsMark script (prepend_known held rest) true → HandedRecords script rest reader [] × MayReadRecord reader 0
begins_records script rest held reader is tests = rw is (
  records_from script rest (record { held = held; count = 0; ended = false }) refl tests,
  (refl, refl),
)
