use Rattle.std.proofs.Common.{Some, refl, sym, ap, ◌∙◌}
use Rattle.object_header.proofs.HeaderLaws.{header_word-same, parts-word}
use Rattle.object_header.proofs.packing.unpack.Goals as goal

pub returns-clause-every : goal.returns-clause-every
returns-clause-every c = λ h e.
    ap Some
    (header_word-same _ h (parts-word c.args.word _ c.from_bits_retain.result.0 refl (c.from_bits_retain.ensures tt) ∙ sym e))
