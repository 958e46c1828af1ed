use Rattle.std.proofs.Common.{◌≡◌, Some, true, arith, ap, refl, rules, sym, ◌∙◌}
use Rattle.std.specs.Prelude.{bytes_eq, slice_get}
use Rattle.std.proofs.lemmas.Option.{slice_get_read}
use Rattle.heap_io.proofs.Lookup.{bytes_of-here}
use Rattle.heap_io.specs.Memory.{bytes_or_none}
use Rattle.heap_io.proofs.memory.index_of.Goals as goal

pub returns-then-eq-clause-found : goal.returns-then-eq-clause-found
returns-then-eq-clause-found c =
    let files = c.args.files.now in
    let name = c.args.name.now in
    let index = c.loop-index.index in
    let file = c.index-files-index.result in
    let found : slice_get files index ≡ Some file =
    slice_get_read files _ index file refl (omega arith) c.index-files-index.is in
    let named : bytes_eq file.name name ≡ true = search rules in
    ap (λ entry. Some (bytes_or_none entry)) found
    ∙ sym (bytes_of-here files index name file found named)
    ∙ c.loop-index.invariant
