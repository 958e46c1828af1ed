use Rattle.std.proofs.Common.{◌≡◌, ap, sym, ◌∙◌, drop, length, take, min}
use Rattle.std.specs.Prelude.{slice_get}
use Rattle.heap_io.specs.Memory.{bytes_or_none, left_of}
use Rattle.heap_io.proofs.FrontReads.{reads_front}
use Rattle.heap_io.proofs.memory.MemFilesFiles.read.Goals as goal

pub returns-clause-taken : goal.returns-clause-taken
returns-clause-taken c =
    let current = c.self.inside.current in
    let at = c.self.inside.at in
    let bytes = bytes_or_none (slice_get c.self.inside.files.items current) in
    let rest = c.args.self.now.rest in
    let front = c.min-front.result in
    let count = c.copy_front-count.result in
    let left : rest ≡ drop at bytes = ap (λ state. state.rest) (sym c.self.view_is) in
    let source : c.bytes_left-left.result.now ≡ rest =
    c.bytes_left-left.ensures.left
    ∙ ap (λ files. left_of files current at) c.deref.ensures.value
    ∙ sym left in
    let reads = reads_front rest bytes (take count c.copy_front-count.new.buf) c.args.buf.now at c.self.inside.most front count left c.self.invariant.2 c.requires
    (c.min-front.ensures ∙ ap (λ xs. min (length xs) c.self.inside.most) source)
    (c.copy_front-count.ensures.count ∙ ap (λ xs. min (length (take front xs)) (length c.args.buf.now)) source)
    (c.copy_front-count.ensures.bytes ∙ ap (λ xs. take count (take front xs)) source) in
    (reads.0, λ none room. reads.1 none)
