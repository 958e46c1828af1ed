use Rattle.std.proofs.Common.{arith}
use Rattle.object_view.proofs.ViewLaws.{has_header, Reads, lies-read, fits-read, view-read, whole-read}
use Rattle.object_view.proofs.fields.view.Goals as goal

pub read-requires : goal.read-requires
read-requires c = (has_header c.args.space.now c.args.types.now c.args.a c.arena_words-ordered.ensures.ordered c.requires).header

pub overflow_add-a : goal.overflow_add-a
overflow_add-a c =
    let h = has_header c.args.space.now c.args.types.now c.args.a c.arena_words-ordered.ensures.ordered c.requires in
    omega (arith, h.fits, h.some)

pub read-birth-requires : goal.read-birth-requires
read-birth-requires c = (has_header c.args.space.now c.args.types.now c.args.a c.arena_words-ordered.ensures.ordered c.requires).birth

pub length_of-len-requires : goal.length_of-len-requires
length_of-len-requires c =
    let r : Reads c.args.space.now c.args.types.now c.args.a c.read.result c.type_id-type_id.result c.info_of-info.result =
    record { header = c.read.ensures; type_read = c.type_id-type_id.ensures; found = c.info_of-info.ensures } in
    lies-read r c.requires

pub parts-requires : goal.parts-requires
parts-requires c =
    let r : Reads c.args.space.now c.args.types.now c.args.a c.read.result c.type_id-type_id.result c.info_of-info.result =
    record { header = c.read.ensures; type_read = c.type_id-type_id.ensures; found = c.info_of-info.ensures } in
    fits-read c.length_of-len.result r c.arena_words-ordered.ensures.ordered c.requires c.length_of-len.ensures

pub returns-clause-value : goal.returns-clause-value
returns-clause-value c =
    let r : Reads c.args.space.now c.args.types.now c.args.a c.read.result c.type_id-type_id.result c.info_of-info.result =
    record { header = c.read.ensures; type_read = c.type_id-type_id.ensures; found = c.info_of-info.ensures } in
    view-read c.length_of-len.result c.read-birth.result c.parts.result r c.read-birth.ensures c.length_of-len.ensures c.parts.ensures

pub returns-clause-whole : goal.returns-clause-whole
returns-clause-whole c =
    let r : Reads c.args.space.now c.args.types.now c.args.a c.read.result c.type_id-type_id.result c.info_of-info.result =
    record { header = c.read.ensures; type_read = c.type_id-type_id.ensures; found = c.info_of-info.ensures } in
    whole-read c.args.space.now c.args.types.now c.args.a c.parts.result c.arena_words-ordered.ensures.ordered c.requires
    (view-read c.length_of-len.result c.read-birth.result c.parts.result r c.read-birth.ensures c.length_of-len.ensures c.parts.ensures)
