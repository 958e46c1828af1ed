use Rattle.std.proofs.Common.{◌∙◌, sym, ap}
use Rattle.object_view.proofs.ViewLaws.{has_header, Reads, lies-read, fits-read, words-read}
use Rattle.object_view.proofs.fields.words_of.Goals as goal

pub read-requires : goal.read-requires
read-requires c = (has_header c.args.space.now c.args.types.now c.args.a c.arena_words-ordered.ensures.ordered c.requires).header

pub length_of-len-requires : goal.length_of-len-requires
length_of-len-requires c =
    let r : Reads c.args.space.now c.args.types.now c.args.a c.read.result c.type_id-type_id.result c.info_of-info.result =
    record { header = c.read.ensures; type_read = c.type_id-type_id.ensures; found = c.info_of-info.ensures } in
    lies-read r c.requires

pub shape_words-requires : goal.shape_words-requires
shape_words-requires c =
    let r : Reads c.args.space.now c.args.types.now c.args.a c.read.result c.type_id-type_id.result c.info_of-info.result =
    record { header = c.read.ensures; type_read = c.type_id-type_id.ensures; found = c.info_of-info.ensures } in
    fits-read c.length_of-len.result r c.arena_words-ordered.ensures.ordered c.requires c.length_of-len.ensures

pub returns : goal.returns
returns c =
    let r : Reads c.args.space.now c.args.types.now c.args.a c.read.result c.type_id-type_id.result c.info_of-info.result =
    record { header = c.read.ensures; type_read = c.type_id-type_id.ensures; found = c.info_of-info.ensures } in
    c.shape_words.ensures ∙ words-read c.length_of-len.result r c.length_of-len.ensures
