use Rattle.heap_parts.specs.contracts.parts.Parts.{the_view}
use Rattle.heap_core.proofs.Ready.{put_ready}
use Rattle.heap_core.proofs.WordCalls.{Opened, object_seen, int_written}
use Rattle.heap_core.proofs.tests.int_by_words.Goals as goal

pub view-v-requires : goal.view-v-requires
view-v-requires c =
    object_seen c.args.parts.now (the_view c.parts.inside) c.place-place.result c.args.root c.parts.view_is c.place-place.ensures
    (put_ready c.args.parts.now c.args.root c.args.i c.args.n c.requires).object.object

pub returns : goal.returns
returns c =
    int_written c.args.parts.now (the_view c.parts.inside) c.set_int.new.space c.view-v.result c.place-place.result c.args.root c.args.i c.args.n
    (record { is = c.parts.view_is; place_is = c.place-place.ensures; view_is = c.view-v.ensures.value }) c.requires c.set_int.ensures
