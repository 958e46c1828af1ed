use Rattle.std.proofs.Common.{arith}
use Rattle.memory_tests.proofs.ObjectLaws.{has_header, has_birth, object_blocks, object_header, object_rest}
use Rattle.memory_tests.proofs.pages.write_object.Goals as goal

pub write-requires : goal.write-requires
write-requires c = has_header c.args.pages.now c.args.space.now c.args.block 10 c.requires (omega arith)

pub write-requires-2 : goal.write-requires-2
write-requires-2 c =
    has_birth c.args.pages.now c.args.space.now c.write.new.self c.args.block 10 c.args.header c.requires (omega arith) c.write.ensures

pub returns-clause-blocks : goal.returns-clause-blocks
returns-clause-blocks c = object_blocks c.args.pages.now c.args.space.now c.write.new.self c.write-2.new.self c.args.block 10 c.args.header c.args.birth c.requires (omega arith) c.write.ensures c.write-2.ensures

pub returns-clause-header : goal.returns-clause-header
returns-clause-header c = object_header c.args.pages.now c.args.space.now c.write.new.self c.write-2.new.self c.args.block 10 c.args.header c.args.birth c.requires (omega arith) c.write.ensures c.write-2.ensures

pub returns-clause-rest : goal.returns-clause-rest
returns-clause-rest c = object_rest c.args.pages.now c.args.space.now c.write.new.self c.write-2.new.self c.args.block 10 c.args.header c.args.birth c.requires (omega arith) c.write.ensures c.write-2.ensures
