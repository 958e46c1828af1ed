use Rattle.std.proofs.Common.{refl}
use Rattle.session_core.proofs.Collecting.{birth_ends, collection_ends}
use Rattle.session_core.proofs.commands.do_command.Goals as goal

pub returns-in-NewFixed : goal.returns-in-NewFixed
returns-in-NewFixed c =
    birth_ends c.args.heap.now c.new_fixed_of.new.self c.args.command.now _ c.args.out.now.items c.new_fixed_of.new.out.items c.new_fixed_of.result c.in-NewFixed.is refl c.requires.alive c.new_fixed_of.ensures.answers

pub returns-in-NewArray : goal.returns-in-NewArray
returns-in-NewArray c =
    birth_ends c.args.heap.now c.new_array_of.new.self c.args.command.now _ c.args.out.now.items c.new_array_of.new.out.items c.new_array_of.result c.in-NewArray.is refl c.requires.alive c.new_array_of.ensures.answers

pub returns-in-NewWeak : goal.returns-in-NewWeak
returns-in-NewWeak c =
    birth_ends c.args.heap.now c.new_weak_of.new.self c.args.command.now _ c.args.out.now.items c.new_weak_of.new.out.items c.new_weak_of.result c.in-NewWeak.is refl c.requires.alive c.new_weak_of.ensures.answers

pub returns-in-Minor : goal.returns-in-Minor
returns-in-Minor c =
    collection_ends c.args.heap.now c.minor.new.self c.args.command.now _ c.args.out.now.items c.minor.new.out.items c.minor.result c.in-Minor.is c.requires.alive
    c.minor.ensures.performs c.minor.ensures.err c.minor.ensures.err_out c.minor.ensures.cause

pub returns-in-Step : goal.returns-in-Step
returns-in-Step c =
    collection_ends c.args.heap.now c.step.new.self c.args.command.now _ c.args.out.now.items c.step.new.out.items c.step.result c.in-Step.is c.requires.alive
    c.step.ensures.performs c.step.ensures.err c.step.ensures.err_out c.step.ensures.cause

pub returns-in-Collect : goal.returns-in-Collect
returns-in-Collect c =
    collection_ends c.args.heap.now c.collect.new.self c.args.command.now _ c.args.out.now.items c.collect.new.out.items c.collect.result c.in-Collect.is c.requires.alive
    c.collect.ensures.performs c.collect.ensures.err c.collect.ensures.err_out c.collect.ensures.cause
