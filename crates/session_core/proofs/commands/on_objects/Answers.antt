use Rattle.session_core.proofs.Performing.{told, quiet}
use Rattle.session_core.proofs.commands.on_objects.Goals as goal

pub returns-in_ok-value-in-Get-clause-performs : goal.returns-in_ok-value-in-Get-clause-performs
returns-in_ok-value-in-Get-clause-performs c =
    told c.args.heap.now c.args.heap.now c.args.command.now _ c.args.out.now.items _ c.push_reserved.new.self.items
    c.in-Get.is c.in_ok-value-in-Get.ensures.performs c.push_reserved.ensures.items

pub returns-in-Link-clause-performs : goal.returns-in-Link-clause-performs
returns-in-Link-clause-performs c =
    quiet c.args.heap.now c.link_found.new.self c.args.command.now _ c.args.out.now.items c.link_found.result c.in-Link.is c.link_found.ensures.performs

pub returns-in_ok-yes-in-Same-clause-performs : goal.returns-in_ok-yes-in-Same-clause-performs
returns-in_ok-yes-in-Same-clause-performs c =
    told c.args.heap.now c.args.heap.now c.args.command.now _ c.args.out.now.items _ c.push_reserved-in-Same.new.self.items
    c.in-Same.is c.in_ok-yes-in-Same.ensures.performs c.push_reserved-in-Same.ensures.items

pub returns-in_ok-kept-in-Used-clause-performs : goal.returns-in_ok-kept-in-Used-clause-performs
returns-in_ok-kept-in-Used-clause-performs c =
    told c.args.heap.now c.args.heap.now c.args.command.now _ c.args.out.now.items _ c.push_reserved-in-Used.new.self.items
    c.in-Used.is c.in_ok-kept-in-Used.ensures.performs c.push_reserved-in-Used.ensures.items

pub returns-in-CopyRefs-clause-performs : goal.returns-in-CopyRefs-clause-performs
returns-in-CopyRefs-clause-performs c =
    quiet c.args.heap.now c.copy_refs_found.new.self c.args.command.now _ c.args.out.now.items c.copy_refs_found.result c.in-CopyRefs.is c.copy_refs_found.ensures.performs
