use Rattle.std.proofs.Common.{arith}
use Rattle.sedscript.proofs.Blocks.{blocks_step, end_known}
use Rattle.sedscript.proofs.TargetFaults.{target_fault_here, target_fault_step}
use Rattle.sedscript.proofs.commands.target_fault.Goals as goal

pub returns-then-is_some : goal.returns-then-is_some
returns-then-is_some c =
    let end = end_known c.args.items.now c.args.targets.now.ends.items c.items.k c.items.blocks c.get-item.result c.block_end.result c.requires.targets.ends_are c.get-item.ensures.is c.items.invariant.blocks c.block_end.ensures in
    target_fault_here c.args.text.now c.args.items.now c.items.k c.items.depth c.get-item.result c.target_fault_at-fault.result c.is_some.result _ c.get-item.ensures.is
    (c.target_fault_at-fault.ensures c.args.items.now c.requires.targets c.get-item.ensures.is end) c.is_some.ensures c.if-is_some.true c.items.invariant.rest

pub items-preserved : goal.items-preserved
items-preserved c =
    let end = end_known c.args.items.now c.args.targets.now.ends.items c.items.k c.items.blocks c.get-item.result c.block_end.result c.requires.targets.ends_are c.get-item.ensures.is c.items.invariant.blocks c.block_end.ensures in
    record {
      within = omega arith;
      few = omega (arith, c.opened-blocks.ensures.few);
      blocks = blocks_step c.args.items.now c.items.k c.items.blocks c.opened-blocks.result c.get-item.result c.get-item.ensures.is c.items.invariant.blocks c.opened-blocks.ensures.is;
      depth = omega (arith, c.depth_after-depth.ensures.few);
      rest = target_fault_step c.args.text.now c.args.items.now c.items.k c.items.depth c.depth_after-depth.result c.get-item.result c.target_fault_at-fault.result c.is_some.result _
          c.get-item.ensures.is (c.target_fault_at-fault.ensures c.args.items.now c.requires.targets c.get-item.ensures.is end) c.is_some.ensures c.if-is_some.false c.depth_after-depth.ensures.is c.items.invariant.rest;
    }
