use Rattle.std.proofs.Common.{◌+◌, ℕ, List, drop, take, arith}
use Rattle.sedscript.specs.declared.items.Item.{Item}
use Rattle.sedscript.proofs.Blocks.{blocks_step, end_known}
use Rattle.sedscript.proofs.TargetFaults.{commands_step, operands_step}
use Rattle.sedscript.proofs.commands.commands_of.Goals as goal

pub items-preserved : goal.items-preserved
items-preserved c =
    let all : List Item = c.args.items.now in
    let k : ℕ = c.items.k in
    let i : Item = c.get-item.result in
    let at = c.get-item.ensures.is in
    let so_far = c.items.invariant in
    let end = end_known all c.args.targets.now.ends.items k c.items.blocks i c.block_end-end.result c.requires.targets.ends_are at so_far.blocks c.block_end-end.ensures in
    record {
      within = omega arith;
      few = omega (arith, c.opened-blocks.ensures.few, so_far.few);
      blocks = blocks_step all k c.items.blocks c.opened-blocks.result i at so_far.blocks c.opened-blocks.ensures.is;
      operands = operands_step c.args.text.now all k i c.items.operands c.add_operand.new.operands at so_far.operands
          c.in_ok-add_operand.ensures.texts (c.in_ok-add_operand.ensures.substitutions all c.requires.files) c.in_ok-add_operand.ensures.tables;
      rest = commands_step c.args.text.now all k i c.action_of-action.result c.items.commands.items c.add_command.new.commands.items _ at
          (c.action_of-action.ensures all (take k all) (drop (k + 1) all) c.requires.targets c.requires.files so_far.operands end) c.in_ok-add_command.ensures so_far.rest;
    }
