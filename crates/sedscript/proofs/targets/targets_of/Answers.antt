use Rattle.std.proofs.Common.{arith}
use Rattle.sedscript.proofs.Labels.{counted_step, labels_step}
use Rattle.sedscript.proofs.targets.targets_of.Goals as goal

pub items-preserved : goal.items-preserved
items-preserved c = record {
  within = omega arith;
  few = omega (arith, c.counted-commands.ensures.few);
  counted = counted_step c.args.items.now c.items.k c.items.commands c.counted-commands.result c.get-item.result c.get-item.ensures.is c.items.invariant.counted c.counted-commands.ensures.is;
  labels = labels_step c.args.text.now c.args.items.now c.items.k c.items.commands c.get-item.result c.items.labels c.add_label.new.labels c.get-item.ensures.is c.items.invariant.counted c.items.invariant.labels c.in_ok-add_label.ensures;
}
