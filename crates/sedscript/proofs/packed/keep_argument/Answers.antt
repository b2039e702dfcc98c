use Rattle.std.proofs.Common.{arith}
use Rattle.sedscript.specs.declared.items.Argument.TheVariants.{Nothing}
use Rattle.sedscript.proofs.Packing.{added_last}
use Rattle.sedscript.proofs.packed.keep_argument.Goals as goal

pub returns-in_ok-push-in_default-clause-kept : goal.returns-in_ok-push-in_default-clause-kept
returns-in_ok-push-in_default-clause-kept c =
    added_last c.args.listed_arguments.now.items c.push.new.self.items c.args.argument Nothing c.len-at.result c.in_ok-push-in_default.ensures.items (omega (arith, c.len-at.ensures, c.args.listed_arguments.now.ok))
