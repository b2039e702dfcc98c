use Rattle.std.proofs.Common.{arith}
use Rattle.sedscript.specs.Packed.{no_addresses}
use Rattle.sedscript.proofs.Packing.{added_last}
use Rattle.sedscript.proofs.packed.keep_addresses.Goals as goal

pub returns-in_ok-push-in_default-clause-kept : goal.returns-in_ok-push-in_default-clause-kept
returns-in_ok-push-in_default-clause-kept c =
    added_last c.args.listed_addresses.now.items c.push.new.self.items c.args.addresses no_addresses c.len-at.result c.in_ok-push-in_default.ensures.items (omega (arith, c.len-at.ensures, c.args.listed_addresses.now.ok))
