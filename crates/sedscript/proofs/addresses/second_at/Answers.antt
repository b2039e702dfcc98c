use Rattle.std.proofs.Common.{length}
use Rattle.sedscript.specs.Answers.{as_headed}
use Rattle.sedscript.specs.Items.{plainly, Addressed, address_at, second_at, with_second}
use Rattle.sedscript.proofs.Coming.{comes_err, comes_as_err, no_second, second_comes}
use Rattle.sedscript.proofs.addresses.second_at.Goals as goal

pub returns-in_err-second-clause-comes : goal.returns-in_err-second-clause-comes
unfolding second_at
returns-in_err-second-clause-comes c =
    comes_as_err c.args.source.now.text.now c.args.source.now.kind c.args.source.now.max_nodes _ _ as_headed c.from_residual.result _ c.in_err-second.field-0.0 c.from_residual.ensures.1
    (comes_err c.args.source.now.text.now c.args.source.now.kind c.args.source.now.max_nodes (address_at c.args.source.now.text.now (length c.args.exprs.now.items) c.args.at) (λ (x : Addressed). plainly (with_second c.args.first c.args.at x x.address)) c.in_err-second.field-0.0 c.in_err-second.ensures.comes)

pub returns-in-None-clause-comes : goal.returns-in-None-clause-comes
returns-in-None-clause-comes c = rw c.at.ensures (no_second c.args.source.now.text.now c.args.source.now.kind c.args.source.now.max_nodes c.args.first c.args.at _ _ c.args.exprs.now.items c.address_at.new.exprs.items c.in_ok-second.ensures.comes c.in-None.is)

pub returns-in-Some-clause-comes : goal.returns-in-Some-clause-comes
returns-in-Some-clause-comes c =
    second_comes c.args.source.now.text.now c.args.source.now.kind c.args.source.now.max_nodes c.args.first c.args.at _ _ _ c.args.exprs.now.items c.address_at.new.exprs.items c.addresses_of.result c.in_ok-second.ensures.comes c.in-Some.is c.addresses_of.ensures
