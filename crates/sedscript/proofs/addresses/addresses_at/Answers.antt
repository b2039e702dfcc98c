use Rattle.std.proofs.Common.{length}
use Rattle.sedscript.specs.Answers.{as_headed}
use Rattle.sedscript.specs.Items.{Addressed, address_at, addresses_at, after_first}
use Rattle.sedscript.proofs.Coming.{comes_then, comes_err, comes_as_err}
use Rattle.sedscript.proofs.addresses.addresses_at.Goals as goal

pub returns-in_err-first-clause-comes : goal.returns-in_err-first-clause-comes
unfolding addresses_at
returns-in_err-first-clause-comes c =
    comes_as_err c.args.source.now.text.now c.args.source.now.kind c.args.source.now.max_nodes _ _ as_headed c.from_residual.result _ c.in_err-first.field-0.0 c.from_residual.ensures.1
    (comes_err c.args.source.now.text.now c.args.source.now.kind c.args.source.now.max_nodes (address_at c.args.source.now.text.now (length c.args.exprs.now.items) c.args.at) (λ (x : Addressed). after_first c.args.source.now.text.now x.count x.at x.address) c.in_err-first.field-0.0 c.in_err-first.ensures.comes)

pub returns-clause-comes : goal.returns-clause-comes
unfolding addresses_at
returns-clause-comes c =
    comes_then c.args.source.now.text.now c.args.source.now.kind c.args.source.now.max_nodes _ c.address_at.new.exprs.items _ (address_at c.args.source.now.text.now (length c.args.exprs.now.items) c.args.at) (λ (x : Addressed). after_first c.args.source.now.text.now x.count x.at x.address) _ as_headed _ c.in_ok-first.ensures.comes c.after_first.ensures.comes
