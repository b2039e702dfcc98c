use Rattle.std.proofs.Common.{◌≡◌, ◌⊎◌, ℕ, sym, subst, Ok}
use Rattle.sedscript.specs.declared.types.ScriptFault.{ScriptFault}
use Rattle.sedscript.specs.declared.types.TheConstants.{NO_MEMORY}
use Rattle.sedscript.specs.Items.{plainly, expression}
use Rattle.sedscript.specs.FirstFault.{Fails}
use Rattle.sedscript.proofs.Coming.{fails_as_read, copy_comes, copy_adds_one}
use Rattle.sedscript.proofs.expressions.expression_at.Goals as goal

pub returns-in-Err-clause-comes : goal.returns-in-Err-clause-comes
returns-in-Err-clause-comes c =
    subst (λ (x : ScriptFault). Fails c.args.source.now.text.now c.args.source.now.kind c.args.source.now.max_nodes (expression (record { from = c.args.from; to = c.args.to; delimiter = c.args.delimiter; folded = c.args.folded }) (λ (groups : ℕ). plainly (Ok groups))) x ⊎ (x ≡ NO_MEMORY)) (sym c.fault_of.ensures)
    (fails_as_read c.args.source.now.text.now c.args.source.now.kind c.args.source.now.max_nodes (record { from = c.args.from; to = c.args.to; delimiter = c.args.delimiter; folded = c.args.folded }) (λ (groups : ℕ). plainly (Ok groups)) c.in-Err.fault c.in-Err.ensures.fault)

pub returns-in-Ok-clause-comes : goal.returns-in-Ok-clause-comes
returns-in-Ok-clause-comes c =
    copy_comes c.args.source.now.text.now c.args.source.now.kind c.args.source.now.max_nodes (record { from = c.args.from; to = c.args.to; delimiter = c.args.delimiter; folded = c.args.folded }) c.args.exprs.now.items c.add_copy.new.exprs.items c.in-Ok.expr c.add_copy.result
    (record { reads = c.in-Ok.ensures.reads; no_fault = c.in-Ok.ensures.no_fault; fits = c.in-Ok.ensures.fits }) c.add_copy.ensures.added c.add_copy.ensures.memory

pub returns-in-Ok-clause-one : goal.returns-in-Ok-clause-one
returns-in-Ok-clause-one c = copy_adds_one c.args.exprs.now.items c.add_copy.new.exprs.items c.in-Ok.expr c.add_copy.result c.add_copy.ensures.added
