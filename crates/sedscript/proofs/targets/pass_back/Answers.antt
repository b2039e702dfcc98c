use Rattle.std.proofs.Common.{arith, sym, ◌∙◌}
use Rattle.sedscript.proofs.Blocks.{end_pushed, popped_top}
use Rattle.sedscript.proofs.targets.pass_back.Goals as goal

pub returns-in_ok-push-clause-ends : goal.returns-in_ok-push-clause-ends
returns-in_ok-push-clause-ends c = λ us es stack are.
    let top = popped_top us c.args.unopened.now.items c.pop.new.self.items _ _ c.pop.result stack c.pop.ensures.items (omega (arith, c.args.unopened.now.ok)) c.pop.ensures.cases in
    end_pushed us es c.args.ends.now.items c.push.new.self.items c.args.verb c.pop.result (sym c.is_open.ensures ∙ c.if-is_open.true) top are c.in_ok-push.ensures.items
