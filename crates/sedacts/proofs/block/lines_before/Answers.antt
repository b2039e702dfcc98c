use Rattle.std.proofs.Common.{arith}
use Rattle.std.proofs.lemmas.Grind.{common_steps}
use Rattle.sedacts.proofs.BlockLemmas.{start_before, whole_first}
use Rattle.sedacts.proofs.block.lines_before.Goals as goal

pub returns-then-not-asks_last-clause-last : goal.returns-then-not-asks_last-clause-last
returns-then-not-asks_last-clause-last c = grind (arith, common_steps)

pub returns-then-not-asks_last-clause-within : goal.returns-then-not-asks_last-clause-within
returns-then-not-asks_last-clause-within c = start_before c.args.ahead.now _ c.args.end c.whole_lines-whole.ensures.within

pub returns-then-not-asks_last-clause-whole : goal.returns-then-not-asks_last-clause-whole
returns-then-not-asks_last-clause-whole c = whole_first c.args.ahead.now _ c.args.end c.whole_lines-whole.ensures.within c.whole_lines-whole.ensures.whole

pub returns-clause-whole : goal.returns-clause-whole
returns-clause-whole c = whole_first c.args.ahead.now _ _ c.whole_lines.ensures.within c.whole_lines.ensures.whole
