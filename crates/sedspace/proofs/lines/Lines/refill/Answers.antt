use Rattle.std.proofs.Common.{arith, rules, ap, option_map, ◌∙◌}
use Rattle.std.proofs.lemmas.Grind.{common_steps}
use Rattle.sedspace.specs.FailureCounts.{raised}
use Rattle.sedspace.proofs.ReadCounts.{RisesAtMost-once}
use Rattle.sedspace.proofs.lines.Lines.refill.Goals as goal

pub returns-clause-left : goal.returns-clause-left
returns-clause-left g c = grind (arith, common_steps)

pub returns-clause-taken : goal.returns-clause-taken
returns-clause-taken g c = grind (arith, common_steps)

pub returns-clause-reads : goal.returns-clause-reads
returns-clause-reads g c = (grind (arith, common_steps), search rules, search rules)

pub returns-clause-once : goal.returns-clause-once
returns-clause-once g c =
    RisesAtMost-once (g.R.ByteSource.reads c.args.self.now.source) (g.R.ByteSource.reads c.read.new.self)
    (c.read.ensures.counted ∙ ap (λ z. option_map raised (g.R.ByteSource.reads z.source)) c.self.view_is)
