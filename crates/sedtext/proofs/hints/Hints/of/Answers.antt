use Rattle.sedtext.proofs.Words.{expression_tree}
use Rattle.sedtext.proofs.hints.Hints.of.Goals as goal

pub returns : goal.returns
returns c = record { begins = c.in_ok-begins.ensures.begins; required = c.in_ok-required.ensures.required c.args.expr.now.nodes (expression_tree c.args.expr.now) c.requires.chain }
