use Rattle.sedmatch.proofs.Words.{arith, expression_tree, same_test, AnswersMatch}
use Rattle.sedmatch.proofs.table_matcher.TableMatcher.is_match.Goals as goal

pub returns-clause-computed : goal.returns-clause-computed
returns-clause-computed c =
    let shown : AnswersMatch c.args.self.now c.args.text.now c.args.from c.args.steps.now c.match-self.steps c.match-self.result = grind (arith, c.match-self.branch, c.self.view_is, c.self.invariant) in
    same_test c.match-self.result (expression_tree c.args.self.now) c.args.text.now c.args.from c.requires.from shown.exact
