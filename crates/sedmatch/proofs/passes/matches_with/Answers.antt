use Rattle.sedmatch.proofs.Words.{arith, rules, expression_tree, some_from}
use Rattle.sedmatch.proofs.passes.matches_with.Goals as goal

pub returns-in-AtStart-clause-matches : goal.returns-in-AtStart-clause-matches
returns-in-AtStart-clause-matches c =
    let begins = rw c.in-AtStart.is at c.hints-hints.ensures.begins in
    search (rules, begins c.args.text.now, c.in-Some.ensures.narrowed (expression_tree c.args.prepared.now) c.hints-hints.ensures, c.run.ensures, c.is_some.ensures, c.requires.tables)

pub returns-in_default-begins-clause-matches : goal.returns-in_default-begins-clause-matches
returns-in_default-begins-clause-matches c = grind (arith, some_from, c.in-Some.ensures.narrowed (expression_tree c.args.prepared.now) c.hints-hints.ensures)
