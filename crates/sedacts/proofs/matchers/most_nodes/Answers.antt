use Rattle.std.proofs.Common.{◌<◌, ◌≤◌, ◌∙◌, Some, length, arith, ap, sym}
use Rattle.sedre.specs.Tree.{WrittenExpression}
use Rattle.std.proofs.lemmas.Option.{slice_get-get_or, slice_get_within}
use Rattle.sedacts.proofs.Fitting.{fits_at, most_next}
use Rattle.sedacts.proofs.matchers.most_nodes.Goals as goal
use Rattle.sedacts.proofs.matchers.most_nodes.Goals.{then-most-nodes, else-most-nodes}

pub loop-matcher-preserved : goal.loop-matcher-preserved
loop-matcher-preserved c =
    let l = c.loop-matcher in
    let x = c.matcher-item.result in
    let es = c.args.matchers.now in
    let more = c.if-most-nodes.most in
    let inside : l.matcher-index < length es = omega arith in
    let fit = fits_at c.args.limit es l.matcher-index x inside c.matcher-item.is c.requires.fit in
    let is = slice_get-get_or es l.matcher-index x inside ∙ ap (λ (v : WrittenExpression). Some v) (sym c.matcher-item.is) in
    let facts : (l.most ≤ more) × (length x.nodes ≤ more) × (more ≤ 65536) =
    (elim c.if-most-nodes.branch [
      | then-most-nodes w ↦ (omega arith, omega arith, omega (arith, fit))
      | else-most-nodes w ↦ (omega arith, omega arith, omega (arith, l.invariant.few))
    ]) in
    record {
      some = omega (arith, l.invariant.some, facts.0);
      few = facts.2;
      most = most_next es l.matcher-index l.most more x is l.invariant.most facts.0 facts.1;
    }

pub returns-clause-most : goal.returns-clause-most
returns-clause-most c = λ i e is.
    let inside = slice_get_within c.args.matchers.now i e is in
    c.loop-matcher.invariant.most i e (omega arith) is
