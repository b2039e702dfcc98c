use Rattle.std.proofs.Common.{◌≡◌, ℕ, None, arith}
use Rattle.sedacts.proofs.Fitting.{keeps_trans}
use Rattle.sedacts.proofs.Occurrences.{ends_in, skips_none, skips_one}
use Rattle.sedacts.proofs.substitute.end_of_skipped.Goals as goal

pub returns-in_err-end-clause-skips : goal.returns-in_err-end-clause-skips
returns-in_err-end-clause-skips c =
    let none : c.from_residual.result ≡ None = cc in
    let l = c.occurrences in
    skips_none c.args.matcher.now c.args.text.now l.last l.counter c.args.count c.from_residual.result none (omega arith)
    l.invariant.last l.invariant.skipped (rw l.invariant.matcher at c.in_err-end.ensures.next.0)

pub occurrences-preserved : goal.occurrences-preserved
occurrences-preserved c =
    let l = c.occurrences in
    let span : ℕ × ℕ = (c.in_ok-end.field-0-0, c.in_ok-end.end) in
    record {
      matcher = cc;
      scratch = cc;
      kept = keeps_trans c.args.matcher.now c.args.seeking.now l.seeking _ l.invariant.kept (rw l.invariant.matcher at c.in_ok-end.ensures.serves.0);
      serves = rw l.invariant.matcher at c.in_ok-end.ensures.serves.1;
      grows = omega (arith, l.invariant.grows, c.in_ok-end.ensures.cost.0);
      no_groups = omega (arith, l.invariant.no_groups, c.in_ok-end.ensures.group_cost.0, c.in_ok-end.ensures.group_cost.1);
      cost = (let paid = rw l.invariant.matcher at c.in_ok-end.ensures.cost.1 in omega (arith, paid, l.invariant.cost));
      last = ends_in _ l.last span c.in_ok-end.ensures.next.1;
      skipped = skips_one c.args.matcher.now c.args.text.now l.last l.counter span l.invariant.last l.invariant.skipped
          (rw l.invariant.matcher at c.in_ok-end.ensures.next.0);
    }

pub returns-in_err-end-clause-serves : goal.returns-in_err-end-clause-serves
returns-in_err-end-clause-serves c =
    let none : c.from_residual.result ≡ None = cc in
    let i = c.occurrences.invariant in
    (keeps_trans c.args.matcher.now c.args.seeking.now c.occurrences.seeking _ i.kept (rw i.matcher at c.in_err-end.ensures.serves.0), rw none tt)
