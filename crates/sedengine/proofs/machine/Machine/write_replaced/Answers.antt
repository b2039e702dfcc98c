use Rattle.std.proofs.Common.{append-nil}
use Rattle.std.proofs.lemmas.Result.{err_from_is_err_and}
use Rattle.sedacts.specs.Move.{line_to}
use Rattle.sedengine.proofs.SubstituteMoves.{of_one}
use Rattle.sedacts.proofs.Writing.{writes_first, writes_none, writes_then}
use Rattle.sedengine.proofs.machine.Machine.write_replaced.Goals as goal

pub returns-in-false-None : goal.returns-in-false-None
returns-in-false-None g c =
    let is = of_one c.self.inside c.args.self.now c.args.k c.substitution-substitution.result.now c.self.view_is c.substitution-substitution.ensures.is in
    rw (is, c.in-false-None.is-0, c.in-false-None.is-1) writes_none

pub returns-in-false-Some : goal.returns-in-false-Some
returns-in-false-Some g c =
    let is = of_one c.self.inside c.args.self.now c.args.k c.substitution-substitution.result.now c.self.view_is c.substitution-substitution.ensures.is in
    rw (is, c.in-false-Some.is-0, c.in-false-Some.is-1) c.act_write-in-false-Some.ensures

pub returns-in-true-None : goal.returns-in-true-None
returns-in-true-None g c =
    let is = of_one c.self.inside c.args.self.now c.args.k c.substitution-substitution.result.now c.self.view_is c.substitution-substitution.ensures.is in
    rw (is, c.in-true-None.is-0, c.in-true-None.is-1, append-nil) c.act_write.ensures

pub returns-in_ok-act_write-in-true-Some : goal.returns-in_ok-act_write-in-true-Some
returns-in_ok-act_write-in-true-Some g c =
    let is = of_one c.self.inside c.args.self.now c.args.k c.substitution-substitution.result.now c.self.view_is c.substitution-substitution.ensures.is in
    let w = c.args.self.now.state.pattern in
    rw (is, c.in-true-Some.is-0, c.in-true-Some.is-1) (writes_then (line_to 0 w) (line_to c.in-true-Some.sink w) c.in_ok-act_write-in-true-Some.ensures c.act_write-in-true-Some-2.ensures)

pub returns-in_err-act_write-in-true-Some : goal.returns-in_err-act_write-in-true-Some
returns-in_err-act_write-in-true-Some g c =
    let is = of_one c.self.inside c.args.self.now c.args.k c.substitution-substitution.result.now c.self.view_is c.substitution-substitution.ensures.is in
    let w = c.args.self.now.state.pattern in
    let p = err_from_is_err_and c.from_residual.result c.from_residual.ensures.1 in
    rw (p.1, p.2, is, c.in-true-Some.is-0, c.in-true-Some.is-1) (writes_first (line_to 0 w) (line_to c.in-true-Some.sink w) c.in_err-act_write-in-true-Some.ensures)
