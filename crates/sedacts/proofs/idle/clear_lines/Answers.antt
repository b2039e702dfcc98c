use Rattle.std.proofs.Common.{◌≡◌, ℕ, false, get_or, refl, subst, arith, rules}
use Rattle.sedacts.specs.Idle.{AsksNoNumber}
use Rattle.sedacts.proofs.Walking.{cleared_none, cleared_more}
use Rattle.sedacts.proofs.idle.clear_lines.Goals as goal

pub walk-init : goal.walk-init
walk-init c = cleared_none _ _ _ _ _

pub walk-preserved : goal.walk-preserved
walk-preserved c =
    let idle : get_or c.args.ranges.now c.walk.place false ≡ false = search rules in
    cleared_more _ _ _ _ c.walk.j _ c.walk.place _ _ c.walk.most c.command-command.result.now c.walk.invariant refl c.command-command.ensures.is idle c.behind-place.ensures c.clear_of-most.ensures.fewer c.clear_of-most.ensures.clear

pub returns-clause-clear : goal.returns-clause-clear
returns-clause-clear c =
    let all : c.walk.j ≡ c.args.reached = omega arith in
    subst (λ (j : ℕ). AsksNoNumber c.args.script.now.commands c.args.script.now.substitutions j c.args.number c.walk.most) all c.walk.invariant.clear
