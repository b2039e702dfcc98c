use Rattle.std.proofs.Common.{◌≡◌, ◌≤◌, Some, length, refl, arith}
use Rattle.sedacts.specs.Idle.{need_of}
use Rattle.sedacts.proofs.Walking.{one_more, walked_all, walked_none, walked_more}
use Rattle.sedacts.proofs.idle.idle_of.Goals as goal

pub walk-init : goal.walk-init
walk-init c = record { walked = walked_none _ _ _ refl refl refl; one = tt; few = omega arith }

pub walk-preserved : goal.walk-preserved
walk-preserved c =
    let needed : Some c.in-Some.need ≡ need_of c.args.script.now.substitutions (Some c.command-command.result.now) = cc in
    record {
      walked = walked_more _ _ _ _ c.command-command.result.now c.in-Some.need c.behind-next.result c.walk.invariant.walked c.command-command.ensures.is needed c.behind-next.ensures c.in_ok-note.ensures;
      one = one_more (length c.args.script.now.expressions) c.in-Some.need c.walk.idle.judged _ c.in-Some.ensures.within c.walk.invariant.one c.in_ok-note.ensures.judged;
      few = omega (arith, c.in_ok-note.ensures.reached);
    }

pub returns : goal.returns
returns c =
    let past : length c.args.script.now.commands ≤ c.walk.idle.place = omega arith in
    record { describes = walked_all c.args.script.now.commands c.args.script.now.substitutions c.walk.idle c.walk.invariant.walked past; judged = c.walk.invariant.one; few = c.walk.invariant.few }
