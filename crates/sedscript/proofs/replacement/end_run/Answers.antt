use Rattle.sedscript.proofs.Pieces.{run_ended}
use Rattle.sedscript.proofs.replacement.end_run.Goals as goal

pub returns-in_ok-push : goal.returns-in_ok-push
returns-in_ok-push c = run_ended c.args.parts.now.items c.push.new.self.items c.args.run c.in_ok-push.ensures.items
