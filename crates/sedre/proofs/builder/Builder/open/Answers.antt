use Rattle.std.proofs.Common.{arith, refl}
use Rattle.sedre.proofs.Represented.{represents_open}
use Rattle.sedre.proofs.builder.Builder.open.Goals as goal

pub returns-clause-state : goal.returns-clause-state
returns-clause-state c = λ limit s r can. represents_open limit c.args.self.now _ s r refl refl refl (omega (arith, c.len.ensures)) (omega (arith, c.len-2.ensures)) c.in_ok-push.ensures.items
