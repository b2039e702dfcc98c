use Rattle.std.proofs.Common.{arith, refl}
use Rattle.sedre.proofs.Represented.{represents_bar}
use Rattle.sedre.proofs.builder.Builder.bar.Goals as goal

pub returns-clause-state : goal.returns-clause-state
returns-clause-state c = λ limit s r can. represents_bar limit c.args.self.now _ s r c.in_ok-concatenate.ensures.trees refl refl refl (omega (arith, c.len-self.ensures)) refl
