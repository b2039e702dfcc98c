use Rattle.std.proofs.Common.{refl}
use Rattle.sedre.proofs.Represented.{represents_close}
use Rattle.sedre.proofs.Written.{popped}
use Rattle.sedre.proofs.builder.Builder.close.Goals as goal

pub returns-clause-state : goal.returns-clause-state
returns-clause-state c = λ limit s r can. represents_close limit c.args.self.now _ s _ _ r c.in_ok-concatenate.ensures.trees c.in_ok-join_all.ensures.trees c.in_ok-cover.ensures.trees refl
    (popped _ _ _ _ c.pop.ensures.items c.unwrap-self.ensures)
