use Rattle.std.proofs.Common.{refl}
use Rattle.sedre.proofs.Stacked.{on_ok_map}
use Rattle.sedre.proofs.Represented.{represents_repeat}
use Rattle.sedre.proofs.builder.Builder.repeat.Goals as goal

pub returns-clause-state : goal.returns-clause-state
returns-clause-state c = on_ok_map c.repeat.result _ _ (λ f limit s r can. represents_repeat limit c.args.least c.args.most c.args.self.now _ s can.0 r f refl refl refl) c.repeat.ensures.trees
