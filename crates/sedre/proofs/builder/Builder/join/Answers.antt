use Rattle.std.proofs.Common.{arith}
use Rattle.sedre.proofs.Stacked.{on_ok_map}
use Rattle.sedre.proofs.Represented.{represents_pieces, represents_join}
use Rattle.sedre.proofs.builder.Builder.join.Goals as goal

pub concatenate-requires : goal.concatenate-requires
concatenate-requires c = let h = represents_pieces c.requires.0 c.args.self.now c.requires.1 c.requires.2 in omega (arith, h)

pub returns : goal.returns
returns c = on_ok_map c.join_all.result _ _ (λ f limit s r none. (represents_join limit c.args.self.now s _ _ r none c.in_ok-concatenate.ensures.trees f, r.opened)) c.join_all.ensures.trees
