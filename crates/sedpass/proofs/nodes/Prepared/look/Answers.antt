use Rattle.sedpass.proofs.Words.{rules, seen-arena, seen-node, parts_below}
use Rattle.sedpass.proofs.nodes.Prepared.look.Goals as goal

pub returns : goal.returns
returns c = search (rules, parts_below, seen-node c.args.mirrored, seen-arena c.args.mirrored c.args.self.now (rw c.self.view_is at c.self.invariant.1).arena)
