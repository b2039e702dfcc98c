use Rattle.sedpass.proofs.Words.{rules, slice_get_within}
use Rattle.sedpass.proofs.FactLemmas.{null_both, null_either, length_short}
use Rattle.sedpass.proofs.nodes.facts_of.Goals as goal

pub returns-in-Seq : goal.returns-in-Seq
returns-in-Seq c nodes groups expr facts is =
    rw c.in-Seq.is (search (rules, null_both, length_short, facts _ _ c.of_part-left.ensures, facts _ _ c.of_part-right.ensures, expr.ranges _ _ (rw c.in-Seq.is at is), slice_get_within nodes _ _ is, expr.sizes c.in-Seq.a.index, expr.few))

pub returns-in-Alt : goal.returns-in-Alt
returns-in-Alt c nodes groups expr facts is =
    rw c.in-Alt.is (search (rules, null_either, expr.ranges _ _ (rw c.in-Alt.is at is), facts _ _ c.of_part-left-in-Alt.ensures, facts _ _ c.of_part-right-in-Alt.ensures))

pub returns-in-Group : goal.returns-in-Group
returns-in-Group c nodes groups expr facts is = rw c.in-Group.is (search (rules, expr.ranges _ _ (rw c.in-Group.is at is), facts _ _ c.of_part-part.ensures))

pub returns-in-Star : goal.returns-in-Star
returns-in-Star c nodes groups expr facts is =
    rw c.in-Star.is (search (rules, c.of_many.ensures.star, c.set_at.ensures, expr.ranges _ _ (rw c.in-Star.is at is), facts _ _ c.of_part.ensures, facts _ _ c.of_part-in-Star.ensures))

pub returns-in-Opt : goal.returns-in-Opt
returns-in-Opt c nodes groups expr facts is = rw c.in-Opt.is (search (rules, c.of_many-in-Opt.ensures.opt, expr.ranges _ _ (rw c.in-Opt.is at is), facts _ _ c.of_part-in-Opt.ensures))
