use Rattle.sedtext.proofs.Closing.{left_behind, left_inner, left_parts, rules}
use Rattle.sedtext.proofs.links.continued.Goals as goal

pub loop-index-smaller-in-Continue-branch-4 : goal.loop-index-smaller-in-Continue-branch-4
loop-index-smaller-in-Continue-branch-4 c = (left_parts _ _ _ _ _ _ _ c.in-Some.ensures.items c.loop-index.invariant.0 c.look-node.ensures.arena c.in-Seq.left c.in-Seq.right _ (cc) (cc (c.in_ok-push-in-Seq.ensures.items, c.in_ok-push-in-Seq-2.ensures.items))).1

pub loop-index-preserved-in-Continue-branch-4 : goal.loop-index-preserved-in-Continue-branch-4
loop-index-preserved-in-Continue-branch-4 c =
    ((left_parts _ _ _ _ _ _ _ c.in-Some.ensures.items c.loop-index.invariant.0 c.look-node.ensures.arena c.in-Seq.left c.in-Seq.right _ (cc) (cc (c.in_ok-push-in-Seq.ensures.items, c.in_ok-push-in-Seq-2.ensures.items))).0, c.loop-index.invariant.1)

pub loop-index-smaller-in-Continue-branch-5 : goal.loop-index-smaller-in-Continue-branch-5
loop-index-smaller-in-Continue-branch-5 c = (left_inner _ _ _ _ _ _ _ c.in-Some.ensures.items c.loop-index.invariant.0 c.look-node.ensures.arena c.in-Group.field-0 c.in-Group.part _ (cc) (cc c.in_ok-push-in-Group.ensures.items)).1

pub loop-index-preserved-in-Continue-branch-5 : goal.loop-index-preserved-in-Continue-branch-5
loop-index-preserved-in-Continue-branch-5 c =
    ((left_inner _ _ _ _ _ _ _ c.in-Some.ensures.items c.loop-index.invariant.0 c.look-node.ensures.arena c.in-Group.field-0 c.in-Group.part _ (cc) (cc c.in_ok-push-in-Group.ensures.items)).0, c.loop-index.invariant.1)

pub loop-index-smaller : goal.loop-index-smaller
loop-index-smaller c = (left_behind _ _ _ _ _ _ _ c.in-Some.ensures.items c.loop-index.invariant.0 _ _ c.link_of.ensures.leads c.in_ok-push-in_default-node.ensures.items).1

pub loop-index-preserved : goal.loop-index-preserved
loop-index-preserved c = ((left_behind _ _ _ _ _ _ _ c.in-Some.ensures.items c.loop-index.invariant.0 _ _ c.link_of.ensures.leads c.in_ok-push-in_default-node.ensures.items).0, search rules)
