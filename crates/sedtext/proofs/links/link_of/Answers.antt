use Rattle.sedtext.proofs.Closing.{Alt, at_node, Begin, End, inl, inr, part_inside, refl, Star}
use Rattle.sedtext.proofs.links.link_of.Goals as goal

pub look-requires : goal.look-requires
look-requires c = record { inside = part_inside c.args.expr.now.nodes c.requires.arena c.args.index (Star c.in-Star.part c.in-Star.field-1) c.in-Star.part.index (cc) refl }

pub returns-in-Begin-clause-leads : goal.returns-in-Begin-clause-leads
returns-in-Begin-clause-leads c = at_node c.args.expr.now.nodes c.requires.arena c.args.index Begin (cc)

pub returns-in-End-clause-leads : goal.returns-in-End-clause-leads
returns-in-End-clause-leads c = at_node c.args.expr.now.nodes c.requires.arena c.args.index End (cc)

pub returns-in-Alt : goal.returns-in-Alt
returns-in-Alt c =
    let node = Alt c.in-Alt.left c.in-Alt.right in
    let inside = part_inside c.args.expr.now.nodes c.requires.arena c.args.index node in
    rw (c.index.ensures, c.index-in-Alt.ensures) (record { leads = at_node _ c.requires.arena c.args.index node (cc); within = (inside c.in-Alt.left.index (cc) (inl refl), inside c.in-Alt.right.index (cc) (inr refl)) })
