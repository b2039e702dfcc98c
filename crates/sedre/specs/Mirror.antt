-- An expression read from its end: it matches what the expression itself matches, from the last byte to the first.
use Rattle.std.specs.Prelude.{Bool, true, false, map}
use Rattle.sedre.specs.Tree.{Tree, text_begin, text_end, sequence, either_of, grouped, any_copies, one_or_none, WrittenExpression}
use Rattle.sedre.specs.declared.types.Node.{Node}
use Rattle.sedre.specs.declared.types.Node.TheVariants.{Begin, End, Seq}

-- the tree with the parts of each concatenation and the two anchors exchanged
abbrev pub mirror : Tree → Tree
mirror text_begin = text_end
mirror text_end = text_begin
mirror (sequence a b) = sequence (mirror b) (mirror a)
mirror (either_of a b) = either_of (mirror a) (mirror b)
mirror (grouped k a) = grouped k (mirror a)
mirror (any_copies a first) = any_copies (mirror a) first
mirror (one_or_none a first) = one_or_none (mirror a) first
mirror other = other

-- the node of the mirrored tree that stands for a node: its parts exchanged where it is a concatenation
abbrev pub mirror_node : Node → Node
mirror_node Begin = End
mirror_node End = Begin
mirror_node (Seq a b) = Seq b a
mirror_node other = other

-- the node, mirrored or as it is
abbrev pub node_seen : Bool → Node → Node
node_seen true node = mirror_node node
node_seen false node = node

-- the expression, mirrored or as it is
abbrev pub seen : Bool → WrittenExpression → WrittenExpression
seen true e = record { nodes = map mirror_node e.nodes; groups = e.groups }
seen false e = e
