-- Private to the proofs: no contract of a public item cites what is here.
-- Nodes with one part.
use Rattle.sedre.specs.declared.types.NodeId.{NodeId}
use Rattle.sedre.specs.declared.types.Node.{Node}
use Rattle.sedre.specs.declared.types.Node.TheVariants as node
use Rattle.sedre.specs.declared.parts.Cover.{Cover}
use Rattle.sedre.specs.declared.parts.Cover.TheVariants as cover

abbrev pub cover_node : Cover → NodeId → Node
cover_node (cover.Group k) a = node.Group k a
cover_node (cover.Star first) a = node.Star a first
cover_node (cover.Opt first) a = node.Opt a first
