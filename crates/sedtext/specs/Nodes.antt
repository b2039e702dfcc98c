-- Private to the proofs: no contract that `sedmatch` makes public cites what is here.
-- Nodes of an expression by their indices, and their parts.
use Rattle.std.specs.Prelude.{◌≡◌, ℕ, Bool, List, [], ◌∷◌, slice_get, Some}
use Rattle.sedre.specs.declared.types.Node.{Node}
use Rattle.sedre.specs.declared.types.NodeId.{NodeId}
use Rattle.sedre.specs.declared.types.Node.TheVariants.{Seq, Alt, Group, Star, Opt}

-- the parts of a node, the left one first
abbrev pub parts_of : Node → List ℕ
parts_of (Seq a b) = a.index ∷ b.index ∷ []
parts_of (Alt a b) = a.index ∷ b.index ∷ []
parts_of (Group k a) = a.index ∷ []
parts_of (Star a first) = a.index ∷ []
parts_of (Opt a first) = a.index ∷ []
parts_of other = []

-- the node x is a repetition, and the node part is what it repeats
abbrev pub IsRepetitionOf : List Node → ℕ → ℕ → Type 0
IsRepetitionOf nodes x part = (a : NodeId) × (first : Bool) × (slice_get nodes x ≡ Some (Star a first)) × (a.index ≡ part)
