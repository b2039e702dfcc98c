-- The groups of a match: which span each has, and the part of the text that it reports.
use Rattle.std.specs.Prelude.{ℕ, zero, suc, max, List, Option, slice_set, None, replicate, slice_index_or, Some, [], slice_range}
use Rattle.sedre.specs.Tree.{Tree, sequence, either_of, grouped, any_copies, one_or_none}

-- entry k is the span of group k; a group without an entry of its own is not kept
abbrev pub SpansOfGroups : Type 0
SpansOfGroups = List (Option (ℕ × ℕ))

-- the groups inside the expression have no span
abbrev pub forget : Tree → SpansOfGroups → SpansOfGroups
forget (sequence a b) g = forget b (forget a g)
forget (either_of a b) g = forget b (forget a g)
forget (grouped k a) g = forget a (slice_set g k None)
forget (any_copies a first) g = forget a g
forget (one_or_none a first) g = forget a g
forget other g = g

-- before a match no group has a span
abbrev pub no_groups : SpansOfGroups
no_groups = replicate 10 None

-- the span of group k, if it has one
abbrev pub span_of : SpansOfGroups → ℕ → Option (ℕ × ℕ)
span_of groups k = slice_index_or groups k None

-- the bytes of the span, none where there is no span
abbrev pub part_of : List ℕ → Option (ℕ × ℕ) → List ℕ
part_of w None = []
part_of w (Some span) = slice_range w span.0 span.1

-- one more, if there is any
abbrev pub deeper : ℕ → ℕ
deeper zero = zero
deeper (suc depth) = suc (suc depth)

-- how many parts lie within one another at most of which the groups are decided apart: the whole, the left part of a concatenation, a copy
-- (this project's own)
abbrev pub group_depth : Tree → ℕ
group_depth (sequence a b) = max (deeper (group_depth a)) (group_depth b)
group_depth (either_of a b) = max (group_depth a) (group_depth b)
group_depth (grouped k a) = max 1 (group_depth a)
group_depth (any_copies a first) = deeper (group_depth a)
group_depth (one_or_none a first) = group_depth a
group_depth other = 0
