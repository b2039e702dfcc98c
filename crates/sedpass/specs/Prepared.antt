-- Private to the proofs: no contract that `sedmatch` makes public cites what is here.
-- What is found out once of an expression: facts of each node, as its groups and how long its spans are.
use Rattle.std.specs.Prelude.{◌≡◌, ℕ, ◌+◌, ◌-◌, ◌*◌, ◌<◌, ◌≤◌, ◌↔◌, Bool, true, false, ◌&&◌, ◌||◌, not, eqb, List, length, slice_get, slice_index_or, cond, Option, Some, None, IfSome, nat_lt, vec_capacity}
use Rattle.std.specs.Int.{bit_at, from_bool}
use Rattle.sedre.specs.Tree.{Tree, byte_of, text_begin, text_end, sequence, either_of, grouped, any_copies, WrittenExpression, expression_tree, tree_at, null_string, one_or_none, size}
use Rattle.sedre.specs.Arena.{IsPart}
use Rattle.sedre.specs.declared.types.Node.{Node}
use Rattle.sedtext.specs.Hints.{AreHints}
use Rattle.sedpass.specs.Classes.{AreClasses}
use Rattle.sedpass.specs.declared.nodes.Facts.{Facts}
use Rattle.sedpass.specs.declared.nodes.Analysis.{Analysis}
use Rattle.sedpass.specs.declared.nodes.PlaceKind.{PlaceKind}
use Rattle.sedpass.specs.Walks.{has_group}
use Rattle.sedpass.specs.declared.group_set.GroupSet.{GroupSet}

-- both lengths together, if both are known
abbrev pub sum_of : Option ℕ → Option ℕ → Option ℕ
sum_of (Some m) (Some n) = Some (m + n)
sum_of first second = None

-- the length, if both are known and alike
abbrev pub same_of : Option ℕ → Option ℕ → Option ℕ
same_of (Some m) (Some n) = cond (eqb m n) (Some m) None
same_of first second = None

-- the length of all spans of the expression, where one is known
abbrev pub length_of : Tree → Option ℕ
length_of null_string = Some 0
length_of (byte_of members) = Some 1
length_of text_begin = Some 0
length_of text_end = Some 0
length_of (sequence a b) = sum_of (length_of a) (length_of b)
length_of (either_of a b) = same_of (length_of a) (length_of b)
length_of (grouped k a) = length_of a
length_of (any_copies a first) = None
length_of (one_or_none a first) = None

-- group k is one of those that are reported
abbrev pub reported : ℕ → Bool
reported k = nat_lt 0 k && nat_lt k 10

-- group k is in the set
abbrev pub holds : GroupSet → ℕ → Bool
holds groups k = nat_lt k 10 && eqb (bit_at groups.bits k) 1

-- the expression matches the null string at a place that is the text's beginning, or isn't, and its end, or isn't
abbrev pub nullable : Bool → Bool → Tree → Bool
nullable first last (byte_of members) = false
nullable first last text_begin = first
nullable first last text_end = last
nullable first last (sequence a b) = nullable first last a && nullable first last b
nullable first last (either_of a b) = nullable first last a || nullable first last b
nullable first last (grouped k a) = nullable first last a
nullable first last other = true

-- the node matches the null string at places of the kind
abbrev pub null_in : List Node → PlaceKind → ℕ → Bool
null_in nodes kind x = nullable kind.begin kind.end (tree_at nodes x)

-- null strings are the same between the edges as at the edge to which passes go: the text's beginning where they are mirrored, else its end
abbrev pub SameNulls : List Node → Bool → ℕ → Type 0
SameNulls nodes mirrored n = (x : ℕ) → x < n → null_in nodes (record { begin = mirrored; end = not mirrored }) x ≡ null_in nodes (record { begin = false; end = false }) x

-- what is known of null strings at places of a kind: a bit for each
abbrev pub null_at : ℕ → Bool → Bool → Bool
null_at kinds first last = eqb (bit_at kinds (from_bool first + 2 * from_bool last)) 1

-- the expression is one byte of a set
abbrev pub is_one_set : Tree → Bool
is_one_set (byte_of members) = true
is_one_set other = false

-- the part that is a set, if the expression repeats one, in groups or not; x is the index of its last node
abbrev pub repeated_set : Tree → ℕ → Option ℕ
repeated_set (grouped k a) x = repeated_set a (x - 1)
repeated_set (any_copies a first) x = cond (is_one_set a) (Some (x - 1)) None
repeated_set other x = None

-- what is known of a node: the tree there, and its index
pub record IsFacts (t : Tree) (x : ℕ) (facts : Facts) : Type 0 where
  pub low : facts.low + size t ≡ x + 1
  pub null : (first last : Bool) → null_at facts.null first last ≡ nullable first last t
  pub groups : (k : ℕ) → holds facts.groups k ≡ (reported k && has_group t k)
  pub long : facts.length ≡ length_of t
  pub run : facts.run ≡ repeated_set t x

-- the same of all nodes
abbrev pub AreFacts : List Node → List Facts → Type 0
AreFacts nodes facts = (x : ℕ) (here : Facts) → slice_get facts x ≡ Some here → IsFacts (tree_at nodes x) x here

-- the length, if one is known, is no more than an expression has nodes
abbrev pub IsShort : Option ℕ → Type 0
IsShort long = IfSome long (λ n. n ≤ 65536)

-- of the first n nodes each is noted for its parts
abbrev pub AreParents : List Node → List ℕ → ℕ → Type 0
AreParents nodes parents n = (x c : ℕ) (node : Node) → x < n → slice_get nodes x ≡ Some node → IsPart node c → slice_index_or parents c 0 ≡ x

-- there is room for what is found out of so many nodes
abbrev pub HasNodeRoom : ℕ → Analysis → Type 0
HasNodeRoom count f = (count ≤ vec_capacity f.facts) × (count ≤ vec_capacity f.parents)

-- what was found out of the expression is right
pub record IsAnalysis (e : WrittenExpression) (f : Analysis) : Type 0 where
  pub all : length f.facts.items ≡ length e.nodes
  pub facts : AreFacts e.nodes f.facts.items
  pub begins : (f.begin_tells ≡ false) ↔ SameNulls e.nodes true (length e.nodes)
  pub ends : (f.end_tells ≡ false) ↔ SameNulls e.nodes false (length e.nodes)
  pub parents_all : length f.parents.items ≡ length e.nodes
  pub parents : AreParents e.nodes f.parents.items (length e.nodes)
  pub classes : AreClasses e.nodes f.classes.of f.classes.count
  pub hints : AreHints (expression_tree e) f.hints
