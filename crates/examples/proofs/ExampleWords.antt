-- Words of the examples.
use Rattle.std.proofs.Common.{◌≡◌, ℕ, zero, suc, ◌+◌, List, [], ◌∷◌, ◌++◌, map, Bool, true, false, not, Option, Some, None, Result, Ok, Err, ap, subst}
use Rattle.sedre.specs.declared.types.Kind.{Kind}
use Rattle.sedre.specs.declared.types.ExprFault.{ExprFault}
use Rattle.sedre.specs.declared.byte_set.ByteSet.{ByteSet}
use Rattle.sedre.specs.Tree.{Tree, byte_of, size}
use Rattle.sedre.specs.Grammar.{concatenation, ReadsAs}
use Rattle.sedre.specs.Sets.{only, any_but_zero}
use Rattle.examples.proofs.ComputedReading.{Outcome, outcome, reads, faulty, unfinished, outcome_holds, Holds}

-- a byte as itself
abbrev pub byte : ℕ → Tree
byte n = byte_of (only n)

-- the letters a, b, c and x
abbrev pub a : Tree
a = byte 97

abbrev pub b : Tree
b = byte 98

abbrev pub c : Tree
c = byte 99

abbrev pub x : Tree
x = byte 120

-- any byte but 0
abbrev pub any : Tree
any = byte_of any_but_zero

-- each byte of a text as itself
abbrev pub literally : List ℕ → Tree
literally text = concatenation (map byte text)

-- a text so many times
abbrev pub times : ℕ → List ℕ → List ℕ
times zero text = []
times (suc n) text = text ++ times n text

-- the text reads as an expression with so many nodes and groups
pub record Counts (kind : Kind) (text : List ℕ) (nodes groups : ℕ) : Type 0 where
  pub expression : Tree
  pub reads_so : ReadsAs kind false None text expression groups
  pub size_is : size expression ≡ nodes

-- how many nodes and groups there are, where the computation comes to an expression
abbrev pub counts : Outcome → Option (ℕ × ℕ)
counts (reads t groups) = Some (size t, groups)
counts (faulty place reason) = None
counts unfinished = None

abbrev nodes_in : Option (ℕ × ℕ) → ℕ
nodes_in None = 0
nodes_in (Some (nodes, groups)) = nodes

abbrev groups_in : Option (ℕ × ℕ) → ℕ
groups_in None = 0
groups_in (Some (nodes, groups)) = groups

count_holds : (kind : Kind) (text : List ℕ) (o : Outcome) (nodes groups : ℕ) → Holds kind false None text 65536 o →
    counts o ≡ Some (nodes, groups) → Counts kind text nodes groups
count_holds kind text (reads t found) nodes groups h e = record {
  expression = t;
  reads_so = subst (λ (g : ℕ). ReadsAs kind false None text t g) (ap groups_in e) h.0;
  size_is = ap nodes_in e;
}
count_holds kind text (faulty place reason) nodes groups h e = absurd cc
count_holds kind text unfinished nodes groups h e = absurd cc

pub counted : {kind : Kind} {text : List ℕ} {nodes groups : ℕ} →
    counts (outcome kind false None text 65536) ≡ Some (nodes, groups) → Counts kind text nodes groups
counted {kind = kind} {text = text} {nodes = nodes} {groups = groups} e =
    count_holds kind text (outcome kind false None text 65536) nodes groups (outcome_holds kind false None text 65536) e

-- the bytes of a set, by their numbers
abbrev pub members_from : ℕ → List Bool → List ℕ
members_from n [] = []
members_from n (true ∷ rest) = n ∷ members_from (n + 1) rest
members_from n (false ∷ rest) = members_from (n + 1) rest

-- the bytes that a list matches, and the place after it
abbrev pub members : Result (ByteSet × ℕ) ExprFault → Option (List ℕ × ℕ)
members (Ok (found, next)) = Some (members_from 0 found, next)
members (Err fault) = None

-- the bytes that it doesn't match
abbrev pub others : Result (ByteSet × ℕ) ExprFault → Option (List ℕ × ℕ)
others (Ok (found, next)) = Some (members_from 0 (map not found), next)
others (Err fault) = None
