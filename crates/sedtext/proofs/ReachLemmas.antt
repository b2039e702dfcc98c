-- What a node spans by its parts, and where these are entered.
use Rattle.sedtext.proofs.Words.{◌↔◌, ◌≡◌, ◌≤◌, ◌⊎◌, after_left, again, Alt, arith, at_root, BeginsWith, Bool, byte_is_in, CopiesLead, Enters, false, Group, HasSpan, inr, IsArena, IsPart, IsRepetitionOf}
use Rattle.sedtext.proofs.Words.{IsStart, IsTrue, List, Matches, no_copy, Node, Opt, Option, Seq, slice_get, slice_index_or, Some, Star, Starts, subst, sym, tree_at, tree_at-node, tree_of, true≢false, with_whole, ℕ}
use Rattle.sedtext.proofs.SpanLemmas.{Matches-forward}

-- what a node spans, by the trees of its parts
abbrev pub NodeSpans : List Node → List ℕ → Node → ℕ → ℕ → Type 0
NodeSpans nodes w node i j = Matches (tree_of (tree_at nodes) node) w i j

pub open_at : (nodes : List Node) (w : List ℕ) (x : ℕ) (node : Node) → IsArena nodes → slice_get nodes x ≡ Some node → (i j : ℕ) → HasSpan nodes w x i j → NodeSpans nodes w node i j
open_at nodes w x node arena is i j at = subst (λ t. Matches t w i j) (tree_at-node nodes x node arena is) at

pub close_at : (nodes : List Node) (w : List ℕ) (x : ℕ) (node : Node) → IsArena nodes → slice_get nodes x ≡ Some node → (i j : ℕ) → NodeSpans nodes w node i j → HasSpan nodes w x i j
close_at nodes w x node arena is i j at = subst (λ t. Matches t w i j) (sym (tree_at-node nodes x node arena is)) at

-- a repetition matches copies of its part
pub star_copies : (nodes : List Node) (w : List ℕ) (star part i j : ℕ) → IsArena nodes → IsRepetitionOf nodes star part → HasSpan nodes w star i j ↔ CopiesLead (HasSpan nodes w part) j i
star_copies nodes w star part i j arena repeats = rw (← repeats.3) (open_at nodes w star (Star repeats.0 repeats.1) arena repeats.2 i j, close_at nodes w star (Star repeats.0 repeats.1) arena repeats.2 i j)

-- how the part c of the node at y is entered at j
abbrev pub FromNode : List Node → List ℕ → ℕ → Starts → ℕ → ℕ → ℕ → Node → Type 0
FromNode nodes w r p y c j (Seq a b) = ((a.index ≡ c) × Enters nodes w r p y j) ⊎ ((b.index ≡ c) × ((i : ℕ) × Enters nodes w r p y i × HasSpan nodes w a.index i j))
FromNode nodes w r p y c j (Alt a b) = Enters nodes w r p y j
FromNode nodes w r p y c j (Group k a) = Enters nodes w r p y j
FromNode nodes w r p y c j (Star a first) = (i : ℕ) × Enters nodes w r p y i × HasSpan nodes w y i j
FromNode nodes w r p y c j (Opt a first) = Enters nodes w r p y j
FromNode nodes w r p y c j _ = ⊥

pub BeginsWith-part : (node : Node) (c : ℕ) → BeginsWith node c → IsPart node c
BeginsWith-part node c h = grind arith

-- two nodes with one part are one
pub same_node : (nodes : List Node) → IsArena nodes → (y z c : ℕ) (node other : Node) → slice_get nodes y ≡ Some node → slice_get nodes z ≡ Some other → IsPart node c → IsPart other c → (y ≡ z) × (node ≡ other)
same_node nodes arena y z c node other is is' part part' = grind arith

-- a byte that is taken is there, and in the list
pub takes_some : (byte : Option ℕ) (members : List Bool) → IsTrue (byte_is_in byte members) → (b : ℕ) × (byte ≡ Some b) × IsTrue (slice_index_or members b false)
takes_some byte members h = grind (arith, true≢false)

-- nothing is entered before the first start
pub Enters-from : (nodes : List Node) (w : List ℕ) (r : ℕ) (p : Starts) (x j : ℕ) → Enters nodes w r p x j → p.first ≤ j
Enters-from nodes w r p x j (at_root _ _ _ e) = omega arith
Enters-from nodes w r p x j (with_whole z _ _ other is' begins e) = Enters-from nodes w r p z j e
Enters-from nodes w r p x j (after_left z _ i _ a b is' right e at) = omega (arith, Enters-from nodes w r p z i e, Matches-forward (tree_at nodes a.index) w i j at)
Enters-from nodes w r p x j (again z _ i _ a first is' inner e at) = omega (arith, Enters-from nodes w r p z i e, Matches-forward (tree_at nodes z) w i j at)

module _ (nodes : List Node) (w : List ℕ) (r : ℕ) (p : Starts) (arena : IsArena nodes) where
  -- a part that begins where its node does
  FromNode-with_whole : (y c j : ℕ) (node : Node) → slice_get nodes y ≡ Some node → BeginsWith node c → Enters nodes w r p y j → FromNode nodes w r p y c j node
  FromNode-with_whole y c j node is begins e = grind (arith, close_at nodes w y node arena is j j, no_copy)

  -- only r and nodes below it are entered
  pub Enters-inside : (x j : ℕ) → Enters nodes w r p x j → x ≤ r
  Enters-inside x j (at_root _ _ last e) = omega arith
  Enters-inside x j (with_whole z _ _ other is' begins e) = omega (arith, Enters-inside z j e, arena.below z x other is' (BeginsWith-part other x begins))
  Enters-inside x j (after_left z _ i _ a b is' right e at) = omega (arith, Enters-inside z i e, arena.below z x (Seq a b) is' (inr right))
  Enters-inside x j (again z _ i _ a first is' inner e at) = omega (arith, Enters-inside z i e, arena.below z x (Star a first) is' inner)

  how_entered : (c j : ℕ) → Enters nodes w r p c j →
      ((c ≡ r) × IsStart p j) ⊎ ((z : ℕ) × (node : Node) × (slice_get nodes z ≡ Some node) × IsPart node c × (z ≤ r) × FromNode nodes w r p z c j node)
  how_entered c j at = grind (arith, BeginsWith-part, Enters-inside, FromNode-with_whole)

  -- a part is entered through its node alone
  pub Enters-part : (y : ℕ) → y ≤ r → (c j : ℕ) (node : Node) → slice_get nodes y ≡ Some node → IsPart node c → Enters nodes w r p c j → FromNode nodes w r p y c j node
  Enters-part y le c j node is part e = grind (arith, how_entered, same_node)

  -- the node r is entered at the starts alone
  pub Enters-root : (x j : ℕ) → x ≡ r → Enters nodes w r p x j → IsStart p j
  Enters-root x j last e = grind (arith, how_entered)
