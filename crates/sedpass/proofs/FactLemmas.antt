-- What is found out of each node once, and what it means for passes.
use Rattle.std.proofs.lemmas.List.{get_or_append_left}
use Rattle.sedpass.proofs.Words.{rules, ◌≡◌, ℕ, zero, suc, ◌+◌, ◌<◌, ◌≤◌, ◌⊎◌, ◌↔◌, Bool, true, false, ◌&&◌, List, [], ◌∷◌, ◌++◌, length, Some, IsTrue, refl, ap, inl, inr, arith, bit_and, bit_or, ◌||◌, slice_get, eqb, option_eq, bit_at_and, bit_at_or, bit_at-lt, cases_lt, same_Some, none-some, size, IsArena, IsExpr, IsPart, FollowsParts, mirror, seen, Node, Seq, Alt, Group, Star, Opt, tree_at-node, tree_at-mirror, seen-length, Matches, no_copy, IsPlace, Matches-forward, node_at, Facts, PlaceKind, Tree, sequence, either_of, grouped, WrittenExpression, tree_of, tree_at, size_positive, nullable, null_in, null_at, is_one_set, IsFacts, AreFacts, length_of, at_begin, at_edge, IsNodeRange, AreNull, SameNulls, not, ◌∙◌, AreParents, seen-node, slice_get_within, slice_index_or}
use Rattle.sedpass.proofs.LengthLemmas.{sum_parts, same_parts}
use Rattle.sedpass.proofs.RowLemmas.{part_mirror, range_of, mirror_range}
use Rattle.sedpass.proofs.GroupSetLemmas.{two_bits}

-- null strings
module _ (w : List ℕ) (p : ℕ) (first last : Bool) (there : IsPlace w p first last) where
  -- the null string at a place of the kind
  pub nullable_is : (t : Tree) → IsTrue (nullable first last t) ↔ Matches t w p p
  nullable_is (sequence a b) = grind (arith, nullable_is a, nullable_is b, Matches-forward a w p, Matches-forward b w)
  nullable_is (either_of a b) = search (rules, nullable_is a, nullable_is b)
  nullable_is (grouped k a) = nullable_is a
  nullable_is other = search (rules, no_copy)

-- kinds by bits: those of both sets, and those of either
pub null_both : (a b : ℕ) (first last : Bool) → null_at (bit_and a b) first last ≡ (null_at a first last && null_at b first last)
null_both a b first last = search (rules, bit_at_and, two_bits, bit_at-lt)

pub null_either : (a b : ℕ) (first last : Bool) → null_at (bit_or a b) first last ≡ (null_at a first last || null_at b first last)
null_either a b first last = search (rules, bit_at_or, two_bits, bit_at-lt)

-- the mirrored expression is null at places of the opposite kind
pub nullable_mirror : (first last : Bool) (t : Tree) → nullable first last (mirror t) ≡ nullable last first t
nullable_mirror first last (sequence a b) = search (rules, nullable_mirror first last a, nullable_mirror first last b)
nullable_mirror first last (either_of a b) = search (rules, nullable_mirror first last a, nullable_mirror first last b)
nullable_mirror first last (grouped k a) = nullable_mirror first last a
nullable_mirror first last other = refl

-- so what is known of a node serves both ways
pub null_shows : (mirrored : Bool) (e : WrittenExpression) (kind : PlaceKind) (w : List ℕ) (p : ℕ) → IsPlace w p (at_begin mirrored kind) (at_edge mirrored kind) →
    AreNull (seen mirrored e).nodes w p (null_in e.nodes kind)
null_shows false e kind w p there c low = search (rules, nullable_is)
null_shows true e kind w p there c low = search (rules, tree_at-mirror, nullable_mirror, nullable_is)

-- trees are ranges
module _ (nodes : List Node) (groups : ℕ) (expr : IsExpr nodes groups) where
  abbrev pub RangesBelow : ℕ → Type 0
  RangesBelow n = (y low : ℕ) → y < n → low + size (tree_at nodes y) ≡ y + 1 → IsNodeRange nodes low y

  -- the parts are a, and b, if that is another one: from low on, and from mid on
  by_parts : (x low mid a b : ℕ) (node : Node) → slice_get nodes x ≡ Some node → IsPart node a → IsPart node b → ((c : ℕ) → IsPart node c → (a ≡ c) ⊎ (b ≡ c)) →
      (mid ≤ a + 1) × (low ≤ mid) × (a < x) × (b + 1 ≡ x) × (low + size (tree_at nodes a) ≡ a + 1) × (mid + size (tree_at nodes b) ≡ b + 1) → RangesBelow x → IsNodeRange nodes low x
  by_parts x low mid a b node is left right only long below =
      range_of nodes x low node is (omega (arith, long)) (λ c from to. search (rules, cases_lt a c, below a low, below b mid)) (λ d c that tree. search (rules, only d that, below a low, below b mid))

  range_by : (x low : ℕ) (node : Node) → slice_get nodes x ≡ Some node → FollowsParts nodes x node → RangesBelow x → low + size (tree_of (tree_at nodes) node) ≡ x + 1 → IsNodeRange nodes low x
  range_by x low (Seq a b) is follows below long = by_parts x low (a.index + 1) a.index b.index _ is (inl refl) (inr refl) (λ c part. part) (search (rules, size_positive)) below
  range_by x low (Alt a b) is follows below long = by_parts x low (a.index + 1) a.index b.index _ is (inl refl) (inr refl) (λ c part. part) (search (rules, size_positive)) below
  range_by x low (Group k a) is follows below long = by_parts x low low a.index a.index _ is refl refl (λ c part. inl part) (search (rules, size_positive)) below
  range_by x low (Star a f) is follows below long = by_parts x low low a.index a.index _ is refl refl (λ c part. inl part) (search (rules, size_positive)) below
  range_by x low (Opt a f) is follows below long = by_parts x low low a.index a.index _ is refl refl (λ c part. inl part) (search (rules, size_positive)) below
  range_by x low other is follows below long = search (rules, range_of)

  ranges_below : (n : ℕ) → n ≤ length nodes → RangesBelow n
  ranges_below (suc n) small y low less long =
      let here = node_at nodes y (omega arith) in
      range_by y low here.0 here.1 (expr.ranges y here.0 here.1) (λ z l lt. ranges_below n (omega arith) z l (omega arith)) (omega (arith, long, ap size (tree_at-node nodes y here.0 expr.arena here.1)))
  ranges_below n small y low less long = absurd (omega arith)

-- the nodes in x are those from low to x, in the mirrored expression too
pub range_is : (mirrored : Bool) (e : WrittenExpression) → IsExpr e.nodes e.groups → (x low : ℕ) → x < length e.nodes → low + size (tree_at e.nodes x) ≡ x + 1 → IsNodeRange (seen mirrored e).nodes low x
range_is false e expr x low inside long = ranges_below e.nodes e.groups expr (x + 1) (omega arith) x low (omega arith) long
range_is true e expr x low inside long = mirror_range e low x (ranges_below e.nodes e.groups expr (x + 1) (omega arith) x low (omega arith) long)

pub inside_seen : (mirrored : Bool) (e : WrittenExpression) (x : ℕ) → x < length e.nodes → x < length (seen mirrored e).nodes
inside_seen mirrored e x inside = omega (arith, seen-length mirrored e)

-- a node without parts whose matches have one byte is a set
pub shown_set : (a : Tree) (x : ℕ) (part : Facts) → IsFacts a x part → part.low ≡ x → option_eq eqb part.length (Some 1) ≡ true → is_one_set a ≡ true
shown_set a x part shown low long = search (rules, shown.low, shown.long, size_positive)

-- an expression has no longer matches of one length than nodes
pub length_short : (t : Tree) (n : ℕ) → length_of t ≡ Some n → n ≤ size t
length_short (sequence a b) n is = grind (arith, sum_parts (length_of a) (length_of b) n is, length_short a, length_short b)
length_short (either_of a b) n is = search (rules, same_parts (length_of a) (length_of b) n is, length_short a n)
length_short (grouped k a) n is = omega (arith, length_short a n is)
length_short other n is = search (rules, same_Some)

-- what is known of one more
last_shown : (shown : List Facts) (next fact : Facts) (x : ℕ) → slice_get (shown ++ next ∷ []) x ≡ Some fact → (slice_get shown x ≡ Some fact) ⊎ ((x ≡ length shown) × (fact ≡ next))
last_shown [] next fact x is = search (rules, same_Some, none-some)
last_shown (first ∷ shown) next fact zero is = inl is
last_shown (first ∷ shown) next fact (suc x) is = search (rules, last_shown shown next fact x is)

pub facts_more : (nodes : List Node) (arena : IsArena nodes) (shown : List Facts) (node : Node) (next : Facts) → AreFacts nodes shown → slice_get nodes (length shown) ≡ Some node →
    IsFacts (tree_of (tree_at nodes) node) (length shown) next → AreFacts nodes (shown ++ next ∷ [])
facts_more nodes arena shown node next facts there here x fact is = search (rules, last_shown shown next fact x is, facts x fact, tree_at-node nodes (length shown) node arena there)

-- the node that is noted for a part has it, mirrored or not
pub parent_is : (e : WrittenExpression) (parents : List ℕ) (x noted : ℕ) → IsArena e.nodes → AreParents e.nodes parents (length e.nodes) → x + 1 < length e.nodes → noted ≡ slice_index_or parents x 0 →
    (noted < length e.nodes) × (x < noted) × ((mirrored : Bool) (node : Node) → slice_get (seen mirrored e).nodes noted ≡ Some node → IsPart node x)
parent_is e parents x noted arena notes inside is =
    let p = arena.each x inside in
    let low = slice_get_within e.nodes p.0 p.1 p.2 in
    rw (is ∙ notes p.0 x p.1 low p.2 p.3) (low, arena.below p.0 x p.1 p.2 p.3, λ mirrored node at. search (rules, seen-node mirrored e p.0 p.1 p.2, same_Some, part_mirror))

-- a node was noted for its parts
pub parents_more : (nodes : List Node) (arena : IsArena nodes) (old after : List ℕ) (x : ℕ) (node : Node) → length old ≡ x → slice_get nodes x ≡ Some node → ((c : ℕ) → IsPart node c → slice_index_or after c 0 ≡ x) →
    ((c : ℕ) → (IsPart node c → ⊥) → slice_index_or after c 0 ≡ slice_index_or (old ++ 0 ∷ []) c 0) → AreParents nodes old x → AreParents nodes after (x + 1)
parents_more nodes arena old after x node all is told others notes q c other lt is' part = grind (arith, told c, others c, arena.once q x c other node is' is part, arena.below q c other is' part, notes q c other, get_or_append_left old (0 ∷ []) 0 c)

-- null strings are the same up to the next node
pub nulls_more : (nodes : List Node) (mirrored told tells : Bool) (n : ℕ) (node : Node) (next : Facts) → IsArena nodes → slice_get nodes n ≡ Some node → IsFacts (tree_of (tree_at nodes) node) n next →
    ((tells ≡ false) ↔ (null_at next.null mirrored (not mirrored) ≡ null_at next.null false false)) → ((told ≡ false) ↔ SameNulls nodes mirrored n) → ((told || tells) ≡ false) ↔ SameNulls nodes mirrored (n + 1)
nulls_more nodes mirrored told tells n node next arena is facts same old = grind (arith, facts.null, same, old, tree_at-node nodes n node arena is)
