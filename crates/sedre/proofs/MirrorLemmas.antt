-- A mirrored expression is an expression, and its trees are the mirrored trees.
use Rattle.std.proofs.Common.{◌≡◌, ℕ, zero, suc, ◌+◌, ◌<◌, List, length, map, Bool, true, false, Option, Some, None, refl, sym, ap, ◌∙◌, subst, inl, inr, ⊎_elim, arith}
use Rattle.std.specs.Prelude.{slice_get, option_map}
use Rattle.std.proofs.lemmas.Option.{slice_get-map}
use Rattle.std.proofs.lemmas.List.{length-map}
use Rattle.sedre.specs.Tree.{Tree, null_string, sequence, either_of, grouped, any_copies, one_or_none, WrittenExpression, tree_of, tree_within, tree_at, size}
use Rattle.std.specs.Option.{option_map_or}
use Rattle.sedre.specs.Arena.{IsArena, IsPart, HasTwoParts}
use Rattle.sedre.specs.Mirror.{mirror, mirror_node, node_seen, seen}
use Rattle.sedre.specs.declared.types.Node.{Node}
use Rattle.sedre.specs.declared.types.Node.TheVariants.{Seq, Alt, Group, Star, Opt}

-- mirrored twice it is as it was
pub mirror-mirror : (t : Tree) → mirror (mirror t) ≡ t
mirror-mirror (sequence a b) = rw (mirror-mirror a, mirror-mirror b)
mirror-mirror (either_of a b) = rw (mirror-mirror a, mirror-mirror b)
mirror-mirror (grouped k a) = rw (mirror-mirror a)
mirror-mirror (any_copies a first) = rw (mirror-mirror a)
mirror-mirror (one_or_none a first) = rw (mirror-mirror a)
mirror-mirror _ = refl

pub size-mirror : (t : Tree) → size (mirror t) ≡ size t
size-mirror (sequence a b) = omega (arith, size-mirror a, size-mirror b)
size-mirror (either_of a b) = omega (arith, size-mirror a, size-mirror b)
size-mirror (grouped k a) = omega (arith, size-mirror a)
size-mirror (any_copies a first) = omega (arith, size-mirror a)
size-mirror (one_or_none a first) = omega (arith, size-mirror a)
size-mirror _ = refl

-- the trees of a mirrored node
tree_of-mirror : (f g : ℕ → Tree) → ((c : ℕ) → f c ≡ mirror (g c)) → (node : Node) → tree_of f (mirror_node node) ≡ mirror (tree_of g node)
tree_of-mirror f g same (Seq a b) = rw (same a.index, same b.index)
tree_of-mirror f g same (Alt a b) = rw (same a.index, same b.index)
tree_of-mirror f g same (Group k a) = rw (same a.index)
tree_of-mirror f g same (Star a first) = rw (same a.index)
tree_of-mirror f g same (Opt a first) = rw (same a.index)
tree_of-mirror f g same _ = refl

node-mirror : (f g : ℕ → Tree) → ((c : ℕ) → f c ≡ mirror (g c)) → (o : Option Node) → option_map_or (tree_of f) (option_map mirror_node o) null_string ≡ mirror (option_map_or (tree_of g) o null_string)
node-mirror f g same None = refl
node-mirror f g same (Some node) = tree_of-mirror f g same node

tree_within-mirror : (nodes : List Node) (n x : ℕ) → tree_within n (map mirror_node nodes) x ≡ mirror (tree_within n nodes x)
unfolding tree_within
tree_within-mirror nodes zero x = refl
tree_within-mirror nodes (suc n) x =
    rw slice_get-map (node-mirror (tree_within n (map mirror_node nodes)) (tree_within n nodes) (tree_within-mirror nodes n) (slice_get nodes x))

pub tree_at-mirror : (nodes : List Node) (x : ℕ) → tree_at (map mirror_node nodes) x ≡ mirror (tree_at nodes x)
unfolding tree_at
tree_at-mirror nodes x = tree_within-mirror nodes (suc x) x

-- a mirrored node has the same parts
part_from : (node : Node) (c : ℕ) → IsPart (mirror_node node) c → IsPart node c
part_from (Seq a b) c h = ⊎_elim (λ (r : b.index ≡ c). inr r) (λ (l : a.index ≡ c). inl l) h
part_from _ c h = h

part_to : (node : Node) (c : ℕ) → IsPart node c → IsPart (mirror_node node) c
part_to (Seq a b) c h = ⊎_elim (λ (l : a.index ≡ c). inr l) (λ (r : b.index ≡ c). inl r) h
part_to _ c h = h

two_to : (node : Node) → HasTwoParts node → HasTwoParts (mirror_node node)
two_to (Seq a b) h = λ e. h (sym e)
two_to _ h = h

some_from : (o : Option Node) (node : Node) → option_map mirror_node o ≡ Some node → (old : Node) × (o ≡ Some old) × (mirror_node old ≡ node)
some_from None node is = cc
some_from (Some old) node is = (old, refl, cc)

-- the node that was mirrored
pub old_node : (nodes : List Node) (x : ℕ) (node : Node) → slice_get (map mirror_node nodes) x ≡ Some node →
    (old : Node) × (slice_get nodes x ≡ Some old) × (mirror_node old ≡ node)
old_node nodes x node is = some_from (slice_get nodes x) node (sym (slice_get-map mirror_node nodes x) ∙ is)

pub new_node : (nodes : List Node) (x : ℕ) (node : Node) → slice_get nodes x ≡ Some node → slice_get (map mirror_node nodes) x ≡ Some (mirror_node node)
new_node nodes x node is = slice_get-map mirror_node nodes x ∙ ap (option_map mirror_node) is

pub IsArena-mirror : (nodes : List Node) → IsArena nodes → IsArena (map mirror_node nodes)
IsArena-mirror nodes arena = record {
  nonempty = rw length-map arena.nonempty;
  below = λ x c node is part.
      let old = old_node nodes x node is in
      arena.below x c old.0 old.1 (part_from old.0 c (subst (λ n. IsPart n c) (sym old.2) part));
  distinct = λ x node is.
      let old = old_node nodes x node is in
      subst HasTwoParts old.2 (two_to old.0 (arena.distinct x old.0 old.1));
  once = λ x y c node other is is' part part'.
      let old = old_node nodes x node is in
      let old' = old_node nodes y other is' in
      arena.once x y c old.0 old'.0 old.1 old'.1 (part_from old.0 c (subst (λ n. IsPart n c) (sym old.2) part)) (part_from old'.0 c (subst (λ n. IsPart n c) (sym old'.2) part'));
  each = λ c low.
      let below : c + 1 < length nodes = (rw length-map at low) in
      let of = arena.each c below in
      (of.0, mirror_node of.1, new_node nodes of.0 of.1 of.2, part_to of.1 c of.3);
}

-- the same of an expression that is mirrored or not
pub seen-arena : (back : Bool) (e : WrittenExpression) → IsArena e.nodes → IsArena (seen back e).nodes
seen-arena true e arena = IsArena-mirror e.nodes arena
seen-arena false e arena = arena

pub seen-length : (back : Bool) (e : WrittenExpression) → length (seen back e).nodes ≡ length e.nodes
seen-length true e = length-map e.nodes mirror_node
seen-length false e = refl

pub seen-node : (back : Bool) (e : WrittenExpression) (x : ℕ) (node : Node) → slice_get e.nodes x ≡ Some node → slice_get (seen back e).nodes x ≡ Some (node_seen back node)
seen-node true e x node is = new_node e.nodes x node is
seen-node false e x node is = is
