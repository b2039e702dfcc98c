-- A tree written further on.
use Rattle.std.proofs.Common.{◌≡◌, ℕ, ◌+◌, ◌-◌, ◌<◌, List, [], ◌∷◌, ◌++◌, map, refl, ap, ◌∙◌, sym, arith}
use Rattle.sedre.specs.declared.types.NodeId.{NodeId}
use Rattle.sedre.specs.declared.types.Node.{Node}
use Rattle.sedre.specs.declared.types.Node.TheVariants as node
use Rattle.sedre.specs.Packed.{id, shifted}
use Rattle.sedre.specs.Tree.{Tree, sequence, either_of, grouped, any_copies, one_or_none, size}
use Rattle.sedre.specs.Stacks.{postorder}
use Rattle.sedre.proofs.Written.{size_positive}

map-append : (f : Node → Node) (xs ys : List Node) → map f (xs ++ ys) ≡ map f xs ++ map f ys
map-append f [] ys = refl
map-append f (x ∷ xs) ys = ap (λ (r : List Node). f x ∷ r) (map-append f xs ys)

one_part : (make : NodeId → Node) (d base : ℕ) (a : Tree) (f : Node → Node) → ((i : NodeId) → f (make i) ≡ make (id (i.index + d))) → postorder (base + d) a ≡ map f (postorder base a) →
    postorder (base + d) a ++ make (id (base + d + size a - 1)) ∷ [] ≡ map f (postorder base a ++ make (id (base + size a - 1)) ∷ [])
one_part make d base a f is e =
    let p : 0 < size a = size_positive a in
    let place : base + d + size a - 1 ≡ base + size a - 1 + d = omega arith in
    ap (λ (x : List Node). x ++ make (id (base + d + size a - 1)) ∷ []) e
    ∙ ap (λ (n : ℕ). map f (postorder base a) ++ make (id n) ∷ []) place
    ∙ ap (λ (n : Node). map f (postorder base a) ++ n ∷ []) (sym (is (id (base + size a - 1))))
    ∙ sym (map-append f (postorder base a) (make (id (base + size a - 1)) ∷ []))

two_parts : (make : NodeId → NodeId → Node) (d base : ℕ) (a b : Tree) (f : Node → Node) → ((i j : NodeId) → f (make i j) ≡ make (id (i.index + d)) (id (j.index + d))) →
    postorder (base + d) a ≡ map f (postorder base a) → postorder (base + size a + d) b ≡ map f (postorder (base + size a) b) →
    (postorder (base + d) a ++ postorder (base + d + size a) b) ++ make (id (base + d + size a - 1)) (id (base + d + size a + size b - 1)) ∷ []
    ≡ map f ((postorder base a ++ postorder (base + size a) b) ++ make (id (base + size a - 1)) (id (base + size a + size b - 1)) ∷ [])
two_parts make d base a b f is ea eb =
    let p : 0 < size a = size_positive a in
    let q : 0 < size b = size_positive b in
    let left : base + d + size a - 1 ≡ base + size a - 1 + d = omega arith in
    let right : base + d + size a + size b - 1 ≡ base + size a + size b - 1 + d = omega arith in
    let nodes : postorder (base + d) a ++ postorder (base + d + size a) b ≡ map f (postorder base a ++ postorder (base + size a) b) =
    ap (λ (x : List Node). x ++ postorder (base + d + size a) b) ea
    ∙ ap (λ (n : ℕ). map f (postorder base a) ++ postorder n b) (omega arith) ∙ ap (λ (x : List Node). map f (postorder base a) ++ x) eb
    ∙ sym (map-append f (postorder base a) (postorder (base + size a) b)) in
    let last : make (id (base + d + size a - 1)) (id (base + d + size a + size b - 1)) ≡ f (make (id (base + size a - 1)) (id (base + size a + size b - 1))) =
    ap (λ (n : ℕ). make (id n) (id (base + d + size a + size b - 1))) left ∙ ap (λ (n : ℕ). make (id (base + size a - 1 + d)) (id n)) right ∙ sym (is (id (base + size a - 1)) (id (base + size a + size b - 1))) in
    ap (λ (x : List Node). x ++ make (id (base + d + size a - 1)) (id (base + d + size a + size b - 1)) ∷ []) nodes
    ∙ ap (λ (n : Node). map f (postorder base a ++ postorder (base + size a) b) ++ n ∷ []) last
    ∙ sym (map-append f (postorder base a ++ postorder (base + size a) b) (make (id (base + size a - 1)) (id (base + size a + size b - 1)) ∷ []))

-- a tree that is written further on has the same nodes with their parts further on
pub postorder-shifted : (d base : ℕ) (t : Tree) → postorder (base + d) t ≡ map (shifted d) (postorder base t)
postorder-shifted d base (sequence a b) = two_parts node.Seq d base a b (shifted d) (λ i j. refl) (postorder-shifted d base a) (postorder-shifted d (base + size a) b)
postorder-shifted d base (either_of a b) = two_parts node.Alt d base a b (shifted d) (λ i j. refl) (postorder-shifted d base a) (postorder-shifted d (base + size a) b)
postorder-shifted d base (grouped k a) = one_part (λ i. node.Group k i) d base a (shifted d) (λ i. refl) (postorder-shifted d base a)
postorder-shifted d base (any_copies a first) = one_part (λ i. node.Star i first) d base a (shifted d) (λ i. refl) (postorder-shifted d base a)
postorder-shifted d base (one_or_none a first) = one_part (λ i. node.Opt i first) d base a (shifted d) (λ i. refl) (postorder-shifted d base a)
postorder-shifted d base _ = refl
