-- The trees at the nodes of an expression that is written out.
use Rattle.std.proofs.Common.{◌≡◌, ℕ, zero, suc, ◌+◌, ◌-◌, ◌<◌, ◌≤◌, inl, inr, length, List, [], ◌∷◌, ◌++◌, Some, refl, ap, subst, ◌∙◌, sym, append_assoc, append-nil, arith, length-append}
use Rattle.std.specs.Prelude.{slice_get}
use Rattle.std.proofs.lemmas.Bool.Decides.{leb_tells}
use Rattle.std.proofs.lemmas.Option.{slice_get_within}
use Rattle.sedre.specs.declared.types.Node.{Node}
use Rattle.sedre.specs.declared.types.Node.TheVariants as node
use Rattle.sedre.specs.Tree.{Tree, null_string, byte_of, text_begin, text_end, sequence, either_of, grouped, any_copies, one_or_none, tree_of, tree_at, size}
use Rattle.sedre.specs.Arena.{IsArena, FollowsParts, IsExpr}
use Rattle.sedre.specs.Packed.{id}
use Rattle.sedre.specs.Finished.{GroupsNumbered}
use Rattle.sedre.specs.Stacks.{postorder}
use Rattle.sedre.proofs.Written.{size_positive, length-postorder}
use Rattle.sedre.proofs.Tables.{arena_of}
use Rattle.sedre.proofs.TreeLemmas.{tree_at-node}

-- the nodes from an index on are those of a tree
abbrev pub Holds : List Node → ℕ → Tree → Type 0
Holds ns base null_string = slice_get ns base ≡ Some node.Empty
Holds ns base (byte_of members) = slice_get ns base ≡ Some (node.Set members)
Holds ns base text_begin = slice_get ns base ≡ Some node.Begin
Holds ns base text_end = slice_get ns base ≡ Some node.End
Holds ns base (sequence a b) = Holds ns base a × Holds ns (base + size a) b × (slice_get ns (base + size a + size b) ≡ Some (node.Seq (id (base + size a - 1)) (id (base + size a + size b - 1))))
Holds ns base (either_of a b) = Holds ns base a × Holds ns (base + size a) b × (slice_get ns (base + size a + size b) ≡ Some (node.Alt (id (base + size a - 1)) (id (base + size a + size b - 1))))
Holds ns base (grouped k a) = Holds ns base a × (slice_get ns (base + size a) ≡ Some (node.Group k (id (base + size a - 1))))
Holds ns base (any_copies a first) = Holds ns base a × (slice_get ns (base + size a) ≡ Some (node.Star (id (base + size a - 1)) first))
Holds ns base (one_or_none a first) = Holds ns base a × (slice_get ns (base + size a) ≡ Some (node.Opt (id (base + size a - 1)) first))

get_seam : (front : List Node) (n : Node) (back : List Node) → slice_get (front ++ n ∷ back) (length front) ≡ Some n
get_seam [] n back = refl
get_seam (m ∷ front) n back = get_seam front n back

at_seam : (ns front back : List Node) (n : Node) (i : ℕ) → ns ≡ front ++ n ∷ back → length front ≡ i → slice_get ns i ≡ Some n
at_seam ns front back n i e h = ap (λ (x : List Node). slice_get x i) e ∙ ap (λ (k : ℕ). slice_get (front ++ n ∷ back) k) (sym h) ∙ get_seam front n back

-- one part and its node
split_one : (front own back : List Node) (n : Node) → front ++ ((own ++ n ∷ []) ++ back) ≡ front ++ (own ++ n ∷ back)
split_one front own back n = ap (λ (x : List Node). front ++ x) (append_assoc own (n ∷ []) back)

holds_one : (ns front back : List Node) (base : ℕ) (a : Tree) (n : Node) → ns ≡ front ++ ((postorder base a ++ n ∷ []) ++ back) → length front ≡ base → slice_get ns (base + size a) ≡ Some n
holds_one ns front back base a n e h =
    at_seam ns (front ++ postorder base a) back n (base + size a) (e ∙ split_one front (postorder base a) back n ∙ sym (append_assoc front (postorder base a) (n ∷ back)))
    (omega (arith, h, length-append front (postorder base a), length-postorder base a))

holds_two : (ns front back : List Node) (base : ℕ) (a b : Tree) (n : Node) → ns ≡ front ++ (((postorder base a ++ postorder (base + size a) b) ++ n ∷ []) ++ back) → length front ≡ base →
    (ns ≡ front ++ (postorder base a ++ (postorder (base + size a) b ++ n ∷ back))) × (ns ≡ (front ++ postorder base a) ++ (postorder (base + size a) b ++ n ∷ back))
    × (length (front ++ postorder base a) ≡ base + size a) × (slice_get ns (base + size a + size b) ≡ Some n)
holds_two ns front back base a b n e h =
    let p : List Node = postorder base a in
    let q : List Node = postorder (base + size a) b in
    let whole : ns ≡ front ++ (p ++ (q ++ n ∷ back)) = e ∙ split_one front (p ++ q) back n ∙ ap (λ (x : List Node). front ++ x) (append_assoc p q (n ∷ back)) in
    let other : ns ≡ (front ++ p) ++ (q ++ n ∷ back) = whole ∙ sym (append_assoc front p (q ++ n ∷ back)) in
    let len : length (front ++ p) ≡ base + size a = omega (arith, h, length-append front p, length-postorder base a) in (
      whole,
      other,
      len,
      at_seam ns ((front ++ p) ++ q) back n (base + size a + size b) (other ∙ sym (append_assoc (front ++ p) q (n ∷ back)))
          (omega (arith, len, length-append (front ++ p) q, length-postorder (base + size a) b)),
    )

pub holds_of : (t : Tree) (ns front back : List Node) (base : ℕ) → ns ≡ front ++ (postorder base t ++ back) → length front ≡ base → Holds ns base t
holds_of null_string ns front back base e h = at_seam ns front back node.Empty base e h
holds_of (byte_of members) ns front back base e h = at_seam ns front back (node.Set members) base e h
holds_of text_begin ns front back base e h = at_seam ns front back node.Begin base e h
holds_of text_end ns front back base e h = at_seam ns front back node.End base e h
holds_of (sequence a b) ns front back base e h =
    let n : Node = node.Seq (id (base + size a - 1)) (id (base + size a + size b - 1)) in
    let r = holds_two ns front back base a b n e h in
    (holds_of a ns front (postorder (base + size a) b ++ n ∷ back) base r.0 h, holds_of b ns (front ++ postorder base a) (n ∷ back) (base + size a) r.1 r.2, r.3)
holds_of (either_of a b) ns front back base e h =
    let n : Node = node.Alt (id (base + size a - 1)) (id (base + size a + size b - 1)) in
    let r = holds_two ns front back base a b n e h in
    (holds_of a ns front (postorder (base + size a) b ++ n ∷ back) base r.0 h, holds_of b ns (front ++ postorder base a) (n ∷ back) (base + size a) r.1 r.2, r.3)
holds_of (grouped k a) ns front back base e h =
    let n : Node = node.Group k (id (base + size a - 1)) in
    (holds_of a ns front (n ∷ back) base (e ∙ split_one front (postorder base a) back n) h, holds_one ns front back base a n e h)
holds_of (any_copies a first) ns front back base e h =
    let n : Node = node.Star (id (base + size a - 1)) first in
    (holds_of a ns front (n ∷ back) base (e ∙ split_one front (postorder base a) back n) h, holds_one ns front back base a n e h)
holds_of (one_or_none a first) ns front back base e h =
    let n : Node = node.Opt (id (base + size a - 1)) first in
    (holds_of a ns front (n ∷ back) base (e ∙ split_one front (postorder base a) back n) h, holds_one ns front back base a n e h)

module _ (ns : List Node) (arena : IsArena ns) where
  root_leaf : (base : ℕ) (t : Tree) (n : Node) → size t ≡ 1 → slice_get ns base ≡ Some n → tree_of (tree_at ns) n ≡ t → tree_at ns (base + size t - 1) ≡ t
  root_leaf base t n s f e = ap (tree_at ns) (let i : base + size t - 1 ≡ base = omega (arith, s) in i) ∙ tree_at-node ns base n arena f ∙ e

  root_over : (base : ℕ) (a t : Tree) (n : Node) → size t ≡ 1 + size a → slice_get ns (base + size a) ≡ Some n → tree_of (tree_at ns) n ≡ t → tree_at ns (base + size t - 1) ≡ t
  root_over base a t n s f e = ap (tree_at ns) (let i : base + size t - 1 ≡ base + size a = omega (arith, s) in i) ∙ tree_at-node ns (base + size a) n arena f ∙ e

  root_two : (base : ℕ) (a b t : Tree) (n : Node) → size t ≡ 1 + size a + size b → slice_get ns (base + size a + size b) ≡ Some n → tree_of (tree_at ns) n ≡ t → tree_at ns (base + size t - 1) ≡ t
  root_two base a b t n s f e = ap (tree_at ns) (let i : base + size t - 1 ≡ base + size a + size b = omega (arith, s) in i) ∙ tree_at-node ns (base + size a + size b) n arena f ∙ e

  -- the tree at its last node
  pub root_is : (t : Tree) (base : ℕ) → Holds ns base t → tree_at ns (base + size t - 1) ≡ t
  root_is null_string base h = root_leaf base null_string node.Empty refl h refl
  root_is (byte_of members) base h = root_leaf base (byte_of members) (node.Set members) refl h refl
  root_is text_begin base h = root_leaf base text_begin node.Begin refl h refl
  root_is text_end base h = root_leaf base text_end node.End refl h refl
  root_is (sequence a b) base h = root_two base a b (sequence a b) _ refl h.2 (ap (λ (x : Tree). sequence x (tree_at ns (base + size a + size b - 1))) (root_is a base h.0) ∙ ap (λ (x : Tree). sequence a x) (root_is b (base + size a) h.1))
  root_is (either_of a b) base h = root_two base a b (either_of a b) _ refl h.2 (ap (λ (x : Tree). either_of x (tree_at ns (base + size a + size b - 1))) (root_is a base h.0) ∙ ap (λ (x : Tree). either_of a x) (root_is b (base + size a) h.1))
  root_is (grouped k a) base h = root_over base a (grouped k a) _ refl h.1 (ap (λ (x : Tree). grouped k x) (root_is a base h.0))
  root_is (any_copies a first) base h = root_over base a (any_copies a first) _ refl h.1 (ap (λ (x : Tree). any_copies x first) (root_is a base h.0))
  root_is (one_or_none a first) base h = root_over base a (one_or_none a first) _ refl h.1 (ap (λ (x : Tree). one_or_none x first) (root_is a base h.0))

  fits_root : (t : Tree) (base x : ℕ) → Holds ns base t → x ≡ base + size t - 1 → size (tree_at ns x) + base ≤ x + 1
  fits_root t base x h e = omega (arith, e, size_positive t, ap (λ (n : ℕ). size (tree_at ns n)) e, ap size (root_is t base h))

  two_fit : (a b t : Tree) (base x : ℕ) → size t ≡ 1 + size a + size b → Holds ns base t → (x < base + size a → size (tree_at ns x) + base ≤ x + 1) → (base + size a ≤ x → x < base + size a + size b → size (tree_at ns x) + (base + size a) ≤ x + 1) →
      x < base + size t → size (tree_at ns x) + base ≤ x + 1
  two_fit a b t base x s h left right hi = elim (leb_tells (base + size a) x) [
    | inr w ↦ left w.1
    | inl w ↦ elim (leb_tells (base + size a + size b) x) [
      | inr v ↦ omega (arith, right w.1 v.1)
      | inl v ↦ fits_root t base x h (omega (arith, v.1, hi, s))
    ]
  ]

  one_fits : (a t : Tree) (base x : ℕ) → size t ≡ 1 + size a → Holds ns base t → (x < base + size a → size (tree_at ns x) + base ≤ x + 1) → x < base + size t → size (tree_at ns x) + base ≤ x + 1
  one_fits a t base x s h inner hi = elim (leb_tells (base + size a) x) [
    | inr w ↦ inner w.1
    | inl w ↦ fits_root t base x h (omega (arith, w.1, hi, s))
  ]

  -- the trees at its nodes are no larger than the nodes up to there
  pub sizes_fit : (t : Tree) (base x : ℕ) → Holds ns base t → base ≤ x → x < base + size t → size (tree_at ns x) + base ≤ x + 1
  sizes_fit null_string base x h lo hi = fits_root null_string base x h (omega (arith, lo, hi))
  sizes_fit (byte_of members) base x h lo hi = fits_root (byte_of members) base x h (omega (arith, lo, hi))
  sizes_fit text_begin base x h lo hi = fits_root text_begin base x h (omega (arith, lo, hi))
  sizes_fit text_end base x h lo hi = fits_root text_end base x h (omega (arith, lo, hi))
  sizes_fit (sequence a b) base x h lo hi = two_fit a b (sequence a b) base x refl h (λ g. sizes_fit a base x h.0 lo g) (λ f g. sizes_fit b (base + size a) x h.1 f g) hi
  sizes_fit (either_of a b) base x h lo hi = two_fit a b (either_of a b) base x refl h (λ g. sizes_fit a base x h.0 lo g) (λ f g. sizes_fit b (base + size a) x h.1 f g) hi
  sizes_fit (grouped k a) base x h lo hi = one_fits a (grouped k a) base x refl h (λ g. sizes_fit a base x h.0 lo g) hi
  sizes_fit (any_copies a first) base x h lo hi = one_fits a (any_copies a first) base x refl h (λ g. sizes_fit a base x h.0 lo g) hi
  sizes_fit (one_or_none a first) base x h lo hi = one_fits a (one_or_none a first) base x refl h (λ g. sizes_fit a base x h.0 lo g) hi

  -- what is at an index, said of an equal one
  follows_at : (x y : ℕ) (own n : Node) → x ≡ y → slice_get ns y ≡ Some own → slice_get ns x ≡ Some n → FollowsParts ns y own → FollowsParts ns x n
  follows_at x y own n e there is parts =
      let at : slice_get ns x ≡ slice_get ns y = ap (slice_get ns) e in
      let same : own ≡ n = cc in
      subst (λ (m : Node). FollowsParts ns x m) same (subst (λ (k : ℕ). FollowsParts ns k own) (sym e) parts)

  -- the parts of two and their node
  two_follow : (a b : Tree) (base x : ℕ) (own n : Node) → slice_get ns (base + size a + size b) ≡ Some own → FollowsParts ns (base + size a + size b) own → slice_get ns x ≡ Some n →
      (x < base + size a → FollowsParts ns x n) → (base + size a ≤ x → x < base + size a + size b → FollowsParts ns x n) → x < base + (1 + size a + size b) → FollowsParts ns x n
  two_follow a b base x own n there parts is left right hi = elim (leb_tells (base + size a) x) [
    | inr w ↦ left w.1
    | inl w ↦ elim (leb_tells (base + size a + size b) x) [
      | inr v ↦ right w.1 v.1
      | inl v ↦ follows_at x (base + size a + size b) own n (omega (arith, v.1, hi)) there is parts
    ]
  ]

  one_follows : (a : Tree) (base x : ℕ) (own n : Node) → slice_get ns (base + size a) ≡ Some own → FollowsParts ns (base + size a) own → slice_get ns x ≡ Some n →
      (x < base + size a → FollowsParts ns x n) → x < base + (1 + size a) → FollowsParts ns x n
  one_follows a base x own n there parts is inner hi = elim (leb_tells (base + size a) x) [
    | inr w ↦ inner w.1
    | inl w ↦ follows_at x (base + size a) own n (omega (arith, w.1, hi)) there is parts
  ]

  -- the last node of the right part, and with it that of the left one
  right_size : (b : Tree) (base low : ℕ) → Holds ns (base + low) b → 0 < low → (base + low - 1) + size (tree_at ns (base + low + size b - 1)) + 1 ≡ base + low + size b
  right_size b base low held some = omega (arith, some, ap size (root_is b (base + low) held))

  last_part : (a : Tree) (base : ℕ) → (base + size a - 1) + 1 ≡ base + size a
  last_part a base = omega (arith, size_positive a)

  -- each node at the indices of a tree follows its parts
  pub follow_parts : (t : Tree) (base x : ℕ) (n : Node) → Holds ns base t → base ≤ x → x < base + size t → slice_get ns x ≡ Some n → FollowsParts ns x n
  follow_parts null_string base x n h lo hi is = follows_at x base node.Empty n (omega (arith, lo, hi)) h is tt
  follow_parts (byte_of members) base x n h lo hi is = follows_at x base (node.Set members) n (omega (arith, lo, hi)) h is tt
  follow_parts text_begin base x n h lo hi is = follows_at x base node.Begin n (omega (arith, lo, hi)) h is tt
  follow_parts text_end base x n h lo hi is = follows_at x base node.End n (omega (arith, lo, hi)) h is tt
  follow_parts (sequence a b) base x n h lo hi is =
      two_follow a b base x (node.Seq (id (base + size a - 1)) (id (base + size a + size b - 1))) n h.2
      (right_size b base (size a) h.1 (size_positive a), last_part b (base + size a)) is
      (λ g. follow_parts a base x n h.0 lo g is) (λ f g. follow_parts b (base + size a) x n h.1 f g is) hi
  follow_parts (either_of a b) base x n h lo hi is =
      two_follow a b base x (node.Alt (id (base + size a - 1)) (id (base + size a + size b - 1))) n h.2
      (right_size b base (size a) h.1 (size_positive a), last_part b (base + size a)) is
      (λ g. follow_parts a base x n h.0 lo g is) (λ f g. follow_parts b (base + size a) x n h.1 f g is) hi
  follow_parts (grouped k a) base x n h lo hi is =
      one_follows a base x (node.Group k (id (base + size a - 1))) n h.1 (last_part a base) is (λ g. follow_parts a base x n h.0 lo g is) hi
  follow_parts (any_copies a first) base x n h lo hi is =
      one_follows a base x (node.Star (id (base + size a - 1)) first) n h.1 (last_part a base) is (λ g. follow_parts a base x n h.0 lo g is) hi
  follow_parts (one_or_none a first) base x n h lo hi is =
      one_follows a base x (node.Opt (id (base + size a - 1)) first) n h.1 (last_part a base) is (λ g. follow_parts a base x n h.0 lo g is) hi

-- ---- the numbers of groups

abbrev NumberedNode : ℕ → Node → Type 0
NumberedNode most (node.Group k a) = (1 ≤ k) × (k ≤ most)
NumberedNode most _ = Unit {0}

abbrev AllNumbered : ℕ → List Node → Type 0
AllNumbered most [] = Unit {0}
AllNumbered most (n ∷ ns) = NumberedNode most n × AllNumbered most ns

all-append : (most : ℕ) (xs ys : List Node) → AllNumbered most xs → AllNumbered most ys → AllNumbered most (xs ++ ys)
all-append most [] ys p q = q
all-append most (x ∷ xs) ys p q = (p.0, all-append most xs ys p.1 q)

numbered_nodes : (most base : ℕ) (t : Tree) → GroupsNumbered most t → AllNumbered most (postorder base t)
numbered_nodes most base (sequence a b) h = all-append most (postorder base a ++ postorder (base + size a) b) _ (all-append most (postorder base a) (postorder (base + size a) b) (numbered_nodes most base a h.0) (numbered_nodes most (base + size a) b h.1)) (tt, tt)
numbered_nodes most base (either_of a b) h = all-append most (postorder base a ++ postorder (base + size a) b) _ (all-append most (postorder base a) (postorder (base + size a) b) (numbered_nodes most base a h.0) (numbered_nodes most (base + size a) b h.1)) (tt, tt)
numbered_nodes most base (grouped k a) h = all-append most (postorder base a) _ (numbered_nodes most base a h.2) ((h.0, h.1), tt)
numbered_nodes most base (any_copies a first) h = all-append most (postorder base a) _ (numbered_nodes most base a h) (tt, tt)
numbered_nodes most base (one_or_none a first) h = all-append most (postorder base a) _ (numbered_nodes most base a h) (tt, tt)
numbered_nodes most base _ h = (tt, tt)

number_at : (most : ℕ) (ns : List Node) (x : ℕ) (n : Node) → AllNumbered most ns → slice_get ns x ≡ Some n → NumberedNode most n
number_at most [] x n h f = absurd cc
number_at most (m ∷ ns) zero n h f = let same : m ≡ n = cc in subst (NumberedNode most) same h.0
number_at most (m ∷ ns) (suc x) n h f = number_at most ns x n h.1 f

-- ---- a whole expression

pub whole_tree : (t : Tree) (ns : List Node) → ns ≡ postorder 0 t → tree_at ns (length ns - 1) ≡ t
whole_tree t ns e =
    let arena : IsArena ns = subst IsArena (sym e) (arena_of t) in
    let held : Holds ns 0 t = holds_of t ns [] [] 0 (e ∙ sym (append-nil (postorder 0 t))) refl in
    ap (tree_at ns) (let i : length ns - 1 ≡ 0 + size t - 1 = omega (arith, ap length e, length-postorder 0 t) in i) ∙ root_is ns arena t 0 held

pub whole_expr : (t : Tree) (groups : ℕ) (ns : List Node) → ns ≡ postorder 0 t → GroupsNumbered groups t → size t ≤ 65536 → IsExpr ns groups
whole_expr t groups ns e g small =
    let arena : IsArena ns = subst IsArena (sym e) (arena_of t) in
    let held : Holds ns 0 t = holds_of t ns [] [] 0 (e ∙ sym (append-nil (postorder 0 t))) refl in
    let count : length ns ≡ size t = ap length e ∙ length-postorder 0 t in
    record {
      arena = arena;
      sizes = λ x h. omega (arith, sizes_fit ns arena t 0 x held (omega arith) (omega (arith, h, count)));
      ranges = λ x n f. follow_parts ns arena t 0 x n held (omega arith) (omega (arith, slice_get_within ns x n f, count)) f;
      numbers = λ x k a f. number_at groups ns x (node.Group k a) (subst (AllNumbered groups) (sym e) (numbered_nodes groups 0 t g)) f;
      whole = ap size (whole_tree t ns e) ∙ sym count;
      few = omega (arith, count, small);
    }
