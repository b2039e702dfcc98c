-- What is written out is an arena: parts come before their nodes, and each is a part once.
use Rattle.std.proofs.Common.{◌≡◌, ◌≢◌, ℕ, zero, suc, ◌+◌, ◌-◌, ◌<◌, ◌≤◌, ◌⊎◌, inl, inr, ◌==◌, if◌then◌else◌, length, List, [], ◌∷◌, ◌++◌, Bool, Some, refl, ap, subst, ◌∙◌, sym, append_assoc, arith, length-append}
use Rattle.std.specs.Prelude.{slice_get}
use Rattle.std.proofs.lemmas.Bool.Decides.{eqb_tells, leb_tells}
use Rattle.sedre.specs.declared.types.Node.{Node}
use Rattle.sedre.specs.declared.types.Node.TheVariants as node
use Rattle.sedre.specs.Tree.{Tree, sequence, either_of, grouped, any_copies, one_or_none, size}
use Rattle.sedre.specs.Arena.{IsPart, HasTwoParts, IsArena}
use Rattle.sedre.specs.Packed.{id}
use Rattle.sedre.specs.Stacks.{postorder}
use Rattle.sedre.proofs.Written.{size_positive, length-postorder}

-- the parts of a node
abbrev pub parts : Node → List ℕ
parts (node.Seq a b) = a.index ∷ b.index ∷ []
parts (node.Alt a b) = a.index ∷ b.index ∷ []
parts (node.Group k a) = a.index ∷ []
parts (node.Star a first) = a.index ∷ []
parts (node.Opt a first) = a.index ∷ []
parts _ = []

-- the parts of all nodes
abbrev pub all_parts : List Node → List ℕ
all_parts [] = []
all_parts (n ∷ ns) = parts n ++ all_parts ns

-- each number is below a bound
abbrev pub AllLess : ℕ → List ℕ → Type 0
AllLess bound [] = Unit {0}
AllLess bound (x ∷ xs) = (x < bound) × AllLess bound xs

-- the nodes from an index on have their parts before them
abbrev pub AreBelow : ℕ → List Node → Type 0
AreBelow base [] = Unit {0}
AreBelow base (n ∷ ns) = AllLess base (parts n) × AreBelow (base + 1) ns

-- how often a number occurs in a list
abbrev pub times : ℕ → List ℕ → ℕ
times i [] = 0
times i (x ∷ xs) = (if x == i then 1 else 0) + times i xs

times-append : (i : ℕ) (xs ys : List ℕ) → times i (xs ++ ys) ≡ times i xs + times i ys
times-append i [] ys = omega arith
times-append i (x ∷ xs) ys = omega (arith, times-append i xs ys)

parts-append : (xs ys : List Node) → all_parts (xs ++ ys) ≡ all_parts xs ++ all_parts ys
parts-append [] ys = refl
parts-append (n ∷ xs) ys = ap (λ (r : List ℕ). parts n ++ r) (parts-append xs ys) ∙ sym (append_assoc (parts n) (all_parts xs) (all_parts ys))

-- 1 within the bounds, 0 outside
pub record Once (lo hi i n : ℕ) : Type 0 where
  pub inside : lo ≤ i → i < hi → n ≡ 1
  pub under : i < lo → n ≡ 0
  pub over : hi ≤ i → n ≡ 0

hit : (x i : ℕ) → Once x (x + 1) i (if x == i then 1 else 0)
hit x i = elim (eqb_tells x i) [
  | inl w ↦ (let one : (if x == i then 1 else 0) ≡ 1 = ap (λ (b : Bool). if b then 1 else 0) w.0 in let e : x ≡ i = w.1 in record { inside = λ a b. one; under = λ a. absurd (omega (arith, e)); over = λ a. absurd (omega (arith, e)) })
  | inr w ↦ (let none : (if x == i then 1 else 0) ≡ 0 = ap (λ (b : Bool). if b then 1 else 0) w.0 in let ne : x ≢ i = w.1 in record { inside = λ a b. absurd (omega (arith, ne)); under = λ a. none; over = λ a. none })
]

-- two ranges side by side
beside : (lo mid hi i n m : ℕ) → lo ≤ mid → mid ≤ hi → Once lo mid i n → Once mid hi i m → Once lo hi i (n + m)
beside lo mid hi i n m a b p q = record {
  inside = λ c d. by_side (le_or i mid) c d;
  under = λ c. omega (arith, p.under c, q.under (omega arith));
  over = λ c. omega (arith, p.over (omega arith), q.over c);
}
  where
    le_or : (x y : ℕ) → (x < y) ⊎ (y ≤ x)
    le_or x zero = inr (omega arith)
    le_or zero (suc y) = inl (omega arith)
    le_or (suc x) (suc y) = elim (le_or x y) [ inl h ↦ inl (omega (arith, h)) | inr h ↦ inr (omega (arith, h)) ]

    by_side : (i < mid) ⊎ (mid ≤ i) → lo ≤ i → i < hi → n + m ≡ 1
    by_side (inl h) c d = omega (arith, p.inside c h, q.under h)
    by_side (inr h) c d = omega (arith, p.over h, q.inside h d)

root_too : (base : ℕ) (a : Tree) (i n : ℕ) → Once base (base + size a - 1) i n → Once base (base + size a) i (n + (if base + size a - 1 == i then 1 else 0))
root_too base a i n p =
    let s : 0 < size a = size_positive a in
    let O : ℕ → Type 0 = λ h. Once base h i (n + (if base + size a - 1 == i then 1 else 0)) in
    subst O (let e : base + size a - 1 + 1 ≡ base + size a = omega arith in e) (beside base (base + size a - 1) (base + size a - 1 + 1) i n (if base + size a - 1 == i then 1 else 0) (omega arith) (omega arith) p (hit (base + size a - 1) i))

one_once : (base : ℕ) (a : Tree) (i : ℕ) (n : Node) → parts n ≡ (base + size a - 1) ∷ [] → Once base (base + size a - 1) i (times i (all_parts (postorder base a))) →
    Once base (base + (1 + size a) - 1) i (times i (all_parts (postorder base a ++ n ∷ [])))
one_once base a i n e p =
    let O : ℕ → ℕ → Type 0 = λ h m. Once base h i m in
    let r = root_too base a i (times i (all_parts (postorder base a))) p in
    let count : times i (all_parts (postorder base a ++ n ∷ [])) ≡ times i (all_parts (postorder base a)) + (if base + size a - 1 == i then 1 else 0) =
    ap (times i) (parts-append (postorder base a) (n ∷ []) ∙ ap (λ (x : List ℕ). all_parts (postorder base a) ++ (x ++ [])) e) ∙ times-append i (all_parts (postorder base a)) ((base + size a - 1) ∷ []) ∙ omega arith in
    let last : base + size a ≡ base + (1 + size a) - 1 = omega arith in
    subst (λ (h : ℕ). O h (times i (all_parts (postorder base a ++ n ∷ [])))) last (subst (λ (m : ℕ). O (base + size a) m) (sym count) r)

two_once : (base : ℕ) (a b : Tree) (i : ℕ) (n : Node) → parts n ≡ (base + size a - 1) ∷ (base + size a + size b - 1) ∷ [] → Once base (base + size a - 1) i (times i (all_parts (postorder base a))) →
    Once (base + size a) (base + size a + size b - 1) i (times i (all_parts (postorder (base + size a) b))) →
    Once base (base + (1 + size a + size b) - 1) i (times i (all_parts ((postorder base a ++ postorder (base + size a) b) ++ n ∷ [])))
two_once base a b i n e p q =
    let x : ℕ = times i (all_parts (postorder base a)) in
    let y : ℕ = times i (all_parts (postorder (base + size a) b)) in
    let u : ℕ = if base + size a - 1 == i then 1 else 0 in
    let v : ℕ = if base + size a + size b - 1 == i then 1 else 0 in
    let O : ℕ → ℕ → Type 0 = λ h m. Once base h i m in
    let r : Once base (base + size a + size b) i ((x + u) + (y + v)) = beside base (base + size a) (base + size a + size b) i (x + u) (y + v) (omega arith) (omega arith) (root_too base a i x p) (root_too (base + size a) b i y q) in
    let all : List ℕ = all_parts (postorder base a) ++ all_parts (postorder (base + size a) b) in
    let count : times i (all_parts ((postorder base a ++ postorder (base + size a) b) ++ n ∷ [])) ≡ (x + u) + (y + v) =
    ap (times i) (parts-append (postorder base a ++ postorder (base + size a) b) (n ∷ []) ∙ ap (λ (z : List ℕ). z ++ (parts n ++ [])) (parts-append (postorder base a) (postorder (base + size a) b)) ∙ ap (λ (z : List ℕ). all ++ (z ++ [])) e)
    ∙ times-append i all ((base + size a - 1) ∷ (base + size a + size b - 1) ∷ []) ∙ omega (arith, times-append i (all_parts (postorder base a)) (all_parts (postorder (base + size a) b))) in
    let last : base + size a + size b ≡ base + (1 + size a + size b) - 1 = omega arith in
    subst (λ (h : ℕ). O h (times i (all_parts ((postorder base a ++ postorder (base + size a) b) ++ n ∷ [])))) last (subst (λ (m : ℕ). O (base + size a + size b) m) (sym count) r)

-- each node of a tree but its root is a part once, and no other number is
pub parts_once : (base : ℕ) (t : Tree) (i : ℕ) → Once base (base + size t - 1) i (times i (all_parts (postorder base t)))
parts_once base (sequence a b) i = two_once base a b i (node.Seq (id (base + size a - 1)) (id (base + size a + size b - 1))) refl (parts_once base a i) (parts_once (base + size a) b i)
parts_once base (either_of a b) i = two_once base a b i (node.Alt (id (base + size a - 1)) (id (base + size a + size b - 1))) refl (parts_once base a i) (parts_once (base + size a) b i)
parts_once base (grouped k a) i = one_once base a i (node.Group k (id (base + size a - 1))) refl (parts_once base a i)
parts_once base (any_copies a first) i = one_once base a i (node.Star (id (base + size a - 1)) first) refl (parts_once base a i)
parts_once base (one_or_none a first) i = one_once base a i (node.Opt (id (base + size a - 1)) first) refl (parts_once base a i)
parts_once base _ i = record { inside = λ a b. absurd (omega arith); under = λ a. refl; over = λ a. refl }

below-append : (base : ℕ) (xs ys : List Node) → AreBelow base xs → AreBelow (base + length xs) ys → AreBelow base (xs ++ ys)
below-append base [] ys p q = subst (λ (n : ℕ). AreBelow n ys) (let e : base + 0 ≡ base = omega arith in e) q
below-append base (n ∷ xs) ys p q = (p.0, below-append (base + 1) xs ys p.1 (subst (λ (m : ℕ). AreBelow m ys) (let e : base + suc (length xs) ≡ base + 1 + length xs = omega arith in e) q))

below_last : (base : ℕ) (xs : List Node) (n : Node) → AreBelow base xs → AllLess (base + length xs) (parts n) → AreBelow base (xs ++ n ∷ [])
below_last base xs n p h = below-append base xs (n ∷ []) p (h, tt)

-- the parts of each node come before it
pub parts_below : (base : ℕ) (t : Tree) → AreBelow base (postorder base t)
parts_below base (sequence a b) = below_last base (postorder base a ++ postorder (base + size a) b) (node.Seq (id (base + size a - 1)) (id (base + size a + size b - 1)))
    (below-append base (postorder base a) (postorder (base + size a) b) (parts_below base a) (subst (λ (m : ℕ). AreBelow m (postorder (base + size a) b)) (ap (λ (m : ℕ). base + m) (sym (length-postorder base a))) (parts_below (base + size a) b))) (
      omega (arith, length-append (postorder base a) (postorder (base + size a) b), length-postorder base a, length-postorder (base + size a) b, size_positive a, size_positive b),
      (omega (arith, length-append (postorder base a) (postorder (base + size a) b), length-postorder base a, length-postorder (base + size a) b, size_positive a, size_positive b), tt),
    )
parts_below base (either_of a b) = below_last base (postorder base a ++ postorder (base + size a) b) (node.Alt (id (base + size a - 1)) (id (base + size a + size b - 1)))
    (below-append base (postorder base a) (postorder (base + size a) b) (parts_below base a) (subst (λ (m : ℕ). AreBelow m (postorder (base + size a) b)) (ap (λ (m : ℕ). base + m) (sym (length-postorder base a))) (parts_below (base + size a) b))) (
      omega (arith, length-append (postorder base a) (postorder (base + size a) b), length-postorder base a, length-postorder (base + size a) b, size_positive a, size_positive b),
      (omega (arith, length-append (postorder base a) (postorder (base + size a) b), length-postorder base a, length-postorder (base + size a) b, size_positive a, size_positive b), tt),
    )
parts_below base (grouped k a) = below_last base (postorder base a) (node.Group k (id (base + size a - 1))) (parts_below base a) (omega (arith, length-postorder base a, size_positive a), tt)
parts_below base (any_copies a first) = below_last base (postorder base a) (node.Star (id (base + size a - 1)) first) (parts_below base a) (omega (arith, length-postorder base a, size_positive a), tt)
parts_below base (one_or_none a first) = below_last base (postorder base a) (node.Opt (id (base + size a - 1)) first) (parts_below base a) (omega (arith, length-postorder base a, size_positive a), tt)
parts_below base _ = (tt, tt)

-- ---- the same by index

times_self : (c : ℕ) (xs : List ℕ) → times c (c ∷ xs) ≡ 1 + times c xs
times_self c xs = elim (eqb_tells c c) [
  | inl w ↦ ap (λ (b : Bool). (if b then 1 else 0) + times c xs) w.0
  | inr w ↦ absurd (w.1 refl)
]

first_hit : (x c : ℕ) (xs : List ℕ) → x ≡ c → 1 ≤ times c (x ∷ xs)
first_hit x c xs e = let P : ℕ → Type 0 = λ n. 1 ≤ times c (n ∷ xs) in subst P (sym e) (omega (arith, times_self c xs))

has_part : (n : Node) (c : ℕ) → IsPart n c → 1 ≤ times c (parts n)
has_part (node.Seq a b) c (inl p) = first_hit a.index c (b.index ∷ []) p
has_part (node.Seq a b) c (inr p) = omega (arith, first_hit b.index c [] p)
has_part (node.Alt a b) c (inl p) = first_hit a.index c (b.index ∷ []) p
has_part (node.Alt a b) c (inr p) = omega (arith, first_hit b.index c [] p)
has_part (node.Group k a) c p = first_hit a.index c [] p
has_part (node.Star a first) c p = first_hit a.index c [] p
has_part (node.Opt a first) c p = first_hit a.index c [] p
has_part _ c p = absurd p

-- a number that is counted is one of them
hit_is : (x c : ℕ) → 1 ≤ (if x == c then 1 else 0) → x ≡ c
hit_is x c h = elim (eqb_tells x c) [
  | inl w ↦ w.1
  | inr w ↦ absurd (omega (arith, h, ap {B = ℕ} (λ (b : Bool). if b then 1 else 0) w.0))
]

one_of : (x y c : ℕ) → 1 ≤ times c (x ∷ y ∷ []) → (x ≡ c) ⊎ (y ≡ c)
one_of x y c h = elim (eqb_tells x c) [
  | inl w ↦ inl w.1
  | inr w ↦ inr (hit_is y c (omega (arith, h, ap {B = ℕ} (λ (b : Bool). if b then 1 else 0) w.0)))
]

only_one : (x c : ℕ) → 1 ≤ times c (x ∷ []) → x ≡ c
only_one x c h = hit_is x c (omega (arith, h))

part_of_node : (n : Node) (c : ℕ) → 1 ≤ times c (parts n) → IsPart n c
part_of_node (node.Seq a b) c h = one_of a.index b.index c h
part_of_node (node.Alt a b) c h = one_of a.index b.index c h
part_of_node (node.Group k a) c h = only_one a.index c h
part_of_node (node.Star a first) c h = only_one a.index c h
part_of_node (node.Opt a first) c h = only_one a.index c h
part_of_node _ c h = absurd (omega (arith, h))

some_part : (ns : List Node) (x c : ℕ) (n : Node) → slice_get ns x ≡ Some n → IsPart n c → 1 ≤ times c (all_parts ns)
some_part [] x c n h p = absurd cc
some_part (m ∷ ns) zero c n h p =
    let same : m ≡ n = cc in
    let P : Node → Type 0 = λ k. IsPart k c in
    omega (arith, times-append c (parts m) (all_parts ns), has_part m c (subst P (sym same) p))
some_part (m ∷ ns) (suc x) c n h p = omega (arith, times-append c (parts m) (all_parts ns), some_part ns x c n h p)

one_parent : (ns : List Node) (x y c : ℕ) (n m : Node) → times c (all_parts ns) ≤ 1 → slice_get ns x ≡ Some n → slice_get ns y ≡ Some m → IsPart n c → IsPart m c → x ≡ y
one_parent [] x y c n m h f g p q = absurd cc
one_parent (k ∷ ns) zero zero c n m h f g p q = refl
one_parent (k ∷ ns) zero (suc y) c n m h f g p q =
    let same : k ≡ n = cc in
    let P : Node → Type 0 = λ j. IsPart j c in
    absurd (omega (arith, h, times-append c (parts k) (all_parts ns), has_part k c (subst P (sym same) p), some_part ns y c m g q))
one_parent (k ∷ ns) (suc x) zero c n m h f g p q =
    let same : k ≡ m = cc in
    let P : Node → Type 0 = λ j. IsPart j c in
    absurd (omega (arith, h, times-append c (parts k) (all_parts ns), has_part k c (subst P (sym same) q), some_part ns x c n f p))
one_parent (k ∷ ns) (suc x) (suc y) c n m h f g p q = ap suc (one_parent ns x y c n m (omega (arith, h, times-append c (parts k) (all_parts ns))) f g p q)

two_differ : (i j : ℕ) → ((c : ℕ) → times c (i ∷ j ∷ []) ≤ 1) → i ≢ j
two_differ i j h e =
    let P : ℕ → Type 0 = λ x. times i (i ∷ x ∷ []) ≤ 1 in
    let once : P i = subst P (sym e) (h i) in
    omega (arith, once, times_self i (i ∷ []), times_self i [])

distinct_parts : (n : Node) → ((c : ℕ) → times c (parts n) ≤ 1) → HasTwoParts n
distinct_parts (node.Seq a b) h = two_differ a.index b.index h
distinct_parts (node.Alt a b) h = two_differ a.index b.index h
distinct_parts _ h = tt

distinct_at : (ns : List Node) (x : ℕ) (n : Node) → ((c : ℕ) → times c (all_parts ns) ≤ 1) → slice_get ns x ≡ Some n → HasTwoParts n
distinct_at [] x n h f = absurd cc
distinct_at (m ∷ ns) zero n h f =
    let same : m ≡ n = cc in
    subst HasTwoParts same (distinct_parts m (λ c. omega (arith, h c, times-append c (parts m) (all_parts ns))))
distinct_at (m ∷ ns) (suc x) n h f = distinct_at ns x n (λ c. omega (arith, h c, times-append c (parts m) (all_parts ns))) f

less_part : (n : Node) (bound c : ℕ) → AllLess bound (parts n) → IsPart n c → c < bound
less_part (node.Seq a b) bound c h (inl p) = omega (arith, h.0, p)
less_part (node.Seq a b) bound c h (inr p) = omega (arith, h.1.0, p)
less_part (node.Alt a b) bound c h (inl p) = omega (arith, h.0, p)
less_part (node.Alt a b) bound c h (inr p) = omega (arith, h.1.0, p)
less_part (node.Group k a) bound c h p = omega (arith, h.0, p)
less_part (node.Star a first) bound c h p = omega (arith, h.0, p)
less_part (node.Opt a first) bound c h p = omega (arith, h.0, p)
less_part _ bound c h p = absurd p

below_at : (ns : List Node) (base x c : ℕ) (n : Node) → AreBelow base ns → slice_get ns x ≡ Some n → IsPart n c → c < base + x
below_at [] base x c n h f p = absurd cc
below_at (m ∷ ns) base zero c n h f p =
    let same : m ≡ n = cc in
    let P : Node → Type 0 = λ k. IsPart k c in
    omega (arith, less_part m base c h.0 (subst P (sym same) p))
below_at (m ∷ ns) base (suc x) c n h f p = omega (arith, below_at ns (base + 1) x c n h.1 f p)

parent_of : (ns : List Node) (c : ℕ) → 1 ≤ times c (all_parts ns) → (x : ℕ) × (n : Node) × (slice_get ns x ≡ Some n) × IsPart n c
parent_of [] c h = absurd (omega (arith, h))
parent_of (m ∷ ns) c h =
    elim (leb_tells 1 (times c (parts m))) [
      | inl w ↦ (zero, m, refl, part_of_node m c w.1)
      | inr w ↦ (let r = parent_of ns c (omega (arith, h, w.1, times-append c (parts m) (all_parts ns))) in (suc r.0, r.1, r.2, r.3))
    ]

-- the nodes of a tree, from 0 on
pub arena_of : (t : Tree) → IsArena (postorder 0 t)
arena_of t =
    let count : length (postorder 0 t) ≡ size t = length-postorder 0 t in
    let pos : 0 < size t = size_positive t in
    let once : (c : ℕ) → times c (all_parts (postorder 0 t)) ≤ 1 = λ c. at_most c (parts_once 0 t c) in
    record {
      nonempty = omega (arith, count, pos);
      below = λ x c n f p. omega (arith, below_at (postorder 0 t) 0 x c n (parts_below 0 t) f p);
      distinct = λ x n f. distinct_at (postorder 0 t) x n once f;
      once = λ x y c n m f g p q. one_parent (postorder 0 t) x y c n m (once c) f g p q;
      each = λ c h. parent_of (postorder 0 t) c (let e = (parts_once 0 t c).inside (omega arith) (omega (arith, h, count)) in omega (arith, e));
    }
  where
    at_most : (c : ℕ) {n : ℕ} → Once 0 (0 + size t - 1) c n → n ≤ 1
    at_most c {n = n} o = elim (leb_tells (0 + size t - 1) c) [
      | inl w ↦ omega (arith, o.over w.1)
      | inr w ↦ omega (arith, o.inside (omega arith) w.1)
    ]
