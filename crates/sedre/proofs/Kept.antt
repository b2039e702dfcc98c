-- The trees of a stack of which the nodes are kept, and what is kept of each tree.
use Rattle.std.proofs.Common.{◌≡◌, ℕ, suc, ◌+◌, ◌-◌, ◌<◌, ◌≤◌, inl, inr, min, length, take, List, [], ◌∷◌, ◌++◌, Bool, if◌then◌else◌, refl, ap, subst, ◌∙◌, sym, append_assoc, append-nil, arith, length-append}
use Rattle.std.specs.Prelude.{nat_lt, slice_get, Some}
use Rattle.std.proofs.lemmas.Bool.{lt-ltb, le-ltb}
use Rattle.std.proofs.lemmas.Bool.Decides.{leb_tells}
use Rattle.std.proofs.lemmas.List.{take_all, take_at}
use Rattle.sedre.specs.declared.types.Node.{Node}
use Rattle.sedre.specs.declared.parts.TreeExtent.{TreeExtent}
use Rattle.sedre.specs.Packed.{PartsBelow}
use Rattle.sedre.specs.Tree.{Tree, size}
use Rattle.sedre.specs.Grammar.{depth, without_alternation}
use Rattle.sedre.specs.Stacks.{postorder, written_trees, total, fitting, extent_kept, extents_kept, last_end}
use Rattle.sedre.proofs.Written.{length-written, written-append_0, total-append}

pub fitting_all : (limit base : ℕ) (ts : List Tree) → base + total ts < limit → fitting limit base ts ≡ ts
fitting_all limit base [] h = refl
fitting_all limit base (t ∷ ts) h =
    ap (λ (b : Bool). if b then t ∷ fitting limit (base + size t) ts else []) (lt-ltb (base + size t) limit (omega (arith, h)))
    ∙ ap (λ (r : List Tree). t ∷ r) (fitting_all limit (base + size t) ts (omega (arith, h)))

fitting_none : (limit base : ℕ) (ts : List Tree) → limit ≤ base → fitting limit base ts ≡ []
fitting_none limit base [] h = refl
fitting_none limit base (t ∷ ts) h = ap (λ (b : Bool). if b then t ∷ fitting limit (base + size t) ts else []) (le-ltb (base + size t) limit (omega (arith, h)))

pub fitting_cut : (limit base : ℕ) (ts us : List Tree) → limit ≤ base + total ts → fitting limit base (ts ++ us) ≡ fitting limit base ts
fitting_cut limit base [] us h = fitting_none limit base us (omega (arith, h))
fitting_cut limit base (t ∷ ts) us h = ap (λ (r : List Tree). if nat_lt (base + size t) limit then t ∷ r else []) (fitting_cut limit (base + size t) ts us (omega (arith, h)))

pub fitting_split : (limit base : ℕ) (ts us : List Tree) → base + total ts < limit → fitting limit base (ts ++ us) ≡ ts ++ fitting limit (base + total ts) us
fitting_split limit base [] us h = ap (λ (n : ℕ). fitting limit n us) (let r : base ≡ base + 0 = omega arith in r)
fitting_split limit base (t ∷ ts) us h =
    ap (λ (b : Bool). if b then t ∷ fitting limit (base + size t) (ts ++ us) else []) (lt-ltb (base + size t) limit (omega (arith, h)))
    ∙ ap (λ (r : List Tree). t ∷ r) (fitting_split limit (base + size t) ts us (omega (arith, h)) ∙ ap (λ (n : ℕ). ts ++ fitting limit n us) (let r : base + size t + total ts ≡ base + (size t + total ts) = omega arith in r))

-- a tree too many
pub fitting_over : (limit : ℕ) (ts : List Tree) (t : Tree) → limit ≤ total ts + size t → fitting limit 0 (ts ++ t ∷ []) ≡ fitting limit 0 ts
fitting_over limit ts t h =
    elim (leb_tells limit (total ts)) [
      | inl w ↦ fitting_cut limit 0 ts (t ∷ []) (omega (arith, w.1))
      | inr w ↦ fitting_split limit 0 ts (t ∷ []) (omega (arith, w.1))
          ∙ ap (λ (b : Bool). ts ++ (if b then t ∷ [] else [])) (le-ltb (0 + total ts + size t) limit (omega (arith, h))) ∙ append-nil ts ∙ sym (fitting_all limit 0 ts (omega (arith, w.1)))
    ]

total_fitting : (limit base : ℕ) (ts : List Tree) → base ≤ limit → base + total (fitting limit base ts) ≤ limit
total_fitting limit base [] h = omega (arith, h)
total_fitting limit base (t ∷ ts) h =
    elim (leb_tells limit (base + size t)) [
      | inl w ↦ omega (arith, h, ap (λ (b : Bool). total (if b then t ∷ fitting limit (base + size t) ts else [])) (le-ltb (base + size t) limit w.1))
      | inr w ↦ omega (arith, total_fitting limit (base + size t) ts (omega (arith, w.1)), ap (λ (b : Bool). total (if b then t ∷ fitting limit (base + size t) ts else [])) (lt-ltb (base + size t) limit w.1))
    ]

-- what is left where the last trees go away
pub cut_nodes : (limit : ℕ) (ts us : List Tree) → take (min (total ts) limit) (written_trees 0 (fitting limit 0 (ts ++ us))) ≡ written_trees 0 (fitting limit 0 ts)
cut_nodes limit ts us =
    elim (leb_tells limit (total ts)) [
      | inl w ↦ ap (λ (n : ℕ). take n (written_trees 0 (fitting limit 0 (ts ++ us)))) (let r : min (total ts) limit ≡ limit = omega (arith, w.1) in r)
          ∙ ap (λ (x : List Tree). take limit (written_trees 0 x)) (fitting_cut limit 0 ts us (omega (arith, w.1)))
          ∙ take_all limit (written_trees 0 (fitting limit 0 ts)) (omega (arith, length-written 0 (fitting limit 0 ts), total_fitting limit 0 ts (omega arith)))
      | inr w ↦ ap (λ (n : ℕ). take n (written_trees 0 (fitting limit 0 (ts ++ us)))) (let r : min (total ts) limit ≡ total ts = omega (arith, w.1) in r)
          ∙ ap (λ (x : List Tree). take (total ts) (written_trees 0 x)) (fitting_split limit 0 ts us (omega (arith, w.1)))
          ∙ ap (take (total ts)) (written-append_0 ts (fitting limit (0 + total ts) us))
          ∙ take_at (written_trees 0 ts) (written_trees (total ts) (fitting limit (0 + total ts) us)) (total ts) (length-written 0 ts)
          ∙ ap (written_trees 0) (sym (fitting_all limit 0 ts (omega (arith, w.1))))
    ]

pub parts-append : (limit base : ℕ) (ts us : List Tree) → extents_kept limit base (ts ++ us) ≡ extents_kept limit base ts ++ extents_kept limit (base + total ts) us
parts-append limit base [] us = ap (λ (n : ℕ). extents_kept limit n us) (let r : base ≡ base + 0 = omega arith in r)
parts-append limit base (t ∷ ts) us =
    ap (λ (r : List TreeExtent). extent_kept limit (base + size t) t ∷ r) (parts-append limit (base + size t) ts us ∙ ap (λ (n : ℕ). extents_kept limit (base + size t) ts ++ extents_kept limit n us) (let r : base + size t + total ts ≡ base + (size t + total ts) = omega arith in r))

pub parts-append_0 : (limit : ℕ) (ts us : List Tree) → extents_kept limit 0 (ts ++ us) ≡ extents_kept limit 0 ts ++ extents_kept limit (total ts) us
parts-append_0 limit ts us = parts-append limit 0 ts us ∙ ap (λ (n : ℕ). extents_kept limit 0 ts ++ extents_kept limit n us) (let r : 0 + total ts ≡ total ts = omega arith in r)

pub length-parts : (limit base : ℕ) (ts : List Tree) → length (extents_kept limit base ts) ≡ length ts
length-parts limit base [] = refl
length-parts limit base (t ∷ ts) = ap suc (length-parts limit (base + size t) ts)

last_end_from : (limit base : ℕ) (t : Tree) (ts : List Tree) → last_end (extents_kept limit base (t ∷ ts)) ≡ min (base + total (t ∷ ts)) limit
last_end_from limit base t [] = omega arith
last_end_from limit base t (u ∷ ts) = last_end_from limit (base + size t) u ts ∙ ap (λ (n : ℕ). min n limit) (let r : base + size t + total (u ∷ ts) ≡ base + total (t ∷ u ∷ ts) = omega arith in r)

pub last_end-parts : (limit : ℕ) (ts : List Tree) → last_end (extents_kept limit 0 ts) ≡ min (total ts) limit
last_end-parts limit [] = omega arith
last_end-parts limit (t ∷ ts) = last_end_from limit 0 t ts ∙ ap (λ (n : ℕ). min n limit) (let r : 0 + total (t ∷ ts) ≡ total (t ∷ ts) = omega arith in r)

-- some trees at the end become one, whose root is a new node
pub put_nodes : (limit : ℕ) (ts us : List Tree) (t : Tree) (n : Node) (ns new : List Node) (ps : List TreeExtent) (ends : ℕ) → ns ≡ written_trees 0 (fitting limit 0 (ts ++ us)) → ps ≡ extents_kept limit 0 ts →
    ends ≡ min (total ts + total us) limit → size t ≡ 1 + total us →
    (total ts + size t < limit → PartsBelow (total ts + total us) n × (postorder (total ts) t ≡ written_trees (total ts) us ++ n ∷ [])) →
    (ends + 1 < limit → PartsBelow (length ns) n → new ≡ ns ++ n ∷ []) → (limit ≤ ends + 1 → new ≡ take (last_end ps) ns) →
    new ≡ written_trees 0 (fitting limit 0 (ts ++ t ∷ []))
put_nodes limit ts us t n ns new ps ends is parts here sized spelled kept over =
    elim (leb_tells limit (total ts + size t)) [
      | inl w ↦ over (omega (arith, w.1, here, sized)) ∙ ap (λ (k : ℕ). take k ns) (ap last_end parts ∙ last_end-parts limit ts) ∙ ap (take (min (total ts) limit)) is ∙ cut_nodes limit ts us
          ∙ ap (written_trees 0) (sym (fitting_over limit ts t w.1))
      | inr w ↦ (
          let spell = spelled w.1 in
          let before : ns ≡ written_trees 0 ts ++ written_trees (total ts) us =
          is ∙ ap (written_trees 0) (fitting_all limit 0 (ts ++ us) (omega (arith, w.1, sized, total-append ts us))) ∙ written-append_0 ts us in
          let count : length ns ≡ total ts + total us = ap length before ∙ length-append (written_trees 0 ts) (written_trees (total ts) us) ∙ omega (arith, length-written 0 ts, length-written (total ts) us) in
          kept (omega (arith, w.1, here, sized)) (subst (λ (k : ℕ). PartsBelow k n) (sym count) spell.0)
          ∙ ap (λ (x : List Node). x ++ n ∷ []) before ∙ append_assoc (written_trees 0 ts) (written_trees (total ts) us) (n ∷ []) ∙ ap (λ (x : List Node). written_trees 0 ts ++ x) (sym spell.1)
          ∙ ap (λ (x : List Node). written_trees 0 ts ++ x) (sym (append-nil (postorder (total ts) t))) ∙ sym (written-append_0 ts (t ∷ []))
          ∙ ap (written_trees 0) (sym (fitting_all limit 0 (ts ++ t ∷ []) (omega (arith, w.1, total-append ts (t ∷ []))))))
    ]

-- parts of equal measures
pub same_part : (p : TreeExtent) (e d i : ℕ) → p.end ≡ e → p.depth ≡ d → p.inner ≡ i → p ≡ record { end = e; depth = d; inner = i }
same_part p e d i a b c =
    let by_end : ℕ → TreeExtent = λ x. record { end = x; depth = p.depth; inner = p.inner } in
    let by_depth : ℕ → TreeExtent = λ x. record { end = e; depth = x; inner = p.inner } in
    let by_inner : ℕ → TreeExtent = λ x. record { end = e; depth = d; inner = x } in
    ap by_end a ∙ ap by_depth b ∙ ap by_inner c

-- the measures of the new tree
pub put_parts : (limit : ℕ) (ts us : List Tree) (t : Tree) (ps new : List TreeExtent) (one : TreeExtent) (ends : ℕ) → ps ≡ extents_kept limit 0 ts → ends ≡ min (total ts + total us) limit → size t ≡ 1 + total us →
    one.end ≡ min (ends + 1) limit → one.depth ≡ min 601 (depth t) → one.inner ≡ min 601 (without_alternation t (depth t)) → new ≡ ps ++ one ∷ [] → new ≡ extents_kept limit 0 (ts ++ t ∷ [])
put_parts limit ts us t ps new one ends parts here sized e d i more =
    more ∙ ap (λ (x : List TreeExtent). x ++ one ∷ []) parts
    ∙ ap (λ (x : TreeExtent). extents_kept limit 0 ts ++ x ∷ []) (same_part one (min (total ts + size t) limit) (min 601 (depth t)) (min 601 (without_alternation t (depth t))) (omega (arith, e, here, sized)) d i)
    ∙ sym (parts-append_0 limit ts (t ∷ []))

pub last_end_found : (ps : List TreeExtent) (p : TreeExtent) → slice_get ps (length ps - 1) ≡ Some p → last_end ps ≡ p.end
last_end_found [] p h = absurd cc
last_end_found (q ∷ []) p h = let same : q ≡ p = cc in ap (λ (x : TreeExtent). x.end) same
last_end_found (q ∷ r ∷ ps) p h =
    let n : ℕ = length ps in
    let near : slice_get (r ∷ ps) (suc n - 1) ≡ slice_get (r ∷ ps) n = ap (slice_get (r ∷ ps)) (let e : suc n - 1 ≡ n = omega arith in e) in
    let far : slice_get (q ∷ r ∷ ps) (suc n) ≡ slice_get (q ∷ r ∷ ps) (suc (suc n) - 1) = ap (slice_get (q ∷ r ∷ ps)) (let e : suc n ≡ suc (suc n) - 1 = omega arith in e) in
    last_end_found (r ∷ ps) p (near ∙ far ∙ h)
