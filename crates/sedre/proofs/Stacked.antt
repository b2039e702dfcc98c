-- One tree more or less on the stack.
use Rattle.std.proofs.Common.{◌≡◌, ℕ, ◌+◌, ◌-◌, ◌<◌, ◌≤◌, inl, inr, min, max, length, take, drop, map, List, [], ◌∷◌, ◌++◌, Bool, true, false, refl, ap, subst, ◌∙◌, sym, append_assoc, append-nil, arith, length-append, Result, Ok, Err, OnOk}
use Rattle.std.specs.declared.alloc.AllocError.{AllocError}
use Rattle.std.proofs.lemmas.Bool.Decides.{leb_tells}
use Rattle.sedre.specs.declared.types.NodeId.{NodeId}
use Rattle.sedre.specs.declared.types.Node.{Node}
use Rattle.sedre.specs.declared.types.Node.TheVariants as node
use Rattle.sedre.specs.declared.parts.TreeExtent.{TreeExtent}
use Rattle.sedre.specs.declared.parts.Cover.{Cover}
use Rattle.sedre.specs.declared.parts.Cover.TheVariants as cover
use Rattle.sedre.specs.declared.stack.Stack.{Stack}
use Rattle.sedre.specs.Covers.{cover_node}
use Rattle.sedre.specs.Packed.{id, PartsBelow, shifted}
use Rattle.sedre.specs.Tree.{Tree, null_string, sequence, either_of, size}
use Rattle.sedre.specs.Grammar.{depth, without_alternation, concatenation}
use Rattle.sedre.specs.Stacks.{postorder, written_trees, total, fitting, extent_kept, extents_kept, last_end, IsLeaf, PutsTree, StoresTrees, pair, chain, covered}
use Rattle.sedre.proofs.Written.{size_positive, length-postorder, length-written, written-append_0, total-append, snoc_last, split_last}
use Rattle.sedre.proofs.Copied.{postorder-shifted}
use Rattle.std.proofs.Math.Seq.{drop-append_seam as drop-append}
use Rattle.sedre.proofs.Kept.{same_part, fitting_all, fitting_over, cut_nodes, parts-append_0, length-parts, last_end-parts, put_nodes, put_parts}

pub on_ok_map : {A : Type 0} (r : Result A AllocError) (P Q : Type 0) → (P → Q) → OnOk r P → OnOk r Q
on_ok_map (Ok u) P Q f p = f p
on_ok_map (Err x) P Q f p = tt

-- a node was put over the last trees
put_over : (limit : ℕ) (ts us : List Tree) (t : Tree) (ns : List Node) (ps : List TreeExtent) (new : Stack) (n : Node) (ends d i : ℕ) → PutsTree limit ns ps new n ends d i →
    ns ≡ written_trees 0 (fitting limit 0 (ts ++ us)) → ps ≡ extents_kept limit 0 ts → ends ≡ min (total ts + total us) limit → size t ≡ 1 + total us →
    (total ts + size t < limit → PartsBelow (total ts + total us) n × (postorder (total ts) t ≡ written_trees (total ts) us ++ n ∷ [])) →
    d ≡ min 601 (depth t) → i ≡ min 601 (without_alternation t (depth t)) → StoresTrees limit new (ts ++ t ∷ [])
put_over limit ts us t ns ps new n ends d i p is parts here sized spelled ed ei = record {
  limit_is = p.limit_is;
  nodes_are = put_nodes limit ts us t n ns new.nodes ps ends is parts here sized spelled p.kept p.over;
  parts_are = put_parts limit ts us t ps new.parts.items _ ends parts here sized refl ed ei p.parts;
}

-- the last part is that of the last tree
pub last_part : (limit : ℕ) (s : Stack) (ts : List Tree) (a : Tree) (ps : List TreeExtent) (p : TreeExtent) → StoresTrees limit s (ts ++ a ∷ []) → s.parts.items ≡ ps ++ p ∷ [] →
    (ps ≡ extents_kept limit 0 ts) × (p ≡ extent_kept limit (total ts + size a) a)
last_part limit s ts a ps p st e = snoc_last ps (extents_kept limit 0 ts) p (extent_kept limit (total ts + size a) a) (sym e ∙ st.parts_are ∙ parts-append_0 limit ts (a ∷ []))

same_id : (i : NodeId) (n : ℕ) → i.index ≡ n → i ≡ id n
same_id i n e = ap id e

pub stored_leaf : (limit : ℕ) (old new : Stack) (ts : List Tree) (t : Tree) (n : Node) (ends : ℕ) → IsLeaf n t → StoresTrees limit old ts → ends ≡ last_end old.parts.items →
    PutsTree old.limit old.nodes old.parts.items new n ends 0 0 → StoresTrees limit new (ts ++ t ∷ [])
stored_leaf limit old new ts t n ends leaf s here p =
    let P : ℕ → Type 0 = λ m. PutsTree m old.nodes old.parts.items new n ends 0 0 in
    let W : List Tree → Type 0 = λ x. old.nodes ≡ written_trees 0 (fitting limit 0 x) in
    put_over limit ts [] t old.nodes old.parts.items new n ends 0 0 (subst P s.limit_is p) (subst W (sym (append-nil ts)) s.nodes_are) s.parts_are
    (let e : ends ≡ min (total ts) limit = here ∙ ap last_end s.parts_are ∙ last_end-parts limit ts in omega (arith, e)) (omega (arith, leaf.1))
    (λ h. (leaf.4 (total ts + 0), leaf.0 (total ts))) (omega (arith, leaf.2)) (omega (arith, leaf.3))

cover_spelled : (c : Cover) (base : ℕ) (a : Tree) → postorder base (covered c a) ≡ postorder base a ++ cover_node c (id (base + size a - 1)) ∷ []
cover_spelled (cover.Group k) base a = refl
cover_spelled _ base a = refl

cover_size : (c : Cover) (a : Tree) → size (covered c a) ≡ 1 + size a
cover_size (cover.Group k) a = refl
cover_size _ a = refl

cover_depth : (c : Cover) (a : Tree) → depth (covered c a) ≡ 1 + depth a
cover_depth (cover.Group k) a = refl
cover_depth _ a = refl

cover_inner : (c : Cover) (a : Tree) → without_alternation (covered c a) (depth (covered c a)) ≡ 1 + depth a
cover_inner (cover.Group k) a = refl
cover_inner _ a = refl

cover_below : (c : Cover) (i : NodeId) (k : ℕ) → i.index < k → PartsBelow k (cover_node c i)
cover_below (cover.Group n) i k h = h
cover_below _ i k h = h

pub stored_cover : (c : Cover) (limit : ℕ) (old new : Stack) (ts : List Tree) (a : Tree) (ps : List TreeExtent) (p : TreeExtent) (root : NodeId) (made : Node) (d : ℕ) → StoresTrees limit old (ts ++ a ∷ []) → old.parts.items ≡ ps ++ p ∷ [] →
    root.index ≡ p.end - 1 → made ≡ cover_node c root → d ≡ min 600 p.depth + 1 → PutsTree old.limit old.nodes ps new made p.end d d → StoresTrees limit new (ts ++ covered c a ∷ [])
stored_cover c limit old new ts a ps p root made d s e er em ed put =
    let last = last_part limit old ts a ps p s e in
    let P : ℕ → Type 0 = λ m. PutsTree m old.nodes ps new made p.end d d in
    let ends : p.end ≡ min (total ts + size a) limit = ap (λ (x : TreeExtent). x.end) last.1 in
    let deep : p.depth ≡ min 601 (depth a) = ap (λ (x : TreeExtent). x.depth) last.1 in
    let pos : 0 < size a = size_positive a in
    put_over limit ts (a ∷ []) (covered c a) old.nodes ps new made p.end d d (subst P s.limit_is put) s.nodes_are last.0 (omega (arith, ends)) (omega (arith, cover_size c a))
    (λ h. (
      subst (PartsBelow (total ts + total (a ∷ []))) (sym em) (cover_below c root (total ts + total (a ∷ [])) (omega (arith, er, ends, h, pos, cover_size c a))),
      cover_spelled c (total ts) a ∙ ap (λ (x : Node). postorder (total ts) a ++ x ∷ []) (ap (cover_node c) (sym (same_id root (total ts + size a - 1) (omega (arith, er, ends, h, cover_size c a)))) ∙ sym em)
          ∙ ap (λ (x : List Node). x ++ made ∷ []) (sym (append-nil (postorder (total ts) a))),
    ))
    (omega (arith, ed, deep, cover_depth c a)) (omega (arith, ed, deep, cover_inner c a))

-- the last two parts are those of the last two trees
last_two : (limit : ℕ) (s : Stack) (ts : List Tree) (a b : Tree) (p1 p0 : List TreeExtent) (p q : TreeExtent) → StoresTrees limit s (ts ++ a ∷ b ∷ []) → s.parts.items ≡ p1 ++ q ∷ [] → p1 ≡ p0 ++ p ∷ [] →
    (p0 ≡ extents_kept limit 0 ts) × (p ≡ extent_kept limit (total ts + size a) a) × (q ≡ extent_kept limit (total ts + size a + size b) b)
last_two limit s ts a b p1 p0 p q st e1 e0 =
    let all : s.parts.items ≡ (extents_kept limit 0 ts ++ extent_kept limit (total ts + size a) a ∷ []) ++ extent_kept limit (total ts + size a + size b) b ∷ [] =
    st.parts_are ∙ parts-append_0 limit ts (a ∷ b ∷ []) ∙ sym (append_assoc (extents_kept limit 0 ts) (extent_kept limit (total ts + size a) a ∷ []) (extent_kept limit (total ts + size a + size b) b ∷ [])) in
    let second = snoc_last p1 (extents_kept limit 0 ts ++ extent_kept limit (total ts + size a) a ∷ []) q (extent_kept limit (total ts + size a + size b) b) (sym e1 ∙ all) in
    let first = snoc_last p0 (extents_kept limit 0 ts) p (extent_kept limit (total ts + size a) a) (sym e0 ∙ second.0) in
    (first.0, first.1, second.1)

-- two trees under a node
two_over : (over : Tree → Tree → Tree) (make : NodeId → NodeId → Node) →
    ((base : ℕ) (a b : Tree) → postorder base (over a b) ≡ (postorder base a ++ postorder (base + size a) b) ++ make (id (base + size a - 1)) (id (base + size a + size b - 1)) ∷ []) →
    ((a b : Tree) → size (over a b) ≡ 1 + size a + size b) → ((i j : NodeId) (k : ℕ) → i.index < k → j.index < k → PartsBelow k (make i j)) →
    (limit : ℕ) (old new : Stack) (ts : List Tree) (a b : Tree) (p1 p0 : List TreeExtent) (p q : TreeExtent) (left right : NodeId) (d i : ℕ) → StoresTrees limit old (ts ++ a ∷ b ∷ []) → old.parts.items ≡ p1 ++ q ∷ [] → p1 ≡ p0 ++ p ∷ [] →
    left.index ≡ p.end - 1 → right.index ≡ q.end - 1 → d ≡ min 601 (depth (over a b)) → i ≡ min 601 (without_alternation (over a b) (depth (over a b))) → PutsTree old.limit old.nodes p0 new (make left right) q.end d i →
    StoresTrees limit new (ts ++ over a b ∷ [])
two_over over make spelled sized below limit old new ts a b p1 p0 p q left right d i s e1 e0 el er ed ei put =
    let last = last_two limit old ts a b p1 p0 p q s e1 e0 in
    let P : ℕ → Type 0 = λ m. PutsTree m old.nodes p0 new (make left right) q.end d i in
    let p_ends : p.end ≡ min (total ts + size a) limit = ap (λ (x : TreeExtent). x.end) last.1 in
    let q_ends : q.end ≡ min (total ts + size a + size b) limit = ap (λ (x : TreeExtent). x.end) last.2 in
    let pa : 0 < size a = size_positive a in
    let pb : 0 < size b = size_positive b in
    let count : total (a ∷ b ∷ []) ≡ size a + size b = omega arith in
    put_over limit ts (a ∷ b ∷ []) (over a b) old.nodes p0 new (make left right) q.end d i (subst P s.limit_is put) s.nodes_are last.0 (omega (arith, q_ends, count)) (omega (arith, sized a b, count))
    (λ h. (
      below left right (total ts + total (a ∷ b ∷ [])) (omega (arith, el, p_ends, h, pa, sized a b, count)) (omega (arith, er, q_ends, h, pb, sized a b, count)),
      spelled (total ts) a b
          ∙ ap (λ (x : NodeId). (postorder (total ts) a ++ postorder (total ts + size a) b) ++ make x (id (total ts + size a + size b - 1)) ∷ []) (sym (same_id left (total ts + size a - 1) (omega (arith, el, p_ends, h, pa, pb, sized a b))))
          ∙ ap (λ (x : NodeId). (postorder (total ts) a ++ postorder (total ts + size a) b) ++ make left x ∷ []) (sym (same_id right (total ts + size a + size b - 1) (omega (arith, er, q_ends, h, pb, sized a b))))
          ∙ ap (λ (x : List Node). (postorder (total ts) a ++ x) ++ make left right ∷ []) (sym (append-nil (postorder (total ts + size a) b))),
    ))
    ed ei

pub stored_alt : (limit : ℕ) (old new : Stack) (ts : List Tree) (a b : Tree) (p1 p0 : List TreeExtent) (p q : TreeExtent) (left right : NodeId) (d i : ℕ) → StoresTrees limit old (ts ++ a ∷ b ∷ []) → old.parts.items ≡ p1 ++ q ∷ [] → p1 ≡ p0 ++ p ∷ [] →
    left.index ≡ p.end - 1 → right.index ≡ q.end - 1 → i ≡ max p.depth q.inner → d ≡ min 600 i + 1 → PutsTree old.limit old.nodes p0 new (node.Alt left right) q.end d i → StoresTrees limit new (ts ++ either_of a b ∷ [])
stored_alt limit old new ts a b p1 p0 p q left right d i s e1 e0 el er ei ed put =
    let last = last_two limit old ts a b p1 p0 p q s e1 e0 in
    let deep : p.depth ≡ min 601 (depth a) = ap (λ (x : TreeExtent). x.depth) last.1 in
    let inner : q.inner ≡ min 601 (without_alternation b (depth b)) = ap (λ (x : TreeExtent). x.inner) last.2 in
    two_over either_of node.Alt (λ _ _ _. refl) (λ _ _. refl) (λ _ _ _ h g. (h, g)) limit old new ts a b p1 p0 p q left right d i s e1 e0 el er (omega (arith, ed, ei, deep, inner)) (omega (arith, ei, deep, inner)) put

pub stored_seq : (limit : ℕ) (old new : Stack) (ts : List Tree) (a b : Tree) (p1 p0 : List TreeExtent) (p q : TreeExtent) (left right : NodeId) (d : ℕ) → StoresTrees limit old (ts ++ a ∷ b ∷ []) → old.parts.items ≡ p1 ++ q ∷ [] → p1 ≡ p0 ++ p ∷ [] →
    left.index ≡ p.end - 1 → right.index ≡ q.end - 1 → d ≡ max p.depth q.depth → PutsTree old.limit old.nodes p0 new (node.Seq left right) q.end d d → StoresTrees limit new (ts ++ sequence a b ∷ [])
stored_seq limit old new ts a b p1 p0 p q left right d s e1 e0 el er ed put =
    let last = last_two limit old ts a b p1 p0 p q s e1 e0 in
    let deep : p.depth ≡ min 601 (depth a) = ap (λ (x : TreeExtent). x.depth) last.1 in
    let deeper : q.depth ≡ min 601 (depth b) = ap (λ (x : TreeExtent). x.depth) last.2 in
    two_over sequence node.Seq (λ _ _ _. refl) (λ _ _. refl) (λ _ _ _ h g. (h, g)) limit old new ts a b p1 p0 p q left right d d s e1 e0 el er (omega (arith, ed, deep, deeper)) (omega (arith, ed, deep, deeper)) put

-- the last tree goes away
pub stored_drop : (limit : ℕ) (old new : Stack) (ts : List Tree) (a : Tree) (p : TreeExtent) → StoresTrees limit old (ts ++ a ∷ []) → old.parts.items ≡ new.parts.items ++ p ∷ [] → new.limit ≡ old.limit →
    new.nodes ≡ take (last_end new.parts.items) old.nodes → StoresTrees limit new ts
stored_drop limit old new ts a p s e el en =
    let last = last_part limit old ts a new.parts.items p s e in
    record {
      limit_is = el ∙ s.limit_is;
      nodes_are = en ∙ ap (λ (k : ℕ). take k old.nodes) (ap last_end last.0 ∙ last_end-parts limit ts) ∙ ap (take (min (total ts) limit)) s.nodes_are ∙ cut_nodes limit ts (a ∷ []);
      parts_are = last.0;
    }

-- the last tree once more: its nodes are copied after all others, each part by as many places as the tree has nodes
pub stored_copy : (limit : ℕ) (old new : Stack) (ts : List Tree) (a : Tree) (ps : List TreeExtent) (p one : TreeExtent) (count : ℕ) → StoresTrees limit old (ts ++ a ∷ []) → old.parts.items ≡ ps ++ p ∷ [] →
    count ≡ p.end - last_end ps → one.end ≡ min (p.end + count) old.limit → one.depth ≡ p.depth → one.inner ≡ p.inner → new.limit ≡ old.limit → new.parts.items ≡ (ps ++ p ∷ []) ++ one ∷ [] →
    (one.end < old.limit → count ≤ length old.nodes → new.nodes ≡ old.nodes ++ map (shifted count) (drop (length old.nodes - count) old.nodes)) → (old.limit ≤ one.end → new.nodes ≡ old.nodes) →
    StoresTrees limit new ((ts ++ a ∷ []) ++ a ∷ [])
stored_copy limit old new ts a ps p one count s e ec ee ed ei el ep kept over =
    let last = last_part limit old ts a ps p s e in
    let lim : old.limit ≡ limit = s.limit_is in
    let before : last_end ps ≡ min (total ts) limit = ap last_end last.0 ∙ last_end-parts limit ts in
    let ends : p.end ≡ min (total ts + size a) limit = ap (λ (x : TreeExtent). x.end) last.1 in
    let both : total (ts ++ a ∷ []) ≡ total ts + size a = total-append ts (a ∷ []) ∙ omega arith in
    let all : total ((ts ++ a ∷ []) ++ a ∷ []) ≡ total ts + size a + size a = total-append (ts ++ a ∷ []) (a ∷ []) ∙ omega (arith, both) in
    record {
      limit_is = el ∙ lim;
      nodes_are = elim (leb_tells limit (total ts + size a + size a)) [
        | inl w ↦ over (omega (arith, w.1, ee, ec, before, ends, lim)) ∙ s.nodes_are ∙ ap (written_trees 0) (sym (fitting_over limit (ts ++ a ∷ []) a (omega (arith, w.1, both))))
        | inr w ↦ (
            let size_is : count ≡ size a = omega (arith, w.1, ec, before, ends) in
            let old_nodes : old.nodes ≡ written_trees 0 ts ++ postorder (total ts) a =
            s.nodes_are ∙ ap (written_trees 0) (fitting_all limit 0 (ts ++ a ∷ []) (omega (arith, w.1, both))) ∙ written-append_0 ts (a ∷ []) ∙ ap (λ (x : List Node). written_trees 0 ts ++ x) (append-nil (postorder (total ts) a)) in
            let len : length old.nodes ≡ total ts + size a = ap length old_nodes ∙ length-append (written_trees 0 ts) (postorder (total ts) a) ∙ omega (arith, length-written 0 ts, length-postorder (total ts) a) in
            let own : drop (length old.nodes - count) old.nodes ≡ postorder (total ts) a =
            ap (λ (k : ℕ). drop k old.nodes) (let r : length old.nodes - count ≡ length (written_trees 0 ts) = omega (arith, len, size_is, length-written 0 ts) in r) ∙ ap (drop (length (written_trees 0 ts))) old_nodes ∙ drop-append (written_trees 0 ts) (postorder (total ts) a) in
            kept (omega (arith, w.1, ee, ec, before, ends, lim)) (omega (arith, len, size_is))
            ∙ ap (λ (x : List Node). old.nodes ++ map (shifted count) x) own ∙ ap (λ (k : ℕ). old.nodes ++ map (shifted k) (postorder (total ts) a)) size_is
            ∙ ap (λ (x : List Node). old.nodes ++ x) (sym (postorder-shifted (size a) (total ts) a))
            ∙ ap (λ (x : List Node). x ++ postorder (total ts + size a) a) (s.nodes_are ∙ ap (written_trees 0) (fitting_all limit 0 (ts ++ a ∷ []) (omega (arith, w.1, both))))
            ∙ ap (λ (k : ℕ). written_trees 0 (ts ++ a ∷ []) ++ postorder k a) (sym both)
            ∙ ap (λ (x : List Node). written_trees 0 (ts ++ a ∷ []) ++ x) (sym (append-nil (postorder (total (ts ++ a ∷ [])) a)))
            ∙ sym (written-append_0 (ts ++ a ∷ []) (a ∷ []))
            ∙ ap (written_trees 0) (sym (fitting_all limit 0 ((ts ++ a ∷ []) ++ a ∷ []) (omega (arith, w.1, all)))))
      ];
      parts_are = ep ∙ ap (λ (x : List TreeExtent). x ++ one ∷ []) (sym e ∙ s.parts_are)
          ∙ ap (λ (x : TreeExtent). extents_kept limit 0 (ts ++ a ∷ []) ++ x ∷ []) (same_part one (min (total (ts ++ a ∷ []) + size a) limit) (min 601 (depth a)) (min 601 (without_alternation a (depth a)))
          (omega (arith, ee, ec, before, ends, lim, both)) (ed ∙ ap (λ (x : TreeExtent). x.depth) last.1) (ei ∙ ap (λ (x : TreeExtent). x.inner) last.1))
          ∙ sym (parts-append_0 limit (ts ++ a ∷ []) (a ∷ []));
    }

abbrev pub no_part : TreeExtent
no_part = record { end = 0; depth = 0; inner = 0 }

-- a chain of two and more is a pair
chain_cons : (alternatives : Bool) (p q : Tree) (ps : List Tree) → chain alternatives (p ∷ q ∷ ps) ≡ pair alternatives p (chain alternatives (q ∷ ps))
chain_cons true p q ps = refl
chain_cons false p q ps = refl

chain_one : (alternatives : Bool) (p : Tree) → chain alternatives (p ∷ []) ≡ p
chain_one true p = refl
chain_one false p = refl

-- of the trees after others the last ones are joined
pub record Partly (alternatives : Bool) (limit : ℕ) (s : Stack) (ts ps : List Tree) : Type 0 where
  pub front : List Tree
  pub first : Tree
  pub rest : List Tree
  pub whole : ps ≡ front ++ first ∷ rest
  pub stored : StoresTrees limit s ((ts ++ front) ++ chain alternatives (first ∷ rest) ∷ [])

pub count_of : {limit : ℕ} {s : Stack} {ts : List Tree} → StoresTrees limit s ts → length s.parts.items ≡ length ts
count_of {limit = limit} {ts = ts} s = ap length s.parts_are ∙ length-parts limit 0 ts

pub partly_start : (alternatives : Bool) (limit : ℕ) (s : Stack) (ts ps : List Tree) → length ts < length s.parts.items → StoresTrees limit s (ts ++ ps) → Partly alternatives limit s ts ps
partly_start alternatives limit s ts ps h st =
    let n : 0 < length ps = omega (arith, h, count_of st, length-append ts ps) in
    let r = split_last ps n in
    let S : List Tree → Type 0 = λ x. StoresTrees limit s x in
    record {
      front = r.0;
      first = r.1;
      rest = [];
      whole = r.2;
      stored = subst S (ap (λ (x : List Tree). ts ++ x) r.2 ∙ sym (append_assoc ts r.0 (r.1 ∷ [])) ∙ ap (λ (x : Tree). (ts ++ r.0) ++ x ∷ []) (sym (chain_one alternatives r.1))) st;
    }

pub partly_step : (alternatives : Bool) (limit : ℕ) (s s' : Stack) (ts ps : List Tree) → length ts + 1 < length s.parts.items →
    ((m : ℕ) (us : List Tree) (a b : Tree) → StoresTrees m s (us ++ a ∷ b ∷ []) → StoresTrees m s' (us ++ pair alternatives a b ∷ [])) →
    Partly alternatives limit s ts ps → Partly alternatives limit s' ts ps
partly_step alternatives limit s s' ts ps h join p =
    let last : Tree = chain alternatives (p.first ∷ p.rest) in
    let n : 0 < length p.front = omega (arith, h, count_of p.stored, length-append (ts ++ p.front) (last ∷ []), length-append ts p.front) in
    let r = split_last p.front n in
    let S : List Tree → Type 0 = λ x. StoresTrees limit s x in
    let T : Tree → Type 0 = λ x. StoresTrees limit s' ((ts ++ r.0) ++ x ∷ []) in
    let before : S ((ts ++ r.0) ++ r.1 ∷ last ∷ []) =
    subst S (ap (λ (x : List Tree). (ts ++ x) ++ last ∷ []) r.2 ∙ ap (λ (x : List Tree). x ++ last ∷ []) (sym (append_assoc ts r.0 (r.1 ∷ []))) ∙ append_assoc (ts ++ r.0) (r.1 ∷ []) (last ∷ [])) p.stored in
    record {
      front = r.0;
      first = r.1;
      rest = p.first ∷ p.rest;
      whole = p.whole ∙ ap (λ (x : List Tree). x ++ p.first ∷ p.rest) r.2 ∙ append_assoc r.0 (r.1 ∷ []) (p.first ∷ p.rest);
      stored = subst T (sym (chain_cons alternatives r.1 p.first p.rest)) (join limit (ts ++ r.0) r.1 last before);
    }

pub partly_end : (alternatives : Bool) (limit : ℕ) (s : Stack) (ts ps : List Tree) → length s.parts.items ≤ length ts + 1 → Partly alternatives limit s ts ps → StoresTrees limit s (ts ++ chain alternatives ps ∷ [])
partly_end alternatives limit s ts ps h p =
    by_front p.front p.whole p.stored (omega (arith, h, count_of p.stored, length-append (ts ++ p.front) (chain alternatives (p.first ∷ p.rest) ∷ []), length-append ts p.front))
  where
    by_front : (front : List Tree) → ps ≡ front ++ p.first ∷ p.rest → StoresTrees limit s ((ts ++ front) ++ chain alternatives (p.first ∷ p.rest) ∷ []) → length front ≤ 0 → StoresTrees limit s (ts ++ chain alternatives ps ∷ [])
    by_front [] w st n =
        let S : List Tree → List Tree → Type 0 = λ x y. StoresTrees limit s (x ++ chain alternatives y ∷ []) in
        let st' : S ts (p.first ∷ p.rest) = subst (λ (x : List Tree). S x (p.first ∷ p.rest)) (append-nil ts) st in
        subst (λ (y : List Tree). S ts y) (sym w) st'
    by_front (f ∷ fs) w st n = absurd (omega (arith, n))

-- no trees make an empty concatenation
pub stored_none : (limit : ℕ) (old new : Stack) (ts ps : List Tree) → length old.parts.items ≡ length ts → StoresTrees limit old (ts ++ ps) → (StoresTrees limit old ts → StoresTrees limit new (ts ++ null_string ∷ [])) →
    StoresTrees limit new (ts ++ concatenation ps ∷ [])
stored_none limit old new ts [] h s leaf = leaf (subst (λ (x : List Tree). StoresTrees limit old x) (append-nil ts) s)
stored_none limit old new ts (p ∷ ps) h s leaf = absurd (omega (arith, h, count_of s, length-append ts (p ∷ ps)))

pub empty_leaf : IsLeaf node.Empty null_string
empty_leaf = (λ base. refl, refl, refl, refl, λ k. tt)
