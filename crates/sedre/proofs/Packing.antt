-- Nodes as entries of a table.
use Rattle.std.proofs.Common.{◌≡◌, ℕ, zero, suc, ◌+◌, ◌-◌, ◌<◌, ◌≤◌, length, get_or, slice_get, List, [], ◌∷◌, ◌++◌, map, take, drop, Bool, Some, refl, ap, subst, ◌∙◌, sym, append_assoc, arith, take_all, if◌then◌else◌, length-append, length-drop, get_or-drop, inl, inr, OnOk, Result, Ok, Err}
use Rattle.std.specs.Result.{is_ok}
use Rattle.std.specs.declared.alloc.AllocError.{AllocError}
use Rattle.std.proofs.lemmas.Bool.Decides.{leb_tells}
use Rattle.std.proofs.lemmas.List.{take_more, get_or_append_left}
use Rattle.std.proofs.lemmas.Option.{slice_get-get_or}
use Rattle.sedre.specs.declared.types.Node.{Node}
use Rattle.sedre.specs.declared.types.Node.TheVariants as node
use Rattle.sedre.specs.declared.packed.PackedNode.{PackedNode}
use Rattle.sedre.specs.declared.packed.Shape.{Shape}
use Rattle.sedre.specs.declared.packed.Shape.TheVariants as shape
use Rattle.sedre.specs.Packed.{id, node_of, node_at, nodes_from, FitsShape, NodeFits, FitFrom, entry_of, HasNumber, AddsSets, PartsBelow, shifted}

pub length-nodes : (sets : List (List Bool)) (x : ℕ) (es : List PackedNode) → length (nodes_from sets x es) ≡ length es
length-nodes sets x [] = refl
length-nodes sets x (e ∷ es) = ap suc (length-nodes sets (x + 1) es)

pub nodes-append : (sets : List (List Bool)) (x : ℕ) (es fs : List PackedNode) → nodes_from sets x (es ++ fs) ≡ nodes_from sets x es ++ nodes_from sets (x + length es) fs
nodes-append sets x [] fs = ap (λ (n : ℕ). nodes_from sets n fs) (omega arith)
nodes-append sets x (e ∷ es) fs =
    ap (λ (r : List Node). node_at sets x e ∷ r) (nodes-append sets (x + 1) es fs ∙ ap (λ (n : ℕ). nodes_from sets (x + 1) es ++ nodes_from sets n fs) (let h : x + 1 + length es ≡ x + suc (length es) = omega arith in h))

pub fit-append : (sets : List (List Bool)) (x : ℕ) (es fs : List PackedNode) → FitFrom sets x es → FitFrom sets (x + length es) fs → FitFrom sets x (es ++ fs)
fit-append sets x [] fs p q = subst (λ (n : ℕ). FitFrom sets n fs) (let h : x + 0 ≡ x = omega arith in h) q
fit-append sets x (e ∷ es) fs p q = (p.0, fit-append sets (x + 1) es fs p.1 (subst (λ (n : ℕ). FitFrom sets n fs) (let h : x + suc (length es) ≡ x + 1 + length es = omega arith in h) q))

fit_shape_grown : (sets more : List (List Bool)) (x : ℕ) (s : Shape) (left right : ℕ) → FitsShape sets x s left right → FitsShape (sets ++ more) x s left right
fit_shape_grown sets more x shape.Set left right p = omega (arith, p, length-append sets more)
fit_shape_grown sets more x _ left right p = p

pub fit_grown : (sets more : List (List Bool)) (x : ℕ) (es : List PackedNode) → FitFrom sets x es → FitFrom (sets ++ more) x es
fit_grown sets more x [] p = tt
fit_grown sets more x (e ∷ es) p = (fit_shape_grown sets more x e.shape e.left e.right p.0, fit_grown sets more (x + 1) es p.1)

get_grown : (sets more : List (List Bool)) (k : ℕ) → k < length sets → get_or (sets ++ more) k [] ≡ get_or sets k []
get_grown [] more k h = absurd (omega (arith, h))
get_grown (s ∷ sets) more zero h = refl
get_grown (s ∷ sets) more (suc k) h = get_grown sets more k (omega (arith, h))

node_grown : (sets more : List (List Bool)) (x : ℕ) (s : Shape) (left right : ℕ) → FitsShape sets x s left right → node_of (sets ++ more) x s left right ≡ node_of sets x s left right
node_grown sets more x shape.Set left right p = ap (λ (s : List Bool). node.Set s) (get_grown sets more left p)
node_grown sets more x _ left right p = refl

pub nodes_grown : (sets more : List (List Bool)) (x : ℕ) (es : List PackedNode) → FitFrom sets x es → nodes_from (sets ++ more) x es ≡ nodes_from sets x es
nodes_grown sets more x [] p = refl
nodes_grown sets more x (e ∷ es) p =
    ap (λ (n : Node). n ∷ nodes_from (sets ++ more) (x + 1) es) (node_grown sets more x e.shape e.left e.right p.0) ∙ ap (λ (r : List Node). node_at sets x e ∷ r) (nodes_grown sets more (x + 1) es p.1)

-- further on, parts are still among the nodes
fit_shape_on : (sets : List (List Bool)) (x y : ℕ) (s : Shape) (left right : ℕ) → x ≤ y → FitsShape sets x s left right → FitsShape sets y s left right
fit_shape_on sets x y shape.Empty left right h p = tt
fit_shape_on sets x y shape.Set left right h p = p
fit_shape_on sets x y shape.Begin left right h p = tt
fit_shape_on sets x y shape.End left right h p = tt
fit_shape_on sets x y shape.Seq left right h p = (omega (arith, p.0, h), omega (arith, p.1, h))
fit_shape_on sets x y shape.Alt left right h p = (omega (arith, p.0, h), omega (arith, p.1, h))
fit_shape_on sets x y _ left right h p = omega (arith, p, h)

pub fit_on : (sets : List (List Bool)) (x y : ℕ) (es : List PackedNode) → x ≤ y → FitFrom sets x es → FitFrom sets y es
fit_on sets x y [] h p = tt
fit_on sets x y (e ∷ es) h p = (fit_shape_on sets x y e.shape e.left e.right h p.0, fit_on sets (x + 1) (y + 1) es (omega (arith, h)) p.1)

pub fit-drop : (sets : List (List Bool)) (x k : ℕ) (es : List PackedNode) → FitFrom sets x es → FitFrom sets (x + k) (drop k es)
fit-drop sets x zero es p = subst (λ (n : ℕ). FitFrom sets n es) (let h : x ≡ x + 0 = omega arith in h) p
fit-drop sets x (suc k) [] p = tt
fit-drop sets x (suc k) (e ∷ es) p = subst (λ (n : ℕ). FitFrom sets n (drop k es)) (let h : x + 1 + k ≡ x + suc k = omega arith in h) (fit-drop sets (x + 1) k es p.1)

pub fit-take : (sets : List (List Bool)) (x k : ℕ) (es : List PackedNode) → FitFrom sets x es → FitFrom sets x (take k es)
fit-take sets x zero es p = tt
fit-take sets x (suc k) [] p = tt
fit-take sets x (suc k) (e ∷ es) p = (p.0, fit-take sets (x + 1) k es p.1)

pub nodes-take : (sets : List (List Bool)) (x k : ℕ) (es : List PackedNode) → nodes_from sets x (take k es) ≡ take k (nodes_from sets x es)
nodes-take sets x zero es = refl
nodes-take sets x (suc k) [] = refl
nodes-take sets x (suc k) (e ∷ es) = ap (λ (r : List Node). node_at sets x e ∷ r) (nodes-take sets (x + 1) k es)

pub nodes-drop : (sets : List (List Bool)) (x k : ℕ) (es : List PackedNode) → nodes_from sets (x + k) (drop k es) ≡ drop k (nodes_from sets x es)
nodes-drop sets x zero es = ap (λ (n : ℕ). nodes_from sets n es) (let h : x + 0 ≡ x = omega arith in h)
nodes-drop sets x (suc k) [] = refl
nodes-drop sets x (suc k) (e ∷ es) = ap (λ (n : ℕ). nodes_from sets n (drop k es)) (let h : x + suc k ≡ x + 1 + k = omega arith in h) ∙ nodes-drop sets (x + 1) k es

pub nodes-get : (sets : List (List Bool)) (x k : ℕ) (es : List PackedNode) (e : PackedNode) → slice_get es k ≡ Some e → slice_get (nodes_from sets x es) k ≡ Some (node_at sets (x + k) e)
nodes-get sets x k [] e h = absurd cc
nodes-get sets x zero (f ∷ es) e h =
    let same : f ≡ e = cc in
    ap (λ (g : PackedNode). Some (node_at sets x g)) same ∙ ap (λ (n : ℕ). Some (node_at sets n e)) (let r : x ≡ x + 0 = omega arith in r)
nodes-get sets x (suc k) (f ∷ es) e h = nodes-get sets (x + 1) k es e h ∙ ap (λ (n : ℕ). Some (node_at sets n e)) (let r : x + 1 + k ≡ x + suc k = omega arith in r)

pub fit-get : (sets : List (List Bool)) (x k : ℕ) (es : List PackedNode) (e : PackedNode) → FitFrom sets x es → slice_get es k ≡ Some e → NodeFits sets (x + k) e
fit-get sets x k [] e p h = absurd cc
fit-get sets x zero (f ∷ es) e p h =
    let same : f ≡ e = cc in
    subst (λ (n : ℕ). NodeFits sets n e) (let r : x ≡ x + 0 = omega arith in r) (subst (λ (g : PackedNode). NodeFits sets x g) same p.0)
fit-get sets x (suc k) (f ∷ es) e p h = subst (λ (n : ℕ). NodeFits sets n e) (let r : x + 1 + k ≡ x + suc k = omega arith in r) (fit-get sets (x + 1) k es e p.1 h)

-- the entry of a node stands for it
back : (x a : ℕ) → a < x → x - (x - a) ≡ a
back x a h = omega (arith, h)

found_set : (sets : List (List Bool)) (k : ℕ) (s : List Bool) → slice_get sets k ≡ Some s → get_or sets k [] ≡ s
found_set [] k s h = absurd cc
found_set (r ∷ sets) zero s h = cc
found_set (r ∷ sets) (suc k) s h = found_set sets k s h

found_below : (sets : List (List Bool)) (k : ℕ) (s : List Bool) → slice_get sets k ≡ Some s → k < length sets
found_below [] k s h = absurd cc
found_below (r ∷ sets) zero s h = omega arith
found_below (r ∷ sets) (suc k) s h = omega (arith, found_below sets k s h)

pub entry_stands : (sets : List (List Bool)) (x number : ℕ) (n : Node) → HasNumber sets number n → PartsBelow x n → node_at sets x (entry_of x number n) ≡ n
entry_stands sets x number (node.Set s) h p = ap (λ (m : List Bool). node.Set m) (found_set sets number s h)
entry_stands sets x number (node.Seq a b) h p = ap (λ (m : ℕ). node.Seq (id m) (id (x - (x - b.index)))) (back x a.index p.0) ∙ ap (λ (m : ℕ). node.Seq a (id m)) (back x b.index p.1)
entry_stands sets x number (node.Alt a b) h p = ap (λ (m : ℕ). node.Alt (id m) (id (x - (x - b.index)))) (back x a.index p.0) ∙ ap (λ (m : ℕ). node.Alt a (id m)) (back x b.index p.1)
entry_stands sets x number (node.Group k a) h p = ap (λ (m : ℕ). node.Group k (id m)) (back x a.index p)
entry_stands sets x number (node.Star a first) h p = ap (λ (m : ℕ). node.Star (id m) first) (back x a.index p)
entry_stands sets x number (node.Opt a first) h p = ap (λ (m : ℕ). node.Opt (id m) first) (back x a.index p)
entry_stands sets x number _ h p = refl

pub entry_fits : (sets : List (List Bool)) (x number : ℕ) (n : Node) → HasNumber sets number n → NodeFits sets x (entry_of x number n)
entry_fits sets x number node.Empty h = tt
entry_fits sets x number (node.Set s) h = found_below sets number s h
entry_fits sets x number node.Begin h = tt
entry_fits sets x number node.End h = tt
entry_fits sets x number (node.Seq a b) h = (omega arith, omega arith)
entry_fits sets x number (node.Alt a b) h = (omega arith, omega arith)
entry_fits sets x number _ h = omega arith

-- the entries of some nodes, read further on
on : (x d k : ℕ) → k ≤ x → x + d - k ≡ x - k + d
on x d k h = omega (arith, h)

shape_on : (sets : List (List Bool)) (x d : ℕ) (s : Shape) (left right : ℕ) → FitsShape sets x s left right → node_of sets (x + d) s left right ≡ shifted d (node_of sets x s left right)
shape_on sets x d shape.Seq left right p = ap (λ (m : ℕ). node.Seq (id m) (id (x + d - right))) (on x d left p.0) ∙ ap (λ (m : ℕ). node.Seq (id (x - left + d)) (id m)) (on x d right p.1)
shape_on sets x d shape.Alt left right p = ap (λ (m : ℕ). node.Alt (id m) (id (x + d - right))) (on x d left p.0) ∙ ap (λ (m : ℕ). node.Alt (id (x - left + d)) (id m)) (on x d right p.1)
shape_on sets x d shape.Group left right p = ap (λ (m : ℕ). node.Group left (id m)) (on x d right p)
shape_on sets x d (shape.Star first) left right p = ap (λ (m : ℕ). node.Star (id m) first) (on x d right p)
shape_on sets x d (shape.Opt first) left right p = ap (λ (m : ℕ). node.Opt (id m) first) (on x d right p)
shape_on sets x d _ left right p = refl

pub nodes_on : (sets : List (List Bool)) (x d : ℕ) (es : List PackedNode) → FitFrom sets x es → nodes_from sets (x + d) es ≡ map (shifted d) (nodes_from sets x es)
nodes_on sets x d [] p = refl
nodes_on sets x d (e ∷ es) p =
    ap (λ (n : Node). n ∷ nodes_from sets (x + d + 1) es) (shape_on sets x d e.shape e.left e.right p.0)
    ∙ ap (λ (n : ℕ). shifted d (node_at sets x e) ∷ nodes_from sets n es) (let h : x + d + 1 ≡ x + 1 + d = omega arith in h)
    ∙ ap (λ (r : List Node). shifted d (node_at sets x e) ∷ r) (nodes_on sets (x + 1) d es p.1)

-- one node more
pub nodes_more : (sets sets' : List (List Bool)) (es es' : List PackedNode) (k number : ℕ) (n : Node) → k ≡ length es → AddsSets sets sets' → HasNumber sets' number n → es' ≡ es ++ entry_of k number n ∷ [] →
    FitFrom sets 0 es → PartsBelow k n → nodes_from sets' 0 es' ≡ nodes_from sets 0 es ++ n ∷ []
nodes_more sets sets' es es' k number n here g h e p b =
    ap (nodes_from sets' 0) e ∙ nodes-append sets' 0 es (entry_of k number n ∷ [])
    ∙ ap (λ (m : ℕ). nodes_from sets' 0 es ++ node_at sets' m (entry_of k number n) ∷ []) (let r : 0 + length es ≡ k = omega (arith, here) in r)
    ∙ ap (λ (m : Node). nodes_from sets' 0 es ++ m ∷ []) (entry_stands sets' k number n h b)
    ∙ ap (λ (s : List (List Bool)). nodes_from s 0 es ++ n ∷ []) g.1 ∙ ap (λ (r : List Node). r ++ n ∷ []) (nodes_grown sets g.0 0 es p)

pub fit_more : (sets sets' : List (List Bool)) (es es' : List PackedNode) (k number : ℕ) (n : Node) → k ≡ length es → AddsSets sets sets' → HasNumber sets' number n → es' ≡ es ++ entry_of k number n ∷ [] →
    FitFrom sets 0 es → FitFrom sets' 0 es'
fit_more sets sets' es es' k number n here g h e p =
    let old : FitFrom sets' 0 es = subst (λ (s : List (List Bool)). FitFrom s 0 es) (sym g.1) (fit_grown sets g.0 0 es p) in
    let one : NodeFits sets' (0 + length es) (entry_of k number n) = subst (λ (m : ℕ). NodeFits sets' m (entry_of k number n)) (let r : k ≡ 0 + length es = omega (arith, here) in r) (entry_fits sets' k number n h) in
    subst (FitFrom sets' 0) (sym e) (fit-append sets' 0 es (entry_of k number n ∷ []) old (one, tt))

pub fit_same : (sets sets' : List (List Bool)) (es es' : List PackedNode) → AddsSets sets sets' → es' ≡ es → FitFrom sets 0 es → FitFrom sets' 0 es'
fit_same sets sets' es es' g e p = subst (FitFrom sets' 0) (sym e) (subst (λ (s : List (List Bool)). FitFrom s 0 es) (sym g.1) (fit_grown sets g.0 0 es p))

-- the entries from one on once more
pub nodes_again : (sets : List (List Bool)) (k count : ℕ) (es es' : List PackedNode) → k ≡ length es - count → es' ≡ es ++ drop k es → FitFrom sets 0 es → count ≤ length es →
    nodes_from sets 0 es' ≡ nodes_from sets 0 es ++ map (shifted count) (drop (length (nodes_from sets 0 es) - count) (nodes_from sets 0 es))
nodes_again sets k count es es' here more p h =
    let place : 0 + length es ≡ 0 + k + count = omega (arith, here, h) in
    ap (nodes_from sets 0) more ∙ nodes-append sets 0 es (drop k es) ∙ ap (λ (n : ℕ). nodes_from sets 0 es ++ nodes_from sets n (drop k es)) place
    ∙ ap (λ (r : List Node). nodes_from sets 0 es ++ r) (nodes_on sets (0 + k) count (drop k es) (fit-drop sets 0 k es p) ∙ ap (map (shifted count)) (nodes-drop sets 0 k es))
    ∙ ap (λ (n : ℕ). nodes_from sets 0 es ++ map (shifted count) (drop n (nodes_from sets 0 es))) (let r : k ≡ length (nodes_from sets 0 es) - count = omega (arith, here, length-nodes sets 0 es) in r)

drop_past : (k : ℕ) (es : List PackedNode) → length es ≤ k → drop k es ≡ []
drop_past zero [] h = refl
drop_past zero (e ∷ es) h = absurd (omega (arith, h))
drop_past (suc k) [] h = refl
drop_past (suc k) (e ∷ es) h = drop_past k es (omega (arith, h))

-- some of the entries from one on once more
pub fit_part : (sets : List (List Bool)) (from count : ℕ) (es : List PackedNode) → FitFrom sets 0 es → FitFrom sets 0 (es ++ take count (drop from es))
fit_part sets from count es p =
    elim (leb_tells from (length es)) [
      | inl w ↦ fit-append sets 0 es (take count (drop from es)) p (fit_on sets (0 + from) (0 + length es) (take count (drop from es)) (omega (arith, w.1)) (fit-take sets (0 + from) count (drop from es) (fit-drop sets 0 from es p)))
      | inr w ↦ subst (λ (r : List PackedNode). FitFrom sets 0 (es ++ take count r)) (sym (drop_past from es (omega (arith, w.1)))) (fit-append sets 0 es (take count []) p (nothing count))
    ]
  where
    nothing : (n : ℕ) → FitFrom sets (0 + length es) (take n [])
    nothing zero = tt
    nothing (suc n) = tt

-- the entries from one on once more, or no change where that was refused
pub fit_again : (sets : List (List Bool)) (r : Result (Unit {0}) AllocError) (from count : ℕ) (es es' : List PackedNode) → es' ≡ (if is_ok r then es ++ take count (drop from es) else es) → FitFrom sets 0 es → FitFrom sets 0 es'
fit_again sets (Ok u) from count es es' is p = subst (FitFrom sets 0) (sym is) (fit_part sets from count es p)
fit_again sets (Err x) from count es es' is p = subst (FitFrom sets 0) (sym is) p

pub added_again : (r : Result (Unit {0}) AllocError) (from count : ℕ) (es es' : List PackedNode) → length es ≤ from + count → es' ≡ (if is_ok r then es ++ take count (drop from es) else es) → OnOk r (es' ≡ es ++ drop from es)
added_again (Ok u) from count es es' all is = is ∙ ap (λ (x : List PackedNode). es ++ x) (take_all count (drop from es) (omega (arith, all, length-drop from es)))
added_again (Err x) from count es es' all is = tt

-- an element that was read
pub known : (es : List PackedNode) (i : ℕ) (e : PackedNode) → i < length es → e ≡ get_or es i e → slice_get es i ≡ Some e
known [] i e h r = absurd (omega (arith, h))
known (f ∷ es) zero e h r = ap (λ (x : PackedNode). Some x) (sym r)
known (f ∷ es) (suc i) e h r = known es i e (omega (arith, h)) r

pub pushed_view : (r : Result (Unit {0}) AllocError) (old : List Node) (k : ℕ) (n : Node) (new view : List Node) → view ≡ old → length view ≡ k →
    OnOk r (PartsBelow k n → new ≡ view ++ n ∷ []) → OnOk r (PartsBelow (length old) n → new ≡ old ++ n ∷ [])
pushed_view (Ok u) old k n new view e l p = λ b. p (subst (λ (m : ℕ). PartsBelow m n) (sym (ap length e) ∙ l) b) ∙ ap (λ (x : List Node). x ++ n ∷ []) e
pushed_view (Err x) old k n new view e l p = tt

pub copied_view : (r : Result (Unit {0}) AllocError) (old view new : List Node) (count : ℕ) → view ≡ old → OnOk r (count ≤ length view → new ≡ view ++ map (shifted count) (drop (length view - count) view)) →
    OnOk r (count ≤ length old → new ≡ old ++ map (shifted count) (drop (length old - count) old))
copied_view r old view new count e p = subst (λ (x : List Node). OnOk r (count ≤ length x → new ≡ x ++ map (shifted count) (drop (length x - count) x))) e p

pub on_ok_map : (r : Result (Unit {0}) AllocError) (P Q : Type 0) → (P → Q) → OnOk r P → OnOk r Q
on_ok_map (Ok u) P Q f p = f p
on_ok_map (Err x) P Q f p = tt

-- the set of a node is among the sets
set_shape : (sets : List (List Bool)) (x : ℕ) (s : Shape) (left right : ℕ) (m : List Bool) → FitsShape sets x s left right → node_of sets x s left right ≡ node.Set m → (k : ℕ) × (slice_get sets k ≡ Some m)
set_shape sets x shape.Set left right m p e = let same : get_or sets left [] ≡ m = cc in (left, slice_get-get_or sets left [] p ∙ ap (λ (s : List Bool). Some s) same)
set_shape sets x _ left right m p e = absurd cc

pub set_listed : (sets : List (List Bool)) (base : ℕ) (es : List PackedNode) (x : ℕ) (m : List Bool) → FitFrom sets base es → slice_get (nodes_from sets base es) x ≡ Some (node.Set m) → (k : ℕ) × (slice_get sets k ≡ Some m)
set_listed sets base [] x m p is = absurd cc
set_listed sets base (e ∷ es) zero m p is = set_shape sets base e.shape e.left e.right m p.0 cc
set_listed sets base (e ∷ es) (suc x) m p is = set_listed sets (base + 1) es x m p.1 is
