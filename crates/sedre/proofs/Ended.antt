-- The end of a text, and the steps before it.
use Rattle.std.proofs.Common.{Bool, ◌≡◌, ◌≢◌, ℕ, ◌+◌, ◌<◌, ◌≤◌, ◌⊎◌, inl, inr, length, get_or, List, [], ◌∷◌, Option, Result, Ok, Err, refl, ap, subst, sym, ◌∙◌, IfOk, IfErr, OnOk, arith, append-nil}
use Rattle.sedre.specs.declared.types.Kind.{Kind}
use Rattle.sedre.specs.declared.types.ExprReason.{ExprReason}
use Rattle.sedre.specs.declared.types.ExprFault.{ExprFault}
use Rattle.sedre.specs.declared.types.TheConstants.{NO_MEMORY}
use Rattle.sedre.specs.declared.parts.TreeExtent.{TreeExtent}
use Rattle.sedre.specs.declared.stack.Stack.{Stack}
use Rattle.sedre.specs.declared.syntax.NextToken.TheVariants.{Is, Ends}
use Rattle.sedre.specs.declared.syntax.Token.{Token}
use Rattle.sedre.specs.declared.syntax.Token.TheVariants.{Byte, Open, Close, Bar, Repeat, AtBegin, AtEnd}
use Rattle.sedre.specs.Tokens.{token_at}
use Rattle.sedre.specs.Tree.{Tree, WrittenExpression, expression_tree, size}
use Rattle.sedre.specs.Grammar.{depth, ReadsAs, FaultyWith}
use Rattle.sedre.specs.Arena.{IsExpr}
use Rattle.sedre.specs.Stacks.{Nesting, CanTake, whole_level, StoresTrees, postorder, written_trees, extent_kept}
use Rattle.sedre.specs.Finished.{GroupsNumbered, IsFinished, IsOverLimit}
use Rattle.sedre.proofs.Written.{length-postorder}
use Rattle.sedre.proofs.Kept.{fitting_all}
use Rattle.sedre.proofs.Holding.{whole_tree, whole_expr}
use Rattle.sedre.proofs.Numbers.{of_alternatives, of_alternation}
use Rattle.sedre.proofs.Reading.{Reading, reading_whole, reading_limits}
use Rattle.sedre.proofs.Repeating.{repeat_follows}
use Rattle.sedre.proofs.Exclusive.{no_fault}

-- another fact for the error
pub if_err : {A E : Type 0} (P Q : E → Type 0) (r : Result A E) → ((e : E) → P e → Q e) → IfErr r P → IfErr r Q
if_err P Q (Ok x) f p = tt
if_err P Q (Err e) f p = f e p

pub ok_of : {A E P Q : Type 0} (r : Result A E) → OnOk r P → (P → Q) → OnOk r Q
ok_of (Ok x) p f = f p
ok_of (Err e) p f = tt

-- a list of length 0
pub no_length : {A : Type 0} (ls : List A) → length ls ≡ 0 → ls ≡ []
no_length [] h = refl
no_length (l ∷ ls) h = absurd (omega (arith, h))

-- the one tree on the stack
pub one_part : (limit : ℕ) (s : Stack) (t : Tree) (p : TreeExtent) → StoresTrees limit s (t ∷ []) → p ≡ get_or s.parts.items 0 p → p ≡ extent_kept limit (size t) t
one_part limit s t p st e = e ∙ ap (λ (ps : List TreeExtent). get_or ps 0 p) st.parts_are ∙ ap (λ (n : ℕ). extent_kept limit n t) (let h : 0 + size t ≡ size t = omega arith in h)

pub one_tree : (limit : ℕ) (s : Stack) (t : Tree) → StoresTrees limit s (t ∷ []) → size t < limit → s.nodes ≡ postorder 0 t
one_tree limit s t st h = st.nodes_are ∙ ap (written_trees 0) (fitting_all limit 0 (t ∷ []) (omega (arith, h))) ∙ append-nil (postorder 0 t)

pub small_tree : (limit : ℕ) (s : Stack) (t : Tree) (p : TreeExtent) → StoresTrees limit s (t ∷ []) → p ≡ get_or s.parts.items 0 p → p.end < s.limit → size t < limit
small_tree limit s t p st e h = omega (arith, h, st.limit_is, ap (λ (q : TreeExtent). q.end) (one_part limit s t p st e))

pub shallow_tree : (limit : ℕ) (s : Stack) (t : Tree) (p : TreeExtent) → StoresTrees limit s (t ∷ []) → p ≡ get_or s.parts.items 0 p → p.depth ≤ 600 → depth t ≤ 600
shallow_tree limit s t p st e h = omega (arith, h, ap (λ (q : TreeExtent). q.depth) (one_part limit s t p st e))

pub finished_expr : (limit : ℕ) (s : Stack) (t : Tree) (p : TreeExtent) (groups opened : ℕ) → StoresTrees limit s (t ∷ []) → p ≡ get_or s.parts.items 0 p → p.end < s.limit → opened ≡ groups → GroupsNumbered groups t → limit ≤ 65537 → IsExpr s.nodes opened
finished_expr limit s t p groups opened st e h eg g most =
    let small : size t < limit = small_tree limit s t p st e h in
    subst (λ (n : ℕ). IsExpr s.nodes n) (sym eg) (whole_expr t groups s.nodes (one_tree limit s t st small) g (omega (arith, small, most)))

pub finished : (limit : ℕ) (s : Nesting) (k : Stack) (p : TreeExtent) (e : WrittenExpression) (opened : ℕ) → StoresTrees limit k (whole_level s.top ∷ []) → p ≡ get_or k.parts.items 0 p → p.end < k.limit → p.depth ≤ 600 → opened ≡ s.opened →
    e ≡ record { nodes = k.nodes; groups = opened } → IsFinished s limit e
finished limit s k p e opened st read small shallow eg is =
    let size_is : size (whole_level s.top) < limit = small_tree limit k (whole_level s.top) p st read small in
    let nodes : k.nodes ≡ postorder 0 (whole_level s.top) = one_tree limit k (whole_level s.top) st size_is in
    let same : e.nodes ≡ k.nodes = ap (λ (x : WrittenExpression). x.nodes) is in
    record {
      tree_is = ap expression_tree is ∙ whole_tree (whole_level s.top) k.nodes nodes;
      groups = ap (λ (x : WrittenExpression). x.groups) is ∙ eg;
      count = ap length (same ∙ nodes) ∙ length-postorder 0 (whole_level s.top);
      shallow = shallow_tree limit k (whole_level s.top) p st read shallow;
      small = size_is;
    }

module _ (kind : Kind) (folded : Bool) (delimiter : Option ℕ) (text : List ℕ) where
  pub can_take : {before : Option Token} {at next : ℕ} (i : Token) {s : Nesting} → Reading kind folded delimiter text before at s → token_at kind folded delimiter text before at ≡ Is i next →
      (i ≡ Close → s.below ≢ []) → CanTake i s
  can_take (Byte members) r f closes = tt
  can_take Open r f closes = tt
  can_take Close r f closes = closes refl
  can_take Bar r f closes = tt
  can_take {before = before} {at = at} (Repeat least most) r f closes = let h = repeat_follows kind folded delimiter text before at f in (r.ready h.0, h.1)
  can_take AtBegin r f closes = tt
  can_take AtEnd r f closes = tt

  -- what the whole text reads as has its groups numbered
  pub reads_numbered : {e : Tree} {groups : ℕ} → ReadsAs kind folded delimiter text e groups → GroupsNumbered groups e
  reads_numbered {e = e} {groups = groups} r = subst (GroupsNumbered groups) r.is (of_alternation groups r.alternatives (of_alternatives r.grammar).1)

  pub finished_reads : {before : Option Token} {at : ℕ} (s : Nesting) (limit : ℕ) (e : WrittenExpression) → Reading kind folded delimiter text before at s → token_at kind folded delimiter text before at ≡ Ends → s.below ≡ [] →
      IsFinished s limit e → ReadsAs kind folded delimiter text (expression_tree e) e.groups
  finished_reads s limit e r f none d =
      let R : Tree → ℕ → Type 0 = λ t g. ReadsAs kind folded delimiter text t g in
      subst (λ (g : ℕ). R (expression_tree e) g) (sym d.groups) (subst (λ (t : Tree). R t s.opened) (sym d.tree_is) (reading_whole kind folded delimiter text r f none))

  pub finished_no_fault : {before : Option Token} {at : ℕ} (s : Nesting) (max_nodes : ℕ) (e : WrittenExpression) → Reading kind folded delimiter text before at s → token_at kind folded delimiter text before at ≡ Ends → s.below ≡ [] →
      IsFinished s (max_nodes + 1) e → (place : ℕ) (reason : ExprReason) → FaultyWith kind folded delimiter text max_nodes place reason → ⊥
  finished_no_fault s max_nodes e r f none d place reason = no_fault kind folded delimiter text (reading_whole kind folded delimiter text r f none) d.shallow (omega (arith, d.small))

  pub over_limit : {before : Option Token} {at : ℕ} (s : Nesting) (max_nodes : ℕ) (fault : ExprFault) → Reading kind folded delimiter text before at s → token_at kind folded delimiter text before at ≡ Ends → s.below ≡ [] →
      IsOverLimit s (max_nodes + 1) (length text) fault ⊎ (fault ≡ NO_MEMORY) → FaultyWith kind folded delimiter text max_nodes fault.place fault.reason ⊎ (fault ≡ NO_MEMORY)
  over_limit s max_nodes fault r f none (inr m) = inr m
  over_limit s max_nodes fault r f none (inl (inl d)) =
      let F : ExprFault → Type 0 = λ x. FaultyWith kind folded delimiter text max_nodes x.place x.reason in
      inl (subst F (sym d.0) ((reading_limits kind folded delimiter text max_nodes r f none).0 d.1))
  over_limit s max_nodes fault r f none (inl (inr d)) =
      let F : ExprFault → Type 0 = λ x. FaultyWith kind folded delimiter text max_nodes x.place x.reason in
      inl (subst F (sym d.0) ((reading_limits kind folded delimiter text max_nodes r f none).1 d.1 (omega (arith, d.2))))

-- a fault at the end
pub limit_within : (s : Nesting) (limit len : ℕ) (fault : ExprFault) → IsOverLimit s limit len fault ⊎ (fault ≡ NO_MEMORY) → fault.place ≤ len
limit_within s limit len fault (inr m) = omega (arith, ap (λ (x : ExprFault). x.place) m)
limit_within s limit len fault (inl (inl d)) = omega (arith, ap (λ (x : ExprFault). x.place) d.0)
limit_within s limit len fault (inl (inr d)) = omega (arith, ap (λ (x : ExprFault). x.place) d.0)
