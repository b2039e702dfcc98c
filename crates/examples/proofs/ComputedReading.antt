-- The grammar as a computation, so that examples of it can be computed: the items of a text one after the other, and
-- what they come to.
use Rattle.std.proofs.Common.{◌≡◌, ◌≢◌, ◌≤◌, ℕ, zero, suc, ◌+◌, List, [], ◌∷◌, length, Bool, true, false, Option, Some, None, inl, inr, refl, ap, subst, ◌∙◌, sym, arith}
use Rattle.std.specs.Prelude.{nat_le}
use Rattle.std.proofs.lemmas.Bool.Decides.{leb_tells}
use Rattle.sedre.specs.declared.types.Kind.{Kind}
use Rattle.sedre.specs.declared.types.ExprReason.{ExprReason}
use Rattle.sedre.specs.declared.types.ExprReason.TheVariants.{StrayClose, OpenGroup, TooDeep, TooManyNodes}
use Rattle.sedre.specs.declared.syntax.NextToken.{NextToken}
use Rattle.sedre.specs.declared.syntax.NextToken.TheVariants.{Is, Ends, Bad}
use Rattle.sedre.specs.declared.syntax.Token.{Token}
use Rattle.sedre.specs.declared.syntax.Token.TheVariants.{Byte, Open, Close, Bar, Repeat, AtBegin, AtEnd}
use Rattle.sedre.specs.Tree.{Tree, WrittenExpression, expression_tree, size}
use Rattle.sedre.specs.Grammar.{depth, alternation, ReadsAs, FaultyWith, ExprFaulty}
use Rattle.sedre.specs.Tokens.{token_at}
use Rattle.sedre.specs.Stacks.{Level, Nesting, no_nesting, step, all_alternatives, postorder}
use Rattle.sedre.proofs.Exclusive.{no_fault}
use Rattle.sedre.proofs.Folding.{faulty_alike}
use Rattle.sedre.proofs.Holding.{whole_tree}
use Rattle.sedre.proofs.Written.{length-postorder}
use Rattle.sedre.proofs.Reading.{Reading, reading_start, reading_step, reading_whole, reading_bad, reading_stray, reading_unclosed, reading_limits}

-- what a text comes to: an expression with so many groups, or a fault; unfinished where more items come than were asked
-- for
pub data Outcome : Type 0 where
  reads : Tree → ℕ → Outcome
  faulty : ℕ → ExprReason → Outcome
  unfinished : Outcome

-- a whole expression, by whether it is shallow and small
abbrev pub limited : (shallow small : Bool) → (len : ℕ) → Tree → ℕ → Outcome
limited false small len t groups = faulty len TooDeep
limited true false len t groups = faulty len TooManyNodes
limited true true len t groups = reads t groups

-- at the end of a text
abbrev pub ended : (len max_nodes : ℕ) → Nesting → List Level → Outcome
ended len max_nodes s [] =
    let t = alternation (all_alternatives s.top) in
    limited (nat_le (depth t) 600) (nat_le (size t) max_nodes) len t s.opened
ended len max_nodes s (l ∷ ls) = faulty len OpenGroup

-- an item, within these levels: a group may close where none is open
abbrev pub taken : (at : ℕ) → (Token → ℕ → Outcome) → Token → ℕ → List Level → Outcome
taken at rest Close next [] = faulty at StrayClose
taken at rest i next ls = rest i next

-- what is at a place
abbrev pub met : (len max_nodes at : ℕ) → Nesting → (Token → ℕ → Outcome) → NextToken → Outcome
met len max_nodes at s rest (Is i next) = taken at rest i next s.below
met len max_nodes at s rest Ends = ended len max_nodes s s.below
met len max_nodes at s rest (Bad f) = faulty f.place f.reason

module _ (kind : Kind) (folded : Bool) (delimiter : Option ℕ) (text : List ℕ) (max_nodes : ℕ) where
  -- the rest of a text after an item, with at most so many items
  unfoldable pub rest_of : ℕ → Option Token → (at : ℕ) → Nesting → Outcome
  rest_of zero before at s = unfinished
  rest_of (suc n) before at s =
      met (length text) max_nodes at s (λ i next. rest_of n (Some i) next (step i s)) (token_at kind folded delimiter text before at)

  -- a whole text, each item of which has a byte at least
  unfoldable pub outcome : Outcome
  outcome = rest_of (length text + 1) None 0 no_nesting

  -- what the grammar says where the computation comes to this
  abbrev pub Holds : Outcome → Type 0
  Holds (reads t groups) = ReadsAs kind folded delimiter text t groups × (depth t ≤ 600) × (size t ≤ max_nodes)
  Holds (faulty place reason) = FaultyWith kind folded delimiter text max_nodes place reason
  Holds unfinished = Unit {0}

  ended_holds : {before : Option Token} {at : ℕ} (s : Nesting) (ls : List Level) → s.below ≡ ls →
      Reading kind folded delimiter text before at s → token_at kind folded delimiter text before at ≡ Ends →
      Holds (ended (length text) max_nodes s ls)
  ended_holds s [] e r f =
      let t : Tree = alternation (all_alternatives s.top) in
      elim (leb_tells (depth t) 600) [
        | inr d ↦ subst (λ (b : Bool). Holds (limited b (nat_le (size t) max_nodes) (length text) t s.opened)) (sym d.0)
            ((reading_limits kind folded delimiter text max_nodes r f e).0 d.1)
        | inl d ↦ subst (λ (b : Bool). Holds (limited b (nat_le (size t) max_nodes) (length text) t s.opened)) (sym d.0)
            (elim (leb_tells (size t) max_nodes) [
              | inr n ↦ subst (λ (b : Bool). Holds (limited true b (length text) t s.opened)) (sym n.0)
                  ((reading_limits kind folded delimiter text max_nodes r f e).1 d.1 n.1)
              | inl n ↦ subst (λ (b : Bool). Holds (limited true b (length text) t s.opened)) (sym n.0)
                  (reading_whole kind folded delimiter text r f e, d.1, n.1)
            ])
      ]
  ended_holds s (l ∷ ls) e r f = reading_unclosed kind folded delimiter text max_nodes r f (omega (arith, ap length e))

  taken_holds : {before : Option Token} {at next : ℕ} (s : Nesting) (rest : Token → ℕ → Outcome) (i : Token) (ls : List Level) →
      s.below ≡ ls → Reading kind folded delimiter text before at s →
      token_at kind folded delimiter text before at ≡ Is i next →
      (Reading kind folded delimiter text (Some i) next (step i s) → Holds (rest i next)) →
      Holds (taken at rest i next ls)
  taken_holds s rest Close [] e r f on = reading_stray kind folded delimiter text max_nodes r f e
  taken_holds s rest Close (l ∷ ls) e r f on =
      on (reading_step kind folded delimiter text r f (λ c none. not_none l ls (sym e ∙ none)))
    where
      not_none : (l : Level) (ls : List Level) → (l ∷ ls) ≢ []
      not_none l ls h = cc
  taken_holds s rest (Byte members) ls e r f on = on (reading_step kind folded delimiter text r f (λ c. absurd cc))
  taken_holds s rest Open ls e r f on = on (reading_step kind folded delimiter text r f (λ c. absurd cc))
  taken_holds s rest Bar ls e r f on = on (reading_step kind folded delimiter text r f (λ c. absurd cc))
  taken_holds s rest (Repeat least most) ls e r f on = on (reading_step kind folded delimiter text r f (λ c. absurd cc))
  taken_holds s rest AtBegin ls e r f on = on (reading_step kind folded delimiter text r f (λ c. absurd cc))
  taken_holds s rest AtEnd ls e r f on = on (reading_step kind folded delimiter text r f (λ c. absurd cc))

  met_holds : {before : Option Token} {at : ℕ} (s : Nesting) (rest : Token → ℕ → Outcome) (h : NextToken) →
      Reading kind folded delimiter text before at s → token_at kind folded delimiter text before at ≡ h →
      ((i : Token) (next : ℕ) → Reading kind folded delimiter text (Some i) next (step i s) → Holds (rest i next)) →
      Holds (met (length text) max_nodes at s rest h)
  met_holds s rest (Is i next) r f on = taken_holds s rest i s.below refl r f (on i next)
  met_holds s rest Ends r f on = ended_holds s s.below refl r f
  met_holds s rest (Bad fault) r f on = reading_bad kind folded delimiter text max_nodes r f

  rest_holds : (n : ℕ) {before : Option Token} {at : ℕ} (s : Nesting) → Reading kind folded delimiter text before at s →
      Holds (rest_of n before at s)
  unfolding rest_of
  rest_holds zero s r = tt
  rest_holds (suc n) {before = before} {at = at} s r =
      met_holds s (λ i next. rest_of n (Some i) next (step i s)) (token_at kind folded delimiter text before at) r refl
      (λ i next q. rest_holds n (step i s) q)

  -- what is computed is what the grammar says
  pub outcome_holds : Holds outcome
  unfolding outcome
  outcome_holds = rest_holds (length text + 1) no_nesting (reading_start kind folded delimiter text)

-- where the computation comes to an expression, the text reads as it
pub reads_as : {kind : Kind} {folded : Bool} {delimiter : Option ℕ} {text : List ℕ} {t : Tree} {groups : ℕ} →
    outcome kind folded delimiter text 65536 ≡ reads t groups → ReadsAs kind folded delimiter text t groups
reads_as {kind = kind} {folded = folded} {delimiter = delimiter} {text = text} e =
    (subst (Holds kind folded delimiter text 65536) e (outcome_holds kind folded delimiter text 65536)).0

-- where it comes to a fault, the text has this one first
pub faulty_with : {kind : Kind} {folded : Bool} {delimiter : Option ℕ} {text : List ℕ} {max_nodes place : ℕ} {reason : ExprReason} →
    outcome kind folded delimiter text max_nodes ≡ faulty place reason →
    FaultyWith kind folded delimiter text max_nodes place reason
faulty_with {kind = kind} {folded = folded} {delimiter = delimiter} {text = text} {max_nodes = max_nodes} e =
    subst (Holds kind folded delimiter text max_nodes) e (outcome_holds kind folded delimiter text max_nodes)

-- an expression as it is written out
abbrev pub written : Tree → ℕ → WrittenExpression
written t groups = record { nodes = postorder 0 t; groups = groups }

pub tree_of_written : (t : Tree) (groups : ℕ) → expression_tree (written t groups) ≡ t
tree_of_written t groups = whole_tree t (postorder 0 t) refl

pub nodes_of_written : (t : Tree) → length (postorder 0 t) ≡ size t
nodes_of_written t = length-postorder 0 t

-- whether case is folded makes no difference to the fault
pub fault_either_way : (kind : Kind) (folded : Bool) (delimiter : Option ℕ) (text : List ℕ) (max_nodes : ℕ) {place : ℕ} {reason : ExprReason} →
    FaultyWith kind folded delimiter text max_nodes place reason → ExprFaulty kind delimiter text max_nodes place reason
fault_either_way kind folded delimiter text max_nodes f = faulty_alike kind folded false delimiter text f

-- a text that comes to an expression has no fault
pub no_fault_within : (kind : Kind) (folded : Bool) (delimiter : Option ℕ) (text : List ℕ) (max_nodes : ℕ) {t : Tree} {groups : ℕ} →
    Holds kind folded delimiter text max_nodes (reads t groups) → (place : ℕ) (reason : ExprReason) →
    ExprFaulty kind delimiter text max_nodes place reason → ⊥
no_fault_within kind folded delimiter text max_nodes h place reason f =
    no_fault kind folded delimiter text h.0 h.1 h.2 (faulty_alike kind false folded delimiter text f)
