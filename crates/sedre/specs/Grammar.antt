-- The grammar of expressions over tokens (XBD 9.5.2, 9.5.3), what its parts are written out to, and the first fault of a text.
use Rattle.std.specs.Prelude.{◌≡◌, ℕ, zero, suc, ◌-◌, ◌+◌, max, List, [], ◌∷◌, ◌++◌, length, ◌<◌, ◌≤◌, Bool, false, Option, Some, None, nat_eq}
use Rattle.std.specs.List.{last_or}
use Rattle.sedre.specs.Types.{Token, Byte, Open, Close, Bar, Repeat, AtBegin, AtEnd, Kind, ExprReason, StrayClose, OpenGroup, TooDeep, TooManyNodes, Is, Ends, Bad}
use Rattle.sedre.specs.Tokens.{token_at}
use Rattle.sedre.specs.Tree.{Tree, null_string, byte_of, text_begin, text_end, sequence, either_of, any_copies, one_or_none, grouped, size}

-- pieces one after the other (XBD 9.3.6, 9.4.6, 9.4.7); an empty text, group or alternative matches the null string (this project's own)
abbrev pub concatenation : List Tree → Tree
concatenation [] = null_string
concatenation (a ∷ []) = a
concatenation (a ∷ b ∷ rest) = sequence a (concatenation (b ∷ rest))

-- alternatives
abbrev pub alternation : List Tree → Tree
alternation [] = null_string
alternation (a ∷ []) = a
alternation (a ∷ b ∷ rest) = either_of a (alternation (b ∷ rest))

-- a number of copies, and what comes after them
abbrev pub with_copies : ℕ → Tree → List Tree → List Tree
with_copies zero e rest = rest
with_copies (suc n) e rest = e ∷ with_copies n e rest

-- up to one copy more than the number, each contained in the one before it
abbrev pub optional : ℕ → Tree → Bool → Tree
optional zero e first = one_or_none e first
optional (suc n) e first = one_or_none (sequence e (optional n e false)) first

-- what may follow the copies that must come
abbrev pub further : ℕ → Tree → Bool → List Tree
further zero e first = []
further (suc n) e first = optional n e first ∷ []

-- a repetition: at least so many copies, and at most so many where there is a limit
abbrev pub repetition : ℕ → Option ℕ → Tree → Tree
repetition least None e = concatenation (with_copies least e (any_copies e (nat_eq least 0) ∷ []))
repetition least (Some most) e = concatenation (with_copies least e (further (most - least) e (nat_eq least 0)))

-- the depth d of a tree, less the one that it adds if it is an alternation
abbrev pub without_alternation : Tree → (d : ℕ) → ℕ
without_alternation (either_of a b) d = d - 1
without_alternation other d = d

-- how deep it nests: a group and a repetition add one, and an alternation one for all its alternatives (this project's own)
abbrev pub depth : Tree → ℕ
depth (sequence a b) = max (depth a) (depth b)
depth (either_of a b) = 1 + max (depth a) (without_alternation b (depth b))
depth (grouped k a) = 1 + depth a
depth (any_copies a first) = 1 + depth a
depth (one_or_none a first) = 1 + depth a
depth other = 0

-- Groups are numbered by their openings from 1 (XBD 9.3.6): a fact has the count of openings before the tokens and that after.
mutual
  -- these tokens are these alternatives
  pub data AreAlternatives : ℕ → List Token → List Tree → ℕ → Type 0 where
    first : {g h : ℕ} {is : List Token} {ts : List Tree} →
        ArePieces g is ts h → AreAlternatives g is (concatenation ts ∷ []) h
    another : {g h k : ℕ} {is js : List Token} {bs ts : List Tree} →
        AreAlternatives g is bs h → ArePieces h js ts k →
        AreAlternatives g (is ++ Bar ∷ js) (bs ++ concatenation ts ∷ []) k

  -- these tokens are these pieces
  pub data ArePieces : ℕ → List Token → List Tree → ℕ → Type 0 where
    none : {g : ℕ} → ArePieces g [] [] g
    more : {g h k : ℕ} {is js : List Token} {ts : List Tree} {t : Tree} →
        ArePieces g is ts h → IsPiece h js t k → ArePieces g (is ++ js) (ts ++ t ∷ []) k

  -- these tokens are this piece
  pub data IsPiece : ℕ → List Token → Tree → ℕ → Type 0 where
    byte : {g : ℕ} {members : List Bool} → IsPiece g (Byte members ∷ []) (byte_of members) g
    begin_anchor : {g : ℕ} → IsPiece g (AtBegin ∷ []) text_begin g
    end_anchor : {g : ℕ} → IsPiece g (AtEnd ∷ []) text_end g
    subexpression : {g h : ℕ} {is : List Token} {bs : List Tree} →
        AreAlternatives (suc g) is bs h → IsPiece g (Open ∷ is ++ Close ∷ []) (grouped (suc g) (alternation bs)) h
    -- the groups of what is repeated count, also where no copy of it is left (this project's own)
    repeated : {g h : ℕ} (least : ℕ) (most : Option ℕ) {is : List Token} {t : Tree} →
        IsPiece g is t h → IsPiece g (is ++ Repeat least most ∷ []) (repetition least most t) h

-- the text is cut into these tokens, from one place, after a token, up to another, where case counts or is folded
pub data CutExpression (kind : Kind) (folded : Bool) (delimiter : Option ℕ) (text : List ℕ) :
    Option Token → ℕ → List Token → ℕ → Type 0 where
  done : {before : Option Token} {at : ℕ} → CutExpression kind folded delimiter text before at [] at
  next_item : {before : Option Token} {at next to : ℕ} {i : Token} {is : List Token} →
      token_at kind folded delimiter text before at ≡ Is i next → CutExpression kind folded delimiter text (Some i) next is to →
      CutExpression kind folded delimiter text before at (i ∷ is) to

-- how many groups are open after the tokens, where each closing has its opening
abbrev pub open_groups : ℕ → List Token → Option ℕ
open_groups n [] = Some n
open_groups n (Open ∷ is) = open_groups (suc n) is
open_groups zero (Close ∷ is) = None
open_groups (suc n) (Close ∷ is) = open_groups n is
open_groups n (other ∷ is) = open_groups n is

-- the text reads as this expression with so many groups, where case counts or is folded (this project's own)
pub record ReadsAs (kind : Kind) (folded : Bool) (delimiter : Option ℕ) (text : List ℕ) (e : Tree) (groups : ℕ) :
    Type 0 where
  pub tokens : List Token
  pub to : ℕ
  pub cut : CutExpression kind folded delimiter text None 0 tokens to
  pub ends : token_at kind folded delimiter text (last_or None tokens) to ≡ Ends
  pub alternatives : List Tree
  pub grammar : AreAlternatives 0 tokens alternatives groups
  pub is : alternation alternatives ≡ e

-- the fault after these tokens, which leave so many groups open. Its place, the depth of 600 and the limit of nodes are this
-- project's own
pub data FaultRow (kind : Kind) (folded : Bool) (delimiter : Option ℕ) (text : List ℕ) (max_nodes : ℕ) :
    List Token → (opened to place : ℕ) → ExprReason → Type 0 where
  -- the next token is none
  bad : {is : List Token} {opened to place : ℕ} {reason : ExprReason} →
      token_at kind folded delimiter text (last_or None is) to ≡ Bad (record { place = place; reason = reason }) →
      FaultRow kind folded delimiter text max_nodes is opened to place reason
  -- a group closes where none is open (in an extended expression this project's own)
  stray : {is : List Token} {to next : ℕ} →
      token_at kind folded delimiter text (last_or None is) to ≡ Is Close next →
      FaultRow kind folded delimiter text max_nodes is 0 to to StrayClose
  -- the text ends and a group is open
  unclosed : {is : List Token} {opened to : ℕ} →
      token_at kind folded delimiter text (last_or None is) to ≡ Ends →
      FaultRow kind folded delimiter text max_nodes is (suc opened) to (length text) OpenGroup
  -- the expression is too deep
  deep : {is : List Token} {to groups : ℕ} (bs : List Tree) →
      token_at kind folded delimiter text (last_or None is) to ≡ Ends → AreAlternatives 0 is bs groups →
      600 < depth (alternation bs) →
      FaultRow kind folded delimiter text max_nodes is 0 to (length text) TooDeep
  -- it isn't, and has too many nodes
  large : {is : List Token} {to groups : ℕ} (bs : List Tree) →
      token_at kind folded delimiter text (last_or None is) to ≡ Ends → AreAlternatives 0 is bs groups →
      depth (alternation bs) ≤ 600 → max_nodes < size (alternation bs) →
      FaultRow kind folded delimiter text max_nodes is 0 to (length text) TooManyNodes

-- the first fault of the text: what comes before it is cut into tokens, and each closing there has its opening
pub record FaultyWith (kind : Kind) (folded : Bool) (delimiter : Option ℕ) (text : List ℕ) (max_nodes place : ℕ)
    (reason : ExprReason) : Type 0 where
  pub tokens : List Token
  pub to : ℕ
  pub cut : CutExpression kind folded delimiter text None 0 tokens to
  pub opened : ℕ
  pub balanced : open_groups 0 tokens ≡ Some opened
  pub row : FaultRow kind folded delimiter text max_nodes tokens opened to place reason

-- the first fault of the text; whether case is folded makes no difference to it
abbrev pub ExprFaulty : Kind → Option ℕ → List ℕ → (max_nodes place : ℕ) → ExprReason → Type 0
ExprFaulty kind = FaultyWith kind false
