-- A text that reads as an expression within the limits has no fault, and reads as no other.
use Rattle.std.proofs.Common.{Bool, ◌≡◌, ℕ, zero, suc, ◌≤◌, List, [], ◌∷◌, ◌++◌, Option, Some, None, refl, ap, subst, ◌∙◌, sym, append-nil, arith}
use Rattle.std.specs.List.{last_or}
use Rattle.sedre.specs.declared.types.Kind.{Kind}
use Rattle.sedre.specs.declared.types.ExprReason.{ExprReason}
use Rattle.sedre.specs.declared.syntax.NextToken.TheVariants.{Is, Ends, Bad}
use Rattle.sedre.specs.declared.syntax.Token.{Token}
use Rattle.sedre.specs.declared.syntax.Token.TheVariants.{Byte, Open, Close, Bar, Repeat, AtBegin, AtEnd}
use Rattle.sedre.specs.Tree.{Tree, size}
use Rattle.sedre.specs.Grammar.{depth, concatenation, alternation, AreAlternatives, ArePieces, IsPiece, first, another, none, more, byte, begin_anchor, end_anchor, subexpression, repeated, CutExpression, done, next_item, open_groups, ReadsAs, FaultRow, bad, stray, unclosed, deep, large, FaultyWith}
use Rattle.sedre.specs.Tokens.{token_at}
use Rattle.sedre.specs.Stacks.{Nesting}
use Rattle.sedre.proofs.Complete.{alternatives_read, at as state_at}

-- one list of tokens has one reading
pub one_reading : {g h k : ℕ} {is : List Token} {bs ds : List Tree} → AreAlternatives g is bs h → AreAlternatives g is ds k → bs ≡ ds
one_reading {g = g} {h = h} {k = k} {is = is} a b =
    let r = alternatives_read a 0 [] in
    let s = alternatives_read b 0 [] in
    let same : state_at h 0 r.before r.pieces [] ≡ state_at k 0 s.before s.pieces [] = sym r.reads ∙ s.reads in
    sym r.whole ∙ ap (λ (x : Nesting). x.top.alternatives ++ concatenation x.top.pieces ∷ []) same ∙ s.whole

pub one_count : {g h k : ℕ} {is : List Token} {bs ds : List Tree} → AreAlternatives g is bs h → AreAlternatives g is ds k → h ≡ k
one_count {g = g} {h = h} {k = k} {is = is} a b =
    let r = alternatives_read a 0 [] in
    let s = alternatives_read b 0 [] in
    let same : state_at h 0 r.before r.pieces [] ≡ state_at k 0 s.before s.pieces [] = sym r.reads ∙ s.reads in
    ap (λ (x : Nesting). x.opened) same

-- goes on from a count
abbrev pub go_on : Option ℕ → List Token → Option ℕ
go_on None is = None
go_on (Some n) is = open_groups n is

pub open-append : (n : ℕ) (xs ys : List Token) → open_groups n (xs ++ ys) ≡ go_on (open_groups n xs) ys
open-append n [] ys = refl
open-append n (Byte members ∷ xs) ys = open-append n xs ys
open-append n (Open ∷ xs) ys = open-append (suc n) xs ys
open-append zero (Close ∷ xs) ys = refl
open-append (suc n) (Close ∷ xs) ys = open-append n xs ys
open-append n (Bar ∷ xs) ys = open-append n xs ys
open-append n (Repeat a b ∷ xs) ys = open-append n xs ys
open-append n (AtBegin ∷ xs) ys = open-append n xs ys
open-append n (AtEnd ∷ xs) ys = open-append n xs ys

mutual
  alternatives_balanced : {g h : ℕ} {is : List Token} {bs : List Tree} → AreAlternatives g is bs h → (n : ℕ) → open_groups n is ≡ Some n
  alternatives_balanced (first p) n = pieces_balanced p n
  alternatives_balanced (another {is = is} {js = js} a p) n = open-append n is (Bar ∷ js) ∙ ap (λ (o : Option ℕ). go_on o (Bar ∷ js)) (alternatives_balanced a n) ∙ pieces_balanced p n

  pieces_balanced : {g h : ℕ} {is : List Token} {ts : List Tree} → ArePieces g is ts h → (n : ℕ) → open_groups n is ≡ Some n
  pieces_balanced none n = refl
  pieces_balanced (more {is = is} {js = js} p q) n = open-append n is js ∙ ap (λ (o : Option ℕ). go_on o js) (pieces_balanced p n) ∙ piece_balanced q n

  piece_balanced : {g h : ℕ} {is : List Token} {t : Tree} → IsPiece g is t h → (n : ℕ) → open_groups n is ≡ Some n
  piece_balanced byte n = refl
  piece_balanced begin_anchor n = refl
  piece_balanced end_anchor n = refl
  piece_balanced (subexpression {is = is} a) n = open-append (suc n) is (Close ∷ []) ∙ ap (λ (o : Option ℕ). go_on o (Close ∷ [])) (alternatives_balanced a (suc n))
  piece_balanced (repeated least most {is = is} q) n = open-append n is (Repeat least most ∷ []) ∙ ap (λ (o : Option ℕ). go_on o (Repeat least most ∷ [])) (piece_balanced q n)

module _ (kind : Kind) (folded : Bool) (delimiter : Option ℕ) (text : List ℕ) where
  -- a cut that goes on after another
  record After (before : Option Token) (at : ℕ) (is : List Token) (to : ℕ) (js : List Token) (mid : ℕ) : Type 0 where
    pub rest : List Token
    pub whole : is ≡ js ++ rest
    pub cut : CutExpression kind folded delimiter text (last_or before js) mid rest to
    pub last : last_or before is ≡ last_or (last_or before js) rest

  -- a whole cut begins with each other one
  begins : {before : Option Token} {at to mid : ℕ} {is js : List Token} → CutExpression kind folded delimiter text before at is to → token_at kind folded delimiter text (last_or before is) to ≡ Ends →
      CutExpression kind folded delimiter text before at js mid → After before at is to js mid
  begins {is = is} c e done = record { rest = is; whole = refl; cut = c; last = refl }
  begins done e (next_item f d) = absurd cc
  begins {before = before} {at = at} {to = to} {mid = mid} (next_item {next = n} {i = i} {is = is} g c) e (next_item {next = m} {i = j} {is = js} f d) =
      let one : Is i n ≡ Is j m = sym g ∙ f in
      let same_item : i ≡ j = cc in
      let same_place : n ≡ m = cc in
      let C : Token → ℕ → Type 0 = λ x y. CutExpression kind folded delimiter text (Some x) y js mid in
      let d' : C i n = subst (λ (x : Token). C x n) (sym same_item) (subst (λ (y : ℕ). C j y) (sym same_place) d) in
      let b = begins c e d' in
      let D : Token → Type 0 = λ x. After before at (i ∷ is) to (x ∷ js) mid in
      subst D same_item (record { rest = b.rest; whole = ap (λ (r : List Token). i ∷ r) b.whole; cut = b.cut; last = b.last })

  never_bad : {before : Option Token} {mid to : ℕ} {rest : List Token} {place : ℕ} {reason : ExprReason} → CutExpression kind folded delimiter text before mid rest to →
      token_at kind folded delimiter text (last_or before rest) to ≡ Ends → token_at kind folded delimiter text before mid ≡ Bad (record { place = place; reason = reason }) → ⊥
  never_bad done e f = cc
  never_bad (next_item g c) e f = cc

  closes : {before : Option Token} {mid to next : ℕ} {rest : List Token} → CutExpression kind folded delimiter text before mid rest to →
      token_at kind folded delimiter text (last_or before rest) to ≡ Ends → token_at kind folded delimiter text before mid ≡ Is Close next → (more_items : List Token) × (rest ≡ Close ∷ more_items)
  closes done e f = absurd cc
  closes (next_item {next = n} {i = i} {is = is} g c) e f =
      let same : i ≡ Close = cc in
      (is, ap (λ (x : Token). x ∷ is) same)

  at_end : {before : Option Token} {mid to : ℕ} {rest : List Token} → CutExpression kind folded delimiter text before mid rest to →
      token_at kind folded delimiter text before mid ≡ Ends → rest ≡ []
  at_end done f = refl
  at_end (next_item g c) f = absurd cc

  same_items : {before : Option Token} {at to mid : ℕ} {is js : List Token} → After before at is to js mid → token_at kind folded delimiter text (last_or before js) mid ≡ Ends → is ≡ js
  same_items {js = js} b f = b.whole ∙ ap (λ (r : List Token). js ++ r) (at_end b.cut f) ∙ append-nil js

  -- the fault's row can't hold
  no_row : (max_nodes : ℕ) {groups to mid opened place : ℕ} {is js : List Token} {bs : List Tree} {reason : ExprReason} → AreAlternatives 0 is bs groups →
      token_at kind folded delimiter text (last_or None is) to ≡ Ends → After None 0 is to js mid → open_groups 0 js ≡ Some opened →
      depth (alternation bs) ≤ 600 → size (alternation bs) ≤ max_nodes → FaultRow kind folded delimiter text max_nodes js opened mid place reason → ⊥
  no_row max_nodes {to = to} {is = is} {js = js} a e b balanced shallow small (bad f) =
      never_bad b.cut (ap (λ (x : Option Token). token_at kind folded delimiter text x to) (sym b.last) ∙ e) f
  no_row max_nodes {to = to} {is = is} {js = js} a e b balanced shallow small (stray f) =
      let c = closes b.cut (ap (λ (x : Option Token). token_at kind folded delimiter text x to) (sym b.last) ∙ e) f in
      let whole : open_groups 0 is ≡ None = ap (open_groups 0) (b.whole ∙ ap (λ (r : List Token). js ++ r) c.1) ∙ open-append 0 js (Close ∷ c.0) ∙ ap (λ (o : Option ℕ). go_on o (Close ∷ c.0)) balanced in
      let other : open_groups 0 is ≡ Some 0 = alternatives_balanced a 0 in
      cc
  no_row max_nodes {is = is} {js = js} a e b balanced shallow small (unclosed {opened = n} f) =
      let whole : open_groups 0 is ≡ Some (suc n) = ap (open_groups 0) (same_items b f) ∙ balanced in
      let other : open_groups 0 is ≡ Some 0 = alternatives_balanced a 0 in
      cc
  no_row max_nodes {is = is} {js = js} {bs = bs} a e b balanced shallow small (deep {groups = k} ds f d far) =
      let A : List Token → Type 0 = λ x. AreAlternatives 0 x ds k in
      let same : bs ≡ ds = one_reading a (subst A (sym (same_items b f)) d) in
      let depths : depth (alternation bs) ≡ depth (alternation ds) = ap (λ (x : List Tree). depth (alternation x)) same in
      omega (arith, depths)
  no_row max_nodes {is = is} {js = js} {bs = bs} a e b balanced shallow small (large {groups = k} ds f d near far) =
      let A : List Token → Type 0 = λ x. AreAlternatives 0 x ds k in
      let same : bs ≡ ds = one_reading a (subst A (sym (same_items b f)) d) in
      let sizes : size (alternation bs) ≡ size (alternation ds) = ap (λ (x : List Tree). size (alternation x)) same in
      omega (arith, sizes)

  -- what reads as an expression within the limits has no fault
  pub no_fault : {max_nodes place groups : ℕ} {reason : ExprReason} {t : Tree} → ReadsAs kind folded delimiter text t groups → depth t ≤ 600 → size t ≤ max_nodes →
      FaultyWith kind folded delimiter text max_nodes place reason → ⊥
  no_fault {max_nodes = max_nodes} {t = t} r shallow small f =
      let D : Tree → Type 0 = λ x. depth x ≤ 600 in
      let S : Tree → Type 0 = λ x. size x ≤ max_nodes in
      no_row max_nodes r.grammar r.ends (begins r.cut r.ends f.cut) f.balanced (subst D (sym r.is) shallow) (subst S (sym r.is) small) f.row

  -- no text reads as two expressions
  pub reads_one : {s t : Tree} {g h : ℕ} → ReadsAs kind folded delimiter text s g → ReadsAs kind folded delimiter text t h → s ≡ t
  reads_one {t = t} {h = h} q r =
      let b = begins q.cut q.ends r.cut in
      let A : List Token → Type 0 = λ x. AreAlternatives 0 x r.alternatives h in
      sym q.is ∙ ap alternation (one_reading q.grammar (subst A (sym (same_items b r.ends)) r.grammar)) ∙ r.is

  -- nor with two numbers of groups
  pub reads_groups : {s t : Tree} {g h : ℕ} → ReadsAs kind folded delimiter text s g → ReadsAs kind folded delimiter text t h → g ≡ h
  reads_groups {h = h} q r =
      let b = begins q.cut q.ends r.cut in
      let A : List Token → Type 0 = λ x. AreAlternatives 0 x r.alternatives h in
      one_count q.grammar (subst A (sym (same_items b r.ends)) r.grammar)
