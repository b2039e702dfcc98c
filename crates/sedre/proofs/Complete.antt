-- What the grammar has, the machine reads.
use Rattle.std.proofs.Common.{◌≡◌, ℕ, suc, List, [], ◌∷◌, ◌++◌, refl, ap, ◌∙◌, sym, append_assoc, append-nil}
use Rattle.sedre.specs.declared.syntax.Token.{Token}
use Rattle.sedre.specs.declared.syntax.Token.TheVariants.{Close, Bar, Repeat}
use Rattle.sedre.specs.Tree.{Tree, grouped}
use Rattle.sedre.specs.Grammar.{concatenation, alternation, repetition, AreAlternatives, ArePieces, IsPiece, first, another, none, more, byte, begin_anchor, end_anchor, subexpression, repeated}
use Rattle.sedre.proofs.Machine.{run-append, with_last-append}
use Rattle.sedre.specs.Stacks.{Level, Nesting, nest_all}

-- a state at a level
abbrev pub at : ℕ → ℕ → List Tree → List Tree → List Level → Nesting
at g number bs ps below = record { opened = g; top = record { number = number; alternatives = bs; pieces = ps }; below = below }

-- the machine reads these alternatives: it has all of them but the last, whose pieces it has
pub record ReadsAll (g : ℕ) (is : List Token) (bs : List Tree) (h : ℕ) (number : ℕ) (below : List Level) : Type 0 where
  pub before : List Tree
  pub pieces : List Tree
  pub whole : before ++ concatenation pieces ∷ [] ≡ bs
  pub reads : nest_all is (at g number [] [] below) ≡ at h number before pieces below

mutual
  pub alternatives_read : {g h : ℕ} {is : List Token} {bs : List Tree} → AreAlternatives g is bs h → (number : ℕ) (below : List Level) → ReadsAll g is bs h number below
  alternatives_read (first {ts = ts} p) number below = record { before = []; pieces = ts; whole = refl; reads = pieces_read p number [] [] below }
  alternatives_read (another {is = is} {js = js} {ts = ts} a p) number below =
      let r = alternatives_read a number below in
      record {
        before = r.before ++ concatenation r.pieces ∷ [];
        pieces = ts;
        whole = ap (λ (x : List Tree). x ++ concatenation ts ∷ []) r.whole;
        reads = run-append is (Bar ∷ js) _ ∙ ap (λ (s : Nesting). nest_all (Bar ∷ js) s) r.reads ∙ pieces_read p number _ [] below;
      }

  pub pieces_read : {g h : ℕ} {is : List Token} {ts : List Tree} → ArePieces g is ts h → (number : ℕ) (bs ps : List Tree) (below : List Level) → nest_all is (at g number bs ps below) ≡ at h number bs (ps ++ ts) below
  pieces_read (none {g}) number bs ps below = ap (λ (x : List Tree). at g number bs x below) (sym (append-nil ps))
  pieces_read (more {k = k} {is = is} {js = js} {ts = ts} {t = t} p q) number bs ps below =
      run-append is js _ ∙ ap (λ (s : Nesting). nest_all js s) (pieces_read p number bs ps below) ∙ piece_read q number bs (ps ++ ts) below ∙ ap (λ (x : List Tree). at k number bs x below) (append_assoc ps ts (t ∷ []))

  pub piece_read : {g h : ℕ} {is : List Token} {t : Tree} → IsPiece g is t h → (number : ℕ) (bs ps : List Tree) (below : List Level) → nest_all is (at g number bs ps below) ≡ at h number bs (ps ++ t ∷ []) below
  piece_read byte number bs ps below = refl
  piece_read begin_anchor number bs ps below = refl
  piece_read end_anchor number bs ps below = refl
  piece_read (subexpression {g = g} {h = h} {is = is} a) number bs ps below =
      let r = alternatives_read a (suc g) (record { number = number; alternatives = bs; pieces = ps } ∷ below) in
      run-append is (Close ∷ []) _ ∙ ap (λ (s : Nesting). nest_all (Close ∷ []) s) r.reads ∙ ap (λ (x : List Tree). at h number bs (ps ++ grouped (suc g) (alternation x) ∷ []) below) r.whole
  piece_read (repeated {h = h} least most {is = is} {t = t} q) number bs ps below =
      run-append is (Repeat least most ∷ []) _ ∙ ap (λ (s : Nesting). nest_all (Repeat least most ∷ []) s) (piece_read q number bs ps below) ∙ ap (λ (x : List Tree). at h number bs x below) (with_last-append (repetition least most) ps t)
