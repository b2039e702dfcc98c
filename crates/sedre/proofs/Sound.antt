-- What the machine reads, the grammar has.
use Rattle.std.proofs.Common.{◌≢◌, ℕ, suc, List, [], ◌∷◌, ◌++◌, Option, refl, subst, sym, append_assoc}
use Rattle.sedre.specs.declared.syntax.Token.{Token}
use Rattle.sedre.specs.declared.syntax.Token.TheVariants.{Open, Close, Bar, Repeat}
use Rattle.sedre.specs.Tree.{Tree, grouped}
use Rattle.sedre.specs.Grammar.{concatenation, alternation, repetition, AreAlternatives, ArePieces, IsPiece, first, another, none, more, subexpression, repeated}
use Rattle.sedre.proofs.Machine.{with_last-append}
use Rattle.sedre.specs.Stacks.{Level, with_last, with_piece, all_alternatives}

-- finished alternatives, and the pieces of the one after them
pub data Body : ℕ → List Token → List Tree → List Tree → ℕ → Type 0 where
  only : {g h : ℕ} {is : List Token} {ps : List Tree} → ArePieces g is ps h → Body g is [] ps h
  following : {g h k : ℕ} {is js : List Token} {bs ps : List Tree} → AreAlternatives g is bs h → ArePieces h js ps k → Body g (is ++ Bar ∷ js) bs ps k

-- the tokens make up this level inside those
pub data NestedAs : List Token → ℕ → Level → List Level → Type 0 where
  base : {h : ℕ} {is : List Token} {bs ps : List Tree} → Body 0 is bs ps h → NestedAs is h (record { number = 0; alternatives = bs; pieces = ps }) []
  inside : {g h : ℕ} {is js : List Token} {bs ps : List Tree} {l : Level} {ls : List Level} → NestedAs is g l ls → Body (suc g) js bs ps h →
      NestedAs (is ++ Open ∷ js) h (record { number = suc g; alternatives = bs; pieces = ps }) (l ∷ ls)

body_piece : {g h k : ℕ} {is js : List Token} {bs ps : List Tree} {t : Tree} → Body g is bs ps h → IsPiece h js t k → Body g (is ++ js) bs (ps ++ t ∷ []) k
body_piece (only p) q = only (more p q)
body_piece {g = g} {k = k} {js = ks} {bs = bs} {ps = ps} {t = t} (following {is = is} {js = js} a p) q =
    let B : List Token → Type 0 = λ xs. Body g xs bs (ps ++ t ∷ []) k in
    subst B (sym (append_assoc is (Bar ∷ js) ks)) (following a (more p q))

body_all : {g h : ℕ} {is : List Token} {bs ps : List Tree} → Body g is bs ps h → AreAlternatives g is (bs ++ concatenation ps ∷ []) h
body_all (only p) = first p
body_all (following a p) = another a p

body_bar : {g h : ℕ} {is : List Token} {bs ps : List Tree} → Body g is bs ps h → Body g (is ++ Bar ∷ []) (bs ++ concatenation ps ∷ []) [] h
body_bar b = following (body_all b) none

pieces_repeat : {g h : ℕ} {is : List Token} {ps : List Tree} (least : ℕ) (most : Option ℕ) → ArePieces g is ps h → ps ≢ [] → ArePieces g (is ++ Repeat least most ∷ []) (with_last (repetition least most) ps) h
pieces_repeat least most none ne = absurd (ne refl)
pieces_repeat {g = g} {h = h} least most (more {is = is} {js = js} {ts = ts} {t = t} p q) ne =
    let B : List Token → List Tree → Type 0 = λ xs ys. ArePieces g xs ys h in
    let one : B (is ++ (js ++ Repeat least most ∷ [])) (ts ++ repetition least most t ∷ []) = more p (repeated least most q) in
    let C : List Token → Type 0 = λ xs. B xs (ts ++ repetition least most t ∷ []) in
    let D : List Tree → Type 0 = λ ys. B ((is ++ js) ++ Repeat least most ∷ []) ys in
    subst D (sym (with_last-append (repetition least most) ts t)) (subst C (sym (append_assoc is js (Repeat least most ∷ []))) one)

body_repeat : {g h : ℕ} {is : List Token} {bs ps : List Tree} (least : ℕ) (most : Option ℕ) → Body g is bs ps h → ps ≢ [] → Body g (is ++ Repeat least most ∷ []) bs (with_last (repetition least most) ps) h
body_repeat least most (only p) ne = only (pieces_repeat least most p ne)
body_repeat {g = g} {h = h} {bs = bs} {ps = ps} least most (following {is = is} {js = js} a p) ne =
    let B : List Token → Type 0 = λ xs. Body g xs bs (with_last (repetition least most) ps) h in
    subst B (sym (append_assoc is (Bar ∷ js) (Repeat least most ∷ []))) (following a (pieces_repeat least most p ne))

pub nested_piece : {h k : ℕ} {is js : List Token} {l : Level} {ls : List Level} {t : Tree} → NestedAs is h l ls → IsPiece h js t k → NestedAs (is ++ js) k (with_piece t l) ls
nested_piece (base b) q = base (body_piece b q)
nested_piece {k = k} {js = ks} {ls = ls} {t = t} (inside {g = g} {is = is} {js = js} {bs = bs} {ps = ps} s b) q =
    let B : List Token → Type 0 = λ xs. NestedAs xs k (record { number = suc g; alternatives = bs; pieces = ps ++ t ∷ [] }) ls in
    subst B (sym (append_assoc is (Open ∷ js) ks)) (inside s (body_piece b q))

pub nested_bar : {h : ℕ} {is : List Token} {l : Level} {ls : List Level} → NestedAs is h l ls → NestedAs (is ++ Bar ∷ []) h (record { number = l.number; alternatives = all_alternatives l; pieces = [] }) ls
nested_bar (base b) = base (body_bar b)
nested_bar {h = h} {ls = ls} (inside {g = g} {is = is} {js = js} {bs = bs} {ps = ps} s b) =
    let B : List Token → Type 0 = λ xs. NestedAs xs h (record { number = suc g; alternatives = bs ++ concatenation ps ∷ []; pieces = [] }) ls in
    subst B (sym (append_assoc is (Open ∷ js) (Bar ∷ []))) (inside s (body_bar b))

pub nested_repeat : {h : ℕ} {is : List Token} {l : Level} {ls : List Level} (least : ℕ) (most : Option ℕ) → NestedAs is h l ls → l.pieces ≢ [] →
    NestedAs (is ++ Repeat least most ∷ []) h (record { number = l.number; alternatives = l.alternatives; pieces = with_last (repetition least most) l.pieces }) ls
nested_repeat least most (base b) ne = base (body_repeat least most b ne)
nested_repeat {h = h} {ls = ls} least most (inside {g = g} {is = is} {js = js} {bs = bs} {ps = ps} s b) ne =
    let B : List Token → Type 0 = λ xs. NestedAs xs h (record { number = suc g; alternatives = bs; pieces = with_last (repetition least most) ps }) ls in
    subst B (sym (append_assoc is (Open ∷ js) (Repeat least most ∷ []))) (inside s (body_repeat least most b ne))

pub nested_open : {h : ℕ} {is : List Token} {l : Level} {ls : List Level} → NestedAs is h l ls → NestedAs (is ++ Open ∷ []) (suc h) (record { number = suc h; alternatives = []; pieces = [] }) (l ∷ ls)
nested_open s = inside s (only none)

pub nested_close : {h : ℕ} {is : List Token} {l k : Level} {ls : List Level} → NestedAs is h l (k ∷ ls) → NestedAs (is ++ Close ∷ []) h (with_piece (grouped l.number (alternation (all_alternatives l))) k) ls
nested_close {h = h} {k = k} {ls = ls} (inside {g = g} {is = is} {js = js} {bs = bs} {ps = ps} s b) =
    let B : List Token → Type 0 = λ xs. NestedAs xs h (with_piece (grouped (suc g) (alternation (bs ++ concatenation ps ∷ []))) k) ls in
    subst B (sym (append_assoc is (Open ∷ js) (Close ∷ []))) (nested_piece s (subexpression (body_all b)))

-- at the end_anchor with no subexpression open, the whole is alternatives
pub nested_whole : {h : ℕ} {is : List Token} {l : Level} → NestedAs is h l [] → AreAlternatives 0 is (all_alternatives l) h
nested_whole (base b) = body_all b
