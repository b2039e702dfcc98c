-- One token more on the reader's stack.
use Rattle.std.proofs.Common.{◌≡◌, ◌≢◌, ℕ, suc, ◌+◌, ◌<◌, ◌≤◌, length, List, [], ◌∷◌, ◌++◌, refl, ap, subst, ◌∙◌, sym, append_assoc, append-nil, arith, length-append, Option, add-one}
use Rattle.sedre.specs.declared.parts.Mark.{Mark}
use Rattle.sedre.specs.declared.stack.Stack.{Stack}
use Rattle.sedre.specs.declared.builder.Builder.{Builder}
use Rattle.sedre.specs.declared.syntax.Token.TheVariants.{Open, Close, Bar, Repeat}
use Rattle.sedre.specs.Tree.{Tree, grouped}
use Rattle.sedre.specs.Grammar.{concatenation, alternation, repetition}
use Rattle.sedre.specs.Stacks.{Level, Nesting, step, close, with_piece, with_last, whole_level, StoresTrees, trees_in, mark_of, marks_of_levels, Represents}
use Rattle.sedre.proofs.Written.{snoc_last, split_last}
use Rattle.sedre.proofs.Stacked.{count_of}
use Rattle.sedre.proofs.Machine.{with_last-append}

pub not_nil : {A : Type 0} (ts : List A) → ts ≢ [] → 0 < length ts
not_nil [] ne = absurd (ne refl)
not_nil (t ∷ ts) ne = omega arith

-- the trees with one piece more at the top
trees_snoc : (ts bs ps : List Tree) (t : Tree) → ts ++ (bs ++ (ps ++ t ∷ [])) ≡ (ts ++ (bs ++ ps)) ++ t ∷ []
trees_snoc ts bs ps t = ap (λ (x : List Tree). ts ++ x) (sym (append_assoc bs ps (t ∷ []))) ∙ sym (append_assoc ts (bs ++ ps) (t ∷ []))

module _ (limit : ℕ) where
  pub represents_leaf : (t : Tree) (b c : Builder) (s : Nesting) → Represents limit b s → ((ts : List Tree) → StoresTrees limit b.stack ts → StoresTrees limit c.stack (ts ++ t ∷ [])) →
      c.opened ≡ b.opened → c.top ≡ b.top → c.below.items ≡ b.below.items → Represents limit c (record { opened = s.opened; top = with_piece t s.top; below = s.below })
  represents_leaf t b c s r f eo et eb =
      let S : List Tree → Type 0 = λ x. StoresTrees limit c.stack x in
      record {
        stored = subst S (sym (trees_snoc (trees_in s.below) s.top.alternatives s.top.pieces t)) (f (trees_in (s.top ∷ s.below)) r.stored);
        opened = eo ∙ r.opened;
        top = et ∙ r.top;
        below = eb ∙ r.below;
      }

  same_mark : (m : Mark) (number alternatives pieces : ℕ) → m.number ≡ number → m.alternatives ≡ alternatives → m.pieces ≡ pieces → m ≡ record { number = number; alternatives = alternatives; pieces = pieces }
  same_mark m number alternatives pieces a b c =
      let by_number : ℕ → Mark = λ x. record { number = x; alternatives = m.alternatives; pieces = m.pieces } in
      let by_alternatives : ℕ → Mark = λ x. record { number = number; alternatives = x; pieces = m.pieces } in
      let by_pieces : ℕ → Mark = λ x. record { number = number; alternatives = alternatives; pieces = x } in
      ap by_number a ∙ ap by_alternatives b ∙ ap by_pieces c

  pub represents_open : (b c : Builder) (s : Nesting) → Represents limit b s → c.stack ≡ b.stack → c.opened ≡ b.opened + 1 →
      c.top.number ≡ b.opened + 1 → c.top.alternatives ≡ length b.stack.parts.items → c.top.pieces ≡ length b.stack.parts.items → c.below.items ≡ b.below.items ++ b.top ∷ [] →
      Represents limit c (step Open s)
  represents_open b c s r es eo number alternatives pieces eb =
      let ts : List Tree = trees_in (s.top ∷ s.below) in
      let n = count_of r.stored in
      let S : List Tree → Type 0 = λ x. StoresTrees limit c.stack x in
      let T : Stack → Type 0 = λ x. StoresTrees limit x ts in
      let marks : c.top ≡ mark_of (record { number = suc s.opened; alternatives = []; pieces = [] }) (s.top ∷ s.below) =
      same_mark c.top (suc s.opened) (length ts) (length ts + 0) (number ∙ ap (λ (x : ℕ). x + 1) r.opened ∙ add-one s.opened) (alternatives ∙ n) (pieces ∙ n ∙ omega arith) in
      record {
        stored = subst S (sym (append-nil ts)) (subst T (sym es) r.stored);
        opened = eo ∙ ap (λ (x : ℕ). x + 1) r.opened ∙ add-one s.opened;
        top = marks;
        below = eb ∙ ap (λ (x : List Mark). x ++ b.top ∷ []) r.below ∙ ap (λ (x : Mark). marks_of_levels s.below ++ x ∷ []) r.top;
      }

  -- what a concatenation of the pieces does
  pub represents_bar : (b c : Builder) (s : Nesting) → Represents limit b s →
      ((m : ℕ) (ts ps : List Tree) → length ts ≡ b.top.pieces → StoresTrees m b.stack (ts ++ ps) → StoresTrees m c.stack (ts ++ concatenation ps ∷ [])) →
      c.opened ≡ b.opened → c.top.number ≡ b.top.number → c.top.alternatives ≡ b.top.alternatives → c.top.pieces ≡ length c.stack.parts.items → c.below.items ≡ b.below.items →
      Represents limit c (step Bar s)
  represents_bar b c s r f eo number alternatives pieces eb =
      let A : List Tree = trees_in s.below in
      let B : List Tree = s.top.alternatives in
      let S : List Tree → Type 0 = λ x. StoresTrees limit b.stack x in
      let T : List Tree → Type 0 = λ x. StoresTrees limit c.stack x in
      let one : List Tree = concatenation s.top.pieces ∷ [] in
      let from : length (A ++ B) ≡ b.top.pieces = length-append A B ∙ sym (ap (λ (m : Mark). m.pieces) r.top) in
      let st : T ((A ++ B) ++ one) = f limit (A ++ B) s.top.pieces from (subst S (sym (append_assoc A B s.top.pieces)) r.stored) in
      record {
        stored = subst T (append_assoc A B one ∙ ap (λ (x : List Tree). A ++ x) (sym (append-nil (B ++ one)))) st;
        opened = eo ∙ r.opened;
        top = same_mark c.top s.top.number (length A) (length A + length (B ++ one)) (number ∙ ap (λ (m : Mark). m.number) r.top) (alternatives ∙ ap (λ (m : Mark). m.alternatives) r.top)
            (omega (arith, pieces, count_of st, length-append (A ++ B) one, length-append A B, length-append B one));
        below = eb ∙ r.below;
      }

  represents_close_levels : (b c : Builder) (opened : ℕ) (top : Level) (below : List Level) (s₁ s₂ : Stack) → StoresTrees limit b.stack (trees_in (top ∷ below)) →
      b.opened ≡ opened → b.top ≡ mark_of top below → b.below.items ≡ marks_of_levels below →
      ((m : ℕ) (ts ps : List Tree) → length ts ≡ b.top.pieces → StoresTrees m b.stack (ts ++ ps) → StoresTrees m s₁ (ts ++ concatenation ps ∷ [])) →
      ((m : ℕ) (ts ps : List Tree) → length ts ≡ b.top.alternatives → StoresTrees m s₁ (ts ++ ps) → StoresTrees m s₂ (ts ++ alternation ps ∷ [])) →
      ((m : ℕ) (ts : List Tree) (a : Tree) → StoresTrees m s₂ (ts ++ a ∷ []) → StoresTrees m c.stack (ts ++ grouped b.top.number a ∷ [])) →
      c.opened ≡ b.opened → b.below.items ≡ c.below.items ++ c.top ∷ [] → Represents limit c (close top below opened)
  represents_close_levels b c opened top [] s₁ s₂ st o t l f g h eo eb = absurd (omega (arith, sym (ap length l) ∙ ap length eb ∙ length-append c.below.items (c.top ∷ [])))
  represents_close_levels b c opened top (k ∷ ks) s₁ s₂ st o t l f g h eo eb =
      let A : List Tree = trees_in (k ∷ ks) in
      let B : List Tree = top.alternatives in
      let S : List Tree → Type 0 = λ x. StoresTrees limit b.stack x in
      let T : List Tree → Type 0 = λ x. StoresTrees limit s₁ x in
      let U : Tree → Type 0 = λ x. StoresTrees limit c.stack (A ++ x ∷ []) in
      let V : List Tree → Type 0 = λ x. StoresTrees limit c.stack x in
      let one : List Tree = concatenation top.pieces ∷ [] in
      let inner : Tree = alternation (B ++ one) in
      let from : length (A ++ B) ≡ b.top.pieces = length-append A B ∙ sym (ap (λ (m : Mark). m.pieces) t) in
      let st₁ : T ((A ++ B) ++ one) = f limit (A ++ B) top.pieces from (subst S (sym (append_assoc A B top.pieces)) st) in
      let st₂ : StoresTrees limit s₂ (A ++ inner ∷ []) = g limit A (B ++ one) (sym (ap (λ (m : Mark). m.alternatives) t)) (subst T (append_assoc A B one) st₁) in
      let number : b.top.number ≡ top.number = ap (λ (m : Mark). m.number) t in
      let st₃ : U (grouped top.number inner) = subst (λ (x : ℕ). U (grouped x inner)) number (h limit A inner st₂) in
      let marks = snoc_last c.below.items (marks_of_levels ks) c.top (mark_of k ks) (sym eb ∙ l) in
      record {
        stored = subst V (sym (trees_snoc (trees_in ks) k.alternatives k.pieces (grouped top.number inner))) st₃;
        opened = eo ∙ o;
        top = marks.1;
        below = marks.0;
      }

  -- the innermost group closes
  pub represents_close : (b c : Builder) (s : Nesting) (s₁ s₂ : Stack) → Represents limit b s →
      ((m : ℕ) (ts ps : List Tree) → length ts ≡ b.top.pieces → StoresTrees m b.stack (ts ++ ps) → StoresTrees m s₁ (ts ++ concatenation ps ∷ [])) →
      ((m : ℕ) (ts ps : List Tree) → length ts ≡ b.top.alternatives → StoresTrees m s₁ (ts ++ ps) → StoresTrees m s₂ (ts ++ alternation ps ∷ [])) →
      ((m : ℕ) (ts : List Tree) (a : Tree) → StoresTrees m s₂ (ts ++ a ∷ []) → StoresTrees m c.stack (ts ++ grouped b.top.number a ∷ [])) →
      c.opened ≡ b.opened → b.below.items ≡ c.below.items ++ c.top ∷ [] → Represents limit c (step Close s)
  represents_close b c s s₁ s₂ r f g h eo eb = represents_close_levels b c s.opened s.top s.below s₁ s₂ r.stored r.opened r.top r.below f g h eo eb

  -- the last piece is repeated
  pub represents_repeat : (least : ℕ) (most : Option ℕ) (b c : Builder) (s : Nesting) → s.top.pieces ≢ [] → Represents limit b s →
      ((m : ℕ) (ts : List Tree) (a : Tree) → StoresTrees m b.stack (ts ++ a ∷ []) → StoresTrees m c.stack (ts ++ repetition least most a ∷ [])) →
      c.opened ≡ b.opened → c.top ≡ b.top → c.below.items ≡ b.below.items → Represents limit c (step (Repeat least most) s)
  represents_repeat least most b c s some r f eo et eb =
      let n : 0 < length s.top.pieces = not_nil s.top.pieces some in
      let p = split_last s.top.pieces n in
      let A : List Tree = trees_in s.below in
      let B : List Tree = s.top.alternatives in
      let S : List Tree → Type 0 = λ x. StoresTrees limit b.stack x in
      let T : List Tree → Type 0 = λ x. StoresTrees limit c.stack x in
      let new_pieces : with_last (repetition least most) s.top.pieces ≡ p.0 ++ repetition least most p.1 ∷ [] = ap (with_last (repetition least most)) p.2 ∙ with_last-append (repetition least most) p.0 p.1 in
      let st : S ((A ++ (B ++ p.0)) ++ p.1 ∷ []) = subst S (ap (λ (x : List Tree). A ++ (B ++ x)) p.2 ∙ trees_snoc A B p.0 p.1) r.stored in
      record {
        stored = subst T (sym (ap (λ (x : List Tree). A ++ (B ++ x)) new_pieces ∙ trees_snoc A B p.0 (repetition least most p.1))) (f limit (A ++ (B ++ p.0)) p.1 st);
        opened = eo ∙ r.opened;
        top = et ∙ r.top;
        below = eb ∙ r.below;
      }

  -- the marks lie within the stack
  pub represents_pieces : (b : Builder) (s : Nesting) → Represents limit b s → b.top.pieces ≤ length b.stack.parts.items
  represents_pieces b s r =
      omega (arith, count_of r.stored, length-append (trees_in s.below) (s.top.alternatives ++ s.top.pieces), length-append s.top.alternatives s.top.pieces, ap (λ (m : Mark). m.pieces) r.top)

  pub represents_alternatives : (b : Builder) (s : Nesting) → Represents limit b s → b.top.alternatives ≤ b.top.pieces
  represents_alternatives b s r = omega (arith, ap (λ (m : Mark). m.pieces) r.top, ap (λ (m : Mark). m.alternatives) r.top)

  pub represents_some : (b : Builder) (s : Nesting) → s.top.pieces ≢ [] → Represents limit b s → 0 < length b.stack.parts.items
  represents_some b s ne r =
      omega (arith, not_nil s.top.pieces ne, count_of r.stored, length-append (trees_in s.below) (s.top.alternatives ++ s.top.pieces), length-append s.top.alternatives s.top.pieces)

  length-marks : (ls : List Level) → length (marks_of_levels ls) ≡ length ls
  length-marks [] = refl
  length-marks (l ∷ ls) = omega (arith, length-append (marks_of_levels ls) (mark_of l ls ∷ []), length-marks ls)

  pub represents_count : (b : Builder) (s : Nesting) → Represents limit b s → length b.below.items ≡ length s.below
  represents_count b s r = ap length r.below ∙ length-marks s.below

  pub represents_below : (b : Builder) (s : Nesting) → s.below ≢ [] → Represents limit b s → 0 < length b.below.items
  represents_below b s ne r = omega (arith, represents_count b s r, not_nil s.below ne)

  -- the whole is joined
  pub represents_join : (b : Builder) (s : Nesting) (s₁ s₂ : Stack) → Represents limit b s → s.below ≡ [] →
      ((m : ℕ) (ts ps : List Tree) → length ts ≡ b.top.pieces → StoresTrees m b.stack (ts ++ ps) → StoresTrees m s₁ (ts ++ concatenation ps ∷ [])) →
      ((m : ℕ) (ts ps : List Tree) → length ts ≡ 0 → StoresTrees m s₁ (ts ++ ps) → StoresTrees m s₂ (ts ++ alternation ps ∷ [])) →
      StoresTrees limit s₂ (whole_level s.top ∷ [])
  represents_join b s s₁ s₂ r none f g =
      let B : List Tree = s.top.alternatives in
      let S : List Level → Type 0 = λ x. StoresTrees limit b.stack (trees_in x ++ (B ++ s.top.pieces)) in
      let from : length B ≡ b.top.pieces = omega (arith, ap (λ (m : Mark). m.pieces) r.top, ap (λ (x : List Level). length (trees_in x)) none) in
      g limit [] (B ++ concatenation s.top.pieces ∷ []) refl (f limit B s.top.pieces from (subst S none r.stored))
