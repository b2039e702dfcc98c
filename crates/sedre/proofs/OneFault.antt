-- A text has one first fault at most.
use Rattle.std.proofs.Common.{Bool, ◌≡◌, ℕ, ◌⊎◌, inl, inr, List, [], ◌∷◌, ◌++◌, Option, Some, None, refl, ap, subst, ◌∙◌, sym, append-nil, arith}
use Rattle.std.specs.List.{last_or}
use Rattle.sedre.specs.declared.types.Kind.{Kind}
use Rattle.sedre.specs.declared.types.ExprReason.{ExprReason}
use Rattle.sedre.specs.declared.types.ExprFault.{ExprFault}
use Rattle.sedre.specs.declared.syntax.NextToken.{NextToken}
use Rattle.sedre.specs.declared.syntax.NextToken.TheVariants.{Is, Bad}
use Rattle.sedre.specs.declared.syntax.Token.{Token}
use Rattle.sedre.specs.declared.syntax.Token.TheVariants.{Close}
use Rattle.sedre.specs.Tree.{Tree}
use Rattle.sedre.specs.Grammar.{depth, alternation, AreAlternatives, CutExpression, done, next_item, open_groups, FaultRow, bad, stray, unclosed, deep, large, FaultyWith}
use Rattle.sedre.proofs.Exclusive.{one_reading, go_on, open-append}

-- the place and the reason that both have
abbrev pub Same : (place more : ℕ) → (reason other : ExprReason) → Type 0
Same place more reason other = (place ≡ more) × (reason ≡ other)

pub turned : {p q : ℕ} {r s : ExprReason} → Same p q r s → Same q p s r
turned h = (sym h.0, sym h.1)

same_bad : (p q : ℕ) (r s : ExprReason) → ◌≡◌ {A = NextToken} (Bad (record { place = p; reason = r })) (Bad (record { place = q; reason = s })) → Same p q r s
same_bad p q r s e =
    let fault : ◌≡◌ {A = ExprFault} (record { place = p; reason = r }) (record { place = q; reason = s }) = cc in
    (ap (λ (f : ExprFault). f.place) fault, ap (λ (f : ExprFault). f.reason) fault)

-- the same alternatives nest equally deep
same_depth : {g h : ℕ} {is : List Token} {bs ds : List Tree} → AreAlternatives 0 is bs g → AreAlternatives 0 is ds h → depth (alternation bs) ≡ depth (alternation ds)
same_depth a b = ap (λ (x : List Tree). depth (alternation x)) (one_reading a b)

module _ (kind : Kind) (folded : Bool) (delimiter : Option ℕ) (text : List ℕ) (max_nodes : ℕ) where
  -- after the same tokens comes one fault
  same_row : {o mid p q : ℕ} {js : List Token} {r s : ExprReason} → FaultRow kind folded delimiter text max_nodes js o mid p r → FaultRow kind folded delimiter text max_nodes js o mid q s → Same p q r s
  same_row {p = p} {q = q} {r = r} {s = s} (bad f) (bad g) = same_bad p q r s (sym f ∙ g)
  same_row (bad f) (stray g) = absurd cc
  same_row (bad f) (unclosed g) = absurd cc
  same_row (bad f) (deep ds g d far) = absurd cc
  same_row (bad f) (large ds g d near far) = absurd cc
  same_row (stray f) (bad g) = absurd cc
  same_row (stray f) (stray g) = (refl, refl)
  same_row (stray f) (deep ds g d far) = absurd cc
  same_row (stray f) (large ds g d near far) = absurd cc
  same_row (unclosed f) (bad g) = absurd cc
  same_row (unclosed f) (unclosed g) = (refl, refl)
  same_row (deep bs f a far) (bad g) = absurd cc
  same_row (deep bs f a far) (stray g) = absurd cc
  same_row (deep bs f a far) (deep ds g d more) = (refl, refl)
  same_row (deep bs f a far) (large ds g d near more) = absurd (omega (arith, same_depth a d))
  same_row (large bs f a near far) (bad g) = absurd cc
  same_row (large bs f a near far) (stray g) = absurd cc
  same_row (large bs f a near far) (deep ds g d more) = absurd (omega (arith, same_depth a d))
  same_row (large bs f a near far) (large ds g d close more) = (refl, refl)

  -- a cut that goes on after another
  record After (before : Option Token) (is : List Token) (to : ℕ) (js : List Token) (mid : ℕ) : Type 0 where
    pub rest : List Token
    pub whole : is ≡ js ++ rest
    pub cut : CutExpression kind folded delimiter text (last_or before js) mid rest to

  -- of two cuts from one place one goes on after the other
  either : {before : Option Token} {at to mid : ℕ} {is js : List Token} → CutExpression kind folded delimiter text before at is to → CutExpression kind folded delimiter text before at js mid →
      After before is to js mid ⊎ After before js mid is to
  either {is = is} c done = inl (record { rest = is; whole = refl; cut = c })
  either {js = js} done (next_item f d) = inr (record { rest = js; whole = refl; cut = next_item f d })
  either {before = before} {to = to} {mid = mid} (next_item {next = n} {i = i} {is = is} g c) (next_item {next = m} {i = j} {is = js} f d) =
      let one : ◌≡◌ {A = NextToken} (Is i n) (Is j m) = sym g ∙ f in
      let same_item : i ≡ j = cc in
      let same_place : n ≡ m = cc in
      let C : Token → ℕ → Type 0 = λ x y. CutExpression kind folded delimiter text (Some x) y js mid in
      let d' : C i n = subst (λ (x : Token). C x n) (sym same_item) (subst (λ (y : ℕ). C j y) (sym same_place) d) in
      let D : Token → Type 0 = λ x. After before (i ∷ is) to (x ∷ js) mid ⊎ After before (x ∷ js) mid (i ∷ is) to in
      subst D same_item (elim (either c d') [
        | inl b ↦ inl (record { rest = b.rest; whole = ap (λ (r : List Token). i ∷ r) b.whole; cut = b.cut })
        | inr b ↦ inr (record { rest = b.rest; whole = ap (λ (r : List Token). i ∷ r) b.whole; cut = b.cut })
      ])

  -- no balanced cut goes on after a fault
  row_ends : {o n mid to p : ℕ} {js rest : List Token} {r : ExprReason} → FaultRow kind folded delimiter text max_nodes js o mid p r → CutExpression kind folded delimiter text (last_or None js) mid rest to →
      open_groups o rest ≡ Some n → (rest ≡ []) × (to ≡ mid)
  row_ends w done h = (refl, refl)
  row_ends (bad f) (next_item g c) h = absurd cc
  row_ends {n = n} (stray f) (next_item {i = i} {is = is} g c) h =
      let same : i ≡ Close = cc in
      let other : open_groups 0 (Close ∷ is) ≡ Some n = subst (λ (x : Token). open_groups 0 (x ∷ is) ≡ Some n) same h in
      absurd cc
  row_ends (unclosed f) (next_item g c) h = absurd cc
  row_ends (deep ds f d far) (next_item g c) h = absurd cc
  row_ends (large ds f d near far) (next_item g c) h = absurd cc

  -- the faults after two cuts, the one after the other, are one
  after_same : {o n mid to p q : ℕ} {is js : List Token} {r s : ExprReason} → After None is to js mid → open_groups 0 is ≡ Some n → open_groups 0 js ≡ Some o →
      FaultRow kind folded delimiter text max_nodes is n to p r → FaultRow kind folded delimiter text max_nodes js o mid q s → Same p q r s
  after_same {o = o} {n = n} {mid = mid} {to = to} {p = p} {is = is} {js = js} {r = r} b h k v w =
      let on : open_groups o b.rest ≡ Some n = ap (λ (x : Option ℕ). go_on x b.rest) (sym k) ∙ sym (open-append 0 js b.rest) ∙ ap (open_groups 0) (sym b.whole) ∙ h in
      let ends = row_ends w b.cut on in
      let items : is ≡ js = b.whole ∙ ap (λ (x : List Token). js ++ x) ends.0 ∙ append-nil js in
      let both : Some n ≡ Some o = sym h ∙ ap (open_groups 0) items ∙ k in
      let count : n ≡ o = cc in
      let W : List Token → ℕ → ℕ → Type 0 = λ x y z. FaultRow kind folded delimiter text max_nodes x y z p r in
      same_row (subst (λ (z : ℕ). W js o z) ends.1 (subst (λ (y : ℕ). W js y to) count (subst (λ (x : List Token). W x n to) items v))) w

  -- the first fault is one
  pub one_fault : {p q : ℕ} {r s : ExprReason} → FaultyWith kind folded delimiter text max_nodes p r → FaultyWith kind folded delimiter text max_nodes q s → Same p q r s
  one_fault f g = elim (either f.cut g.cut) [
    | inl b ↦ after_same b f.balanced g.balanced f.row g.row
    | inr b ↦ turned (after_same b g.balanced f.balanced g.row f.row)
  ]
