-- What a reader has read so far.
use Rattle.std.proofs.Common.{Bool, ◌≡◌, ◌≢◌, ℕ, suc, ◌<◌, ◌≤◌, List, [], ◌∷◌, ◌++◌, length, true, Option, Some, None, refl, ap, subst, ◌∙◌, arith}
use Rattle.std.specs.List.{last_or}
use Rattle.sedre.specs.declared.types.Kind.{Kind}
use Rattle.sedre.specs.declared.types.ExprReason.{ExprReason}
use Rattle.sedre.specs.declared.types.ExprReason.TheVariants.{StrayClose, OpenGroup, TooDeep, TooManyNodes}
use Rattle.sedre.specs.declared.syntax.NextToken.TheVariants.{Is, Ends, Bad}
use Rattle.sedre.specs.declared.syntax.Token.{Token}
use Rattle.sedre.specs.declared.syntax.Token.TheVariants.{Byte, Open, Close, Bar, Repeat, AtBegin, AtEnd}
use Rattle.sedre.specs.Tree.{Tree, byte_of, size}
use Rattle.sedre.specs.Grammar.{depth, alternation, repetition, none, byte, begin_anchor, end_anchor, CutExpression, done, next_item, open_groups, ReadsAs, bad, stray, unclosed, deep, large, FaultyWith}
use Rattle.sedre.specs.Tokens.{token_at, is_repeatable}
use Rattle.sedre.specs.Stacks.{Level, Nesting, no_nesting, step, with_last, all_alternatives}
use Rattle.sedre.proofs.Sound.{NestedAs, base, only as only_pieces, nested_piece, nested_bar, nested_repeat, nested_open, nested_close, nested_whole}
use Rattle.sedre.proofs.Exclusive.{open-append, go_on}
use Rattle.sedre.proofs.Repeating.{repeat_follows}

-- after the tokens up to this place, this is the state
pub record Reading (kind : Kind) (folded : Bool) (delimiter : Option ℕ) (text : List ℕ) (before : Option Token) (at : ℕ) (s : Nesting) : Type 0 where
  pub tokens : List Token
  pub cut : CutExpression kind folded delimiter text None 0 tokens at
  pub last : last_or None tokens ≡ before
  pub balanced : open_groups 0 tokens ≡ Some (length s.below)
  pub stands : NestedAs tokens s.opened s.top s.below
  pub ready : is_repeatable before ≡ true → s.top.pieces ≢ []

pub reading_start : (kind : Kind) (folded : Bool) (delimiter : Option ℕ) (text : List ℕ) → Reading kind folded delimiter text None 0 no_nesting
reading_start kind folded delimiter text = record { tokens = []; cut = done; last = refl; balanced = refl; stands = base (only_pieces none); ready = λ h. absurd cc }

pub cut-snoc : {kind : Kind} {folded : Bool} {delimiter : Option ℕ} {text : List ℕ} {before : Option Token} {at to next : ℕ} {is : List Token} {i : Token} →
    CutExpression kind folded delimiter text before at is to → token_at kind folded delimiter text (last_or before is) to ≡ Is i next → CutExpression kind folded delimiter text before at (is ++ i ∷ []) next
cut-snoc done f = next_item f done
cut-snoc (next_item g c) f = next_item g (cut-snoc c f)

last-snoc : (before : Option Token) (is : List Token) (i : Token) → last_or before (is ++ i ∷ []) ≡ Some i
last-snoc before [] i = refl
last-snoc before (j ∷ is) i = last-snoc (Some j) is i

not_empty : (ts : List Tree) (t : Tree) → ts ++ t ∷ [] ≢ []
not_empty [] t h = cc
not_empty (u ∷ ts) t h = cc

step_with_last : (f : Tree → Tree) (ts : List Tree) → ts ≢ [] → with_last f ts ≢ []
step_with_last f [] ne h = ne refl
step_with_last f (t ∷ []) ne h = cc
step_with_last f (t ∷ u ∷ us) ne h = cc

module _ (kind : Kind) (folded : Bool) (delimiter : Option ℕ) (text : List ℕ) where
  -- one token more
  pub reading_step : {before : Option Token} {at next : ℕ} {i : Token} {s : Nesting} → Reading kind folded delimiter text before at s →
      token_at kind folded delimiter text before at ≡ Is i next → (i ≡ Close → s.below ≢ []) → Reading kind folded delimiter text (Some i) next (step i s)
  reading_step {before = before} {at = at} {next = next} {i = i} {s = s} r f closes =
      let f' : token_at kind folded delimiter text (last_or None r.tokens) at ≡ Is i next = ap (λ (x : Option Token). token_at kind folded delimiter text x at) r.last ∙ f in
      let c = cut-snoc r.cut f' in
      let l = last-snoc None r.tokens i in
      let o : open_groups 0 (r.tokens ++ i ∷ []) ≡ open_groups (length s.below) (i ∷ []) =
      open-append 0 r.tokens (i ∷ []) ∙ ap (λ (x : Option ℕ). go_on x (i ∷ [])) r.balanced in
      by_token i s r.tokens f closes c l o r.stands r.ready
    where
      closing : (opened : ℕ) (top : Level) (below : List Level) (is : List Token) → below ≢ [] → CutExpression kind folded delimiter text None 0 (is ++ Close ∷ []) next → last_or None (is ++ Close ∷ []) ≡ Some Close →
          open_groups 0 (is ++ Close ∷ []) ≡ open_groups (length below) (Close ∷ []) → NestedAs is opened top below →
          Reading kind folded delimiter text (Some Close) next (step Close (record { opened = opened; top = top; below = below }))
      closing opened top [] is ne c l o st = absurd (ne refl)
      closing opened top (k ∷ ks) is ne c l o st =
          record { tokens = is ++ Close ∷ []; cut = c; last = l; balanced = o; stands = nested_close st; ready = λ _. not_empty k.pieces _ }

      by_token : (i : Token) (s : Nesting) (is : List Token) → token_at kind folded delimiter text before at ≡ Is i next → (i ≡ Close → s.below ≢ []) →
          CutExpression kind folded delimiter text None 0 (is ++ i ∷ []) next → last_or None (is ++ i ∷ []) ≡ Some i → open_groups 0 (is ++ i ∷ []) ≡ open_groups (length s.below) (i ∷ []) →
          NestedAs is s.opened s.top s.below → (is_repeatable before ≡ true → s.top.pieces ≢ []) → Reading kind folded delimiter text (Some i) next (step i s)
      by_token (Byte members) s is f closes c l o st ready = record { tokens = is ++ Byte members ∷ []; cut = c; last = l; balanced = o; stands = nested_piece st byte; ready = λ _. not_empty s.top.pieces (byte_of members) }
      by_token Open s is f closes c l o st ready = record { tokens = is ++ Open ∷ []; cut = c; last = l; balanced = o; stands = nested_open st; ready = λ h. absurd cc }
      by_token Bar s is f closes c l o st ready = record { tokens = is ++ Bar ∷ []; cut = c; last = l; balanced = o; stands = nested_bar st; ready = λ h. absurd cc }
      by_token AtBegin s is f closes c l o st ready = record { tokens = is ++ AtBegin ∷ []; cut = c; last = l; balanced = o; stands = nested_piece st begin_anchor; ready = λ h. absurd cc }
      by_token AtEnd s is f closes c l o st ready = record { tokens = is ++ AtEnd ∷ []; cut = c; last = l; balanced = o; stands = nested_piece st end_anchor; ready = λ h. absurd cc }
      by_token (Repeat least most) s is f closes c l o st ready =
          let ne : s.top.pieces ≢ [] = ready (repeat_follows kind folded delimiter text before at f).0 in
          record { tokens = is ++ Repeat least most ∷ []; cut = c; last = l; balanced = o; stands = nested_repeat least most st ne; ready = λ _. step_with_last (repetition least most) s.top.pieces ne }
      by_token Close s is f closes c l o st ready = closing s.opened s.top s.below is (closes refl) c l o st

  -- the whole text
  pub reading_whole : {before : Option Token} {at : ℕ} {s : Nesting} → Reading kind folded delimiter text before at s → token_at kind folded delimiter text before at ≡ Ends →
      s.below ≡ [] → ReadsAs kind folded delimiter text (alternation (all_alternatives s.top)) s.opened
  reading_whole {at = at} {s = s} r f e =
      let S : List Level → Type 0 = λ x. NestedAs r.tokens s.opened s.top x in
      record {
        tokens = r.tokens;
        to = at;
        cut = r.cut;
        ends = ap (λ (x : Option Token). token_at kind folded delimiter text x at) r.last ∙ f;
        alternatives = all_alternatives s.top;
        grammar = nested_whole (subst S e r.stands);
        is = refl;
      }

  -- the faults
  pub reading_bad : {before : Option Token} {at : ℕ} {s : Nesting} {place : ℕ} {reason : ExprReason} (max_nodes : ℕ) → Reading kind folded delimiter text before at s →
      token_at kind folded delimiter text before at ≡ Bad (record { place = place; reason = reason }) → FaultyWith kind folded delimiter text max_nodes place reason
  reading_bad {at = at} {s = s} max_nodes r f =
      record { tokens = r.tokens; to = at; cut = r.cut; opened = length s.below; balanced = r.balanced; row = bad (ap (λ (x : Option Token). token_at kind folded delimiter text x at) r.last ∙ f) }

  pub reading_stray : {before : Option Token} {at next : ℕ} {s : Nesting} (max_nodes : ℕ) → Reading kind folded delimiter text before at s →
      token_at kind folded delimiter text before at ≡ Is Close next → s.below ≡ [] → FaultyWith kind folded delimiter text max_nodes at StrayClose
  reading_stray {at = at} max_nodes r f e =
      record { tokens = r.tokens; to = at; cut = r.cut; opened = 0; balanced = r.balanced ∙ ap (λ (x : List Level). Some (length x)) e; row = stray (ap (λ (x : Option Token). token_at kind folded delimiter text x at) r.last ∙ f) }

  pub reading_unclosed : {before : Option Token} {at : ℕ} {s : Nesting} (max_nodes : ℕ) → Reading kind folded delimiter text before at s →
      token_at kind folded delimiter text before at ≡ Ends → 0 < length s.below → FaultyWith kind folded delimiter text max_nodes (length text) OpenGroup
  reading_unclosed {at = at} {s = s} max_nodes r f more_than =
      let f' = ap (λ (x : Option Token). token_at kind folded delimiter text x at) r.last ∙ f in
      by_levels s.below r.balanced more_than f'
    where
      by_levels : (ls : List Level) → open_groups 0 r.tokens ≡ Some (length ls) → 0 < length ls → token_at kind folded delimiter text (last_or None r.tokens) at ≡ Ends → FaultyWith kind folded delimiter text max_nodes (length text) OpenGroup
      by_levels [] o h g = absurd (omega (arith, h))
      by_levels (k ∷ ks) o h g = record { tokens = r.tokens; to = at; cut = r.cut; opened = suc (length ks); balanced = o; row = unclosed g }

  pub reading_limits : {before : Option Token} {at : ℕ} {s : Nesting} (max_nodes : ℕ) → Reading kind folded delimiter text before at s →
      token_at kind folded delimiter text before at ≡ Ends → s.below ≡ [] →
      (600 < depth (alternation (all_alternatives s.top)) → FaultyWith kind folded delimiter text max_nodes (length text) TooDeep)
      × (depth (alternation (all_alternatives s.top)) ≤ 600 → max_nodes < size (alternation (all_alternatives s.top)) → FaultyWith kind folded delimiter text max_nodes (length text) TooManyNodes)
  unfolding reading_whole
  reading_limits {at = at} {s = s} max_nodes r f e =
      let w = reading_whole r f e in
      let b = r.balanced ∙ ap (λ (x : List Level). Some (length x)) e in (
        λ d. record { tokens = r.tokens; to = at; cut = r.cut; opened = 0; balanced = b; row = deep (all_alternatives s.top) w.ends w.grammar d },
        λ d n. record { tokens = r.tokens; to = at; cut = r.cut; opened = 0; balanced = b; row = large (all_alternatives s.top) w.ends w.grammar d n },
      )
