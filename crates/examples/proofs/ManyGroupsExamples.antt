-- Examples of expressions of as many openings of groups as one likes.
use Rattle.std.proofs.Common.{◌≡◌, ℕ, zero, suc, ◌+◌, ◌<◌, false, List, [], ◌∷◌, drop, Option, Some, None, refl, ◌∙◌, ap, subst, arith}
use Rattle.std.specs.Prelude.{replicate}
use Rattle.std.proofs.lemmas.List.{length-replicate}
use Rattle.std.specs.List.{last_or}
use Rattle.sedre.specs.declared.types.Kind.TheVariants.{Extended}
use Rattle.sedre.specs.declared.types.ExprReason.TheVariants.{OpenGroup}
use Rattle.sedre.specs.declared.syntax.Token.{Token}
use Rattle.sedre.specs.declared.syntax.Token.TheVariants.{Open}
use Rattle.sedre.specs.declared.syntax.Symbol.TheVariants.{Opening}
use Rattle.sedre.specs.declared.syntax.NextToken.TheVariants.{Is, Ends}
use Rattle.sedre.specs.Grammar.{CutExpression, done, next_item, open_groups, unclosed, ExprFaulty}
use Rattle.sedre.specs.Tokens.{token_at, front_symbol}

-- so many openings, as bytes and as items
abbrev openings : ℕ → List ℕ
openings n = replicate n 40

abbrev items_of : ℕ → List Token
items_of n = replicate n Open

each_opening : (n k : ℕ) → k < n → (rest : List ℕ) × (drop k (openings n) ≡ 40 ∷ rest)
each_opening zero k below = absurd (omega arith)
each_opening (suc n) zero below = (openings n, refl)
each_opening (suc n) (suc k) below = each_opening n k (omega arith)

none_after : (n : ℕ) → drop n (openings n) ≡ []
none_after zero = refl
none_after (suc n) = none_after n

opening_first : (rest : List ℕ) → front_symbol Extended None (40 ∷ rest) ≡ Some (Opening, 1)
opening_first [] = refl
opening_first (b ∷ bs) = refl

opens_at : (text : List ℕ) (before : Option Token) (at : ℕ) (rest : List ℕ) → drop at text ≡ 40 ∷ rest → token_at Extended false None text before at ≡ Is Open (at + 1)
unfolding token_at
opens_at text before at rest there = rw (there, opening_first rest) refl

ends_at : (text : List ℕ) (before : Option Token) (at : ℕ) → drop at text ≡ [] → token_at Extended false None text before at ≡ Ends
unfolding token_at
ends_at text before at there = rw there refl

-- the text from a place on is cut into openings
cut_at : (text : List ℕ) (n at to : ℕ) (before : Option Token) → at + n ≡ to → ((k : ℕ) → k < to → (rest : List ℕ) × (drop k text ≡ 40 ∷ rest)) → CutExpression Extended false None text before at (items_of n) to
cut_at text zero at to before e each = subst (CutExpression Extended false None text before at []) (omega (arith, e)) done
cut_at text (suc n) at to before e each =
    let here = each at (omega (arith, e)) in
    next_item (opens_at text before at here.0 here.1) (cut_at text n (at + 1) to (Some Open) (omega (arith, e)) each)

all_open : (n m : ℕ) → open_groups m (items_of n) ≡ Some (m + n)
all_open zero m = ap (λ (k : ℕ). Some k) (omega arith)
all_open (suc n) m = all_open n (suc m) ∙ ap (λ (k : ℕ). Some k) (omega arith)

-- The end of the text is named.
many_open : (n most : ℕ) → ExprFaulty Extended None (openings (suc n)) most (suc n) OpenGroup
many_open n most =
    let text = openings (suc n) in
    subst (λ (place : ℕ). ExprFaulty Extended None text most place OpenGroup) (length-replicate {A = ℕ} (suc n) 40) (record {
      tokens = items_of (suc n);
      to = suc n;
      cut = cut_at text (suc n) 0 (suc n) None (omega arith) (each_opening (suc n));
      opened = suc n;
      balanced = all_open (suc n) 0 ∙ ap (λ (k : ℕ). Some k) (omega arith);
      row = unclosed (ends_at text (last_or None (items_of (suc n))) (suc n) (none_after (suc n)));
    })

hundred_thousand_open : ExprFaulty Extended None (replicate 100000 40) 65536 100000 OpenGroup
hundred_thousand_open = many_open 99999 65536
