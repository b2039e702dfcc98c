use Rattle.std.proofs.Common.{◌≡◌, ◌∙◌, ◌+◌, ◌-◌, ℕ, List, Bool, Option, Some, sym, ap, subst, arith, length, drop, rules}
use Rattle.std.proofs.lemmas.List.{length-take}
use Rattle.sedre.specs.declared.syntax.NextToken.{NextToken}
use Rattle.sedre.specs.Tokens.{repeats, token_at, token_for, front_symbol}
use Rattle.sedre.specs.declared.syntax.NextToken.TheVariants.{Is}
use Rattle.sedre.specs.declared.syntax.Token.{Token}
use Rattle.sedre.specs.declared.syntax.Token.TheVariants.{Byte}
use Rattle.sedre.specs.declared.syntax.Symbol.{Symbol}
use Rattle.sedre.specs.declared.syntax.Symbol.TheVariants.{Literal}
use Rattle.sedre.specs.Sets.{matching, only}
use Rattle.sedre.specs.declared.types.Kind.{Kind}
use Rattle.sedre.specs.Finished.{IsTokenAfter}
use Rattle.sedre.proofs.Bounds.{interval_after}
use Rattle.sedre.proofs.tokens.token_at.Goals as goal

-- the token of a literal byte, whatever the set of its bytes was made by
token_of_literal : (kind : Kind) (folded : Bool) (delimiter : Option ℕ) (text : List ℕ) (before : Option Token) (at w b : ℕ) (s : Symbol) (bytes : List Bool) →
    bytes ≡ matching folded (only b) → Some (s, w) ≡ front_symbol kind delimiter (drop at text) → s ≡ Literal b →
    Is (Byte bytes) (at + w) ≡ token_at kind folded delimiter text before at
unfolding token_at
token_of_literal kind folded delimiter text before at w b s bytes is here e =
    ap (λ (m : List Bool). Is (Byte m) (at + w)) is
    ∙ ap (λ (x : Option (Symbol × ℕ)). token_for kind folded delimiter text before at x) (ap (λ (u : Symbol). Some (u, w)) (sym e) ∙ here)

pub returns-in-Interval-clause-after : goal.returns-in-Interval-clause-after
returns-in-Interval-clause-after c =
    let here : c.repeats-in-Interval.result ≡ repeats c.is_repeatable-may.result c.args.at _ = c.repeats-in-Interval.ensures ∙ ap (λ (h : NextToken). repeats c.is_repeatable-may.result c.args.at h) c.interval_token.ensures in
    let w = c.in-Some.ensures.width in
    subst (λ (h : NextToken). IsTokenAfter c.args.at (length c.args.text.now) h) (sym here)
    (interval_after c.interval_at-interval.result c.is_repeatable-may.result c.args.at (c.args.at + c.in-Some.width) (length c.args.text.now) _ (omega (arith, w.0)) (omega (arith, w.1)) c.interval_at-interval.ensures.within
    (omega (arith, w.1, length-take (length c.args.text.now - (c.args.at + c.in-Some.width)) (drop (c.args.at + c.in-Some.width) c.args.text.now))))

pub returns-in-Literal-clause-item : goal.returns-in-Literal-clause-item
returns-in-Literal-clause-item c =
    token_of_literal c.args.kind c.args.folded c.args.delimiter c.args.text.now c.args.before c.args.at c.in-Some.width c.in-Literal.b _ _ (search rules) c.in-Some.ensures.symbol c.in-Literal.is
