use Rattle.std.proofs.Common.{◌≡◌, ℕ, ◌≤◌, ◌-◌, List, [], ◌∷◌, Option, Some, length, take, drop, get_or, sym, ap, ◌∙◌, arith}
use Rattle.std.proofs.lemmas.List.{take_rest}
use Rattle.sedre.specs.Tokens.{front_symbol}
use Rattle.sedre.specs.declared.types.Kind.{Kind}
use Rattle.sedre.specs.declared.syntax.Symbol.{Symbol}
use Rattle.sedre.proofs.symbols.symbol_at.Goals as goal

-- the symbol of a text that begins with two bytes, whatever follows
of_two : (kind : Kind) (delimiter : Option ℕ) (text : List ℕ) (r : Option (Symbol × ℕ)) → 2 ≤ length text →
    ((rest : List ℕ) → front_symbol kind delimiter (get_or text 0 0 ∷ get_or text 1 0 ∷ rest) ≡ r) → r ≡ front_symbol kind delimiter text
of_two kind delimiter [] r two h = absurd (omega arith)
of_two kind delimiter (b ∷ []) r two h = absurd (omega arith)
of_two kind delimiter (b ∷ c ∷ rest) r two h = sym (h rest)

pub returns-in-len2-up-clause-symbol : goal.returns-in-len2-up-clause-symbol
returns-in-len2-up-clause-symbol c =
    let left = take (length c.args.text.now - c.args.at) (drop c.args.at c.args.text.now) in
    of_two c.args.kind c.args.delimiter left (Some c.before-in-len2-up.result) c.in-len2-up.len_at_least c.before-in-len2-up.ensures.symbol
    ∙ ap (λ bytes. front_symbol c.args.kind c.args.delimiter bytes) (take_rest c.args.text.now c.args.at)
