use Rattle.std.proofs.Common.{IfSome, None, Option, Some, rules, ℕ, ◌≤◌}
use Rattle.std.specs.Option.{unwrap_or}
use Rattle.rows.proofs.matches.run_over.Goals as goal

-- a place that is given, or the first one
given : (from : Option ℕ) (n : ℕ) → unwrap_or from 0 ≤ n → IfSome from (λ place. place ≤ n)
given None n low = search rules
given (Some place) n low = low

pub run_tables-requires-clause-from : goal.run_tables-requires-clause-from
run_tables-requires-clause-from c = given c.args.from _ (rw c.unwrap_or-place.ensures at c.if-place-text.false)
