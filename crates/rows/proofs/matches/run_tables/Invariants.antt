use Rattle.std.proofs.Common.{◌≡◌}
use Rattle.rows.proofs.matches.run_tables.Given as goal

abbrev pub invariant-sizes : goal.invariant-sizes
invariant-sizes l = l.scratch ≡ l.fn.scratch
