use Rattle.std.proofs.Common.{rules}
use Rattle.sedre.proofs.symbols.escaped_literal.Goals as goal

pub returns-in-49-to-57 : goal.returns-in-49-to-57
returns-in-49-to-57 c = search rules
