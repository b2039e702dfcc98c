use Rattle.std.proofs.Common.{rules, arith}
use Rattle.std.proofs.lemmas.Grind.{elements}
use Rattle.sedre.proofs.packed.number_of.Goals as goal

pub returns-clause-number : goal.returns-clause-number
returns-clause-number c = grind (arith, elements)

pub returns-clause-known : goal.returns-clause-known
returns-clause-known c = search rules
