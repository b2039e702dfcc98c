use Rattle.std.proofs.Common.{arith}
use Rattle.std.proofs.lemmas.Grind.{elements}
use Rattle.sedre.proofs.packed.number_among.Goals as goal

pub returns-in_err-found-clause-found : goal.returns-in_err-found-clause-found
returns-in_err-found-clause-found c = grind (arith, elements)

pub returns-then-same-clause-number : goal.returns-then-same-clause-number
returns-then-same-clause-number c = grind (arith, elements)

pub returns-else-same-clause-found : goal.returns-else-same-clause-found
returns-else-same-clause-found c = grind (arith, elements)
