use Rattle.std.proofs.Common.{ℕ, Option, ap, sym}
use Rattle.sedscript.specs.Strings.{exceeds}
use Rattle.sedscript.proofs.replacement.exceeds.Goals as goal

pub returns-in-Some : goal.returns-in-Some
returns-in-Some c = ap (λ (o : Option ℕ). exceeds o c.args.k) (sym c.in-Some.is)
