use Rattle.sedpass.proofs.Words.{refl, arith, inr, get_or-replicate}
use Rattle.sedpass.proofs.classes.split.Goals as goal

pub loop-byte-init : goal.loop-byte-init
loop-byte-init c = record {
  few = omega arith;
  wide = refl;
  numbering = record { known = λ k inside. inr (get_or-replicate 512 k 256 0 inside); apart = λ k o inside inside' e below. absurd (omega (arith, below)) };
  given = λ b less. absurd (omega (arith, less));
}
