use Rattle.sedtext.proofs.Words.{arith, bit_at-lt, bit_at_above, bit_at_and, bit_at_ones, bit_at_ones_above, common_steps, one_shl}
use Rattle.sedtext.proofs.counted.rows.lowest.Goals as goal

pub returns-then-count-lt64 : goal.returns-then-count-lt64
returns-then-count-lt64 c = grind (arith, common_steps, bit_at-lt, bit_at_and, bit_at_ones, bit_at_ones_above, one_shl)

pub returns-else-count-lt64-clause-none : goal.returns-else-count-lt64-clause-none
returns-else-count-lt64-clause-none c k ge = grind (arith, bit_at_above c.args.word 64)
