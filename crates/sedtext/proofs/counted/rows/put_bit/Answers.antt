use Rattle.sedtext.proofs.Words.{arith, bit_at_clear_other, bit_at_clear_same, bit_at_set_other, bit_at_set_same, w64}
use Rattle.sedtext.proofs.counted.rows.put_bit.Goals as goal

pub returns-then-mark : goal.returns-then-mark
returns-then-mark c = grind (arith, bit_at_set_same w64, bit_at_set_other w64)

pub returns-else-mark : goal.returns-else-mark
returns-else-mark c = grind (arith, bit_at_clear_same w64, bit_at_clear_other w64)
