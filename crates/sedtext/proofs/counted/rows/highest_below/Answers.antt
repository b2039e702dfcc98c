use Rattle.sedtext.proofs.Words.{◌+◌, ◌∙◌, arith, bit_at_above, sym}
use native.Mathlib.Numerals.{unary_clauses}
use Rattle.sedtext.proofs.counted.rows.highest_below.Goals as goal

pub returns-else-low-eq0-clause-clear : goal.returns-else-low-eq0-clause-clear
returns-else-low-eq0-clause-clear c i least less =
    sym (c.lowest-low.ensures.inside i less) ∙ bit_at_above c.lowest-low.result (c.ilog2.result + 1) i (simp unary_clauses (omega (arith, c.ilog2.ensures.next_power_gt))) least
