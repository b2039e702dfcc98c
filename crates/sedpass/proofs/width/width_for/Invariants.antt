use Rattle.sedpass.proofs.Words.{◌*◌, ◌-◌, ◌<◌, ◌≤◌}
use Rattle.sedpass.proofs.width.width_for.Given as goal

abbrev pub invariant-loop-width : goal.invariant-loop-width
invariant-loop-width l = record {
  least : 16 ≤ l.width;
  most : l.width ≤ 1022;
  no_wider : 16 < l.width → 4 * l.width * l.width ≤ l.max_text;
}

abbrev pub decreases-loop-width : goal.decreases-loop-width
decreases-loop-width l = 512 - l.width
