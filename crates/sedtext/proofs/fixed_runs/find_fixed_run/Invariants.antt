use Rattle.sedtext.proofs.Words.{◌+◌, ◌-◌, ◌<◌, ◌≤◌, CostsWithin, length, SetRepeats, TakesAtLeast, ℕ}
use Rattle.sedtext.proofs.fixed_runs.find_fixed_run.Given as goal

abbrev pub invariant-loop-start : goal.invariant-loop-start
invariant-loop-start l = record {
  after : l.from ≤ l.start;
  ahead : l.start ≤ l.seen;
  near : l.seen ≤ l.start + l.count;
  within : l.seen ≤ length l.text;
  cost : CostsWithin l.initial.steps l.steps l.seen l.from;
  counts : TakesAtLeast l.initial.steps l.steps (l.seen - l.from);
  copies : SetRepeats l.set l.text l.start l.seen;
  missed : (h : ℕ) → l.from ≤ h → h < l.start → SetRepeats l.set l.text h (h + l.count) → ⊥;
}

abbrev pub decreases-loop-start : goal.decreases-loop-start
decreases-loop-start l = length l.text + 1 - l.start
