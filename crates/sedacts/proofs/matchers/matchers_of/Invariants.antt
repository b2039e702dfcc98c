use Rattle.std.proofs.Common.{◌≡◌, ◌≤◌, length, take, vec_capacity}
use Rattle.sedacts.specs.Fitting.{AllFit}
use Rattle.sedacts.proofs.matchers.matchers_of.Given as goal

abbrev pub invariant-loop-k : goal.invariant-loop-k
invariant-loop-k l = record {
  are : l.matchers.items ≡ take l.k l.script.expressions;
  fit : AllFit l.most_nodes l.matchers.items;
  room : length l.script.expressions ≤ vec_capacity l.matchers;
}
