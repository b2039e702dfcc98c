use Rattle.std.proofs.Common.{◌≡◌, ◌<◌, ◌≤◌, ℕ, Some, length}
use Rattle.std.specs.Prelude.{slice_get}
use Rattle.sedre.specs.Tree.{WrittenExpression}
use Rattle.sedacts.proofs.matchers.most_nodes.Given as goal

abbrev pub invariant-loop-matcher : goal.invariant-loop-matcher
invariant-loop-matcher l = record {
  some : 1 ≤ l.most;
  few : l.most ≤ 65536;
  most : (i : ℕ) (e : WrittenExpression) → i < l.matcher-index → slice_get l.matchers i ≡ Some e → length e.nodes ≤ l.most;
}
