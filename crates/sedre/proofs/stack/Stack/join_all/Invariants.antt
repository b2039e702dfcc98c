use Rattle.std.proofs.Common.{ℕ, ◌≡◌, ◌<◌, ◌++◌, List, length, vec_len}
use Rattle.sedre.specs.Stacks.{StoresTrees}
use Rattle.sedre.specs.Tree.{Tree}
use Rattle.sedre.proofs.Stacked.{Partly}
use Rattle.sedre.proofs.stack.Stack.join_all.Given as goal

abbrev pub invariant-loop-self : goal.invariant-loop-self
invariant-loop-self l = record {
  some : l.from < vec_len l.self.parts;
  trees : (limit : ℕ) (ts ps : List Tree) → length ts ≡ l.from → StoresTrees limit l.initial.self (ts ++ ps) → Partly l.alternatives limit l.self ts ps;
}

abbrev pub decreases-loop-self : goal.decreases-loop-self
decreases-loop-self l = vec_len l.self.parts
