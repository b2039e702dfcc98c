use Rattle.std.proofs.Common.{ℕ, ◌≡◌, ◌+◌, ◌-◌, ◌++◌, ◌∷◌, ◌&&◌, [], List, nat_eq, vec_len}
use Rattle.sedre.specs.Tree.{Tree}
use Rattle.sedre.specs.Grammar.{with_copies, optional}
use Rattle.sedre.specs.Stacks.{StoresTrees}
use Rattle.sedre.proofs.stack.Stack.nest.Given as goal

abbrev pub invariant-loop-held : goal.invariant-loop-held
invariant-loop-held l = record {
  left : vec_len l.self.parts + l.held ≡ vec_len l.fn.self.parts;
  trees : (limit : ℕ) (ts : List Tree) (a : Tree) → StoresTrees limit l.fn.self ((ts ++ with_copies l.count a []) ++ a ∷ []) →
      StoresTrees limit l.self ((ts ++ with_copies (l.count - l.held) a []) ++ optional l.held a (l.first && nat_eq l.held l.count) ∷ []);
}
