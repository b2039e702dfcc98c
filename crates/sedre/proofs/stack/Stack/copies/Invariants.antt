use Rattle.std.proofs.Common.{ℕ, ◌≡◌, ◌+◌, ◌++◌, ◌∷◌, [], List, vec_len}
use Rattle.sedre.specs.Tree.{Tree}
use Rattle.sedre.specs.Grammar.{with_copies}
use Rattle.sedre.specs.Stacks.{StoresTrees}
use Rattle.sedre.proofs.stack.Stack.copies.Given as goal

abbrev pub invariant-loop : goal.invariant-loop
invariant-loop l = record {
  made : vec_len l.self.parts ≡ vec_len l.initial.self.parts + l.counter;
  trees : (limit : ℕ) (ts : List Tree) (a : Tree) → StoresTrees limit l.initial.self (ts ++ a ∷ []) → StoresTrees limit l.self ((ts ++ with_copies l.counter a []) ++ a ∷ []);
}
