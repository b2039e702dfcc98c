use Rattle.sedmatch.proofs.Words.{ℕ, ◌≤◌, ◌↔◌, List, drop, length, Node, ChainLeads, StretchSpans}
use Rattle.sedmatch.proofs.stretches.stretch_of.Given as goal

abbrev pub invariant-loop-x : goal.invariant-loop-x
invariant-loop-x l = record {
  within : l.x ≤ length l.chain;
  stretch : (nodes : List Node) (w : List ℕ) (i j : ℕ) → ChainLeads nodes w (drop l.x l.chain) i j ↔ StretchSpans l.stretch l.stretch.ends w i j;
}
