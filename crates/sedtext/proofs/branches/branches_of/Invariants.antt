use Rattle.sedtext.proofs.Words.{◌⊎◌, All, AnyLeads, expression_tree, IsWithin, LeadsFrom, length, List, Matches, ℕ}
use Rattle.sedtext.proofs.branches.branches_of.Given as goal

abbrev pub invariant-loop-turn : goal.invariant-loop-turn
invariant-loop-turn l =
    ((w : List ℕ) (i j : ℕ) → Matches (expression_tree l.expr) w i j → AnyLeads l.expr.nodes w l.branches.items i ⊎ LeadsFrom l.expr.nodes w l.chain.items i)
    × All (IsWithin (length l.expr.nodes)) l.chain.items
