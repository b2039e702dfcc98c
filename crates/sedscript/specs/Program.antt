use Rattle.std.specs.Prelude.{ℕ, List, Bool}
use Rattle.sedre.specs.Tree.{WrittenExpression}
use Rattle.sedscript.specs.Types.{Command, Substitution}

-- a script as its callers see it
pub record Program : Type 0 where
  pub commands : List Command
  pub expressions : List WrittenExpression
  pub texts : List (List ℕ)
  pub substitutions : List Substitution
  pub tables : List (List ℕ)
  pub rfiles : List (List ℕ)
  pub wfiles : List (List ℕ)
  pub quiet : Bool
  pub max_nodes : ℕ
