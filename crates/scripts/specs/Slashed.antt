-- Expressions between slashes.
use Rattle.std.specs.Prelude.{◌≡◌, ◌≤◌, ◌<◌, ℕ, ◌+◌, List, ◌∷◌, ◌++◌, false, Some, length}
use Rattle.sedre.specs.declared.types.Kind.TheVariants.{Basic}
use Rattle.sedre.specs.Tree.{Tree, size}
use Rattle.sedre.specs.Grammar.{depth, ReadsAs}
use Rattle.sedre.specs.Brackets.{first_delimiter}

-- The text is a basic expression with so many groups, and a slash directly behind it is the first one that isn't escaped and
-- stands in no bracket expression. An empty text is none, since it stands for the expression last used.
pub record IsSlashed (re : List ℕ) (e : Tree) (groups : ℕ) : Type 0 where
  pub some : 0 < length re
  pub ends : (place : ℕ) (rest : List ℕ) → first_delimiter 47 0 place (re ++ 47 ∷ rest) ≡ Some (place + length re)
  pub reads : ReadsAs Basic false (Some 47) re e groups
  pub shallow : depth e ≤ 600
  pub small : size e ≤ 65536
