-- Examples of the limits of expressions, computed by the grammar: 600 is the greatest depth, and no more nodes may be
-- written out than are allowed (both this project's own).
use Rattle.std.proofs.Common.{◌++◌, None, refl}
use Rattle.std.specs.Prelude.{codes}
use Rattle.sedre.specs.declared.types.Kind.TheVariants.{Extended}
use Rattle.sedre.specs.declared.types.ExprReason.TheVariants.{TooManyNodes, TooDeep}
use Rattle.sedre.specs.Tokens.{token_at, front_interval}
use Rattle.sedre.specs.Grammar.{ExprFaulty}
use Rattle.examples.proofs.ComputedReading.{outcome, rest_of, faulty_with}
use Rattle.examples.proofs.ExampleWords.{times}
use Rattle.examples.proofs.ExampleWords.{Counts, counted}

-- Deep expressions: groups and repetitions of repetitions.

deepest_groups : Counts Extended (times 600 (codes "(") ++ codes "a" ++ times 600 (codes ")")) 601 600
unfolding outcome rest_of token_at
deepest_groups = counted refl

groups_too_deep : ExprFaulty Extended None (times 601 (codes "(") ++ codes "a" ++ times 601 (codes ")")) 65536 1203 TooDeep
unfolding outcome rest_of token_at
groups_too_deep = faulty_with refl

no_copy_of_deep_groups : Counts Extended (times 601 (codes "(") ++ codes "a" ++ times 601 (codes ")") ++ codes "{0}") 1 601
unfolding outcome rest_of token_at front_interval
no_copy_of_deep_groups = counted refl

deepest_stars : Counts Extended (codes "a" ++ times 600 (codes "*")) 601 0
unfolding outcome rest_of token_at
deepest_stars = counted refl

stars_too_deep : ExprFaulty Extended None (codes "a" ++ times 620 (codes "*")) 65536 621 TooDeep
unfolding outcome rest_of token_at
stars_too_deep = faulty_with refl

too_deep_before_too_many_nodes : ExprFaulty Extended None (codes "a" ++ times 601 (codes "*")) 1 602 TooDeep
unfolding outcome rest_of token_at
too_deep_before_too_many_nodes = faulty_with refl

-- Large expressions. What is under a {0} adds no nodes.

no_copy_of_many : Counts Extended (codes "x{255}{255}{255}{0}") 1 0
unfolding outcome rest_of token_at front_interval
no_copy_of_many = counted refl

many_copies_of_many : ExprFaulty Extended None (codes "(x{0,255}){255}") 65536 15 TooManyNodes
unfolding outcome rest_of token_at front_interval
many_copies_of_many = faulty_with refl

options_and_too_few_nodes : ExprFaulty Extended None (codes "x{0,255}") 763 8 TooManyNodes
unfolding outcome rest_of token_at front_interval
options_and_too_few_nodes = faulty_with refl
