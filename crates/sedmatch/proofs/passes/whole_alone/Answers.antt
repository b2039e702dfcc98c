use Rattle.sedmatch.proofs.Words.{rules, ◌-◌, length, arith, expression_tree, no_groups, Captures-none, no_groups_at, enters_nothing, TakesAtLeast}
use Rattle.sedpass.proofs.DecideLemmas.{depth_few}
use Rattle.sedmatch.proofs.passes.whole_alone.Goals as goal

pub returns : goal.returns
unfolding TakesAtLeast
returns c = λ e w s expr none spans.
    let bare = no_groups_at e.nodes e.groups expr none (length e.nodes - 1) (omega (arith, expr.arena.nonempty)) in
    search (rules, depth_few e e.groups expr, Captures-none (expression_tree e) bare w c.args.span.0 c.args.span.1 no_groups spans, enters_nothing (expression_tree e) w c.args.span.0 c.args.span.1 s bare)
