use Rattle.sedpass.proofs.Words.{ap, arith, length, mul-le-mul_left, rules, ◌-◌, ◌≤◌, Matches-forward, expression_tree}
use Rattle.sedpass.proofs.SearchLemmas.{hit_cost, later_answer, owed_later, owed_trying, tired_cost, tired_each, trials_each, tried_left}
use Rattle.sedpass.specs.declared.search.Trials.TheVariants.{Tired}
use Rattle.sedpass.proofs.search.next_match.Goals as goal

pub returns-in-Hit-clause-answer : goal.returns-in-Hit-clause-answer
returns-in-Hit-clause-answer c =
    search (rules, c.in-Hit.ensures.made.answer, Matches-forward (expression_tree c.args.subject.prepared.now) c.args.subject.text.now)

pub returns-in-Hit-clause-cost : goal.returns-in-Hit-clause-cost
returns-in-Hit-clause-cost c =
    let made = c.in-Hit.ensures.made in
    let on = Matches-forward (expression_tree c.args.subject.prepared.now) c.args.subject.text.now _ _ made.answer.0.spans in
    let low : c.args.seeking.now.tried ≤ length c.args.subject.text.now = grind (arith, made.enough) in
    let paid = hit_cost _ _ _ _ _ _ _ c.args.seeking.now (record c.args.seeking.now { tried = c.try_all.new.tried })
    c.requires.ready.forward_one.table.expr.arena.nonempty made.answer.0.after on made.answer.1 low (omega (arith, made.few, low)) c.requires.ready.serves.kept.region.inside made.cost.1 in
    (made.cost.0, paid)

pub returns-in-Hit-clause-each : goal.returns-in-Hit-clause-each
returns-in-Hit-clause-each c =
    let made = c.in-Hit.ensures.made in
    let on = Matches-forward (expression_tree c.args.subject.prepared.now) c.args.subject.text.now _ _ made.answer.0.spans in
    (made.cost.0, trials_each _ _ _ _ _ _ _ _ c.requires.ready.forward_one.table.expr.arena.nonempty c.requires.from (omega (arith, on, made.answer.1)) made.few made.cost.1)

pub returns-in-Nothing-clause-cost : goal.returns-in-Nothing-clause-cost
returns-in-Nothing-clause-cost c =
    let made = c.in-Nothing.ensures.made in
    let n = length c.args.subject.text.now in
    let low : c.args.seeking.now.tried ≤ n = grind (arith, made.enough) in
    let left = tried_left _ n _ _ _ _ _ _ low (omega (arith, made.few, low)) made.cost.1 in
    rw (owed_trying _ _ c.args.from c.args.seeking.now low) (made.cost.0, omega (arith, left, mul-le-mul_left (n - c.args.from) c.requires.ready.forward_one.table.expr.arena.nonempty))

pub returns-in-Nothing-clause-each : goal.returns-in-Nothing-clause-each
returns-in-Nothing-clause-each c =
    let made = c.in-Nothing.ensures.made in
    (made.cost.0, trials_each _ _ _ _ _ _ _ _ c.requires.ready.forward_one.table.expr.arena.nonempty c.requires.from (omega arith) made.few made.cost.1)

pub returns-in-Tired-clause-answer : goal.returns-in-Tired-clause-answer
returns-in-Tired-clause-answer c =
    search (rules, later_answer, c.in-Tired.ensures.made.answer, c.next_kept.ensures.next.answer)

pub returns-in-Tired-clause-cost : goal.returns-in-Tired-clause-cost
returns-in-Tired-clause-cost c =
    let made = c.in-Tired.ensures.made in
    let next = c.next_kept.ensures.cost in
    let paid = tired_cost (length c.args.subject.prepared.now.nodes) (length c.args.subject.text.now) c.args.from c.in-Tired.later c.try_all.new.tried c.args.steps.now c.try_all.new.steps c.next_kept.new.steps _ c.next_kept.result c.args.seeking.now
    c.requires.ready.forward_one.table.expr.arena.nonempty made.answer.0 made.answer.1 c.requires.ready.serves.kept.region.inside (λ over. grind (arith, made.enough over)) (λ at. made.none (ap Tired at)) (λ low. omega (arith, made.few, low)) made.cost.1 next.1 in
    rw (owed_later (length c.args.subject.prepared.now.nodes) (length c.args.subject.text.now) (record { kept = c.next_kept.new.kept; tried = 18446744073709551615 }) c.next_kept.result (omega arith)) (omega (arith, made.cost.0, next.0), paid)

pub returns-in-Tired-clause-each : goal.returns-in-Tired-clause-each
returns-in-Tired-clause-each c =
    let made = c.in-Tired.ensures.made in
    let next = c.next_kept.ensures.each in
    (omega (arith, made.cost.0, next.0), tired_each _ _ _ _ _ _ _ _ _ c.requires.ready.forward_one.table.expr.arena.nonempty made.answer.0 (λ at. made.none (ap Tired at)) made.answer.1 made.few made.cost.1 next.1)
