use Rattle.sedmatch.proofs.Words.{◌∙◌, rules, sym}
use Rattle.sedpass.proofs.DecideLemmas.{depth_few}
use Rattle.sedmatch.proofs.passes.groups_with.Goals as goal

pub returns-then-groups-eq0-clause-answered : goal.returns-then-groups-eq0-clause-answered
returns-then-groups-eq0-clause-answered c =
    let e = c.args.subject.prepared.now in
    c.whole_alone.ensures e c.args.subject.text.now c.args.steps.now c.requires.desk.reverse_one.expr (sym c.groups.ensures ∙ c.if-groups-eq0.true) c.requires.spans

pub returns-clause-answered : goal.returns-clause-answered
returns-clause-answered c = search (rules, depth_few c.args.subject.prepared.now c.args.subject.prepared.now.groups c.requires.desk.reverse_one.expr)
