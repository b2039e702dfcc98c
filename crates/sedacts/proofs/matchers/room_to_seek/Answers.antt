use Rattle.sedmatch.specs.declared.occurrences.Occurrences.{Occurrences}
use Rattle.sedacts.proofs.DecidingGroups.{le_zero}
use Rattle.sedacts.proofs.Fitting.{none_absurd, ok_with, sought, sought_fit}
use Rattle.sedacts.proofs.matchers.room_to_seek.Goals as goal

pub most_nodes-most-requires-clause-fit : goal.most_nodes-most-requires-clause-fit
most_nodes-most-requires-clause-fit c =
    rw (c.nodes.ensures.value, c.deref.ensures.value)
    (sought_fit c.args.script.now.expressions c.args.limits.now.nodes c.args.matchers.now.items c.requires.seek)

pub returns : goal.returns
returns c =
    let same = sought c.args.script.now.expressions c.args.limits.now.nodes c.args.matchers.now.items c.requires.seek in
    ok_with c.new-2.result (λ (o : Occurrences) has some. has) (rw (c.space.ensures.value, c.deref-2.ensures.value, same) at c.new-2.ensures)

pub new-requires-clause-text : goal.new-requires-clause-text
new-requires-clause-text c = le_zero

pub new-requires-clause-nodes : goal.new-requires-clause-nodes
new-requires-clause-nodes c = c.most_nodes-most.ensures.few

pub new-requires-2-clause-nodes : goal.new-requires-2-clause-nodes
new-requires-2-clause-nodes c = c.most_nodes-most.ensures.few

pub most_nodes-most-requires-clause-few : goal.most_nodes-most-requires-clause-few
most_nodes-most-requires-clause-few c = c.nodes.ensures.most

pub new-requires-clause-some_node : goal.new-requires-clause-some_node
new-requires-clause-some_node c = c.most_nodes-most.ensures.some

pub new-requires-clause-fit : goal.new-requires-clause-fit
new-requires-clause-fit c = λ k e is. none_absurd is

pub new-requires-2-clause-text : goal.new-requires-2-clause-text
new-requires-2-clause-text c = c.space.ensures.most

pub new-requires-2-clause-some_node : goal.new-requires-2-clause-some_node
new-requires-2-clause-some_node c = c.most_nodes-most.ensures.some

pub new-requires-2-clause-fit : goal.new-requires-2-clause-fit
new-requires-2-clause-fit c = λ k e is. c.most_nodes-most.ensures.most k e (rw (c.deref-2.ensures.value, ← c.deref.ensures.value) at is)
