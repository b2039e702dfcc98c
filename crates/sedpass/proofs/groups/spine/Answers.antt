use Rattle.sedpass.proofs.Words.{rules, ◌∷◌, ◌++◌, ◌+◌, reverse, arith, Apart, Works, match_cost, nodes_in, tasks_after, tasks_cost, then_cost, all_of}
use Rattle.sedpass.proofs.KeptLemmas.{space_then}
use Rattle.sedpass.proofs.OwedLemmas.{begun_paid}
use Rattle.sedpass.proofs.SpineLemmas.{popped, works_left, works_none, works_then, works_turn}
use Rattle.sedpass.proofs.groups.spine.Goals.{After-turn_node}
use Rattle.sedpass.proofs.groups.spine.Goals as goal

pub nodes-init : goal.nodes-init
nodes-init c = search (rules, all_of, begun_paid (nodes_in c.args.subject) c.begin.new.self.region c.args.here, works_none)

-- the match is done as far as what comes in its place
turned : (c : After-turn_node) → Works c.args.subject (Apart c.nodes.at ∷ reverse c.nodes.room.tasks.items) c.nodes.decided (tasks_after c.turn_node.result ++ reverse c.nodes.room.tasks.items) c.turn_node.new.decided 1
    (match_cost (nodes_in c.args.subject) c.nodes.room.kept.region c.nodes.at + tasks_cost (nodes_in c.args.subject) (reverse c.nodes.room.tasks.items))
    (then_cost (nodes_in c.args.subject) c.turn_node.new.kept.region c.turn_node.result (tasks_cost (nodes_in c.args.subject) (reverse c.nodes.room.tasks.items))) c.nodes.steps c.turn_node.new.steps
turned c =
    let both = c.meets.ensures.0 c.if-not-meets.false in
    works_turn _ _ _ _ _ _ _ _ _ c.facts.result _ _ _ _ both.0 c.nodes.invariant.works.ready c.look-node.ensures.cost.1 c.look-node.ensures.cost.0 c.turn_node.ensures.turned
    c.facts.ensures.facts both.1 c.turn_node.ensures.decided c.turn_node.ensures.few

pub returns-then-not-meets-clause-works : goal.returns-then-not-meets-clause-works
returns-then-not-meets-clause-works c =
    let works = c.nodes.invariant.works in
    works_then _ _ _ _ _ _ _ 0 1 1 _ _ _ _ _ _ (omega arith) works (works_left c.args.subject c.nodes.at _ c.facts.result c.nodes.decided _ _ c.nodes.steps (omega arith) works.ready c.facts.ensures.facts (search rules) works.decided)

pub returns-in-Done-clause-works : goal.returns-in-Done-clause-works
returns-in-Done-clause-works c = works_then _ _ _ _ _ _ _ 0 1 1 _ _ _ _ _ _ (omega arith) c.nodes.invariant.works (rw c.in-Done.is at (turned (goal.at.returns-in-Done-clause-works c).After-turn_node))

pub nodes-preserved-in-One : goal.nodes-preserved-in-One
nodes-preserved-in-One c =
    record {
      keeps = search (rules, space_then, c.turn_node.ensures.desk, c.nodes.invariant.keeps);
      ends = search (rules, c.turn_node.ensures.turned.goes);
      room = search rules;
      works = works_then _ _ _ _ _ _ _ 0 1 0 _ _ _ _ _ _ (omega arith) c.nodes.invariant.works (rw c.in-One.is at (turned (goal.at.nodes-preserved-in-One c).After-turn_node));
    }

pub nodes-smaller : goal.nodes-smaller
nodes-smaller c = search (rules, (turned (goal.at.nodes-smaller c).After-turn_node).less, popped, c.push_reserved.ensures.items)

pub nodes-preserved : goal.nodes-preserved
nodes-preserved c =
    record {
      keeps = search (rules, space_then, c.turn_node.ensures.desk, c.nodes.invariant.keeps);
      ends = search (rules, c.turn_node.ensures.turned.goes);
      room = search rules;
      works = rw (popped _ _ _ c.push_reserved.ensures.items) (works_then _ _ _ _ _ _ _ 0 1 0 _ _ _ _ _ _ (omega arith) c.nodes.invariant.works (rw c.in-Two.is at (turned (goal.at.nodes-preserved c).After-turn_node)));
    }

pub returns-in-Done-clause-room : goal.returns-in-Done-clause-room
returns-in-Done-clause-room c = search (rules, space_then, c.turn_node.ensures.desk, c.nodes.invariant.keeps)
