use Rattle.sedpass.proofs.Words.{List, [], ◌∷◌, reverse, KeepsGroupRoom, Works, nodes_in, tasks_cost, weights, Apart, GroupTask, root_of}
use Rattle.sedpass.proofs.groups.decide.Given as goal

abbrev pub invariant-all : goal.invariant-all
invariant-all l = record {
  keeps : KeepsGroupRoom l.subject l.initial.tables l.tables l.initial.room l.room;
  works :
      let whole : List GroupTask = Apart (record { node = (root_of l.subject.prepared.now); start = l.fn.start; stop = l.fn.stop }) ∷ [] in
      let rest = reverse l.room.tasks.items in
      Works l.subject whole l.initial.decided rest l.decided 0 (tasks_cost (nodes_in l.subject) whole) (tasks_cost (nodes_in l.subject) rest) l.initial.steps l.steps;
}

abbrev pub decreases-all : goal.decreases-all
decreases-all l = weights (nodes_in l.subject) (reverse l.room.tasks.items)
