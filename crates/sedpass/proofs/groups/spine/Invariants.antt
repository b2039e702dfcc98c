use Rattle.sedpass.proofs.Words.{◌+◌, ◌≤◌, ◌∷◌, reverse, vec_capacity, EndsRegion, KeepsGroupDesk, Works, match_cost, nodes_in, tasks_cost, weights, Apart}
use Rattle.sedpass.proofs.groups.spine.Given as goal

abbrev pub invariant-nodes : goal.invariant-nodes
invariant-nodes l = record {
  keeps : KeepsGroupDesk l.subject l.initial.tables l.tables l.initial.room.kept l.room.kept;
  ends : EndsRegion l.subject l.room.kept.region l.at;
  room : vec_capacity l.initial.room.tasks ≤ vec_capacity l.room.tasks;
  works : Works l.subject (Apart l.fn.here ∷ reverse l.initial.room.tasks.items) l.initial.decided (Apart l.at ∷ reverse l.room.tasks.items) l.decided 0
      (tasks_cost (nodes_in l.subject) (Apart l.fn.here ∷ reverse l.initial.room.tasks.items)) (match_cost (nodes_in l.subject) l.room.kept.region l.at + tasks_cost (nodes_in l.subject) (reverse l.room.tasks.items)) l.initial.steps l.steps;
}

abbrev pub decreases-nodes : goal.decreases-nodes
decreases-nodes l = weights (nodes_in l.subject) (Apart l.at ∷ reverse l.room.tasks.items)
