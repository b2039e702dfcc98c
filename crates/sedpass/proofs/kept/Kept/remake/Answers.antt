use Rattle.sedpass.proofs.Words.{arith, length, refl, rules, ◌*◌, ◌+◌, ◌-◌, ◌/◌, ◌<◌, ◌≡◌, TakesAtLeast, div-mul-le_self, lt-div-mul-add, SameShape}
use Rattle.sedpass.proofs.KeptLemmas.{edges_same, kept_passed}
use Rattle.sedpass.proofs.OwedLemmas.{again_cost}
use Rattle.sedpass.proofs.kept.Kept.remake.Goals as goal

-- the states are made again up to the end of the block
to_end : (c : goal.After-pass) → c.pass.new.self.region.to ≡ c.min-to.result
to_end c = c.pass.ensures.steady (grind (arith, div-mul-le_self c.args.place (c.args.table.now.room - 1), c.edge_state-offset.ensures.adds, c.empty.ensures))

pub returns-clause-keeps : goal.returns-clause-keeps
returns-clause-keeps c =
    let down = c.pass.ensures.down in
    let shape : SameShape c.args.table.now c.pass.new.table = search (rules, c.empty.ensures.shape, c.edge_state-offset.ensures.adds.shape, down.shape) in
    let edges = edges_same c.args.subject.prepared.now c.args.subject.text.now c.args.table.now c.pass.new.table c.args.self.now c.pass.new.self c.args.self.now.region.low c.pass.new.self.region.low shape down.edges down.same.root down.same.end (omega (arith, down.low)) c.requires.kept.edges in
    search (rules, kept_passed _ _ c.pass.new.table c.pass.new.self c.pass.new.self c.args.place c.pass.result down.passes edges (omega (arith, down.low, c.requires.low)) down.from refl refl refl refl refl, shape, down)

pub returns-clause-cost : goal.returns-clause-cost
returns-clause-cost c =
    let old = c.edge_state-offset.ensures in
    let after : c.args.place < c.args.place / (c.args.table.now.room - 1) * (c.args.table.now.room - 1) + (c.args.table.now.room - 1) = lt-div-mul-add (omega (arith, c.requires.kept.region.table.room.rows.some)) in
    let paid = again_cost (length c.args.subject.prepared.now.nodes) c.args.place c.min-to.result c.args.self.now.region.end _ c.edge_state-offset.new.steps _ (omega (arith, after, c.requires.place)) (omega arith) old.cost.1 (λ lt. (old.inside lt).1) c.pass.ensures.cost.1 in
    (omega (arith, old.cost.0, c.pass.ensures.cost.0), rw (to_end c) paid)

pub returns-clause-counts : goal.returns-clause-counts
unfolding TakesAtLeast
returns-clause-counts c = omega (arith, to_end c, c.edge_state-offset.ensures.cost.0, c.pass.ensures.counts)
