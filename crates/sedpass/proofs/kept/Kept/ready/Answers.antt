use Rattle.sedpass.proofs.Words.{arith, length, ◌*◌, ◌+◌, ◌-◌, ◌/◌, ◌<◌, ◌≤◌, ◌⊎◌, lt-div-mul-add}
use Rattle.sedpass.proofs.OwedLemmas.{owed_again, owed_made}
use Rattle.sedpass.proofs.kept.Kept.ready.Goals.{then-at-self, else-at-self+then-at-self-2, then-at-self-2-via-then-at-self-2, then-at-self-2-via-else-at-self-2+then-self-at, else-at-self+else-at-self-2+else-self-at}
use Rattle.sedpass.proofs.kept.Kept.ready.Goals as goal

pub returns-clause-cost : goal.returns-clause-cost
returns-clause-cost c =
    let m = length c.args.subject.prepared.now.nodes in
    let width = c.args.table.now.room - 1 in
    let place = c.args.at in
    let old = c.args.self.now.region in
    let s = c.args.steps.now in
    elim c.if-at-self.branch [
      | then-at-self w ↦
          let now = w.make.ensures in
          rw (w.self-is, w.steps-is) (owed_made m old w.make.new.self.region place s w.make.new.steps w.if-at-self.true c.requires.place now.low now.from now.to now.keeps.same.end now.cost.0 now.cost.1)
      | else-at-self+then-at-self-2 w ↦
          let out : (place < old.from) ⊎ (old.to ≤ place) = grind (arith, w.then-at-self-2.branch) in
          let now = w.remake.ensures in
          let after : place < place / width * width + width = lt-div-mul-add (omega (arith, c.requires.kept.region.table.room.rows.some)) in
          rw (w.self-is, w.steps-is) (owed_again m old w.remake.new.self.region place s w.remake.new.steps w.if-at-self.false out now.low now.keeps.same.end now.from (omega (arith, c.requires.place, now.to, after)) now.cost)
      | else-at-self+else-at-self-2+else-self-at w ↦ rw (w.self-is, w.steps-is) (omega arith)
    ]
