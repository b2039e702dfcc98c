use Rattle.sedpass.proofs.Words.{IsTrue, arith, ◌<◌, ◌↔◌, IsCounted, TakesAtLeast, ends_shown, ReachesEnd}
use Rattle.sedpass.proofs.KeptLemmas.{holds_on, kept_mark, mark_tells}
use Rattle.sedpass.proofs.kept.Kept.seek_in.Goals.{After-get}
use Rattle.sedpass.proofs.kept.Kept.seek_in.Goals as goal

-- the mark that is read
mark : (c : After-get) → c.loop-place.place < c.args.self.now.region.to → IsTrue c.get.result ↔ ReachesEnd c.args.subject.prepared.now.nodes c.args.subject.text.now c.args.self.now.region.root
    (ends_shown c.args.table.now.way.all_starts c.args.self.now.region.end) c.args.x c.loop-place.place
mark c before = kept_mark _ _ c.args.table.now c.args.self.now _ _ _ c.ends_row-ends.result c.get.result c.requires.kept c.requires.x (omega (arith, c.loop-place.invariant.order.0, c.requires.from)) before c.index.ensures c.ends_row-ends.ensures c.get.ensures.mark

pub returns-then-get-marked-clause-found : goal.returns-then-get-marked-clause-found
returns-then-get-marked-clause-found c before = (mark_tells _ c.get.result c.args.marked (mark (goal.at.returns-then-get-marked-clause-found c).After-get before)).0 c.if-get-marked.true

pub loop-place-preserved : goal.loop-place-preserved
unfolding TakesAtLeast IsCounted
loop-place-preserved c =
    let old = c.loop-place.invariant in
    record {
      order = omega arith;
      passed = holds_on _ c.args.from c.loop-place.place old.passed ((mark_tells _ c.get.result c.args.marked (mark (goal.at.loop-place-preserved c).After-get c.loop-place-test.true)).1 c.if-get-marked.false);
      cost = omega (arith, old.cost, c.get.ensures.cost);
      counts = omega (arith, old.counts, old.order, c.get.ensures.cost);
    }

pub returns-clause-passed : goal.returns-clause-passed
returns-clause-passed c q after before = c.loop-place.invariant.passed q after (omega (arith, before, c.loop-place-test.false))
