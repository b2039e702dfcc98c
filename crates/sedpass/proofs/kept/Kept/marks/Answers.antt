use Rattle.sedpass.proofs.Words.{IsTrue, arith, ◌↔◌, ReachesEnd}
use Rattle.sedpass.proofs.KeptLemmas.{kept_mark, shown_as}
use Rattle.sedpass.proofs.kept.Kept.marks.Goals as goal

pub returns-clause-marked : goal.returns-clause-marked
returns-clause-marked c =
    let ready = c.ready.ensures in
    shown_as (λ r t. IsTrue c.get.result ↔ ReachesEnd c.args.subject.prepared.now.nodes c.args.subject.text.now r t c.args.x c.args.place) _ _ _ _ _ _ ready.keeps
    (kept_mark _ _ c.ready.new.table c.ready.new.self c.args.x c.args.place _ c.ends_row-ends.result c.get.result ready.keeps.kept c.requires.x ready.from (omega (arith, ready.to)) c.index.ensures c.ends_row-ends.ensures c.get.ensures.mark)
