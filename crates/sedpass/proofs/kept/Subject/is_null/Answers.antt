use Rattle.sedpass.proofs.Words.{false}
use Rattle.sedpass.proofs.FactLemmas.{null_shows}
use Rattle.sedpass.proofs.kept.Subject.is_null.Goals as goal

pub returns-clause-null : goal.returns-clause-null
returns-clause-null c =
    let kind = c.kind_of-kind in
    rw c.null_at.ensures.null (null_shows false c.args.self.prepared.now kind.result c.args.self.text.now c.args.place (kind.ensures.begin, rw c.len.ensures.is at kind.ensures.end) c.args.x c.requires.inside)
