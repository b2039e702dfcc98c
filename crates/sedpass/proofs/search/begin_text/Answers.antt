use Rattle.sedpass.proofs.Words.{arith, length, mul-le-mul_left, ◌*◌, ◌+◌, ◌-◌, mul-sub}
use Rattle.sedpass.proofs.SearchLemmas.{owed_trying}
use Rattle.sedpass.proofs.search.begin_text.Goals as goal

pub returns-clause-owed : goal.returns-clause-owed
returns-clause-owed c =
    let places = 2 * length c.args.subject.text.now + 1 in
    let few = mul-le-mul_left {m = places - c.if-seeking.seeking} {n = places} (40 * length c.args.subject.prepared.now.nodes) (omega arith) in
    rw (owed_trying (length c.args.subject.prepared.now.nodes) (length c.args.subject.text.now) 0 (record { kept = c.begin.new.self; tried = c.if-seeking.seeking }) (omega arith)) (omega (arith, mul-sub, few))
