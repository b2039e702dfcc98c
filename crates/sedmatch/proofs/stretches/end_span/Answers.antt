use Rattle.sedmatch.proofs.Words.{arith}
use Rattle.sedmatch.proofs.StretchLemmas.{end_one}
use Rattle.sedmatch.proofs.stretches.end_span.Goals as goal

pub returns-clause-span : goal.returns-clause-span
returns-clause-span c =
    end_one c.args.stretch.now c.args.text.now c.args.from c.match-stretch.rest c.max.result c.match-stretch-2.start c.in_ok-place.place c.len-2.result (grind (arith, c.match-stretch.branch)) (λ i. grind (arith, c.match-stretch-2.branch))
    c.max.ensures c.len-2.ensures.is c.in_ok-place.ensures.first c.in_ok-place.ensures.inside
