use Rattle.sedpass.proofs.FactLemmas.{range_is}
use Rattle.sedpass.proofs.nodes.Prepared.low.Goals as goal

pub returns-clause-range : goal.returns-clause-range
returns-clause-range c mirrored = range_is mirrored _ c.facts.ensures.expr _ _ c.requires.inside c.facts.ensures.facts.low
