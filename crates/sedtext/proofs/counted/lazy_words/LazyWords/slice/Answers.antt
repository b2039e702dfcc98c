use Rattle.sedtext.proofs.Words.{arith, cases_lt, common_steps, get_or_past}
use Rattle.sedtext.proofs.WordLemmas.{padded-get}
use Rattle.sedtext.proofs.counted.lazy_words.LazyWords.slice.Goals as goal

pub returns-clause-words : goal.returns-clause-words
returns-clause-words c k lt = grind (arith, common_steps, get_or_past, padded-get, cases_lt k c.min-2.result)
