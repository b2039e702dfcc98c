-- Lemmas that close goals of functions, which name them all in `lib.rt`.
use Rattle.sedmatch.proofs.Words.{Matches-forward, run_forward, space_again}
use Rattle.sedmatch.proofs.OccurrenceLemmas.{answer_found, further_found, further_none, one_more}
use Rattle.sedmatch.proofs.StretchLemmas.{first_forward, first_within, follow_on}

pub ruleset closing = (first_forward, follow_on, Matches-forward, answer_found, first_within, further_found, further_none, one_more, run_forward, space_again)
