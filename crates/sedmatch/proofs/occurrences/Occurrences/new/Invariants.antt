use Rattle.sedmatch.proofs.Words.{◌≤◌, vec_capacity}
use Rattle.sedmatch.proofs.OccurrenceLemmas.{AreFirst}
use Rattle.sedmatch.proofs.occurrences.Occurrences.new.Given as goal

abbrev pub invariant-loop-x : goal.invariant-loop-x
invariant-loop-x l = AreFirst l.fn.matchers l.x l.own.items × (l.count ≤ vec_capacity l.own)
