use Rattle.sedtext.proofs.FewLemmas.{AllGathered}
use Rattle.sedtext.proofs.counted.set_finder.members_of.Given as goal

abbrev pub invariant-loop-byte : goal.invariant-loop-byte
invariant-loop-byte l = AllGathered l.set l.byte l.few
