use Rattle.std.proofs.Common.{◌≡◌, drop}
use Rattle.sedscript.specs.Pieces.{pieces_in}
use Rattle.sedacts.specs.SubstituteParts.{names_group}
use Rattle.sedacts.proofs.substitute.needs_groups.Given as goal

abbrev pub invariant-loop-part : goal.invariant-loop-part
invariant-loop-part l = names_group (pieces_in (drop l.part-index l.parts)) ≡ names_group (pieces_in l.parts)
