use Rattle.std.proofs.Common.{◌≡◌, ◌+◌, ◌-◌, ◌≤◌, ℕ, List, length}
use Rattle.sedspace.specs.Gathering.{Gathered}
use Rattle.sedspace.specs.Stream.{ReadsForBytes}
use Rattle.sedspace.proofs.lines.Lines.gather.Given as goal

abbrev pub invariant-loop-self : goal.invariant-loop-self
invariant-loop-self g l =
    (g.R.ByteSource.failures l.self.source ≡ g.R.ByteSource.failures l.fn.self.source) × (length l.space.bytes ≤ l.space.limit) × (g.R.ByteSource.reference l.self.source ≡ g.R.ByteSource.reference l.fn.self.source) × (part : List ℕ) × (taken : List ℕ) × Gathered g.R.ByteSource.remaining l.fn.self l.self l.fn.space l.space part taken
    × ReadsForBytes g.R.ByteSource.remaining g.R.ByteSource.reads l.fn.self.source l.self.source 0

abbrev pub decreases-loop-self : goal.decreases-loop-self
decreases-loop-self g l = (l.space.limit - length l.space.bytes) + (1 - length l.self.ahead)
