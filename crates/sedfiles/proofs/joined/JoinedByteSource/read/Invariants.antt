use Rattle.std.proofs.Common.{◌≡◌, ◌<◌, length}
use Rattle.sedfiles.proofs.JoinLemmas.{Passed}
use Rattle.sedfiles.proofs.joined.JoinedByteSource.read.Given as goal

-- files were opened, and none of them gave a byte
abbrev pub invariant-loop-count : goal.invariant-loop-count
invariant-loop-count g l =
    (0 < length l.buf) × (g.I.Inputs.failures l.self.inputs ≡ g.I.Inputs.failures l.fn.self.inputs) × (g.I.Inputs.reference l.self.inputs ≡ g.I.Inputs.reference l.fn.self.inputs) × (l.self.start ≡ l.fn.self.start) × Passed g.I.Inputs.current g.I.Inputs.ahead l.fn.self l.self

abbrev pub decreases-loop-count : goal.decreases-loop-count
decreases-loop-count g l = length l.self.names
