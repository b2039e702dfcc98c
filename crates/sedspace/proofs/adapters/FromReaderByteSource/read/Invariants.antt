use Rattle.std.proofs.Common.{◌≡◌}
use Rattle.std.specs.Io.KnownBytes.{Keeps}
use Rattle.sedspace.proofs.adapters.FromReaderByteSource.read.Given as goal

abbrev pub invariant-tries : goal.invariant-tries
invariant-tries g l = (l.self.failed ≡ l.fn.self.failed) × Keeps (g.R.Read.remaining l.fn.self.reader) (g.R.Read.remaining l.self.reader)
