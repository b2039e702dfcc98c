use Rattle.std.proofs.Common.{◌≡◌}
use Rattle.std.specs.Io.KnownBytes.{Keeps}
use Rattle.sedspace.proofs.adapters.ToWriterOutputs.write.Given as goal

abbrev pub invariant-tries : goal.invariant-tries
invariant-tries g l = (l.self.failed ≡ l.fn.self.failed) × Keeps (g.W.Write.contents l.fn.self.writer) (g.W.Write.contents l.self.writer)
