use Rattle.std.proofs.Common.{◌+◌, subst}
use Rattle.sedfiles.specs.MemorySinks.{FlushesFirst, SinkFiles}
use Rattle.sedfiles.proofs.memory_sinks.MemorySinksSinks.flush.Goals as goal

pub returns-clause-answered : goal.returns-clause-answered
returns-clause-answered c =
    subst (λ (s : SinkFiles). FlushesFirst s.outputs (s.created + 1) c.flush_first.result) c.self.view_is c.flush_first.ensures.answered
