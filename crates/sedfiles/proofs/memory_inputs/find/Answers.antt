use Rattle.std.proofs.Common.{◌∙◌, sym, arith}
use Rattle.sedfiles.proofs.MemoryFinding.{found_at}
use Rattle.sedfiles.proofs.memory_inputs.find.Goals as goal

pub returns-then-is_named : goal.returns-then-is_named
returns-then-is_named c =
    (omega arith, found_at _ c.loop-k.k c.index-files-k.result c.args.name.now (omega arith) c.index-files-k.is (sym c.is_named.ensures ∙ c.if-is_named.true) c.loop-k.invariant)
