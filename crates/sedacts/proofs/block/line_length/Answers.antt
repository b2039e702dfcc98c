use Rattle.sedacts.proofs.BlockLemmas.{no_newline_more}
use Rattle.sedacts.proofs.block.line_length.Goals as goal

pub bytes-preserved : goal.bytes-preserved
bytes-preserved c = no_newline_more c.args.bytes.now c.bytes.place c.bytes-test.true c.bytes.invariant c.if-bytes-place-eq10.false
