use Rattle.std.proofs.Common.{◌+◌, arith}
use Rattle.sedacts.proofs.BlockLemmas.{count_more, count_rest}
use Rattle.sedacts.proofs.block.count_lines.Goals as goal

pub parts-preserved : goal.parts-preserved
parts-preserved c = record {
  within = omega arith;
  count = let more = count_more c.args.bytes.now c.parts.place (c.parts.place + 224) (omega arith) in omega (arith, more, c.parts.invariant.count, c.count_few.ensures);
}

pub returns : goal.returns
returns c = let rest = count_rest c.args.bytes.now c.parts.place c.parts.invariant.within in omega (arith, rest, c.parts.invariant.count, c.count_few-2.ensures)
