use Rattle.std.proofs.Common.{arith}
use Rattle.sedscript.proofs.ByteTables.{noted}
use Rattle.sedscript.proofs.transliteration.note.Goals as goal

pub returns : goal.returns
returns c = noted c.args.seen.now c.args.b c.from-at.result (let fits = c.ranges.b.fits in omega (arith, fits)) c.from-at.ensures
