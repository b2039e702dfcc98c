use Rattle.std.proofs.Common.{◌≡◌, length, take, arith, length-take-le}
use Rattle.std.proofs.lemmas.Simd.{take_more_put_chunk}
use Rattle.sedspace.proofs.space.copy_block.Goals as goal

pub returns-clause-bytes : goal.returns-clause-bytes
returns-clause-bytes c =
    let block = take 64 c.args.text.now in
    let long : length block ≡ 64 = length-take-le 64 c.args.text.now c.requires.inside in
    take_more_put_chunk c.args.end c.args.held.now block _ (omega (arith, long)) c.requires.room
