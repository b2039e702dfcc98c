use Rattle.sedtext.proofs.Words.{◌+◌, arith, get_or-chunk, get_or_from_slice_get, slice_get-get_or}
use Rattle.sedtext.proofs.counted.sieve.Fixed.marks.Goals as goal

pub returns : goal.returns
returns c =
    let w = c.args.bytes.now in
    let from = c.args.place + c.args.self.now.offset in (
      c.marked.ensures.few,
      λ k lt.
          let byte = get_or-chunk from 32 w k 0 lt in
          grind (arith, c.marked.ensures.marked k lt, byte, get_or_from_slice_get, slice_get-get_or w (from + k) 0 (omega arith)),
    )
