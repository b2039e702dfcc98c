use Rattle.sedtext.proofs.Closing.{◌%◌, ◌++◌, ◌<◌, arith, Each1-from_get_or, get_or, get_or-map-range_with_len, lanes_looked_up, map, range_with_len, refl, SwzOk-from_below, take, w8, ℕ}
use Rattle.sedtext.proofs.counted.nibbles.look_up.Goals as goal

pub swizzle : goal.swizzle
swizzle c = SwzOk-from_below w8 16 2 32 0 c.args.lanes refl (omega arith) (Each1-from_get_or (λ j. j < 16) c.args.lanes 0 (λ k lt. c.requires k (omega arith)))

pub returns : goal.returns
returns c =
    let half = take 16 c.args.table.now in
    let wide = λ (k : ℕ) (lt : k < 32). get_or-map-range_with_len (λ i. get_or (half ++ half) (i % 16) 0) 0 32 k k 0 lt (omega arith) in
    lanes_looked_up c.args.table.now (map (λ i. get_or (half ++ half) (i % 16) 0) (range_with_len 0 32)) c.args.lanes (omega arith) (refl, wide) c.fits-lanes.0 c.requires
