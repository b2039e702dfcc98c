use Rattle.sedtext.proofs.Closing.{◌/◌, ◌^◌, ◌∙◌, ◌≡◌, and_mask, arith, bit_and, Each1-get_or, Fits, get_or, lanes_with, lanes_zip, marked_lane, nonzero_few, nonzero_lane, w8}
use Rattle.sedtext.proofs.counted.nibbles.Nibbles.marked.Goals as goal

pub look_up-rows-requires : goal.look_up-rows-requires
look_up-rows-requires c k lt = omega (arith, (lanes_with bit_and c.args.lanes 15 c.fits-lanes.0).1 k lt, and_mask (get_or c.args.lanes k 0) 4)

pub look_up-bits-requires : goal.look_up-bits-requires
look_up-bits-requires c k lt =
    omega (arith, (lanes_with (λ a b. a / 2 ^ b) c.args.lanes 4 c.fits-lanes.0).1 k lt, (Each1-get_or (Fits w8) c.args.lanes k 0 (omega (arith, c.fits-lanes.0)) c.fits-lanes.1).fits)

pub returns-clause-few : goal.returns-clause-few
returns-clause-few c = nonzero_few _ (lanes_zip bit_and c.look_up-rows.result c.look_up-bits.result c.look_up-rows.ensures.0 c.look_up-bits.ensures.0).0

pub returns-clause-marked : goal.returns-clause-marked
returns-clause-marked c k lt =
    let both = lanes_zip bit_and c.look_up-rows.result c.look_up-bits.result c.look_up-rows.ensures.0 c.look_up-bits.ensures.0 in
    let byte = get_or c.args.lanes k 0 in
    let small = (Each1-get_or (Fits w8) c.args.lanes k 0 (omega (arith, c.fits-lanes.0)) c.fits-lanes.1).fits in
    let low = (lanes_with bit_and c.args.lanes 15 c.fits-lanes.0).1 k lt ∙ and_mask byte 4 in
    let high : get_or _ k 0 ≡ byte / 16 = (lanes_with (λ a b. a / 2 ^ b) c.args.lanes 4 c.fits-lanes.0).1 k lt in
    let lane = marked_lane c.args.self.now.rows byte _ _ _ small (rw low at (c.look_up-rows.ensures.1 k lt)) (rw high at (c.look_up-bits.ensures.1 k lt)) (both.1 k lt) in
    let some = nonzero_lane _ both.0 k lt in
    (λ h. lane.0 (some.0 h), λ h. some.1 (lane.1 h))
