use Rattle.std.proofs.Common.{◌+◌, arith}
use Rattle.sedre.specs.Sets.{is_between}
use Rattle.sedre.proofs.ByteLemmas.{filled_more, filled_all, between_true, between_false}
use Rattle.sedre.proofs.byte_set.ByteSet.range.Goals as goal

pub loop-b-preserved : goal.loop-b-preserved
loop-b-preserved c =
    filled_more (is_between c.args.first c.args.last) c.loop-b.b c.loop-b.set c.insert.new.self c.loop-b.invariant
    (between_true c.args.first c.args.last c.loop-b.b c.loop-b.auto.b c.loop-b-test.true) c.insert.ensures

pub returns-2 : goal.returns-2
returns-2 c =
    filled_all (is_between c.args.first c.args.last) (c.loop-b.b + 1) c.insert.new.self
    (λ k above. between_false c.args.first c.args.last k (omega arith))
    (filled_more (is_between c.args.first c.args.last) c.loop-b.b c.loop-b.set c.insert.new.self c.loop-b.invariant
    (between_true c.args.first c.args.last c.loop-b.b c.loop-b.auto.b c.loop-b-test.true) c.insert.ensures)
