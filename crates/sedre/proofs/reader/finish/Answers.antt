use Rattle.std.proofs.Common.{arith, refl}
use Rattle.sedre.specs.Stacks.{whole_level}
use Rattle.sedre.proofs.Ended.{finished_expr, finished}
use Rattle.sedre.proofs.reader.finish.Goals as goal

pub returns-clause-expr : goal.returns-clause-expr
returns-clause-expr c =
    let limit = c.requires.0 in
    let s = c.requires.1 in
    let kept = c.in_default.ensures limit s c.requires.2 c.requires.3 in
    finished_expr limit c.join.new.self.stack (whole_level s.top) c.index-part.result.now s.opened c.join.new.self.opened kept.0 c.index-part.ensures (omega arith) kept.1 c.requires.4 c.requires.5

pub returns-clause-ok : goal.returns-clause-ok
returns-clause-ok c = λ limit s r none.
    let kept = c.in_default.ensures limit s r none in
    finished limit s c.join.new.self.stack c.index-part.result.now _ c.join.new.self.opened kept.0 c.index-part.ensures (omega arith) (omega arith) kept.1 refl
