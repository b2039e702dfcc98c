use Rattle.std.proofs.Common.{◌*◌, ◌+◌, ap, arith}
use Rattle.sedacts.specs.Run.{RunState}
use Rattle.sedengine.specs.Passing.{counted_block}
use Rattle.sedengine.proofs.Passes.{le_mul, turns_fit}
use Rattle.sedengine.proofs.machine.Machine.count_block.Goals as goal

pub overflow_add-self : goal.overflow_add-self
overflow_add-self c =
    let turns = turns_fit c.self.inside c.args.self.now (c.args.block.lines * (c.args.block.reached + 1)) c.self.view_is c.requires.turns in
    let limit = ap (λ (e : RunState). e.limits.turns) c.self.view_is in
    let lines = le_mul c.args.block.lines c.args.block.reached in
    omega (arith, turns, lines, c.self.invariant.number, limit, c.turns_fit.ensures.fit)

pub overflow_add-self-2 : goal.overflow_add-self-2
overflow_add-self-2 c = omega (arith, c.requires.few)

pub overflow_mul-self : goal.overflow_mul-self
overflow_mul-self c =
    let turns = turns_fit c.self.inside c.args.self.now (c.args.block.lines * (c.args.block.reached + 1)) c.self.view_is c.requires.turns in
    let limit = ap (λ (e : RunState). e.limits.turns) c.self.view_is in
    omega (arith, turns, limit, c.turns_fit.ensures.fit)

pub overflow_add-self-3 : goal.overflow_add-self-3
overflow_add-self-3 c =
    let turns = turns_fit c.self.inside c.args.self.now (c.args.block.lines * (c.args.block.reached + 1)) c.self.view_is c.requires.turns in
    let limit = ap (λ (e : RunState). e.limits.turns) c.self.view_is in
    omega (arith, turns, limit, c.turns_fit.ensures.fit)

pub returns : goal.returns
returns c = rw c.or-self-inside.ensures (ap (λ (e : RunState). counted_block e c.args.block) c.self.view_is)
