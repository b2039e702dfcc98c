use Rattle.std.proofs.Common.{ℕ, ◌≤◌, ◌-◌, ◌/◌, ◌+◌, subst, arith, ◌<◌, ◌≡◌, is_some, true, sym}
use Rattle.sedacts.specs.Idle.{RangesIdle, need_at}
use Rattle.sedengine.proofs.Passes.{allows}
use Rattle.sedacts.specs.Run.{RunState}
use Rattle.sedengine.proofs.machine.Machine.most_lines.Goals as goal

pub overflow_add-idle : goal.overflow_add-idle
overflow_add-idle c = omega (arith, c.requires.few)

pub returns : goal.returns
returns c =
    let a = c.self.inside in
    let none = c.if-len-gt0.false in
    allows a c.args.self.now c.args.idle.now.reached c.in_ok-most.most c.min.result c.self.view_is c.self.invariant (omega (arith, none, c.len.ensures.value)) (subst (RangesIdle a.script.commands c.args.idle.now.reached) c.deref.ensures.value c.in_ok-most.ensures.idle) c.in_ok-most.ensures.clear (omega (arith, c.min.ensures)) (subst (λ (t : ℕ). c.min.result ≤ (t - a.turns) / (c.args.idle.now.reached + 1)) c.turns.ensures (omega (arith, c.min.ensures)))

pub clear_lines-requires : goal.clear_lines-requires
clear_lines-requires c = record {
  ranges = rw c.deref.ensures.value c.self.invariant.ranges;
  needs = subst (λ (e : RunState). (j : ℕ) → j < c.args.idle.now.reached → is_some (need_at e.script.commands e.script.substitutions j) ≡ true) (sym c.self.view_is) c.requires.needs;
}

pub overflow_sub-turns : goal.overflow_sub-turns
overflow_sub-turns c = rw c.turns.ensures c.self.invariant.turns
