use Rattle.sedengine.proofs.Passes.{found_lines}
use Rattle.std.proofs.Common.{◌≤◌, ℕ, List, Contains, length, subst, sym, arith, length-take}
use Rattle.sedengine.proofs.machine.Machine.idle_block.Goals as goal

pub returns : goal.returns
returns c =
    let a = c.self.inside in
    let i = c.in-Some.idle in
    let seen = c.min-seen.result in
    let ahead = c.args.ahead.now in
    let inside : seen ≤ length ahead = omega (arith, c.min.ensures, c.min-seen.ensures) in
    let space : seen ≤ a.limits.space = omega (arith, c.min.ensures, c.min-seen.ensures, c.space.ensures.value) in
    found_lines a c.args.self.now ahead i c.in_ok-most.most seen c.clear_end-end.result c.lines_before-whole.result c.extent_of-extent.result c.self.view_is c.self.invariant c.in-Some.is c.in_ok-most.ensures
    inside space (omega (arith, c.clear_end-end.ensures.within, length-take seen ahead)) (λ e has. c.clear_end-end.ensures.clear e (subst (λ (xs : List ℕ). Contains xs e) (sym c.deref.ensures.value) has)) c.lines_before-whole.ensures.within c.lines_before-whole.ensures.whole c.lines_before-whole.ensures.last c.extent_of-extent.ensures c.if-extent-eq0.false
