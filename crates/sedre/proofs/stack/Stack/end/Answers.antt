use Rattle.std.proofs.Common.{◌≡◌, sym, subst, List, Some, length, ◌-◌}
use Rattle.std.specs.Prelude.{slice_get}
use Rattle.sedre.specs.declared.parts.TreeExtent.{TreeExtent}
use Rattle.sedre.proofs.Kept.{last_end_found}
use Rattle.sedre.proofs.stack.Stack.end.Goals as goal

pub returns-in-Some : goal.returns-in-Some
returns-in-Some c =
    let F : List TreeExtent → Type 0 = λ ps. slice_get ps (length ps - 1) ≡ Some c.in-Some.part.now in
    let h = subst F c.deref.ensures.value (sym c.in-Some.ensures.value) in
    sym (last_end_found c.args.self.now.parts.items c.in-Some.part.now h)
