use Rattle.std.proofs.Common.{◌≡◌, ◌∙◌, ◌<◌, ap, sym, subst, Some, length, slice_get}
use Rattle.std.proofs.lemmas.Option.{slice_get-get_or}
use Rattle.sedscript.specs.Program.{Program}
use Rattle.sedscript.specs.Ranges.{CommandWithin}
use Rattle.sedscript.proofs.script.Script.command.Goals as goal

pub returns-clause-is : goal.returns-clause-is
returns-clause-is c =
    ap (λ (p : Program). slice_get p.commands c.args.i) (sym c.self.view_is)
    ∙ slice_get-get_or c.self.inside.commands.items c.args.i c.index.result.now
    (subst (λ (p : Program). c.args.i < length p.commands) (sym c.self.view_is) c.requires)
    ∙ ap Some (sym c.index.ensures)

pub returns-clause-within : goal.returns-clause-within
returns-clause-within c =
    let there : slice_get c.self.inside.commands.items c.args.i ≡ Some c.index.result.now =
    slice_get-get_or c.self.inside.commands.items c.args.i c.index.result.now
    (subst (λ (p : Program). c.args.i < length p.commands) (sym c.self.view_is) c.requires)
    ∙ ap Some (sym c.index.ensures) in
    subst (λ (p : Program). CommandWithin p c.index.result.now) c.self.view_is (c.self.invariant.each c.args.i c.index.result.now there)
