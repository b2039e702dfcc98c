use Rattle.std.proofs.Common.{◌≡◌, ◌∙◌, ◌<◌, ◌≤◌, ap, sym, subst, Some, length, slice_get}
use Rattle.std.proofs.lemmas.Option.{slice_get-get_or}
use Rattle.sedscript.specs.Program.{Program}
use Rattle.sedscript.proofs.script.Script.expr.Goals as goal

pub returns-clause-is : goal.returns-clause-is
returns-clause-is c =
    ap (λ (p : Program). slice_get p.expressions c.args.k) (sym c.self.view_is)
    ∙ slice_get-get_or c.self.inside.named.exprs.items c.args.k c.index.result.now
    (subst (λ (p : Program). c.args.k < length p.expressions) (sym c.self.view_is) c.requires)
    ∙ ap Some (sym c.index.ensures)

pub returns-clause-nodes : goal.returns-clause-nodes
returns-clause-nodes c =
    let there : slice_get c.self.inside.named.exprs.items c.args.k ≡ Some c.index.result.now =
    slice_get-get_or c.self.inside.named.exprs.items c.args.k c.index.result.now
    (subst (λ (p : Program). c.args.k < length p.expressions) (sym c.self.view_is) c.requires)
    ∙ ap Some (sym c.index.ensures) in
    subst (λ (p : Program). length c.index.result.now.nodes ≤ p.max_nodes) c.self.view_is (c.self.invariant.nodes c.args.k c.index.result.now there)
