use Rattle.sedpass.proofs.Words.{◌∙◌, arith, get_or_default, rules}
use Rattle.sedpass.proofs.FactLemmas.{parent_is}
use Rattle.sedpass.proofs.nodes.Prepared.parent.Goals as goal

pub returns : goal.returns
returns c =
    let e = c.args.self.now in
    let notes = rw c.self.view_is at c.self.invariant.0 in
    let noted = c.index.ensures ∙ get_or_default c.self.inside.analysis.now.parents.items c.args.x _ _ (omega (arith, notes.parents_all, c.requires)) in
    search (rules, parent_is e c.self.inside.analysis.now.parents.items c.args.x c.index.result.now (rw c.self.view_is at c.self.invariant.1).arena notes.parents c.requires noted)
