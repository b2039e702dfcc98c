use Rattle.sedpass.proofs.Words.{length, refl, sym, slice_get_read}
use Rattle.sedpass.proofs.DecideLemmas.{run_shown}
use Rattle.sedpass.proofs.nodes.Prepared.facts.Goals as goal

pub returns-clause-run : goal.returns-clause-run
returns-clause-run c =
    let is = rw c.self.view_is at c.self.invariant.0 in
    let here = slice_get_read c.self.inside.analysis.now.facts.items (length c.args.self.now.nodes) c.args.x c.index.result.now (sym is.all) c.requires c.index.ensures in
    run_shown _ _ c.args.x c.index.result.now _ (rw c.self.view_is at c.self.invariant.1) c.requires (is.facts c.args.x c.index.result.now here) refl
