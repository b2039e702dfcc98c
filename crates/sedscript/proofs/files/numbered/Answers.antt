use Rattle.std.proofs.Common.{◌≡◌, ◌+◌, ◌∙◌, arith, subst, sym, ap, take, ℕ, List, option_map}
use Rattle.sedscript.specs.Script.{files_in}
use Rattle.sedscript.specs.Tables.{with_name, AreNumbered}
use Rattle.sedscript.proofs.FileTables.{files_step}
use Rattle.sedscript.proofs.files.numbered.Goals as goal

pub items-preserved : goal.items-preserved
items-preserved c =
    let before : List (List ℕ) = files_in c.args.file_use c.args.text.now (take c.items.k c.args.items.now) in
    let step : files_in c.args.file_use c.args.text.now (take (c.items.k + 1) c.args.items.now) ≡ with_name before (option_map (λ n. n.now) c.file_in-found.result) =
    files_step c.args.file_use c.args.text.now c.args.items.now c.items.k c.get.result c.get.ensures.is
    ∙ ap (with_name before) (sym c.file_in-found.ensures) in
    record {
      within = omega arith;
      few = omega (arith, c.in_ok-add_name.ensures.few);
      numbered = subst (λ (ns : List (List ℕ)). AreNumbered c.args.first ns c.add_name.new.files) (sym step) (c.in_ok-add_name.ensures.added before c.items.invariant.numbered);
    }
