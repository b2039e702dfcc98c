use Rattle.std.proofs.Common.{◌≡◌, ℕ, List, Option, Some, ap, subst, sym, ◌∙◌, arith}
use Rattle.std.specs.Prelude.{slice_get}
use Rattle.std.proofs.lemmas.Option.{slice_get-get_or}
use Rattle.sedre.specs.Tree.{WrittenExpression, expression_tree}
use Rattle.sedmatch.specs.Candidates.{IsBefore, NoMatchBefore}
use Rattle.sedacts.proofs.BlockLemmas.{none_found}
use Rattle.sedacts.proofs.block.clear_for.Goals as goal

pub returns-in-Some-candidate-clause-clear : goal.returns-in-Some-candidate-clause-clear
returns-in-Some-candidate-clause-clear c =
    let m = c.in-Some.matcher.now in
    let e = c.args.e in
    let r = c.candidate.result in
    let is = subst (λ (xs : List WrittenExpression). slice_get xs e ≡ Some m) c.deref.ensures.value (slice_get-get_or c.deref.result.now e m c.in-Some.ensures.lookup.3.0 ∙ ap (λ (x : WrittenExpression). Some x) (sym c.in-Some.ensures.lookup.1)) in
    let before = subst (λ (w : List ℕ). NoMatchBefore (expression_tree m) w r) c.new.ensures c.candidate.ensures.before in
    none_found c.args.matchers.now.items e m c.args.text.now r c.min.result is before (λ k less. subst (λ (r : Option ℕ). IsBefore k r) (sym c.in-Some-candidate.is) (omega (arith, less, c.min.ensures)))

pub returns-in-None-candidate-clause-clear : goal.returns-in-None-candidate-clause-clear
returns-in-None-candidate-clause-clear c =
    let m = c.in-Some.matcher.now in
    let e = c.args.e in
    let r = c.candidate.result in
    let is = subst (λ (xs : List WrittenExpression). slice_get xs e ≡ Some m) c.deref.ensures.value (slice_get-get_or c.deref.result.now e m c.in-Some.ensures.lookup.3.0 ∙ ap (λ (x : WrittenExpression). Some x) (sym c.in-Some.ensures.lookup.1)) in
    let before = subst (λ (w : List ℕ). NoMatchBefore (expression_tree m) w r) c.new.ensures c.candidate.ensures.before in
    none_found c.args.matchers.now.items e m c.args.text.now r _ is before (λ k less. subst (λ (r : Option ℕ). IsBefore k r) (sym c.in-None-candidate.is) tt)
