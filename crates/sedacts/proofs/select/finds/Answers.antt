use Rattle.std.proofs.Common.{◌≡◌, ◌∙◌, length, ap, arith, get_or}
use Rattle.std.proofs.lemmas.Grind.{elements}
use Rattle.sedacts.proofs.Fitting.{finds_as, fits_at}
use Rattle.sedacts.proofs.select.finds.Goals as goal

pub is_match-requires-clause-fits : goal.is_match-requires-clause-fits
is_match-requires-clause-fits c =
    let e = c.index_mut-matcher.result.now in
    let h = c.index_mut-matcher.ensures.value in
    let is : e ≡ get_or c.args.matchers.now.items c.args.k e = grind (arith, elements) in
    let same = ap length (c.new-text.ensures ∙ c.bytes.ensures.value) in
    (omega (arith, same, c.requires.text), fits_at c.args.scratch.now.nodes c.args.matchers.now.items c.args.k e c.requires.number is c.requires.fit)

pub returns-clause-finds : goal.returns-clause-finds
returns-clause-finds c =
    let e = c.index_mut-matcher.result.now in
    let h = c.index_mut-matcher.ensures.value in
    let is : e ≡ get_or c.args.matchers.now.items c.args.k e = grind (arith, elements) in
    finds_as c.args.matchers.now.items c.args.k e c.new-text.result c.args.pattern.now.bytes c.is_match.result
    c.requires.number is (c.new-text.ensures ∙ c.bytes.ensures.value) c.is_match.ensures.computed
