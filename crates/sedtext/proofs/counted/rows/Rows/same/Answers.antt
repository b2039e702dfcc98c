use Rattle.std.specs.Cmp.Lexicographic.{same_text}
use Rattle.sedtext.proofs.Words.{ap, arith, slice_index_or, sym, ◌/◌, ◌<◌, ◌∙◌}
use Rattle.sedtext.proofs.WordLemmas.{marked_same, row_bit}
use Rattle.sedtext.proofs.counted.rows.Rows.same.Goals as goal

pub returns-clause-same : goal.returns-clause-same
returns-clause-same c h k lt =
    let low : k / 64 < c.div_ceil-words.result = omega (arith, lt, c.div_ceil-words.ensures) in
    let words = c.slice.ensures.words (k / 64) low in
    let same = ap (λ ws. slice_index_or ws (k / 64) 0) (same_text c.slice.result.now c.slice-2.result.now (sym h ∙ c.eq.ensures)) in
    row_bit c.self.inside c.args.self.now c.self.view_is c.self.invariant c.args.row c.args.count c.requires.row c.requires.inside k lt ∙ marked_same c.self.inside.words.all c.self.inside.words.all _ _ k (sym words ∙ same ∙ c.slice-2.ensures.words (k / 64) low) ∙
    sym (row_bit c.self.inside c.args.self.now c.self.view_is c.self.invariant c.args.other_row c.args.count c.requires.other_row c.requires.there k lt)
