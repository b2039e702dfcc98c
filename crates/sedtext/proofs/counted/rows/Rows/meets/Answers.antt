use Rattle.sedtext.proofs.Words.{◌+◌, ◌*◌, ◌/◌, ◌<◌, ◌↔◌, ◌≡◌, arith, bit_at, cases_lt, false, inl, inr, IsTrue, refl, row_of, slice_index_or, sym, true≢false, ℕ}
use Rattle.sedtext.proofs.WordLemmas.{meet_here, meet_later, meet_past, word_at}
use Rattle.sedtext.proofs.counted.rows.Rows.meets.Goals.{After-min-x-end}
use Rattle.sedtext.proofs.counted.rows.Rows.meets.Goals as goal

-- the words of a row, as far as they are in memory
mine : (c : After-min-x-end) (x : ℕ) → x < c.div_ceil-words.result → (k : ℕ) → k < 64 → 64 * x + k < c.args.count → IsTrue (slice_index_or (row_of c.args.self.now c.args.row) (64 * x + k) false) ↔ (bit_at (slice_index_or c.slice-one.result.now x 0) k ≡ 1)
mine c x low = word_at c.self.inside c.args.self.now c.self.view_is c.self.invariant c.args.row c.args.count x _ c.requires.row c.requires.inside (c.slice-one.ensures.words x low)

theirs : (c : After-min-x-end) (x : ℕ) → x < c.div_ceil-words.result → (k : ℕ) → k < 64 → 64 * x + k < c.args.count → IsTrue (slice_index_or (row_of c.args.other.now c.args.other_row) (64 * x + k) false) ↔ (bit_at (slice_index_or c.slice-two.result.now x 0) k ≡ 1)
theirs c x low = word_at c.other.inside c.args.other.now c.other.view_is c.other.invariant c.args.other_row c.args.count x _ c.requires.other_row c.requires.there (c.slice-two.ensures.words x low)

pub returns-then-lowest-ne0-clause-meets : goal.returns-then-lowest-ne0-clause-meets
returns-then-lowest-ne0-clause-meets c =
    let at = (goal.at.returns-then-lowest-ne0-clause-meets c).After-min-x-end in
    let low : c.loop-x.x < c.div_ceil-words.result = omega (arith, c.loop-x-test.true, c.min-x-end.ensures, c.slice-one.ensures.few) in
    let met = meet_here _ _ c.args.count c.loop-x.x _ _ c.lowest.result (mine at c.loop-x.x low) (theirs at c.loop-x.x low) c.lowest.ensures.inside c.if-lowest-ne0.true (omega arith) c.lowest.ensures.none in
    ((λ h. (met.0, met.1.0, met.1.1, met.1.2)), (λ h. refl))

pub loop-x-preserved : goal.loop-x-preserved
loop-x-preserved c =
    let at = (goal.at.loop-x-preserved c).After-min-x-end in
    let low : c.loop-x.x < c.div_ceil-words.result = omega (arith, c.loop-x-test.true, c.min-x-end.ensures, c.slice-one.ensures.few) in
    meet_later _ _ c.args.count c.loop-x.x _ _ c.lowest.result (mine at c.loop-x.x low) (theirs at c.loop-x.x low) c.lowest.ensures.inside c.if-lowest-ne0.false c.loop-x.invariant

pub returns-clause-meets : goal.returns-clause-meets
returns-clause-meets c =
    let at = (goal.at.returns-clause-meets c).After-min-x-end in (
      (λ h. absurd (true≢false (sym h))),
      (λ met. absurd (elim (cases_lt met.0 (64 * c.loop-x.x)) [
        | inl before ↦ c.loop-x.invariant met.0 before (met.1, met.2, met.3)
        | inr past ↦
            let low : met.0 / 64 < c.div_ceil-words.result = omega (arith, met.1, c.div_ceil-words.ensures) in
            meet_past _ _ c.slice-one.result.now c.slice-two.result.now c.args.count met.0 (mine at (met.0 / 64) low) (theirs at (met.0 / 64) low) (omega (arith, past, c.loop-x-test.false, c.min-x-end.ensures)) (met.1, met.2, met.3)
      ])),
    )
