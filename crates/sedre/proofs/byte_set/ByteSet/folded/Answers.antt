use Rattle.std.proofs.Common.{ℕ, Bool, ◌+◌, ◌||◌, sym, ◌∙◌, arith}
use Rattle.sedre.specs.Sets.{has, other_case}
use Rattle.sedre.proofs.ByteLemmas.{filled_more, filled_less, filled_full}
use Rattle.sedre.proofs.byte_set.ByteSet.folded.Goals as goal
use Rattle.sedre.proofs.byte_set.ByteSet.folded.Goals.{then-has_in_either_case, else-has_in_either_case}

pub loop-b-preserved : goal.loop-b-preserved
loop-b-preserved c =
    let test : ℕ → Bool = λ k. has c.args.self.now k || has c.args.self.now (other_case k) in
    elim c.if-has_in_either_case.branch [
      | then-has_in_either_case w ↦ filled_more test c.loop-b.b c.loop-b.set c.if-has_in_either_case.set c.loop-b.invariant (sym c.has_in_either_case.ensures ∙ w.if-has_in_either_case.true) (w.set-is ∙ w.insert.ensures)
      | else-has_in_either_case w ↦ filled_less test c.loop-b.b c.loop-b.set c.if-has_in_either_case.set c.loop-b.invariant (sym c.has_in_either_case.ensures ∙ w.if-has_in_either_case.false) w.set-is
    ]

pub returns-after-has_in_either_case : goal.returns-after-has_in_either_case
returns-after-has_in_either_case c =
    let test : ℕ → Bool = λ k. has c.args.self.now k || has c.args.self.now (other_case k) in
    elim c.if-has_in_either_case.branch [
      | then-has_in_either_case w ↦ filled_full test (c.loop-b.b + 1) c.if-has_in_either_case.set (omega arith) (filled_more test c.loop-b.b c.loop-b.set c.if-has_in_either_case.set c.loop-b.invariant (sym c.has_in_either_case.ensures ∙ w.if-has_in_either_case.true) (w.set-is ∙ w.insert.ensures))
      | else-has_in_either_case w ↦ filled_full test (c.loop-b.b + 1) c.if-has_in_either_case.set (omega arith) (filled_less test c.loop-b.b c.loop-b.set c.if-has_in_either_case.set c.loop-b.invariant (sym c.has_in_either_case.ensures ∙ w.if-has_in_either_case.false) w.set-is)
    ]
