use Rattle.std.proofs.Common.{◌∙◌, sym, arith}
use Rattle.std.proofs.lemmas.Bool.{false≢true}
use Rattle.sedre.proofs.ByteLemmas.{no_member_is, member_is, only_true, not_only}
use Rattle.sedre.proofs.byte_set.ByteSet.sole.Goals as goal

pub returns-in_err-b-clause-is : goal.returns-in_err-b-clause-is
returns-in_err-b-clause-is c = rw c.from_residual.ensures (no_member_is c.self.inside.words c.args.self.now c.self.view_is c.in_err-b.ensures)

pub returns-then-same-clause-member : goal.returns-then-same-clause-member
returns-then-same-clause-member c = only_true c.in_ok-b.b c.args.self.now (c.same.ensures.0 c.if-same.true ∙ c.only.ensures)

pub returns-else-same-clause-is : goal.returns-else-same-clause-is
returns-else-same-clause-is c =
    not_only c.args.self.now c.in_ok-b.b (omega arith)
    (member_is c.self.inside.words c.args.self.now c.in_ok-b.b c.self.view_is (omega arith) c.in_ok-b.ensures)
    (λ e. false≢true (sym c.if-same.false ∙ c.same.ensures.1 (e ∙ sym c.only.ensures)))
