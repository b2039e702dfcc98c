use Rattle.std.proofs.Common.{◌<◌, ◌≤◌, Ok, ap, subst, arith, rules, length, sym, ◌∙◌}
use Rattle.std.proofs.lemmas.Bool.Decides.{nat_tests}
use Rattle.sedspace.proofs.StreamFacts.{ahead_within, none_ahead, answers_more, answers_read}
use Rattle.sedspace.proofs.lines.Lines.is_last.Goals as goal

pub returns-then-not-is_empty-clause-last : goal.returns-then-not-is_empty-clause-last
returns-then-not-is_empty-clause-last g c =
    let size = ap length c.ahead.ensures.value in
    let some : 0 < length c.args.self.now.ahead = grind (arith, nat_tests) in
    answers_more (g.R.ByteSource.remaining c.args.self.now.source) c.args.self.now.ahead some

pub returns-in-Ok-clause-last : goal.returns-in-Ok-clause-last
returns-in-Ok-clause-last g c =
    let r = c.in-Ok.ensures in
    answers_read _ (g.R.ByteSource.remaining c.refill.new.self.source) c.refill.new.self.ahead c.in-Ok.more r.left r.given (λ e. (r.end (ap Ok e)).1)

pub returns-in-Some-clause-reads : goal.returns-in-Some-clause-reads
returns-in-Some-clause-reads g c =
    let s = c.self.inside in (
      subst (λ z. length z.ahead ≤ z.read_ahead) c.self.view_is (ahead_within s.front s.filled _ s.buffer.items (omega arith)),
      search rules,
      search rules,
    )

pub refill-requires : goal.refill-requires
refill-requires g c = none_ahead c.args.self.now.ahead c.ahead.result.now c.ahead.ensures.value (sym c.is_empty.ensures ∙ c.if-not-is_empty.false)

pub returns-in-Ok-clause-bytes_ahead : goal.returns-in-Ok-clause-bytes_ahead
returns-in-Ok-clause-bytes_ahead g c = λ some.
    absurd (omega (arith, some, ap length (none_ahead c.args.self.now.ahead c.ahead.result.now c.ahead.ensures.value (sym c.is_empty.ensures ∙ c.if-not-is_empty.false))))

pub returns-in-Err-clause-bytes_ahead : goal.returns-in-Err-clause-bytes_ahead
returns-in-Err-clause-bytes_ahead g c = λ some.
    absurd (omega (arith, some, ap length (none_ahead c.args.self.now.ahead c.ahead.result.now c.ahead.ensures.value (sym c.is_empty.ensures ∙ c.if-not-is_empty.false))))
