use Rattle.std.proofs.Common.{ℕ, sym, subst, ◌∙◌, length}
use Rattle.sedscript.specs.Answers.{as_addressed, Agrees}
use Rattle.sedscript.specs.Items.{address_at, line_address}
use Rattle.std.proofs.Common.{Some}
use Rattle.sedscript.specs.Bytes.{bytes_between, with_digits}
use Rattle.sedscript.proofs.Coming.{gives_plain, line_comes, no_byte, last_address, no_address}
use Rattle.sedscript.proofs.addresses.address_at.Goals as goal

pub returns-then-is_ascii_digit-clause-comes : goal.returns-then-is_ascii_digit-clause-comes
returns-then-is_ascii_digit-clause-comes c =
    line_comes c.args.source.now.text.now c.args.source.now.kind c.args.source.now.max_nodes c.args.exprs.now.items c.args.at c.in-Some.b c.line_at.result (sym c.byte_at.ensures ∙ c.in-Some.is) (sym c.is_ascii_digit.ensures.value ∙ c.if-is_ascii_digit.true)
    (subst (λ (to : ℕ). Agrees as_addressed (length c.args.exprs.now.items) c.line_at.result (line_address (length c.args.exprs.now.items) c.args.at to (with_digits (Some 0) (bytes_between c.args.source.now.text.now c.args.at to)))) c.past.ensures.is (c.line_at.ensures.is (length c.args.exprs.now.items)))

pub returns-in-None-clause-comes : goal.returns-in-None-clause-comes
returns-in-None-clause-comes c =
    gives_plain c.args.source.now.text.now c.args.source.now.kind c.args.source.now.max_nodes c.args.exprs.now.items (address_at c.args.source.now.text.now (length c.args.exprs.now.items) c.args.at) _
    (no_byte c.args.source.now.text.now (length c.args.exprs.now.items) c.args.at (sym c.byte_at.ensures ∙ c.in-None.is))

pub returns-in-Some-eq36-clause-comes : goal.returns-in-Some-eq36-clause-comes
returns-in-Some-eq36-clause-comes c =
    gives_plain c.args.source.now.text.now c.args.source.now.kind c.args.source.now.max_nodes c.args.exprs.now.items (address_at c.args.source.now.text.now (length c.args.exprs.now.items) c.args.at) _
    (last_address c.args.source.now.text.now (length c.args.exprs.now.items) c.args.at c.in-Some-eq36.field-0 (sym c.byte_at.ensures ∙ c.in-Some-eq36.is) c.in-Some-eq36.field-0-test)

pub returns-else-is_ascii_digit-clause-comes : goal.returns-else-is_ascii_digit-clause-comes
returns-else-is_ascii_digit-clause-comes c =
    gives_plain c.args.source.now.text.now c.args.source.now.kind c.args.source.now.max_nodes c.args.exprs.now.items (address_at c.args.source.now.text.now (length c.args.exprs.now.items) c.args.at) _
    (no_address c.args.source.now.text.now (length c.args.exprs.now.items) c.args.at c.in-Some.b (sym c.byte_at.ensures ∙ c.in-Some.is) (sym c.is_ascii_digit.ensures.value ∙ c.if-is_ascii_digit.false) c.in-Some.b-test.0.0.1 c.in-Some.b-test.0.1 c.in-Some.b-test.1)
