use Rattle.std.proofs.Common.{ℕ, sym, ap, ◌∙◌, length, Ok, slice_get}
use Rattle.sedscript.specs.declared.items.Addresses.{Addresses}
use Rattle.sedscript.specs.Bytes.{is_byte}
use Rattle.sedscript.specs.Items.{plainly, after_first}
use Rattle.sedscript.proofs.Coming.{gives_plain, only_first}
use Rattle.sedscript.proofs.addresses.after_first.Goals as goal

pub returns-in_default-clause-comes : goal.returns-in_default-clause-comes
returns-in_default-clause-comes c =
    gives_plain c.args.source.now.text.now c.args.source.now.kind c.args.source.now.max_nodes c.args.exprs.now.items (after_first c.args.source.now.text.now (length c.args.exprs.now.items) c.args.at c.args.first) _
    (ap (after_first c.args.source.now.text.now (length c.args.exprs.now.items) c.args.at) c.in_default.is ∙ ap (λ (a : Addresses). plainly (Ok (record { addresses = a; at = c.args.at; count = length c.args.exprs.now.items }))) (sym c.addresses_of.ensures))

pub returns-else-is_byte-clause-comes : goal.returns-else-is_byte-clause-comes
returns-else-is_byte-clause-comes c =
    gives_plain c.args.source.now.text.now c.args.source.now.kind c.args.source.now.max_nodes c.args.exprs.now.items (after_first c.args.source.now.text.now (length c.args.exprs.now.items) c.args.at c.args.first) _
    (only_first c.args.source.now.text.now (length c.args.exprs.now.items) c.args.at c.in-Some.address c.args.first c.in-Some.is
    (ap (λ (z : ℕ). is_byte 44 (slice_get c.args.source.now.text.now z)) (sym c.past-comma.ensures.is) ∙ ap (is_byte 44) (sym c.byte_at.ensures) ∙ (sym c.is_byte.ensures ∙ c.if-is_byte.false))
    ∙ ap (λ (a : Addresses). plainly (Ok (record { addresses = a; at = c.args.at; count = length c.args.exprs.now.items }))) (sym c.addresses_of-else-is_byte.ensures))
