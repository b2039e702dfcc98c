use Rattle.std.proofs.Common.{inl, sym, ap, ◌∙◌}
use Rattle.sedscript.specs.Arguments.{own_delimiter}
use Rattle.sedscript.proofs.Coming.{own_none}
use Rattle.sedscript.proofs.addresses.own_match.Goals as goal

pub returns-in-None-clause-comes : goal.returns-in-None-clause-comes
returns-in-None-clause-comes c = rw c.at.ensures (inl (own_none c.args.source.now.text.now c.args.source.now.kind c.args.source.now.max_nodes _ c.args.place _ (ap own_delimiter (sym c.byte_at.ensures) ∙ (sym c.own_delimiter.ensures.is ∙ c.in-None.is))))
