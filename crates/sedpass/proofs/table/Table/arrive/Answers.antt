use Rattle.sedpass.proofs.Words.{◌∙◌, ap, sym, option_or}
use Rattle.sedpass.proofs.TableLemmas.{names_offset}
use Rattle.sedpass.proofs.ForwardLemmas.{arrive_at}
use Rattle.sedpass.proofs.table.Table.arrive.Goals as goal

pub returns-clause-offset : goal.returns-clause-offset
returns-clause-offset c = names_offset c.args.prepared.now _ c.requires.table _ _ _ c.requires.code c.offset_of.ensures

pub returns-clause-passes : goal.returns-clause-passes
returns-clause-passes c start after within names last =
    arrive_at c.args.prepared.now c.args.self.now c.args.text.now start c.args.place c.args.code _ c.args.end c.flags_of-flags.result c.requires.table after within c.offset_of.ensures c.flags_of-flags.ensures names last _ _
    (c.or.ensures ∙ ap (λ o. option_or o c.args.end) c.then_some.ensures) (λ h. sym c.is_over.ensures ∙ h)
