use Rattle.std.proofs.Common.{ap, ◌∙◌}
use Rattle.clap.specs.Words.{with_rule}
use Rattle.sedfiles.proofs.CommandLineLemmas.{rule_added}
use Rattle.sedfiles.proofs.command_line.with_flags.Goals as goal

pub returns : goal.returns
returns c =
    let first_is = c.in_ok-arg.ensures.shape c.repeated.ensures.local ∙ ap (with_rule _) c.repeated.ensures.rule in
    rule_added c.in_ok-arg.field-0 c.repeated-2.result _ _ c.arg-2.result first_is c.repeated-2.ensures.rule c.repeated-2.ensures.local c.arg-2.ensures
