use Rattle.std.proofs.Common.{ap, codes, ◌∙◌}
use Rattle.clap.specs.Words.{with_rule}
use Rattle.sedfiles.specs.CommandLine.{option_rule, sed_command}
use Rattle.sedfiles.specs.Types.{Append, Count}
use Rattle.sedfiles.proofs.CommandLineLemmas.{rule_added}
use Rattle.sedfiles.proofs.command_line.command.Goals as goal

pub returns : goal.returns
unfolding sed_command
returns c =
    let flagged_is = c.in_ok-flagged.ensures ∙ ap (λ a. with_rule (with_rule a (option_rule (codes "quiet") 110 Count)) (option_rule (codes "extended") 69 Count)) c.described.ensures in
    let scripted_is = c.in_ok-with_scripts.ensures ∙ ap (λ a. with_rule (with_rule a (option_rule (codes "expression") 101 Append)) (option_rule (codes "file") 102 Append)) flagged_is in
    record { shape = rule_added c.in_ok-with_scripts.field-0 c.operands.result _ _ c.arg.result scripted_is c.operands.ensures.rule c.operands.ensures.local c.arg.ensures }
