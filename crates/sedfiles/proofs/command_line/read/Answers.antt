use Rattle.sedfiles.proofs.CommandLineLemmas.{fault_of-sed_command, rows_of-sed_command, takes-sed_command}
use Rattle.sedfiles.proofs.command_line.read.Goals as goal

pub returns-clause-rows : goal.returns-clause-rows
returns-clause-rows g c = rows_of-sed_command _ _ _ c.in_ok-command.ensures.shape c.try_get_matches_from.ensures.matches

pub returns-clause-taken : goal.returns-clause-taken
returns-clause-taken g c = takes-sed_command _ _ _ c.in_ok-command.ensures.shape c.try_get_matches_from.ensures.passes

pub returns-clause-kinds : goal.returns-clause-kinds
returns-clause-kinds g c = fault_of-sed_command _ _ _ c.in_ok-command.ensures.shape c.try_get_matches_from.ensures.kinds
