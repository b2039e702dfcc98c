-- The numbers by which a call reports what it came to (this project's own).
use Rattle.std.specs.Prelude.{ℕ}
use Rattle.sedre.specs.Reasons.{number}
use Rattle.sedscript.specs.declared.types.Reason.{Reason}
use Rattle.sedscript.specs.declared.types.Reason.TheVariants.{Expression}
use Rattle.sedscript.specs.declared.types.ScriptFault.{ScriptFault}
use Rattle.sedscript.specs.Faults.{number_of}
use Rattle.sedengine.specs.Types.{Ended, Done, PatternFull, HoldFull, QueueFull, TurnsSpent, NoPrevious, InputBroken, OutputBroken, OutputFull}
use Rattle.csed.specs.declared.outcome.SedReport.{SedReport}

-- the number of an end, as 4 of F4
abbrev pub cause_of : Ended → ℕ
cause_of Done = 0
cause_of (PatternFull n) = 1
cause_of (HoldFull n) = 2
cause_of (QueueFull n) = 3
cause_of TurnsSpent = 4
cause_of (NoPrevious n) = 5
cause_of InputBroken = 6
cause_of (OutputBroken k) = 7
cause_of (OutputFull k) = 8

-- the line that an end names, or 0
abbrev pub line_named : Ended → ℕ
line_named (PatternFull n) = n
line_named (HoldFull n) = n
line_named (QueueFull n) = n
line_named (NoPrevious n) = n
line_named other = 0

-- the number of the fault of an expression, as 5 of E5, or 0
abbrev pub expression_of : Reason → ℕ
expression_of (Expression f) = number f.reason
expression_of other = 0

-- nothing is reported
abbrev pub empty_report : SedReport
empty_report = record { written = 0; place = 0; line = 0; fault = 0; expression = 0; cause = 0; spare = 0 }

-- so many bytes were written
abbrev pub of_bytes : ℕ → SedReport
of_bytes written = record empty_report { written = written }

-- so many bytes were written, and the run came to this end
abbrev pub of_end : ℕ → Ended → SedReport
of_end written end = record empty_report { written = written; line = line_named end; cause = cause_of end }

-- the script has this fault
abbrev pub of_fault : ScriptFault → SedReport
of_fault f = record empty_report { place = f.place; fault = number_of f.reason; expression = expression_of f.reason }

-- the script names a file to write
abbrev pub of_files : SedReport
of_files = record empty_report { fault = 100 }
