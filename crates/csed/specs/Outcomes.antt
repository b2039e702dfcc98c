-- Private to the proofs: no contract of a public item cites what is here.
-- What calls come to, before it is reported in numbers.
use Rattle.std.specs.Prelude.{◌≡◌, ℕ, ℤ, pos, List, Some, take, length}
use Rattle.sedscript.specs.FirstFault.{Faulty}
use Rattle.sedscript.specs.Program.{Program}
use Rattle.sedengine.specs.State.{LimitsView, setting_of}
use Rattle.sedengine.specs.Move.{to_sink}
use Rattle.sedengine.specs.Types.{Ended}
use Rattle.sedengine.specs.Types as ends
use Rattle.sededit.specs.Editing.{IsOutput, start_over}
use Rattle.csed.specs.declared.asked.Request.{Request}
use Rattle.csed.specs.declared.asked.SedLimits.{SedLimits}
use Rattle.csed.specs.declared.outcome.SedReport.{SedReport}
use Rattle.csed.specs.declared.outcome.CallOutcome.{CallOutcome}
use Rattle.csed.specs.declared.outcome.CallOutcome.TheVariants.{Done, Faulty as HasFault, WritesFiles as HasFiles, BadLimits, NoMemory, Stopped}
use Rattle.csed.specs.Reports.{empty_report, of_bytes, of_end, of_fault, of_files}
use Rattle.csed.specs.Calls.{GivesFilelessScript, IsWhole, MayAsk, MayNotAsk, RunStops, StopsFor, WritesFiles, asked_by, no_files}

-- the status that gives it
abbrev pub status_of : CallOutcome → ℤ
status_of (Done n) = pos 0
status_of (HasFault f) = pos 1
status_of HasFiles = pos 1
status_of BadLimits = pos 2
status_of NoMemory = pos 3
status_of (Stopped n end) = pos 4

-- the report that gives it
abbrev pub report_of : CallOutcome → SedReport
report_of (Done n) = of_bytes n
report_of (HasFault f) = of_fault f
report_of HasFiles = of_files
report_of (Stopped n end) = of_end n end
report_of other = empty_report

-- how many bytes were written
abbrev pub bytes_written : CallOutcome → ℕ
bytes_written (Done n) = n
bytes_written (Stopped n end) = n
bytes_written other = 0

-- why a script isn't run
abbrev pub IsScriptRefusal : List ℕ → Request → CallOutcome → Type 0
IsScriptRefusal text a (HasFault f) = Faulty text a.kind a.limits.nodes f
IsScriptRefusal text a HasFiles = WritesFiles text a
IsScriptRefusal text a NoMemory = Unit {0}
IsScriptRefusal text a other = ⊥

-- what the reading of a script comes to
abbrev pub ChecksTo : List ℕ → ℕ → SedLimits → CallOutcome → Type 0
ChecksTo text flags l BadLimits = MayNotAsk flags l
ChecksTo text flags l (Done n) = MayAsk flags l × (n ≡ 0) × ((p : Program) × GivesFilelessScript text (asked_by flags l) p)
ChecksTo text flags l other = MayAsk flags l × IsScriptRefusal text (asked_by flags l) other

-- what an edit comes to
abbrev pub EditsTo : List ℕ → ℕ → SedLimits → List ℕ → List ℕ → CallOutcome → Type 0
EditsTo text flags l input output BadLimits = MayNotAsk flags l
EditsTo text flags l input output (Done n) = MayAsk flags l × IsWhole text (asked_by flags l) input (take n output)
EditsTo text flags l input output (Stopped n end) =
    MayAsk flags l × StopsFor text (asked_by flags l) input (length output) (take n output) end
EditsTo text flags l input output other = MayAsk flags l × IsScriptRefusal text (asked_by flags l) other

-- what the run of a script comes to
abbrev pub CallRunsTo : LimitsView → Program → List ℕ → List ℕ → CallOutcome → Type 0
CallRunsTo l p input output (Done n) = IsOutput (setting_of p no_files) (start_over p input) (to_sink 0 (take n output))
CallRunsTo l p input output (Stopped n end) =
    RunStops (record l { output = Some (length output) }) (setting_of p no_files) (start_over p input) (length output) (take n output) end
CallRunsTo l p input output NoMemory = Unit {0}
CallRunsTo l p input output other = ⊥

-- a run that ended so, with so many bytes written
abbrev pub outcome_of : Ended → ℕ → CallOutcome
outcome_of ends.Done n = Done n
outcome_of end n = Stopped n end
