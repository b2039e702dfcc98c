-- What a call does with a script's text over bytes in memory (this project's own).
use Rattle.std.specs.Prelude.{◌≡◌, ◌≢◌, ◌<◌, ◌≤◌, ◌⊎◌, ◌||◌, ◌==◌, not, ℕ, Bool, List, [], length, Some, bit_and}
use Rattle.sedscript.specs.Script.{Means}
use Rattle.sedscript.specs.FirstFault.{Faulty}
use Rattle.sedscript.specs.Program.{Program}
use Rattle.sedscript.specs.declared.types.ScriptFault.{ScriptFault}
use Rattle.sedengine.specs.State.{LimitsView, Setting, MachineState, setting_of}
use Rattle.sedengine.specs.LimitRanges.{AreLimits, limits_of}
use Rattle.sedengine.specs.Move.{to_sink}
use Rattle.sedengine.specs.Ends.{IsCause}
use Rattle.sedengine.specs.Types.{Ended, Done, InputBroken, OutputBroken}
use Rattle.sededit.specs.Editing.{BeginsOutput, IsOutput, start_over}
use Rattle.sededit.specs.Program.{kind_with}
use Rattle.csed.specs.declared.asked.Request.{Request}
use Rattle.csed.specs.declared.asked.SedLimits.{SedLimits}
use Rattle.csed.specs.declared.outcome.SedReport.{SedReport}
use Rattle.csed.specs.Reports.{cause_of, of_end, of_fault, of_files}

-- whether a flag is among the flags
abbrev pub has_flag : ℕ → ℕ → Bool
has_flag flags flag = not (bit_and flags flag == 0)

-- the limits that are given
abbrev pub limits_given : SedLimits → LimitsView
limits_given l = limits_of l.space l.queue l.look l.turns l.nodes

-- what flags and limits ask for: flag 1 chooses extended expressions, as -E does, and flag 2 suppresses default output, as
-- -n does (XCU sed, "Options")
abbrev pub asked_by : ℕ → SedLimits → Request
asked_by flags l = record { kind = kind_with (has_flag flags 1); quiet = has_flag flags 2; limits = limits_given l }

-- no flag is set but the two, and each limit is in its range
pub record MayAsk (flags : ℕ) (l : SedLimits) : Type 0 where
  pub known : flags ≤ 3
  pub within : AreLimits (limits_given l)

-- a flag is set that isn't known, or a limit is out of its range
abbrev pub MayNotAsk : ℕ → SedLimits → Type 0
MayNotAsk flags l = (3 < flags) ⊎ (AreLimits (limits_given l) → ⊥)

-- The text means a script that names no file to write, and that is p, but that default output is suppressed where this
-- is asked for, too.
abbrev pub GivesFilelessScript : List ℕ → Request → Program → Type 0
GivesFilelessScript text a p =
    (q : Program) × Means text a.kind a.limits.nodes q × (q.wfiles ≡ []) × (p ≡ record q { quiet = a.quiet || q.quiet })

-- the text means a script that names a file to write
abbrev pub WritesFiles : List ℕ → Request → Type 0
WritesFiles text a = (q : Program) × Means text a.kind a.limits.nodes q × (0 < length q.wfiles)

-- A script is refused, as it is reported: for its first fault, or since it names a file to write.
abbrev pub IsRefused : List ℕ → Request → SedReport → Type 0
IsRefused text a report =
    ((f : ScriptFault) × Faulty text a.kind a.limits.nodes f × (report ≡ of_fault f))
    ⊎ (WritesFiles text a × (report ≡ of_files))

-- each file that a script reads is empty
abbrev pub no_files : ℕ → List ℕ
no_files k = []

-- the bytes are all that the text's script writes over the input, all of it to the standard output
abbrev pub IsWhole : List ℕ → Request → List ℕ → List ℕ → Type 0
IsWhole text a input bytes =
    (p : Program) × GivesFilelessScript text a p × IsOutput (setting_of p no_files) (start_over p input) (to_sink 0 bytes)

-- the bytes are a beginning of it
abbrev pub IsBeginning : List ℕ → Request → List ℕ → List ℕ → Type 0
IsBeginning text a input bytes =
    (p : Program) × GivesFilelessScript text a p × BeginsOutput (setting_of p no_files) (start_over p input) (to_sink 0 bytes)

-- A run from the state s stopped for a cause that is true after some moves, with these bytes written, all of them to the
-- standard output; F8 at exactly the room. Memory is no device that fails: neither F6 nor F7 is a cause.
pub record RunStops (l : LimitsView) (g : Setting) (s : MachineState) (room : ℕ) (bytes : List ℕ) (end : Ended) : Type 0 where
  pub early : end ≢ Done
  pub input : end ≢ InputBroken
  pub output : (k : ℕ) → end ≢ OutputBroken k
  pub t : ℕ
  pub cause : IsCause l g s (to_sink 0 bytes) end t
  pub full : cause_of end ≡ 8 → length bytes ≡ room

-- The run of the text's script over the input stopped as `RunStops` says, under the limits given, with this room for the output.
abbrev pub StopsFor : List ℕ → Request → List ℕ → ℕ → List ℕ → Ended → Type 0
StopsFor text a input room bytes end =
    (p : Program) × GivesFilelessScript text a p
    × RunStops (record a.limits { output = Some room }) (setting_of p no_files) (start_over p input) room bytes end

-- A run stopped as `StopsFor` says, and the report gives its end.
abbrev pub IsStopped : List ℕ → Request → List ℕ → ℕ → List ℕ → SedReport → Type 0
IsStopped text a input room bytes report =
    (end : Ended) × StopsFor text a input room bytes end × (report ≡ of_end report.written end)
