-- What the program does with the words of its command line (XCU sed, "Options", "Operands", "Exit Status").
use Rattle.std.specs.Prelude.{◌≡◌, ◌≢◌, ◌⊎◌, ◌||◌, ℕ, Bool, false, if◌then◌else◌, List, [], ◌∷◌, map, Option, Some, Err, slice_get, string_bytes}
use Rattle.std.specs.Option.{ForSome, option_map_or}
use Rattle.clap.specs.Words.{IsAmong, Text, fault_of, matches_of, takes}
use Rattle.sedspace.specs.Failures.{Rose}
use Rattle.sedscript.specs.Script.{Means, with_part}
use Rattle.sedscript.specs.Program.{Program}
use Rattle.sedengine.specs.Ends.{SinksGain, GainedWithin, SourceAtEnd, SinkAtEnd, IsCause, BreaksInLine}
use Rattle.sedengine.specs.State.{LimitsView, Setting, MachineState, GivesFiles, setting_of}
use Rattle.sedengine.specs.Move.{to_sink}
use Rattle.sededit.specs.Types.{Basic, DisplayHelp, Done, Ended, Extended, File, InputBroken, Kind, Line, Part, Script}
use Rattle.sedfiles.specs.CommandLine.{IsCommandLine, IsLine, sed_command}
use Rattle.sededit.specs.Editing.{BeginsOutput, IsOutput, nothing_before, start_over}
use Rattle.sedfiles.specs.Files.{FilesAhead, GivesWhole, WholeFiles, dash, joined_files}

-- the kind of a script's expressions: extended with -E, basic without it (XCU sed, "Options")
abbrev pub kind_with : Bool → Kind
kind_with extended = if extended then Extended else Basic

-- The text that parts make after those before: texts of -e, and what files of -f give, each ended by a newline (XCU sed, "Options").
-- A file that isn't known may contain any bytes; `-` names a file there like any other word (this project's own).
abbrev pub MakesText : WholeFiles → List ℕ → List Part → List ℕ → Type 0
MakesText files before [] whole = whole ≡ before
MakesText files before (Script s ∷ parts) whole = MakesText files (with_part before (string_bytes s)) parts whole
MakesText files before (File s ∷ parts) whole =
    (bytes : List ℕ) × GivesWhole (files (string_bytes s)) (Some bytes) × MakesText files (with_part before bytes) parts whole

-- A line has a part, and its parts make a text that means p, but that -n suppresses default output too, as `#n` does (XCU sed, "Options").
abbrev pub GivesScript : WholeFiles → Line → ℕ → Program → Type 0
GivesScript files l nodes p =
    (l.parts.items ≢ []) × ((whole : List ℕ) × MakesText files [] l.parts.items whole
    × ((q : Program) × Means whole (kind_with l.extended) nodes q × (p ≡ record q { quiet = l.quiet || q.quiet })))

-- the names of the input files; without operands the standard input (XCU sed, "Operands"), under its name
abbrev pub or_standard : List (List ℕ) → List (List ℕ)
or_standard [] = dash ∷ []
or_standard names = names

-- the texts that a script reads: the files of its names, where they are known
abbrev pub texts_by_name : (List ℕ → Option (List ℕ)) → (ℕ → Option (List ℕ)) → Program → ℕ → Option (List ℕ)
texts_by_name named others p k = option_map_or named (slice_get p.rfiles k) (others k)

-- what is known before a run of the files of -f, the inputs and those that a script reads, by name, and of texts without a name
pub record KnownFiles : Type 0 where
  pub scripts : WholeFiles
  pub inputs : FilesAhead
  pub named : List ℕ → Option (List ℕ)
  pub others : ℕ → Option (List ℕ)

-- a run: its script, and where they are known the bytes of the input and of the texts that the script reads
pub record KnownRun : Type 0 where
  pub script : Program
  pub input : Option (List ℕ)
  pub texts : ℕ → Option (List ℕ)

-- the run of a script that a line asks for: its input is what the files of the operands give, joined
abbrev pub run_of : KnownFiles → Line → Program → KnownRun
run_of shown l p = record {
  script = p;
  texts = texts_by_name shown.named shown.others p;
  input = joined_files shown.inputs (or_standard (map string_bytes l.operands.items));
}

-- the words are a command line, and the run that its line asks for is as `P` says
abbrev pub RunsAs : KnownFiles → ℕ → List Text → (KnownRun → Type 0) → Type 0
RunsAs shown nodes words P =
    IsCommandLine words × ((l : Line) × IsLine (matches_of sed_command words) l
    × ((p : Program) × GivesScript shown.scripts l nodes p × P (run_of shown l p)))

-- What is observed of devices: openings of files refused, failed reads of the input, and of each sink what it has and its failures.
pub record Observed : Type 0 where
  pub refusals : ℕ
  pub reads : ℕ
  pub contents : ℕ → Option (List ℕ)
  pub failures : ℕ → ℕ

-- the same, by what these functions say of inputs and of sinks
abbrev pub observe : {I O : Type 0} → (refusals reads : I → ℕ) → (O → ℕ → Option (List ℕ)) → (O → ℕ → ℕ) → I → O → Observed
observe refusals reads contents failures inputs sinks =
    record { refusals = refusals inputs; reads = reads inputs; contents = contents sinks; failures = failures sinks }

-- where a run's input and texts are known, its setting and its start are as `P` says
abbrev pub WhereKnown : KnownRun → (Setting → MachineState → Type 0) → Type 0
WhereKnown run P = ForSome run.input (λ bytes. (files : ℕ → List ℕ) → GivesFiles run.texts files →
    P (setting_of run.script files) (start_over run.script bytes))

-- what the sinks have gained is as `P` says of the run's output: all of it by `IsOutput`, a beginning of it by `BeginsOutput`
abbrev pub WritesAs : (Setting → MachineState → List (ℕ × ℕ) → Type 0) → KnownRun → (old new : Observed) → Type 0
WritesAs P run old new = WhereKnown run (λ g s. (out : List (ℕ × ℕ)) × SinksGain old.contents new.contents out × P g s out)

-- some sink has failed in this call
abbrev pub SinkFailed : (ℕ → ℕ) → (ℕ → ℕ) → Type 0
SinkFailed old new = (k : ℕ) × Rose (old k) (new k)

-- The run came to another end than the ordinary one. The device that the end names has failed, and the input at no other end. Where
-- input and texts are known, the end has its cause, after some moves, with what the sinks gained as its output, within the
-- limit. No whole line is lost where the input failed; `rest` says what it has still to give.
abbrev pub StopsEarly : LimitsView → (old new : Observed) → (Option (List ℕ) → Type 0) → KnownRun → Type 0
StopsEarly limits old new rest run =
    (end : Ended) × (end ≢ Done)
    × (SourceAtEnd old.reads new.reads end × SinkAtEnd limits.output old.failures new.failures end)
    × WhereKnown run (λ g s. (out : List (ℕ × ℕ))
    × GainedWithin limits.output nothing_before old.contents new.contents (Err end) out
    × (t : ℕ) × IsCause limits g s out end t
    × (end ≡ InputBroken → (more : Option (List ℕ)) × rest more × BreaksInLine g s run.input more limits.space t))

-- What a run's exit status says (XCU sed, "Exit Status"; which number above 0: this project's own); `rest`: what the input has still to give.
pub record StatusMeans (limits : LimitsView) (old new : Observed) (rest : Option (List ℕ) → Type 0) (status : ℕ) (run : KnownRun) :
    Type 0 where
  -- 0: all was written that the script writes, no input file was missed, and no read of the input failed
  pub whole : status ≡ 0 → WritesAs IsOutput run old new × (new.refusals ≡ old.refusals) × (new.reads ≡ old.reads)
  -- 2: all was written, no read of the input failed, and an input file couldn't be opened
  pub missed : status ≡ 2 → WritesAs IsOutput run old new × Rose old.refusals new.refusals × (new.reads ≡ old.reads)
  -- 4: a beginning was written, and the run stopped early; or all was, no read of the input failed, and a sink did when flushed
  pub stopped : status ≡ 4 → WritesAs BeginsOutput run old new
  pub cause : status ≡ 4 → StopsEarly limits old new rest run
      ⊎ (WritesAs IsOutput run old new × SinkFailed old.failures new.failures × (new.reads ≡ old.reads))

-- clap doesn't take the words, since they ask for help (this project's own)
abbrev pub AsksHelp : List Text → Type 0
AsksHelp words = (takes sed_command words ≡ false) × IsAmong DisplayHelp (fault_of sed_command words)

-- What the exit status says where help was asked for, by what each sink had and how often it had failed: it is 0 or 4, a text
-- was written, all of it for sink 0, and at 4 a sink has failed (this project's own). Which text help is, clap alone says.
pub record HelpMeans (old new : ℕ → Option (List ℕ)) (failures_old failures_new : ℕ → ℕ) (status : ℕ) : Type 0 where
  pub either : (status ≡ 0) ⊎ (status ≡ 4)
  pub help : (text : List ℕ) × SinksGain old new (to_sink 0 text)
  pub failed : status ≡ 4 → SinkFailed failures_old failures_new
