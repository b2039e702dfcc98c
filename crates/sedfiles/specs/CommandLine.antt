-- The command line `sed [-n] [-E] [-e script].. [-f file].. [script] [file..]`, as `clap` reads it (XCU sed, Synopsis).
-- That options may come after operands too is this project's own.
use Rattle.std.specs.Prelude.{◌≡◌, ℕ, Bool, true, List, [], ◌∷◌, Option, Some, None, map, filter_map, codes, nat_lt, unwrap_or, string_bytes}
use Rattle.clap.specs.Words.{App, Row, Rule, Text, all_of, count_of, fault_of, new_app, new_rule}
use Rattle.sedfiles.specs.Types.{Append, ArgAction, Count, File, Line, Part, Script}

-- an option with its letter
abbrev pub option_rule : Text → ℕ → ArgAction → Rule
option_rule name letter action = record (new_rule name) { short = Some letter; action = Some action }

-- what a command line may have
abbrev pub rules : List Rule
rules =
    -- -n and -E, each of which may be given more than once
    option_rule (codes "quiet") 110 Count ∷ option_rule (codes "extended") 69 Count
    -- -e with a script, and -f with the name of a script's file
    ∷ option_rule (codes "expression") 101 Append ∷ option_rule (codes "file") 102 Append
    -- the script, where it isn't given by -e or -f, and the names of the input files
    ∷ record (new_rule (codes "operand")) { action = Some Append } ∷ []

-- what clap reads the words by, which begin after the command's name
unfoldable pub sed_command : App
sed_command = record { top = record (new_app (codes "sed")).top { no_binary_name = true; rules = rules }; subs = [] }

-- clap finds no fault in the words
abbrev pub IsCommandLine : List Text → Type 0
IsCommandLine words = fault_of sed_command words ≡ []

-- whether an option was given at least once
abbrev pub is_given : Text → List Row → Bool
is_given id rows = nat_lt 0 (count_of id rows)

-- the words given to an option, or the operands, in their order
abbrev pub given_to : Text → List Row → List Text
given_to id rows = unwrap_or (all_of id rows) []

-- the script of a part, or None where the part is a file
abbrev pub script_in : Part → Option Text
script_in (Script s) = Some (string_bytes s)
script_in (File s) = None

-- the name of a part's file, or None where the part is a script
abbrev pub part_file : Part → Option Text
part_file (Script s) = None
part_file (File s) = Some (string_bytes s)

-- the parts have these scripts and these files, each in their order
abbrev pub AreParts : List Part → (scripts files : List Text) → Type 0
AreParts parts scripts files = (filter_map script_in parts ≡ scripts) × (filter_map part_file parts ≡ files)

-- The parts of the script, and the operands that are files: the scripts of -e and the files of -f, each in their order; without
-- them, the first operand is the script (XCU sed, "Operands"). As no contract of clap says how these mingle, any order is taken here.
abbrev pub AsksParts : List Text → List Text → List Text → List Part → List Text → Type 0
AsksParts [] [] (operand ∷ operands) parts names = AreParts parts (operand ∷ []) [] × (names ≡ operands)
AsksParts scripts files operands parts names = AreParts parts scripts files × (names ≡ operands)

-- what the matches of the words say of a line
pub record IsLine (rows : List Row) (l : Line) : Type 0 where
  pub quiet : l.quiet ≡ is_given (codes "quiet") rows
  pub extended : l.extended ≡ is_given (codes "extended") rows
  pub asks : AsksParts (given_to (codes "expression") rows) (given_to (codes "file") rows) (given_to (codes "operand") rows)
      l.parts.items (map string_bytes l.operands.items)
