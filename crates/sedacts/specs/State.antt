-- A state of the editor (XCU sed, Extended Description), the limits of a run (this project's own), its script and its files.
use Rattle.std.specs.Prelude.{ℕ, Option, Bool, List, false, Some, is_some, slice_get, ◌≡◌}
use Rattle.std.specs.Option.{option_and_then, option_map, option_map_or}
use Rattle.sedacts.specs.Types.{Command, Substitution}
use Rattle.sedacts.specs.Substitute.{Occurrence}
use Rattle.sedre.specs.Tree.{WrittenExpression, expression_tree}
use Rattle.sedmatch.specs.Matching.{leftmost_longest, reported_groups}
use Rattle.sedscript.specs.Program.{Program}

pub record LimitsView : Type 0 where
  pub space : ℕ  -- bytes in each of the spaces
  pub queue : ℕ  -- entries of the queue
  pub look : ℕ  -- bytes read ahead
  pub turns : ℕ  -- turns of a run
  pub nodes : ℕ  -- nodes of an expression
  pub output : Option ℕ  -- bytes that each sink gains, where that is limited

-- what the queue contains: a text, or the contents of a file by its number (the functions a and r)
pub data Entry : Type 0 where
  text_entry : List ℕ → Entry
  file_entry : ℕ → Entry

-- what is to be done next
pub data Task : Type 0 where
  begin : Task  -- start a cycle with the next line
  rebegin : Task  -- start a cycle with the pattern space as it is
  do_at : ℕ → Task  -- reach the command of this number
  print_pattern : Task  -- write the pattern space, unless default output is suppressed
  empty_pattern : Task  -- empty the pattern space
  flush : Task  -- write the queue
  copy : ℕ → ℕ → Task  -- write a file's bytes from this place on
  fetch : Task  -- replace the pattern space by the next line
  join : Task  -- append a newline and the next line to the pattern space

-- A state without tasks has ended.
pub record MachineState : Type 0 where
  pub lines : List (List ℕ)  -- the lines left
  pub number : ℕ  -- the line number
  pub pattern : List ℕ  -- the pattern space
  pub hold : List ℕ  -- the hold space
  pub replaced : Bool  -- whether a substitution was made, as the function t sees it
  pub queue : List Entry  -- what is written at the end of the cycle
  pub ranges : List Bool  -- for each command, whether its range is active
  pub used : Option ℕ  -- the expression last used
  pub tasks : List Task  -- what is to be done
  pub turns : ℕ  -- the turns taken (this project's own count of the work)

-- a move: the state that it leads to, and the bytes that it writes, each with the number of its sink
pub record Move : Type 0 where
  pub next : MachineState
  pub writes : List (ℕ × ℕ)

-- what doesn't change in a run
pub record Setting : Type 0 where
  pub commands : List Command
  pub texts : List (List ℕ)  -- of `a`, `c` and `i`
  pub substitutions : List Substitution  -- of `s`
  pub tables : List (List ℕ)  -- of `y`
  pub finds : ℕ → List ℕ → Bool  -- whether the expression of a number has a match in a text
  pub search : ℕ → List ℕ → ℕ → Option Occurrence  -- its match that begins at a place or later
  pub quiet : Bool  -- whether default output is suppressed (-n)
  pub files : ℕ → List ℕ  -- the files to be read

-- whether the expression of a number has a match in a text (XBD 9.1)
abbrev pub finds_in : List WrittenExpression → ℕ → List ℕ → Bool
finds_in expressions k w = option_map_or (λ e. is_some (leftmost_longest (expression_tree e) w 0)) (slice_get expressions k) false

-- the match of an expression in a text, by its span, with its groups (XBD 9.1)
abbrev pub occurrence_at_span : WrittenExpression → List ℕ → ℕ × ℕ → Occurrence
occurrence_at_span e w span = record { start = span.0; end = span.1; groups = reported_groups (expression_tree e) w span.0 span.1 }

-- the leftmost-longest match of an expression that begins at a place or later
abbrev pub search_for : WrittenExpression → List ℕ → ℕ → Option Occurrence
search_for e w from = option_map (occurrence_at_span e w) (leftmost_longest (expression_tree e) w from)

-- the same of the expression of a number
abbrev pub search_in : List WrittenExpression → ℕ → List ℕ → ℕ → Option Occurrence
search_in expressions k w from = option_and_then (λ e. search_for e w from) (slice_get expressions k)

abbrev pub setting_of : Program → (ℕ → List ℕ) → Setting
setting_of p files = record {
  commands = p.commands;
  texts = p.texts;
  substitutions = p.substitutions;
  tables = p.tables;
  finds = finds_in p.expressions;
  search = search_in p.expressions;
  quiet = p.quiet;
  files = files;
}

-- the texts give these files
abbrev pub GivesFiles : (ℕ → Option (List ℕ)) → (ℕ → List ℕ) → Type 0
GivesFiles texts files = (k : ℕ) → texts k ≡ Some (files k)
