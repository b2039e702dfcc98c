-- How the editor moves from one state to the next (XCU sed, Extended Description). Nothing is limited here.
use Rattle.std.specs.Prelude.{ℕ, suc, zero, ◌+◌, Bool, true, false, ◌||◌, Option, Some, None, List, [], ◌∷◌, ◌++◌, map, decimal, is_none, length, slice_get, slice_set, slice_index_or, if◌then◌else◌}
use Rattle.std.specs.Option.{option_map_or, unwrap_or}
use Rattle.std.specs.List.{after_first, before_first, list_any}
use Rattle.sedspace.specs.Lines.{is_newline}
use Rattle.sedacts.specs.Types.{Command, Action, Substitution}
use Rattle.sedscript.specs.declared.types.Action.TheVariants.{Block, Branch, File, Plain, Substitute, Text, Transliterate}
use Rattle.sedscript.specs.declared.types.TextUse.TheVariants.{Append, Change, Insert}
use Rattle.sedscript.specs.declared.types.BranchUse.TheVariants.{Always, IfReplaced}
use Rattle.sedscript.specs.declared.types.FileUse.TheVariants.{Read, Write}
use Rattle.sedscript.specs.declared.types.Simple.TheVariants as simple
use Rattle.sedacts.specs.Select.{◌>>=◌, CurrentLine, Selection, selects, stands_for}
use Rattle.sedacts.specs.Listing.{listed}
use Rattle.sedacts.specs.Substitute.{Occurrence, each_occurrence, to_replace, replaced_from}
use Rattle.sedacts.specs.State.{Entry, text_entry, file_entry, Task, begin, rebegin, do_at, print_pattern, empty_pattern, flush, copy, fetch, join, MachineState, Move, Setting}

abbrev pub newline : ℕ
newline = 10

-- bytes, each for this sink
abbrev pub to_sink : ℕ → List ℕ → List (ℕ × ℕ)
to_sink k [] = []
to_sink k (b ∷ bs) = (k, b) ∷ to_sink k bs

-- bytes and a newline, for this sink: whenever the pattern space is written, a newline follows it
abbrev pub line_to : ℕ → List ℕ → List (ℕ × ℕ)
line_to k bs = to_sink k (bs ++ newline ∷ [])

-- a move that writes these bytes, and one that writes nothing
abbrev pub writing : List (ℕ × ℕ) → MachineState → Option Move
writing bytes s = Some (record { next = s; writes = bytes })

abbrev pub quietly : MachineState → Option Move
quietly s = writing [] s

-- the state with these tasks
abbrev pub then_do : List Task → MachineState → MachineState
then_do tasks s = record s { tasks = tasks }

-- the next line has come: the line number counts it, and the function t forgets
abbrev pub with_line : List ℕ → List (List ℕ) → MachineState → MachineState
with_line pattern rest s = record s { lines = rest; number = s.number + 1; pattern = pattern; replaced = false }

-- a cycle starts with the next line; where there is none the run ends
abbrev pub begun_cycle : MachineState → List (List ℕ) → Option Move
begun_cycle s [] = quietly (then_do [] s)
begun_cycle s (line ∷ rest) = quietly (then_do (do_at 0 ∷ []) (record (with_line line rest s) { turns = s.turns + 1 }))

-- the queue is written in the order in which its entries were made
abbrev pub flushes : MachineState → List Task → List Entry → Option Move
flushes s rest [] = quietly (then_do rest s)
flushes s rest (text_entry bytes ∷ queue) = writing (line_to 0 bytes) (record s { queue = queue; tasks = flush ∷ rest })
flushes s rest (file_entry k ∷ queue) = quietly (record s { queue = queue; tasks = copy k 0 ∷ flush ∷ rest })

-- A file's bytes, with no newline added; where it can't be read, or no further, those read till then (this project's own).
abbrev pub copies_byte : MachineState → List Task → ℕ → ℕ → Option ℕ → Option Move
copies_byte s rest k o None = quietly (then_do rest s)
copies_byte s rest k o (Some b) = writing ((0, b) ∷ []) (record s { tasks = copy k (o + 1) ∷ rest; turns = s.turns + 1 })

-- the next line, of which `made` makes the pattern space; without one, to which no run comes here, the run ends (this project's own)
abbrev pub takes_next_line : MachineState → List Task → (List ℕ → List ℕ) → List (List ℕ) → Option Move
takes_next_line s rest made [] = quietly (then_do [] s)
takes_next_line s rest made (line ∷ lines) = quietly (then_do rest (with_line (made line) lines s))

-- These occurrences are replaced, if any. What this makes is written with `p`, then with `w` to the file (order: this project's own).
abbrev pub replaces : MachineState → Substitution → List Occurrence → Option Move
replaces s t [] = quietly s
replaces s t (m ∷ ms) =
    let w = replaced_from s.pattern t.replacement 0 (m ∷ ms) in
    writing ((if t.print then line_to 0 w else []) ++ option_map_or (λ k. line_to k w) t.file [])
    (record s { pattern = w; replaced = true })

-- Its expression, or what an empty one stands for, is then the one last used. Where it stands for none is no move (this project's own).
abbrev pub substitutes : Setting → MachineState → Option Substitution → Option Move
substitutes g s None = quietly s
substitutes g s (Some t) = do
  e ← stands_for t.expression s.used
  replaces (record s { used = Some e }) t (to_replace t.number t.global (each_occurrence (g.search e s.pattern) (length s.pattern)))

-- the byte that a table has for a byte
abbrev pub in_table : Option (List ℕ) → ℕ → ℕ
in_table table b = slice_index_or (unwrap_or table []) b b

-- whether no line of input is left
abbrev pub none_left : List (List ℕ) → Bool
none_left [] = true
none_left (line ∷ lines) = false

-- What a command that applies does (XCU sed, "Editing Commands in sed"). The state has taken the turn, and goes on
-- after the command unless a case says otherwise. `writes_text` says whether `c` writes its text here.
abbrev pub acts : Setting → MachineState → Bool → Action → Option Move
-- `{`: "Execute a list of sed editing commands only when the pattern space is selected", so they come next
acts g s writes_text (Block next) = quietly s
-- `a`: "Write text to standard output as described previously": it waits in the queue
acts g s writes_text (Text Append k) = quietly (record s { queue = s.queue ++ text_entry (unwrap_or (slice_get g.texts k) []) ∷ [] })
-- `b`: "Branch to the ':' command verb bearing the label"
acts g s writes_text (Branch Always target) = quietly (then_do (do_at target ∷ []) s)
-- `c`: "Delete the pattern space. With a 0 or 1 address or at the end of a 2-address range, place text on the output
-- and start the next cycle." The next cycle starts within a range too, and before it starts, here as after `d` and `D`, what
-- waits in the queue is written (this project's own).
acts g s writes_text (Text Change k) =
    writing (if writes_text then line_to 0 (unwrap_or (slice_get g.texts k) []) else [])
    (record s { pattern = []; tasks = flush ∷ begin ∷ [] })
-- `d`: "Delete the pattern space and start the next cycle."
acts g s writes_text (Plain simple.Delete) = quietly (record s { pattern = []; tasks = flush ∷ begin ∷ [] })
-- `D`: "If the pattern space contains no <newline>, start a normal new cycle as if the d command was issued. Otherwise,
-- delete the initial segment of the pattern space through the first <newline> and start the next cycle with the resultant
-- pattern space and without reading any new input."
acts g s writes_text (Plain simple.DeleteFirst) = quietly (
    if list_any is_newline s.pattern then record s { pattern = after_first is_newline s.pattern; tasks = flush ∷ rebegin ∷ [] }
    else record s { pattern = []; tasks = flush ∷ begin ∷ [] })
-- `i`: "Write text to standard output."
acts g s writes_text (Text Insert k) = writing (line_to 0 (unwrap_or (slice_get g.texts k) [])) s
-- `g`: "Replace the contents of the pattern space by the contents of the hold space."
acts g s writes_text (Plain simple.CopyHold) = quietly (record s { pattern = s.hold })
-- `G`: "Append to the pattern space a <newline> followed by the contents of the hold space."
acts g s writes_text (Plain simple.AppendHold) = quietly (record s { pattern = s.pattern ++ newline ∷ s.hold })
-- `h`: "Replace the contents of the hold space with the contents of the pattern space."
acts g s writes_text (Plain simple.Hold) = quietly (record s { hold = s.pattern })
-- `H`: "Append to the hold space a <newline> followed by the contents of the pattern space."
acts g s writes_text (Plain simple.HoldMore) = quietly (record s { hold = s.hold ++ newline ∷ s.pattern })
-- `x`: "Exchange the contents of the pattern and hold spaces."
acts g s writes_text (Plain simple.Exchange) = quietly (record s { pattern = s.hold; hold = s.pattern })
-- `l`: "Write the pattern space to standard output in a visually unambiguous form."
acts g s writes_text (Plain simple.List) = writing (to_sink 0 (listed s.pattern)) s
-- `n`: "Write the pattern space to standard output if the default output has not been suppressed, and replace the pattern
-- space with the next line of input, less its terminating <newline>. If there is no next line of input, the n command verb
-- shall branch to the end of the script and quit without starting a new cycle." There the pattern space is written once
-- (this project's own).
acts g s writes_text (Plain simple.NextLine) = quietly (
    if none_left s.lines then then_do (print_pattern ∷ flush ∷ []) s
    else then_do (print_pattern ∷ flush ∷ empty_pattern ∷ fetch ∷ s.tasks) s)
-- `N`: "Append the next line of input, less its terminating <newline>, to the pattern space, using an embedded <newline>
-- to separate the appended material from the original material." Where no line is left, `takes_next_line` ends the run: "quit
-- without starting a new cycle or copying the pattern space to standard output".
acts g s writes_text (Plain simple.AppendNext) = quietly (then_do (flush ∷ join ∷ s.tasks) s)
-- `=`: writes the line number and a newline
acts g s writes_text (Plain simple.LineNumber) = writing (line_to 0 (decimal s.number)) s
-- `p`: "Write the pattern space to standard output."
acts g s writes_text (Plain simple.Print) = writing (line_to 0 s.pattern) s
-- `P`: "Write the pattern space, up to the first <newline>, to standard output."
acts g s writes_text (Plain simple.PrintFirst) = writing (line_to 0 (before_first is_newline s.pattern)) s
-- `q`: "Branch to the end of the script and quit without starting a new cycle."
acts g s writes_text (Plain simple.Quit) = quietly (then_do (print_pattern ∷ flush ∷ []) s)
-- `r`: "Copy the contents of rfile to standard output as described previously": its entry waits in the queue
acts g s writes_text (File Read k) = quietly (record s { queue = s.queue ++ file_entry k ∷ [] })
-- `s`: "Substitute the replacement string for instances of the BRE in the pattern space."
acts g s writes_text (Substitute k) = substitutes g s (slice_get g.substitutions k)
-- `t`: "Branch to the ':' command verb bearing the label if any substitutions have been made since the most recent reading
-- of an input line or execution of a t"
acts g s writes_text (Branch IfReplaced target) =
    quietly (if s.replaced then then_do (do_at target ∷ []) (record s { replaced = false }) else s)
-- `w`: "Append (write) the pattern space to wfile."
acts g s writes_text (File Write k) = writing (line_to k s.pattern) s
-- `y`: "Replace all occurrences of characters in string1 with the corresponding characters in string2."
acts g s writes_text (Transliterate k) = quietly (record s { pattern = map (in_table (slice_get g.tables k)) s.pattern })

-- What a command that doesn't apply does: `{` passes over its block.
abbrev pub goes_past : MachineState → Action → Option Move
goes_past s (Block next) = quietly (then_do (do_at next ∷ []) s)
goes_past s other = quietly s

-- what addresses are judged by in this state
abbrev pub current_of : Setting → MachineState → CurrentLine
current_of g s = record { number = s.number; last = none_left s.lines; pattern = s.pattern; finds = g.finds; used = s.used }

-- the state that has reached command k: the turn is taken, its addresses are judged, and the next task is the next command
abbrev pub having_reached : MachineState → ℕ → Selection → MachineState
having_reached s k c =
    record s { ranges = slice_set s.ranges k c.active; used = c.used; tasks = do_at (k + 1) ∷ []; turns = s.turns + 1 }

-- whether `c` writes its text: without a range, at its end (never, if the input ends first), and with `!` (both this project's own)
abbrev pub writes_text_at : Command → Bool → Bool
writes_text_at c end = is_none c.second || end || c.negate

-- A command, or the end of the script. A command that needs an expression which isn't there has no move.
abbrev pub reach : Setting → MachineState → ℕ → Option Command → Option Move
reach g s k None = quietly (then_do (print_pattern ∷ flush ∷ empty_pattern ∷ begin ∷ []) s)
reach g s k (Some c) = do
  choice ← selects (current_of g s) (slice_index_or s.ranges k false) c
  if choice.yes then acts g (having_reached s k choice) (writes_text_at c choice.end) c.action
      else goes_past (having_reached s k choice) c.action

-- by the first task
abbrev pub first_task : Setting → MachineState → List Task → Option Move
first_task g s [] = None
first_task g s (begin ∷ rest) = begun_cycle s s.lines
-- no line is read, so that what `t` asks for stays (this project's own)
first_task g s (rebegin ∷ rest) = quietly (record s { tasks = do_at 0 ∷ []; turns = s.turns + 1 })
first_task g s (do_at k ∷ rest) = reach g s k (slice_get g.commands k)
first_task g s (print_pattern ∷ rest) = writing (if g.quiet then [] else line_to 0 s.pattern) (then_do rest s)
first_task g s (empty_pattern ∷ rest) = quietly (record s { pattern = []; tasks = rest })
first_task g s (flush ∷ rest) = flushes s rest s.queue
first_task g s (copy k o ∷ rest) = copies_byte s rest k o (slice_get (g.files k) o)
first_task g s (fetch ∷ rest) = takes_next_line s rest (λ line. line) s.lines
first_task g s (join ∷ rest) = takes_next_line s rest (λ line. s.pattern ++ newline ∷ line) s.lines

-- A state that has ended has no move. One that has tasks and no move needs an expression that isn't there.
unfoldable pub next_move : Setting → MachineState → Option Move
next_move g s = first_task g s s.tasks

-- the state after t moves; one that has no move stays, and writes nothing
unfoldable pub after : Setting → MachineState → ℕ → MachineState
after g s zero = s
after g s (suc t) = option_map_or (λ m. m.next) (next_move g (after g s t)) (after g s t)

-- what the first t moves write, for all sinks jointly
unfoldable pub written : Setting → MachineState → ℕ → List (ℕ × ℕ)
written g s zero = []
written g s (suc t) = written g s t ++ option_map_or (λ m. m.writes) (next_move g (after g s t)) []

-- where a run starts
abbrev pub start : List Command → List (List ℕ) → MachineState
start commands lines = record {
  lines = lines;
  number = 0;
  pattern = [];
  hold = [];
  replaced = false;
  queue = [];
  ranges = map (λ _. false) commands;
  used = None;
  tasks = begin ∷ [];
  turns = 0;
}
