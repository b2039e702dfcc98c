-- The letters of the functions: what each stands for, and what is asked of it (XCU sed, "Editing Commands in sed").
use Rattle.std.specs.Prelude.{ℕ, List, Option, Some, None, is_some, Bool, true, if◌then◌else◌, ◌==◌, ◌+◌, false, not, ◌&&◌, nat_lt, slice_get, Result, Ok}
use Rattle.std.specs.Option.{option_len}
use Rattle.sedscript.specs.Types.{ScriptFault, UnknownCommand, TooManyAddresses, MissingLabel, MissingText, MissingName, Addresses, Strings, Verb, Argument, Nothing, Between, Pair, FlaggedPair}
use Rattle.sedscript.specs.declared.letters.Verb.TheVariants.{Plain, Open, Close, Comment, Label, Branch, Text, File, Substitute, Transliterate}
use Rattle.sedscript.specs.declared.types.Simple.TheVariants as simple
use Rattle.sedscript.specs.declared.types.TextUse.TheVariants.{Append, Insert, Change}
use Rattle.sedscript.specs.declared.types.BranchUse.TheVariants.{Always, IfReplaced}
use Rattle.sedscript.specs.declared.types.FileUse.TheVariants.{Read, Write}
use Rattle.sedscript.specs.Bytes.{Blank, Name, Line, past, bytes_between, fault, or_fault, ◌>>=◌}
use Rattle.sedscript.specs.Arguments.{to_command_end, text_from, name_from, spanned, own_delimiter, transliterate_strings, unless_fault, flags_after}
use Rattle.sedscript.specs.Strings.{replacement_fault, strings_fault}

-- what a letter stands for, if it is a function's
abbrev pub verb_of : ℕ → Option Verb
verb_of letter =
    if letter == 123 then Some Open  -- {
    else if letter == 125 then Some Close  -- }
    else if letter == 35 then Some Comment  -- #
    else if letter == 58 then Some Label  -- :
    else if letter == 98 then Some (Branch Always)  -- b
    else if letter == 116 then Some (Branch IfReplaced)  -- t
    else if letter == 97 then Some (Text Append)  -- a
    else if letter == 105 then Some (Text Insert)  -- i
    else if letter == 99 then Some (Text Change)  -- c
    else if letter == 114 then Some (File Read)  -- r
    else if letter == 119 then Some (File Write)  -- w
    else if letter == 115 then Some Substitute  -- s
    else if letter == 121 then Some Transliterate  -- y
    else if letter == 61 then Some (Plain simple.LineNumber)  -- =
    else if letter == 100 then Some (Plain simple.Delete)  -- d
    else if letter == 68 then Some (Plain simple.DeleteFirst)  -- D
    else if letter == 108 then Some (Plain simple.List)  -- l
    else if letter == 110 then Some (Plain simple.NextLine)  -- n
    else if letter == 78 then Some (Plain simple.AppendNext)  -- N
    else if letter == 112 then Some (Plain simple.Print)  -- p
    else if letter == 80 then Some (Plain simple.PrintFirst)  -- P
    else if letter == 113 then Some (Plain simple.Quit)  -- q
    else if letter == 103 then Some (Plain simple.CopyHold)  -- g
    else if letter == 71 then Some (Plain simple.AppendHold)  -- G
    else if letter == 104 then Some (Plain simple.Hold)  -- h
    else if letter == 72 then Some (Plain simple.HoldMore)  -- H
    else if letter == 120 then Some (Plain simple.Exchange)  -- x
    else None

-- the most addresses of a function; that `a`, `i`, `r` and `=` take two is this project's own, POSIX gives them one
abbrev pub most_addresses : Verb → ℕ
most_addresses Label = 0
most_addresses Close = 0
most_addresses Comment = 0
most_addresses (Plain simple.Quit) = 1
most_addresses verb = 2

-- whether a function becomes a command: all but `}`, `:` and `#` do
abbrev pub becomes_command : Verb → Bool
becomes_command Close = false
becomes_command Label = false
becomes_command Comment = false
becomes_command verb = true

-- whether a function opens a block, whether it closes one, and whether it reads a regular expression
abbrev pub is_open : Verb → Bool
is_open Open = true
is_open verb = false

abbrev pub is_close : Verb → Bool
is_close Close = true
is_close verb = false

abbrev pub reads_expression : Verb → Bool
reads_expression Substitute = true
reads_expression verb = false

-- what the letter at a place stands for, if it may have these addresses; none takes no `!` (this project's own)
abbrev pub allowed : Addresses → ℕ → Option Verb → Result Verb ScriptFault
allowed addresses at stands = or_fault stands UnknownCommand at >>= λ verb.
    if addresses.negate && most_addresses verb == 0 then fault UnknownCommand at
    else if nat_lt (most_addresses verb) (option_len addresses.first + option_len addresses.second)
    then fault TooManyAddresses at
    else Ok verb

-- the name of a label that begins at a place, and the end of its command. An empty one stands for the end of the script
abbrev pub name_at : List ℕ → ℕ → Result (Argument × ℕ) ScriptFault
name_at text from = to_command_end text (Between from (past Name text from)) (past Name text from)

-- the same of a label whose `:` is at a place: its name isn't empty
abbrev pub label_at : List ℕ → ℕ → ℕ → Result (Argument × ℕ) ScriptFault
label_at text place from = if past Name text from == from then fault MissingLabel place else name_at text from

-- the strings of the command `y` whose letter is at a place, and its end
unfoldable pub transliterate_at : List ℕ → ℕ → Result (Argument × ℕ) ScriptFault
transliterate_at text at =
    transliterate_strings text (at + 1) (own_delimiter (slice_get text (at + 1))) >>= λ s.
    unless_fault (strings_fault text s.delimiter at s.from s.middle s.to) (to_command_end text (Pair s) (s.to + 1))

-- these strings of an `s` and the flags after them, and its end. Its expression has this number, None if it is empty
abbrev pub flagged : List ℕ → Strings → Option ℕ → Result (Argument × ℕ) ScriptFault
flagged text s e = flags_after text s (not (is_some e)) >>= λ found. to_command_end text (FlaggedPair s e found.0) found.1

-- the same, where the groups of its replacement have numbers up to the limit, if there is one
unfoldable pub substituted : List ℕ → Strings → Option ℕ → Option ℕ → Result (Argument × ℕ) ScriptFault
substituted text s e limit =
    unless_fault (replacement_fault s.delimiter limit false (s.middle + 1) (bytes_between text (s.middle + 1) s.to))
    (flagged text s e)

-- what follows the letter at a place, which stands for this and reads no expression, and the place after it
abbrev pub argument_of : List ℕ → Verb → ℕ → Result (Argument × ℕ) ScriptFault
argument_of text Open at = Ok (Nothing, at + 1)
argument_of text Comment at = Ok (Nothing, past Line text (at + 1))
argument_of text Label at = label_at text at (past Blank text (at + 1))
argument_of text (Branch u) at = name_at text (past Blank text (at + 1))
argument_of text (Text t) at = spanned MissingText at (text_from text (past Blank text (at + 1)))
argument_of text (File u) at = spanned MissingName at (name_from text (at + 1))
argument_of text Transliterate at = transliterate_at text at
argument_of text verb at = to_command_end text Nothing (at + 1)
