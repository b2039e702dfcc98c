-- What follows the letters of functions: texts, names, strings with their flags, and its end (XCU sed, "Editing Commands in sed").
use Rattle.std.specs.Prelude.{ℕ, zero, suc, ◌+◌, List, [], ◌∷◌, Bool, true, false, ◌&&◌, ◌||◌, Option, Some, None, is_some, if◌then◌else◌, ◌==◌, Result, Ok, Err, drop, slice_get, unwrap_or, option_map}
use Rattle.std.specs.List.{prefix_len, take_while}
use Rattle.std.specs.Result.{result_unwrap_or}
use Rattle.sedre.specs.Brackets.{delimiter_at}
use Rattle.sedscript.specs.Types.{ScriptFault, Reason, TrailingBytes, UnknownFlag, RepeatedFlag, BadNumber, MissingName, FlagOnEmpty, OpenDelimiter, BadDelimiter, Argument, Between, Flags, Strings, Inside, InLine, Escape, Due}
use Rattle.sedscript.specs.Bytes.{Blank, Line, past, is_blank, is_byte, is_digit, with_digits, fault, or_fault, ◌>>=◌}
use Rattle.sedscript.specs.Strings.{string_end}

-- whether a command may end before this byte: a newline, `;` or no byte; `}` or `#` (these two, and a `;` after a `}`: this project's own)
abbrev pub may_end : Option ℕ → Bool
may_end None = true
may_end (Some b) = b == 10 || b == 59 || b == 125 || b == 35

-- what follows a letter and the end of its command, if only blanks come between a place and that end
abbrev pub to_command_end : List ℕ → Argument → ℕ → Result (Argument × ℕ) ScriptFault
to_command_end text a at =
    if may_end (slice_get text (past Blank text at)) then Ok (a, past Blank text at)
    else fault TrailingBytes (past Blank text at)

-- whether a text ends before this byte: a newline that isn't escaped
abbrev pub ends_text : Inside → ℕ → Bool
ends_text Escape b = false
ends_text how b = b == 10

-- where the byte after this one is: within a line, after a backslash that escapes it, or where a further line is due
abbrev pub inside_after : Inside → ℕ → Inside
inside_after Escape b = if b == 10 then Due else InLine
inside_after how b = if b == 92 then Escape else InLine

-- where a text whose rest begins at a place ends, if no further line is due there (that this is a fault: this project's own)
abbrev pub text_end : Inside → ℕ → List ℕ → Option ℕ
text_end InLine at [] = Some at
text_end how at [] = None
text_end how at (b ∷ bs) = if ends_text how b then Some at else text_end (inside_after how b) (suc at) bs

-- where the text of `a`, `i` or `c` that is due at a place, after its letter and blanks, begins and ends. Without a backslash
-- and a newline before it it has one line and isn't empty; after these it may be (both this project's own)
unfoldable pub text_from : List ℕ → ℕ → Option (ℕ × ℕ)
text_from text from =
    if is_byte 92 (slice_get text from) && is_byte 10 (slice_get text (from + 1))
    then option_map (λ to. (from + 2, to)) (text_end Due (from + 2) (drop (from + 2) text))
    else if unwrap_or (slice_get text from) 10 == 10 then None
    else option_map (λ to. (from, to)) (text_end InLine from (drop from text))

-- where a file's name begins and ends, if it isn't empty: after blanks, if any, up to the newline, with all between (this project's own)
unfoldable pub name_from : List ℕ → ℕ → Option (ℕ × ℕ)
name_from text at =
    if past Line text (past Blank text at) == past Blank text at then None
    else Some (past Blank text at, past Line text (past Blank text at))

-- the text or the name that was found after the letter at a place, and the place after it, or else this fault
abbrev pub spanned : Reason → ℕ → Option (ℕ × ℕ) → Result (Argument × ℕ) ScriptFault
spanned reason place found = or_fault found reason place >>= λ span. Ok (Between span.0 span.1, span.1)

abbrev pub no_flags : Flags
no_flags = record { number = None; global = false; print = false; folded = false; file = None }

-- the flags with this number, whose digits begin at a place: from 1 to 2 ^ 64 - 1 (the end, and leading zeros: this project's own)
abbrev pub with_flag_number : Flags → ℕ → Option ℕ → Result Flags ScriptFault
with_flag_number f at (Some (suc n)) = Ok (record f { number = Some (suc n) })
with_flag_number f at number = fault BadNumber at

-- the flags with the number that these digits at a place write, if they have none (this project's own)
abbrev pub with_number : Flags → ℕ → List ℕ → Result Flags ScriptFault
with_number f at digits = if is_some f.number then fault RepeatedFlag at else with_flag_number f at (with_digits (Some 0) digits)

-- these flags, unless the one at a place was there already (this project's own)
abbrev pub once : (already : Bool) → ℕ → Flags → Result Flags ScriptFault
once already at f = if already then fault RepeatedFlag at else Ok f

-- the flags with the one at a place: `g`, `p`, or `I` where the regular expression isn't empty (this project's own)
abbrev pub with_flag : (empty : Bool) → Flags → ℕ → ℕ → Result Flags ScriptFault
with_flag empty f at b =
    if b == 103 then once f.global at (record f { global = true })
    else if b == 112 then once f.print at (record f { print = true })
    else if b == 73 then (if empty then fault FlagOnEmpty at else once f.folded at (record f { folded = true }))
    else fault UnknownFlag at

-- whether flags end before this byte: a blank, or what ends a command
abbrev pub ends_flags : ℕ → Bool
ends_flags b = is_blank b || may_end (Some b)

-- the flags with the file of the `w` at a place, and the place after its name
abbrev pub with_file : Flags → ℕ → Option (ℕ × ℕ) → Result (Flags × ℕ) ScriptFault
with_file f at found = or_fault found MissingName at >>= λ name. Ok (record f { file = Some name }, name.1)

-- the flags from a place on, in any order, and the place after them, before a blank or what ends a command. `w` is the last:
-- the rest of its line is a file's name. The first `skip` bytes are digits that are read already
abbrev pub flags_from : List ℕ → (empty : Bool) → Flags → (skip : ℕ) → ℕ → List ℕ → Result (Flags × ℕ) ScriptFault
flags_from text empty f skip at [] = Ok (f, at)
flags_from text empty f (suc skip) at (b ∷ bs) = flags_from text empty f skip (suc at) bs
flags_from text empty f zero at (b ∷ bs) =
    if is_digit b
    then (with_number f at (b ∷ take_while is_digit bs) >>= λ g. flags_from text empty g (prefix_len is_digit bs) (suc at) bs)
    else if ends_flags b then Ok (f, at)
    else if b == 119 then with_file f at (name_from text (at + 1))
    else (with_flag empty f at b >>= λ g. flags_from text empty g zero (suc at) bs)

-- the byte, if it may be a delimiter: neither a backslash nor a newline
abbrev pub own_delimiter : Option ℕ → Option ℕ
own_delimiter None = None
own_delimiter (Some d) = if d == 92 || d == 10 then None else Some d

-- the two strings after a delimiter at a place, the first up to the next, if found. Where the second `breaks`, it may break by `\` newline
abbrev pub strings_after : List ℕ → (breaks : Bool) → ℕ → ℕ → Option ℕ → Result Strings ScriptFault
strings_after text breaks d place first =
    or_fault first OpenDelimiter place >>= λ middle.
    or_fault (string_end breaks d false (middle + 1) (drop (middle + 1) text)) OpenDelimiter middle >>= λ to.
    Ok (record { delimiter = d; from = place + 1; middle = middle; to = to })

-- the strings of `s`, whose delimiter is at a place: a regular expression and a replacement
abbrev pub substitute_strings : List ℕ → ℕ → Option ℕ → Result Strings ScriptFault
substitute_strings text place own =
    or_fault own BadDelimiter place >>= λ d. strings_after text true d place (delimiter_at text (place + 1) d)

-- the strings of `y`, whose delimiter is at a place
abbrev pub transliterate_strings : List ℕ → ℕ → Option ℕ → Result Strings ScriptFault
transliterate_strings text place own =
    or_fault own BadDelimiter place >>= λ d.
    strings_after text false d place (string_end false d false (place + 1) (drop (place + 1) text))

-- what is read, where nothing before it has a fault
abbrev pub unless_fault : {A : Type 0} → Option ScriptFault → Result A ScriptFault → Result A ScriptFault
unless_fault None read = read
unless_fault (Some f) read = Err f

-- the flags of `s`, whose regular expression is empty or not, and the place after them
abbrev pub flags_after : List ℕ → Strings → (empty : Bool) → Result (Flags × ℕ) ScriptFault
flags_after text s empty = flags_from text empty no_flags 0 (s.to + 1) (drop (s.to + 1) text)

-- whether letters match without regard to case, by the flags that were read (this project's own)
abbrev pub folds : Result (Flags × ℕ) ScriptFault → Bool
folds read = (result_unwrap_or read (no_flags, 0)).0.folded
