-- The strings between the delimiters of `s` and `y`: replacements, and what `y` changes (XCU sed, "Editing Commands in sed").
use Rattle.std.specs.Prelude.{ℕ, suc, List, [], ◌∷◌, Bool, false, not, ◌&&◌, Option, Some, None, if◌then◌else◌, ◌==◌, ◌-◌, map, true, nat_lt, ◌+◌, length, ◌||◌, is_none, option_map}
use Rattle.std.specs.List.{cons_option, list_any, range_with_len}
use Rattle.std.specs.Option.{option_or}
use Rattle.sedscript.specs.Types.{ScriptFault, BadEscape, GroupAbsent, LengthsDiffer, RepeatedByte, Piece, literal, whole, group, Char}
use Rattle.sedscript.specs.Bytes.{is_digit, bytes_between, fault_if}
pub use Rattle.sedre.specs.Tokens.{is_letter}

-- whether a byte is a backslash that escapes the next one, given whether it is escaped itself
abbrev pub escapes : Bool → ℕ → Bool
escapes escaped b = b == 92 && not escaped

-- where a string between delimiters ends: at the first delimiter that isn't escaped, before any newline. An escaped newline may
-- occur in a replacement, which `breaks` lines there, but not in a string of `y` (this project's own)
abbrev pub string_end : (breaks : Bool) → ℕ → (escaped : Bool) → ℕ → List ℕ → Option ℕ
string_end breaks delimiter escaped at [] = None
string_end breaks delimiter escaped at (b ∷ bs) =
    if b == 10 && not (breaks && escaped) then None
    else if escaped then string_end breaks delimiter false (suc at) bs
    else if b == delimiter then Some at
    else string_end breaks delimiter (b == 92) (suc at) bs

-- what a byte after a backslash stands for: a digit for that group of the match, `n` for a newline, a newline for itself. This
-- project's own: the delimiter stands for itself, whatever byte it is, 0 for the whole match, `t` for a tab, other bytes that
-- are no letters for themselves, and other letters are refused
abbrev pub escaped_piece : ℕ → ℕ → Option Piece
escaped_piece delimiter b =
    if b == delimiter then Some (literal b)
    else if b == 48 then Some whole
    else if is_digit b then Some (group (b - 48))
    else if b == 110 then Some (literal 10)
    else if b == 116 then Some (literal 9)
    else if is_letter b then None
    else Some (literal b)

-- the piece that a byte ends, given whether it is escaped: `&` alone is the whole match. None where it ends none
abbrev pub piece_of : ℕ → Bool → ℕ → Option Piece
piece_of delimiter true b = escaped_piece delimiter b
piece_of delimiter false b = if b == 92 then None else if b == 38 then Some whole else Some (literal b)

-- the pieces of a replacement's text, given whether its first byte is escaped; an escape that is refused leaves none
abbrev pub pieces_from : ℕ → Bool → List ℕ → List Piece
pieces_from delimiter escaped [] = []
pieces_from delimiter escaped (b ∷ bs) = cons_option (piece_of delimiter escaped b) (pieces_from delimiter (escapes escaped b) bs)

-- the pieces of a replacement's text
abbrev pub pieces_of : ℕ → List ℕ → List Piece
pieces_of delimiter text = pieces_from delimiter false text

-- whether a group's number is above the limit. The empty expression sets none (this project's own)
abbrev pub exceeds : Option ℕ → ℕ → Bool
exceeds None k = false
exceeds (Some limit) k = nat_lt limit k

-- what is wrong with a piece, or with an escape that stands for none, at a place (this project's own)
abbrev pub piece_fault : Option ℕ → ℕ → Option Piece → Option ScriptFault
piece_fault limit place None = Some (record { place = place; reason = BadEscape })
piece_fault limit place (Some (group k)) = fault_if (exceeds limit k) GroupAbsent place
piece_fault limit place other = None

-- the first fault of a replacement's text that begins at a place, given whether its first byte is escaped
abbrev pub replacement_fault : ℕ → Option ℕ → Bool → ℕ → List ℕ → Option ScriptFault
replacement_fault delimiter limit escaped at [] = None
replacement_fault delimiter limit true at (b ∷ bs) =
    option_or (piece_fault limit (at - 1) (escaped_piece delimiter b)) (replacement_fault delimiter limit false (suc at) bs)
replacement_fault delimiter limit false at (b ∷ bs) = replacement_fault delimiter limit (b == 92) (suc at) bs

-- what a byte after a backslash stands for: the delimiter (whatever byte it is: this project's own) and the backslash for
-- themselves, `n` for a newline; `t` for a tab, and other bytes are refused (both this project's own)
abbrev pub escaped_byte : ℕ → ℕ → Option ℕ
escaped_byte delimiter b =
    if b == delimiter || b == 92 then Some b
    else if b == 110 then Some 10
    else if b == 116 then Some 9
    else None

-- the byte of a string that ends with the one at a place, given whether that is escaped. None where none ends there
abbrev pub char_of : ℕ → Bool → ℕ → ℕ → Option Char
char_of delimiter true at b = option_map (λ x. record { byte = x; place = at - 1 }) (escaped_byte delimiter b)
char_of delimiter false at b = if b == 92 then None else Some (record { byte = b; place = at })

-- the bytes of a string that begins at a place, given whether the first is escaped; an escape that is refused leaves none
abbrev pub chars_from : ℕ → Bool → ℕ → List ℕ → List Char
chars_from delimiter escaped at [] = []
chars_from delimiter escaped at (b ∷ bs) = cons_option (char_of delimiter escaped at b) (chars_from delimiter (escapes escaped b) (suc at) bs)

-- the bytes of the string between two places
abbrev pub chars_of : List ℕ → ℕ → ℕ → ℕ → List Char
chars_of text delimiter from to = chars_from delimiter false from (bytes_between text from to)

-- the bytes without their places
abbrev pub bytes_of : List Char → List ℕ
bytes_of cs = map (λ c. c.byte) cs

-- the first escape that is refused in a string that begins at a place, given whether its first byte is escaped
abbrev pub string_fault : ℕ → Bool → ℕ → List ℕ → Option ScriptFault
string_fault delimiter escaped at [] = None
string_fault delimiter escaped at (b ∷ bs) =
    if escaped && is_none (escaped_byte delimiter b) then Some (record { place = at - 1; reason = BadEscape })
    else string_fault delimiter (escapes escaped b) (suc at) bs

-- whether a byte is one of these
abbrev pub is_among : List ℕ → ℕ → Bool
is_among bs b = list_any (λ x. x == b) bs

-- the place of the first byte that occurs a second time, given those before the string
abbrev pub repeated_in : List ℕ → List Char → Option ℕ
repeated_in before [] = None
repeated_in before (c ∷ cs) = if is_among before c.byte then Some c.place else repeated_in (c.byte ∷ before) cs

-- the fault of a byte that occurs a second time at a place, if one does
abbrev pub repeated_fault : Option ℕ → Option ScriptFault
repeated_fault found = option_map (λ at. record { place = at; reason = RepeatedByte }) found

-- the first fault of the strings of a `y`, parted at `middle`. That no byte occurs twice, and equal lengths: this project's own
abbrev pub strings_fault : List ℕ → ℕ → ℕ → ℕ → ℕ → ℕ → Option ScriptFault
strings_fault text delimiter letter from middle to =
    option_or (string_fault delimiter false from (bytes_between text from middle))
    (option_or (string_fault delimiter false (middle + 1) (bytes_between text (middle + 1) to))
    (option_or (repeated_fault (repeated_in [] (chars_of text delimiter from middle)))
    (fault_if (not (length (chars_of text delimiter from middle) == length (chars_of text delimiter (middle + 1) to)))
    LengthsDiffer letter)))

-- the byte of string2 at the first place that a byte has in string1, or the byte itself where there is none
abbrev pub counterpart : List ℕ → List ℕ → ℕ → ℕ
counterpart (s ∷ string1) (t ∷ string2) b = if s == b then t else counterpart string1 string2 b
counterpart string1 string2 b = b

-- the table of a `y` with these strings: what stands for each byte
unfoldable pub table_of : List ℕ → List ℕ → List ℕ
table_of string1 string2 = map (counterpart string1 string2) (range_with_len 0 256)
