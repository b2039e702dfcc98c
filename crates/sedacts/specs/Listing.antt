-- What the function `l` writes (XCU sed, "Write the pattern space to standard output in a visually unambiguous form").
use Rattle.std.specs.Prelude.{ℕ, ◌+◌, ◌/◌, ◌%◌, List, [], ◌∷◌, ◌++◌, length, nat_lt, nat_le, ◌==◌, ◌&&◌, if◌then◌else◌}

-- a backslash and a byte
abbrev pub backslashed : ℕ → List ℕ
backslashed b = 92 ∷ b ∷ []

-- "one three-digit octal number (with a preceding <backslash>)"
abbrev pub octal : ℕ → List ℕ
octal b = 92 ∷ (48 + b / 64) ∷ (48 + b / 8 % 8) ∷ (48 + b % 8) ∷ []

-- the escapes \\ \a \b \f \r \t \v of XBD 5, \n for a newline (this project's own), printable bytes as they are, others octal
abbrev pub listed_byte : ℕ → List ℕ
listed_byte b =
    if b == 92 then backslashed 92
    else if b == 7 then backslashed 97
    else if b == 8 then backslashed 98
    else if b == 12 then backslashed 102
    else if b == 13 then backslashed 114
    else if b == 9 then backslashed 116
    else if b == 11 then backslashed 118
    else if b == 10 then backslashed 110
    else if nat_le 32 b && nat_le b 126 then b ∷ []
    else octal b

-- the most bytes of a piece ("Long lines shall be folded, with the point of folding indicated by writing a <backslash>
-- followed by a <newline>; the length at which folding occurs is unspecified": this length is this project's own)
abbrev pub most_listed : ℕ
most_listed = 69

-- The listing of the bytes that are left, where the current piece has so many bytes already: a piece never cuts an item.
-- "The end of each line shall be marked with a '$'", which is no item and causes no fold.
abbrev pub listed_from : ℕ → List ℕ → List ℕ
listed_from column [] = 36 ∷ 10 ∷ []
listed_from column (b ∷ bs) =
    if nat_lt most_listed (column + length (listed_byte b))
    then 92 ∷ 10 ∷ listed_byte b ++ listed_from (length (listed_byte b)) bs
    else listed_byte b ++ listed_from (column + length (listed_byte b)) bs

-- the listing of a text
unfoldable pub listed : List ℕ → List ℕ
listed bytes = listed_from 0 bytes
