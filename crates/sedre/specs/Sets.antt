-- Sets of bytes, each a character (this project's own): lists of 256 truth values; and the character classes of the POSIX
-- locale (XBD 7.3.1, its table). Bytes from 128 on are in no class (this project's own).
use Rattle.std.specs.Prelude.{ℕ, ◌+◌, ◌-◌, ◌==◌, List, Bool, true, false, not, ◌&&◌, ◌||◌, if◌then◌else◌, map, nat_le, slice_index_or, Option, Some, None, nat_eq, codes}
use Rattle.std.specs.List.{range_with_len}
use Rattle.std.specs.Cmp.Lexicographic.{pointwise}
use Rattle.sedre.specs.Types.{Class, Alnum, Alpha, Blank, Cntrl, Digit, Graph, Lower, Print, Punct, Space, Upper, Xdigit}

-- the bytes that pass a test
unfoldable pub set_of : (ℕ → Bool) → List Bool
set_of has = map has (range_with_len 0 256)

-- whether a byte is in a set
abbrev pub has : List Bool → ℕ → Bool
has set c = slice_index_or set c false

-- from one byte to another, both included
abbrev pub is_between : (least most : ℕ) → ℕ → Bool
is_between least most c = nat_le least c && nat_le c most

abbrev pub no_byte : List Bool
no_byte = set_of (λ c. false)

-- one byte
abbrev pub only : ℕ → List Bool
only b = set_of (λ c. c == b)

-- each byte but 0 (XBD 9.3.4; that 0 is left out: its NUL)
abbrev pub any_but_zero : List Bool
any_but_zero = set_of (λ c. not (c == 0))

-- the bytes of either set
abbrev pub union : List Bool → List Bool → List Bool
union these those = set_of (λ c. has these c || has those c)

abbrev pub is_upper : ℕ → Bool
is_upper c = is_between 65 90 c

abbrev pub is_lower : ℕ → Bool
is_lower c = is_between 97 122 c

-- the letter that differs from a byte in its ASCII case alone, or else the byte, for the flag `I` (this project's own)
abbrev pub other_case : ℕ → ℕ
other_case c = if is_upper c then c + 32 else if is_lower c then c - 32 else c

-- a set with both cases of each of its letters
abbrev pub folded_set : List Bool → List Bool
folded_set set = set_of (λ c. has set c || has set (other_case c))

-- the bytes that match for those of a set, where case counts or is folded
abbrev pub matching : (folded : Bool) → List Bool → List Bool
matching false set = set
matching true set = folded_set set

-- the bytes that are not in a set
abbrev pub complement : List Bool → List Bool
complement set = set_of (λ c. not (has set c))

abbrev pub is_digit : ℕ → Bool
is_digit c = is_between 48 57 c

abbrev pub is_alnum : ℕ → Bool
is_alnum c = is_upper c || is_lower c || is_digit c

-- whether a byte is in a class
abbrev pub in_class : Class → ℕ → Bool
in_class Alnum c = is_alnum c
in_class Alpha c = is_upper c || is_lower c
in_class Blank c = c == 9 || c == 32
in_class Cntrl c = is_between 0 31 c || c == 127
in_class Digit c = is_digit c
in_class Graph c = is_between 33 126 c
in_class Lower c = is_lower c
in_class Print c = is_between 32 126 c
in_class Punct c = is_between 33 126 c && not (is_alnum c)
in_class Space c = is_between 9 13 c || c == 32
in_class Upper c = is_upper c
in_class Xdigit c = is_digit c || is_between 65 70 c || is_between 97 102 c

-- the class of a name (XBD 9.3.5)
abbrev pub class_named : List ℕ → Option Class
class_named name =
    if pointwise nat_eq name (codes "alnum") then Some Alnum
    else if pointwise nat_eq name (codes "alpha") then Some Alpha
    else if pointwise nat_eq name (codes "blank") then Some Blank
    else if pointwise nat_eq name (codes "cntrl") then Some Cntrl
    else if pointwise nat_eq name (codes "digit") then Some Digit
    else if pointwise nat_eq name (codes "graph") then Some Graph
    else if pointwise nat_eq name (codes "lower") then Some Lower
    else if pointwise nat_eq name (codes "print") then Some Print
    else if pointwise nat_eq name (codes "punct") then Some Punct
    else if pointwise nat_eq name (codes "space") then Some Space
    else if pointwise nat_eq name (codes "upper") then Some Upper
    else if pointwise nat_eq name (codes "xdigit") then Some Xdigit
    else None
