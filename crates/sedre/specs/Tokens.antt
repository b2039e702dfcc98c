-- The symbols and tokens of a text outside bracket expressions: sets of bytes, anchors, groups, alternations, repetitions (XBD 9.3, 9.4).
use Rattle.std.specs.Prelude.{ℕ, List, [], ◌∷◌, Bool, not, ◌||◌, Option, Some, None, if◌then◌else◌, ◌==◌, ◌+◌, ◌*◌, ◌-◌, drop, take, false, ◌&&◌, nat_lt, nat_le, true, Result, Ok, Err, option_and_then}
use Rattle.std.specs.List.{prefix_len}
use Rattle.sedre.specs.Sets.{is_between, is_upper, is_lower, is_digit, only, any_but_zero, matching}
use Rattle.sedre.specs.Brackets.{is_at_front, is_delimiter, list_at}
use Rattle.sedre.specs.Types.{Kind, Basic, Extended, LastBackslash, UnknownEscape, BackReference, BadInterval, NothingToRepeat, Symbol, Literal, AnyByte, Opening, Closing, Parting, Star, Plus, Question, Interval, IntervalEnd, BracketOpening, Caret, Dollar, Unknown, ExprReason, ExprFault, ByteSet, Bounds, Token, Byte, Open, Close, Bar, Repeat, AtBegin, AtEnd, NextToken, Is, Ends, Bad}

abbrev pub is_letter : ℕ → Bool
is_letter c = is_upper c || is_lower c

-- the operators of an extended expression, and after a backslash of a basic one, where \| \+ \? are this project's own
abbrev pub operator : ℕ → (other : Symbol) → Symbol
operator b other =
    if b == 40 then Opening  -- (
    else if b == 41 then Closing  -- )
    else if b == 124 then Parting  -- |
    else if b == 43 then Plus  -- +
    else if b == 63 then Question  -- a question mark
    else if b == 123 then Interval  -- {
    else other

-- the symbols that both kinds share, where no backslash comes before them; any other byte is a literal here
abbrev pub alone_in_both : ℕ → Symbol
alone_in_both b =
    if b == 42 then Star  -- *
    else if b == 46 then AnyByte  -- .
    else if b == 91 then BracketOpening  -- [
    else if b == 94 then Caret  -- ^
    else if b == 36 then Dollar  -- $
    else Literal b

-- a byte with no backslash before it
abbrev pub alone : Kind → ℕ → Symbol
alone Basic b = alone_in_both b
alone Extended b = operator b (alone_in_both b)

-- another byte after a backslash: \n is a newline (XCU sed). This project's own: \t is a tab, back-references are left out by
-- name, other letters and digits and < > ' ` are refused, and an ordinary byte is itself
abbrev pub escaped_literal : ℕ → Symbol
escaped_literal b =
    if b == 110 then Literal 10  -- n
    else if b == 116 then Literal 9  -- t
    else if is_between 49 57 b then Unknown BackReference
    else if is_letter b || b == 48 || b == 60 || b == 62 || b == 39 || b == 96 then Unknown UnknownEscape
    else Literal b

-- a byte after a backslash
abbrev pub escaped : Kind → ℕ → Symbol
escaped Basic b = if b == 125 then IntervalEnd else operator b (escaped_literal b)  -- }
escaped Extended b = escaped_literal b

-- the symbol at the front of what is left of a text, and its bytes; \ and the delimiter are the delimiter itself (XCU sed,
-- "Regular Expressions in sed"). That \ at the end is refused, and the delimiter alone keeps its meaning, is this project's own
abbrev pub front_symbol : Kind → Option ℕ → List ℕ → Option (Symbol × ℕ)
front_symbol kind delimiter [] = None
front_symbol kind delimiter (b ∷ []) = Some (if b == 92 then (Unknown LastBackslash, 1) else (alone kind b, 1))
front_symbol kind delimiter (b ∷ c ∷ rest) = Some (
    if not (b == 92) then (alone kind b, 1)
    else if is_delimiter delimiter c then (Literal c, 2)
    else (escaped kind c, 2))

-- a decimal number, from what its first digits make
abbrev pub decimal : ℕ → List ℕ → ℕ
decimal n [] = n
decimal n (d ∷ ds) = decimal (10 * n + (d - 48)) ds

-- the number at the front and its digits; leading zeros are accepted, and more than 255 is none (this project's own)
abbrev pub numeral : List ℕ → Option (ℕ × ℕ)
numeral front =
    let digits = prefix_len is_digit front in
    let value = decimal 0 (take digits front) in
    if digits == 0 || nat_lt 255 value then None else Some (value, digits)

-- whether the interval closes at the front, by } or \}; a backslash and the delimiter are no closing (this project's own)
abbrev pub closes : Kind → Option ℕ → List ℕ → Bool
closes Basic delimiter front = is_at_front front 92 && is_at_front (drop 1 front) 125 && not (is_delimiter delimiter 125)
closes Extended delimiter front = is_at_front front 125

abbrev pub closing_width : Kind → ℕ
closing_width Basic = 2
closing_width Extended = 1

abbrev pub some_bounds : ℕ → Option ℕ → ℕ → Option Bounds
some_bounds least most width = Some (record { least = least; most = most; width = width })

-- after the comma: nothing, or a limit that is no less
abbrev pub limit : Kind → Option ℕ → (least digits : ℕ) → List ℕ → Option (ℕ × ℕ) → Option Bounds
limit kind delimiter least digits front None =
    if closes kind delimiter front then some_bounds least None (digits + 1 + closing_width kind) else None
limit kind delimiter least digits front (Some (most, more)) =
    if closes kind delimiter (drop more front) && nat_le least most
    then some_bounds least (Some most) (digits + 1 + more + closing_width kind) else None

-- after the first number
abbrev pub after_least : Kind → Option ℕ → List ℕ → ℕ × ℕ → Option Bounds
after_least kind delimiter front (least, digits) =
    let rest = drop digits front in
    if closes kind delimiter rest then some_bounds least (Some least) (digits + closing_width kind)
    else if is_at_front rest 44 then limit kind delimiter least digits (drop 1 rest) (numeral (drop 1 rest))
    else None

-- the interval whose opening comes before what is left, and its bytes from there; it has a first number (this project's own)
unfoldable pub front_interval : Kind → Option ℕ → List ℕ → Option Bounds
front_interval kind delimiter front = option_and_then (after_least kind delimiter front) (numeral front)

-- whether a token comes first: at the beginning, after an opening of a group or after an alternation symbol
abbrev pub is_leading : Option Token → Bool
is_leading None = true
is_leading (Some Open) = true
is_leading (Some Bar) = true
is_leading before = false

-- whether a repetition may follow: after an anchor none may (XBD 9.3.6, 9.4.6, 9.4.9; after `$`, and that one may after another
-- repetition, this project's own)
abbrev pub is_repeatable : Option Token → Bool
is_repeatable (Some (Byte members)) = true
is_repeatable (Some Close) = true
is_repeatable (Some (Repeat least most)) = true
is_repeatable before = false

abbrev pub is_repeat : Option Token → Bool
is_repeat (Some (Repeat least most)) = true
is_repeat before = false

-- whether the text, a group or an alternative ends at the front. An escaped delimiter ends none (this project's own)
abbrev pub ends_alternative : Option (Symbol × ℕ) → Bool
ends_alternative None = true
ends_alternative (Some (Closing, n)) = true
ends_alternative (Some (Parting, n)) = true
ends_alternative next = false

abbrev pub token_fault : ℕ → ExprReason → NextToken
token_fault place reason = Bad (record { place = place; reason = reason })

-- a repetition of what comes before, or else NothingToRepeat (but for a * that isn't after `$`, this project's own)
abbrev pub repeats : (may : Bool) → (at : ℕ) → NextToken → NextToken
repeats may at repeat = if may then repeat else token_fault at NothingToRepeat

abbrev pub interval_token : Option Bounds → (at next : ℕ) → NextToken
interval_token None at next = token_fault at BadInterval
interval_token (Some i) at next = Is (Repeat i.least i.most) (next + i.width)

abbrev pub list_token : Result (ByteSet × ℕ) ExprFault → NextToken
list_token (Ok (members, next)) = Is (Byte members) next
list_token (Err f) = Bad f

-- * is a literal in a basic expression where there is nothing that it could repeat (XBD 9.3.3)
abbrev pub star_item : Kind → (may : Bool) → (at next : ℕ) → NextToken
star_item Basic may at next = if may then Is (Repeat 0 None) next else Is (Byte (only 42)) next
star_item Extended may at next = repeats may at (Is (Repeat 0 None) next)

-- ? repeats what comes before it; directly after a repetition of an extended expression it is refused (this project's own)
abbrev pub question_item : Kind → (may repeated : Bool) → (at next : ℕ) → NextToken
question_item Basic may repeated at next = repeats may at (Is (Repeat 0 (Some 1)) next)
question_item Extended may repeated at next = repeats (may && not repeated) at (Is (Repeat 0 (Some 1)) next)

-- ^ and $ are anchors in an extended expression, and in a basic one where an alternative begins or ends (XBD 9.3.8, 9.4.9; that
-- one begins and ends within a group and at an alternation symbol too is this project's own)
abbrev pub anchor_item : Kind → (stands : Bool) → (b : ℕ) → (anchor : Token) → (next : ℕ) → NextToken
anchor_item Basic false b anchor next = Is (Byte (only b)) next
anchor_item kind stands b anchor next = Is anchor next

-- what a symbol is, after a token. Where case is folded, a literal byte stands for both cases of its letter, and an interval's
-- closing without an opening is refused (both this project's own)
abbrev pub token_for : Kind → (folded : Bool) → Option ℕ → List ℕ → Option Token → (at : ℕ) → Option (Symbol × ℕ) → NextToken
token_for kind folded delimiter text before at None = Ends
token_for kind folded delimiter text before at (Some (Literal b, n)) = Is (Byte (matching folded (only b))) (at + n)
token_for kind folded delimiter text before at (Some (AnyByte, n)) = Is (Byte any_but_zero) (at + n)
token_for kind folded delimiter text before at (Some (Opening, n)) = Is Open (at + n)
token_for kind folded delimiter text before at (Some (Closing, n)) = Is Close (at + n)
token_for kind folded delimiter text before at (Some (Parting, n)) = Is Bar (at + n)
token_for kind folded delimiter text before at (Some (Star, n)) = star_item kind (is_repeatable before) at (at + n)
token_for kind folded delimiter text before at (Some (Plus, n)) =
    repeats (is_repeatable before) at (Is (Repeat 1 None) (at + n))
token_for kind folded delimiter text before at (Some (Question, n)) =
    question_item kind (is_repeatable before) (is_repeat before) at (at + n)
token_for kind folded delimiter text before at (Some (Interval, n)) =
    repeats (is_repeatable before) at (interval_token (front_interval kind delimiter (drop (at + n) text)) at (at + n))
token_for kind folded delimiter text before at (Some (IntervalEnd, n)) = token_fault at BadInterval
token_for kind folded delimiter text before at (Some (BracketOpening, n)) = list_token (list_at folded delimiter text at)
token_for kind folded delimiter text before at (Some (Caret, n)) = anchor_item kind (is_leading before) 94 AtBegin (at + n)
token_for kind folded delimiter text before at (Some (Dollar, n)) =
    anchor_item kind (ends_alternative (front_symbol kind delimiter (drop (at + n) text))) 36 AtEnd (at + n)
token_for kind folded delimiter text before at (Some (Unknown reason, n)) = token_fault at reason

-- what is at a place of a text after a token
unfoldable pub token_at : Kind → (folded : Bool) → Option ℕ → List ℕ → Option Token → (at : ℕ) → NextToken
token_at kind folded delimiter text before at =
    token_for kind folded delimiter text before at (front_symbol kind delimiter (drop at text))
