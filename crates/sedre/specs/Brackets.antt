-- Bracket expressions (XBD 9.3.5): the elements of a list, and the set that they list or the first fault; and where an
-- expression between delimiters ends. Which fault a list has, and where, is this project's own.
use Rattle.std.specs.Prelude.{ℕ, zero, suc, ◌+◌, ◌-◌, List, [], ◌∷◌, length, take, drop, Bool, true, false, not, ◌&&◌, ◌||◌, Option, Some, None, Result, Ok, Err, if◌then◌else◌, nat_le, ◌==◌, option_map, option_and_then}
use Rattle.std.specs.Option.{option_map_or}
use Rattle.sedre.specs.Sets.{set_of, no_byte, only, is_between, union, complement, matching, in_class, class_named}
use Rattle.sedre.specs.Types.{ExprReason, OpenBracket, UnknownClass, LongCollating, BadRange, ExprFault, Element, Plain, Delimiter, OfClass, Equivalent, Collating, Wrong, Unclosed, ByteSet}

-- whether a byte is the delimiter
abbrev pub is_delimiter : Option ℕ → ℕ → Bool
is_delimiter None b = false
is_delimiter (Some d) b = d == b

-- whether a byte is at the front
abbrev pub is_at_front : List ℕ → ℕ → Bool
is_at_front [] b = false
is_at_front (c ∷ rest) b = c == b

-- how many bytes come before the first c with a ] after it
abbrev pub before_closing : ℕ → List ℕ → Option ℕ
before_closing c (x ∷ y ∷ rest) =
    if x == c && y == 93 then Some 0 else option_map (λ n. n + 1) (before_closing c (y ∷ rest))
before_closing c left = None

-- what a form has after its opening: at least one byte, so that [.].] names ]; \ and the delimiter are two (this project's own)
abbrev pub content : ℕ → List ℕ → Option (List ℕ)
content c [] = None
content c (x ∷ rest) = option_map (λ n. x ∷ take n rest) (before_closing c rest)

-- [=x=] and [.x.] contain one byte: each collating element of the POSIX locale is one (XBD 7.3.2)
abbrev pub of_one : List ℕ → (ℕ → Element) → Element
of_one (x ∷ []) make = make x
of_one held make = Wrong LongCollating

-- a form by the byte after its [ (XBD 9.3.5, 4 to 6): [:name:] names a class
abbrev pub form_of : ℕ → List ℕ → Element
form_of c held =
    if c == 58 then option_map_or OfClass (class_named held) (Wrong UnknownClass)
    else if c == 61 then of_one held Equivalent
    else of_one held Collating

-- a form and how many bytes it has; one that isn't closed takes all that is left
abbrev pub front_form : ℕ → (left : ℕ) → Option (List ℕ) → Element × ℕ
front_form c left None = (Unclosed, left)
front_form c left (Some held) = (form_of c held, length held + 4)

-- the element at the front of what is left of a list, and its bytes. A backslash and the delimiter are the delimiter as a
-- literal (this project's own); any other byte loses its special meaning (XBD 9.3.5, 1)
abbrev pub front_element : Option ℕ → List ℕ → Element × ℕ
front_element delimiter [] = (Unclosed, 0)
front_element delimiter (b ∷ []) = (Plain b, 1)
front_element delimiter (b ∷ c ∷ rest) =
    if b == 92 && is_delimiter delimiter c then (Delimiter c, 2)
    else if b == 91 && (c == 58 || c == 61 || c == 46) then front_form c (length rest + 2) (content c rest)
    else (Plain b, 1)

-- the elements with their places, and the place after the closing ], if there is one; `skip` bytes belong to the element
-- before. A ] is an element where it is first (XBD 9.3.5, 1), and else closes, also as the delimiter (this project's own)
abbrev pub elements : Option ℕ → (first : Bool) → (skip place : ℕ) → List ℕ → List (ℕ × Element) × Option ℕ
elements delimiter first skip place [] = ([], None)
elements delimiter first (suc skip) place (b ∷ bs) = elements delimiter first skip (place + 1) bs
elements delimiter first zero place (b ∷ bs) =
    if b == 93 && not first then ([], Some (place + 1))
    else
    let found = front_element delimiter (b ∷ bs) in
    let rest = elements delimiter false (found.1 - 1) (place + 1) bs in
    ((place, found.0) ∷ rest.0, rest.1)

-- whether an element makes a range where another one comes before and after it (XBD 9.3.5, 7)
abbrev pub is_dash : Element → Bool
is_dash (Plain b) = b == 45
is_dash other = false

-- whether what comes after a range goes on as another one, as in a-c-e
abbrev pub goes_on_as_range : List (ℕ × Element) → Bool
goes_on_as_range (x ∷ y ∷ rest) = is_dash x.1
goes_on_as_range left = false

-- the bytes that some elements list, or their first fault
abbrev pub ListedBytes : Type 0
ListedBytes = Result (List Bool) ExprFault

abbrev pub fault_in_list : ℕ → ExprReason → ListedBytes
fault_in_list place reason = Err (record { place = place; reason = reason })

-- an element by itself. One that isn't closed lists nothing: that the list is open shows it
abbrev pub single : ℕ × Element → ListedBytes
single (place, Plain b) = Ok (only b)
single (place, Delimiter b) = Ok (only b)
single (place, OfClass class) = Ok (set_of (in_class class))
single (place, Equivalent b) = Ok (only b)
single (place, Collating b) = Ok (only b)
single (place, Wrong reason) = fault_in_list place reason
single (place, Unclosed) = Ok no_byte

-- the byte with which an element is an end of a range; a class and an equivalence class are none: this project's own
abbrev pub end_of_range : Element → Option ℕ
end_of_range (Plain b) = Some b
end_of_range (Delimiter b) = Some b
end_of_range (Collating b) = Some b
end_of_range other = None

-- a range between two ends, by byte value (XBD 9.3.5, 7); `on`: it goes on as another one, which is refused (this project's own)
abbrev pub between_ends : (place : ℕ) → Option ℕ → Option ℕ → (on : Bool) → ListedBytes
between_ends place (Some a) (Some b) on =
    if nat_le a b && not on then Ok (set_of (is_between a b)) else fault_in_list place BadRange
between_ends place first last on = fault_in_list place BadRange

-- a range from an end at a place to its last element, whose own fault comes before that of the range
abbrev pub range_to : (place : ℕ) → Option ℕ → ℕ × Element → (on : Bool) → ListedBytes
range_to place first (at, Wrong reason) on = fault_in_list at reason
range_to place first (at, Unclosed) on = Ok no_byte
range_to place first (at, other) on = between_ends place first (end_of_range other) on

-- a range from its first element to its last, where the first one's own fault comes first
abbrev pub range : (first last : ℕ × Element) → (on : Bool) → ListedBytes
range (place, Wrong reason) last on = fault_in_list place reason
range (place, Unclosed) last on = Ok no_byte
range (place, other) last on = range_to place (end_of_range other) last on

-- what comes first, then the rest
abbrev pub both : ListedBytes → ListedBytes → ListedBytes
both (Err f) those = Err f
both (Ok these) (Err f) = Err f
both (Ok these) (Ok those) = Ok (union these those)

-- all elements from the left: an element, a - and a further element are a range (XBD 9.3.5, 7)
abbrev pub all_listed : List (ℕ × Element) → ListedBytes
all_listed [] = Ok no_byte
all_listed (x ∷ []) = both (single x) (all_listed [])
all_listed (x ∷ y ∷ []) = both (single x) (all_listed (y ∷ []))
all_listed (x ∷ y ∷ z ∷ rest) =
    if is_dash y.1 then both (range x z (goes_on_as_range rest)) (all_listed rest)
    else both (single x) (all_listed (y ∷ z ∷ rest))

-- the elements from the place after the opening [ on, where a ^ makes a non-matching list (XBD 9.3.5, 3)
abbrev pub elements_from : Option ℕ → (place : ℕ) → List ℕ → List (ℕ × Element) × Option ℕ
elements_from delimiter place bytes =
    if is_at_front bytes 94 then elements delimiter true 0 (place + 1) (drop 1 bytes) else elements delimiter true 0 place bytes

-- the bytes that match for the listed ones, and for a non-matching list the others, byte 0 among them (this project's own)
abbrev pub matched_set : (folded negated : Bool) → List Bool → List Bool
matched_set folded negated set = if negated then complement (matching folded set) else matching folded set

-- the set and the place after the list, or the first fault; that the list isn't closed comes last, at its [
abbrev pub judged_list : (folded negated : Bool) → (at : ℕ) → ListedBytes → Option ℕ → Result (ByteSet × ℕ) ExprFault
judged_list folded negated at (Err f) end = Err f
judged_list folded negated at (Ok set) None = Err (record { place = at; reason = OpenBracket })
judged_list folded negated at (Ok set) (Some next) = Ok (matched_set folded negated set, next)

-- the list of a text whose [ is at a place: the bytes that it matches and the place after it, or its first fault
unfoldable pub list_at : (folded : Bool) → Option ℕ → (text : List ℕ) → (at : ℕ) → Result (ByteSet × ℕ) ExprFault
list_at folded delimiter text at =
    let bytes = drop (at + 1) text in
    let found = elements_from delimiter (at + 1) bytes in
    judged_list folded (is_at_front bytes 94) at (all_listed found.0) found.1

-- the place after a list, whatever it lists, from the place after its [ on
unfoldable pub list_end : Option ℕ → (place : ℕ) → List ℕ → Option ℕ
list_end delimiter place bytes = (elements_from delimiter place bytes).1

-- the place after what is at a place: an escape, a bracket expression or a byte; None where the text ends before
abbrev pub next_place : (delimiter place : ℕ) → List ℕ → Option ℕ
next_place d place [] = None
next_place d place (b ∷ bs) =
    if b == 92 then (if length bs == 0 then None else Some (place + 2))
    else if b == 91 then list_end (Some d) (place + 1) bs
    else Some (place + 1)

-- the place of the first delimiter outside of these, from a place on, before any newline; `skip` bytes are stepped over. A [
-- that is the delimiter ends the expression, and a delimiter within a bracket expression doesn't (both this project's own)
abbrev pub first_delimiter : (delimiter skip place : ℕ) → List ℕ → Option ℕ
first_delimiter d skip place [] = None
first_delimiter d (suc skip) place (b ∷ bs) = if b == 10 then None else first_delimiter d skip (place + 1) bs
first_delimiter d zero place (b ∷ bs) =
    if b == 10 then None
    else if b == d then Some place
    else option_and_then (λ next. first_delimiter d (next - (place + 1)) (place + 1) bs) (next_place d place (b ∷ bs))

-- the delimiter that ends the expression at a place
unfoldable pub delimiter_at : (text : List ℕ) → (at delimiter : ℕ) → Option ℕ
delimiter_at text at d = first_delimiter d 0 at (drop at text)
