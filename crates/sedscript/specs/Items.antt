-- The items of a script: addresses, and the functions after them (XCU sed, "Addresses in sed", "Extended Description").
use Rattle.std.specs.Prelude.{ℕ, Bool, Result, Ok, Err, suc, ◌+◌, List, true, false, Option, Some, None, if◌then◌else◌, ◌==◌, slice_get}
use Rattle.sedscript.specs.Types.{ScriptFault, BadAddress, OpenDelimiter, BadDelimiter, FlagOnEmpty, UnknownCommand, Address, Line, Last, Match, Addresses, Strings, Argument, Verb, ItemOrEnd, Is, Ends}
use Rattle.sedscript.specs.Bytes.{Blank, Bang, Digit, past, bytes_between, is_digit, with_digits, is_byte, Separator, fault, or_fault}
use Rattle.sedscript.specs.Arguments.{own_delimiter, substitute_strings, flags_after, folds}
use Rattle.sedscript.specs.Letters.{verb_of, allowed, reads_expression, substituted, argument_of}
use Rattle.sedre.specs.Brackets.{delimiter_at}

-- a regular expression in a script: where it begins and ends, the delimiter there, and whether its flag `I` folds case (this project's own)
pub record PatternExtent : Type 0 where
  pub from : ℕ
  pub to : ℕ
  pub delimiter : ℕ
  pub folded : Bool

-- what is read: a value or a fault; or a regular expression, and by the number of its groups what is read after it
pub data Reading (A : Type 0) : Type 0 where
  plainly : Result A ScriptFault → Reading A
  expression : PatternExtent → (ℕ → Reading A) → Reading A

-- what is read, and then what is read after it
infixl 10 ◌>>=◌
abbrev pub ◌>>=◌ : {A B : Type 0} → Reading A → (A → Reading B) → Reading B
plainly (Ok x) >>= f = f x
plainly (Err e) >>= f = plainly (Err e)
expression p k >>= f = expression p (λ groups. k groups >>= f)

-- an address, if there is one, the place after it, and how many regular expressions come before that place
pub record Addressed : Type 0 where
  pub address : Option Address
  pub at : ℕ
  pub count : ℕ

abbrev pub address_found : Option Address → ℕ → ℕ → Result Addressed ScriptFault
address_found address at count = Ok (record { address = address; at = at; count = count })

-- the address of the line whose number has its digits between two places: 1 to 2 ^ 64 - 1, zeros before it or not (this project's own)
abbrev pub line_address : ℕ → ℕ → ℕ → Option ℕ → Result Addressed ScriptFault
line_address count from to (Some (suc n)) = address_found (Some (Line (suc n))) to count
line_address count from to number = fault BadAddress from

-- whether the flag `I` is at a place (this project's own)
abbrev pub folds_at : List ℕ → ℕ → Bool
folds_at text at = is_byte 73 (slice_get text at)

-- the place after the flag `I`, if that is at a place; otherwise that place
abbrev pub past_flag : List ℕ → ℕ → ℕ
past_flag text at = if folds_at text at then at + 1 else at

-- the address of the empty regular expression, which ends before a place. It has no number, and takes no flag (this project's own)
abbrev pub empty_match : List ℕ → ℕ → ℕ → Result Addressed ScriptFault
empty_match text count at = if folds_at text at then fault FlagOnEmpty at else address_found (Some (Match None)) at count

-- the address of the regular expression that begins after the delimiter at a place, given where it ends, if it does
abbrev pub match_to : List ℕ → ℕ → ℕ → ℕ → Option ℕ → Reading Addressed
match_to text count delimiter place end = plainly (or_fault end OpenDelimiter place) >>= λ to.
    if to == place + 1 then plainly (empty_match text count (to + 1))
    else expression (record { from = place + 1; to = to; delimiter = delimiter; folded = folds_at text (to + 1) })
    (λ groups. plainly (address_found (Some (Match (Some count))) (past_flag text (to + 1)) (count + 1)))

-- the address of the regular expression after the delimiter at a place, with its flag `I`
unfoldable pub match_at : List ℕ → ℕ → ℕ → ℕ → Reading Addressed
match_at text count delimiter place = match_to text count delimiter place (delimiter_at text (place + 1) delimiter)

-- the address of a regular expression whose own delimiter is at a place, if it is one
abbrev pub own_match : List ℕ → ℕ → ℕ → Option ℕ → Reading Addressed
own_match text count place own = plainly (or_fault own BadDelimiter place) >>= λ d. match_at text count d place

-- the address at a place, given the byte there, if one begins with it: a number, `$`, `/RE/` or `\cREc`
abbrev pub address_of : List ℕ → ℕ → ℕ → Option ℕ → Reading Addressed
address_of text count at None = plainly (address_found None at count)
address_of text count at (Some b) =
    if is_digit b then plainly (line_address count at (past Digit text at) (with_digits (Some 0) (bytes_between text at (past Digit text at))))
    else if b == 36 then plainly (address_found (Some Last) (at + 1) count)
    else if b == 47 then match_at text count 47 at
    else if b == 92 then own_match text count (at + 1) (own_delimiter (slice_get text (at + 1)))
    else plainly (address_found None at count)

-- the address at a place, if one is there
unfoldable pub address_at : List ℕ → ℕ → ℕ → Reading Addressed
address_at text count at = address_of text count at (slice_get text at)

-- the addresses of a command, the place after them, and how many regular expressions come before that place
pub record Headed : Type 0 where
  pub addresses : Addresses
  pub at : ℕ
  pub count : ℕ

-- these addresses, without a `!`
abbrev pub addresses_of : Option Address → Option Address → Addresses
addresses_of first second = record { first = first; second = second; negate = false }

abbrev pub with_addresses : Option Address → Option Address → ℕ → ℕ → Result Headed ScriptFault
with_addresses first second at count = Ok (record { addresses = addresses_of first second; at = at; count = count })

-- both addresses, if there is a second one; otherwise a fault at a place
abbrev pub with_second : Address → ℕ → Addressed → Option Address → Result Headed ScriptFault
with_second first place x None = fault BadAddress place
with_second first place x (Some a) = with_addresses (Some first) (Some a) x.at x.count

-- both addresses, where the second one has to be at a place
unfoldable pub second_at : List ℕ → ℕ → Address → ℕ → Reading Headed
second_at text count first at = address_at text count at >>= λ x. plainly (with_second first at x x.address)

-- the addresses, the first of which, if any, ends at a place; a comma with blanks round it (this project's own) and a second may follow
abbrev pub after_first : List ℕ → ℕ → ℕ → Option Address → Reading Headed
after_first text count at None = plainly (with_addresses None None at count)
after_first text count at (Some first) =
    if is_byte 44 (slice_get text (past Blank text at))
    then second_at text count first (past Blank text (past Blank text at + 1))
    else plainly (with_addresses (Some first) None at count)

-- the addresses at a place: two, one or none
unfoldable pub addresses_at : List ℕ → ℕ → ℕ → Reading Headed
addresses_at text count at = address_at text count at >>= λ x. after_first text x.count x.at x.address

-- the addresses with the `!` after them, if any. Several are one; blanks round them are passed over (those after: this project's own)
abbrev pub with_bang : List ℕ → Headed → Headed
with_bang text h =
    if is_byte 33 (slice_get text (past Blank text h.at))
    then record h { addresses = record h.addresses { negate = true }; at = past Bang text (past Blank text h.at) }
    else record h { at = past Blank text h.at }

-- these strings of an `s` with their flags, and its end. An empty expression has no number, and sets no limit to groups (this project's own)
abbrev pub substitute_with : List ℕ → ℕ → Strings → Reading (Argument × ℕ)
substitute_with text count s =
    if s.middle == s.from then plainly (substituted text s None None)
    else expression (record { from = s.from; to = s.middle; delimiter = s.delimiter; folded = folds (flags_after text s false) })
    (λ groups. plainly (substituted text s (Some count) (Some groups)))

-- what follows the `s` at a place, and its end
unfoldable pub substitute_at : List ℕ → ℕ → ℕ → Reading (Argument × ℕ)
substitute_at text count at =
    plainly (substitute_strings text (at + 1) (own_delimiter (slice_get text (at + 1)))) >>= substitute_with text count

-- what follows the letter at a place, which stands for this, and the place after it
abbrev pub argument_with : List ℕ → ℕ → Verb → ℕ → Reading (Argument × ℕ)
argument_with text count verb at =
    if reads_expression verb then substitute_at text count at else plainly (argument_of text verb at)

-- an item with these addresses, the place of its letter and what that stands for, and the place after it
abbrev pub item_of : Addresses → ℕ → Verb → Argument × ℕ → ItemOrEnd
item_of addresses place verb found = Is (record { addresses = addresses; place = place; verb = verb; argument = found.0 }) found.1

-- the item of the function that is expected at a place, after these addresses, given the letter there, if there is one
abbrev pub item_with : List ℕ → ℕ → Addresses → ℕ → Option ℕ → Reading ItemOrEnd
item_with text count addresses at stands =
    plainly (or_fault stands UnknownCommand at) >>= λ letter.
    plainly (allowed addresses at (verb_of letter)) >>= λ verb.
    argument_with text count verb at >>= λ found. plainly (Ok (item_of addresses at verb found))

unfoldable pub function_at : List ℕ → ℕ → Addresses → ℕ → Reading ItemOrEnd
function_at text count addresses at = item_with text count addresses at (slice_get text at)

-- the item of the function that is expected after these addresses; a `!` may come between
abbrev pub function_after : List ℕ → Headed → Reading ItemOrEnd
function_after text h = function_at text h.count (with_bang text h).addresses (with_bang text h).at

-- the item at a place, given the byte there, or the end where there is none
abbrev pub item_from : List ℕ → ℕ → ℕ → Option ℕ → Reading ItemOrEnd
item_from text count at None = plainly (Ok Ends)
item_from text count at (Some b) = addresses_at text count at >>= function_after text

-- the next item from a place on, with so many regular expressions before it, or the end
unfoldable pub item_at : List ℕ → ℕ → ℕ → Reading ItemOrEnd
item_at text count at = item_from text count (past Separator text at) (slice_get text (past Separator text at))
