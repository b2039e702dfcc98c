-- Which pattern spaces the addresses of a command select (XCU sed, "Addresses in sed").
use Rattle.std.specs.Prelude.{ℕ, Bool, true, false, not, Option, Some, None, List, option_and_then, nat_lt, nat_le, nat_eq, if◌then◌else◌}
use Rattle.sedacts.specs.Types.{Address, Line, Last, Match, Command}

infixl 10 ◌>>=◌
abbrev pub ◌>>=◌ : {A B : Type 0} → Option A → (A → Option B) → Option B
o >>= f = option_and_then f o

-- what addresses are judged by
pub record CurrentLine : Type 0 where
  pub number : ℕ  -- the line number
  pub last : Bool  -- whether this is the last line of input
  pub pattern : List ℕ  -- the pattern space
  pub finds : ℕ → List ℕ → Bool  -- whether the expression of a number has a match in a text
  pub used : Option ℕ  -- the expression last used

-- the answer for one address, and the expression last used after it
pub record AddressAnswer : Type 0 where
  pub yes : Bool
  pub used : Option ℕ

-- the answer for a command's addresses
pub record Selection : Type 0 where
  pub yes : Bool  -- whether they select
  pub end : Bool  -- whether this is the range's end
  pub active : Bool  -- whether the range is active after it
  pub used : Option ℕ  -- the expression last used after it

-- an empty RE ("If an RE is empty .. as if the last RE used in the last command applied .. was specified")
abbrev pub stands_for : Option ℕ → Option ℕ → Option ℕ
stands_for (Some e) used = Some e
stands_for None used = used

-- selected in a range, and whether it ends here
abbrev pub in_its_range : Bool → Option ℕ → Selection
in_its_range end used = record { yes = true; end = end; active = not end; used = used }

-- One address. Without an expression used before an empty one there is no answer (this project's own).
abbrev pub answer : CurrentLine → Address → Option AddressAnswer
-- "a decimal number that counts input lines cumulatively across files"
answer c (Line n) = Some (record { yes = nat_eq n c.number; used = c.used })
-- "a '$' character that addresses the last line of input"
answer c Last = Some (record { yes = c.last; used = c.used })
-- "a context address (which consists of an RE ..)"
answer c (Match e) = option_and_then (λ k. Some (record { yes = c.finds k c.pattern; used = Some k })) (stands_for e c.used)

-- "if the second address is a number less than or equal to the line number first selected, only one line shall be
-- selected". A number that has passed begins no range (this project's own)
abbrev pub ends_at_once : ℕ → Address → Bool
ends_at_once number (Line n) = nat_le n number
ends_at_once number other = false

-- A range that isn't active begins where its first address matches; the second is tried from the next pattern space on
-- ("from the first pattern space that matches the first address through the next pattern space that matches the second").
abbrev pub on_idle : CurrentLine → Address → Address → Option Selection
on_idle c first second = do
  a ← answer c first
  Some (if a.yes then in_its_range (ends_at_once c.number second) a.used
      else record { yes = false; end = false; active = false; used = a.used })

-- An active range ends where its second address matches. If that is a line that has passed, all is judged anew (this project's own).
abbrev pub on_active : CurrentLine → Address → Address → Option Selection
on_active c first (Line n) =
    if nat_lt c.number n then Some (in_its_range false c.used)
    else (if nat_eq c.number n then Some (in_its_range true c.used) else on_idle c first (Line n))
on_active c first second = do
  a ← answer c second
  Some (in_its_range a.yes a.used)

-- "with no addresses shall select every pattern space", with one "each pattern space that matches the address", with two a range
abbrev pub of_addresses : CurrentLine → Bool → Option Address → Option Address → Option Selection
of_addresses c active None second = Some (record { yes = true; end = false; active = active; used = c.used })
of_addresses c active (Some first) None = do
  a ← answer c first
  Some (record { yes = a.yes; end = false; active = active; used = a.used })
of_addresses c active (Some first) (Some second) = if active then on_active c first second else on_idle c first second

-- What a command's addresses choose, given whether its range is active. One is judged at most; another isn't the one last used (this
-- project's own). `!` turns the yes alone: "the function shall be applied if the addresses do not select the pattern space".
unfoldable pub selects : CurrentLine → Bool → Command → Option Selection
selects c active command = do
  choice ← of_addresses c active command.first command.second
  Some (record choice { yes = if command.negate then not choice.yes else choice.yes })
