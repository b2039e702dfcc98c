-- Places of a text, counted from 0, and faults there.
use Rattle.std.specs.Prelude.{ℕ, ◌+◌, ◌*◌, ◌-◌, ◌^◌, List, drop, take, Bool, false, not, ◌||◌, Option, Some, None, Result, Ok, Err, if◌then◌else◌, nat_lt, ◌==◌}
use Rattle.std.specs.List.{fold, prefix_len}
use Rattle.std.specs.Bool.{then_some}
use Rattle.std.specs.Option.{ok_or}
use Rattle.sedscript.specs.Types.{ScriptFault, Reason, Sort}
pub use Rattle.sedscript.specs.declared.bytes.Sort.TheVariants.{Blank, Separator, Bang, Digit, Name, Line}
pub use Rattle.sedre.specs.Sets.{is_digit}

-- a space or a tab (XBD 7.3.1, blank)
abbrev pub is_blank : ℕ → Bool
is_blank b = b == 32 || b == 9

-- whether a byte is of the sort. Blanks, newlines and semicolons come between commands (XCU sed, "Extended Description"). A
-- label ends at a newline or a semicolon, and at a blank or a closing brace too (this project's own)
abbrev pub belongs : Sort → ℕ → Bool
belongs Blank b = is_blank b
belongs Separator b = is_blank b || b == 10 || b == 59
belongs Bang b = is_blank b || b == 33
belongs Digit b = is_digit b
belongs Name b = not (is_blank b || b == 10 || b == 59 || b == 125)
belongs Line b = not (b == 10)

-- the first place from here on whose byte isn't of the sort, or the end
unfoldable pub past : Sort → List ℕ → ℕ → ℕ
past sort text at = at + prefix_len (belongs sort) (drop at text)

-- the bytes from a place up to another
abbrev pub bytes_between : List ℕ → ℕ → ℕ → List ℕ
bytes_between text from to = take (to - from) (drop from text)

-- the number with one digit more at its end, if it is below 2 ^ 64
abbrev pub with_digit : Option ℕ → ℕ → Option ℕ
with_digit None d = None
with_digit (Some n) d = if nat_lt (n * 10 + (d - 48)) (2 ^ 64) then Some (n * 10 + (d - 48)) else None

-- the number with these digits at its end, if it is below 2 ^ 64
abbrev pub with_digits : Option ℕ → List ℕ → Option ℕ
with_digits n ds = fold with_digit n ds

-- whether the byte that was found is this one
abbrev pub is_byte : ℕ → Option ℕ → Bool
is_byte b None = false
is_byte b (Some c) = c == b

abbrev pub fault : {A : Type 0} → Reason → ℕ → Result A ScriptFault
fault reason place = Err (record { place = place; reason = reason })

-- what was found, or else this fault at a place
abbrev pub or_fault : {A : Type 0} → Option A → Reason → ℕ → Result A ScriptFault
or_fault found reason place = ok_or found (record { place = place; reason = reason })

-- the fault at a place, where something is wrong
abbrev pub fault_if : Bool → Reason → ℕ → Option ScriptFault
fault_if wrong reason place = then_some wrong (record { place = place; reason = reason })

-- what is read, and then what is read after it, or the first fault
infixl 10 ◌>>=◌
abbrev pub ◌>>=◌ : {A B : Type 0} → Result A ScriptFault → (A → Result B ScriptFault) → Result B ScriptFault
(Ok x) >>= f = f x
(Err e) >>= f = Err e
