-- Private to the proofs: no contract that `sedengine` makes public cites what is here.
-- The choice of a command's addresses: it follows from whether the one that decides matches.
use Rattle.std.specs.Prelude.{ℕ, Bool, true, false, not, Option, Some, None, nat_lt, nat_le, nat_eq, slice_index_or, if◌then◌else◌}
use Rattle.sedacts.specs.Types.{Address, Line, Last, Match, Command}
use Rattle.sedacts.specs.Select.{Selection, ends_at_once}
use Rattle.sedacts.specs.State.{Move, Setting, MachineState}
use Rattle.sedacts.specs.Move.{acts, goes_past, having_reached, writes_text_at}
use Rattle.sedacts.specs.declared.select.Chosen.{Chosen}

-- the address that decides, where one does
abbrev pub deciding_in : Address → Address → ℕ → Option Address
deciding_in first (Line n) number = if nat_le number n then None else Some first
deciding_in first Last number = Some Last
deciding_in first (Match e) number = Some (Match e)

abbrev pub deciding : Option Address → Option Address → Bool → ℕ → Option Address
deciding None second active number = None
deciding (Some first) None active number = Some first
deciding (Some first) (Some second) active number = if active then deciding_in first second number else Some first

abbrev pub chosen_idle : Address → ℕ → Bool → Chosen
chosen_idle second number matched =
    if matched then record { yes = true; end = ends_at_once number second; active = not (ends_at_once number second) }
    else record { yes = false; end = false; active = false }

abbrev pub chosen_active : Address → ℕ → Bool → Chosen
chosen_active (Line n) number matched =
    if nat_lt number n then record { yes = true; end = false; active = true }
    else (if nat_eq number n then record { yes = true; end = true; active = false } else chosen_idle (Line n) number matched)
chosen_active second number matched = record { yes = true; end = matched; active = not matched }

abbrev pub choice_in_range : Address → Bool → ℕ → Bool → Chosen
choice_in_range second active number matched = if active then chosen_active second number matched else chosen_idle second number matched

-- the choice, by whether the deciding address matches
abbrev pub choice_by_match : Option Address → Option Address → Bool → ℕ → Bool → Chosen
choice_by_match (Some first) (Some second) active number matched = choice_in_range second active number matched
choice_by_match first second active number matched = record { yes = matched; end = false; active = active }

-- `!` turns the yes alone
abbrev pub turned_by_bang : Bool → Chosen → Chosen
turned_by_bang negate c = record c { yes = if negate then not c.yes else c.yes }

-- Whether a command applies, if it has no address or one that is a line number: the line number alone decides.
abbrev pub yes_by_number : Option Address → Option Address → Bool → ℕ → Option Bool
yes_by_number None second negate number = Some (if negate then false else true)
yes_by_number (Some (Line n)) None negate number = Some (if negate then not (nat_eq n number) else nat_eq n number)
yes_by_number other second negate number = None

-- whether the range of command k is active
abbrev pub is_active : MachineState → ℕ → Bool
is_active s k = slice_index_or s.ranges k false

-- what a command does, given what its addresses select
abbrev pub performs : Setting → MachineState → ℕ → Command → Selection → Option Move
performs g s k c choice =
    if choice.yes then acts g (having_reached s k choice) (writes_text_at c choice.end) c.action
    else goes_past (having_reached s k choice) c.action
