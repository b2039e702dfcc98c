-- How addresses are judged.
use Rattle.std.proofs.Common.{◌≡◌, ℕ, Bool, true, false, cond, not, ◌||◌, Option, Some, None, Result, Err, refl, sym, ap, ◌∙◌, arith}
use Rattle.std.specs.Prelude.{option_and_then, nat_le, nat_lt, nat_eq, if◌then◌else◌}
use Rattle.std.proofs.lemmas.Bool.Decides.{nat_tests}
use Rattle.std.proofs.lemmas.Option.{same_Some}
use Rattle.sedscript.specs.declared.types.Address.{Address}
use Rattle.sedscript.specs.declared.types.Address.TheVariants.{Line, Last, Match}
use Rattle.sedscript.specs.declared.types.Command.{Command}
use Rattle.sedacts.specs.Select.{CurrentLine, AddressAnswer, Selection, answer, on_idle, on_active, of_addresses, selects, ends_at_once}
use Rattle.sedacts.specs.Choose.{deciding, deciding_in, choice_by_match, chosen_idle, chosen_active, turned_by_bang, yes_by_number}
use Rattle.sedengine.specs.Judging.{decides, as_selection, AnswersAddress, AnswersSelection}
use Rattle.sedacts.specs.Ends.{is_dollar}
use Rattle.sedacts.specs.declared.ends.Ended.{Ended}
use Rattle.sedacts.specs.declared.ends.Ended.TheVariants.{NoPrevious, InputBroken}
use Rattle.sedacts.specs.declared.select.Chosen.{Chosen}

-- `!` turns the yes alone
abbrev negated : Bool → Selection → Selection
negated negate choice = record choice { yes = if negate then not choice.yes else choice.yes }

-- the choice that follows from the answer of the address that decides
abbrev follows : CurrentLine → Bool → Option Address → Option Address → AddressAnswer → Option Selection
follows c active first second a = Some (as_selection (choice_by_match first second active c.number a.yes) a.used)

ext : {A B : Type 0} (o : Option A) (f g : A → Option B) → ((a : A) → f a ≡ g a) → option_and_then f o ≡ option_and_then g o
ext {A} {B} None f g h = refl
ext {A} {B} (Some a) f g h = h a

idle_follows : (c : CurrentLine) (second : Address) (yes : Bool) (used : Option ℕ) →
    Some (cond yes (as_selection (record { yes = true; end = ends_at_once c.number second; active = not (ends_at_once c.number second) }) used) (as_selection (record { yes = false; end = false; active = false }) used))
    ≡ Some (as_selection (chosen_idle second c.number yes) used)
idle_follows c second true used = refl
idle_follows c second false used = refl

on_idle-as : (c : CurrentLine) (first second : Address) → on_idle c first second ≡ option_and_then (λ (a : AddressAnswer). Some (as_selection (chosen_idle second c.number a.yes) a.used)) (answer c first)
on_idle-as c first second = ext (answer c first) _ _ (λ a. idle_follows c second a.yes a.used)

le_as : (a b : ℕ) → nat_le a b ≡ (nat_lt a b || nat_eq a b)
le_as a b = grind (arith, nat_tests)

-- an active range up to the line n, by how the number of this line compares
line_follows : (c : CurrentLine) (first : Address) (n : ℕ) (less same : Bool) →
    cond less (Some (as_selection (record { yes = true; end = false; active = true }) c.used)) (cond same (Some (as_selection (record { yes = true; end = true; active = false }) c.used)) (on_idle c first (Line n)))
    ≡ option_and_then (λ (a : AddressAnswer). Some (as_selection (cond less (record { yes = true; end = false; active = true }) (cond same (record { yes = true; end = true; active = false }) (chosen_idle (Line n) c.number a.yes))) a.used)) (decides c (cond (less || same) None (Some first)))
line_follows c first n true same = refl
line_follows c first n false true = refl
line_follows c first n false false = on_idle-as c first (Line n)

on_active-as : (c : CurrentLine) (first second : Address) → on_active c first second ≡ option_and_then (λ (a : AddressAnswer). Some (as_selection (chosen_active second c.number a.yes) a.used)) (decides c (deciding_in first second c.number))
on_active-as c first (Line n) = rw (le_as c.number n) (line_follows c first n (nat_lt c.number n) (nat_eq c.number n))
on_active-as c first Last = refl
on_active-as c first (Match e) = refl

-- the answer of all addresses is the one that follows from that of the address that decides
of_addresses-as : (c : CurrentLine) (active : Bool) (first second : Option Address) → of_addresses c active first second ≡ option_and_then (follows c active first second) (decides c (deciding first second active c.number))
of_addresses-as c active None second = refl
of_addresses-as c active (Some first) None = refl
of_addresses-as c true (Some first) (Some second) = on_active-as c first second
of_addresses-as c false (Some first) (Some second) = on_idle-as c first second

-- with the answer of the address that decides
pub selects_some : (c : CurrentLine) (active : Bool) (command : Command) (matched : Bool) (used : Option ℕ) → decides c (deciding command.first command.second active c.number) ≡ Some (record { yes = matched; used = used }) →
    selects c active command ≡ Some (as_selection (turned_by_bang command.negate (choice_by_match command.first command.second active c.number matched)) used)
unfolding selects
selects_some c active command matched used h =
    ap (λ o. option_and_then (λ choice. Some (negated command.negate choice)) o) (of_addresses-as c active command.first command.second ∙ ap (λ o. option_and_then (follows c active command.first command.second) o) h)

-- without one
pub selects_none : (c : CurrentLine) (active : Bool) (command : Command) → decides c (deciding command.first command.second active c.number) ≡ None → selects c active command ≡ None
unfolding selects
selects_none c active command h =
    ap (λ o. option_and_then (λ choice. Some (negated command.negate choice)) o) (of_addresses-as c active command.first command.second ∙ ap (λ o. option_and_then (follows c active command.first command.second) o) h)

dollar_in : (first : Address) (before : Bool) → is_dollar (cond before None (Some first)) ≡ true → is_dollar (Some first) ≡ true
dollar_in first true h = cc
dollar_in first false h = h

pub or_left : (a b : Bool) → a ≡ true → (a || b) ≡ true
or_left true b h = refl
or_left false b h = cc

pub or_right : (a b : Bool) → b ≡ true → (a || b) ≡ true
or_right true b h = refl
or_right false b h = h

deciding_dollar : (first second : Option Address) (active : Bool) (number : ℕ) → is_dollar (deciding first second active number) ≡ true → (is_dollar first || is_dollar second) ≡ true
deciding_dollar None second active number h = cc
deciding_dollar (Some first) None active number h = or_left (is_dollar (Some first)) (is_dollar None) h
deciding_dollar (Some first) (Some second) false number h = or_left (is_dollar (Some first)) (is_dollar (Some second)) h
deciding_dollar (Some first) (Some (Line line)) true number h = or_left (is_dollar (Some first)) false (dollar_in first (nat_le number line) h)
deciding_dollar (Some first) (Some Last) true number h = or_right (is_dollar (Some first)) true refl
deciding_dollar (Some first) (Some (Match e)) true number h = cc

-- what is answered of the address that decides is answered of the command
pub judges_err : (c : CurrentLine) (a active : Bool) (command : Command) (number : ℕ) (used : Option ℕ) (end : Ended) → a ≡ active → number ≡ c.number →
    AnswersAddress c (decides c (deciding command.first command.second a number)) used (is_dollar (deciding command.first command.second a number)) (Err end) → AnswersSelection c active command used (Err end)
judges_err c a active command number used (NoPrevious n) same_active same (none, is) = (rw (← same_active) (selects_none c a command (rw same at none)), is)
judges_err c a active command number used InputBroken same_active same h = deciding_dollar command.first command.second a number h
judges_err c a active command number used other same_active same h = h

pub judges_ok : (c : CurrentLine) (a active : Bool) (command : Command) (matched : Bool) (number : ℕ) (used used' : Option ℕ) (choice : Chosen) → a ≡ active → number ≡ c.number → used' ≡ used →
    choice ≡ turned_by_bang command.negate (choice_by_match command.first command.second a number matched) → decides c (deciding command.first command.second a c.number) ≡ Some (record { yes = matched; used = used }) →
    selects c active command ≡ Some (as_selection choice used')
judges_ok c a active command matched number used used' choice same_active same_number same_used is h =
    rw (is, same_used, same_number, ← same_active) (selects_some c a command matched used h)

pub answers_at : (c : CurrentLine) (a b : Address) (used : Option ℕ) (r : Result Bool Ended) → a ≡ b → AnswersAddress c (answer c b) used (is_dollar (Some b)) r → AnswersAddress c (answer c a) used (is_dollar (Some a)) r
answers_at c a b used r same h = rw same h

straight : (c : CurrentLine) (active : Bool) (first second : Option Address) (negate applies : Bool) → yes_by_number first second negate c.number ≡ Some applies →
    option_and_then (λ choice. Some (negated negate choice)) (of_addresses c active first second) ≡ Some (as_selection (record { yes = applies; end = false; active = active }) c.used)
straight c active None second negate applies h = ap (λ b. Some (as_selection (record { yes = b; end = false; active = active }) c.used)) (same_Some _ _ h)
straight c active (Some (Line n)) None negate applies h = ap (λ b. Some (as_selection (record { yes = b; end = false; active = active }) c.used)) (same_Some _ _ h)
straight c active (Some first) second negate applies h = cc

-- what the line number alone decides
pub selects_by_number : (c : CurrentLine) (a active : Bool) (command : Command) (applies : Bool) (number : ℕ) (used : Option ℕ) → a ≡ active → number ≡ c.number → used ≡ c.used →
    Some applies ≡ yes_by_number command.first command.second command.negate number → selects c active command ≡ Some (as_selection (record { yes = applies; end = false; active = a }) used)
unfolding selects
selects_by_number c a active command applies number used same_active same_number same_used h =
    rw (same_used, ← same_active) (straight c a command.first command.second command.negate applies (sym (rw same_number at h)))

-- where no address decides the answer is yes
pub none_decides : (c : CurrentLine) (o : Option Address) → None ≡ o → decides c o ≡ Some (record { yes = true; used = c.used })
none_decides c o none = rw (← none) refl
