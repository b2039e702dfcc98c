-- Private to the proofs: no contract of a public item cites what is here.
-- How the machine's calls judge the addresses of a command.
use Rattle.std.specs.Prelude.{◌≡◌, ℕ, ◌+◌, Bool, true, false, Option, Some, None, List, [], ◌∷◌, slice_set, ◌||◌, Result, Ok, Err, OnErr}
use Rattle.std.specs.Option.{ForSome}
use Rattle.std.specs.Borrow.{GName}
use Rattle.sedspace.specs.Stream.{Stream, lines_left}
use Rattle.sedacts.specs.Calls.{NamesNone}
use Rattle.sedacts.specs.Types.{Address, Match, Command}
use Rattle.sedacts.specs.declared.ends.Ended.{Ended}
use Rattle.sedacts.specs.declared.ends.Ended.TheVariants.{NoPrevious, InputBroken}
use Rattle.sedacts.specs.Select.{CurrentLine, AddressAnswer, Selection, answer, selects}
use Rattle.sedacts.specs.State.{do_at, finds_in}
use Rattle.sedacts.specs.Move.{none_left}
use Rattle.sedacts.specs.Ends.{is_dollar}
use Rattle.sedacts.specs.Run.{RunState}
use Rattle.sedacts.specs.declared.select.Chosen.{Chosen}
use Rattle.sedacts.specs.Bringing.{ReadsNoLine}
use Rattle.sedacts.specs.Choose.{is_active}

-- where no address decides, the answer is yes
abbrev pub decides : CurrentLine → Option Address → Option AddressAnswer
decides c None = Some (record { yes = true; used = c.used })
decides c (Some a) = answer c a

-- what addresses are judged by, in this state of the engine
abbrev pub current_in : RunState → Bool → CurrentLine
current_in e last = record {
  number = e.state.number;
  last = last;
  pattern = e.state.pattern;
  finds = finds_in e.script.expressions;
  used = e.state.used;
}

-- the engine with another expression last used
abbrev pub with_used : RunState → Option ℕ → RunState
with_used e used = record e { state = record e.state { used = used } }

-- What a call that judges one address answers, used being the expression last used after it.
abbrev pub AnswersAddress : CurrentLine → Option AddressAnswer → Option ℕ → Bool → Result Bool Ended → Type 0
AnswersAddress c a used asks (Ok matched) = a ≡ Some (record { yes = matched; used = used })
AnswersAddress c a used asks (Err (NoPrevious n)) = (a ≡ None) × (n ≡ c.number)
AnswersAddress c a used asks (Err InputBroken) = asks ≡ true
AnswersAddress c a used asks (Err _) = ⊥

-- the choice with the expression last used after it
abbrev pub as_selection : Chosen → Option ℕ → Selection
as_selection c used = record { yes = c.yes; end = c.end; active = c.active; used = used }

-- whether a command has an address `$`
abbrev pub names_last : Command → Bool
names_last c = is_dollar c.first || is_dollar c.second

-- What a call that judges the addresses of a command answers, used being the expression last used after it.
abbrev pub AnswersSelection : CurrentLine → Bool → Command → Option ℕ → Result Chosen Ended → Type 0
AnswersSelection c active command used (Ok choice) = selects c active command ≡ Some (as_selection choice used)
AnswersSelection c active command used (Err (NoPrevious n)) = (selects c active command ≡ None) × (n ≡ c.number)
AnswersSelection c active command used (Err InputBroken) = names_last command ≡ true
AnswersSelection c active command used (Err _) = ⊥

-- the engine that has reached command k, with these ranges and this expression last used
abbrev pub reached_with : RunState → ℕ → List Bool → Option ℕ → RunState
reached_with e k ranges used = record e {
  state = record e.state {
    ranges = ranges;
    used = used;
    tasks = do_at (k + 1) ∷ [];
    turns = e.state.turns + 1;
  };
}

-- how a call that judges the addresses of command k leaves the engine
abbrev pub JudgesAddresses : RunState → RunState → ℕ → Result Chosen Ended → Type 0
JudgesAddresses e e' k (Ok choice) = e' ≡ reached_with e k (slice_set e.state.ranges k choice.active) e'.state.used
JudgesAddresses e e' k (Err end) = e' ≡ e

-- What a call answers that seeks an expression, or the one last used, in the pattern space. Where an end comes the engine stays.
pub record SeeksMatch (named : Option ℕ) (old new : RunState) (result : Result Bool Ended) : Type 0 where
  pub answers : (last : Bool) →
      AnswersAddress (current_in old last) (answer (current_in old last) (Match named)) new.state.used false result
  pub devices : NamesNone result
  pub same : new ≡ with_used old new.state.used
  pub err : OnErr result (new ≡ old)

-- The same of one that judges the address that decides, if one does.
pub record JudgesDeciding {R : Type 0} (remaining : R → Option (List ℕ)) (failures : R → ℕ) (reference : R → List GName)
    (address : Option Address) (old new : RunState) (lines lines' : Stream R) (result : Result Bool Ended) : Type 0 where
  pub answers : lines.fault ≡ None → ForSome (lines_left remaining lines) (λ ls.
      AnswersAddress (current_in old (none_left ls)) (decides (current_in old (none_left ls)) address) new.state.used
      (is_dollar address) result)
  pub reads : ReadsNoLine remaining failures reference lines lines' result
  pub same : new ≡ with_used old new.state.used
  pub err : OnErr result (new ≡ old)

-- What a call answers that judges all addresses of command k, and reaches it.
pub record JudgesCommand {R : Type 0} (remaining : R → Option (List ℕ)) (failures : R → ℕ) (reference : R → List GName)
    (k : ℕ) (command : Command) (old new : RunState) (lines lines' : Stream R) (result : Result Chosen Ended) : Type 0 where
  pub judges : lines.fault ≡ None → ForSome (lines_left remaining lines) (λ ls.
      AnswersSelection (current_in old (none_left ls)) (is_active old.state k) command new.state.used result)
  pub reads : ReadsNoLine remaining failures reference lines lines' result
  pub reaches : JudgesAddresses old new k result
