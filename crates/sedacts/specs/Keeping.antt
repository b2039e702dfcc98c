-- Private to the proofs: no contract that `sedengine` makes public cites what is here.
-- What commands put into the queue and into the hold space.
use Rattle.std.specs.Prelude.{◌≡◌, ℕ, Bool, true, false, Option, Some, None, List, [], ◌∷◌, map, slice_get}
use Rattle.std.specs.Option.{unwrap_or}
use Rattle.sedacts.specs.Types.{Command, Action}
use Rattle.sedscript.specs.declared.types.Action.TheVariants.{File, Plain, Text}
use Rattle.sedscript.specs.declared.types.TextUse.TheVariants.{Append}
use Rattle.sedscript.specs.declared.types.FileUse.TheVariants.{Read}
use Rattle.sedscript.specs.declared.types.Simple.TheVariants as simple
use Rattle.sedscript.specs.Program.{Program}
use Rattle.sedacts.specs.State.{Entry, text_entry, file_entry}

-- the entry of an action that puts one into the queue: a text or a file
abbrev pub entry_for : List (List ℕ) → Action → Entry
entry_for texts (Text t k) = text_entry (unwrap_or (slice_get texts k) [])
entry_for texts (File u k) = file_entry k
entry_for texts other = text_entry []

abbrev pub entry_by : List (List ℕ) → Option Command → Entry
entry_by texts None = text_entry []
entry_by texts (Some c) = entry_for texts c.action

-- the entries that commands of these numbers put into the queue
abbrev pub entries_of : Program → List ℕ → List Entry
entries_of p is = map (λ i. entry_by p.texts (slice_get p.commands i)) is

-- whether an action puts an entry into the queue
abbrev pub queues : Action → Bool
queues (Text Append k) = true
queues (File Read k) = true
queues other = false

abbrev pub CommandQueues : Option Command → Type 0
CommandQueues None = ⊥
CommandQueues (Some c) = queues c.action ≡ true

-- each of these numbers is one of a command that puts an entry into the queue
abbrev pub AllQueue : Program → List ℕ → Type 0
AllQueue p [] = Unit {0}
AllQueue p (i ∷ is) = CommandQueues (slice_get p.commands i) × AllQueue p is

-- whether an action puts something into the hold space
abbrev pub keeps_in_hold : Action → Bool
keeps_in_hold (Plain simple.Hold) = true
keeps_in_hold (Plain simple.HoldMore) = true
keeps_in_hold (Plain simple.Exchange) = true
keeps_in_hold other = false

abbrev pub CommandHolds : Option Command → Type 0
CommandHolds None = ⊥
CommandHolds (Some c) = keeps_in_hold c.action ≡ true

-- One of the commands of a script puts something into the hold space, which is empty else.
abbrev pub FillsHold : Program → Type 0
FillsHold p = (i : ℕ) × CommandHolds (slice_get p.commands i)
