-- Runs with room to spare (this project's own).
use Rattle.std.specs.Prelude.{◌≡◌, ℕ, ◌+◌, ◌-◌, ◌*◌, ◌^◌, ◌≤◌, ◌<◌, List, Err, None, Option, length}
use Rattle.sedre.specs.declared.types.Kind.TheVariants.{Basic}
use Rattle.sedscript.specs.Script.{Means}
use Rattle.sedscript.specs.Program.{Program}
use Rattle.sedengine.specs.Ends.{GainedWithin, IsCause}
use Rattle.sedengine.specs.State.{LimitsView, setting_of}
use Rattle.sedengine.specs.Types.{Ended, InputBroken, OutputBroken, OutputFull}
use Rattle.sededit.specs.Editing.{start_over}

-- an end that names no device
abbrev pub NoDevice : Ended → Type 0
NoDevice InputBroken = ⊥
NoDevice (OutputBroken k) = ⊥
NoDevice (OutputFull k) = ⊥
NoDevice other = Unit {0}

-- A run by this script over these bytes within the limits came to this end, its sinks gained what leads from the old contents to
-- the new ones, and no device failed or was full: what `edit` says of it.
pub record ComesTo (l : LimitsView) (text input : List ℕ) (old new : ℕ → Option (List ℕ)) (end : Ended) : Type 0 where
  pub p : Program
  pub files : ℕ → List ℕ
  pub meaning : Means text Basic 65536 p
  pub before : ℕ → ℕ
  pub out : List (ℕ × ℕ)
  pub gains : GainedWithin l.output before old new (Err end) out
  pub t : ℕ
  pub cause : IsCause l (setting_of p files) (start_over p input) out end t
  pub free : NoDevice end

-- a space holds all of the input, and there are so many turns for each byte of it, and some more
pub record Ample (l : LimitsView) (turns : ℕ) (input : List ℕ) : Type 0 where
  pub space : length input + 1 ≤ l.space
  pub turns_left : turns * (length input + 1) < l.turns

-- the room for bytes of a whole edit
abbrev pub ample_room : ℕ
ample_room = 1048576

-- limits with that room, and more turns than such an edit takes; the output isn't limited
pub record IsAmple (l : LimitsView) : Type 0 where
  pub space : l.space ≡ ample_room
  pub turns : l.turns ≡ 2 ^ 64 - 1
  pub nodes : l.nodes ≡ 65536
  pub output : l.output ≡ None
