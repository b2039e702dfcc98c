-- How an edit ends.
use Rattle.std.specs.Prelude.{◌≡◌, ℕ, Option, List}
use Rattle.sedengine.specs.State.{LimitsView, MachineState, Setting}
use Rattle.sedengine.specs.Ends.{IsCause, BreaksInLine}
use Rattle.sedengine.specs.DevicesAfter.{TakesInput, more_at}
use Rattle.sededit.specs.Types.{Ended, InputBroken}

-- An edit came to this end, after some moves from its start: the end has its cause there, and of the source no more was
-- taken than these moves take and what is read ahead. `out` is its output, and `old` and `new` what the source had still to
-- give. Where the source failed, no whole line is lost.
pub record EditEnds (l : LimitsView) (g : Setting) (s : MachineState) (out : List (ℕ × ℕ)) (old new : Option (List ℕ)) (end : Ended) :
    Type 0 where
  pub t : ℕ
  pub cause : IsCause l g s out end t
  pub lines_taken : TakesInput g s old new (more_at l end) t
  pub broken : end ≡ InputBroken → BreaksInLine g s old new l.space t
