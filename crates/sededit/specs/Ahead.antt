-- Private to the proofs: no contract of a public item cites what is here.
-- What an edit leaves ahead, as its caller reports to the input where `q` ends the run.
use Rattle.std.specs.Prelude.{◌≡◌, ℕ, Option, List, [], ◌++◌, Err, length}
use Rattle.std.specs.Io.KnownBytes.{prepend_known}
use Rattle.sedengine.specs.State.{LimitsView, MachineState, Setting}
use Rattle.sedengine.specs.Move.{after}
use Rattle.sedengine.specs.Run.{lost}
use Rattle.sedengine.specs.Ends.{GainedWithin, LosesPartAfter, size_of}
use Rattle.sededit.specs.Types.{Done, Ended}
use Rattle.sededit.specs.Editing.{nothing_before}
use Rattle.sededit.specs.EditEnds.{EditEnds}

-- An edit left so many bytes ahead at this end: where they still come, no more is gone than the lines that some moves took and,
-- at an end in the middle of a line, a part of that line. At the ordinary end these are all moves of the run.
pub record LeavesAhead (l : LimitsView) (g : Setting) (s : MachineState) (old new : Option (List ℕ)) (count : ℕ) (end : Ended) : Type 0 where
  pub t : ℕ
  pub over : end ≡ Done → (after g s t).tasks ≡ []
  pub lines : List (List ℕ)
  pub are : s.lines ≡ lines ++ (after g s t).lines
  pub ahead : List ℕ
  pub counts : count ≡ length ahead
  pub gone : LosesPartAfter old (prepend_known ahead new) (size_of lines) (lost l end)

-- An edit came to this end, and left so many bytes ahead: `sinks` and `sinks'` are what the sinks had before and after it, `old`
-- and `new` what the source had still to give.
pub record EditEnded (l : LimitsView) (g : Setting) (s : MachineState) (old new : Option (List ℕ)) (sinks sinks' : ℕ → Option (List ℕ)) (count : ℕ)
    (end : Ended) : Type 0 where
  pub out : List (ℕ × ℕ)
  pub gained : GainedWithin l.output nothing_before sinks sinks' (Err end) out
  pub ends : EditEnds l g s out old new end
  pub left : LeavesAhead l g s old new count end
