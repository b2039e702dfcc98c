-- From the end of an engine's run to the end of an edit.
use Rattle.std.proofs.Common.{◌≡◌, ℕ, zero, suc, ◌+◌, ◌≤◌, List, [], Option, Some, None, Result, Ok, Err, length, get_or, replicate, refl}
use Rattle.std.proofs.Math.Seq.{take-length}
use Rattle.std.specs.Prelude.{IfSome}
use Rattle.std.specs.Io.KnownBytes.{prepend_known}
use Rattle.sedspace.specs.Lines.{split_lines}
use Rattle.sedscript.specs.Program.{Program}
use Rattle.sedengine.specs.State.{LimitsView, MachineState, Setting, setting_of}
use Rattle.sedengine.specs.Move.{start, written}
use Rattle.sedengine.specs.Ends.{bytes_of_sink, FillsSink, GainedWithin}
use Rattle.sedengine.specs.Run.{RunState, CameToEnd, InputLeft, Sends, at_lines, run_setting}
use Rattle.sededit.specs.Types.{Done, Ended, OutputFull}
use Rattle.sededit.specs.Editing.{BeginsOutput, IsOutput, nothing_before, start_over}
use Rattle.sededit.specs.EditEnds.{EditEnds}
use Rattle.sededit.specs.Ahead.{EditEnded}
use Rattle.sedengine.specs.Steps.{WholeOrBrokenOff}

-- an engine that was opened
abbrev pub opened : LimitsView → Program → RunState
opened l p = record { script = p; limits = l; state = start p.commands []; sent = replicate (length p.wfiles + 1) 0; ended = None }

get_or_none : (n k : ℕ) → ◌≡◌ {A = ℕ} (get_or (replicate n 0) k 0) 0
get_or_none zero k = refl
get_or_none (suc n) zero = refl
get_or_none (suc n) (suc k) = get_or_none n k

within_from_start : (most : Option ℕ) (n : ℕ) (out : List (ℕ × ℕ)) → IfSome most (λ m. (k : ℕ) → get_or (replicate n 0) k 0 + length (bytes_of_sink k out) ≤ m) → IfSome most (λ m. (k : ℕ) → nothing_before k + length (bytes_of_sink k out) ≤ m)
within_from_start None n out h = tt
within_from_start (Some m) n out h = λ k. let le = h k in rw (get_or_none n k) at le

full_from_start : (most : Option ℕ) (n : ℕ) (out : List (ℕ × ℕ)) (r : Result Unit Ended) → FillsSink most (λ k. get_or (replicate n 0) k 0) out r → FillsSink most nothing_before out r
full_from_start most n out (Ok u) h = tt
full_from_start most n out (Err (OutputFull k)) h = rw (get_or_none n k) at h
full_from_start most n out (Err other) h = tt

-- since the engine was opened sinks have gained what they gained in this run
from_start : (l : LimitsView) (p : Program) (e' : RunState) (old new : ℕ → Option (List ℕ)) (r : Result Unit Ended) (out : List (ℕ × ℕ)) → Sends (opened l p) e' old new r out → GainedWithin l.output nothing_before old new r out
from_start l p e' old new r out h = record {
  gained = h.gains.gained;
  within = within_from_start l.output (length p.wfiles + 1) out h.gains.within;
  full = full_from_start l.output (length p.wfiles + 1) out r h.gains.full;
}

-- a run of an opened engine over all lines is an edit, which leaves ahead what is ahead of the lines
pub Edits-run : (l : LimitsView) (p : Program) (files : ℕ → List ℕ) (e e' : RunState) (x : List ℕ) (sinks sinks' : ℕ → Option (List ℕ)) (old new : Option (List ℕ)) (before after : InputLeft) (now : MachineState) (end : Ended) (bytes : List ℕ) (count : ℕ) →
    e ≡ opened l p → before.source ≡ old → before.all ≡ old → after.source ≡ new → after.all ≡ prepend_known bytes after.source → count ≡ length bytes →
    (out : List (ℕ × ℕ)) × Sends e e' sinks sinks' (Err end) out × CameToEnd e.limits (run_setting e files) (at_lines e (split_lines x)) out before after now end →
    EditEnded l (setting_of p files) (start_over p x) old new sinks sinks' count end
Edits-run l p files e e' x sinks sinks' old new before after now end bytes count is same_old none_ahead same_new is_ahead counted (out, sent, h) =
    let sent' = rw is at sent in
    let h' = rw is at h in
    record {
      out = out;
      gained = from_start l p e' sinks sinks' (Err end) out sent';
      ends = record {
        t = h'.t;
        cause = h'.cause;
        lines_taken = (let input = h'.lines_taken.input in rw (same_old, same_new) at input);
        broken = λ is. (let part = h'.broken is in rw (none_ahead, same_new) at part);
      };
      left = record {
        t = h'.t;
        over = λ done. (let w = rw done at h'.cause in w.cause);
        lines = h'.lines_taken.input.lines;
        are = h'.lines_taken.input.are;
        ahead = bytes;
        counts = counted;
        gone = (let part = h'.lines_taken.all in rw (none_ahead, is_ahead, same_new) at part);
      };
    }

-- the output at an end is a beginning of what is written
pub BeginsOutput-at : (l : LimitsView) (g : Setting) (s : MachineState) (out : List (ℕ × ℕ)) (end : Ended) (t : ℕ) (k : Option ℕ) → WholeOrBrokenOff l g s out end t k → BeginsOutput g s out
BeginsOutput-at l g s out end t None w = (t, length (written g s t), rw take-length w.wrote)
BeginsOutput-at l g s out end t (Some k) w = (suc t, w.b, w.wrote)

-- at the ordinary end the whole
pub IsOutput-at : (l : LimitsView) (g : Setting) (s : MachineState) (out : List (ℕ × ℕ)) (old new : Option (List ℕ)) (end : Ended) → end ≡ Done → EditEnds l g s out old new end → IsOutput g s out
IsOutput-at l g s out old new end is h = let w = rw is at h.cause in record { moves = h.t; ended = w.cause; wrote = w.wrote }
