-- From what an edit's one sink gained to the bytes that a caller gets.
use Rattle.std.proofs.Common.{◌≡◌, ◌≢◌, ◌≤◌, ◌+◌, ◌==◌, ℕ, zero, suc, true, false, List, [], ◌∷◌, Option, Some, Result, Err, if◌then◌else◌, length, take, nat_eq, refl, sym, subst, ap, arith}
use Rattle.sedscript.specs.Program.{Program}
use Rattle.sedengine.specs.State.{LimitsView, Setting, MachineState, setting_of}
use Rattle.sedengine.specs.Move.{to_sink}
use Rattle.sedengine.specs.Ends.{bytes_of_sink, SinksGain, GainedWithin, SourceAtEnd, IsCause}
use Rattle.sedengine.specs.Types.{Ended, Done, PatternFull, HoldFull, QueueFull, TurnsSpent, NoPrevious, InputBroken, OutputBroken, OutputFull}
use Rattle.sededit.specs.EditEnds.{EditEnds}
use Rattle.sededit.specs.Editing.{IsOutput, nothing_before, start_over}
use Rattle.csed.specs.Reports.{cause_of}
use Rattle.csed.specs.Calls.{RunStops, no_files}
use Rattle.csed.specs.Outcomes.{CallRunsTo, outcome_of}

-- what the one sink holds, and no other
abbrev pub of_one : Option (List ℕ) → ℕ → Option (List ℕ)
of_one held k = if k == 0 then held else Some []

nat_eq_self : (n : ℕ) → nat_eq n n ≡ true
nat_eq_self n = grind arith

zero_is_not : (k : ℕ) → nat_eq 0 (suc k) ≡ false
zero_is_not k = grind arith

is_not_zero : (k : ℕ) → nat_eq (suc k) 0 ≡ false
is_not_zero k = grind arith

-- bytes of which none is for another sink
only_first : (out : List (ℕ × ℕ)) → ((k : ℕ) → bytes_of_sink (suc k) out ≡ []) → out ≡ to_sink 0 (bytes_of_sink 0 out)
only_first [] none = refl
only_first ((zero, byte) ∷ out) none = ap (λ xs. (0, byte) ∷ xs) (only_first out (λ k. rw (zero_is_not k) at (none k)))
only_first ((suc m, byte) ∷ out) none = let e = rw (nat_eq_self (suc m)) at (none m) in cc

-- what a sink holds that held nothing is what was written
module _ (held held' : Option (List ℕ)) (bytes : List ℕ) (before : held ≡ Some []) (after : Some bytes ≡ held') where
  first_part : (out : List (ℕ × ℕ)) → SinksGain (of_one held) (of_one held') out → bytes ≡ bytes_of_sink 0 out
  first_part out h = let e = rw (before, ← after) at (h.each 0) in e

  other_parts : (out : List (ℕ × ℕ)) → SinksGain (of_one held) (of_one held') out → (k : ℕ) → bytes_of_sink (suc k) out ≡ []
  other_parts out h k = let e = rw (is_not_zero k) at (h.each (suc k)) in sym e

  all_written : (out : List (ℕ × ℕ)) → SinksGain (of_one held) (of_one held') out → out ≡ to_sink 0 bytes
  all_written out h = rw (first_part out h) (only_first out (other_parts out h))

  -- an edit that came to the ordinary end has written all
  pub IsOutput-written : (g : Setting) (s : MachineState) → (out : List (ℕ × ℕ)) × SinksGain (of_one held) (of_one held') out × IsOutput g s out → IsOutput g s (to_sink 0 bytes)
  IsOutput-written g s (out, gained, ends) = subst (λ (w : List (ℕ × ℕ)). IsOutput g s w) (all_written out gained) ends

-- a source that counts no failure is no cause
never_failed : (end : Ended) → SourceAtEnd 0 0 end → end ≢ InputBroken
never_failed end h is = let rose : SourceAtEnd 0 0 InputBroken = rw is at h in absurd (omega (arith, rose))

-- the one sink holds no more than the room, and where it is full all of it
module _ (room : ℕ) (held held' : Option (List ℕ)) (bytes : List ℕ) (before : held ≡ Some []) (after : Some bytes ≡ held') where
  within_room : (most : Option ℕ) (r : Result Unit Ended) (out : List (ℕ × ℕ)) → most ≡ Some room → GainedWithin most nothing_before (of_one held) (of_one held') r out → length bytes ≤ room
  within_room most r out is h =
      let within = rw is at h.within in
      let le = within 0 in
      rw (first_part held held' bytes before after out h.gained) (omega (arith, le))

  full_at : (k : ℕ) (out : List (ℕ × ℕ)) → GainedWithin (Some room) nothing_before (of_one held) (of_one held') (Err (OutputFull k)) out → length bytes ≡ room
  full_at zero out h =
      let full : Some room ≡ Some (0 + length (bytes_of_sink 0 out)) = h.full in
      let is : room ≡ 0 + length (bytes_of_sink 0 out) = cc in
      rw (first_part held held' bytes before after out h.gained) (omega (arith, is))
  full_at (suc m) out h =
      let le = within_room (Some room) _ out refl h in
      let full : Some room ≡ Some (0 + length (bytes_of_sink (suc m) out)) = h.full in
      let none = rw (other_parts held held' bytes before after out h.gained m) at full in
      let empty : room ≡ 0 = cc in
      omega (arith, le, empty)

  full_by : (most : Option ℕ) (end : Ended) (out : List (ℕ × ℕ)) → most ≡ Some room → GainedWithin most nothing_before (of_one held) (of_one held') (Err end) out → cause_of end ≡ 8 → length bytes ≡ room
  full_by most (OutputFull k) out is h e = full_at k out (rw is at h)
  full_by most Done out is h e = cc
  full_by most (PatternFull n) out is h e = cc
  full_by most (HoldFull n) out is h e = cc
  full_by most (QueueFull n) out is h e = cc
  full_by most TurnsSpent out is h e = cc
  full_by most (NoPrevious n) out is h e = cc
  full_by most InputBroken out is h e = cc
  full_by most (OutputBroken k) out is h e = cc

  pub Fits-room : (l : LimitsView) (g : Setting) (s : MachineState) (old new : Option (List ℕ)) (end : Ended) → l.output ≡ Some room →
      (out : List (ℕ × ℕ)) × GainedWithin l.output nothing_before (of_one held) (of_one held') (Err end) out × EditEnds l g s out old new end → length bytes ≤ room
  Fits-room l g s old new end is (out, sent, h) =
      within_room l.output (Err end) out is sent

  -- an edit that ended early has stopped for its cause
  pub RunStops-early : (l : LimitsView) (g : Setting) (s : MachineState) (old new : Option (List ℕ)) (end : Ended) → l.output ≡ Some room → end ≢ Done → SourceAtEnd 0 0 end → ((k : ℕ) → end ≢ OutputBroken k) →
      (out : List (ℕ × ℕ)) × GainedWithin l.output nothing_before (of_one held) (of_one held') (Err end) out × EditEnds l g s out old new end → RunStops l g s room bytes end
  RunStops-early l g s old new end is early source output (out, sent, h) =
      record {
        early = early;
        input = never_failed end source;
        output = output;
        t = h.t;
        cause = subst (λ (w : List (ℕ × ℕ)). IsCause l g s w end h.t) (all_written held held' bytes before after out sent.gained) h.cause;
        full = full_by l.output end out is sent;
      }

-- what a run comes to whose bytes are at the front of the output
pub RunsAs-to : (l : LimitsView) (p : Program) (input output bytes : List ℕ) (end : Ended) (n : ℕ) → take n output ≡ bytes →
    (end ≡ Done → IsOutput (setting_of p no_files) (start_over p input) (to_sink 0 bytes)) →
    (end ≢ Done → RunStops (record l { output = Some (length output) }) (setting_of p no_files) (start_over p input) (length output) bytes end) →
    CallRunsTo l p input output (outcome_of end n)
RunsAs-to l p input output bytes Done n same whole stops = rw same (whole refl)
RunsAs-to l p input output bytes (PatternFull k) n same whole stops = rw same (stops (λ e. cc))
RunsAs-to l p input output bytes (HoldFull k) n same whole stops = rw same (stops (λ e. cc))
RunsAs-to l p input output bytes (QueueFull k) n same whole stops = rw same (stops (λ e. cc))
RunsAs-to l p input output bytes TurnsSpent n same whole stops = rw same (stops (λ e. cc))
RunsAs-to l p input output bytes (NoPrevious k) n same whole stops = rw same (stops (λ e. cc))
RunsAs-to l p input output bytes InputBroken n same whole stops = rw same (stops (λ e. cc))
RunsAs-to l p input output bytes (OutputBroken k) n same whole stops = rw same (stops (λ e. cc))
RunsAs-to l p input output bytes (OutputFull k) n same whole stops = rw same (stops (λ e. cc))

-- the limits with the output's length as room
pub RunStops-as : (l l' : LimitsView) (g : Setting) (s : MachineState) (room room' : ℕ) (bytes : List ℕ) (end : Ended) → l' ≡ record l { output = Some room } → room' ≡ room →
    RunStops l' g s room bytes end → RunStops (record l { output = Some room' }) g s room' bytes end
RunStops-as l l' g s room room' bytes end is same h = rw same (rw is at h)
