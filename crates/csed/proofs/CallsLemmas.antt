-- From what a call came to to what it reports.
use Rattle.std.proofs.Common.{◌≡◌, ◌≢◌, ℕ, List, pos, take}
use Rattle.sededit.proofs.EditLemmas.{BeginsOutput-at}
use Rattle.csed.specs.declared.asked.SedLimits.{SedLimits}
use Rattle.csed.specs.declared.outcome.CallOutcome.{CallOutcome}
use Rattle.csed.specs.declared.outcome.CallOutcome.TheVariants.{Done, Faulty, WritesFiles, BadLimits, NoMemory, Stopped}
use Rattle.csed.specs.Calls.{IsBeginning, asked_by}
use Rattle.csed.specs.Outcomes.{EditsTo, report_of, status_of}

-- no other status is that of a run that stopped
done_is_other : pos 0 ≢ pos 4
done_is_other is = cc

refused_is_other : pos 1 ≢ pos 4
refused_is_other is = cc

bad_limits_are_other : pos 2 ≢ pos 4
bad_limits_are_other is = cc

no_memory_is_other : pos 3 ≢ pos 4
no_memory_is_other is = cc

-- a run that stopped has written a beginning
pub Beginning-written : (text : List ℕ) (flags : ℕ) (l : SedLimits) (input output : List ℕ) (o : CallOutcome) → status_of o ≡ pos 4 → EditsTo text flags l input output o →
    IsBeginning text (asked_by flags l) input (take (report_of o).written output)
Beginning-written text flags l input output (Stopped n end) is h =
    let (p, gives, stops) = h.1 in
    (p, gives, BeginsOutput-at _ _ _ _ _ _ _ stops.cause)
Beginning-written text flags l input output (Done n) is h = absurd (done_is_other is)
Beginning-written text flags l input output (Faulty f) is h = absurd (refused_is_other is)
Beginning-written text flags l input output WritesFiles is h = absurd (refused_is_other is)
Beginning-written text flags l input output BadLimits is h = absurd (bad_limits_are_other is)
Beginning-written text flags l input output NoMemory is h = absurd (no_memory_is_other is)
