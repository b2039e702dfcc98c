use Rattle.std.proofs.Common.{◌≡◌, ◌≤◌, ◌-◌, ◌+◌, ℕ, List, [], length, drop, false, true}
use Rattle.sedscript.specs.Strings.{repeated_in, chars_from}
use Rattle.sedscript.specs.Answers.{marks_of_bytes}
use Rattle.sedscript.proofs.transliteration.repeated.Given as goal

abbrev pub invariant-bytes : goal.invariant-bytes
invariant-bytes l = (l.k ≤ length l.bytes) × (l.escaped ≡ true → 1 ≤ l.k) × (before : List ℕ) × (l.seen ≡ marks_of_bytes before) ×
    (repeated_in [] (chars_from l.delimiter false l.from l.bytes) ≡ repeated_in before (chars_from l.delimiter l.escaped (l.from + l.k) (drop l.k l.bytes)))

abbrev pub decreases-bytes : goal.decreases-bytes
decreases-bytes l = length l.bytes - l.k
