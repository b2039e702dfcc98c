use Rattle.sedpass.proofs.Words.{◌≡◌, ◌≤◌, length, IsNumbering}
use Rattle.sedpass.proofs.ClassLemmas.{AreGiven, key_of}
use Rattle.sedpass.proofs.classes.split.Given as goal

abbrev pub invariant-loop-byte : goal.invariant-loop-byte
invariant-loop-byte l = record {
  few : l.count ≤ l.byte;
  wide : length l.of ≡ 256;
  numbering : IsNumbering l.numbers l.count;
  given : AreGiven (key_of l.classes l.set) l.numbers l.of l.count l.byte;
}
