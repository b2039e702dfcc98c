use Rattle.std.proofs.Common.{◌≡◌, ◌≤◌, ◌++◌, ◌+◌, ◌-◌, drop, length, map}
use Rattle.std.specs.Prelude.{vec_len, vec_capacity}
use Rattle.sedfiles.specs.CommandLineParts.{given, in_order, texts_in}
use Rattle.sedfiles.proofs.parts.parts_in_order.Given as goal

-- the parts made, and after them those of the words left, are all parts
abbrev pub invariant-loop-scripted : goal.invariant-loop-scripted
invariant-loop-scripted l = record {
  all : map given l.parts.items ++ in_order (drop l.scripted (texts_in l.scripts)) (drop l.scripted l.scripts.places.now)
      (drop l.filed (texts_in l.files)) (drop l.filed l.files.places.now)
      ≡ in_order (texts_in l.scripts) l.scripts.places.now (texts_in l.files) l.files.places.now;
  scripts : l.scripted ≤ length l.scripts.words.now;
  files : l.filed ≤ length l.files.words.now;
  count : vec_len l.parts ≡ l.scripted + l.filed;
  room : length l.scripts.words.now + length l.files.words.now ≤ vec_capacity l.parts;
}

abbrev pub decreases-loop-scripted : goal.decreases-loop-scripted
decreases-loop-scripted l = (length l.scripts.words.now - l.scripted) + (length l.files.words.now - l.filed)
