use Rattle.std.proofs.Common.{◌≡◌, ◌≤◌, length, map, take}
use Rattle.std.specs.Prelude.{vec_len, vec_capacity}
use Rattle.std.specs.String.{string_bytes}
use Rattle.sedfiles.proofs.parts.strings.Given as goal

-- the words gone by are there as strings
abbrev pub invariant-loop-word : goal.invariant-loop-word
invariant-loop-word l = record {
  made : map string_bytes l.strings.items ≡ map (λ s. s.now) (take l.word-index l.words);
  count : vec_len l.strings ≡ l.word-index;
  room : length l.words ≤ vec_capacity l.strings;
}
