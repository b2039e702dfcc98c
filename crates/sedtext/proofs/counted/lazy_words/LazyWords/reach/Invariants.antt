use Rattle.std.specs.Prelude.{vec_capacity}
use Rattle.sedtext.proofs.Words.{◌-◌, ◌≡◌, ◌≤◌, length, slice_index_or, ℕ}
use Rattle.sedtext.proofs.counted.lazy_words.LazyWords.reach.Given as goal

abbrev pub invariant-loop-self : goal.invariant-loop-self
invariant-loop-self l = record {
  count : l.self-inside.count ≡ l.initial.self-inside.count;
  few : length l.self-inside.words.items ≤ l.self-inside.count;
  capacity : vec_capacity l.self-inside.words ≡ vec_capacity l.initial.self-inside.words;
  same : (k : ℕ) → slice_index_or l.self-inside.words.items k 0 ≡ slice_index_or l.initial.self-inside.words.items k 0;
}

abbrev pub decreases-loop-self : goal.decreases-loop-self
decreases-loop-self l = l.end - length l.self-inside.words.items
