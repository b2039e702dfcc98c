-- The spans of groups lie in the text.
use Rattle.sedtext.proofs.Words.{◌≤◌, any_copies, arith, Captures, common_steps, either_of, forget, grouped, IsReport, List, no_groups, None, one_or_none, Option, sequence, slice_set, Some, span_of, SpanIn, SpansOfGroups, Tree, ℕ}
use Rattle.sedtext.proofs.MatchingLemmas.{LastCopy-copy}
use Rattle.sedtext.proofs.SpanLemmas.{Matches-forward}

-- all spans lie in a text of n bytes
abbrev pub Lie : ℕ → SpansOfGroups → Type 0
Lie n g = (k : ℕ) → SpanIn n (span_of g k)

Lie-set : (n : ℕ) (g : SpansOfGroups) (k : ℕ) (v : Option (ℕ × ℕ)) → SpanIn n v → Lie n g → Lie n (slice_set g k v)
Lie-set n g k v within old c = grind (arith, common_steps)

Lie-forget : (n : ℕ) (e : Tree) (g : SpansOfGroups) → Lie n g → Lie n (forget e g)
Lie-forget n (sequence a b) g old = Lie-forget n b (forget a g) (Lie-forget n a g old)
Lie-forget n (either_of a b) g old = Lie-forget n b (forget a g) (Lie-forget n a g old)
Lie-forget n (grouped k a) g old = Lie-forget n a (slice_set g k None) (Lie-set n g k None tt old)
Lie-forget n (any_copies a first) g old = Lie-forget n a g old
Lie-forget n (one_or_none a first) g old = Lie-forget n a g old
Lie-forget n _ g old = old

pub Captures-lie : (n : ℕ) (e : Tree) (w : List ℕ) (i j : ℕ) (old new : SpansOfGroups) → i ≤ j → j ≤ n → Captures e w i j old new → Lie n old → Lie n new
Captures-lie n (sequence a b) w i j old new up high h lie = grind (arith, Matches-forward, Captures-lie n a w i h.0 old h.2.0, Captures-lie n b w h.0 j h.2.0 new)
Captures-lie n (either_of a b) w i j old new up high h lie = grind (arith, Captures-lie n a w i j old new, Captures-lie n b w i j old new)
Captures-lie n (grouped k a) w i j old new up high h lie = grind (arith, Lie-set n h.0 k (Some (i, j)), Captures-lie n a w i j (forget (grouped k a) old) h.0, Lie-forget n (grouped k a) old lie)
Captures-lie n (any_copies a first) w i j old new up high h lie = grind (arith, Captures-lie n a w, Lie-forget n a old lie, Matches-forward a w, LastCopy-copy)
Captures-lie n (one_or_none a first) w i j old new up high h lie = grind (arith, Lie-forget n a old lie, Captures-lie n a w i j (forget a old) new, Captures-lie n a w i i (forget a old) new)
Captures-lie n _ w i j old new up high h lie = grind arith

pub report_lies : (n : ℕ) (e : Tree) (w : List ℕ) (i j : ℕ) (groups : SpansOfGroups) → i ≤ j → j ≤ n → IsReport e w i j groups → Lie n groups
report_lies n e w i j groups up high h = grind (arith, Lie-set n h.0 0 (Some (i, j)), Captures-lie n e w i j no_groups h.0, common_steps)
