-- Bytes of a set, always as many.
use Rattle.sedtext.proofs.Words.{◌+◌, ◌-◌, ◌<◌, ◌∷◌, ◌≡◌, ◌≤◌, [], AllFixedRuns, AllWithin, any_copies, arith, Bool, Byte, byte_of, cases_eq, cases_lt, CopiesLead, false, FirstFixedRun}
use Rattle.sedtext.proofs.Words.{length, Link, List, Matches, MemberAt, no_copy, one_more, refl, RunBegins, SetRepeats, slice_get-get_or, slice_index, slice_index_or, Some, suc, ℕ}
use Rattle.sedtext.proofs.SpanLemmas.{Matches-within}

-- copies and more copies after them
pub CopiesLead-join : (R : ℕ → ℕ → Type 0) (j k i : ℕ) → CopiesLead R k i → CopiesLead R j k → CopiesLead R j i
CopiesLead-join R j k i no_copy more = more
CopiesLead-join R j k i (one_more _ l lt r rest) more = one_more i l lt r (CopiesLead-join R j k l rest more)

module _ (members : List Bool) (w : List ℕ) where
  -- bytes of the set can be cut at each place between them
  pub repeated_cut : (m j i : ℕ) → i ≤ m → m ≤ j → SetRepeats members w i j → SetRepeats members w i m × SetRepeats members w m j
  repeated_cut m j i low high no_copy = grind (arith, no_copy)
  repeated_cut m j i low high (one_more _ l lt r rest) =
      let on = λ (le : l ≤ m). repeated_cut m j l le high rest in grind (arith, cases_lt i m, no_copy, one_more, on)

  -- each of them is in the set
  pub repeated_in : (p j i : ℕ) → i ≤ p → p < j → SetRepeats members w i j → MemberAt members w p
  repeated_in p j i low lt no_copy = absurd (omega arith)
  repeated_in p j i low lt (one_more _ l on r rest) =
      let on = λ (le : l ≤ p). repeated_in p j l le lt rest in grind (arith, cases_eq i p, on)

  -- one more of them before the others
  pub repeated_before : (p j : ℕ) → MemberAt members w p → SetRepeats members w (p + 1) j → SetRepeats members w p j
  repeated_before p j can rest = one_more p (p + 1) (omega arith) (can.0, can.1, can.2, refl) rest

  -- they end in the text
  pub repeated_within : (i j : ℕ) → i ≤ length w → SetRepeats members w i j → j ≤ length w
  repeated_within i j within all = Matches-within (any_copies (byte_of members) false) w i j within all

-- after a byte that isn't in the set the run begins
pub run_stops : (members : List Bool) (v w : List ℕ) (p q place : ℕ) → v ≡ w → q ≤ length w → p < place → place ≤ q → slice_index_or members (slice_index v (place - 1)) false ≡ false → SetRepeats members v place q →
    RunBegins members w p q (place - 1 + 1)
run_stops members v w p q place same inside low high missing copies = grind (arith, slice_get-get_or w (place - 1) 0, repeated_in members w (place - 1) q)

-- links each of which is a byte of the set
pub runs_of_bytes : (links : List Link) (members : List Bool) (n : ℕ) → AllWithin (λ l. l ≡ Byte members) links 0 n → length links ≤ n → AllFixedRuns links members (length links)
runs_of_bytes [] members n all long nodes w i j = grind (arith, no_copy)
runs_of_bytes (l ∷ ls) members n all long nodes w i j =
    let rest = runs_of_bytes ls members (n - 1) (λ k d low lt. all (suc k) d (omega arith) (omega arith)) (omega arith) nodes w (i + 1) j in
    grind (arith, all 0 l, rest, repeated_before members w i j, repeated_cut members w (i + 1) j i, repeated_in members w i j i)

module _ (members : List Bool) (count : ℕ) (w : List ℕ) (from : ℕ) where
  -- no so many bytes begin before a run that begins among those
  pub times_missed : (start seen run : ℕ) → start ≤ seen → seen < run → RunBegins members w seen (start + count) run →
      ((h : ℕ) → from ≤ h → h < start → SetRepeats members w h (h + count) → ⊥) → (h : ℕ) → from ≤ h → h < run → SetRepeats members w h (h + count) → ⊥
  times_missed start seen run low off begins before h after lt all =
      grind (arith, before h, begins, repeated_cut members w (start + count) (h + count) h, repeated_cut members w seen (start + count) h)

  -- here they do
  pub times_here : (start seen : ℕ) → from ≤ start → start + count ≤ length w → SetRepeats members w start seen → SetRepeats members w seen (start + count) →
      ((h : ℕ) → from ≤ h → h < start → SetRepeats members w h (h + count) → ⊥) → FirstFixedRun members count w from (Some start)
  times_here start seen after within these those before = (after, within, CopiesLead-join (Matches (byte_of members) w) (start + count) seen start these those, before)

pub ruleset repeating = (no_copy, repeated_within, times_here, times_missed)
