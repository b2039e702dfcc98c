-- Private to the proofs: no contract that `sedmatch` makes public cites what is here.
-- A byte that comes first, or none, and bytes of a set that follow, or none, and where they are.
use Rattle.std.specs.Prelude.{◌≡◌, ℕ, ◌+◌, ◌-◌, ◌<◌, ◌≤◌, ◌⊎◌, Bool, List, length, Option, Some, None}
use Rattle.sedtext.specs.Bytes.{MemberAt}
use Rattle.sedtext.specs.Runs.{SetRepeats}
use Rattle.sedmatch.specs.declared.stretches.Anchoring.{Anchoring}
use Rattle.sedmatch.specs.declared.stretches.Anchoring.TheVariants.{AtStart, AtEnd, Whole, AtEitherEnd}
use Rattle.sedmatch.specs.declared.stretches.Stretch.{Stretch}

-- what comes first is at the place: a byte of the set, if there is one
abbrev pub ComesFirst : Option (List Bool) → List ℕ → ℕ → Type 0
ComesFirst None w i = Unit {0}
ComesFirst (Some set) w i = MemberAt set w i

-- the place behind what comes first at the place i
abbrev pub behind_first : Option (List Bool) → ℕ → ℕ
behind_first None i = i
behind_first (Some set) i = i + 1

-- the bytes from i up to j are such as follow
abbrev pub Follow : Option (List Bool) → List ℕ → ℕ → ℕ → Type 0
Follow None w i j = j ≡ i
Follow (Some members) w i j = SetRepeats members w i j

-- a span from i to j is where it is anchored, if it is
abbrev pub IsAnchored : Option Anchoring → List ℕ → ℕ → ℕ → Type 0
IsAnchored None w i j = Unit {0}
IsAnchored (Some AtStart) w i j = i ≡ 0
IsAnchored (Some AtEnd) w i j = j ≡ length w
IsAnchored (Some Whole) w i j = (i ≡ 0) × (j ≡ length w)
IsAnchored (Some AtEitherEnd) w i j = (i ≡ 0) ⊎ (j ≡ length w)

-- the spans of a stretch that is anchored so: what comes first, and such bytes as follow
abbrev pub StretchSpans : Stretch → Option Anchoring → List ℕ → ℕ → ℕ → Type 0
StretchSpans s anchoring w i j = (ComesFirst s.first w i × Follow s.rest w (behind_first s.first i) j) × IsAnchored anchoring w i j

-- the longest of the spans that begin first from p on, in a text of n bytes, if there is one
abbrev pub FirstOf : (ℕ → ℕ → Type 0) → ℕ → ℕ → Option (ℕ × ℕ) → Type 0
FirstOf Spans n p None = (i j : ℕ) → p ≤ i → i ≤ n → Spans i j → ⊥
FirstOf Spans n p (Some f) =
    (p ≤ f.0) × Spans f.0 f.1 × (f.1 ≤ n) × ((j : ℕ) → Spans f.0 j → j ≤ f.1) × ((i j : ℕ) → p ≤ i → i < f.0 → Spans i j → ⊥)

-- the bytes that follow from i on end at j at the farthest
abbrev pub FollowTo : Option (List Bool) → List ℕ → ℕ → ℕ → Type 0
FollowTo rest w i j = (j ≤ length w) × Follow rest w i j × ((k : ℕ) → Follow rest w i k → k ≤ j)

-- the place behind what comes first where it was found, or the end n of the text
abbrev pub passed_first : Option (List Bool) → ℕ → Option ℕ → ℕ
passed_first first n None = n
passed_first first n (Some k) = behind_first first k

-- where the match found ends, or the end n of the text
abbrev pub end_or : ℕ → Option (ℕ × ℕ) → ℕ
end_or n None = n
end_or n (Some f) = f.1

-- How many bytes are looked at at least where a stretch that is anchored so is found from p on. At the end of the text it is sought
-- back from there, and these are its own.
abbrev pub bytes_sought : Option Anchoring → ℕ → ℕ × ℕ → ℕ
bytes_sought (Some AtEnd) p f = f.1 - f.0
bytes_sought other p f = f.1 - p
