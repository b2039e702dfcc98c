-- What contracts see of a reader of lines.
use Rattle.std.specs.Prelude.{◌≡◌, ℕ, ◌+◌, ◌<◌, ◌≤◌, ◌⊎◌, ◌↔◌, IsTrue, Bool, List, [], ◌∷◌, ◌++◌, length, Option, None, Some, IfSome, Result, Err, ⊤, true}
use Rattle.std.specs.Option.{option_map}
use Rattle.std.specs.Result.{result_err}
use Rattle.std.specs.Io.KnownBytes.{Consumes, prepend_known}
use Rattle.sedspace.specs.declared.errors.LineFault.{LineFault}
use Rattle.sedspace.specs.declared.errors.LineFault.TheVariants.{Broken}
use Rattle.sedspace.specs.FailureCounts.{Rises}
use Rattle.sedspace.specs.Lines.{split_lines, HasNoNewline}

-- a reader of lines: its source, the bytes read ahead, at most how many, whether the end was seen, and the fault that
-- it answered
pub record Stream (R : Type 0) : Type 0 where
  pub source : R
  pub ahead : List ℕ
  pub read_ahead : ℕ
  pub ended : Bool
  pub fault : Option LineFault

-- the bytes still to come: those ahead, and then the source's, where these are known
abbrev pub left : {R : Type 0} → (R → Option (List ℕ)) → Stream R → Option (List ℕ)
left remaining s = prepend_known s.ahead (remaining s.source)

-- the lines still to come
abbrev pub lines_left : {R : Type 0} → (R → Option (List ℕ)) → Stream R → Option (List (List ℕ))
lines_left remaining s = option_map split_lines (left remaining s)

-- a first line was taken
abbrev pub GivesLine : Option (List (List ℕ)) → Option (List (List ℕ)) → List ℕ → Type 0
GivesLine None rest line = ⊤
GivesLine (Some ls) None line = ⊥
GivesLine (Some ls) (Some rest) line = ls ≡ line ∷ rest

-- the first lines were taken, which are those of these bytes
abbrev pub GivesLines : Option (List (List ℕ)) → Option (List (List ℕ)) → List ℕ → Type 0
GivesLines None rest bytes = ⊤
GivesLines (Some ls) None bytes = ⊥
GivesLines (Some ls) (Some rest) bytes = ls ≡ split_lines bytes ++ rest

-- no line is left
abbrev pub NoLineLeft : Option (List (List ℕ)) → Type 0
NoLineLeft None = ⊤
NoLineLeft (Some ls) = ls ≡ []

-- it says whether no line is left
abbrev pub AnswersLast : Option (List (List ℕ)) → Bool → Type 0
AnswersLast None last = ⊤
AnswersLast (Some ls) last = IsTrue last ↔ (ls ≡ [])

-- known lines stay
abbrev pub KeepsLines : Option (List (List ℕ)) → Option (List (List ℕ)) → Type 0
KeepsLines None new = ⊤
KeepsLines (Some ls) None = ⊥
KeepsLines (Some ls) (Some ms) = ms ≡ ls

-- known bytes are the line, a newline and the rest; or the line alone, which isn't empty, and nothing is left
abbrev pub TakesLine : Option (List ℕ) → Option (List ℕ) → List ℕ → Type 0
TakesLine None new line = ⊤
TakesLine (Some xs) None line = ⊥
TakesLine (Some xs) (Some ys) line =
    HasNoNewline line × ((xs ≡ line ++ 10 ∷ ys) ⊎ ((xs ≡ line) × (ys ≡ []) × (0 < length line)))

-- where known bytes contain no newline, the end was seen
abbrev pub SeesEnd : Option (List ℕ) → Bool → Type 0
SeesEnd None ended = ⊤
SeesEnd (Some xs) ended = HasNoNewline xs → ended ≡ true

-- known bytes lose a part of a line, of at most n bytes, from the front
abbrev pub LosesPart : Option (List ℕ) → Option (List ℕ) → ℕ → Type 0
LosesPart None new n = ⊤
LosesPart (Some xs) None n = ⊥
LosesPart (Some xs) (Some ys) n = (part : List ℕ) × HasNoNewline part × (xs ≡ part ++ ys) × (length part ≤ n)

-- the first line is longer than n
abbrev pub FirstIsLonger : Option (List (List ℕ)) → ℕ → Type 0
FirstIsLonger None n = ⊤
FirstIsLonger (Some []) n = ⊥
FirstIsLonger (Some (l ∷ ls)) n = n < length l

-- the failures rise at the answer that the source failed, and stay at every other
abbrev pub FailsIfBroken : {T : Type 0} → Result T LineFault → ℕ → ℕ → Type 0
FailsIfBroken (Err Broken) old new = Rises old new
FailsIfBroken other old new = new ≡ old

-- it reads from the same source as before, known by what no read changes, reads as far ahead, and no further
abbrev pub ReadsOn : {R T : Type 0} → (R → T) → Stream R → Stream R → Type 0
ReadsOn reference old new =
    (length new.ahead ≤ new.read_ahead) × (new.read_ahead ≡ old.read_ahead) × (reference new.source ≡ reference old.source)

-- a fault that it answers is kept; one that was kept is answered again, and nothing changes
abbrev pub KeepsFault : {R T : Type 0} → Result T LineFault → Stream R → Stream R → Type 0
KeepsFault result old new =
    (new.fault ≡ result_err result) × IfSome old.fault (λ fault. (result ≡ Err fault) × (new ≡ old))

-- a known number of reads rises by at most n
abbrev pub RisesAtMost : Option ℕ → Option ℕ → ℕ → Type 0
RisesAtMost None new n = ⊤
RisesAtMost (Some k) None n = ⊥
RisesAtMost (Some k) (Some m) n = m ≤ k + n

-- Bytes were taken from the source, in at most n reads more than there are bytes. With n = 1 the reads of a source that gives
-- a byte at a time are one for each byte and one that gives none: so none follows that one.
abbrev pub ReadsForBytes : {R : Type 0} → (R → Option (List ℕ)) → (R → Option ℕ) → R → R → ℕ → Type 0
ReadsForBytes remaining reads old new n = (taken : List ℕ) × Consumes (remaining old) (remaining new) taken
    × RisesAtMost (reads old) (reads new) (length taken + n)

-- bytes that are whole lines, each with its newline: none, or bytes of which the last is a newline
abbrev pub AreWholeLines : List ℕ → Type 0
AreWholeLines bytes = (bytes ≡ []) ⊎ ((before : List ℕ) × (bytes ≡ before ++ 10 ∷ []))
