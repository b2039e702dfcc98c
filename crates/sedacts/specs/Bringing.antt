-- Private to the proofs: no contract that `sedengine` makes public cites what is here.
-- What calls that bring the next line into a space, or ask whether one is left, promise.
use Rattle.std.specs.Prelude.{◌≡◌, ◌≢◌, ℕ, ◌<◌, ◌≤◌, Option, None, Result, Ok, Err, List, [], ◌∷◌, ◌++◌, length, Bool, Some}
use Rattle.std.specs.Option.{ForSome}
use Rattle.std.specs.Borrow.{GName}
use Rattle.sedspace.specs.Spaces.{SpaceView}
use Rattle.sedspace.specs.Stream.{Stream, left, lines_left, LosesPart}
use Rattle.sedspace.specs.declared.lines.Got.{Got}
use Rattle.sedspace.specs.declared.lines.Got.TheVariants.{Line, End}
use Rattle.sedacts.specs.Calls.{ReadsAlone}
use Rattle.sedacts.specs.Types.{Ended, PatternFull, InputBroken}
use Rattle.sedacts.specs.Move.{none_left}
use Rattle.sedspace.specs.Reading.{TakesAtMost}
use Rattle.sedacts.specs.Ends.{size_of}

-- Lines were taken, and no more bytes than theirs are gone.
pub record TakesLines {R : Type 0} (remaining : R → Option (List ℕ)) (old new : Stream R)
    (ls rest : List (List ℕ)) : Type 0 where
  pub known : lines_left remaining new ≡ Some rest
  pub lines : List (List ℕ)
  pub are : ls ≡ lines ++ rest
  pub bytes : TakesAtMost (left remaining old) (left remaining new) (size_of lines)

-- What a call does that may read, but takes no line and writes nothing.
pub record ReadsNoLine {R T : Type 0} (remaining : R → Option (List ℕ)) (failures : R → ℕ) (reference : R → List GName)
    (old new : Stream R) (result : Result T Ended) : Type 0 where
  pub left : ForSome (lines_left remaining old) (λ ls. TakesLines remaining old new ls ls)
  pub alone : ReadsAlone remaining failures reference old new result

-- what a call that asks for the last line answers
abbrev pub AnswersLine : Bool → Result Bool Ended → Type 0
AnswersLine last (Ok shown) = shown ≡ last
AnswersLine last (Err InputBroken) = Unit {0}
AnswersLine last (Err _) = ⊥

-- What a call answers that asks whether the line given last was the last one.
pub record AsksLast {R : Type 0} (remaining : R → Option (List ℕ)) (failures : R → ℕ) (reference : R → List GName)
    (lines lines' : Stream R) (result : Result Bool Ended) : Type 0 where
  pub last : lines.fault ≡ None → ForSome (lines_left remaining lines) (λ ls. AnswersLine (none_left ls) result)
  pub reads : ReadsNoLine remaining failures reference lines lines' result

-- What a call answers that brings a space to contain the bytes `before` and the next line, whose number is given, where the
-- lines ls are left. Where there is none, or an end comes, the space stays; at an end a part of one line is gone.
abbrev pub BringsNext : {R : Type 0} → (R → Option (List ℕ)) → Stream R → Stream R → List (List ℕ) → List ℕ → ℕ →
    SpaceView → SpaceView → Result Got Ended → Type 0
BringsNext remaining old new ls before number s s' (Ok Line) =
    (line : List ℕ) × (rest : List (List ℕ)) × (ls ≡ line ∷ rest) × TakesLines remaining old new ls rest
    × (s' ≡ record s { bytes = before ++ line }) × (length (before ++ line) ≤ s.limit)
BringsNext remaining old new ls before number s s' (Ok End) = (ls ≡ []) × TakesLines remaining old new ls [] × (s' ≡ s)
BringsNext remaining old new ls before number s s' (Err (PatternFull n)) =
    (n ≡ number) × ((line : List ℕ) × (rest : List (List ℕ)) × (ls ≡ line ∷ rest) × (s.limit < length (before ++ line)))
    × (s' ≡ s) × LosesPart (left remaining old) (left remaining new) s.limit
BringsNext remaining old new ls before number s s' (Err InputBroken) =
    (s' ≡ s) × LosesPart (left remaining old) (left remaining new) s.limit
BringsNext remaining old new ls before number s s' (Err other) = ⊥

-- The same of lines that may be unknown. Other answers than a line leave the space as it is.
pub record BringsLine {R : Type 0} (remaining : R → Option (List ℕ)) (failures : R → ℕ) (reference : R → List GName)
    (before : List ℕ) (number : ℕ) (space space' : SpaceView) (lines lines' : Stream R) (result : Result Got Ended) : Type 0 where
  pub brings : lines.fault ≡ None → ForSome (lines_left remaining lines) (λ ls.
      BringsNext remaining lines lines' ls before number space space' result)
  pub reads : ReadsAlone remaining failures reference lines lines' result
  pub limit : space'.limit ≡ space.limit
  pub fits : length space.bytes ≤ space.limit → length space'.bytes ≤ space'.limit
  pub stays : result ≢ Ok Line → space' ≡ space
