-- Files that are opened one after another.
use Rattle.std.specs.Prelude.{◌≡◌, ℕ, Bool, true, false, List, [], ◌∷◌, map, Option, None, Some, unwrap_or, ⊤, ◌++◌, ◌+◌, length, not}
use Rattle.std.specs.Option.{is_some, is_none}
use Rattle.sedspace.specs.FailureCounts.{raised}
use Rattle.sedspace.specs.Failures.{Rose}
use Rattle.sedfiles.specs.Files.{FilesAhead}
use Rattle.sedfiles.specs.Joining.{Joining}

-- An opening, where the file and those after it are known: whether it can be opened is answered, it is the one being
-- read, and those after it are still ahead. One that can't be opened gives nothing.
abbrev pub OpensKnown : Option (List (Option (List ℕ))) → Bool → Option (List ℕ) → Option (List (Option (List ℕ))) → Type 0
OpensKnown None answer current ahead = ⊤
OpensKnown (Some []) answer current ahead = ⊥
OpensKnown (Some (file ∷ files)) answer current ahead =
    (answer ≡ is_some file) × (current ≡ Some (unwrap_or file [])) × (ahead ≡ Some files)

-- the number of openings that were refused rises with each that is
abbrev pub CountsRefusal : Bool → ℕ → ℕ → Type 0
CountsRefusal true old new = new ≡ old
CountsRefusal false old new = new ≡ raised old

-- What a truth value says of the openings since then: some were refused where it is true, and none where it is false.
abbrev pub WereRefused : Bool → ℕ → ℕ → Type 0
WereRefused true old new = Rose old new
WereRefused false old new = new ≡ old

-- only the last of the files gives bytes, if any
abbrev pub OnlyLastGives : List (Option (List ℕ)) → Type 0
OnlyLastGives (file ∷ next ∷ files) = (unwrap_or file [] ≡ []) × OnlyLastGives (next ∷ files)
OnlyLastGives files = ⊤

-- Where the files ahead are known, the first ones were opened, each but the last of these at its end: it is noted of each
-- whether it was missed. A file that the run doesn't reach isn't opened, and doesn't count as missed (this
-- project's own).
abbrev pub NotesMissed : Option (List (Option (List ℕ))) → Option (List (Option (List ℕ))) → List Bool → List Bool → Type 0
NotesMissed None new before after = ⊤
NotesMissed (Some files) new before after =
    (first : List (Option (List ℕ))) × (rest : List (Option (List ℕ))) × (files ≡ first ++ rest) × (new ≡ Some rest)
    × (after ≡ before ++ map is_none first) × OnlyLastGives first

-- the files of the first names were opened, each noted as missed or not
abbrev pub OpensFirstFiles : {I : Type 0} → (I → FilesAhead) → Joining I → Joining I → Type 0
OpensFirstFiles ahead old new =
    ((first : List (List ℕ)) × (old.names ≡ first ++ new.names) × (length new.missed ≡ length old.missed + length first))
    × NotesMissed (ahead old.inputs old.names) (ahead new.inputs new.names) old.missed new.missed

-- the next file was opened: it is the one being read, and noted as missed or not
pub record OpensNext {I : Type 0} (current : I → Option (List ℕ)) (ahead : I → FilesAhead) (old new : Joining I) : Type 0 where
  pub name : List ℕ
  pub names : old.names ≡ name ∷ new.names
  pub answer : Bool
  pub missed : new.missed ≡ old.missed ++ not answer ∷ []
  pub opens : OpensKnown (ahead old.inputs old.names) answer (current new.inputs) (ahead new.inputs new.names)
  pub is_reading : new.is_reading ≡ true
  pub due : new.due ≡ false
