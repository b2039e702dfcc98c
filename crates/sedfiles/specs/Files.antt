-- The files that the program reads, joined as one stream (XCU sed, Input Files), and those that it creates (XCU sed, "w wfile").
use Rattle.std.specs.Prelude.{◌≡◌, ℕ, Bool, false, not, List, [], ◌∷◌, ◌++◌, map, flat_map, take, Option, Some, IfSome, option_map, unwrap_or, if◌then◌else◌}
use Rattle.std.specs.Fmt.{option_append}
use Rattle.std.specs.Io.KnownBytes.{Keeps}
use Rattle.sedspace.specs.Lines.{is_newline}

-- the name of the standard input, `-` (this project's own)
abbrev pub dash : List ℕ
dash = 45 ∷ []

-- what the files of some names give, opened one after another, where that is known: None for one that can't be opened
abbrev pub FilesAhead : Type 0
FilesAhead = List (List ℕ) → Option (List (Option (List ℕ)))

-- what the file of a name gives, read whole, where that is known: None where it can't be read
abbrev pub WholeFiles : Type 0
WholeFiles = List ℕ → Option (Option (List ℕ))

-- files that are known stay as they are
abbrev pub KeepsFiles : Option (List (Option (List ℕ))) → Option (List (Option (List ℕ))) → Type 0
KeepsFiles old new = IfSome old (λ files. new ≡ Some files)

-- a file that is read whole gives its bytes, or nothing where it can't be read
abbrev pub GivesWhole : Option (Option (List ℕ)) → Option (List ℕ) → Type 0
GivesWhole shown given = IfSome shown (λ file. given ≡ file)

-- whether a newline is due after these bytes: the last of them is none, or there are no bytes and one was due before
abbrev pub due_after : Bool → List ℕ → Bool
due_after due [] = due
due_after due (b ∷ bs) = due_after (not (is_newline b)) bs

-- bytes, and then a newline where one is due
abbrev pub with_newline : Bool → List ℕ → List ℕ
with_newline due bytes = bytes ++ (if due_after due bytes then 10 ∷ [] else [])

-- The files' bytes one after another, a newline added to each file that isn't empty and doesn't end with one.
abbrev pub concatenated : List (List ℕ) → List ℕ
concatenated files = flat_map (with_newline false) files

-- what the files of these names give, joined: one that can't be opened is as an empty one (this project's own)
abbrev pub joined_files : FilesAhead → List (List ℕ) → Option (List ℕ)
joined_files ahead names = option_map (λ files. concatenated (map (λ file. unwrap_or file []) files)) (ahead names)

-- What joined inputs have still to give: what is left of the file being read, if one is, and what further files give, joined.
abbrev pub StillGives : {I : Type 0} → (I → Option (List ℕ)) → (I → FilesAhead) → I → Option (List ℕ) → Type 0
StillGives current ahead inputs more = (reading due : Bool) × (names : List (List ℕ)) × (more ≡ option_append
    (if reading then option_map (with_newline due) (current inputs) else Some []) (joined_files (ahead inputs) names))

-- no file was opened and none of the input read
pub record OnlyReadsScripts {I : Type 0} (current : I → Option (List ℕ)) (ahead : I → FilesAhead) (text : I → WholeFiles)
    (refusals failures : I → ℕ) (reference : I → List ℕ) (old new : I) : Type 0 where
  pub same_current : Keeps (current old) (current new)
  pub same_ahead : (names : List (List ℕ)) → KeepsFiles (ahead old names) (ahead new names)
  pub texts : (name : List ℕ) → text new name ≡ text old name
  pub refused : refusals new ≡ refusals old
  pub failed : failures new ≡ failures old
  pub same_reference : reference new ≡ reference old

-- files of these names were created in this order, after those that were there
abbrev pub Creates : List (List ℕ) → List (List ℕ) → List (List ℕ) → Type 0
Creates old new names = new ≡ old ++ names

-- files of the first of these names, perhaps of none, were created in this order, after those that were there
abbrev pub CreatesFirst : List (List ℕ) → List (List ℕ) → List (List ℕ) → Type 0
CreatesFirst old new names = (count : ℕ) × Creates old new (take count names)
