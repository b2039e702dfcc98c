-- Files that are joined, as they are read one after another.
use Rattle.std.specs.Prelude.{ℕ, Bool, List, [], Option, Some, if◌then◌else◌, option_map}
use Rattle.std.specs.Fmt.{option_append}
use Rattle.sedfiles.specs.Files.{FilesAhead, joined_files, with_newline}

-- files that are joined: where they are read from, the names still to open, whether a file is being read, whether a
-- newline is due if it ends here, of each file that was opened whether it was missed, and how many openings the inputs
-- had refused before
pub record Joining (I : Type 0) : Type 0 where
  pub inputs : I
  pub names : List (List ℕ)
  pub is_reading : Bool
  pub due : Bool
  pub missed : List Bool
  pub start : ℕ

-- what is left of the file being read, and its newline where one is due
abbrev pub left_of_current : {I : Type 0} → (I → Option (List ℕ)) → Joining I → Option (List ℕ)
left_of_current current j = if j.is_reading then option_map (with_newline j.due) (current j.inputs) else Some []

-- the bytes still to come: what is left of the file being read, and what the files still to open give, joined
abbrev pub left_joined : {I : Type 0} → (I → Option (List ℕ)) → (I → FilesAhead) → Joining I → Option (List ℕ)
left_joined current ahead j = option_append (left_of_current current j) (joined_files (ahead j.inputs) j.names)
