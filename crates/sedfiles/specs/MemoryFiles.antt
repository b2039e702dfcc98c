-- What contracts see of input files over memory.
use Rattle.std.specs.Prelude.{ℕ, if◌then◌else◌, List, [], ◌∷◌, Option, None, Some, unwrap_or, slice_get}
use Rattle.std.specs.Option.{option_map}
use Rattle.std.specs.Str.{bytes_eq}
use Rattle.sedfiles.specs.Types.{CurrentFile, Nothing, Number, Standard}
use Rattle.sedfiles.specs.Files.{dash}

-- a file over memory: its name, as bytes of UTF-8, and its bytes
pub record NamedFile : Type 0 where
  pub name : List ℕ
  pub bytes : List ℕ

-- files over memory: the files, what the standard input has still to give when it is opened, what the current file has
-- still to give, the most bytes of a read, its calls, the call that fails, its failures, and the openings refused
pub record FilesInMemory : Type 0 where
  pub files : List NamedFile
  pub standard : List ℕ
  pub current : List ℕ
  pub most : ℕ
  pub calls : ℕ
  pub fails_at : Option ℕ
  pub failures : ℕ
  pub refusals : ℕ

-- the bytes of the first file of this name
abbrev pub file_of : List NamedFile → List ℕ → Option (List ℕ)
file_of [] name = None
file_of (file ∷ files) name = if bytes_eq file.name name then Some file.bytes else file_of files name

-- what the files of these names give, opened one after another and each read to its end
abbrev pub files_of : List NamedFile → List ℕ → List (List ℕ) → List (Option (List ℕ))
files_of files standard [] = []
files_of files standard (name ∷ names) =
    if bytes_eq name dash then Some standard ∷ files_of files [] names else file_of files name ∷ files_of files standard names

-- the bytes of the file at a place
abbrev pub bytes_at : List NamedFile → ℕ → List ℕ
bytes_at files k = unwrap_or (option_map (λ file. file.bytes) (slice_get files k)) []

-- all bytes of the file that is current
abbrev pub all_of : List NamedFile → List ℕ → CurrentFile → List ℕ
all_of files standard Nothing = []
all_of files standard Standard = standard
all_of files standard (Number k) = bytes_at files k

-- files over memory that are named by numbers: the files, and the one of each number
pub record NamedFiles : Type 0 where
  pub files : List NamedFile
  pub named : List CurrentFile

-- the text of a number: the file that was named by it
abbrev pub named_text : List NamedFile → List CurrentFile → ℕ → List ℕ
named_text files named k = unwrap_or (option_map (all_of files []) (slice_get named k)) []
