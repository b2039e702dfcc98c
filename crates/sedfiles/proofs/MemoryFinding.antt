-- Finding a file in memory by its name.
use Rattle.std.proofs.Common.{◌≡◌, ℕ, zero, suc, ◌<◌, true, List, [], ◌∷◌, length, drop, get_or, Some, refl, sym, ap, ◌∙◌, arith}
use Rattle.std.specs.Str.{bytes_eq}
use Rattle.sedfiles.specs.MemoryFiles.{NamedFile, bytes_at, file_of}

bytes_at_is : (files : List NamedFile) (k : ℕ) (file : NamedFile) → k < length files → file ≡ get_or files k file → bytes_at files k ≡ file.bytes
bytes_at_is [] k file inside at = absurd (omega arith)
bytes_at_is (f ∷ files) zero file inside at = ap (λ x. x.bytes) (sym at)
bytes_at_is (f ∷ files) (suc k) file inside at = bytes_at_is files k file (omega arith) at

first_is : (files : List NamedFile) (k : ℕ) (file : NamedFile) (name : List ℕ) → k < length files → file ≡ get_or files k file → bytes_eq file.name name ≡ true → file_of (drop k files) name ≡ Some file.bytes
first_is [] k file name inside at named = absurd (omega arith)
first_is (f ∷ files) zero file name inside at named = rw (← at, named) refl
first_is (f ∷ files) (suc k) file name inside at named = first_is files k file name (omega arith) at named

-- the first file of this name, those before it having another
pub found_at : (files : List NamedFile) (k : ℕ) (file : NamedFile) (name : List ℕ) → k < length files → file ≡ get_or files k file → bytes_eq file.name name ≡ true →
    file_of (drop k files) name ≡ file_of files name → file_of files name ≡ Some (bytes_at files k)
found_at files k file name inside at named before = sym before ∙ first_is files k file name inside at named ∙ ap Some (sym (bytes_at_is files k file inside at))
