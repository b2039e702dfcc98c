-- The lines of a stream of bytes (XBD 3, Line and Incomplete Line), and how many of its bytes are gone.
use Rattle.std.specs.Prelude.{◌≡◌, ℕ, ◌==◌, Bool, false, List, [], ◌∷◌}
use Rattle.std.specs.List.{All, slice_split}

-- the byte that ends a line (XBD 3, Newline Character)
abbrev pub is_newline : ℕ → Bool
is_newline b = b == 10

-- the pieces without the last one where it is empty
abbrev pub without_empty_last : List (List ℕ) → List (List ℕ)
without_empty_last [] = []
without_empty_last ([] ∷ []) = []
without_empty_last (x ∷ more) = x ∷ without_empty_last more

-- the lines, each without its newline: the pieces between newlines, the last one only where it isn't empty. So a last line
-- without a newline is a line (this project's own)
unfoldable pub split_lines : List ℕ → List (List ℕ)
split_lines bytes = without_empty_last (slice_split is_newline bytes)

-- no byte is a newline
abbrev pub HasNoNewline : List ℕ → Type 0
HasNoNewline bytes = All (λ b. is_newline b ≡ false) bytes
