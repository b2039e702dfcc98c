-- Private to the proofs: no contract of a public item cites what is here.
-- The parts of a script as they are put into order.
use Rattle.std.specs.Prelude.{◌⊎◌, ℕ, Bool, ◌&&◌, ◌||◌, not, List, [], ◌∷◌, drop, map, length, if◌then◌else◌, nat_lt, slice_get, unwrap_or, string_bytes}
use Rattle.std.proofs.Common.{inl, inr}
use Rattle.clap.specs.Words.{Text}
use Rattle.sedfiles.specs.Types.{File, Part, Script}
use Rattle.sedfiles.specs.declared.parts.Uses.{Uses}

-- the script of a part, or the name of its file
abbrev pub given : Part → Text ⊎ Text
given (Script s) = inl (string_bytes s)
given (File s) = inr (string_bytes s)

-- the words of an option's uses
abbrev pub texts_in : Uses → List (List ℕ)
texts_in uses = map (λ s. s.now) uses.words.now

-- the place of a word among all words
abbrev pub word_place : List ℕ → ℕ → ℕ
word_place places number = unwrap_or (slice_get places number) 0

-- the first of the words left comes before the first of the others that are left
abbrev pub precedes : List (List ℕ) → List ℕ → ℕ → List (List ℕ) → List ℕ → ℕ → Bool
precedes scripts es i files fs j =
    nat_lt i (length scripts) && (not (nat_lt j (length files)) || nat_lt (word_place es i) (word_place fs j))

-- the first of the places
abbrev pub first_place : List ℕ → ℕ
first_place places = unwrap_or (slice_get places 0) 0

-- the scripts of -e and the files of -f, by their places among the words
abbrev pub in_order : List Text → List ℕ → List Text → List ℕ → List (Text ⊎ Text)
in_order [] es files fs = map inr files
in_order (script ∷ scripts) es [] fs = map inl (script ∷ scripts)
in_order (script ∷ scripts) es (name ∷ files) fs =
    if nat_lt (first_place es) (first_place fs) then inl script ∷ in_order scripts (drop 1 es) (name ∷ files) fs
    else inr name ∷ in_order (script ∷ scripts) es files (drop 1 fs)
