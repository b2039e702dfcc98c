-- Words of lines.
use Rattle.std.specs.Prelude.{ℕ, ◌+◌, List, [], ◌∷◌, length, Bool, not, Option, Some, None, is_some, decimal}
use Rattle.std.specs.Prelude.{◌≡◌, ◌||◌, ◌++◌, codes, false, map, nat_lt, true}
use Rattle.std.specs.List.{join_with_byte, list_all}
use Rattle.examples.specs.Strings.{NoneTwice, written_string}
use Rattle.sedscript.specs.Strings.{is_among, table_of}
use Rattle.sedengine.specs.Move.{in_table}
use Rattle.sedre.specs.Tree.{Tree}
use Rattle.sedmatch.specs.Matching.{leftmost_longest, reported_groups}
use Rattle.sedscript.specs.declared.substitution.Piece.{Piece}
use Rattle.sedengine.specs.Substitute.{Occurrence, each_occurrence, replaced_from}

-- each line after its number, counted from this one
abbrev pub numbered_lines : ℕ → List (List ℕ) → List (List ℕ)
numbered_lines n [] = []
numbered_lines n (line ∷ more) = decimal n ∷ line ∷ numbered_lines (n + 1) more

-- the first line, the third and so on
abbrev pub odd_ones : List (List ℕ) → List (List ℕ)
odd_ones [] = []
odd_ones (line ∷ []) = line ∷ []
odd_ones (line ∷ next ∷ more) = line ∷ odd_ones more

-- the match of an expression, by its span, with its groups
abbrev pub match_with : Tree → List ℕ → Option (ℕ × ℕ) → Option Occurrence
match_with e w None = None
match_with e w (Some span) = Some (record { start = span.0; end = span.1; groups = reported_groups e w span.0 span.1 })

-- a text with all occurrences of an expression in it replaced
abbrev pub replaced : Tree → List Piece → List ℕ → List ℕ
replaced e pieces w = replaced_from w pieces 0 (each_occurrence (λ from. match_with e w (leftmost_longest e w from)) (length w))

-- whether an expression has no match in a text
abbrev pub has_none : Tree → List ℕ → Bool
has_none e w = not (is_some (leftmost_longest e w 0))

-- the lines in one, with commas between them; none where there are none
abbrev pub in_one : List (List ℕ) → List (List ℕ)
in_one [] = []
in_one lines = join_with_byte 44 lines ∷ []

-- a text, byte by byte, by the table of two strings
abbrev pub by_table : (string1 string2 : List ℕ) → List ℕ → List ℕ
by_table string1 string2 w = map (in_table (Some (table_of string1 string2))) w

-- `y/string1/string2/`, the strings as they are written out between slashes
abbrev pub y_of : (string1 string2 : List ℕ) → List ℕ
y_of string1 string2 = codes "y/" ++ (written_string 47 string1 ++ (codes "/" ++ (written_string 47 string2 ++ codes "/")))

-- The two strings are bytes, none of them twice in a string, of one length, and the second has no newline; and each byte of the
-- input is in the first string, or not in the second. So it is where both have the same bytes, in any order, or where the
-- second's don't occur.
pub record HasWayBack (string1 string2 input : List ℕ) : Type 0 where
  pub first_once : NoneTwice string1
  pub second_once : NoneTwice string2
  pub long : length string1 ≡ length string2
  pub bytes : list_all (λ b. nat_lt b 256) string2 ≡ true
  pub no_newline : is_among string2 10 ≡ false
  pub back : list_all (λ b. is_among string1 b || not (is_among string2 b)) input ≡ true
