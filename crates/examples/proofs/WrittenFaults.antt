-- What is written out has no fault.
use Rattle.std.proofs.Common.{◌≡◌, ℕ, suc, ◌+◌, ◌-◌, ◌≤◌, ◌==◌, ◌||◌, ◌&&◌, Bool, true, false, if◌then◌else◌, List, [], ◌∷◌, ◌++◌, Option, Some, None, refl, ap, ◌∙◌}
use Rattle.std.specs.Prelude.{is_none}
use Rattle.std.specs.Option.{option_or}
use Rattle.std.proofs.lemmas.Bool.{le-ltb}
use Rattle.sedscript.specs.declared.types.ScriptFault.{ScriptFault}
use Rattle.sedscript.specs.declared.substitution.Piece.{Piece}
use Rattle.sedscript.specs.declared.substitution.Piece.TheVariants.{Literal as literal, Whole as whole, Group as group}
use Rattle.sedscript.specs.Strings.{escaped_byte, string_fault, escaped_piece, piece_fault, replacement_fault}
use Rattle.sedscript.specs.Pieces.{PieceGroupsWithin}
use Rattle.examples.specs.Strings.{written_string}
use Rattle.examples.specs.WrittenReplacements.{written_pieces}
use Rattle.examples.proofs.PieceReading.{special, group_escape}

-- ---- strings of `y`

escape_taken : (t : Bool) (o : Option ℕ) (c : ℕ) → o ≡ Some c → (t && is_none o) ≡ false
escape_taken true o c e = rw e refl
escape_taken false o c e = refl

no_escape : (t : Bool) → (t && false) ≡ false
no_escape true = refl
no_escape false = refl

past_escape : (d at b c : ℕ) (rest : List ℕ) → escaped_byte d b ≡ Some c → ((n : ℕ) → string_fault d false n rest ≡ None) → string_fault d false at (92 ∷ b ∷ rest) ≡ None
past_escape d at b c rest e h = rw e (rw (no_escape (b == 92)) (h (suc (suc at))))

past_plain : (d at b : ℕ) (rest : List ℕ) → (b == 92) ≡ false → ((n : ℕ) → string_fault d false n rest ≡ None) → string_fault d false at (b ∷ rest) ≡ None
past_plain d at b rest e h = rw e (h (suc at))

newline_taken : (t : Bool) (d : ℕ) → (110 == d) ≡ t → (c : ℕ) × (escaped_byte d 110 ≡ Some c)
newline_taken true d e = (110, rw e refl)
newline_taken false d e = (10, rw e refl)

self_taken : (d b : ℕ) → (b == d || b == 92) ≡ true → escaped_byte d b ≡ Some b
self_taken d b e = rw e refl

right_false : (s t : Bool) → (s || t) ≡ false → t ≡ false
right_false true t e = cc
right_false false t e = e

past_byte : (s t : Bool) (d at b : ℕ) (rest : List ℕ) → (b == d || b == 92) ≡ t → ((n : ℕ) → string_fault d false n rest ≡ None) →
    string_fault d false at ((if s then 92 ∷ 110 ∷ [] else if t then 92 ∷ b ∷ [] else b ∷ []) ++ rest) ≡ None
past_byte true t d at b rest f h = let n = newline_taken (110 == d) d refl in past_escape d at 110 n.0 rest n.1 h
past_byte false true d at b rest f h = past_escape d at b b rest (self_taken d b f) h
past_byte false false d at b rest f h = past_plain d at b rest (right_false (b == d) (b == 92) f) h

pub string_faultless : (d : ℕ) (bytes : List ℕ) (at : ℕ) → string_fault d false at (written_string d bytes) ≡ None
string_faultless d [] at = refl
string_faultless d (b ∷ bs) at = past_byte (b == 10) (b == d || b == 92) d at b (written_string d bs) refl (λ n. string_faultless d bs n)

-- ---- replacements

past_piece : (d : ℕ) (limit : Option ℕ) (at b : ℕ) (rest : List ℕ) → ((n : ℕ) → piece_fault limit n (escaped_piece d b) ≡ None) →
    ((n : ℕ) → replacement_fault d limit false n rest ≡ None) → replacement_fault d limit false at (92 ∷ b ∷ rest) ≡ None
past_piece d limit at b rest f h =
    ap (λ (x : Option ScriptFault). option_or x (replacement_fault d limit false (suc (suc at)) rest)) (f (suc at - 1)) ∙ h (suc (suc at))

past_letter : (d : ℕ) (limit : Option ℕ) (at b : ℕ) (rest : List ℕ) → (b == 92) ≡ false → ((n : ℕ) → replacement_fault d limit false n rest ≡ None) → replacement_fault d limit false at (b ∷ rest) ≡ None
past_letter d limit at b rest e h = rw e (h (suc at))

second_false : (r s t u : Bool) → (r || s || t || u) ≡ false → s ≡ false
second_false true s t u e = cc
second_false false true t u e = cc
second_false false false t u e = refl

past_literal : (t : Bool) (d : ℕ) (limit : Option ℕ) (at b : ℕ) (rest : List ℕ) → (b == d || b == 92 || b == 38 || b == 10) ≡ t →
    ((n : ℕ) → replacement_fault d limit false n rest ≡ None) → replacement_fault d limit false at ((if t then 92 ∷ b ∷ [] else b ∷ []) ++ rest) ≡ None
past_literal true d limit at b rest f h = past_piece d limit at b rest (λ n. rw (special d b f) refl) h
past_literal false d limit at b rest f h = past_letter d limit at b rest (second_false (b == d) (b == 92) (b == 38) (b == 10) f) h

group_there : (n at k : ℕ) → k ≤ n → piece_fault (Some n) at (Some (group k)) ≡ None
group_there n at k h = rw (le-ltb n k h) refl

-- where the delimiter is the group's digit, the escape stands for that digit
group_faultless : (t : Bool) (d n k at : ℕ) → (48 + k == d) ≡ t → 1 ≤ k → k ≤ 9 → k ≤ n → piece_fault (Some n) at (escaped_piece d (48 + k)) ≡ None
group_faultless true d n k at e low high there = rw e refl
group_faultless false d n k at e low high there = rw (group_escape d k low high e) (group_there n at k there)

pub replacement_faultless : (d groups : ℕ) (ps : List Piece) (at : ℕ) → PieceGroupsWithin 9 ps → PieceGroupsWithin groups ps → replacement_fault d (Some groups) false at (written_pieces d ps) ≡ None
replacement_faultless d groups [] at fit there = refl
replacement_faultless d groups (literal b ∷ ps) at fit there =
    past_literal (b == d || b == 92 || b == 38 || b == 10) d (Some groups) at b (written_pieces d ps) refl (λ n. replacement_faultless d groups ps n fit there)
replacement_faultless d groups (whole ∷ ps) at fit there = replacement_faultless d groups ps (suc at) fit there
replacement_faultless d groups (group k ∷ ps) at fit there =
    past_piece d (Some groups) at (48 + k) (written_pieces d ps) (λ n. group_faultless (48 + k == d) d groups k n refl fit.0 fit.1 there.1)
    (λ n. replacement_faultless d groups ps n fit.2 there.2)
