-- The pieces of parts.
use Rattle.std.proofs.Common.{◌≡◌, ℕ, ◌-◌, ◌≤◌, List, [], ◌∷◌, ◌++◌, map, length, Option, Some, Bool, true, false, ◌==◌, if◌then◌else◌, refl, sym, ap, subst, ◌∙◌, append_assoc, arith, drop, drop_of_length-le, Vec, Global}
use Rattle.std.specs.List.{cons_option}
use Rattle.std.proofs.lemmas.List.{append-nil}
use Rattle.std.proofs.lemmas.Bool.Decides.{nat_tests}
use Rattle.sedscript.specs.declared.substitution.ReplacementPart.{ReplacementPart}
use Rattle.sedscript.specs.declared.substitution.ReplacementPart.TheVariants.{Literal, Whole, Group}
use Rattle.sedscript.specs.Bytes.{is_digit}
use Rattle.sedscript.specs.Strings.{escapes, escaped_piece, piece_of, pieces_from, pieces_of, is_letter}
use Rattle.sedscript.specs.Types.{Piece, literal, whole, group}
use Rattle.sedscript.specs.Pieces.{pieces_in, PieceGroupsWithin}
use Rattle.sedscript.specs.Answers.{pieces_with}

pub pieces_append : (ps qs : List ReplacementPart) → pieces_in (ps ++ qs) ≡ pieces_in ps ++ pieces_in qs
pieces_append [] qs = refl
pieces_append (Literal v ∷ ps) qs = ap (λ (z : List Piece). map literal v.items ++ z) (pieces_append ps qs) ∙ sym (append_assoc (map literal v.items) (pieces_in ps) (pieces_in qs))
pieces_append (Whole ∷ ps) qs = ap (λ (z : List Piece). whole ∷ z) (pieces_append ps qs)
pieces_append (Group k ∷ ps) qs = ap (λ (z : List Piece). group k ∷ z) (pieces_append ps qs)

-- bytes become a part
pub run_ended : (old new : List ReplacementPart) (run : Vec ℕ Global) → new ≡ old ++ Literal run ∷ [] → pieces_in new ≡ pieces_with old run.items
run_ended old new run e = ap pieces_in e ∙ (pieces_append old (Literal run ∷ []) ∙ ap (λ (z : List Piece). pieces_in old ++ z) (append-nil (map literal run.items)))

-- a part of one piece after them
pub part_added : (old mid new : List ReplacementPart) (part : ReplacementPart) (run bytes : List ℕ) (p : Piece) → pieces_in mid ≡ pieces_with old run → new ≡ mid ++ part ∷ [] → pieces_in (part ∷ []) ≡ p ∷ [] → bytes ≡ [] →
    pieces_with new bytes ≡ pieces_with old run ++ p ∷ []
part_added old mid new part run bytes p e grown is none =
    ap (λ (z : List ℕ). pieces_with new z) none ∙ (append-nil (pieces_in new) ∙ (ap pieces_in grown ∙ (pieces_append mid (part ∷ []) ∙ (ap (λ (z : List Piece). z ++ pieces_in (part ∷ [])) e ∙ ap (λ (z : List Piece). pieces_with old run ++ z) is))))

-- a digit's group is from 1 to 9, since 0 is the whole match
abbrev OfPiece : ℕ → Option Piece → Type 0
OfPiece n (Some (group k)) = (1 ≤ k) × (k ≤ n)
OfPiece n other = Unit {0}

if_within : (n : ℕ) (t : Bool) (x y : Option Piece) → (t ≡ true → OfPiece n x) → (t ≡ false → OfPiece n y) → OfPiece n (if t then x else y)
if_within n true x y h g = h refl
if_within n false x y h g = g refl

digit_within : (b : ℕ) → (b == 48) ≡ false → is_digit b ≡ true → (1 ≤ b - 48) × (b - 48 ≤ 9)
digit_within b n h = (grind (arith, nat_tests), grind (arith, nat_tests))

escaped_within : (d b : ℕ) → OfPiece 9 (escaped_piece d b)
escaped_within d b =
    if_within 9 (b == d) _ _ (λ _. tt)
    (λ _. if_within 9 (b == 48) _ _ (λ _. tt)
    (λ n. if_within 9 (is_digit b) _ _ (digit_within b n)
    (λ _. if_within 9 (b == 110) _ _ (λ _. tt)
    (λ _. if_within 9 (b == 116) _ _ (λ _. tt)
    (λ _. if_within 9 (is_letter b) _ _ (λ _. tt) (λ _. tt))))))

piece_within : (d : ℕ) (escaped : Bool) (b : ℕ) → OfPiece 9 (piece_of d escaped b)
piece_within d true b = escaped_within d b
piece_within d false b = if_within 9 (b == 92) _ _ (λ _. tt) (λ _. if_within 9 (b == 38) _ _ (λ _. tt) (λ _. tt))

with_within : (n : ℕ) (o : Option Piece) (ps : List Piece) → OfPiece n o → PieceGroupsWithin n ps → PieceGroupsWithin n (cons_option o ps)
with_within n (Some (group k)) ps h g = (h.0, h.1, g)
with_within n other ps h g = g

from_within : (d : ℕ) (escaped : Bool) (bs : List ℕ) → PieceGroupsWithin 9 (pieces_from d escaped bs)
from_within d escaped [] = tt
from_within d escaped (b ∷ bs) = with_within 9 (piece_of d escaped b) _ (piece_within d escaped b) (from_within d (escapes escaped b) bs)

-- each group of a replacement is one of a digit
pub pieces_within : (d : ℕ) (bs : List ℕ) → PieceGroupsWithin 9 (pieces_of d bs)
pieces_within d bs = from_within d false bs

-- at the end of a text nothing is left
pub parts_within : (d k : ℕ) (escaped : Bool) (bs : List ℕ) (ps qs : List Piece) → length bs ≤ k → pieces_of d bs ≡ ps ++ pieces_from d escaped (drop k bs) → qs ≡ ps → PieceGroupsWithin 9 qs
parts_within d k escaped bs ps qs le e is =
    let none : drop k bs ≡ [] = drop_of_length-le bs le in
    subst (PieceGroupsWithin 9) (e ∙ (ap (λ (z : List ℕ). ps ++ pieces_from d escaped z) none ∙ (append-nil ps ∙ sym is))) (pieces_within d bs)
