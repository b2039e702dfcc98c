-- What a replacement says.
use Rattle.std.proofs.Common.{◌≡◌, ℕ, ◌+◌, ◌-◌, ◌≤◌, ◌==◌, ◌⊎◌, inl, inr, ◌||◌, ◌&&◌, Bool, true, false, if◌then◌else◌, List, [], ◌∷◌, ◌++◌, Some, None, refl, ap, arith}
use Rattle.std.proofs.lemmas.Bool.{ne_eqb, eqb-true, le-leb}
use Rattle.sedscript.specs.Bytes.{is_digit}
use Rattle.sedscript.specs.declared.substitution.Piece.{Piece}
use Rattle.sedscript.specs.declared.substitution.Piece.TheVariants.{Literal as literal, Whole as whole, Group as group}
use Rattle.sedscript.specs.Strings.{escaped_piece, pieces_from, pieces_of, is_letter}
use Rattle.sedscript.specs.Pieces.{PieceGroupsWithin}
use Rattle.examples.specs.WrittenReplacements.{written_pieces}

no_escape : (t : Bool) → (t && false) ≡ false
no_escape true = refl
no_escape false = refl

escaped_read : (d b : ℕ) (p : Piece) (rest : List ℕ) (ps : List Piece) → escaped_piece d b ≡ Some p → pieces_from d false rest ≡ ps →
    pieces_from d false (92 ∷ b ∷ rest) ≡ p ∷ ps
escaped_read d b p rest ps e h = rw e (rw (no_escape (b == 92)) (ap (λ (x : List Piece). p ∷ x) h))

-- a byte that is written after a backslash
pub special : (d b : ℕ) → (b == d || b == 92 || b == 38 || b == 10) ≡ true → escaped_piece d b ≡ Some (literal b)
special d b h = by_delimiter (b == d) refl h
  where
    by_rest : (b ≡ 92) ⊎ ((b ≡ 38) ⊎ (b ≡ 10)) → (if b == 48 then Some whole else if is_digit b then Some (group (b - 48)) else if b == 110 then Some (literal 10) else if b == 116 then Some (literal 9) else if is_letter b then None else Some (literal b)) ≡ Some (literal b)
    by_rest (inl e) = rw e refl
    by_rest (inr (inl e)) = rw e refl
    by_rest (inr (inr e)) = rw e refl

    by_tests : (s t : Bool) → (b == 92) ≡ s → (b == 38) ≡ t → (s || t || b == 10) ≡ true → (b ≡ 92) ⊎ ((b ≡ 38) ⊎ (b ≡ 10))
    by_tests true t e f h = inl (eqb-true b 92 e)
    by_tests false true e f h = inr (inl (eqb-true b 38 f))
    by_tests false false e f h = inr (inr (eqb-true b 10 h))

    by_delimiter : (s : Bool) → (b == d) ≡ s → (s || b == 92 || b == 38 || b == 10) ≡ true → (if s then Some (literal b) else if b == 48 then Some whole else if is_digit b then Some (group (b - 48)) else if b == 110 then Some (literal 10) else if b == 116 then Some (literal 9) else if is_letter b then None else Some (literal b)) ≡ Some (literal b)
    by_delimiter true e h = refl
    by_delimiter false e h = by_rest (by_tests (b == 92) (b == 38) refl refl h)

-- a byte that is written as it is
plain : (d b : ℕ) (rest : List ℕ) (ps : List Piece) → (b == d || b == 92 || b == 38 || b == 10) ≡ false → pieces_from d false rest ≡ ps →
    pieces_from d false (b ∷ rest) ≡ literal b ∷ ps
plain d b rest ps h e = by_tests (b == d) (b == 92) (b == 38) refl refl h
  where
    by_tests : (r s t : Bool) → (b == 92) ≡ s → (b == 38) ≡ t → (r || s || t || b == 10) ≡ false → pieces_from d false (b ∷ rest) ≡ literal b ∷ ps
    by_tests true s t f g h = absurd (cc)
    by_tests false true t f g h = absurd (cc)
    by_tests false false true f g h = absurd (cc)
    by_tests false false false f g h = rw f (rw g (ap (λ (x : List Piece). literal b ∷ x) e))

literal_read : (t : Bool) (d b : ℕ) (rest : List ℕ) (ps : List Piece) → (b == d || b == 92 || b == 38 || b == 10) ≡ t → pieces_from d false rest ≡ ps →
    pieces_from d false ((if t then 92 ∷ b ∷ [] else b ∷ []) ++ rest) ≡ literal b ∷ ps
literal_read true d b rest ps h e = escaped_read d b (literal b) rest ps (special d b h) e
literal_read false d b rest ps h e = plain d b rest ps h e

pub group_escape : (d k : ℕ) → 1 ≤ k → k ≤ 9 → (48 + k == d) ≡ false → escaped_piece d (48 + k) ≡ Some (group k)
group_escape d k low high other =
    let back : 48 + k - 48 ≡ k = omega arith in
    rw other
    (rw (ne_eqb (48 + k) 48 (λ e. omega (arith, e, low)))
    (rw (le-leb 48 (48 + k) (omega arith)) (rw (le-leb (48 + k) 57 (omega (arith, high))) (ap (λ (n : ℕ). Some (group n)) back))))

pub replacement_read : (d : ℕ) (ps : List Piece) → (48 ≤ d → d ≤ 57 → ⊥) → PieceGroupsWithin 9 ps → pieces_of d (written_pieces d ps) ≡ ps
replacement_read d [] other fit = refl
replacement_read d (literal b ∷ ps) other fit =
    literal_read (b == d || b == 92 || b == 38 || b == 10) d b (written_pieces d ps) ps refl (replacement_read d ps other fit)
replacement_read d (whole ∷ ps) other fit = ap (λ (x : List Piece). whole ∷ x) (replacement_read d ps other fit)
replacement_read d (group k ∷ ps) other fit = escaped_read d (48 + k) (group k) (written_pieces d ps) ps (group_escape d k fit.0 fit.1 (ne_eqb (48 + k) d (λ e. other (omega (arith, e)) (omega (arith, e, fit.1))))) (replacement_read d ps other fit.2)
