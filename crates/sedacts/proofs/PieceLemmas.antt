-- What stands for the parts of a replacement.
use Rattle.std.proofs.Common.{◌≡◌, ℕ, suc, ◌+◌, ◌<◌, List, [], ◌∷◌, ◌++◌, true, length, get_or, drop, map, refl, sym, subst, ap, ◌∙◌, add-one, append_assoc, append-nil}
use Rattle.std.specs.Prelude.{slice_range}
use Rattle.std.proofs.lemmas.Bool.{true≢false}
use Rattle.std.proofs.Math.Seq.{drop-cons}
use Rattle.sedmatch.specs.Groups.{SpansOfGroups}
use Rattle.sedscript.specs.declared.substitution.Piece.{Piece}
use Rattle.sedscript.specs.declared.substitution.Piece.TheVariants.{Literal as literal, Whole as whole, Group as group}
use Rattle.sedscript.specs.Pieces.{pieces_in, PieceGroupsWithin}
use Rattle.sedscript.specs.declared.substitution.ReplacementPart.{ReplacementPart}
use Rattle.sedscript.specs.declared.substitution.ReplacementPart.TheVariants.{Literal, Whole, Group}
use Rattle.sedacts.specs.Substitute.{Occurrence, put_for}
use Rattle.sedacts.specs.SubstituteParts.{names_group, with_groups}

-- the parts from a place on are the one there and those after it
drop_next : {A : Type 0} (xs : List A) (k : ℕ) (x : A) → k < length xs → x ≡ get_or xs k x →
    drop k xs ≡ x ∷ drop (k + 1) xs
drop_next xs k x inside is = rw add-one (drop-cons xs k x inside ∙ ap (λ y. y ∷ drop (suc k) xs) (sym is))

-- bytes stand for themselves
put_literals : (w : List ℕ) (m : Occurrence) (bytes : List ℕ) (ps : List Piece) →
    put_for w m (map literal bytes ++ ps) ≡ bytes ++ put_for w m ps
put_literals w m [] ps = refl
put_literals w m (b ∷ bytes) ps = ap (λ (rest : List ℕ). b ∷ rest) (put_literals w m bytes ps)

pub put_bytes : (w : List ℕ) (m : Occurrence) (bytes : List ℕ) → bytes ≡ put_for w m (map literal bytes ++ [])
put_bytes w m bytes = sym (put_literals w m bytes [] ∙ append-nil bytes)

literals_have : (bytes : List ℕ) (ps : List Piece) → names_group (map literal bytes ++ ps) ≡ names_group ps
literals_have [] ps = refl
literals_have (b ∷ bytes) ps = literals_have bytes ps

literals_within : (bytes : List ℕ) (ps : List Piece) → PieceGroupsWithin 9 (map literal bytes ++ ps) → PieceGroupsWithin 9 ps
literals_within [] ps within = within
literals_within (b ∷ bytes) ps within = literals_within bytes ps within

literals_alone : (bytes : List ℕ) → PieceGroupsWithin 9 (map literal bytes ++ [])
literals_alone [] = tt
literals_alone (b ∷ bytes) = literals_alone bytes

-- a part that is no group of the match names no group
no_group : (p : ReplacementPart) (ps : List ReplacementPart) → ((k : ℕ) → p ≡ Group k → ⊥) →
    names_group (pieces_in (p ∷ ps)) ≡ names_group (pieces_in ps)
no_group (Literal bytes) ps other = literals_have bytes.items (pieces_in ps)
no_group Whole ps other = refl
no_group (Group k) ps other = absurd (other k refl)

pub none_here : (parts : List ReplacementPart) (k : ℕ) (p : ReplacementPart) → k < length parts → p ≡ get_or parts k p →
    ((g : ℕ) → p ≡ Group g → ⊥) → names_group (pieces_in (drop k parts)) ≡ names_group (pieces_in parts) →
    names_group (pieces_in (drop (k + 1) parts)) ≡ names_group (pieces_in parts)
none_here parts k p inside is other before =
    sym (no_group p (drop (k + 1) parts) other)
    ∙ ap (λ (ps : List ReplacementPart). names_group (pieces_in ps)) (sym (drop_next parts k p inside is)) ∙ before

-- the groups of a part, and of those after it
within_parts : (p : ReplacementPart) (ps : List ReplacementPart) → PieceGroupsWithin 9 (pieces_in (p ∷ ps)) →
    PieceGroupsWithin 9 (pieces_in (p ∷ [])) × PieceGroupsWithin 9 (pieces_in ps)
within_parts (Literal bytes) ps within = (literals_alone bytes.items, literals_within bytes.items (pieces_in ps) within)
within_parts Whole ps within = (tt, within)
within_parts (Group k) ps within = ((within.0, within.1, tt), within.2)

pub within_next : (parts : List ReplacementPart) (k : ℕ) (p : ReplacementPart) → k < length parts → p ≡ get_or parts k p →
    PieceGroupsWithin 9 (pieces_in (drop k parts)) →
    PieceGroupsWithin 9 (pieces_in (p ∷ [])) × PieceGroupsWithin 9 (pieces_in (drop (k + 1) parts))
within_next parts k p inside is within =
    within_parts p (drop (k + 1) parts)
    (subst (λ (ps : List ReplacementPart). PieceGroupsWithin 9 (pieces_in ps)) (drop_next parts k p inside is) within)

-- what is known where one of the parts is a group is known where this one is, and where one of those after it is
wanted_parts : (X : Type 0) (p : ReplacementPart) (ps : List ReplacementPart) → (names_group (pieces_in (p ∷ ps)) ≡ true → X) →
    (names_group (pieces_in (p ∷ [])) ≡ true → X) × (names_group (pieces_in ps) ≡ true → X)
wanted_parts X (Literal bytes) ps h =
    (λ some. absurd (true≢false (sym some ∙ literals_have bytes.items [])), λ some. h (literals_have bytes.items (pieces_in ps) ∙ some))
wanted_parts X Whole ps h = (λ some. absurd (true≢false (sym some)), h)
wanted_parts X (Group k) ps h = (λ some. h refl, λ some. h refl)

pub wanted_next : (X : Type 0) (parts : List ReplacementPart) (k : ℕ) (p : ReplacementPart) → k < length parts → p ≡ get_or parts k p →
    (names_group (pieces_in (drop k parts)) ≡ true → X) →
    (names_group (pieces_in (p ∷ [])) ≡ true → X) × (names_group (pieces_in (drop (k + 1) parts)) ≡ true → X)
wanted_next X parts k p inside is h =
    wanted_parts X p (drop (k + 1) parts)
    (λ some. h (ap (λ (ps : List ReplacementPart). names_group (pieces_in ps)) (drop_next parts k p inside is) ∙ some))

-- what stands for a part, and for those after it
put_parts : (w : List ℕ) (m : Occurrence) (p : ReplacementPart) (ps : List ReplacementPart) →
    put_for w m (pieces_in (p ∷ ps)) ≡ put_for w m (pieces_in (p ∷ [])) ++ put_for w m (pieces_in ps)
put_parts w m (Literal bytes) ps = simp (put_literals, append_assoc)
put_parts w m Whole ps = simp append_assoc
put_parts w m (Group k) ps = simp append_assoc

pub put_next : (w : List ℕ) (m : Occurrence) (parts : List ReplacementPart) (k : ℕ) (p : ReplacementPart) → k < length parts →
    p ≡ get_or parts k p → put_for w m (pieces_in (drop k parts))
    ≡ put_for w m (pieces_in (p ∷ [])) ++ put_for w m (pieces_in (drop (k + 1) parts))
put_next w m parts k p inside is =
    ap (λ (ps : List ReplacementPart). put_for w m (pieces_in ps)) (drop_next parts k p inside is)
    ∙ put_parts w m p (drop (k + 1) parts)

-- the groups of a match matter only where the replacement has one
pub put_same : (w : List ℕ) (span : ℕ × ℕ) (g h : SpansOfGroups) (ps : List Piece) → (names_group ps ≡ true → g ≡ h) →
    put_for w (with_groups span g) ps ≡ put_for w (with_groups span h) ps
put_same w span g h [] same = refl
put_same w span g h (literal b ∷ ps) same = ap (λ (rest : List ℕ). b ∷ rest) (put_same w span g h ps same)
put_same w span g h (whole ∷ ps) same =
    ap (λ (rest : List ℕ). slice_range w span.0 span.1 ++ rest) (put_same w span g h ps same)
put_same w span g h (group k ∷ ps) same = ap (λ (g : SpansOfGroups). put_for w (with_groups span g) (group k ∷ ps)) (same refl)
