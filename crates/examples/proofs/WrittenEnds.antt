-- Where strings that are written out end.
use Rattle.std.proofs.Common.{◌≡◌, ℕ, suc, ◌+◌, ◌==◌, ◌||◌, ◌&&◌, not, Bool, true, false, if◌then◌else◌, List, [], ◌∷◌, ◌++◌, length, Option, Some, refl, sym, ap, ◌∙◌, arith}
use Rattle.std.proofs.lemmas.Bool.{ne_eqb, eq-eqb}
use Rattle.sedscript.specs.Strings.{string_end}
use Rattle.sedscript.specs.declared.substitution.Piece.{Piece}
use Rattle.sedscript.specs.declared.substitution.Piece.TheVariants.{Literal as literal, Whole as whole, Group as group}
use Rattle.examples.specs.Strings.{written_string}
use Rattle.examples.specs.WrittenReplacements.{written_pieces}

no_break : (t : Bool) → (t && false) ≡ false
no_break true = refl
no_break false = refl

-- a byte without a backslash
past_plain : (breaks : Bool) (d at b : ℕ) (rest : List ℕ) → (b == 10) ≡ false → (b == d) ≡ false → (b == 92) ≡ false →
    string_end breaks d false at (b ∷ rest) ≡ string_end breaks d false (suc at) rest
past_plain breaks d at b rest e f g = rw e (rw f (rw g refl))

-- a byte after a backslash
past_escaped : (breaks : Bool) (d at b : ℕ) (rest : List ℕ) → (d ≡ 92 → ⊥) → (b == 10 && not (breaks && true)) ≡ false →
    string_end breaks d false at (92 ∷ b ∷ rest) ≡ string_end breaks d false (suc (suc at)) rest
past_escaped breaks d at b rest other e = rw (ne_eqb 92 d (λ x. other (sym x))) (rw e refl)

at_end : (breaks : Bool) (d at : ℕ) (rest : List ℕ) → (d ≡ 10 → ⊥) → string_end breaks d false at (d ∷ rest) ≡ Some at
at_end breaks d at rest other = rw (ne_eqb d 10 other) (rw (eq-eqb d d refl) refl)

some_place : (m n : ℕ) → m ≡ n → ◌≡◌ {A = Option ℕ} (Some m) (Some n)
some_place m n e = ap (λ (x : ℕ). Some x) e

parts_false : (s t : Bool) → (s || t) ≡ false → (s ≡ false) × (t ≡ false)
parts_false true t e = absurd (cc)
parts_false false t e = (refl, e)

escaped_newline : (b : ℕ) → (b == 10) ≡ false → (b == 10 && not (false && true)) ≡ false
escaped_newline b e = rw e refl

past_byte : (s t : Bool) (d at b : ℕ) (ys zs : List ℕ) → (d ≡ 92 → ⊥) → (b == 10) ≡ s → (b == d || b == 92) ≡ t →
    ((n : ℕ) → string_end false d false n (ys ++ zs) ≡ Some (n + length ys)) →
    string_end false d false at (((if s then 92 ∷ 110 ∷ [] else if t then 92 ∷ b ∷ [] else b ∷ []) ++ ys) ++ zs)
    ≡ Some (at + length ((if s then 92 ∷ 110 ∷ [] else if t then 92 ∷ b ∷ [] else b ∷ []) ++ ys))
past_byte true t d at b ys zs other e f h =
    past_escaped false d at 110 (ys ++ zs) other refl ∙ (h (suc (suc at)) ∙ some_place (suc (suc at) + length ys) (at + suc (suc (length ys))) (omega arith))
past_byte false true d at b ys zs other e f h =
    past_escaped false d at b (ys ++ zs) other (escaped_newline b e) ∙ (h (suc (suc at)) ∙ some_place (suc (suc at) + length ys) (at + suc (suc (length ys))) (omega arith))
past_byte false false d at b ys zs other e f h =
    let p = parts_false (b == d) (b == 92) f in
    past_plain false d at b (ys ++ zs) e p.0 p.1 ∙ (h (suc at) ∙ some_place (suc at + length ys) (at + suc (length ys)) (omega arith))

pub string_whole : (d : ℕ) (bytes after : List ℕ) (at : ℕ) → (d ≡ 92 → ⊥) → (d ≡ 10 → ⊥) → string_end false d false at (written_string d bytes ++ d ∷ after) ≡ Some (at + length (written_string d bytes))
string_whole d [] after at other line = at_end false d at after line ∙ some_place at (at + 0) (omega arith)
string_whole d (b ∷ bs) after at other line =
    past_byte (b == 10) (b == d || b == 92) d at b (written_string d bs) (d ∷ after) other refl refl (λ n. string_whole d bs after n other line)

past_literal : (t : Bool) (d at b : ℕ) (ys zs : List ℕ) → (d ≡ 92 → ⊥) → (b == d || b == 92 || b == 38 || b == 10) ≡ t →
    ((n : ℕ) → string_end true d false n (ys ++ zs) ≡ Some (n + length ys)) →
    string_end true d false at (((if t then 92 ∷ b ∷ [] else b ∷ []) ++ ys) ++ zs) ≡ Some (at + length ((if t then 92 ∷ b ∷ [] else b ∷ []) ++ ys))
past_literal true d at b ys zs other f h =
    past_escaped true d at b (ys ++ zs) other (no_break (b == 10)) ∙ (h (suc (suc at)) ∙ some_place (suc (suc at) + length ys) (at + suc (suc (length ys))) (omega arith))
past_literal false d at b ys zs other f h =
    let p = parts_false (b == d || b == 92 || b == 38) (b == 10) f in
    let q = parts_false (b == d || b == 92) (b == 38) p.0 in
    let r = parts_false (b == d) (b == 92) q.0 in
    past_plain true d at b (ys ++ zs) p.1 r.0 r.1 ∙ (h (suc at) ∙ some_place (suc at + length ys) (at + suc (length ys)) (omega arith))

pub replacement_whole : (d : ℕ) (ps : List Piece) (after : List ℕ) (at : ℕ) → (d ≡ 92 → ⊥) → (d ≡ 10 → ⊥) → (d ≡ 38 → ⊥) →
    string_end true d false at (written_pieces d ps ++ d ∷ after) ≡ Some (at + length (written_pieces d ps))
replacement_whole d [] after at other line match = at_end true d at after line ∙ some_place at (at + 0) (omega arith)
replacement_whole d (literal b ∷ ps) after at other line match =
    past_literal (b == d || b == 92 || b == 38 || b == 10) d at b (written_pieces d ps) (d ∷ after) other refl (λ n. replacement_whole d ps after n other line match)
replacement_whole d (whole ∷ ps) after at other line match =
    past_plain true d at 38 (written_pieces d ps ++ d ∷ after) refl (ne_eqb 38 d (λ e. match (sym e))) refl
    ∙ (replacement_whole d ps after (suc at) other line match ∙ some_place (suc at + length (written_pieces d ps)) (at + suc (length (written_pieces d ps))) (omega arith))
replacement_whole d (group k ∷ ps) after at other line match =
    past_escaped true d at (48 + k) (written_pieces d ps ++ d ∷ after) other (no_break (48 + k == 10))
    ∙ (replacement_whole d ps after (suc (suc at)) other line match ∙ some_place (suc (suc at) + length (written_pieces d ps)) (at + suc (suc (length (written_pieces d ps)))) (omega arith))
