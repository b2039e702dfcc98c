-- Whole lines, and the bytes that follow them.
use Rattle.std.proofs.Common.{◌≡◌, ℕ, ◌<◌, inl, inr, Bool, true, false, List, [], ◌∷◌, ◌++◌, length, take, drop, Option, None, Some, refl, sym, ap, ◌∙◌, arith, append_assoc, take-append-drop}
use Rattle.std.specs.List.{slice_split, onto_first}
use Rattle.std.specs.Option.{option_map}
use Rattle.std.specs.Io.KnownBytes.{prepend_known}
use Rattle.std.proofs.lemmas.List.Splits.{slice_split-cons_yes, slice_split-cons_no, length-slice_split}
use Rattle.sedspace.specs.Lines.{split_lines, is_newline, without_empty_last}
use Rattle.sedspace.specs.Stream.{AreWholeLines}
use Rattle.sedspace.specs.Stream.{GivesLines}
use Rattle.sedspace.proofs.LineLemmas.{lines_nil, lines_none}

first_kept : (x : List ℕ) (ys : List (List ℕ)) → 0 < length ys → without_empty_last (x ∷ ys) ≡ x ∷ without_empty_last ys
first_kept x [] h = absurd (omega arith)
first_kept [] (y ∷ ys) h = refl
first_kept (b ∷ bs) (y ∷ ys) h = refl

onto_kept : (x : ℕ) (ys : List (List ℕ)) → 0 < length ys → without_empty_last (onto_first x ys) ≡ onto_first x (without_empty_last ys)
onto_kept x [] h = absurd (omega arith)
onto_kept x ([] ∷ []) h = refl
onto_kept x ((b ∷ bs) ∷ []) h = refl
onto_kept x ([] ∷ (z ∷ zs)) h = refl
onto_kept x ((b ∷ bs) ∷ (z ∷ zs)) h = refl

-- a first byte that is a newline, and another one
pub lines_yes : (x : ℕ) (xs : List ℕ) → is_newline x ≡ true → split_lines (x ∷ xs) ≡ [] ∷ split_lines xs
unfolding split_lines
lines_yes x xs h =
    let pieces : 0 < length (slice_split is_newline xs) = omega (arith, length-slice_split is_newline xs) in
    ap without_empty_last (slice_split-cons_yes is_newline x xs h) ∙ first_kept [] (slice_split is_newline xs) pieces

pub lines_no : (x : ℕ) (xs : List ℕ) → is_newline x ≡ false → split_lines (x ∷ xs) ≡ onto_first x (split_lines xs)
unfolding split_lines
lines_no x xs h =
    let pieces : 0 < length (slice_split is_newline xs) = omega (arith, length-slice_split is_newline xs) in
    ap without_empty_last (slice_split-cons_no is_newline x xs h) ∙ onto_kept x (slice_split is_newline xs) pieces

some_of : (ys : List (List ℕ)) → (ys ≡ [] → ⊥) → 0 < length ys
some_of [] h = absurd (h refl)
some_of (y ∷ ys) h = omega arith

pub some_lines : (p bs : List ℕ) → 0 < length (split_lines (p ++ 10 ∷ bs))
some_lines p bs = some_of (split_lines (p ++ 10 ∷ bs)) (λ none. not_empty p (lines_none (p ++ 10 ∷ bs) none))
  where
    not_empty : (p : List ℕ) → p ++ 10 ∷ bs ≡ [] → ⊥
    not_empty [] h = cc
    not_empty (x ∷ p) h = cc

onto-append : (x : ℕ) (ys zs : List (List ℕ)) → 0 < length ys → onto_first x (ys ++ zs) ≡ onto_first x ys ++ zs
onto-append x [] zs h = absurd (omega arith)
onto-append x (y ∷ ys) zs h = refl

first_append : (x : ℕ) (p bs : List ℕ) (b : Bool) → is_newline x ≡ b → split_lines (p ++ 10 ∷ bs) ≡ split_lines (p ++ 10 ∷ []) ++ split_lines bs → split_lines (x ∷ (p ++ 10 ∷ bs)) ≡ split_lines (x ∷ (p ++ 10 ∷ [])) ++ split_lines bs
first_append x p bs true h rest = lines_yes x (p ++ 10 ∷ bs) h ∙ ap (λ ls. [] ∷ ls) rest ∙ ap (λ ls. ls ++ split_lines bs) (sym (lines_yes x (p ++ 10 ∷ []) h))
first_append x p bs false h rest =
    lines_no x (p ++ 10 ∷ bs) h ∙ ap (onto_first x) rest ∙ onto-append x (split_lines (p ++ 10 ∷ [])) (split_lines bs) (some_lines p [])
    ∙ ap (λ ls. ls ++ split_lines bs) (sym (lines_no x (p ++ 10 ∷ []) h))

-- the lines of a block and of what follows it
pub lines-append : (p bs : List ℕ) → split_lines (p ++ 10 ∷ bs) ≡ split_lines (p ++ 10 ∷ []) ++ split_lines bs
lines-append [] bs = lines_yes 10 bs refl ∙ ap (λ ls. ls ++ split_lines bs) (sym (lines_yes 10 [] refl ∙ ap (λ ls. [] ∷ ls) lines_nil))
lines-append (x ∷ p) bs = first_append x p bs (is_newline x) refl (lines-append p bs)

pub block_lines : (p bs : List ℕ) → split_lines ((p ++ 10 ∷ []) ++ bs) ≡ split_lines (p ++ 10 ∷ []) ++ split_lines bs
block_lines p bs = ap split_lines (append_assoc p (10 ∷ []) bs) ∙ lines-append p bs

-- whole lines come before those of what follows them
pub whole_then : (whole bytes : List ℕ) → AreWholeLines whole → split_lines (whole ++ bytes) ≡ split_lines whole ++ split_lines bytes
whole_then whole bytes (inl none) = ap (λ w. split_lines (w ++ bytes)) none ∙ ap (λ ls. ls ++ split_lines bytes) (sym lines_nil) ∙ ap (λ w. split_lines w ++ split_lines bytes) (sym none)
whole_then whole bytes (inr (before, is)) = ap (λ w. split_lines (w ++ bytes)) is ∙ block_lines before bytes ∙ ap (λ w. split_lines w ++ split_lines bytes) (sym is)

-- whole lines that were ahead are taken
pub gives_lines : (ahead rest : List ℕ) (known : Option (List ℕ)) (n : ℕ) → drop n ahead ≡ rest → AreWholeLines (take n ahead) →
    GivesLines (option_map split_lines (prepend_known ahead known)) (option_map split_lines (prepend_known rest known)) (take n ahead)
gives_lines ahead rest None n is whole = tt
gives_lines ahead rest (Some xs) n is whole =
    ap (λ a. split_lines (a ++ xs)) (sym (take-append-drop n ahead)) ∙ ap split_lines (append_assoc (take n ahead) (drop n ahead) xs) ∙ whole_then (take n ahead) (drop n ahead ++ xs) whole
    ∙ ap (λ r. split_lines (take n ahead) ++ split_lines (r ++ xs)) is
