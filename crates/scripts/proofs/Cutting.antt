-- The lines of bytes that are cut at a newline.
use Rattle.std.proofs.Common.{◌≡◌, inl, inr, ℕ, ◌<◌, Bool, true, false, List, [], ◌∷◌, ◌++◌, length, refl, subst, sym, ap, ◌∙◌, append_assoc, arith}
use Rattle.std.specs.List.{slice_split, onto_first}
use Rattle.std.proofs.lemmas.List.Splits.{slice_split-cons_yes, slice_split-cons_no, length-slice_split}
use Rattle.sedscript.specs.Program.{Program}
use Rattle.sedspace.specs.Lines.{split_lines, is_newline, without_empty_last}
use Rattle.sedspace.specs.Stream.{AreWholeLines}
use Rattle.sedspace.proofs.LineLemmas.{lines_nil, lines_none}
use Rattle.sedengine.specs.Move.{start}
use Rattle.sedengine.specs.State.{setting_of}
use Rattle.scripts.specs.Alone.{EachLooksAtLine}
use Rattle.sededit.specs.Editing.{IsOutput}
use Rattle.scripts.specs.Edited.{RunsTo}
use Rattle.scripts.proofs.Apart.{one_after_other}

first_kept : (x : List ℕ) (ys : List (List ℕ)) → 0 < length ys → without_empty_last (x ∷ ys) ≡ x ∷ without_empty_last ys
first_kept x [] h = absurd (omega arith)
first_kept [] (y ∷ ys) h = refl
first_kept (b ∷ bs) (y ∷ ys) h = refl

onto_kept : (x : ℕ) (ys : List (List ℕ)) → 0 < length ys → without_empty_last (onto_first x ys) ≡ onto_first x (without_empty_last ys)
onto_kept x [] h = absurd (omega arith)
onto_kept x ([] ∷ []) h = refl
onto_kept x ((b ∷ bs) ∷ []) h = refl
onto_kept x ([] ∷ (z ∷ zs)) h = refl
onto_kept x ((b ∷ bs) ∷ (z ∷ zs)) h = refl

-- a first byte that is a newline, and another one
pub lines_yes : (x : ℕ) (xs : List ℕ) → is_newline x ≡ true → split_lines (x ∷ xs) ≡ [] ∷ split_lines xs
unfolding split_lines
lines_yes x xs h =
    let pieces : 0 < length (slice_split is_newline xs) = omega (arith, length-slice_split is_newline xs) in
    ap without_empty_last (slice_split-cons_yes is_newline x xs h) ∙ first_kept [] (slice_split is_newline xs) pieces

pub lines_no : (x : ℕ) (xs : List ℕ) → is_newline x ≡ false → split_lines (x ∷ xs) ≡ onto_first x (split_lines xs)
unfolding split_lines
lines_no x xs h =
    let pieces : 0 < length (slice_split is_newline xs) = omega (arith, length-slice_split is_newline xs) in
    ap without_empty_last (slice_split-cons_no is_newline x xs h) ∙ onto_kept x (slice_split is_newline xs) pieces

some_of : (ys : List (List ℕ)) → (ys ≡ [] → ⊥) → 0 < length ys
some_of [] h = absurd (h refl)
some_of (y ∷ ys) h = omega arith

some_lines : (p bs : List ℕ) → 0 < length (split_lines (p ++ 10 ∷ bs))
some_lines p bs = some_of (split_lines (p ++ 10 ∷ bs)) (λ none. not_empty p (lines_none (p ++ 10 ∷ bs) none))
  where
    not_empty : (p : List ℕ) → p ++ 10 ∷ bs ≡ [] → ⊥
    not_empty [] h = cc
    not_empty (x ∷ p) h = cc

onto-append : (x : ℕ) (ys zs : List (List ℕ)) → 0 < length ys → onto_first x (ys ++ zs) ≡ onto_first x ys ++ zs
onto-append x [] zs h = absurd (omega arith)
onto-append x (y ∷ ys) zs h = refl

-- the lines of bytes behind a newline are those behind it
lines_behind : (front behind : List ℕ) → split_lines (front ++ 10 ∷ behind) ≡ split_lines (front ++ 10 ∷ []) ++ split_lines behind
lines_behind [] behind = lines_yes 10 behind refl ∙ sym (ap (λ ls. ls ++ split_lines behind) (lines_yes 10 [] refl ∙ ap (λ ls. [] ∷ ls) lines_nil))
lines_behind (x ∷ front) behind = by_test (is_newline x) refl (lines_behind front behind)
  where
    by_test : (t : Bool) → is_newline x ≡ t → split_lines (front ++ 10 ∷ behind) ≡ split_lines (front ++ 10 ∷ []) ++ split_lines behind →
        split_lines (x ∷ front ++ 10 ∷ behind) ≡ split_lines (x ∷ front ++ 10 ∷ []) ++ split_lines behind
    by_test true e rest = lines_yes x (front ++ 10 ∷ behind) e ∙ ap (λ ls. [] ∷ ls) rest ∙ sym (ap (λ ls. ls ++ split_lines behind) (lines_yes x (front ++ 10 ∷ []) e))
    by_test false e rest =
        lines_no x (front ++ 10 ∷ behind) e ∙ ap (onto_first x) rest ∙ onto-append x (split_lines (front ++ 10 ∷ [])) (split_lines behind) (some_lines front [])
        ∙ sym (ap (λ ls. ls ++ split_lines behind) (lines_no x (front ++ 10 ∷ []) e))

pub lines_apart : (a b : List ℕ) → AreWholeLines a → split_lines (a ++ b) ≡ split_lines a ++ split_lines b
lines_apart a b (inl e) = rw e (sym (ap (λ ls. ls ++ split_lines b) lines_nil))
lines_apart a b (inr h) = rw h.1 (ap split_lines (append_assoc h.0 (10 ∷ []) b) ∙ lines_behind h.0 b)

pub apart_law : (p : Program) (files : ℕ → List ℕ) (a b : List ℕ) (x y : List (ℕ × ℕ)) → EachLooksAtLine p → AreWholeLines a → RunsTo p files a x → RunsTo p files b y → RunsTo p files (a ++ b) (x ++ y)
apart_law p files a b x y alone ends first second =
    subst (λ ls. IsOutput (setting_of p files) (start p.commands ls) (x ++ y)) (sym (lines_apart a b ends))
    (one_after_other (setting_of p files) alone p.commands (split_lines a) (split_lines b) x y first second)
