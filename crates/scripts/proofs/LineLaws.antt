-- Lines without a newline in them.
use Rattle.std.proofs.Common.{◌≡◌, ℕ, List, [], ◌∷◌, Bool, true, false, cond, refl}
use Rattle.std.specs.List.{slice_split, onto_first, list_any}
use Rattle.sedspace.specs.Lines.{is_newline, split_lines, without_empty_last}

-- no line has a newline in it
abbrev pub NoneBroken : List (List ℕ) → Type 0
NoneBroken [] = Unit {0}
NoneBroken (line ∷ rest) = (list_any is_newline line ≡ false) × NoneBroken rest

onto_first_none : (b : ℕ) (parts : List (List ℕ)) → is_newline b ≡ false → NoneBroken parts → NoneBroken (onto_first b parts)
onto_first_none b [] e h = (rw e refl, tt)
onto_first_none b (part ∷ parts) e h = (rw e h.0, h.1)

parts_none : (bytes : List ℕ) → NoneBroken (slice_split is_newline bytes)
parts_none [] = (refl, tt)
parts_none (b ∷ bs) = by_test (is_newline b) refl (parts_none bs)
  where
    by_test : (t : Bool) → is_newline b ≡ t → NoneBroken (slice_split is_newline bs) → NoneBroken (cond t ([] ∷ slice_split is_newline bs) (onto_first b (slice_split is_newline bs)))
    by_test true e h = (refl, h)
    by_test false e h = onto_first_none b (slice_split is_newline bs) e h

without_none : (parts : List (List ℕ)) → NoneBroken parts → NoneBroken (without_empty_last parts)
without_none [] h = tt
without_none ([] ∷ []) h = tt
without_none ([] ∷ part ∷ parts) h = (h.0, without_none (part ∷ parts) h.1)
without_none ((b ∷ bs) ∷ parts) h = (h.0, without_none parts h.1)

pub lines_none_broken : (bytes : List ℕ) → NoneBroken (split_lines bytes)
unfolding split_lines
lines_none_broken bytes = without_none (slice_split is_newline bytes) (parts_none bytes)
