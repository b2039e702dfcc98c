-- Lines and the newlines between them.
use Rattle.std.proofs.Common.{◌≡◌, ℕ, zero, suc, ◌+◌, ◌<◌, ◌||◌, Bool, true, false, List, [], ◌∷◌, ◌++◌, length, take, drop, refl, ap, take_all, arith}
use Rattle.std.specs.Prelude.{slice_index_or}
use Rattle.std.specs.List.{after_first, before_first, list_any, position_or_len}
use Rattle.sedspace.specs.Lines.{is_newline, split_lines}
use Rattle.sedspace.proofs.LineLemmas.{lines_at}

by_place : (line : List ℕ) → list_any is_newline line ≡ false → (k d : ℕ) → k < length line → is_newline (slice_index_or line k d) ≡ false
by_place [] none k d below = absurd (omega arith)
by_place (b ∷ bs) none k d below = by_test (is_newline b) refl none k below (by_place bs)
  where
    by_test : (t : Bool) → is_newline b ≡ t → (t || list_any is_newline bs) ≡ false → (k : ℕ) → k < suc (length bs) →
        (list_any is_newline bs ≡ false → (k d : ℕ) → k < length bs → is_newline (slice_index_or bs k d) ≡ false) → is_newline (slice_index_or (b ∷ bs) k d) ≡ false
    by_test true is none k below on = absurd cc
    by_test false is none zero below on = is
    by_test false is none (suc k) below on = on none k d (omega arith)

-- a line and its newline, and then others
pub line_again : (line rest : List ℕ) → list_any is_newline line ≡ false → split_lines (line ++ 10 ∷ rest) ≡ line ∷ split_lines rest
line_again line rest none = lines_at line rest (by_place line none)

first_newline : (line rest : List ℕ) → list_any is_newline line ≡ false → position_or_len is_newline (line ++ 10 ∷ rest) ≡ length line
first_newline [] rest none = refl
first_newline (b ∷ bs) rest none = by_test (is_newline b) refl none (first_newline bs rest)
  where
    by_test : (t : Bool) → is_newline b ≡ t → (t || list_any is_newline bs) ≡ false →
        (list_any is_newline bs ≡ false → position_or_len is_newline (bs ++ 10 ∷ rest) ≡ length bs) → position_or_len is_newline (b ∷ bs ++ 10 ∷ rest) ≡ suc (length bs)
    by_test true is none on = absurd cc
    by_test false is none on = rw (is, on none) (omega arith)

no_newline : (line : List ℕ) → list_any is_newline line ≡ false → position_or_len is_newline line ≡ length line
no_newline [] none = refl
no_newline (b ∷ bs) none = by_test (is_newline b) refl none (no_newline bs)
  where
    by_test : (t : Bool) → is_newline b ≡ t → (t || list_any is_newline bs) ≡ false →
        (list_any is_newline bs ≡ false → position_or_len is_newline bs ≡ length bs) → position_or_len is_newline (b ∷ bs) ≡ suc (length bs)
    by_test true is none on = absurd cc
    by_test false is none on = rw (is, on none) (omega arith)

take_front : (line rest : List ℕ) → take (length line) (line ++ rest) ≡ line
take_front [] rest = refl
take_front (b ∷ bs) rest = ap (λ (x : List ℕ). b ∷ x) (take_front bs rest)

drop_front : (line rest : List ℕ) → drop (suc (length line)) (line ++ 10 ∷ rest) ≡ rest
drop_front [] rest = refl
drop_front (b ∷ bs) rest = drop_front bs rest

-- of two lines with a newline between them
pub before_it : (line rest : List ℕ) → list_any is_newline line ≡ false → before_first is_newline (line ++ 10 ∷ rest) ≡ line
before_it line rest none = rw (first_newline line rest none) (take_front line (10 ∷ rest))

pub after_it : (line rest : List ℕ) → list_any is_newline line ≡ false → after_first is_newline (line ++ 10 ∷ rest) ≡ rest
after_it line rest none =
    let place : length line + 1 ≡ suc (length line) = omega arith in
    rw (first_newline line rest none, place) (drop_front line rest)

pub has_it : (line rest : List ℕ) → list_any is_newline (line ++ 10 ∷ rest) ≡ true
has_it [] rest = refl
has_it (b ∷ bs) rest = by_test (is_newline b) (has_it bs rest)
  where
    by_test : (t : Bool) → list_any is_newline (bs ++ 10 ∷ rest) ≡ true → (t || list_any is_newline (bs ++ 10 ∷ rest)) ≡ true
    by_test true h = refl
    by_test false h = h

pub all_of_it : (line : List ℕ) → list_any is_newline line ≡ false → before_first is_newline line ≡ line
all_of_it line none = rw (no_newline line none) (take_all (length line) line (omega arith))
