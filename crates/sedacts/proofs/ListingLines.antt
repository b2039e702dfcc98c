-- The lines of a listing are short.
use Rattle.std.proofs.Common.{◌≡◌, ℕ, ◌+◌, ◌≤◌, ◌/◌, ◌%◌, Bool, true, false, cond, nat_lt, nat_le, ◌==◌, ◌&&◌, List, [], ◌∷◌, ◌++◌, length, refl, sym, subst, append_assoc, arith}
use Rattle.std.specs.List.{All, slice_split}
use Rattle.std.proofs.lemmas.Bool.Decides.{nat_tests}
use Rattle.std.proofs.lemmas.List.{length-append}
use Rattle.std.proofs.lemmas.List.Elements.{All-nil, All-cons, All-append}
use Rattle.std.proofs.lemmas.List.Splits.{slice_split_at}
use Rattle.sedspace.specs.Lines.{is_newline, HasNoNewline}
use Rattle.sedacts.specs.Listing.{backslashed, octal, listed_byte, listed, listed_from, most_listed}

-- no newline, and short
record Fine (i : List ℕ) : Type 0 where
  none : HasNoNewline i
  short : length i ≤ 4

nothing : HasNoNewline []
nothing = All-nil (λ b. is_newline b ≡ false)

-- a byte before bytes
before : (b : ℕ) (bs : List ℕ) → is_newline b ≡ false → HasNoNewline bs → HasNoNewline (b ∷ bs)
before b bs p q = All-cons (λ x. is_newline x ≡ false) b bs p q

joined : (xs ys : List ℕ) → HasNoNewline xs → HasNoNewline ys → HasNoNewline (xs ++ ys)
joined xs ys p q = All-append (λ x. is_newline x ≡ false) xs ys p q

fine_one : (a : ℕ) → is_newline a ≡ false → Fine (a ∷ [])
fine_one a p = record { none = before a [] p nothing; short = omega arith }

fine_escape : (a : ℕ) → is_newline a ≡ false → Fine (backslashed a)
fine_escape a p = record { none = before 92 (a ∷ []) refl (before a [] p nothing); short = omega arith }

no_digit : (n : ℕ) → is_newline (48 + n) ≡ false
no_digit n = grind (arith, nat_tests)

fine_octal : (b : ℕ) → Fine (octal b)
fine_octal b =
    let third : List ℕ = (48 + b % 8) ∷ [] in
    let second : List ℕ = (48 + b / 8 % 8) ∷ third in
    let first : List ℕ = (48 + b / 64) ∷ second in
    let low = before (48 + b % 8) [] (no_digit (b % 8)) nothing in
    let middle = before (48 + b / 8 % 8) third (no_digit (b / 8 % 8)) low in
    let high = before (48 + b / 64) second (no_digit (b / 64)) middle in
    record { none = before 92 first refl high; short = omega arith }

by_test : (t : Bool) (x y : List ℕ) → Fine x → (t ≡ false → Fine y) → Fine (cond t x y)
by_test true x y p q = p
by_test false x y p q = q refl

printable : (b : ℕ) → is_newline b ≡ false → (t : Bool) → Fine (cond t (b ∷ []) (octal b))
printable b p true = fine_one b p
printable b p false = fine_octal b

fine : (b : ℕ) → Fine (listed_byte b)
fine b =
    by_test (b == 92) _ _ (fine_escape 92 refl) (λ _.
    by_test (b == 7) _ _ (fine_escape 97 refl) (λ _.
    by_test (b == 8) _ _ (fine_escape 98 refl) (λ _.
    by_test (b == 12) _ _ (fine_escape 102 refl) (λ _.
    by_test (b == 13) _ _ (fine_escape 114 refl) (λ _.
    by_test (b == 9) _ _ (fine_escape 116 refl) (λ _.
    by_test (b == 11) _ _ (fine_escape 118 refl) (λ _.
    by_test (b == 10) _ _ (fine_escape 110 refl) (λ p.
    printable b p (nat_le 32 b && nat_le b 126)))))))))

abbrev AreShort : List ℕ → Type 0
AreShort bytes = All (λ line. length line ≤ 70) (slice_split is_newline bytes)

-- a line that ends
one_line : (line rest : List ℕ) → HasNoNewline line → length line ≤ 70 → AreShort rest → AreShort (line ++ 10 ∷ rest)
one_line line rest p h q =
    subst (All (λ l. length l ≤ 70)) (sym (slice_split_at is_newline line 10 rest p refl)) (All-cons (λ l. length l ≤ 70) line (slice_split is_newline rest) h q)

-- what the definition makes of an item, after the bytes `line` of a piece
abbrev FromItem : ℕ → List ℕ → List ℕ → List ℕ → Bool → Type 0
FromItem column line bs i t =
    AreShort (line ++ cond t (92 ∷ 10 ∷ i ++ listed_from (length i) bs) (i ++ listed_from (column + length i) bs))

-- an item, where what comes after it is known to be short after each piece that may come before
next : (t : Bool) (line i bs : List ℕ) (column : ℕ) → t ≡ nat_lt most_listed (column + length i) → length line ≡ column → column ≤ 69 →
    HasNoNewline line → Fine i →
    ((piece : List ℕ) (n : ℕ) → length piece ≡ n → n ≤ 69 → HasNoNewline piece → AreShort (piece ++ listed_from n bs)) →
    FromItem column line bs i t
next true line i bs column test same h p f more =
    let whole = append_assoc line (92 ∷ []) (10 ∷ (i ++ listed_from (length i) bs)) in
    let size : length (line ++ 92 ∷ []) ≤ 70 = omega (arith, length-append {A = ℕ}) in
    let none = joined line (92 ∷ []) p (before 92 [] refl nothing) in
    subst AreShort whole (one_line (line ++ 92 ∷ []) (i ++ listed_from (length i) bs) none size (more i (length i) refl (omega (arith, f.short)) f.none))
next false line i bs column test same h p f more =
    let whole = append_assoc line i (listed_from (column + length i) bs) in
    let size : length (line ++ i) ≡ column + length i = omega (arith, length-append {A = ℕ}) in
    let fits : column + length i ≤ 69 = grind (arith, nat_tests) in
    subst AreShort whole (more (line ++ i) (column + length i) size fits (joined line i p f.none))

from_line : (bs line : List ℕ) (column : ℕ) → length line ≡ column → column ≤ 69 → HasNoNewline line → AreShort (line ++ listed_from column bs)
from_line [] line column same h p =
    let whole = append_assoc line (36 ∷ []) (10 ∷ []) in
    let size : length (line ++ 36 ∷ []) ≤ 70 = omega (arith, length-append {A = ℕ}) in
    let none = joined line (36 ∷ []) p (before 36 [] refl nothing) in
    subst AreShort whole (one_line (line ++ 36 ∷ []) [] none size (All-cons (λ l. length l ≤ 70) [] [] (omega arith) (All-nil (λ l. length l ≤ 70))))
from_line (b ∷ bs) line column same h p =
    next (nat_lt most_listed (column + length (listed_byte b))) line (listed_byte b) bs column refl same h p (fine b) (λ piece n. from_line bs piece n)

pub short_lines : (bytes : List ℕ) → All (λ line. length line ≤ 70) (slice_split is_newline (listed bytes))
unfolding listed
short_lines bytes = from_line bytes [] 0 refl (omega arith) nothing
