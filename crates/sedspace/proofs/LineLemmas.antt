-- Laws of lines.
use Rattle.std.proofs.Common.{◌≡◌, ℕ, ◌+◌, ◌<◌, ◌≤◌, Bool, true, false, List, [], ◌∷◌, ◌++◌, length, take, drop, get_or, Option, None, Some, refl, sym, ap, ◌∙◌, cond, nat_lt, arith, Contains, eqb, position, length-take, get_or-take, take-append-drop, append_assoc, ap₂, ⊎_elim, eq-or-lt_of_le, not}
use Rattle.std.specs.List.{slice_split, position_or_len, before_first, after_first}
use Rattle.std.proofs.lemmas.List.Splits.{slice_split_none, slice_split_at, length-slice_split, slice_split_first}
use Rattle.std.proofs.lemmas.List.Sums.{fails_before_first, passes_at_first, position_or_len_is, prefix_len-le-length}
use Rattle.std.proofs.lemmas.List.Folds.{prefix_len-append, length-prefix_len}
use Rattle.std.proofs.lemmas.List.{drop_more, drop_all, get_or_at, take_all, length-take-le}
use Rattle.std.proofs.lemmas.Bool.Decides.{nat_tests}
use Rattle.std.proofs.Math.Seq.{take-append-add}
use Rattle.memchr.specs.Find.{IsFirstByte, is_byte}
use Rattle.sedspace.specs.Lines.{split_lines, is_newline, without_empty_last, HasNoNewline}

not_true : (b : Bool) → ¬ (b ≡ true) → b ≡ false
not_true true h = absurd (h refl)
not_true false h = refl

-- a piece before others is no last one
without_empty_last-cons : (x : List ℕ) (ys : List (List ℕ)) → 0 < length ys → without_empty_last (x ∷ ys) ≡ x ∷ without_empty_last ys
without_empty_last-cons x [] h = absurd (omega arith)
without_empty_last-cons [] (y ∷ ys) h = refl
without_empty_last-cons (b ∷ bs) (y ∷ ys) h = refl

-- a line that a newline ends
pub lines_at : (line rest : List ℕ) → HasNoNewline line → split_lines (line ++ 10 ∷ rest) ≡ line ∷ split_lines rest
unfolding split_lines
lines_at line rest h =
    let pieces : 0 < length (slice_split is_newline rest) = omega (arith, length-slice_split is_newline rest) in
    rw (slice_split_at is_newline line 10 rest h refl) (without_empty_last-cons line (slice_split is_newline rest) pieces)

-- a last line that no newline ends
pub lines_last : (line : List ℕ) → HasNoNewline line → 0 < length line → split_lines line ≡ line ∷ []
unfolding split_lines
lines_last [] h n = absurd (omega arith)
lines_last (b ∷ bs) h n = rw (slice_split_none is_newline (b ∷ bs) h) refl

pub lines_nil : split_lines [] ≡ []
unfolding split_lines
lines_nil = refl

-- the first newline, and what comes before and after it
pub record IsNewlineAt (bytes : List ℕ) (i : ℕ) : Type 0 where
  pub within : i < length bytes
  pub none_before : HasNoNewline (take i bytes)
  pub parts : bytes ≡ take i bytes ++ 10 ∷ drop (i + 1) bytes
  pub before : before_first is_newline bytes ≡ take i bytes
  pub after : after_first is_newline bytes ≡ drop (i + 1) bytes

pub position_cases : (bytes : List ℕ) (i : ℕ) → Some i ≡ cond (nat_lt (position_or_len is_newline bytes) (length bytes)) (Some (position_or_len is_newline bytes)) None → (i ≡ position_or_len is_newline bytes) × (i < length bytes)
position_cases bytes i e = grind (arith, nat_tests)

newline_parts : (bytes : List ℕ) (i : ℕ) → i ≡ position_or_len is_newline bytes → i < length bytes → IsNewlineAt bytes i
newline_parts bytes i e h =
    let at : position_or_len is_newline bytes < length bytes = omega arith in
    let fails = fails_before_first is_newline bytes in
    let passes : eqb (get_or bytes (position_or_len is_newline bytes) 0) 10 ≡ true = passes_at_first is_newline bytes 0 at in
    let ten : get_or bytes i 0 ≡ 10 = grind (arith, nat_tests) in
    let split = drop_more bytes i 0 h in
    record {
      within = h;
      none_before = λ k d l.
          let low : k < i = omega (arith, length-take i bytes) in
          rw (get_or-take i bytes k d low) (fails k d (omega arith));
      parts = sym (take-append-drop i bytes) ∙ ap (λ z. take i bytes ++ z) (split ∙ ap (λ x. x ∷ drop (i + 1) bytes) ten);
      before = ap (λ n. take n bytes) (sym e);
      after = ap (λ n. drop (n + 1) bytes) (sym e);
    }

pub newline_at : (bytes : List ℕ) (i : ℕ) → Some i ≡ position is_newline bytes → IsNewlineAt bytes i
newline_at bytes i e = let both = position_cases bytes i e in newline_parts bytes i both.0 both.1

-- the bytes through the first newline
pub line_through : (bytes : List ℕ) (i : ℕ) → Some i ≡ position is_newline bytes → take (i + 1) (bytes ++ 10 ∷ []) ≡ before_first is_newline bytes ++ 10 ∷ []
line_through bytes i e =
    let n = newline_at bytes i e in
    let within = n.within in
    let line = take i bytes in
    let rest = 10 ∷ (drop (i + 1) bytes ++ 10 ∷ []) in
    let long : i ≡ length line = omega (arith, length-take i bytes) in
    let all : bytes ++ 10 ∷ [] ≡ line ++ rest = ap (λ z. z ++ 10 ∷ []) n.parts ∙ append_assoc line (10 ∷ drop (i + 1) bytes) (10 ∷ []) in
    ap (take (i + 1)) all ∙ ap (λ k. take (k + 1) (line ++ rest)) long ∙ take-append-add line rest 1 ∙ ap (λ z. z ++ 10 ∷ []) (sym n.before)

pub none_cases : (bytes : List ℕ) → None ≡ cond (nat_lt (position_or_len is_newline bytes) (length bytes)) (Some (position_or_len is_newline bytes)) None → length bytes ≤ position_or_len is_newline bytes
none_cases bytes e = grind (arith, nat_tests)

pub newline_none : (bytes : List ℕ) → None ≡ position is_newline bytes → HasNoNewline bytes
newline_none bytes e =
    let past = none_cases bytes e in
    λ k d l. fails_before_first is_newline bytes k d (omega arith)

-- what a search for the first newline gives
pub position_from_first : (bytes : List ℕ) (r : Option ℕ) → IsFirstByte (is_byte 10) bytes r → r ≡ position is_newline bytes
position_from_first bytes None h =
    let past : position_or_len is_newline bytes ≡ length bytes = position_or_len_is is_newline bytes (length bytes) 0 (omega arith) (λ k l. not_true _ (h k (omega arith) l)) (λ l. absurd (omega arith)) in
    grind (arith, nat_tests)
position_from_first bytes (Some k) h =
    let low : k < length bytes = h.0.high in
    let at : position_or_len is_newline bytes ≡ k = position_or_len_is is_newline bytes k 0 (omega arith) (λ j l. not_true _ (h.0.before j (omega arith) l)) (λ _. h.1) in
    grind (arith, nat_tests)

first_at_end : (bytes : List ℕ) → 0 < length bytes → position_or_len is_newline bytes ≡ length bytes → split_lines bytes ≡ before_first is_newline bytes ∷ split_lines (after_first is_newline bytes)
first_at_end bytes some e =
    let none : HasNoNewline bytes = λ k d l. fails_before_first is_newline bytes k d (omega arith) in
    let all : take (position_or_len is_newline bytes) bytes ≡ bytes = take_all _ bytes (omega arith) in
    let past : drop (position_or_len is_newline bytes + 1) bytes ≡ [] = drop_all _ bytes (omega arith) in
    lines_last bytes none some ∙ ap₂ (λ x y. x ∷ y) (sym all) (sym (ap split_lines past ∙ lines_nil))

first_inside : (bytes : List ℕ) → position_or_len is_newline bytes < length bytes → split_lines bytes ≡ before_first is_newline bytes ∷ split_lines (after_first is_newline bytes)
unfolding split_lines
first_inside bytes l =
    let pieces : 0 < length (slice_split is_newline (after_first is_newline bytes)) = omega (arith, length-slice_split is_newline (after_first is_newline bytes)) in
    ap without_empty_last (slice_split_first is_newline bytes 0 l) ∙ without_empty_last-cons _ _ pieces

-- a first line is what comes before the first newline
pub lines_first : (bytes : List ℕ) → 0 < length bytes → split_lines bytes ≡ before_first is_newline bytes ∷ split_lines (after_first is_newline bytes)
lines_first bytes some = ⊎_elim (first_at_end bytes some) (first_inside bytes) (eq-or-lt_of_le (prefix_len-le-length (λ b. not (is_newline b)) bytes))

-- what a list begins with, without a newline, is no longer than its first line
pub length-before_first-append : (part ahead rest : List ℕ) → HasNoNewline part → length part + length (before_first is_newline ahead) ≤ length (before_first is_newline (part ++ (ahead ++ rest)))
length-before_first-append part ahead rest none =
    let q : ℕ → Bool = λ b. not (is_newline b) in
    let whole : position_or_len is_newline part ≡ length part = position_or_len_is is_newline part (length part) 0 (omega arith) (λ k l. none k 0 l) (λ l. absurd (omega arith)) in
    let first = prefix_len-append q part (ahead ++ rest) in
    let second = prefix_len-append q ahead rest in
    let here = prefix_len-le-length q ahead in
    let there = prefix_len-le-length q (ahead ++ rest) in
    let total : position_or_len is_newline (part ++ (ahead ++ rest)) ≡ length part + position_or_len is_newline (ahead ++ rest) = grind (arith, nat_tests, first, whole) in
    let more : position_or_len is_newline ahead ≤ position_or_len is_newline (ahead ++ rest) = grind (arith, nat_tests, second, here) in
    omega (arith, total, more, length-prefix_len q ahead, length-prefix_len q (part ++ (ahead ++ rest)))

-- there is no line only where there is no byte
pub lines_none : (bytes : List ℕ) → split_lines bytes ≡ [] → bytes ≡ []
lines_none [] e = refl
lines_none (b ∷ bs) e = absurd (cons_not_nil _ _ (sym (lines_first (b ∷ bs) (omega arith)) ∙ e))
  where
    cons_not_nil : (x : List ℕ) (xs : List (List ℕ)) → x ∷ xs ≡ [] → ⊥
    cons_not_nil x xs e = cc

-- where a newline is at a place, the bytes contain one
pub contains_newline : (bytes : List ℕ) (i : ℕ) → IsNewlineAt bytes i → Contains bytes 10
contains_newline bytes i n =
    let here : get_or (take i bytes ++ 10 ∷ drop (i + 1) bytes) i 10 ≡ 10 = get_or_at (take i bytes) 10 (drop (i + 1) bytes) 10 i (length-take-le i bytes (omega (arith, n.within))) in
    (i, n.within, ap (λ z. get_or z i 10) n.parts ∙ here)
