-- The lines of a block of bytes that ends in a newline.
use Rattle.std.proofs.Common.{◌≡◌, ℕ, suc, ◌<◌, ◌+◌, ◌-◌, ◌≤◌, ◌⊎◌, inl, inr, Bool, true, false, cond, List, [], ◌∷◌, ◌++◌, length, length-append, length-take, append_assoc, get_or, get_or-take, take, take-take, drop, Contains, Option, Some, rules, refl, subst, sym, ap, ap₂, ◌∙◌, arith}
use Rattle.std.specs.Prelude.{IsTrue, count_by, is_some, slice_get}
use Rattle.std.specs.List.{All, onto_first}
use Rattle.std.proofs.lemmas.List.Elements.{All-nil, All-cons}
use Rattle.std.proofs.lemmas.Bool.{eqb-true}
use Rattle.std.proofs.lemmas.List.Recursion.{is_count_by}
use Rattle.std.proofs.lemmas.List.Sums.{sum_by-take-drop}
use Rattle.std.proofs.lemmas.Grind.{get_or_default_zero}
use Rattle.std.proofs.Math.Seq.{take-append-add, take-length}
use Rattle.std.proofs.lemmas.List.{drop-take, take_more}
use Rattle.sedre.specs.Tree.{WrittenExpression, expression_tree}
use Rattle.sedmatch.specs.Candidates.{IsBefore, NoMatchBefore}
use Rattle.sedmatch.specs.Matching.{leftmost_longest}
use Rattle.sedmatch.proofs.MatchingLemmas.{some_found-iff}
use Rattle.sedspace.specs.Lines.{split_lines, is_newline, HasNoNewline}
use Rattle.sedspace.specs.Stream.{AreWholeLines}
use Rattle.sedspace.proofs.LineLemmas.{lines_nil}
use Rattle.sedspace.proofs.WholeLemmas.{lines_yes, lines_no, some_lines}
use Rattle.sedacts.specs.Ends.{size_of}
use Rattle.sedacts.specs.Idle.{ClearTo, IsLineOf, bytes_of_lines}
use Rattle.std.specs.Option.{option_map_or}
use Rattle.std.proofs.lemmas.Bool.Decides.{nat_tests}
use Rattle.sedspace.proofs.StreamLemmas.{HasNoNewline-append}

onto-bytes : (x : ℕ) (ys : List (List ℕ)) → 0 < length ys → bytes_of_lines (onto_first x ys) ≡ x ∷ bytes_of_lines ys
onto-bytes x [] h = absurd (omega arith)
onto-bytes x (y ∷ ys) h = refl

onto-length : (x : ℕ) (ys : List (List ℕ)) → 0 < length ys → length (onto_first x ys) ≡ length ys
onto-length x [] h = absurd (omega arith)
onto-length x (y ∷ ys) h = refl

first_bytes : (x : ℕ) (p : List ℕ) (b : Bool) → is_newline x ≡ b → bytes_of_lines (split_lines (p ++ 10 ∷ [])) ≡ p ++ 10 ∷ [] → bytes_of_lines (split_lines (x ∷ (p ++ 10 ∷ []))) ≡ x ∷ (p ++ 10 ∷ [])
first_bytes x p true h rest = ap bytes_of_lines (lines_yes x (p ++ 10 ∷ []) h) ∙ ap₂ (λ y ys. y ∷ ys) (sym (eqb-true x 10 h)) rest
first_bytes x p false h rest = ap bytes_of_lines (lines_no x (p ++ 10 ∷ []) h) ∙ onto-bytes x (split_lines (p ++ 10 ∷ [])) (some_lines p []) ∙ ap (λ ys. x ∷ ys) rest

-- a block is its lines, each with its newline
pub block_bytes : (p : List ℕ) → bytes_of_lines (split_lines (p ++ 10 ∷ [])) ≡ p ++ 10 ∷ []
block_bytes [] = ap bytes_of_lines (lines_yes 10 [] refl ∙ ap (λ ls. [] ∷ ls) lines_nil)
block_bytes (x ∷ p) = first_bytes x p (is_newline x) refl (block_bytes p)

abbrev newlines : List ℕ → ℕ
newlines [] = 0
newlines (x ∷ xs) = cond (is_newline x) (1 + newlines xs) (newlines xs)

counted : (b : Bool) (n : ℕ) → b ≡ true → cond b (1 + n) n ≡ suc n
counted true n h = omega arith
counted false n h = cc

uncounted : (b : Bool) (n : ℕ) → b ≡ false → cond b (1 + n) n ≡ n
uncounted true n h = cc
uncounted false n h = refl

first_count : (x : ℕ) (p : List ℕ) (b : Bool) → is_newline x ≡ b → length (split_lines (p ++ 10 ∷ [])) ≡ newlines (p ++ 10 ∷ []) → length (split_lines (x ∷ (p ++ 10 ∷ []))) ≡ newlines (x ∷ (p ++ 10 ∷ []))
first_count x p true h rest = ap length (lines_yes x (p ++ 10 ∷ []) h) ∙ ap suc rest ∙ sym (counted (is_newline x) (newlines (p ++ 10 ∷ [])) h)
first_count x p false h rest = ap length (lines_no x (p ++ 10 ∷ []) h) ∙ onto-length x (split_lines (p ++ 10 ∷ [])) (some_lines p []) ∙ rest ∙ sym (uncounted (is_newline x) (newlines (p ++ 10 ∷ [])) h)

count_newlines : (p : List ℕ) → length (split_lines (p ++ 10 ∷ [])) ≡ newlines (p ++ 10 ∷ [])
count_newlines [] = ap length (lines_yes 10 [] refl ∙ ap (λ ls. [] ∷ ls) lines_nil)
count_newlines (x ∷ p) = first_count x p (is_newline x) refl (count_newlines p)

-- it has as many as newlines
pub block_count : (p : List ℕ) → length (split_lines (p ++ 10 ∷ [])) ≡ count_by is_newline (p ++ 10 ∷ [])
block_count p = count_newlines p ∙ is_count_by newlines is_newline refl (λ x xs. refl) (p ++ 10 ∷ [])

-- the bytes of lines, counted
pub length-bytes_of : (ls : List (List ℕ)) → length (bytes_of_lines ls) ≡ size_of ls
length-bytes_of [] = refl
length-bytes_of (l ∷ ls) = let rest = length-bytes_of ls in omega (arith, length-append l (10 ∷ bytes_of_lines ls))

-- each line is in the block, with its newline
lines_of : (before : List ℕ) (ls : List (List ℕ)) → All (λ line. IsLineOf line (before ++ bytes_of_lines ls)) ls
lines_of before [] = All-nil (λ line. IsLineOf line (before ++ []))
lines_of before (line ∷ ls) =
    let whole : List ℕ = before ++ bytes_of_lines (line ∷ ls) in
    let P : List ℕ → List ℕ → Type 0 = λ all line. IsLineOf line all in
    let same : (before ++ (line ++ 10 ∷ [])) ++ bytes_of_lines ls ≡ whole = append_assoc before (line ++ 10 ∷ []) (bytes_of_lines ls) ∙ ap (λ bs. before ++ bs) (append_assoc line (10 ∷ []) (bytes_of_lines ls)) in
    All-cons (P whole) line ls (record { before = before; behind = bytes_of_lines ls; is = refl })
    (subst (λ (all : List ℕ). All (P all) ls) same (lines_of (before ++ (line ++ 10 ∷ [])) ls))

pub block_parts : (p : List ℕ) → All (λ line. IsLineOf line (p ++ 10 ∷ [])) (split_lines (p ++ 10 ∷ []))
block_parts p = subst (λ (all : List ℕ). All (λ line. IsLineOf line all) (split_lines (p ++ 10 ∷ []))) (block_bytes p) (lines_of [] (split_lines (p ++ 10 ∷ [])))

-- so it is no longer
pub block_short : (p : List ℕ) (n : ℕ) → length (p ++ 10 ∷ []) ≤ n → All (λ line. length line ≤ n) (split_lines (p ++ 10 ∷ []))
block_short p n h = λ k d less. shorter (get_or (split_lines (p ++ 10 ∷ [])) k d) (block_parts p k d less)
  where
    shorter : (line : List ℕ) → IsLineOf line (p ++ 10 ∷ []) → length line ≤ n
    shorter line part =
        let all : length (p ++ 10 ∷ []) ≡ length (part.before ++ (line ++ 10 ∷ part.behind)) = ap length part.is in
        omega (arith, length-append part.before (line ++ 10 ∷ part.behind), length-append line (10 ∷ part.behind))

-- whole lines are as many as their newlines
pub whole_count : (w : List ℕ) → AreWholeLines w → count_by is_newline w ≡ length (split_lines w)
whole_count w (inl none) = ap (λ w. count_by is_newline w) none ∙ sym (ap (λ w. length (split_lines w)) none ∙ ap length lines_nil)
whole_count w (inr (p, is)) = ap (λ w. count_by is_newline w) is ∙ sym (block_count p) ∙ ap (λ w. length (split_lines w)) (sym is)

-- newlines counted by parts
pub count_more : (bytes : List ℕ) (i j : ℕ) → i ≤ j → count_by is_newline (take i bytes) + count_by is_newline (take (j - i) (drop i bytes)) ≡ count_by is_newline (take j bytes)
count_more bytes i j less =
    let size : i + (j - i) ≡ j = omega (arith, less) in
    let part : take (j - i) (drop i bytes) ≡ drop i (take j bytes) = sym (drop-take i (j - i) bytes) ∙ ap (λ n. drop i (take n bytes)) size in
    ap₂ (λ v w. count_by is_newline v + count_by is_newline w) (sym (take-take i j bytes less)) part ∙ sum_by-take-drop (λ b. cond (is_newline b) 1 0) (take j bytes) i

pub count_rest : (bytes : List ℕ) (i : ℕ) → i ≤ length bytes → count_by is_newline (take i bytes) + count_by is_newline (take (length bytes - i) (drop i bytes)) ≡ count_by is_newline bytes
count_rest bytes i less = count_more bytes i (length bytes) less ∙ ap (count_by is_newline) (take-length bytes)

-- what is clear in the first bytes is so in all, and to an earlier place too
clear_whole : (ms : List WrittenExpression) (e : ℕ) (text : List ℕ) (end r : ℕ) → r ≤ end → ClearTo ms e (take end text) r → ClearTo ms e text r
clear_whole ms e text end r within clear = λ before line behind is less.
    let q : List ℕ = before ++ (line ++ 10 ∷ []) in
    let size : length q ≡ length before + length line + 1 = omega (arith, length-append before (line ++ 10 ∷ []), length-append line (10 ∷ [])) in
    let m : ℕ = end - length q in
    let at : end ≡ length q + m = omega (arith, size, less, within) in
    let parts : (more : List ℕ) → q ++ more ≡ before ++ (line ++ 10 ∷ more) = λ more. append_assoc before (line ++ 10 ∷ []) more ∙ ap (λ w. before ++ w) (append_assoc line (10 ∷ []) more) in
    let first : take end text ≡ before ++ (line ++ 10 ∷ take m behind) = ap (take end) (is ∙ sym (parts behind)) ∙ ap (λ n. take n (q ++ behind)) at ∙ take-append-add q behind m ∙ parts (take m behind) in
    clear before line (take m behind) first less

same_default : (xs : List ℕ) (i d e : ℕ) → i < length xs → get_or xs i d ≡ get_or xs i e
same_default xs i d e h = get_or_default_zero xs i d h ∙ sym (get_or_default_zero xs i e h)

before_or_last : (k i : ℕ) → k < i + 1 → (k < i) ⊎ (k ≡ i)
before_or_last k i h = grind arith

-- one expression more
pub clear_more : (ms : List WrittenExpression) (xs : List ℕ) (i d : ℕ) (text : List ℕ) (end r : ℕ) → i < length xs → r ≤ end → ((e : ℕ) → Contains (take i xs) e → ClearTo ms e text end) → ClearTo ms (get_or xs i d) (take end text) r →
    (e : ℕ) → Contains (take (i + 1) xs) e → ClearTo ms e text r
clear_more ms xs i d text end r inside within before one e (k, less, is) =
    let small : k < i + 1 = omega (arith, less, length-take (i + 1) xs) in
    let here : get_or xs k e ≡ e = sym (get_or-take (i + 1) xs k e small) ∙ is in
    by_place (before_or_last k i small) here
  where
    by_place : (k < i) ⊎ (k ≡ i) → get_or xs k e ≡ e → ClearTo ms e text r
    by_place (inl lower) here = λ b line behind parts low. before e (k, omega (arith, lower, inside, length-take i xs), get_or-take i xs k e lower ∙ here) b line behind parts (omega (arith, low, within))
    by_place (inr same) here =
        let last : get_or xs i d ≡ e = same_default xs i d e inside ∙ ap (λ k. get_or xs k e) (sym same) ∙ here in
        subst (λ (e : ℕ). ClearTo ms e text r) last (clear_whole ms (get_or xs i d) text end r within one)

-- what a matcher says of lines
pub none_found : (ms : List WrittenExpression) (e : ℕ) (m : WrittenExpression) (text : List ℕ) (r : Option ℕ) (end : ℕ) → slice_get ms e ≡ Some m → NoMatchBefore (expression_tree m) text r → ((k : ℕ) → k < end → IsBefore k r) → ClearTo ms e text end
none_found ms e m text r end is none low = λ before line behind parts less.
    ap (λ o. option_map_or (λ e. is_some (leftmost_longest (expression_tree e) line 0)) o false) is ∙ not_found (is_some (leftmost_longest (expression_tree m) line 0)) (λ yes. none before line (10 ∷ behind) parts (low (length before + length line) less) ((some_found-iff (expression_tree m) line 0 (omega arith)).0 yes))
  where
    not_found : (b : Bool) → (IsTrue b → ⊥) → b ≡ false
    not_found true h = absurd (h (search rules))
    not_found false h = refl

not_newline : (b : ℕ) → (b ≡ 10 → ⊥) → is_newline b ≡ false
not_newline b h = grind (arith, nat_tests)

-- one byte more that is no newline
pub no_newline_more : (xs : List ℕ) (i : ℕ) → i < length xs → HasNoNewline (take i xs) → (get_or xs i 0 ≡ 10 → ⊥) → HasNoNewline (take (i + 1) xs)
no_newline_more xs i less h other =
    subst HasNoNewline (sym (take_more xs i 0 less)) (HasNoNewline-append (take i xs) (get_or xs i 0 ∷ []) h (All-cons (λ b. is_newline b ≡ false) (get_or xs i 0) [] (not_newline (get_or xs i 0) other) (All-nil (λ b. is_newline b ≡ false))))

pub start_before : (ahead : List ℕ) (start done : ℕ) → start ≤ length (take done ahead) → start ≤ done
start_before ahead start done low = omega (arith, length-take done ahead)

-- whole lines of the first bytes are whole lines
pub whole_first : (ahead : List ℕ) (start done : ℕ) → start ≤ length (take done ahead) → AreWholeLines (take start (take done ahead)) → AreWholeLines (take start ahead)
whole_first ahead start done low = subst AreWholeLines (take-take start done ahead (start_before ahead start done low))
