-- What is matched, computed by trying all places. That it is what the relations determine, `laws` says.
use Rattle.std.specs.Prelude.{ℕ, zero, suc, ◌+◌, ◌-◌, Bool, false, ◌&&◌, ◌||◌, cond, eqb, ltb, List, length, slice_get, slice_index_or, slice_set, Option, Some, None, unwrap_or, option_map, nat_eq, nat_lt, if◌then◌else◌}
use Rattle.sedre.specs.Tree.{Tree, null_string, byte_of, text_begin, text_end, sequence, either_of, grouped, any_copies, one_or_none}
use Rattle.sedtext.specs.Groups.{SpansOfGroups, forget, no_groups}

-- some number below n passes the test
unfoldable pub any : (ℕ → Bool) → ℕ → Bool
any test zero = false
any test (suc n) = test n || any test n

-- the greatest number below n that passes the test
unfoldable pub greatest : (ℕ → Bool) → ℕ → Option ℕ
greatest test zero = None
greatest test (suc n) = cond (test n) (Some n) (greatest test n)

-- at most n copies, none of them empty, lead from i to j. Each goes a byte further at least, so between i and j there are no
-- more than j of them: with n = j this is any number
unfoldable pub copies : ℕ → (ℕ → ℕ → Bool) → ℕ → ℕ → Bool
copies zero step i j = eqb i j
copies (suc n) step i j = eqb i j || any (λ k. ltb i k && (step i k && copies n step k j)) (j + 1)

-- the byte, if there is one, is in the set
abbrev pub byte_is_in : Option ℕ → List Bool → Bool
byte_is_in None members = false
byte_is_in (Some byte) members = slice_index_or members byte false

-- the expression matches i..j
unfoldable pub spans : Tree → List ℕ → ℕ → ℕ → Bool
spans null_string w i j = eqb i j
spans (byte_of members) w i j = byte_is_in (slice_get w i) members && eqb j (i + 1)
spans text_begin w i j = eqb i 0 && eqb j 0
spans text_end w i j = eqb i (length w) && eqb j (length w)
spans (sequence a b) w i j = any (λ k. spans a w i k && spans b w k j) (j + 1)
spans (either_of a b) w i j = spans a w i j || spans b w i j
spans (grouped k a) w i j = spans a w i j
spans (any_copies a first) w i j = copies j (spans a w) i j
spans (one_or_none a first) w i j = eqb i j || spans a w i j

-- where the longest match from i ends
unfoldable pub longest : Tree → List ℕ → ℕ → Option ℕ
longest e w i = greatest (spans e w i) (length w + 1)

-- the match at the first of n places from p on that has one
unfoldable pub found_from : Tree → List ℕ → ℕ → ℕ → Option (ℕ × ℕ)
found_from e w zero p = None
found_from e w (suc n) p = unwrap_or (option_map (λ j. Some (p, j)) (longest e w p)) (found_from e w n (p + 1))

-- the leftmost-longest match from p on
unfoldable pub leftmost_longest : Tree → List ℕ → ℕ → Option (ℕ × ℕ)
leftmost_longest e w p = found_from e w (length w + 1 - p) p

-- how far a goes when a and b lead from i to j
unfoldable pub greatest_cut : (ℕ → ℕ → Bool) → (ℕ → ℕ → Bool) → ℕ → ℕ → ℕ
greatest_cut a b i j = unwrap_or (greatest (λ k. a i k && b k j) (j + 1)) i

-- how far the first copy goes
unfoldable pub first_copy : (ℕ → ℕ → Bool) → ℕ → ℕ → ℕ
first_copy step i j = unwrap_or (greatest (λ k. ltb i k && (step i k && copies j step k j)) (j + 1)) i

-- where the last of at most n copies begins
unfoldable pub last_start : ℕ → (ℕ → ℕ → Bool) → ℕ → ℕ → ℕ
last_start zero step i j = i
last_start (suc n) step i j = cond (ltb (first_copy step i j) j) (last_start n step (first_copy step i j) j) i

-- the groups after a match of i..j
unfoldable pub groups_after : Tree → List ℕ → ℕ → ℕ → SpansOfGroups → SpansOfGroups
groups_after (sequence a b) w i j old = groups_after b w (greatest_cut (spans a w) (spans b w) i j) j (groups_after a w i (greatest_cut (spans a w) (spans b w) i j) old)
groups_after (either_of a b) w i j old = cond (spans a w i j) (groups_after a w i j old) (groups_after b w i j old)
groups_after (grouped k a) w i j old = slice_set (groups_after a w i j (forget (grouped k a) old)) k (Some (i, j))
groups_after (any_copies a first) w i j old =
    cond (ltb i j) (groups_after a w (last_start j (spans a w) i j) j (forget a old))
    (cond (first && spans a w i i) (groups_after a w i i (forget a old)) old)
groups_after (one_or_none a first) w i j old =
    cond (ltb i j) (groups_after a w i j (forget a old))
    (cond (first && spans a w i i) (groups_after a w i i (forget a old)) old)
groups_after other w i j old = old

-- the groups of a match of i..j as they are reported
unfoldable pub reported_groups : Tree → List ℕ → ℕ → ℕ → SpansOfGroups
reported_groups e w i j = slice_set (groups_after e w i j no_groups) 0 (Some (i, j))

-- The match of the null string at a place is passed over for another one. `span` gives where a match begins and ends.
abbrev pub unless_null_at : {M : Type 0} → (M → ℕ × ℕ) → ℕ → Option M → Option M → Option M
unless_null_at span q None other = None
unless_null_at span q (Some m) other = if nat_eq (span m).0 q && nat_eq (span m).1 q then other else Some m

-- The next match in a text of n bytes, after one that ended at a place, where there was one; `search` gives the match sought
-- from a place. Matches don't overlap, and a match of the null string directly after one is none (this project's own): then
-- the search goes on one byte further, as long as that is no place after the end.
abbrev pub next_match : {M : Type 0} → (M → ℕ × ℕ) → (ℕ → Option M) → ℕ → Option ℕ → Option M
next_match span search n None = search 0
next_match span search n (Some q) = unless_null_at span q (search q) (if nat_lt q n then search (q + 1) else None)
