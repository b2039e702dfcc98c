-- The computed match is the one that the relations describe.
use Rattle.sedtext.proofs.Words.{◌&&◌, ◌+◌, ◌-◌, ◌<◌, ◌||◌, ◌↔◌, ◌≡◌, ◌≤◌, ◌⊎◌, and_from, and_parts, any, any_copies, arith, Bool, byte_of, Captures, cases_lt, cond_both, copies, CopiesLead, Decides-and}
use Rattle.sedtext.proofs.Words.{Decides-below_or, Decides-eqb, Decides-or, either_of, eqb, first_copy, forget, found_from, greatest, greatest_cut, grouped, groups_after, is_some, IsLeftmostLongest, IsLongestFrom}
use Rattle.sedtext.proofs.Words.{IsReport, IsTrue, last_start, LastCopy, LastCut, leftmost_longest, length, List, longest, ltb, ltb-true, Matches, nat_tests, no_copy, no_groups, None, none-some, NotFound, one_more}
use Rattle.sedtext.proofs.Words.{one_or_none, only, Option, option_map, refl, reported_groups, same_from_decides, sequence, slice_get_within, Some, SomeFound, spans, SpansOfGroups, suc, then_copy, Tree, unwrap_or, zero, ℕ}
use Rattle.sedtext.proofs.SpanLemmas.{CopiesLead-forward, Matches-forward, Matches-within}
use Rattle.sedtext.proofs.CapsLemmas.{Captures-unique}

-- a test of two parts
pub both-iff : (x y : Bool) (P Q : Type 0) → (IsTrue x ↔ P) → (IsTrue y ↔ Q) → IsTrue (x && y) ↔ (P × Q)
both-iff x y P Q left right = Decides-and x y left right

pub either-iff : (x y : Bool) (P Q : Type 0) → (IsTrue x ↔ P) → (IsTrue y ↔ Q) → IsTrue (x || y) ↔ (P ⊎ Q)
either-iff x y P Q left right = Decides-or x y left right

any-is : (test : ℕ → Bool) (P : ℕ → Type 0) → ((k : ℕ) → IsTrue (test k) ↔ P k) → (n : ℕ) → IsTrue (any test n) ↔ ((k : ℕ) × (k < n) × P k)
unfolding any
any-is test P each n = Decides-below_or test P (any test) each refl (λ _. refl) n

-- the greatest number below n of which P holds, if there is one
abbrev pub GreatestBelow : (ℕ → Type 0) → ℕ → Option ℕ → Type 0
GreatestBelow P n None = (k : ℕ) → k < n → P k → ⊥
GreatestBelow P n (Some l) = (l < n) × P l × ((k : ℕ) → k < n → P k → k ≤ l)

greatest-is : (test : ℕ → Bool) (P : ℕ → Type 0) → ((k : ℕ) → IsTrue (test k) ↔ P k) → (n : ℕ) → GreatestBelow P n (greatest test n)
unfolding greatest
greatest-is test P each zero = λ k lt h. omega arith
greatest-is test P each (suc n) = grind (arith, each n, greatest-is test P each n)

module _ (step : ℕ → ℕ → Bool) (R : ℕ → ℕ → Type 0) (each : (i k : ℕ) → IsTrue (step i k) ↔ R i k) where
  -- a copy from i to k, and what leads on from there
  copy-is : (b : Bool) (P : Type 0) (i k : ℕ) → (i < k → IsTrue b ↔ P) → IsTrue (ltb i k && (step i k && b)) ↔ ((i < k) × (R i k × P))
  copy-is b P i k on = grind (arith, nat_tests, each i k, on)

  copies-begin : (j i : ℕ) → CopiesLead R j i ↔ ((i ≡ j) ⊎ ((k : ℕ) × (k < j + 1) × ((i < k) × (R i k × CopiesLead R j k))))
  copies-begin j i = (λ at. grind (arith, CopiesLead-forward R j), λ which. grind (arith, no_copy, one_more))

  copies-iff : (n i j : ℕ) → j ≤ n + i → IsTrue (copies n step i j) ↔ CopiesLead R j i
  unfolding copies
  copies-iff zero i j few = grind (arith, nat_tests, no_copy, CopiesLead-forward R j i)
  copies-iff (suc n) i j few =
      let each_copy = λ (k : ℕ). copy-is (copies n step k j) (CopiesLead R j k) i k (λ up. copies-iff n k j (omega arith)) in
      grind (arith, copies-begin j i, Decides-or (eqb i j) _ (Decides-eqb i j) (any-is _ (λ k. (i < k) × (R i k × CopiesLead R j k)) each_copy (j + 1)))

  copies-all : (j k : ℕ) → IsTrue (copies j step k j) ↔ CopiesLead R j k
  copies-all j k = copies-iff j k j (omega arith)

  -- the first copy goes as far as one can from which copies lead on
  first_copy-is : (i j m : ℕ) → i < m → R i m → CopiesLead R j m →
      let k = first_copy step i j in (i < k) × (k ≤ j) × R i k × CopiesLead R j k × ((l : ℕ) → i < l → R i l → CopiesLead R j l → l ≤ k)
  unfolding first_copy
  first_copy-is i j m lt r rest = grind (arith, CopiesLead-forward, greatest-is _ _ (λ k. copy-is (copies j step k j) (CopiesLead R j k) i k (λ _. copies-all j k)) (j + 1))

  last_start-is : (n i j : ℕ) → i < j → j ≤ n + i → CopiesLead R j i → LastCopy R j i (last_start n step i j)
  unfolding last_start
  last_start-is zero i j lt few copies_i = absurd (omega arith)
  last_start-is (suc n) i j lt few no_copy = absurd (omega arith)
  last_start-is (suc n) i j lt few (one_more _ m up r rest) =
      let k = first_copy step i j in
      let is = first_copy-is i j m up r rest in
      cond_both (ltb k j) (last_start n step k j) i (LastCopy R j i)
      (λ holds. let low = ltb-true k j holds in then_copy i k (last_start n step k j) is.0 low is.2 is.3 is.4 (last_start-is n k j low (omega (arith, is.0)) is.3))
      (λ fails. only i lt (grind (arith, nat_tests, fails, is)))

pub spans-iff : (e : Tree) (w : List ℕ) (i j : ℕ) → IsTrue (spans e w i j) ↔ Matches e w i j
unfolding spans
spans-iff (sequence a b) w i j = grind (arith, Matches-forward, any-is _ _ (λ k. Decides-and (spans a w i k) (spans b w k j) (spans-iff a w i k) (spans-iff b w k j)) (j + 1))
spans-iff (either_of a b) w i j = grind (arith, spans-iff a w i j, spans-iff b w i j)
spans-iff (grouped k a) w i j = spans-iff a w i j
spans-iff (any_copies a first) w i j = copies-all (spans a w) (Matches a w) (spans-iff a w) j i
spans-iff (one_or_none a first) w i j = grind (arith, nat_tests, spans-iff a w i j)
spans-iff _ w i j = grind (arith, nat_tests)

-- the longest match from a place of the text
longest-is : (e : Tree) (w : List ℕ) (i : ℕ) → i ≤ length w → IsLongestFrom e w i (longest e w i)
unfolding longest
longest-is e w i fits = grind (arith, Matches-within, greatest-is (spans e w i) (Matches e w i) (spans-iff e w i) (length w + 1))

-- what the relations say of an answer
abbrev pub IsAnswer : Tree → List ℕ → ℕ → Option (ℕ × ℕ) → Type 0
IsAnswer e w p None = NotFound e w p
IsAnswer e w p (Some f) = IsLeftmostLongest e w p f.0 f.1

answer-step : (e : Tree) (w : List ℕ) (p : ℕ) (best : Option ℕ) (rest : Option (ℕ × ℕ)) → IsLongestFrom e w p best → IsAnswer e w (p + 1) rest → IsAnswer e w p (unwrap_or (option_map (λ j. Some (p, j)) best) rest)
answer-step e w p best rest none later = grind arith

found_from-is : (e : Tree) (w : List ℕ) (n p : ℕ) → p + n ≡ length w + 1 → IsAnswer e w p (found_from e w n p)
unfolding found_from longest
found_from-is e w zero p all = λ i k from fits s. omega arith
found_from-is e w (suc n) p all = grind (arith, answer-step, longest-is, found_from-is e w n (p + 1) (omega arith))

found-is : (e : Tree) (w : List ℕ) (p : ℕ) → p ≤ length w → IsAnswer e w p (leftmost_longest e w p)
unfolding leftmost_longest
found-is e w p fits = found_from-is e w (length w + 1 - p) p (omega arith)

-- what is spanned after the text is null, and spanned at each place
past-everywhere : (e : Tree) (w : List ℕ) (i k : ℕ) → length w < i → Matches e w i k → (k ≡ i) × ((h : ℕ) → Matches e w h h)
past-everywhere (byte_of has) w i k high s = grind (arith, slice_get_within)
past-everywhere (sequence a b) w i k high s =
    let left = past-everywhere a w i s.0 high s.1 in
    let right = past-everywhere b w s.0 k (omega (arith, left.0)) s.2 in
    (omega (arith, left, right), λ h. (h, left.1 h, right.1 h))
past-everywhere (either_of a b) w i k high s = grind (arith, past-everywhere a w i k, past-everywhere b w i k)
past-everywhere (grouped n a) w i k high s = past-everywhere a w i k high s
past-everywhere (any_copies a first) w i k high no_copy = (refl, λ h. no_copy)
past-everywhere (any_copies a first) w i k high (one_more _ l lt r rest) = grind (arith, past-everywhere a w i l high r)
past-everywhere (one_or_none a first) w i k high s = grind (arith, past-everywhere a w i k)
past-everywhere _ w i k high s = grind arith

-- a match that begins in the text or after it begins in the text
pub IsLeftmostLongest-within : (e : Tree) (w : List ℕ) (p i j : ℕ) → p ≤ length w → IsLeftmostLongest e w p i j → i ≤ length w
IsLeftmostLongest-within e w p i j fits f = grind (arith, past-everywhere e w i j, cases_lt (length w) i, f.leftmost p p)

pub found-iff : (e : Tree) (w : List ℕ) (p i j : ℕ) → p ≤ length w → (leftmost_longest e w p ≡ Some (i, j)) ↔ IsLeftmostLongest e w p i j
found-iff e w p i j fits = grind (arith, found-is e w p fits, IsLeftmostLongest-within, none-some)

pub not_found-iff : (e : Tree) (w : List ℕ) (p : ℕ) → p ≤ length w → (leftmost_longest e w p ≡ None) ↔ NotFound e w p
not_found-iff e w p fits = grind (arith, found-is e w p fits, IsLeftmostLongest-within)

pub some_found-iff : (e : Tree) (w : List ℕ) (p : ℕ) → p ≤ length w → IsTrue (is_some (leftmost_longest e w p)) ↔ SomeFound e w p
some_found-iff e w p fits = grind (arith, found-is e w p fits, IsLeftmostLongest-within)

pub same_test : (t : Bool) (e : Tree) (w : List ℕ) (p : ℕ) → p ≤ length w → (IsTrue t ↔ SomeFound e w p) → t ≡ is_some (leftmost_longest e w p)
same_test t e w p fits shows = grind (arith, same_from_decides, some_found-iff)

cut-is : (a b : Tree) (w : List ℕ) (i j m : ℕ) → Matches a w i m → Matches b w m j → LastCut (Matches a w) (Matches b w) i j (greatest_cut (spans a w) (spans b w) i j)
unfolding greatest_cut
cut-is a b w i j m l r = grind (arith, Matches-forward b w, greatest-is _ _ (λ k. Decides-and (spans a w i k) (spans b w k j) (spans-iff a w i k) (spans-iff b w k j)) (j + 1))

pub LastCopy-copy : (R : ℕ → ℕ → Type 0) (j i c : ℕ) → LastCopy R j i c → R c j
LastCopy-copy R j i c (only _ lt r) = r
LastCopy-copy R j i c (then_copy _ k _ up low r rest most last) = LastCopy-copy R j k c last

pub groups_after-is : (e : Tree) (w : List ℕ) (i j : ℕ) (old : SpansOfGroups) → Matches e w i j → Captures e w i j old (groups_after e w i j old)
unfolding groups_after
groups_after-is (sequence a b) w i j old s =
    let is = cut-is a b w i j s.0 s.1 s.2 in (_, is, (_, groups_after-is a w i _ old is.left, groups_after-is b w _ j _ is.right))
groups_after-is (either_of a b) w i j old s = grind (arith, nat_tests, cond_both, spans-iff, groups_after-is a w i j old, groups_after-is b w i j old)
groups_after-is (grouped k a) w i j old s = grind (arith, groups_after-is a w i j (forget (grouped k a) old) s)
groups_after-is (any_copies a first) w i j old s =
    let c = last_start j (spans a w) i j in
    let last = last_start-is (spans a w) (Matches a w) (spans-iff a w) j i j in
    grind (arith, and_from, and_parts, cond_both, ltb-true, nat_tests, spans-iff, CopiesLead-forward (Matches a w) j i s, last, LastCopy-copy, groups_after-is a w c j (forget a old), groups_after-is a w i i (forget a old))
groups_after-is (one_or_none a first) w i j old s =
    grind (arith, and_from, and_parts, cond_both, ltb-true, nat_tests, spans-iff, Matches-forward (one_or_none a first) w i j s, groups_after-is a w i j (forget a old), groups_after-is a w i i (forget a old))
groups_after-is _ w i j old s = refl

pub groups_after-iff : (e : Tree) (w : List ℕ) (i j : ℕ) (old new : SpansOfGroups) → Matches e w i j → (new ≡ groups_after e w i j old) ↔ Captures e w i j old new
groups_after-iff e w i j old new s = grind (arith, groups_after-is e w i j old s, Captures-unique)

pub report-iff : (e : Tree) (w : List ℕ) (i j : ℕ) (groups : SpansOfGroups) → Matches e w i j → (groups ≡ reported_groups e w i j) ↔ IsReport e w i j groups
unfolding reported_groups
report-iff e w i j groups s = grind (arith, groups_after-is e w i j no_groups s, Captures-unique)
