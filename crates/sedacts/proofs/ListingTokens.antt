-- A listing determines the text that it lists.
use Rattle.std.proofs.Common.{◌≡◌, ℕ, ◌+◌, ◌-◌, ◌*◌, ◌<◌, ◌/◌, ◌%◌, Bool, true, false, cond, nat_lt, nat_le, ◌==◌, ◌&&◌, if◌then◌else◌, List, [], ◌∷◌, ◌++◌, length, refl, sym, ap, subst, ◌∙◌, arith}
use Rattle.std.proofs.lemmas.Bool.Decides.{nat_tests}
use Rattle.std.specs.List.{All, AllByRecursion}
use Rattle.std.proofs.lemmas.List.{append_cancel_left}
use Rattle.std.proofs.lemmas.List.Elements.{recursion_from_All}
use Rattle.sedacts.specs.Listing.{listed_byte, listed, listed_from, most_listed}

-- the byte of three digits
abbrev of_digits : ℕ → List ℕ → ℕ
of_digits a [] = 258
of_digits a (b ∷ []) = 258
of_digits a (b ∷ c ∷ rest) = (a - 48) * 64 + (b - 48) * 8 + (c - 48)

-- the byte of an escape
abbrev of_escape : ℕ → List ℕ → ℕ
of_escape a rest =
    if a == 92 then 92
    else if a == 97 then 7
    else if a == 98 then 8
    else if a == 102 then 12
    else if a == 114 then 13
    else if a == 116 then 9
    else if a == 118 then 11
    else if a == 110 then 10
    else of_digits a rest

-- what a listing begins with: an item, given by its byte, a fold or the end
abbrev token : List ℕ → ℕ
token [] = 258
token (a ∷ []) = 258
token (a ∷ b ∷ rest) = if b == 10 then (if a == 92 then 256 else 257) else if a == 92 then of_escape b rest else a

by_test : (P : List ℕ → Type 0) (t : Bool) (x y : List ℕ) → (t ≡ true → P x) → (t ≡ false → P y) → P (cond t x y)
by_test P true x y p q = p refl
by_test P false x y p q = q refl

is_test : (b c : ℕ) → (b == c) ≡ true → c ≡ b
is_test b c p = grind (arith, nat_tests)

no_letter : (d c : ℕ) → d < 4 → 51 < c → ((48 + d) == c) ≡ false
no_letter d c p q = grind (arith, nat_tests)

no_newline : (d : ℕ) → ((48 + d) == 10) ≡ false
no_newline d = grind (arith, nat_tests)

digits : (b : ℕ) → ((48 + b / 64) - 48) * 64 + ((48 + b / 8 % 8) - 48) * 8 + ((48 + b % 8) - 48) ≡ b
digits b = let eighths : b / 8 / 8 ≡ b / 64 = omega arith in omega arith

octal_reads : (d e f : ℕ) (after : List ℕ) → d < 4 → token (92 ∷ (48 + d) ∷ (48 + e) ∷ (48 + f) ∷ after) ≡ ((48 + d) - 48) * 64 + ((48 + e) - 48) * 8 + ((48 + f) - 48)
octal_reads d e f after h =
    simp (no_newline d, no_letter d 92 h (omega arith), no_letter d 97 h (omega arith), no_letter d 98 h (omega arith), no_letter d 102 h (omega arith), no_letter d 114 h (omega arith), no_letter d 116 h (omega arith), no_letter d 118 h (omega arith), no_letter d 110 h (omega arith))

plain_reads : (b x : ℕ) (rest : List ℕ) → (b == 92) ≡ false → (x == 10) ≡ false → token (b ∷ x ∷ rest) ≡ b
plain_reads b x rest p q = simp (p, q)

item_reads : (b x : ℕ) (rest : List ℕ) → b < 256 → (x == 10) ≡ false → token (listed_byte b ++ x ∷ rest) ≡ b
item_reads b x rest h q =
    let P : List ℕ → Type 0 = λ i. token (i ++ x ∷ rest) ≡ b in
    by_test P (b == 92) _ _ (is_test b 92) (λ p.
    by_test P (b == 7) _ _ (is_test b 7) (λ _.
    by_test P (b == 8) _ _ (is_test b 8) (λ _.
    by_test P (b == 12) _ _ (is_test b 12) (λ _.
    by_test P (b == 13) _ _ (is_test b 13) (λ _.
    by_test P (b == 9) _ _ (is_test b 9) (λ _.
    by_test P (b == 11) _ _ (is_test b 11) (λ _.
    by_test P (b == 10) _ _ (is_test b 10) (λ _.
    by_test P (nat_le 32 b && nat_le b 126) _ _ (λ _. plain_reads b x rest p q) (λ _.
    octal_reads (b / 64) (b / 8 % 8) (b % 8) (x ∷ rest) (omega arith) ∙ digits b)))))))))

-- a list that doesn't begin with a newline
record Starts (l : List ℕ) : Type 0 where
  first : ℕ
  rest : List ℕ
  is : l ≡ first ∷ rest
  none : (first == 10) ≡ false

begins : (a : ℕ) (rest : List ℕ) → (a == 10) ≡ false → Starts (a ∷ rest)
begins a rest p = record { first = a; rest = rest; is = refl; none = p }

item_starts : (b : ℕ) (after : List ℕ) → Starts (listed_byte b ++ after)
item_starts b after =
    let P : List ℕ → Type 0 = λ i. Starts (i ++ after) in
    by_test P (b == 92) _ _ (λ _. begins 92 _ refl) (λ _.
    by_test P (b == 7) _ _ (λ _. begins 92 _ refl) (λ _.
    by_test P (b == 8) _ _ (λ _. begins 92 _ refl) (λ _.
    by_test P (b == 12) _ _ (λ _. begins 92 _ refl) (λ _.
    by_test P (b == 13) _ _ (λ _. begins 92 _ refl) (λ _.
    by_test P (b == 9) _ _ (λ _. begins 92 _ refl) (λ _.
    by_test P (b == 11) _ _ (λ _. begins 92 _ refl) (λ _.
    by_test P (b == 10) _ _ (λ _. begins 92 _ refl) (λ p.
    by_test P (nat_le 32 b && nat_le b 126) _ _ (λ _. begins b _ p) (λ _. begins 92 _ refl)))))))))

-- what the definition makes of a byte, by whether it folds
abbrev made : Bool → ℕ → ℕ → List ℕ → List ℕ
made fold column b bs = cond fold (92 ∷ 10 ∷ listed_byte b ++ listed_from (length (listed_byte b)) bs) (listed_byte b ++ listed_from (column + length (listed_byte b)) bs)

made_starts : (fold : Bool) (column b : ℕ) (bs : List ℕ) → Starts (made fold column b bs)
made_starts true column b bs = begins 92 _ refl
made_starts false column b bs = item_starts b _

starts : (column : ℕ) (bs : List ℕ) → Starts (listed_from column bs)
starts column [] = begins 36 _ refl
starts column (b ∷ bs) = made_starts (nat_lt most_listed (column + length (listed_byte b))) column b bs

after_reads : (b : ℕ) (after : List ℕ) → b < 256 → Starts after → token (listed_byte b ++ after) ≡ b
after_reads b after h s = ap (λ l. token (listed_byte b ++ l)) s.is ∙ item_reads b s.first s.rest h s.none

made_reads : (fold : Bool) (column b : ℕ) (bs : List ℕ) → b < 256 → token (made fold column b bs) ≡ cond fold 256 b
made_reads true column b bs h = refl
made_reads false column b bs h = after_reads b _ h (starts (column + length (listed_byte b)) bs)

-- an item, where what comes after it begins at the column `to`
one_item : (to : ℕ → ℕ) (a b : ℕ) (xs ys : List ℕ) → a < 256 → b < 256 →
    ((n : ℕ) → listed_from n xs ≡ listed_from n ys → xs ≡ ys) →
    listed_byte a ++ listed_from (to (length (listed_byte a))) xs ≡ listed_byte b ++ listed_from (to (length (listed_byte b))) ys → a ∷ xs ≡ b ∷ ys
one_item to a b xs ys h k more e =
    let first = after_reads a _ h (starts (to (length (listed_byte a))) xs) in
    let second = after_reads b _ k (starts (to (length (listed_byte b))) ys) in
    let same : a ≡ b = sym first ∙ ap token e ∙ second in
    let here : listed_byte a ++ listed_from (to (length (listed_byte a))) xs ≡ listed_byte a ++ listed_from (to (length (listed_byte a))) ys =
    subst (λ z. listed_byte a ++ listed_from (to (length (listed_byte a))) xs ≡ listed_byte z ++ listed_from (to (length (listed_byte z))) ys) (sym same) e in
    let rest = more (to (length (listed_byte a))) (append_cancel_left (listed_byte a) _ _ here) in
    ap (λ z. z ∷ xs) same ∙ ap (λ l. b ∷ l) rest

one_made : (s t : Bool) (column a b : ℕ) (xs ys : List ℕ) → a < 256 → b < 256 →
    ((n : ℕ) → listed_from n xs ≡ listed_from n ys → xs ≡ ys) → made s column a xs ≡ made t column b ys → a ∷ xs ≡ b ∷ ys
one_made true true column a b xs ys h k more e = one_item (λ n. n) a b xs ys h k more (append_cancel_left (92 ∷ 10 ∷ []) _ _ e)
one_made true false column a b xs ys h k more e =
    let other : 256 ≡ b = ap token e ∙ made_reads false column b ys k in absurd (omega arith)
one_made false true column a b xs ys h k more e =
    let other : 256 ≡ a = sym (ap token e) ∙ made_reads false column a xs h in absurd (omega arith)
one_made false false column a b xs ys h k more e = one_item (λ n. column + n) a b xs ys h k more e

-- the end differs from any item and from a fold
not_end : (fold : Bool) (b : ℕ) → b < 256 → 257 ≡ cond fold 256 b → ⊥
not_end true b h e = omega (arith, e)
not_end false b h e = omega (arith, e)

unique : (xs ys : List ℕ) (column : ℕ) → AllByRecursion (λ b. b < 256) xs → AllByRecursion (λ b. b < 256) ys →
    listed_from column xs ≡ listed_from column ys → xs ≡ ys
unique [] [] column h k e = refl
unique [] (b ∷ ys) column h k e =
    let fold = nat_lt most_listed (column + length (listed_byte b)) in
    absurd (not_end fold b k.0 (ap token e ∙ made_reads fold column b ys k.0))
unique (a ∷ xs) [] column h k e =
    let fold = nat_lt most_listed (column + length (listed_byte a)) in
    absurd (not_end fold a h.0 (sym (ap token e) ∙ made_reads fold column a xs h.0))
unique (a ∷ xs) (b ∷ ys) column h k e =
    one_made (nat_lt most_listed (column + length (listed_byte a))) (nat_lt most_listed (column + length (listed_byte b))) column a b xs ys h.0 k.0
    (λ n. unique xs ys n h.1 k.1) e

pub one_text : (v w : List ℕ) → All (λ b. b < 256) v → All (λ b. b < 256) w → listed v ≡ listed w → v ≡ w
unfolding listed
one_text v w h k e = unique v w 0 (recursion_from_All (λ b. b < 256) v h) (recursion_from_All (λ b. b < 256) w k) e
