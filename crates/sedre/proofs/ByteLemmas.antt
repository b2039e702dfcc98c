-- Sets of bytes, and the words that stand for them.
use Rattle.std.proofs.Common.{◌≡◌, ◌≢◌, ◌⊎◌, ℕ, zero, suc, ◌+◌, ◌-◌, ◌/◌, ◌%◌, ◌^◌, ◌<◌, ◌≤◌, ◌==◌, Bool, true, false, not, ◌||◌, ◌&&◌, nat_lt, nat_le, rules, tests, eqb, eq-eqb, inl, inr, max, List, [], ◌∷◌, length, refl, sym, ap, ◌∙◌, arith, ⊎_elim, slice_index_or, slice_set, slice_get, Some}
use Rattle.std.specs.Bool.{IsTrue, Decides}
use Rattle.std.specs.Cmp.Lexicographic.{pointwise}
use Rattle.std.proofs.lemmas.Bool.{false≢true, eqb-true}
use Rattle.std.proofs.lemmas.Bool.Decides.{Decides-eqb}
use Rattle.std.proofs.lemmas.Slice.Eq.{slice_eq-Decides}
use Rattle.std.proofs.Math.ListN.{get_or-eq_default}
use Rattle.std.specs.Int.{bit_at}
use Rattle.std.proofs.lemmas.List.FromFn.{length-map-range_with_len, fill_by_all}
use Rattle.std.proofs.lemmas.List.{get_or-set_same, get_or-set_other}
use Rattle.std.proofs.lemmas.Bool.{cases_eq, cases_lt, lt-ltb, le-ltb}
use Rattle.std.proofs.lemmas.Option.{slice_get-get_or}
use Rattle.std.proofs.lemmas.Bool.Decides.{eqb_tells}
use Rattle.std.proofs.lemmas.Nat.Bits.{bit_at-zero, bit_at-lt}
use Rattle.sedre.specs.Sets.{set_of, has, union, complement, only, is_between, other_case, folded_set}
use Rattle.sedre.specs.Words.{words_of, is_set, set_of_words, AreWords}
use Rattle.sedre.specs.WordLaws.{has-set_of, words_of-set_of_words}

pub length-set_of : (test : ℕ → Bool) → length (set_of test) ≡ 256
unfolding set_of
length-set_of test = length-map-range_with_len test 0 256

-- a list of 256 truth values is the set that they say
pub set_of-is : (test : ℕ → Bool) (set : List Bool) → length set ≡ 256 → ((c : ℕ) → c < 256 → has set c ≡ test c) → set ≡ set_of test
unfolding set_of
set_of-is test set len same = fill_by_all test set 256 false len same

pub set_of-same : (f g : ℕ → Bool) → ((c : ℕ) → c < 256 → f c ≡ g c) → set_of f ≡ set_of g
set_of-same f g same = set_of-is g (set_of f) (length-set_of f) (λ c lt. has-set_of f c lt ∙ same c lt)

-- words that have the bits of a set
pub set_of_words-is : (words : List ℕ) (test : ℕ → Bool) → ((c : ℕ) → c < 256 → eqb (bit_at (slice_index_or words (c / 64) 0) (c % 64)) 1 ≡ test c) → set_of_words words ≡ set_of test
unfolding set_of_words is_set
set_of_words-is words test same = set_of-same (is_set words) test same

pub has-set_of_words : (words : List ℕ) (c : ℕ) → c < 256 → has (set_of_words words) c ≡ eqb (bit_at (slice_index_or words (c / 64) 0) (c % 64)) 1
unfolding set_of_words is_set
has-set_of_words words c lt = has-set_of (is_set words) c lt

zeros : (k : ℕ) → slice_index_or {A = ℕ} (0 ∷ 0 ∷ 0 ∷ 0 ∷ []) k 0 ≡ 0
zeros zero = refl
zeros (suc zero) = refl
zeros (suc (suc zero)) = refl
zeros (suc (suc (suc zero))) = refl
zeros (suc (suc (suc (suc k)))) = refl

pub none_is : set_of_words (0 ∷ 0 ∷ 0 ∷ 0 ∷ []) ≡ set_of (λ c. false)
none_is = set_of_words-is (0 ∷ 0 ∷ 0 ∷ 0 ∷ []) (λ c. false)
    (λ c lt. ap (λ w. eqb (bit_at w (c % 64)) 1) (zeros (c / 64)) ∙ ap (λ x. eqb x 1) (bit_at-zero (c % 64)))

max_is : (x y : ℕ) → x < 2 → y < 2 → eqb (max x y) 1 ≡ (eqb x 1 || eqb y 1)
max_is zero zero hx hy = refl
max_is zero (suc zero) hx hy = refl
max_is (suc zero) zero hx hy = refl
max_is (suc zero) (suc zero) hx hy = refl
max_is (suc (suc x)) y hx hy = absurd (omega arith)
max_is x (suc (suc y)) hx hy = absurd (omega arith)

not_is : (x : ℕ) → x < 2 → eqb (1 - x) 1 ≡ not (eqb x 1)
not_is zero h = refl
not_is (suc zero) h = refl
not_is (suc (suc x)) h = absurd (omega arith)

pub union_is : (these those both : List ℕ) (s o : List Bool) → set_of_words these ≡ s → set_of_words those ≡ o →
    ((place k : ℕ) → place < 4 → bit_at (slice_index_or both place 0) k ≡ max (bit_at (slice_index_or these place 0) k) (bit_at (slice_index_or those place 0) k)) →
    set_of_words both ≡ union s o
union_is these those both s o is_s is_o bits =
    set_of_words-is both (λ c. has s c || has o c) (λ c lt.
    let place = c / 64 in
    let k = c % 64 in
    let low : bit_at (slice_index_or these (c / 64) 0) (c % 64) < 2 = bit_at-lt (slice_index_or these (c / 64) 0) (c % 64) in
    let high : bit_at (slice_index_or those (c / 64) 0) (c % 64) < 2 = bit_at-lt (slice_index_or those (c / 64) 0) (c % 64) in
    ap (λ x. eqb x 1) (bits (c / 64) (c % 64) (omega arith))
    ∙ max_is (bit_at (slice_index_or these (c / 64) 0) (c % 64)) (bit_at (slice_index_or those (c / 64) 0) (c % 64)) low high
    ∙ ap (λ b. b || eqb (bit_at (slice_index_or those (c / 64) 0) (c % 64)) 1) (sym (has-set_of_words these c lt) ∙ ap (λ l. has l c) is_s)
    ∙ ap (λ b. has s c || b) (sym (has-set_of_words those c lt) ∙ ap (λ l. has l c) is_o))

length-set_of_words : (words : List ℕ) → length (set_of_words words) ≡ 256
unfolding set_of_words
length-set_of_words words = length-set_of (is_set words)

no_byte_past : (words : List ℕ) (s : List Bool) (c : ℕ) → set_of_words words ≡ s → 256 ≤ c → has s c ≡ false
no_byte_past words s c is past = get_or-eq_default s false (omega (arith, length-set_of_words words, ap length is))

pub union_members : (these those : List ℕ) (s o both : List Bool) → set_of_words these ≡ s → set_of_words those ≡ o → both ≡ union s o →
    (c : ℕ) → has both c ≡ (has s c || has o c)
union_members these those s o both is_s is_o is c =
    ap (λ l. has l c) is
    ∙ ⊎_elim
    (λ (lt : c < 256). has-set_of (λ b. has s b || has o b) c lt)
    (λ (past : 256 ≤ c).
    get_or-eq_default (union s o) false (omega (arith, length-set_of (λ b. has s b || has o b)))
    ∙ sym (ap (λ b. b || has o c) (no_byte_past these s c is_s past) ∙ no_byte_past those o c is_o past))
    (cases_lt c 256)

pub complement_is : (words turned : List ℕ) (s : List Bool) → set_of_words words ≡ s →
    ((place k : ℕ) → place < 4 → k < 64 → bit_at (slice_index_or turned place 0) k ≡ 1 - bit_at (slice_index_or words place 0) k) →
    set_of_words turned ≡ complement s
complement_is words turned s is_s bits =
    set_of_words-is turned (λ c. not (has s c)) (λ c lt.
    ap (λ x. eqb x 1) (bits (c / 64) (c % 64) (omega arith) (omega arith))
    ∙ not_is (bit_at (slice_index_or words (c / 64) 0) (c % 64)) (bit_at-lt (slice_index_or words (c / 64) 0) (c % 64))
    ∙ ap not (sym (has-set_of_words words c lt) ∙ ap (λ l. has l c) is_s))

pub has_is : (words : List ℕ) (s : List Bool) (c place word : ℕ) (bit : Bool) → set_of_words words ≡ s → c < 256 → place ≡ c / 64 → bit ≡ eqb (bit_at (slice_index_or words place 0) (c % 64)) 1 → bit ≡ has s c
has_is words s c place word bit is_s small at is =
    is ∙ ap (λ x. eqb (bit_at (slice_index_or words x 0) (c % 64)) 1) at ∙ sym (has-set_of_words words c small) ∙ ap (λ l. has l c) is_s

pub listed : (words : List ℕ) (s : List Bool) (c : ℕ) (bit : Bool) → set_of_words words ≡ s → c < 256 → bit ≡ has s c → slice_get s c ≡ Some bit
unfolding set_of_words
listed words s c bit is_s small is =
    slice_get-get_or s c false (omega (arith, length-set_of (is_set words), ap length is_s)) ∙ ap (λ b. Some b) (sym is)

or_true : (a b : Bool) → b ≡ true → true ≡ (a || b)
or_true true b is = refl
or_true false b is = sym is

or_false : (a b : Bool) → b ≡ false → a ≡ (a || b)
or_false true b is = refl
or_false false b is = sym is

pub apart_false : (a b : ℕ) → (a ≡ b → ⊥) → (a == b) ≡ false
apart_false a b apart = elim (eqb_tells a b) [ inl w ↦ absurd (apart w.1) | inr w ↦ w.0 ]

-- a word with one more bit, in its place
insert_at : (words : List ℕ) (b place old word c : ℕ) → place ≡ b / 64 → place < length words →
    old ≡ slice_index_or words place 0 → bit_at word (b % 64) ≡ 1 → ((i : ℕ) → i < 64 → i ≢ b % 64 → bit_at word i ≡ bit_at old i) →
    eqb (bit_at (slice_index_or (slice_set words place word) (c / 64) 0) (c % 64)) 1 ≡ (eqb (bit_at (slice_index_or words (c / 64) 0) (c % 64)) 1 || c == b)
insert_at words b place old word c at inside is_old same other =
    let before : Bool = eqb (bit_at (slice_index_or words (c / 64) 0) (c % 64)) 1 in
    ⊎_elim
    (λ (e : c / 64 ≡ place).
    ap (λ x. eqb (bit_at (slice_index_or (slice_set words place word) x 0) (c % 64)) 1) e
    ∙ ap (λ x. eqb (bit_at x (c % 64)) 1) (get_or-set_same words place word 0 inside)
    ∙ ⊎_elim
    (λ (f : c % 64 ≡ b % 64).
    let both : c ≡ b = omega arith in
    ap (λ x. eqb (bit_at word x) 1) f ∙ ap (λ x. eqb x 1) same ∙ or_true before (c == b) (eq-eqb c b both))
    (λ (f : c % 64 ≡ b % 64 → ⊥).
    ap (λ x. eqb x 1) (other (c % 64) (omega arith) f) ∙ ap (λ x. eqb (bit_at x (c % 64)) 1) is_old
    ∙ ap (λ x. eqb (bit_at (slice_index_or words x 0) (c % 64)) 1) (sym e)
    ∙ or_false before (c == b) (apart_false c b (λ g. f (ap (λ x. x % 64) g))))
    (cases_eq (c % 64) (b % 64)))
    (λ (ne : c / 64 ≡ place → ⊥).
    ap (λ x. eqb (bit_at x (c % 64)) 1) (get_or-set_other words place (c / 64) word 0 ne)
    ∙ or_false before (c == b) (apart_false c b (λ g. ne (ap (λ x. x / 64) g ∙ sym at))))
    (cases_eq (c / 64) place)

pub insert_is : (words : List ℕ) (s : List Bool) (b place old word : ℕ) → set_of_words words ≡ s → b < 256 → place ≡ b / 64 → length words ≡ 4 →
    old ≡ slice_index_or words place 0 → bit_at word (b % 64) ≡ 1 → ((i : ℕ) → i < 64 → i ≢ b % 64 → bit_at word i ≡ bit_at old i) →
    set_of_words (slice_set words place word) ≡ union s (only b)
insert_is words s b place old word is_s small at four is_old same other =
    set_of_words-is (slice_set words place word) (λ c. has s c || has (only b) c) (λ c lt.
    insert_at words b place old word c at (omega arith) is_old same other
    ∙ ap (λ x. x || c == b) (sym (has-set_of_words words c lt) ∙ ap (λ l. has l c) is_s)
    ∙ ap (λ x. has s c || x) (sym (has-set_of (λ d. d == b) c lt)))

pub at_each : (P : ℕ → Type 0) → P 0 → P 1 → P 2 → P 3 → (place : ℕ) → place < 4 → P place
at_each P a b c d zero lt = a
at_each P a b c d (suc zero) lt = b
at_each P a b c d (suc (suc zero)) lt = c
at_each P a b c d (suc (suc (suc zero))) lt = d
at_each P a b c d (suc (suc (suc (suc n)))) lt = absurd (omega arith)

pub word_small : (words : List ℕ) → AreWords words → (place : ℕ) → place < 4 → slice_index_or words place 0 < 2 ^ 64
word_small (a ∷ b ∷ c ∷ d ∷ []) are place lt = at_each (λ p. slice_index_or (a ∷ b ∷ c ∷ d ∷ []) p 0 < 2 ^ 64) are.0 are.1 are.2 are.3 place lt
word_small _ are place lt = absurd are

pub only_is : (b : ℕ) (none set : List Bool) → none ≡ set_of (λ c. false) → set ≡ union none (only b) → set ≡ only b
only_is b none set is_none is =
    is ∙ ap (λ n. union n (only b)) is_none
    ∙ set_of-same (λ c. has (set_of (λ d. false)) c || has (only b) c) (λ c. c == b)
    (λ c lt. ap (λ x. x || has (only b) c) (has-set_of (λ d. false) c lt) ∙ has-set_of (λ d. d == b) c lt)

pub any_is : (zero_only set : List Bool) → zero_only ≡ only 0 → set ≡ complement zero_only → set ≡ set_of (λ c. not (c == 0))
any_is zero_only set is_only is =
    is ∙ ap complement is_only ∙ set_of-same (λ c. not (has (only 0) c)) (λ c. not (c == 0)) (λ c lt. ap not (has-set_of (λ d. d == 0) c lt))

-- ---- a set that is filled byte by byte

lt_more : (b c : ℕ) → (c ≡ b → ⊥) → nat_lt c b ≡ nat_lt c (b + 1)
lt_more b c apart = ⊎_elim
    (λ (h : c < b). lt-ltb c b h ∙ sym (lt-ltb c (b + 1) (omega arith)))
    (λ (h : b ≤ c). le-ltb c b h ∙ sym (le-ltb c (b + 1) (omega arith)))
    (cases_lt c b)

and_true : (a : Bool) → (a && true) ≡ a
and_true true = refl
and_true false = refl

and_false : (a : Bool) → (a && false) ≡ false
and_false true = refl
and_false false = refl

pub between_true : (least most c : ℕ) → least ≤ c → c ≤ most → is_between least most c ≡ true
between_true least most c low high = search (rules, tests)

pub between_false : (least most c : ℕ) → most < c → is_between least most c ≡ false
between_false least most c high = ap (λ x. nat_le least c && x) (search (rules, tests)) ∙ and_false (nat_le least c)

more : (test : ℕ → Bool) (b c : ℕ) → test b ≡ true → ((test c && nat_lt c b) || (c == b)) ≡ (test c && nat_lt c (b + 1))
more test b c is =
    ⊎_elim
    (λ (e : c ≡ b). sym (or_true (test c && nat_lt c b) (c == b) (eq-eqb c b e)) ∙ sym (ap (λ x. x && nat_lt c (b + 1)) (ap test e ∙ is) ∙ lt-ltb c (b + 1) (omega arith)))
    (λ (ne : c ≡ b → ⊥). sym (or_false (test c && nat_lt c b) (c == b) (apart_false c b ne)) ∙ ap (λ x. test c && x) (lt_more b c ne))
    (cases_eq c b)

less : (test : ℕ → Bool) (b c : ℕ) → test b ≡ false → (test c && nat_lt c b) ≡ (test c && nat_lt c (b + 1))
less test b c is =
    ⊎_elim
    (λ (e : c ≡ b). ap (λ x. x && nat_lt c b) (ap test e ∙ is) ∙ sym (ap (λ x. x && nat_lt c (b + 1)) (ap test e ∙ is)))
    (λ (ne : c ≡ b → ⊥). ap (λ x. test c && x) (lt_more b c ne))
    (cases_eq c b)

pub filled_more : (test : ℕ → Bool) (b : ℕ) (set next : List Bool) → set ≡ set_of (λ c. test c && nat_lt c b) → test b ≡ true → next ≡ union set (only b) → next ≡ set_of (λ c. test c && nat_lt c (b + 1))
filled_more test b set next is_set is is_next =
    is_next ∙ ap (λ s. union s (only b)) is_set
    ∙ set_of-same (λ c. has (set_of (λ d. test d && nat_lt d b)) c || has (only b) c) (λ c. test c && nat_lt c (b + 1))
    (λ c lt. ap (λ x. x || has (only b) c) (has-set_of (λ d. test d && nat_lt d b) c lt)
    ∙ ap (λ x. (test c && nat_lt c b) || x) (has-set_of (λ d. d == b) c lt) ∙ more test b c is)

pub filled_less : (test : ℕ → Bool) (b : ℕ) (set next : List Bool) → set ≡ set_of (λ c. test c && nat_lt c b) → test b ≡ false → next ≡ set → next ≡ set_of (λ c. test c && nat_lt c (b + 1))
filled_less test b set next is_set is is_next =
    is_next ∙ is_set ∙ set_of-same (λ c. test c && nat_lt c b) (λ c. test c && nat_lt c (b + 1)) (λ c lt. less test b c is)

pub filled_all : (test : ℕ → Bool) (b : ℕ) (set : List Bool) → ((c : ℕ) → b ≤ c → test c ≡ false) → set ≡ set_of (λ c. test c && nat_lt c b) → set ≡ set_of test
filled_all test b set none filled = filled ∙ set_of-same (λ c. test c && nat_lt c b) test (λ c lt. ⊎_elim
    (λ (h : c < b). ap (λ x. test c && x) (lt-ltb c b h) ∙ and_true (test c))
    (λ (h : b ≤ c). ap (λ x. x && nat_lt c b) (none c h) ∙ sym (none c h))
    (cases_lt c b))

-- all 256 bytes were met
pub filled_full : (test : ℕ → Bool) (b : ℕ) (set : List Bool) → 256 ≤ b → set ≡ set_of (λ c. test c && nat_lt c b) → set ≡ set_of test
filled_full test b set full filled =
    filled ∙ set_of-same (λ c. test c && nat_lt c b) test (λ c lt. ap (λ x. test c && x) (lt-ltb c b (omega arith)) ∙ and_true (test c))

-- ---- letters in either case

between_under : (least most c : ℕ) → c < least → is_between least most c ≡ false
between_under least most c low = let under : nat_le least c ≡ false = search (rules, tests) in ap (λ x. x && nat_le c most) under

-- an upper case letter, a lower case letter, or another byte
letters : (c : ℕ) → (65 ≤ c) × (c ≤ 90) × (other_case c ≡ c + 32) ⊎ (97 ≤ c) × (c ≤ 122) × (other_case c ≡ c - 32) ⊎ (other_case c ≡ c)
letters c = elim (cases_lt c 65) [
  | inl w ↦ inr (inr (rw (between_under 65 90 c w, between_under 97 122 c (omega arith)) refl))
  | inr w ↦ elim (cases_lt c 91) [
    | inl v ↦ inl (w, omega arith, rw (between_true 65 90 c w (omega arith)) refl)
    | inr v ↦ elim (cases_lt c 97) [
      | inl u ↦ inr (inr (rw (between_false 65 90 c (omega arith), between_under 97 122 c u) refl))
      | inr u ↦ elim (cases_lt c 123) [
        | inl t ↦ inr (inl (u, omega arith, rw (between_false 65 90 c (omega arith), between_true 97 122 c u (omega arith)) refl))
        | inr t ↦ inr (inr (rw (between_false 65 90 c (omega arith), between_false 97 122 c (omega arith)) refl))
      ]
    ]
  ]
]

upper_back : (c : ℕ) → 65 ≤ c → c ≤ 90 → other_case (c + 32) ≡ c
upper_back c low high = rw (between_false 65 90 (c + 32) (omega arith), between_true 97 122 (c + 32) (omega arith) (omega arith)) (omega arith)

lower_back : (c : ℕ) → 97 ≤ c → c ≤ 122 → other_case (c - 32) ≡ c
lower_back c low high = rw (between_true 65 90 (c - 32) (omega arith) (omega arith)) (omega arith)

-- the other case of the other case
other_back : (c : ℕ) → other_case (other_case c) ≡ c
other_back c = elim (letters c) [
  | inl w ↦ ap other_case w.2 ∙ upper_back c w.0 w.1
  | inr (inl w) ↦ ap other_case w.2 ∙ lower_back c w.0 w.1
  | inr (inr w) ↦ ap other_case w ∙ w
]

other_same : (b c : ℕ) → (c == other_case b) ≡ (other_case c == b)
other_same b c = elim (eqb_tells c (other_case b)) [
  | inl w ↦ w.0 ∙ sym (eq-eqb (other_case c) b (ap other_case w.1 ∙ other_back b))
  | inr w ↦ w.0 ∙ sym (apart_false (other_case c) b (λ e. w.1 (sym (other_back c) ∙ ap other_case e)))
]

other_small : (c : ℕ) → c < 256 → other_case c < 256
other_small c lt = elim (letters c) [
  | inl w ↦ omega (arith, w.1, w.2)
  | inr (inl w) ↦ omega (arith, w.1, w.2)
  | inr (inr w) ↦ omega (arith, w)
]

-- a byte and its other case are the set of the byte closed under the change of case
pub folded_only : (b other : ℕ) (one set : List Bool) → other ≡ other_case b → one ≡ only b → set ≡ union one (only other) → set ≡ folded_set (only b)
folded_only b other one set is_other is_one is =
    is ∙ ap (λ s. union s (only other)) is_one ∙ ap (λ x. union (only b) (only x)) is_other
    ∙ set_of-same (λ c. has (only b) c || has (only (other_case b)) c) (λ c. has (only b) c || has (only b) (other_case c))
    (λ c lt. ap (λ x. has (only b) c || x) (has-set_of (λ d. d == other_case b) c lt ∙ other_same b c ∙ sym (has-set_of (λ d. d == b) (other_case c) (other_small c lt))))

-- ---- equal sets, and sets of one byte

pub same_is : (these those : List ℕ) (s o : List Bool) (same : Bool) → set_of_words these ≡ s → set_of_words those ≡ o → AreWords these → AreWords those →
    same ≡ pointwise eqb these those → (IsTrue same → s ≡ o) × (s ≡ o → IsTrue same)
same_is these those s o same is_s is_o ok_s ok_o is =
    let decides : Decides same (these ≡ those) = slice_eq-Decides Decides-eqb these those same is in (
      (λ t. sym is_s ∙ ap set_of_words (decides.0 t) ∙ is_o),
      (λ e. (decides.1 (sym (words_of-set_of_words these ok_s) ∙ ap words_of (is_s ∙ e ∙ sym is_o) ∙ words_of-set_of_words those ok_o))),
    )

-- the words of a set
pub words_are : (words : List ℕ) (s : List Bool) → set_of_words words ≡ s → AreWords words → words ≡ words_of s
words_are words s is ok = sym (words_of-set_of_words words ok) ∙ ap words_of is

-- a byte with its bit set is a member
pub member_is : (words : List ℕ) (s : List Bool) (b : ℕ) → set_of_words words ≡ s → b < 256 → bit_at (slice_index_or words (b / 64) 0) (b % 64) ≡ 1 → has s b ≡ true
member_is words s b is_s small bit = ap (λ l. has l b) (sym is_s) ∙ has-set_of_words words b small ∙ ap (λ x. eqb x 1) bit

pub no_member_is : (words : List ℕ) (s : List Bool) → set_of_words words ≡ s → ((k : ℕ) → k < 4 → slice_index_or words k 0 ≡ 0) → (b : ℕ) → b < 256 → s ≡ only b → ⊥
no_member_is words s is_s none b small is =
    let clear : has s b ≡ false = ap (λ l. has l b) (sym is_s) ∙ has-set_of_words words b small ∙ ap (λ w. eqb (bit_at w (b % 64)) 1) (none (b / 64) (omega arith)) ∙ ap (λ x. eqb x 1) (bit_at-zero (b % 64)) in
    let marked : has s b ≡ true = ap (λ l. has l b) is ∙ has-set_of (λ d. d == b) b small ∙ eq-eqb b b refl in
    false≢true (sym clear ∙ marked)

-- the only member of a set of one byte
pub only_member : (b : ℕ) (s : List Bool) → s ≡ only b → (c : ℕ) → c < 256 → has s c ≡ true → c ≡ b
only_member b s is c small marked = eqb-true c b (sym (has-set_of (λ d. d == b) c small) ∙ ap (λ l. has l c) (sym is) ∙ marked)

past_end : (b : ℕ) (s : List Bool) → s ≡ only b → (c : ℕ) → 256 ≤ c → has s c ≡ false
past_end b s is c past = ap (λ l. has l c) is ∙ get_or-eq_default (only b) false (omega (arith, length-set_of (λ d. d == b)))

pub only_true : (b : ℕ) (s : List Bool) → s ≡ only b → (c : ℕ) → IsTrue (has s c) → c ≡ b
only_true b s is c marked = ⊎_elim
    (λ (small : c < 256). only_member b s is c small marked)
    (λ (past : 256 ≤ c). absurd (false≢true (sym (past_end b s is c past) ∙ marked)))
    (cases_lt c 256)

-- a set with a member that is not the set of that byte is the set of none
pub not_only : (s : List Bool) (first : ℕ) → first < 256 → has s first ≡ true → (s ≡ only first → ⊥) → (b : ℕ) → b < 256 → s ≡ only b → ⊥
not_only s first small marked isnt b low is = isnt (is ∙ ap only (sym (only_member b s is first small marked)))
