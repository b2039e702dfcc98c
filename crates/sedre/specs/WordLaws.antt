-- Private to the proofs: no contract of a public item cites what is here.
-- The words of a set are those that it was made of.
use Rattle.std.specs.Prelude.{◌≡◌, ℕ, zero, suc, ◌+◌, ◌*◌, ◌/◌, ◌%◌, ◌^◌, ◌<◌, Bool, false, eqb, List, [], ◌∷◌}
use Rattle.std.specs.Prelude.{slice_index_or, if◌then◌else◌}
use Rattle.std.specs.Int.{bit_at}
use Rattle.std.proofs.Common.{refl, ap, ◌∙◌, arith}
use Rattle.std.proofs.lemmas.Nat.Bits.{bit_at-suc, bit_at_lowest, bit_at-lt}
use Rattle.std.proofs.Common.{pow-suc}
use Rattle.std.proofs.lemmas.List.FromFn.{get_or-map-range_with_len}
use Rattle.sedre.specs.Sets.{set_of, has}
use Rattle.sedre.specs.Words.{is_set, set_of_words, AreWords, from_bits, word_at, words_of}

pub has-set_of : (test : ℕ → Bool) (c : ℕ) → c < 256 → has (set_of test) c ≡ test c
unfolding set_of
has-set_of test c small = get_or-map-range_with_len test 0 256 c c false small (omega arith)

one_or_none : (x : ℕ) → x < 2 → (if eqb x 1 then 1 else 0) ≡ x
one_or_none zero lt = refl
one_or_none (suc zero) lt = refl
one_or_none (suc (suc x)) lt = absurd (omega arith)

from_bits-is : (n w : ℕ) (bit : ℕ → Bool) → w < 2 ^ n → ((k : ℕ) → k < n → bit k ≡ eqb (bit_at w k) 1) → from_bits bit n ≡ w
unfolding from_bits
from_bits-is zero w bit small same = omega arith
from_bits-is (suc n) w bit small same =
    let half : w / 2 < 2 ^ n = omega (arith, pow-suc 2 n) in
    let rest : from_bits (λ k. bit (suc k)) n ≡ w / 2 =
    from_bits-is n (w / 2) (λ k. bit (suc k)) half
    (λ k lt. same (suc k) (omega arith) ∙ ap (λ x. eqb x 1) (bit_at-suc w k)) in
    let low : (if bit 0 then 1 else 0) ≡ w % 2 =
    ap (λ (b : Bool). if b then 1 else 0) (same 0 (omega arith)) ∙ one_or_none (bit_at w 0) (bit_at-lt w 0)
    ∙ bit_at_lowest w in
    omega arith

-- the bit of the byte from + k, where from is 64 times the word's place
is_set-at : (words : List ℕ) (word place from k : ℕ) → slice_index_or words place 0 ≡ word → from ≡ 64 * place →
    k < 64 → is_set words (from + k) ≡ eqb (bit_at word k) 1
unfolding is_set
is_set-at words word place from k there is small =
    ap (λ x. eqb (bit_at (slice_index_or words x 0) ((from + k) % 64)) 1)
    (let e : (from + k) / 64 ≡ place = omega arith in e)
    ∙ ap (λ x. eqb (bit_at x ((from + k) % 64)) 1) there
    ∙ ap (λ x. eqb (bit_at word x) 1) (let e : (from + k) % 64 ≡ k = omega arith in e)

word_at-set_of_words : (words : List ℕ) (word place from : ℕ) → slice_index_or words place 0 ≡ word →
    from ≡ 64 * place → place < 4 → word < 2 ^ 64 → word_at (set_of_words words) from ≡ word
unfolding set_of_words word_at
word_at-set_of_words words word place from there is inside small =
    from_bits-is 64 word (λ k. has (set_of (is_set words)) (from + k)) small
    (λ k lt. has-set_of (is_set words) (from + k) (omega arith) ∙ is_set-at words word place from k there is lt)

four : (a b c d a' b' c' d' : ℕ) → a ≡ a' → b ≡ b' → c ≡ c' → d ≡ d' → (a ∷ b ∷ c ∷ d ∷ []) ≡ (a' ∷ b' ∷ c' ∷ d' ∷ [])
four a b c d a' b' c' d' ea eb ec ed = cc

pub words_of-set_of_words : (words : List ℕ) → AreWords words → words_of (set_of_words words) ≡ words
unfolding words_of
words_of-set_of_words (a ∷ b ∷ c ∷ d ∷ []) are =
    let words : List ℕ = a ∷ b ∷ c ∷ d ∷ [] in
    four (word_at (set_of_words words) 0) (word_at (set_of_words words) 64)
    (word_at (set_of_words words) 128) (word_at (set_of_words words) 192) a b c d
    (word_at-set_of_words words a 0 0 refl refl (omega arith) are.0)
    (word_at-set_of_words words b 1 64 refl refl (omega arith) are.1)
    (word_at-set_of_words words c 2 128 refl refl (omega arith) are.2)
    (word_at-set_of_words words d 3 192 refl refl (omega arith) are.3)
words_of-set_of_words other are = absurd are
