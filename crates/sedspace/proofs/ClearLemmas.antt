-- Bytes that are known to hold no newline.
use Rattle.std.proofs.Common.{◌≡◌, ℕ, ◌+◌, ◌-◌, ◌<◌, ◌≤◌, List, ◌++◌, length, take, drop, get_or, get_or-take, None, Some, sym, ap, ◌∙◌, arith, position, take-append-drop, not, if◌then◌else◌, min, length-append, length-drop, nat_lt, nat_eq, Bool, true, false, refl, ◌⊎◌, inl, inr, ◌≢◌, eqb}
use Rattle.std.specs.List.{position_or_len}
use Rattle.std.proofs.Math.Dec.{ltb}
use Rattle.std.proofs.lemmas.Bool.{ltb-false}
use Rattle.std.proofs.lemmas.List.Sums.{position_or_len_is}
use Rattle.std.proofs.lemmas.List.Folds.{prefix_len-append}
use Rattle.std.proofs.lemmas.List.{drop_all, drop-drop, take_all, take-take, take-append-le, drop-append-le, length-take-le}
use Rattle.std.proofs.lemmas.List.Elements.{All-append, All-drop, All-take}
use Rattle.std.proofs.lemmas.Bool.Decides.{nat_tests, eqb_tells}
use Rattle.sedspace.specs.Lines.{is_newline, HasNoNewline}
use Rattle.sedspace.specs.NewlineAfter.{IsClear}
use Rattle.sedspace.proofs.LineLemmas.{position_cases, none_cases}

last_more : (b : ℕ) (xs ys : List ℕ) → b ≤ length xs → HasNoNewline (drop (length xs - b) xs) → HasNoNewline ys → HasNoNewline (drop (length (xs ++ ys) - (b + length ys)) (xs ++ ys))
last_more b xs ys within h none =
    let n : length (xs ++ ys) - (b + length ys) ≡ length xs - b = omega (arith, length-append xs ys) in
    rw (n, drop-append-le (length xs - b) xs ys (omega arith)) (All-append (λ b. is_newline b ≡ false) (drop (length xs - b) xs) ys h none)

clear_line : (a b : ℕ) (xs ys : List ℕ) → IsClear a b xs → HasNoNewline ys → IsClear a (b + length ys) (xs ++ ys)
clear_line a b xs ys h none = record {
  first_within = omega (arith, length-append xs ys, h.first_within);
  last_within = omega (arith, length-append xs ys, h.last_within);
  first_clear = rw (take-append-le a xs ys h.first_within) h.first_clear;
  last_clear = last_more b xs ys h.last_within h.last_clear none;
}

clear_whole : (a b : ℕ) (xs ys : List ℕ) → a ≡ length xs → IsClear a b xs → HasNoNewline ys → IsClear (length xs + length ys) (b + length ys) (xs ++ ys)
clear_whole a b xs ys whole h none =
    let first : HasNoNewline xs = rw (take_all a xs (omega arith)) at h.first_clear in
    record {
      first_within = omega (arith, length-append xs ys);
      last_within = omega (arith, length-append xs ys, h.last_within);
      first_clear = rw (take_all (length xs + length ys) (xs ++ ys) (omega (arith, length-append xs ys))) (All-append (λ b. is_newline b ≡ false) xs ys first none);
      last_clear = last_more b xs ys h.last_within h.last_clear none;
    }

-- bytes without a newline that come after
clear_with_line : (a b : ℕ) (xs ys : List ℕ) → IsClear a b xs → HasNoNewline ys → IsClear (if nat_eq a (length xs) then length xs + length ys else a) (b + length ys) (xs ++ ys)
clear_with_line a b xs ys h none = by (eqb_tells a (length xs))
  where
    by : ((eqb a (length xs) ≡ true) × (a ≡ length xs)) ⊎ ((eqb a (length xs) ≡ false) × (a ≢ length xs)) → IsClear (if nat_eq a (length xs) then length xs + length ys else a) (b + length ys) (xs ++ ys)
    by (inl (e, whole)) = rw e (clear_whole a b xs ys whole h none)
    by (inr (e, part)) = rw e (clear_line a b xs ys h none)

-- the same by the numbers of bytes
pub clear_with_count : (a b len count : ℕ) (xs ys : List ℕ) → len ≡ length xs → count ≡ length ys → IsClear a b xs → HasNoNewline ys → IsClear (if nat_eq a len then len + count else a) (b + count) (xs ++ ys)
clear_with_count a b len count xs ys size more h none = rw (size, more) (clear_with_line a b xs ys h none)

-- the first bytes
pub clear_take : (a b n : ℕ) (xs : List ℕ) → n ≤ length xs → IsClear a b xs → IsClear (min a n) 0 (take n xs)
clear_take a b n xs within h =
    let few : take (min a n) (take n xs) ≡ take (min a n) (take a xs) = take-take (min a n) n xs (omega arith) ∙ sym (take-take (min a n) a xs (omega arith)) in
    record {
      first_within = omega (arith, length-take-le n xs within);
      last_within = omega arith;
      first_clear = rw few (All-take (λ b. is_newline b ≡ false) (min a n) (take a xs) h.first_clear);
      last_clear = rw (drop_all (length (take n xs) - 0) (take n xs) (omega arith)) (λ k d inside. absurd (omega (arith, inside)));
    }

last_from : (b k : ℕ) (xs : List ℕ) → length xs - b ≤ k → HasNoNewline (drop (length xs - b) xs) → HasNoNewline (drop k xs)
last_from b k xs past h =
    let split : length xs - b + (k - (length xs - b)) ≡ k = omega (arith, past) in
    rw (← ap (λ n. drop n xs) split, ← drop-drop (k - (length xs - b)) (length xs - b) xs) (All-drop (λ b. is_newline b ≡ false) (k - (length xs - b)) (drop (length xs - b) xs) h)

-- the bytes from a place on
pub clear_drop : (a b m rest : ℕ) (xs : List ℕ) → m + rest ≡ length xs → IsClear a b xs → IsClear (if nat_lt b rest then 0 else rest) (min b rest) (drop m xs)
clear_drop a b m rest xs parts h = by (ltb b rest) refl
  where
    size : length (drop m xs) ≡ rest
    size = omega (arith, length-drop m xs)

    last : HasNoNewline (drop (length (drop m xs) - min b rest) (drop m xs))
    last = rw (drop-drop (length (drop m xs) - min b rest) m xs) (last_from b (m + (length (drop m xs) - min b rest)) xs (omega (arith, size, h.last_within)) h.last_clear)

    by : (t : Bool) → ltb b rest ≡ t → IsClear (if nat_lt b rest then 0 else rest) (min b rest) (drop m xs)
    by false e =
        let less = ltb-false b rest e in
        rw e (record {
          first_within = omega (arith, size);
          last_within = omega (arith, size);
          first_clear = rw (take_all rest (drop m xs) (omega (arith, size))) (last_from b m xs (omega (arith, less)) h.last_clear);
          last_clear = last;
        })
    by true e = rw e (record {
      first_within = omega arith;
      last_within = omega (arith, size);
      first_clear = λ k d inside. absurd (omega (arith, inside));
      last_clear = last;
    })

-- a slice from a place on
pub rest_is : (a : ℕ) (bytes : List ℕ) → take (length bytes - a) (drop a bytes) ≡ drop a bytes
rest_is a bytes = take_all (length bytes - a) (drop a bytes) (omega (arith, length-drop a bytes))

past_first : (bytes : List ℕ) (a : ℕ) → a ≤ length bytes → HasNoNewline (take a bytes) → position_or_len is_newline bytes ≡ a + position_or_len is_newline (drop a bytes)
past_first bytes a within none =
    let part = take a bytes in
    let rest = drop a bytes in
    let q : ℕ → Bool = λ b. not (is_newline b) in
    let long : length part ≡ a = length-take-le a bytes within in
    let whole : position_or_len is_newline part ≡ length part = position_or_len_is is_newline part (length part) 0 (omega arith) (λ k l. none k 0 l) (λ l. absurd (omega arith)) in
    let first = prefix_len-append q part rest in
    let total : position_or_len is_newline (part ++ rest) ≡ length part + position_or_len is_newline rest = grind (arith, nat_tests, first, whole) in
    ap (position_or_len is_newline) (sym (take-append-drop a bytes)) ∙ total ∙ ap (λ n. n + position_or_len is_newline rest) long

-- the first newline, sought after bytes that hold none
pub newline_past : (bytes : List ℕ) (a at : ℕ) → a ≤ length bytes → HasNoNewline (take a bytes) → Some at ≡ position is_newline (drop a bytes) → Some (a + at) ≡ position is_newline bytes
newline_past bytes a at within none e =
    let both = position_cases (drop a bytes) at e in
    let place = past_first bytes a within none in
    let low : a + at < length bytes = omega (arith, length-drop a bytes, both.1) in
    let here : a + at ≡ position_or_len is_newline bytes = omega (arith, place, both.0) in
    grind (arith, nat_tests)

-- the first newline, where it comes after bytes that hold none
pub newline_at : (bytes : List ℕ) (a : ℕ) → a < length bytes → get_or bytes a 0 ≡ 10 → HasNoNewline (take a bytes) → Some a ≡ position is_newline bytes
newline_at bytes a inside here none =
    let at : position_or_len is_newline bytes ≡ a = position_or_len_is is_newline bytes a 0 (omega arith) (λ k l. none_before k l) (λ l. is_here) in
    grind (arith, nat_tests)
  where
    is_here : is_newline (get_or bytes a 0) ≡ true
    is_here = rw here refl

    none_before : (k : ℕ) → k < a → is_newline (get_or bytes k 0) ≡ false
    none_before k l = rw (get_or-take a bytes k 0 l) at (none k 0 (omega (arith, l, length-take-le a bytes (omega (arith, inside)))))

pub no_newline_past : (bytes : List ℕ) (a : ℕ) → a ≤ length bytes → HasNoNewline (take a bytes) → None ≡ position is_newline (drop a bytes) → None ≡ position is_newline bytes
no_newline_past bytes a within none e =
    let past = none_cases (drop a bytes) e in
    let place = past_first bytes a within none in
    let high : length bytes ≤ position_or_len is_newline bytes = omega (arith, place, past, length-drop a bytes) in
    grind (arith, nat_tests)
