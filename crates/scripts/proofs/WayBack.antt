-- A `y` and the `y` back.
use Rattle.std.proofs.Common.{◌≡◌, ◌⊎◌, inl, inr, ℕ, zero, suc, ◌<◌, ◌≤◌, List, [], ◌∷◌, length, map, Bool, true, false, not, ◌||◌, Some, refl, sym, ap, ap₂, subst, ◌∙◌, zero-add, arith}
use Rattle.std.specs.Prelude.{◌==◌, nat_lt, slice_index_or}
use Rattle.std.specs.List.{list_all, list_any, onto_first, range_with_len}
use Rattle.std.proofs.lemmas.Bool.{eqb-true}
use Rattle.std.proofs.lemmas.Bool.Decides.{nat_tests}
use Rattle.std.proofs.lemmas.List.FromFn.{get_or-map-range_with_len}
use Rattle.sedspace.specs.Lines.{is_newline, split_lines}
use Rattle.sedspace.proofs.LineLemmas.{lines_nil}
use Rattle.sedscript.specs.Strings.{counterpart, is_among, table_of}
use Rattle.sedengine.specs.Move.{in_table}
use Rattle.examples.proofs.ComputedEnds.{both}
use Rattle.scripts.specs.Edited.{EditsIntoLines, text_of}
use Rattle.scripts.specs.Words.{HasWayBack, by_table, y_of}
use Rattle.scripts.proofs.Truth.{neither, not_so}
use Rattle.scripts.proofs.Cutting.{lines_yes, lines_no}
use Rattle.scripts.proofs.Famous.{bytes_law}
use Rattle.scripts.proofs.Once.{each_once, once_of}
use Rattle.scripts.proofs.Links.{OneMeaning}
use Rattle.scripts.proofs.LineLaws.{NoneBroken, lines_none_broken}
use Rattle.scripts.proofs.Unbroken.{Unbroken, lines_again}

-- ---- truth values

one_of : (a b : Bool) → (a || not b) ≡ true → (a ≡ true) ⊎ ((a ≡ false) × (b ≡ false))
one_of true b e = inl refl
one_of false b e = inr (refl, not_so b e)

same : (n : ℕ) → (n == n) ≡ true
same n = grind (arith, nat_tests)

-- ---- the byte that stands for another one, and back

stays : (s1 s2 : List ℕ) (b : ℕ) → is_among s1 b ≡ false → counterpart s1 s2 b ≡ b
stays [] s2 b none = refl
stays (s ∷ s1) [] b none = refl
stays (s ∷ s1) (t ∷ s2) b none = let two = neither (s == b) (is_among s1 b) none in rw two.0 (stays s1 s2 b two.1)

-- a byte among those of a string that has none twice wasn't before them
not_before : (before s : List ℕ) (b : ℕ) → each_once before s ≡ true → is_among s b ≡ true → is_among before b ≡ false
not_before before [] b once h = absurd cc
not_before before (x ∷ s) b once h = by_test (not_before (x ∷ before) s b) (x == b) refl h
  where
    two : (is_among before x ≡ false) × (each_once (x ∷ before) s ≡ true)
    two = let parts = both (not (is_among before x)) (each_once (x ∷ before) s) once in (not_so (is_among before x) parts.0, parts.1)

    by_test : (each_once (x ∷ before) s ≡ true → is_among s b ≡ true → is_among (x ∷ before) b ≡ false) → (t : Bool) → (x == b) ≡ t → (t || is_among s b) ≡ true → is_among before b ≡ false
    by_test on true is h = ap (is_among before) (sym (eqb-true x b is)) ∙ two.0
    by_test on false is h = (neither (x == b) (is_among before b) (on two.1 h)).1

-- where the first string has the byte, the second has its counterpart, and that one's is the byte
record ReturnsBy (s1 s2 : List ℕ) (b c : ℕ) : Type 0 where
  there : is_among s2 c ≡ true
  back : counterpart s2 s1 c ≡ b

abbrev Returns : List ℕ → List ℕ → ℕ → Type 0
Returns s1 s2 b = ReturnsBy s1 s2 b (counterpart s1 s2 b)

the_first : (s t b : ℕ) (s1 s2 : List ℕ) → (s == b) ≡ true → counterpart (s ∷ s1) (t ∷ s2) b ≡ t
the_first s t b s1 s2 is = rw is refl

a_later : (s t b : ℕ) (s1 s2 : List ℕ) → (s == b) ≡ false → counterpart (s ∷ s1) (t ∷ s2) b ≡ counterpart s1 s2 b
a_later s t b s1 s2 is = rw is refl

returns_on : (before s1 s2 : List ℕ) (b : ℕ) → each_once before s2 ≡ true → length s1 ≡ length s2 → is_among s1 b ≡ true → Returns s1 s2 b
returns_on before [] s2 b once long h = absurd cc
returns_on before (s ∷ s1) [] b once long h = absurd (omega (arith, long))
returns_on before (s ∷ s1) (t ∷ s2) b once long h = by_test (returns_on (t ∷ before) s1 s2 b) (s == b) refl h
  where
    rest : each_once (t ∷ before) s2 ≡ true
    rest = (both (not (is_among before t)) (each_once (t ∷ before) s2) once).1

    by_test : (each_once (t ∷ before) s2 ≡ true → length s1 ≡ length s2 → is_among s1 b ≡ true → Returns s1 s2 b) → (x : Bool) → (s == b) ≡ x → (x || is_among s1 b) ≡ true → Returns (s ∷ s1) (t ∷ s2) b
    by_test on true is h =
        subst (ReturnsBy (s ∷ s1) (t ∷ s2) b) (sym (the_first s t b s1 s2 is)) (record { there = rw (same t) refl; back = the_first t s t s2 s1 (same t) ∙ eqb-true s b is })
    by_test on false is h =
        let more = on rest (omega (arith, long)) h in
        let c : ℕ = counterpart s1 s2 b in
        let other : (t == c) ≡ false = (neither (t == c) (is_among before c) (not_before (t ∷ before) s2 c rest more.there)).0 in
        subst (ReturnsBy (s ∷ s1) (t ∷ s2) b) (sym (a_later s t b s1 s2 is)) (record { there = rw other more.there; back = a_later t s c s2 s1 other ∙ more.back })

-- ---- tables

table_low : (s1 s2 : List ℕ) (b : ℕ) → b < 256 → in_table (Some (table_of s1 s2)) b ≡ counterpart s1 s2 b
unfolding table_of
table_low s1 s2 b low = get_or-map-range_with_len (counterpart s1 s2) 0 256 b b b low (zero-add b)

table_high : (s1 s2 : List ℕ) (b : ℕ) → 256 ≤ b → in_table (Some (table_of s1 s2)) b ≡ b
unfolding table_of
table_high s1 s2 b high = past (map (counterpart s1 s2) (range_with_len 0 256)) b b (omega (arith, high, size))
  where
    past : (xs : List ℕ) (k d : ℕ) → length xs ≤ k → slice_index_or xs k d ≡ d
    past [] k d h = refl
    past (x ∷ xs) zero d h = absurd (omega arith)
    past (x ∷ xs) (suc k) d h = past xs k d (omega arith)

    size : length (map (counterpart s1 s2) (range_with_len 0 256)) ≡ 256
    size = refl

low_or_high : (n m : ℕ) → (n < m) ⊎ (m ≤ n)
low_or_high n zero = inr (omega arith)
low_or_high zero (suc m) = inl (omega arith)
low_or_high (suc n) (suc m) = elim (low_or_high n m) [ inl h ↦ inl (omega arith) | inr h ↦ inr (omega arith) ]

all_among : (f : ℕ → Bool) (s : List ℕ) (b : ℕ) → list_all f s ≡ true → is_among s b ≡ true → f b ≡ true
all_among f [] b all h = absurd cc
all_among f (x ∷ s) b all h = by_test (all_among f s b) (x == b) refl h
  where
    two : (f x ≡ true) × (list_all f s ≡ true)
    two = both (f x) (list_all f s) all

    by_test : (list_all f s ≡ true → is_among s b ≡ true → f b ≡ true) → (t : Bool) → (x == b) ≡ t → (t || is_among s b) ≡ true → f b ≡ true
    by_test on true is h = ap f (sym (eqb-true x b is)) ∙ two.0
    by_test on false is h = on two.1 h

module _ (s1 s2 input : List ℕ) (way : HasWayBack s1 s2 input) where
  abbrev may : ℕ → Bool
  may b = is_among s1 b || not (is_among s2 b)

  abbrev forth : ℕ → ℕ
  forth b = in_table (Some (table_of s1 s2)) b

  abbrev again : ℕ → ℕ
  again b = in_table (Some (table_of s2 s1)) b

  -- the byte comes back, and what stands for it is a newline only where it is one
  record Comes (b : ℕ) : Type 0 where
    back : again (forth b) ≡ b
    newline : is_newline b ≡ false → is_newline (forth b) ≡ false

  comes : (b : ℕ) → may b ≡ true → Comes b
  comes b h = elim (low_or_high b 256) [
    | inr high ↦
        let one = table_high s1 s2 b high in record { back = ap again one ∙ table_high s2 s1 b high; newline = λ e. ap is_newline one ∙ e }
    | inl low ↦ elim (one_of (is_among s1 b) (is_among s2 b) h) [
      | inl in_first ↦
          let one = table_low s1 s2 b low in
          let r = returns_on [] s1 s2 b (once_of s2 way.second_once) way.long in_first in
          let c : ℕ = counterpart s1 s2 b in
          let byte : nat_lt c 256 ≡ true = all_among (λ b. nat_lt b 256) s2 c way.bytes r.there in
          let small : c < 256 = grind (arith, nat_tests) in
          record { back = ap again one ∙ table_low s2 s1 c small ∙ r.back; newline = λ e. ap is_newline one ∙ no_newline c r.there }
      | inr neither_has ↦
          let one = table_low s1 s2 b low ∙ stays s1 s2 b neither_has.0 in record { back = ap again one ∙ table_low s2 s1 b low ∙ stays s2 s1 b neither_has.1; newline = λ e. ap is_newline one ∙ e }
    ]
  ]
    where
      no_newline : (c : ℕ) → is_among s2 c ≡ true → is_newline c ≡ false
      no_newline c there = by_test (c == 10) refl
        where
          by_test : (t : Bool) → (c == 10) ≡ t → t ≡ false
          by_test false is = refl
          by_test true is = sym (sym way.no_newline ∙ ap (is_among s2) (sym (eqb-true c 10 is)) ∙ there)

  line_comes : (w : List ℕ) → list_all may w ≡ true → map again (map forth w) ≡ w
  line_comes [] h = refl
  line_comes (b ∷ w) h = let two = both (may b) (list_all may w) h in ap₂ (λ (x : ℕ) (y : List ℕ). x ∷ y) (comes b two.0).back (line_comes w two.1)

  line_whole : (w : List ℕ) → list_all may w ≡ true → Unbroken w → Unbroken (map forth w)
  line_whole [] h none = refl
  line_whole (b ∷ w) h none =
      let two = both (may b) (list_all may w) h in
      let parts = neither (is_newline b) (list_any is_newline w) none in rw ((comes b two.0).newline parts.0) (line_whole w two.1 parts.1)

  -- each line has bytes of the input
  abbrev EachMay : List (List ℕ) → Type 0
  EachMay [] = Unit {0}
  EachMay (line ∷ rest) = (list_all may line ≡ true) × EachMay rest

  lines_may : (bytes : List ℕ) → list_all may bytes ≡ true → EachMay (split_lines bytes)
  lines_may [] h = subst EachMay (sym lines_nil) tt
  lines_may (b ∷ bs) h = by_test (lines_may bs) (is_newline b) refl
    where
      two : (may b ≡ true) × (list_all may bs ≡ true)
      two = both (may b) (list_all may bs) h

      onto : (ls : List (List ℕ)) → EachMay ls → EachMay (onto_first b ls)
      onto [] each = (rw two.0 refl, tt)
      onto (line ∷ rest) each = (rw two.0 each.0, each.1)

      by_test : (list_all may bs ≡ true → EachMay (split_lines bs)) → (t : Bool) → is_newline b ≡ t → EachMay (split_lines (b ∷ bs))
      by_test on true is = subst EachMay (sym (lines_yes b bs is)) (refl, on two.1)
      by_test on false is = subst EachMay (sym (lines_no b bs is)) (onto (split_lines bs) (on two.1))

  lines_come : (ls : List (List ℕ)) → EachMay ls → map (by_table s2 s1) (map (by_table s1 s2) ls) ≡ ls
  lines_come [] each = refl
  lines_come (line ∷ rest) each = ap₂ (λ (x : List ℕ) (y : List (List ℕ)). x ∷ y) (line_comes line each.0) (lines_come rest each.1)

  lines_whole : (ls : List (List ℕ)) → EachMay ls → NoneBroken ls → NoneBroken (map (by_table s1 s2) ls)
  lines_whole [] each none = tt
  lines_whole (line ∷ rest) each none = (line_whole line each.0 none.0, lines_whole rest each.1 none.1)

  middle_back : map (by_table s2 s1) (split_lines (text_of (map (by_table s1 s2) (split_lines input)))) ≡ split_lines input
  middle_back =
      let each = lines_may input way.back in
      ap (map (by_table s2 s1)) (lines_again (map (by_table s1 s2) (split_lines input)) (lines_whole (split_lines input) each (lines_none_broken input))) ∙ lines_come (split_lines input) each

pub back_again_law : OneMeaning → (s1 s2 input : List ℕ) → HasWayBack s1 s2 input → EditsIntoLines false (y_of s2 s1) (text_of (map (by_table s1 s2) (split_lines input))) (split_lines input)
back_again_law one s1 s2 input way =
    subst (λ ls. EditsIntoLines false (y_of s2 s1) (text_of (map (by_table s1 s2) (split_lines input))) ls) (middle_back s1 s2 input way)
    (bytes_law one s2 s1 (text_of (map (by_table s1 s2) (split_lines input))) way.second_once (sym way.long))
