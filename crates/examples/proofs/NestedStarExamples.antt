-- Examples of stars in stars: (a*)*b and ((a*)*)*b on as many a as one likes find nothing, and with a b after them they
-- take all.
use Rattle.std.proofs.Common.{◌≡◌, ℕ, zero, suc, ◌+◌, ◌-◌, ◌<◌, ◌≤◌, List, [], ◌∷◌, ◌++◌, length, false, true, Some, None, inl, refl, sym, ◌∙◌, subst, arith}
use Rattle.std.specs.Prelude.{codes, replicate, slice_get, slice_set}
use Rattle.std.proofs.lemmas.Option.{slice_get_within, get_or_from_slice_get}
use Rattle.std.proofs.lemmas.List.{length-replicate, get_or-replicate}
use Rattle.sedre.specs.declared.types.Kind.TheVariants.{Extended}
use Rattle.sedre.specs.Tree.{Tree, byte_of, sequence, grouped, any_copies}
use Rattle.sedre.specs.Sets.{set_of, only}
use Rattle.sedre.specs.Tokens.{token_at}
use Rattle.sedre.specs.Grammar.{ReadsAs}
use Rattle.examples.proofs.ComputedReading.{outcome, rest_of, reads_as}
use Rattle.sedmatch.specs.Spans.{Matches, IsIn, CopiesLead, no_copy, one_more, IsLeftmostLongest}
use Rattle.sedmatch.specs.Caps.{LastCopy, only as only_copy, then_copy, IsReport}
use Rattle.sedmatch.specs.Groups.{no_groups}
use Rattle.examples.proofs.ComputedSearch.{Finds, FindsNothing, spans_are}

abbrev a : Tree
a = byte_of (only 97)

abbrev b : Tree
b = byte_of (only 98)

-- (a*)*b
abbrev nested : Tree
nested = sequence (any_copies (grouped 1 (any_copies a true)) true) b

nested_reads : ReadsAs Extended false None (codes "(a*)*b") nested 1
unfolding outcome rest_of token_at
nested_reads = reads_as refl

-- Nothing is found where there is no b.

all_alike : (n x i byte : ℕ) → slice_get (replicate n x) i ≡ Some byte → byte ≡ x
all_alike n x i byte e =
    let within : i < n = subst (λ v. i < v) (length-replicate n x) (slice_get_within (replicate n x) i byte e) in
    sym (get_or_from_slice_get (replicate n x) i byte 0 e) ∙ get_or-replicate n i x 0 within

pub no_b : (n i j : ℕ) → Matches b (replicate n 97) i j → ⊥
unfolding set_of
no_b n i j s =
    let within : false ≡ true = subst (λ v. IsIn v (only 98)) (all_alike n 97 i s.0 s.1) s.2 in
    absurd cc

nothing_in_many : (n p : ℕ) → FindsNothing Extended (codes "(a*)*b") (replicate n 97) p
nothing_in_many n p = record {
  tree = nested;
  count = 1;
  reads_so = nested_reads;
  is_not_found = λ i k from within s. no_b n s.0 k s.2;
}

-- Copies of an a at places that have one.

copy_of_a : (w : List ℕ) (i j : ℕ) → i + 1 ≡ j → slice_get w i ≡ Some 97 → Matches a w i j
unfolding set_of
copy_of_a w i j e there = (97, there, refl, sym e)

copies_of_a : (w : List ℕ) (n i j : ℕ) → i + n ≡ j → ((k : ℕ) → k < j → slice_get w k ≡ Some 97) → CopiesLead (Matches a w) j i
copies_of_a w zero i j e each = subst (λ v. CopiesLead (Matches a w) v i) (omega (arith, e)) no_copy
copies_of_a w (suc n) i j e each =
    one_more i (i + 1) (omega arith) (copy_of_a w i (i + 1) refl (each i (omega arith))) (copies_of_a w n (i + 1) j (omega arith) each)

last_a : (w : List ℕ) (n i j : ℕ) → i + suc n ≡ j → ((k : ℕ) → k < j → slice_get w k ≡ Some 97) → (c : ℕ) × LastCopy (Matches a w) j i c
last_a w zero i j e each = (i, only_copy i (omega arith) (copy_of_a w i j (omega arith) (each i (omega arith))))
last_a w (suc n) i j e each =
    let later = last_a w n (i + 1) j (omega arith) each in (
      later.0,
      then_copy i (i + 1) later.0 (omega arith) (omega arith) (copy_of_a w i (i + 1) refl (each i (omega arith)))
          (copies_of_a w (suc n) (i + 1) j (omega arith) each) (λ l up s on. omega (arith, s.3)) later.1,
    )

-- A text of a with a b at its end.

abbrev with_b : ℕ → List ℕ
with_b n = replicate n 97 ++ 98 ∷ []

each_a : (n k : ℕ) → k < n → slice_get (with_b n) k ≡ Some 97
each_a zero k lt = absurd (omega arith)
each_a (suc n) zero lt = refl
each_a (suc n) (suc k) lt = each_a n k (omega arith)

b_at_the_end : (n : ℕ) → slice_get (with_b n) n ≡ Some 98
b_at_the_end zero = refl
b_at_the_end (suc n) = b_at_the_end n

with_b-length : (n : ℕ) → length (with_b n) ≡ n + 1
with_b-length zero = refl
with_b-length (suc n) = omega (arith, with_b-length n)

ends_within : (n i j : ℕ) → Matches b (with_b n) i j → j ≤ n + 1
ends_within n i j s =
    let within = slice_get_within (with_b n) i s.0 s.1 in
    omega (arith, within, s.3, with_b-length n)

b_spans : (n : ℕ) → Matches b (with_b n) n (n + 1)
unfolding set_of
b_spans n = (98, b_at_the_end n, refl, refl)

many_found : (n : ℕ) → 0 < n → IsLeftmostLongest nested (with_b n) 0 0 (n + 1)
many_found n some = record {
  after = omega arith;
  spans = (n, one_more 0 n some (copies_of_a (with_b n) n 0 n (omega arith) (each_a n)) no_copy, b_spans n);
  longest = λ k s. ends_within n s.0 k s.2;
  leftmost = λ h k from before s. absurd (omega (arith, before));
}

-- where b matches at the end alone, the a before it are all that is left for the group
up_to_b : (n : ℕ) → 0 < n → IsReport nested (with_b n) 0 (n + 1) (spans_are (0, n + 1) (Some (0, n) ∷ []))
up_to_b n some =
    let w = with_b n in
    let copies : CopiesLead (Matches a w) n 0 = copies_of_a w n 0 n (omega arith) (each_a n) in
    let last = last_a w (n - 1) 0 n (omega arith) (each_a n) in (
      slice_set no_groups 1 (Some (0, n)),
      (
        n,
        record {
          left = one_more 0 n some copies no_copy;
          right = b_spans n;
          greatest = λ l s t. omega (arith, t.3);
        },
        (
          slice_set no_groups 1 (Some (0, n)),
          inl (some, (0, only_copy 0 some copies, (no_groups, inl (some, (last.0, last.1, refl)), refl))),
          refl,
        ),
      ),
      refl,
    )

all_of_many : (n : ℕ) → 0 < n → Finds Extended (codes "(a*)*b") (with_b n) 0 (0, n + 1) (Some (0, n) ∷ [])
all_of_many n some = record {
  tree = nested;
  count = 1;
  reads_so = nested_reads;
  is_found = many_found n some;
  reports = up_to_b n some;
}

-- A b alone is found after them, however many they are.

b_reads : ReadsAs Extended false None (codes "b") b 0
unfolding outcome rest_of token_at
b_reads = reads_as refl

not_before : (n h k : ℕ) → h < n → Matches b (with_b n) h k → ⊥
unfolding set_of
not_before n h k before s =
    let there : s.0 ≡ 97 = sym (get_or_from_slice_get (with_b n) h s.0 0 s.1) ∙ get_or_from_slice_get (with_b n) h 97 0 (each_a n h before) in
    let within : false ≡ true = subst (λ v. IsIn v (only 98)) there s.2 in
    absurd cc

b_after_many : (n : ℕ) → Finds Extended (codes "b") (with_b n) 0 (n, n + 1) []
b_after_many n = record {
  tree = b;
  count = 0;
  reads_so = b_reads;
  is_found = record {
    after = omega arith;
    spans = b_spans n;
    longest = λ k s. ends_within n n k s;
    leftmost = λ h k from before s. not_before n h k before s;
  };
  reports = (no_groups, refl, refl);
}

-- A star more: ((a*)*)*b

abbrev pub twice_nested : Tree
twice_nested = sequence (any_copies (grouped 1 (any_copies (grouped 2 (any_copies a true)) true)) true) b

twice_nested_reads : ReadsAs Extended false None (codes "((a*)*)*b") twice_nested 2
unfolding outcome rest_of token_at
twice_nested_reads = reads_as refl

nothing_twice_nested : (n p : ℕ) → FindsNothing Extended (codes "((a*)*)*b") (replicate n 97) p
nothing_twice_nested n p = record {
  tree = twice_nested;
  count = 2;
  reads_so = twice_nested_reads;
  is_not_found = λ i k from within s. no_b n s.0 k s.2;
}

-- the a are one copy of the inner star
one_copy_of_a : (n : ℕ) → 0 < n → CopiesLead (Matches (grouped 2 (any_copies a true)) (with_b n)) n 0
one_copy_of_a n some = one_more 0 n some (copies_of_a (with_b n) n 0 n (omega arith) (each_a n)) no_copy

found_twice_nested : (n : ℕ) → 0 < n → IsLeftmostLongest twice_nested (with_b n) 0 0 (n + 1)
found_twice_nested n some = record {
  after = omega arith;
  spans = (n, one_more 0 n some (one_copy_of_a n some) no_copy, b_spans n);
  longest = λ k s. ends_within n s.0 k s.2;
  leftmost = λ h k from before s. absurd (omega (arith, before));
}

up_to_b_twice_nested : (n : ℕ) → 0 < n → IsReport twice_nested (with_b n) 0 (n + 1) (spans_are (0, n + 1) (Some (0, n) ∷ Some (0, n) ∷ []))
up_to_b_twice_nested n some =
    let w = with_b n in
    let copies : CopiesLead (Matches a w) n 0 = copies_of_a w n 0 n (omega arith) (each_a n) in
    let last = last_a w (n - 1) 0 n (omega arith) (each_a n) in
    let inner = slice_set no_groups 2 (Some (0, n)) in
    let outer = slice_set inner 1 (Some (0, n)) in (
      outer,
      (
        n,
        record {
          left = one_more 0 n some (one_copy_of_a n some) no_copy;
          right = b_spans n;
          greatest = λ l s t. omega (arith, t.3);
        },
        (
          outer,
          inl (
            some,
            (
              0,
              only_copy 0 some (one_copy_of_a n some),
              (
                inner,
                inl (some, (0, only_copy 0 some copies, (no_groups, inl (some, (last.0, last.1, refl)), refl))),
                refl,
              ),
            ),
          ),
          refl,
        ),
      ),
      refl,
    )

all_of_many_twice_nested : (n : ℕ) → 0 < n → Finds Extended (codes "((a*)*)*b") (with_b n) 0 (0, n + 1) (Some (0, n) ∷ Some (0, n) ∷ [])
all_of_many_twice_nested n some = record {
  tree = twice_nested;
  count = 2;
  reads_so = twice_nested_reads;
  is_found = found_twice_nested n some;
  reports = up_to_b_twice_nested n some;
}

-- Thirty of them, forty and a thousand.

nothing_in_thirty : FindsNothing Extended (codes "((a*)*)*b") (replicate 30 97) 0
nothing_in_thirty = nothing_twice_nested 30 0

all_of_thirty : Finds Extended (codes "((a*)*)*b") (replicate 30 97 ++ 98 ∷ []) 0 (0, 31) (Some (0, 30) ∷ Some (0, 30) ∷ [])
all_of_thirty = all_of_many_twice_nested 30 (omega arith)

nothing_in_forty : FindsNothing Extended (codes "(a*)*b") (replicate 40 97) 0
nothing_in_forty = nothing_in_many 40 0

all_of_forty : Finds Extended (codes "(a*)*b") (replicate 40 97 ++ 98 ∷ []) 0 (0, 41) (Some (0, 40) ∷ [])
all_of_forty = all_of_many 40 (omega arith)

b_after_a_thousand : Finds Extended (codes "b") (replicate 1000 97 ++ 98 ∷ []) 0 (1000, 1001) []
b_after_a_thousand = b_after_many 1000
