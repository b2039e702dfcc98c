-- Examples of groups in groups: however many there are round an a, the match is the a, and so are the first nine of them.
use Rattle.std.proofs.Common.{◌≡◌, ℕ, zero, suc, ◌≤◌, List, ◌∷◌, ◌++◌, false, None, Option, Some, refl, sym, ◌∙◌, ap, subst, arith}
use Rattle.std.specs.Prelude.{codes, replicate, slice_set}
use Rattle.std.proofs.lemmas.Option.{slice_get_within}
use Rattle.sedre.specs.declared.types.Kind.TheVariants.{Extended}
use Rattle.sedre.specs.Tree.{Tree, byte_of, grouped}
use Rattle.sedre.specs.Sets.{set_of, only}
use Rattle.sedre.specs.Tokens.{token_at}
use Rattle.sedre.specs.Grammar.{ReadsAs}
use Rattle.examples.proofs.ComputedReading.{outcome, rest_of, reads_as}
use Rattle.examples.proofs.ExampleWords.{times}
use Rattle.sedmatch.specs.Spans.{Matches, IsLeftmostLongest}
use Rattle.sedmatch.specs.Caps.{Captures, IsReport}
use Rattle.sedmatch.specs.Groups.{SpansOfGroups, forget, no_groups}
use Rattle.examples.proofs.ComputedSearch.{Finds, spans_are}

abbrev text : List ℕ
text = codes "a"

-- an a in so many groups, numbered from k on
abbrev in_groups : (k n : ℕ) → Tree
in_groups k zero = byte_of (only 97)
in_groups k (suc n) = grouped k (in_groups (suc k) n)

-- The match is the a.

spans_it : (n k : ℕ) → Matches (in_groups k n) text 0 1
unfolding set_of
spans_it zero k = (97, refl, refl, refl)
spans_it (suc n) k = spans_it n (suc k)

ends_after_it : (n k i j : ℕ) → Matches (in_groups k n) text i j → j ≤ 1
ends_after_it zero k i j s =
    let below = slice_get_within text i s.0 s.1 in
    omega (arith, below, s.3)
ends_after_it (suc n) k i j s = ends_after_it n (suc k) i j s

found_first : (n k : ℕ) → IsLeftmostLongest (in_groups k n) text 0 0 1
found_first n k = record {
  after = omega arith;
  spans = spans_it n k;
  longest = λ j s. ends_after_it n k 0 j s;
  leftmost = λ h j from before s. absurd (omega (arith, before));
}

-- Each group has it; a group after the ninth isn't kept.

abbrev none : ℕ → SpansOfGroups
none m = replicate m None

forgets_none : (m k : ℕ) → slice_set (none m) k None ≡ none m
forgets_none zero k = refl
forgets_none (suc m) zero = refl
forgets_none (suc m) (suc k) = ap (λ (rest : SpansOfGroups). None ∷ rest) (forgets_none m k)

keeps_none_past : (m k : ℕ) (span : Option (ℕ × ℕ)) → m ≤ k → slice_set (none m) k span ≡ none m
keeps_none_past zero k span past = refl
keeps_none_past (suc m) zero span past = absurd (omega arith)
keeps_none_past (suc m) (suc k) span past = ap (λ (rest : SpansOfGroups). None ∷ rest) (keeps_none_past m k span (omega arith))

forgets_all : (n k : ℕ) → forget (in_groups k n) no_groups ≡ no_groups
forgets_all zero k = refl
forgets_all (suc n) k = ap (λ (old : SpansOfGroups). forget (in_groups (suc k) n) old) (forgets_none 10 k) ∙ forgets_all n (suc k)

-- the spans of so many groups from k on
abbrev spans_from : (k n : ℕ) → SpansOfGroups
spans_from k zero = no_groups
spans_from k (suc n) = slice_set (spans_from (suc k) n) k (Some (0, 1))

each_group : (n k : ℕ) → Captures (in_groups k n) text 0 1 no_groups (spans_from k n)
each_group zero k = refl
each_group (suc n) k = (
  spans_from (suc k) n,
  subst (λ (old : SpansOfGroups). Captures (in_groups (suc k) n) text 0 1 old (spans_from (suc k) n)) (sym (forgets_all (suc n) k)) (each_group n (suc k)),
  refl,
)

none_past_nine : (n k : ℕ) → 10 ≤ k → spans_from k n ≡ no_groups
none_past_nine zero k past = refl
none_past_nine (suc n) k past =
    rw (none_past_nine n (suc k) (omega (arith, past))) (keeps_none_past 10 k (Some (0, 1)) past)

-- of nine groups and n more
first_nine : (n : ℕ) → spans_from 1 (suc (suc (suc (suc (suc (suc (suc (suc (suc n))))))))) ≡ None ∷ replicate 9 (Some (0, 1))
first_nine n = rw (none_past_nine n 10 (omega arith)) refl

reports_nine : (n : ℕ) → IsReport (in_groups 1 (suc (suc (suc (suc (suc (suc (suc (suc (suc n)))))))))) text 0 1 (spans_are (0, 1) (replicate 9 (Some (0, 1))))
reports_nine n =
    let many = suc (suc (suc (suc (suc (suc (suc (suc (suc n)))))))) in
    (spans_from 1 many, each_group many 1, ap (λ (groups : SpansOfGroups). slice_set groups 0 (Some (0, 1))) (sym (first_nine n)))

-- 600 of them, the greatest depth.

six_hundred_read : ReadsAs Extended false None (times 600 (codes "(") ++ codes "a" ++ times 600 (codes ")")) (in_groups 1 600) 600
unfolding outcome rest_of token_at
six_hundred_read = reads_as refl

six_hundred_groups : Finds Extended (times 600 (codes "(") ++ codes "a" ++ times 600 (codes ")")) (codes "a") 0 (0, 1) (replicate 9 (Some (0, 1)))
six_hundred_groups = record {
  tree = in_groups 1 600;
  count = 600;
  reads_so = six_hundred_read;
  is_found = found_first 600 1;
  reports = reports_nine 591;
}
