-- What the expression `\n` finds: the next newline.
use Rattle.std.proofs.Common.{◌≡◌, ℕ, zero, suc, ◌+◌, ◌-◌, ◌<◌, List, [], ◌∷◌, ◌++◌, length, length-append, Bool, false, true, ◌||◌, None, Some, refl, sym, ap, subst, ◌∙◌, zero-add, arith}
use Rattle.std.specs.Prelude.{slice_get, ◌==◌}
use Rattle.std.specs.List.{list_any}
use Rattle.std.proofs.Math.Nat.{suc-add}
use Rattle.sedre.specs.Tree.{Tree, byte_of}
use Rattle.sedre.specs.Sets.{only, has}
use Rattle.sedre.specs.WordLaws.{has-set_of}
use Rattle.sedre.proofs.ByteLemmas.{only_true}
use Rattle.sedspace.specs.Lines.{is_newline}
use Rattle.sedmatch.specs.Spans.{Matches}
use Rattle.sedmatch.specs.Matching.{leftmost_longest}
use Rattle.sedmatch.proofs.MatchingLemmas.{found-iff, not_found-iff}

abbrev pub newline_alone : Tree
newline_alone = byte_of (only 10)

has_ten : has (only 10) 10 ≡ true
has_ten = has-set_of (λ c. c == 10) 10 (omega arith)

spans_it : (w : List ℕ) (i : ℕ) → slice_get w i ≡ Some 10 → Matches newline_alone w i (i + 1)
spans_it w i e = (10, e, has_ten, refl)

is_it : (w : List ℕ) (i j : ℕ) → Matches newline_alone w i j → (slice_get w i ≡ Some 10) × (j ≡ i + 1)
is_it w i j h = (h.1 ∙ ap (λ b. Some b) (only_true 10 (only 10) refl h.0 h.2), h.3)

none_there : (left : List ℕ) (k : ℕ) → list_any is_newline left ≡ false → slice_get left k ≡ Some 10 → ⊥
none_there [] zero e h = absurd cc
none_there [] (suc k) e h = absurd cc
none_there (b ∷ bs) zero e h = let ten : b ≡ 10 = cc in not_first b bs ten e
  where
    not_first : (b : ℕ) (bs : List ℕ) → b ≡ 10 → list_any is_newline (b ∷ bs) ≡ false → ⊥
    not_first b bs ten e = (let t : (true || list_any is_newline bs) ≡ false = subst (λ b. list_any is_newline (b ∷ bs) ≡ false) ten e in absurd cc)
none_there (b ∷ bs) (suc k) e h = none_there bs k (rest (is_newline b) e) h
  where
    rest : (t : Bool) → (t || list_any is_newline bs) ≡ false → list_any is_newline bs ≡ false
    rest true e = absurd cc
    rest false e = e

behind_it : (passed left : List ℕ) (k : ℕ) → slice_get (passed ++ left) (length passed + k) ≡ slice_get left k
behind_it [] left k = ap (slice_get left) (zero-add k)
behind_it (b ∷ passed) left k = ap (slice_get (b ∷ (passed ++ left))) (suc-add (length passed) k) ∙ behind_it passed left k

-- none in the bytes from here on
pub none_found : (passed left : List ℕ) → list_any is_newline left ≡ false → leftmost_longest newline_alone (passed ++ left) (length passed) ≡ None
none_found passed left e =
    (not_found-iff newline_alone (passed ++ left) (length passed) (omega (arith, length-append passed left))).1
    (λ i k from within s.
    let at : i ≡ length passed + (i - length passed) = omega arith in
    let ten = (is_it (passed ++ left) i k s).0 in
    none_there left (i - length passed) e (sym (behind_it passed left (i - length passed)) ∙ ap (slice_get (passed ++ left)) (sym at) ∙ ten))

first_there : (before behind : List ℕ) → slice_get (before ++ 10 ∷ behind) (length before) ≡ Some 10
first_there [] behind = refl
first_there (b ∷ before) behind = first_there before behind

none_before : (before behind : List ℕ) (k : ℕ) → list_any is_newline before ≡ false → k < length before → slice_get (before ++ 10 ∷ behind) k ≡ Some 10 → ⊥
none_before before behind k e less h = none_there before k e (sym (front before behind k less) ∙ h)
  where
    front : (before behind : List ℕ) (k : ℕ) → k < length before → slice_get (before ++ 10 ∷ behind) k ≡ slice_get before k
    front [] behind k less = absurd (omega arith)
    front (b ∷ before) behind zero less = refl
    front (b ∷ before) behind (suc k) less = front before behind k (omega arith)

-- or the first of them
pub next_found : (passed before behind : List ℕ) → list_any is_newline before ≡ false →
    leftmost_longest newline_alone (passed ++ (before ++ 10 ∷ behind)) (length passed) ≡ Some (length passed + length before, length passed + length before + 1)
next_found passed before behind e =
    let w : List ℕ = passed ++ (before ++ 10 ∷ behind) in
    let i : ℕ = length passed + length before in
    (found-iff newline_alone w (length passed) i (i + 1) (omega (arith, length-append passed (before ++ 10 ∷ behind)))).1 (record {
      after = omega arith;
      spans = spans_it w i (behind_it passed (before ++ 10 ∷ behind) (length before) ∙ first_there before behind);
      longest = λ k s. let same = (is_it w i k s).1 in omega (arith, same);
      leftmost = λ h k from less s.
          let at : h ≡ length passed + (h - length passed) = omega arith in
          let ten = (is_it w h k s).0 in
          none_before before behind (h - length passed) e (omega arith)
          (sym (behind_it passed (before ++ 10 ∷ behind) (h - length passed)) ∙ ap (slice_get w) (sym at) ∙ ten);
    })
