-- Examples of the match that is sought (XBD 9.1): the span or that there is none, derived from the definition.
use Rattle.std.proofs.Common.{◌≡◌, ◌≤◌, ℕ, zero, suc, [], ◌∷◌, false, true, Some, inl, inr, refl, subst, arith}
use Rattle.std.specs.Prelude.{codes, slice_get}
use Rattle.sedre.specs.Sets.{set_of, only, any_but_zero}
use Rattle.sedre.specs.Tree.{byte_of, text_begin, text_end, sequence, either_of, any_copies}
use Rattle.sedmatch.specs.Spans.{Matches, IsIn, CopiesLead, IsLeftmostLongest, NotFound, no_copy, one_more}

-- Of a and ab the longer one is the match.
longest_alternative : IsLeftmostLongest (either_of (byte_of (only 97)) (sequence (byte_of (only 97)) (byte_of (only 98)))) (codes "ab") 0 0 2
unfolding set_of
longest_alternative = record {
  after = omega arith;
  spans = inr (1, (97, refl, refl, refl), (98, refl, refl, refl));
  longest = λ k s. elim s [ inl one ↦ omega (arith, one.3) | inr two ↦ omega (arith, two.1.3, two.2.3) ];
  leftmost = λ h k from before s. absurd (omega (arith, before));
}

-- The anchor $ holds at the end alone.
dollar_at_the_end : IsLeftmostLongest (sequence (byte_of (only 98)) text_end) (codes "ab") 0 1 2
unfolding set_of
dollar_at_the_end = record {
  after = omega arith;
  spans = (2, (98, refl, refl, refl), (refl, refl));
  longest = λ k s. (let e : k ≡ 2 = s.2.1 in omega (arith, e));
  leftmost = λ h k from before s. (let e : s.0 ≡ 2 = s.2.0 in absurd (omega (arith, before, e, s.1.3)));
}

-- Both anchors hold in an empty text.
anchors_of_the_empty_text : IsLeftmostLongest (sequence text_end text_begin) [] 0 0 0
anchors_of_the_empty_text = record {
  after = omega arith;
  spans = (0, (refl, refl), (refl, refl));
  longest = λ k s. omega (arith, s.2.1);
  leftmost = λ h k from before s. absurd (omega (arith, before));
}

-- The anchor ^ holds at the beginning alone.
caret_later : NotFound (sequence text_begin (byte_of (only 97))) (codes "aaa") 1
caret_later = λ i k from within s. omega (arith, from, s.1.0)

caret_within : NotFound (sequence (byte_of (only 97)) (sequence text_begin (byte_of (only 98)))) (codes "ab") 0
caret_within = λ i k from within s. omega (arith, s.1.3, s.2.1.0)

-- No copy of an x lies within abc.
only_empty : (k : ℕ) → CopiesLead (Matches (byte_of (only 120)) (codes "abc")) k 1 → k ≤ 1
unfolding set_of
only_empty _ no_copy = omega arith
only_empty k (one_more i m less copy rest) =
    let byte_is : copy.0 ≡ 98 = cc in
    let within : false ≡ true = subst (λ (n : ℕ). IsIn n (only 120)) byte_is copy.2 in
    absurd cc

no_copies : IsLeftmostLongest (any_copies (byte_of (only 120)) true) (codes "abc") 1 1 1
no_copies = record {
  after = omega arith;
  spans = no_copy;
  longest = only_empty;
  leftmost = λ h k from before s. absurd (omega (arith, from, before));
}

-- A . doesn't match the byte 0.
only_nul : (i byte : ℕ) → i ≤ 1 → slice_get (0 ∷ []) i ≡ Some byte → byte ≡ 0
only_nul zero byte within e = cc
only_nul (suc zero) byte within e = absurd cc
only_nul (suc (suc i)) byte within e = absurd (omega (arith, within))

nul_and_any_byte : NotFound (byte_of any_but_zero) (0 ∷ []) 0
unfolding set_of
nul_and_any_byte = λ i k from within s.
    let member : false ≡ true = subst (λ (n : ℕ). IsIn n any_but_zero) (only_nul i s.0 within s.1) s.2 in absurd cc
