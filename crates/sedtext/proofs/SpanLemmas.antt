-- Spans go forward, and copies can be cut and joined at their end.
use Rattle.sedtext.proofs.Words.{◌<◌, ◌≡◌, ◌≤◌, ◌⊎◌, any_copies, arith, byte_of, CopiesLead, either_of, grouped, inl, length, List, Matches, no_copy, one_more, one_or_none, refl, sequence, slice_get_within, Tree, ℕ, ⊎_elim}

pub CopiesLead-forward : (R : ℕ → ℕ → Type 0) (j i : ℕ) → CopiesLead R j i → i ≤ j
CopiesLead-forward R j i no_copy = omega arith
CopiesLead-forward R j i (one_more _ k lt r rest) = omega (arith, CopiesLead-forward R j k rest)

pub Matches-forward : (e : Tree) (w : List ℕ) (i j : ℕ) → Matches e w i j → i ≤ j
Matches-forward (sequence a b) w i j s = omega (arith, Matches-forward a w i s.0 s.1, Matches-forward b w s.0 j s.2)
Matches-forward (either_of a b) w i j s = ⊎_elim (Matches-forward a w i j) (Matches-forward b w i j) s
Matches-forward (grouped k a) w i j s = Matches-forward a w i j s
Matches-forward (any_copies a first) w i j s = CopiesLead-forward (Matches a w) j i s
Matches-forward (one_or_none a first) w i j s = ⊎_elim (λ (e : i ≡ j). omega arith) (Matches-forward a w i j) s
Matches-forward _ w i j s = omega arith

CopiesLead-within : (R : ℕ → ℕ → Type 0) (n : ℕ) → ((i j : ℕ) → i ≤ n → R i j → j ≤ n) → (j i : ℕ) → i ≤ n → CopiesLead R j i → j ≤ n
CopiesLead-within R n each j i fits no_copy = fits
CopiesLead-within R n each j i fits (one_more _ k lt r rest) = CopiesLead-within R n each j k (each i k fits r) rest

pub Matches-within : (e : Tree) (w : List ℕ) (i j : ℕ) → i ≤ length w → Matches e w i j → j ≤ length w
Matches-within (byte_of has) w i j fits s = omega (arith, slice_get_within w i s.0 s.1)
Matches-within (sequence a b) w i j fits s = Matches-within b w s.0 j (Matches-within a w i s.0 fits s.1) s.2
Matches-within (either_of a b) w i j fits s = ⊎_elim (Matches-within a w i j fits) (Matches-within b w i j fits) s
Matches-within (grouped k a) w i j fits s = Matches-within a w i j fits s
Matches-within (any_copies a first) w i j fits s = CopiesLead-within (Matches a w) (length w) (Matches-within a w) j i fits s
Matches-within (one_or_none a first) w i j fits s = ⊎_elim (λ (e : i ≡ j). omega arith) (Matches-within a w i j fits) s
Matches-within _ w i j fits s = omega arith

-- one more copy at the end
pub CopiesLead-append : (R : ℕ → ℕ → Type 0) (k i j : ℕ) → CopiesLead R k i → k < j → R k j → CopiesLead R j i
CopiesLead-append R k i j no_copy lt r = one_more k j lt r no_copy
CopiesLead-append R k i j (one_more _ l step first rest) lt r = one_more i l step first (CopiesLead-append R k l j rest lt r)

-- without a copy nothing is spanned, else there is a last one
pub CopiesLead-last : (R : ℕ → ℕ → Type 0) (j i : ℕ) → CopiesLead R j i → (i ≡ j) ⊎ ((k : ℕ) × CopiesLead R k i × (k < j) × R k j)
CopiesLead-last R j i no_copy = inl refl
CopiesLead-last R j i (one_more _ k lt r rest) = grind (arith, one_more, no_copy, CopiesLead-last R j k rest)
