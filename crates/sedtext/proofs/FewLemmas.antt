-- Bytes of a set that are sought in what is left of a text.
use Rattle.sedtext.proofs.Words.{◌+◌, ◌-◌, ◌<◌, ◌||◌, ◌↔◌, ◌≡◌, ◌≤◌, AreMembers, arith, Bool, common_steps, drop, Few, FirstFrom, FirstFrom, OccursAt, get_or-drop}
use Rattle.sedtext.proofs.Words.{get_or_from_slice_get, get_or_past, has, HasFew, IfSome, is_byte, IsFirst, IsFirstByte, IsIn, length, length-drop, length-set_of, List, MemberAt}
use Rattle.sedtext.proofs.Words.{nat_tests, None, OccursAt, Option, option_map, Passes, slice_get, slice_get-get_or, slice_get_within, slice_index, Some, take, take_rest, union, ℕ}

-- the first place of what is left of a text, as one of the text
first_behind : (P Q : ℕ → Type 0) (p n : ℕ) → ((k : ℕ) → P (p + k) ↔ ((k < n) × Q k)) → (r : Option ℕ) → IsFirst Q 0 n r → FirstFrom P p (option_map (λ k. p + k) r)
first_behind P Q p n is None none = λ k low at. grind (arith, none (k - p), is (k - p))
first_behind P Q p n is (Some k) (first, here) = (omega arith, (is k).1 (first.high, here), λ h low lt at. grind (arith, first.before (h - p), is (h - p)))

module _ (w v : List ℕ) (p : ℕ) (same : v ≡ w) (from : p ≤ length w) where
  abbrev pub rest : List ℕ
  rest = take (length v - p) (drop p v)

  length-rest : length rest ≡ length w - p
  length-rest = rw (same, take_rest w p) (length-drop p w)

  rest_at : (k : ℕ) → slice_index rest k ≡ slice_index w (p + k)
  rest_at k = rw (same, take_rest w p) (get_or-drop p w k 0)

  pub byte_behind : (byte : ℕ) (r : Option ℕ) → IsFirstByte (is_byte byte) rest r → FirstFrom (λ k. slice_get w k ≡ Some byte) p (option_map (λ k. p + k) r)
  byte_behind byte r = first_behind _ (Passes (is_byte byte) rest) p (length rest) (λ k. grind (arith, length-rest, slice_get-get_or, slice_get_within, get_or_from_slice_get, rest_at, nat_tests)) r

  pub member_behind : (set : List Bool) (r : Option ℕ) → IsFirstByte (has set) rest r → FirstFrom (MemberAt set w) p (option_map (λ k. p + k) r)
  member_behind set r = first_behind (MemberAt set w) (Passes (has set) rest) p (length rest) (λ k. grind (arith, length-rest, slice_get_within, get_or_from_slice_get, slice_get-get_or, rest_at)) r

  pub literal_behind : (literal : List ℕ) (r : Option ℕ) → IsFirst (OccursAt rest literal) 0 (length rest + 1) r → FirstFrom (OccursAt w literal) p (option_map (λ k. p + k) r)
  literal_behind literal r = first_behind (OccursAt w literal) (OccursAt rest literal) p (length rest + 1) (λ k. grind (arith, common_steps, length-rest, rest_at)) r

-- the members of a set among the first bytes are those gathered
abbrev pub AllGathered : List Bool → ℕ → Option Few → Type 0
AllGathered set n few = (c : ℕ) → HasFew few c ↔ ((c < n) × IsIn c set)

-- all of them, where the first bytes are all bytes
pub all_gathered : (set both : List Bool) (n : ℕ) (few : Option Few) → both ≡ union set set → ((c : ℕ) → has both c ≡ (has set c || has set c)) → 256 ≤ n → AllGathered set n few →
    IfSome few (AreMembers set)
all_gathered set both n few is members all are = grind (arith, get_or_past, length-set_of)
