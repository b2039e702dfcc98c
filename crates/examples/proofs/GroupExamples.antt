-- Examples of the groups that a match reports, derived from the definition.
use Rattle.std.proofs.Common.{◌≡◌, ◌≤◌, ℕ, [], ◌∷◌, false, true, Some, None, inl, inr, refl, subst, arith}
use Rattle.std.specs.Prelude.{codes, slice_set}
use Rattle.sedre.specs.Sets.{set_of, only}
use Rattle.sedre.specs.Tree.{Tree, byte_of, either_of, grouped, any_copies}
use Rattle.sedmatch.specs.Spans.{Matches, IsIn, no_copy, one_more}
use Rattle.sedmatch.specs.Caps.{LastCopy, only as only_copy, then_copy, IsReport}
use Rattle.sedmatch.specs.Groups.{no_groups}

-- a group of an a in a group, or a b
abbrev either : Tree
either = grouped 1 (either_of (grouped 2 (byte_of (only 97))) (byte_of (only 98)))

one_byte : (l : ℕ) → Matches either (codes "ab") 0 l → l ≤ 1
one_byte l (inl first) = omega (arith, first.3)
one_byte l (inr second) = omega (arith, second.3)

no_second_a : Matches (grouped 2 (byte_of (only 97))) (codes "ab") 1 2 → ⊥
unfolding set_of
no_second_a s =
    let byte_is : s.0 ≡ 98 = cc in
    let within : false ≡ true = subst (λ (n : ℕ). IsIn n (only 97)) byte_is s.2 in
    absurd cc

copies_of_either : LastCopy (Matches either (codes "ab")) 2 0 1
unfolding set_of
copies_of_either =
    then_copy 0 1 1 (omega arith) (omega arith) (inl (97, refl, refl, refl))
    (one_more 1 2 (omega arith) (inr (98, refl, refl, refl)) no_copy) (λ l from s rest. one_byte l s)
    (only_copy 1 (omega arith) (inr (98, refl, refl, refl)))

-- The groups of an earlier copy are forgotten: of ((a)|b)* on ab the first group has the b and the second nothing.
earlier_copy_forgotten : IsReport (any_copies either true) (codes "ab") 0 2
    (Some (0, 2) ∷ Some (1, 2) ∷ None ∷ None ∷ None ∷ None ∷ None ∷ None ∷ None ∷ None ∷ [])
earlier_copy_forgotten = (
  slice_set no_groups 1 (Some (1, 2)),
  inl (omega arith, (1, copies_of_either, (no_groups, inr (no_second_a, refl), refl))),
  refl,
)
