-- Private to the proofs: no contract that `sedmatch` makes public cites what is here.
-- Up to three bytes, one of which is sought.
use Rattle.std.specs.Prelude.{Bool, ◌≡◌, ◌⊎◌, ℕ, ◌↔◌, List, Option, Some, None}
use Rattle.sedtext.specs.Spans.{IsIn}
use Rattle.sedtext.specs.declared.counted.set_finder.Few.{Few}
use Rattle.sedtext.specs.declared.counted.set_finder.Few.TheVariants.{One, Two, Three}

-- the byte is one of the few
abbrev pub HasFew : Option Few → ℕ → Type 0
HasFew None c = ⊥
HasFew (Some (One a)) c = c ≡ a
HasFew (Some (Two a b)) c = (c ≡ a) ⊎ (c ≡ b)
HasFew (Some (Three a b d)) c = ((c ≡ a) ⊎ (c ≡ b)) ⊎ (c ≡ d)

-- the few are the members of the set
abbrev pub AreMembers : List Bool → Few → Type 0
AreMembers set few = (c : ℕ) → HasFew (Some few) c ↔ IsIn c set
