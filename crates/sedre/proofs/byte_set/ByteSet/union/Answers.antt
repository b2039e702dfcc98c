use Rattle.std.proofs.Common.{◌≡◌, ℕ, slice_index_or, ◌∷◌, [], List, max}
use Rattle.std.specs.Int.{bit_at}
use Rattle.sedre.proofs.ByteLemmas.{union_is, union_members, at_each}
use Rattle.sedre.proofs.byte_set.ByteSet.union.Goals as goal

pub returns-clause-is : goal.returns-clause-is
returns-clause-is c =
    let these = c.self.inside.words in
    let those = c.other.inside.words in
    let both : List ℕ = c.either.result ∷ c.either-2.result ∷ c.either-3.result ∷ c.either-4.result ∷ [] in
    union_is these those both c.args.self.now c.args.other.now c.self.view_is c.other.view_is
    (λ place k inside. at_each (λ p. bit_at (slice_index_or both p 0) k ≡ max (bit_at (slice_index_or these p 0) k) (bit_at (slice_index_or those p 0) k))
    (c.either.ensures k) (c.either-2.ensures k) (c.either-3.ensures k) (c.either-4.ensures k) place inside)

pub returns-clause-members : goal.returns-clause-members
returns-clause-members c = union_members c.self.inside.words c.other.inside.words c.args.self.now c.args.other.now _ c.self.view_is c.other.view_is (returns-clause-is c)
