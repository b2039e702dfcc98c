-- Files joined, computed.
use Rattle.std.proofs.Common.{◌≡◌, [], ◌∷◌, refl}
use Rattle.sedfiles.specs.Files.{concatenated}

-- no file gives no byte
joined_none : concatenated [] ≡ []
joined_none = refl

-- `a` and `b`: the first gets a newline, and so does the last
joined_two : concatenated ((97 ∷ []) ∷ (98 ∷ []) ∷ []) ≡ 97 ∷ 10 ∷ 98 ∷ 10 ∷ []
joined_two = refl

-- an empty file between two that end with a newline gives nothing
joined_empty_between : concatenated ((97 ∷ 10 ∷ []) ∷ [] ∷ (98 ∷ 10 ∷ []) ∷ []) ≡ 97 ∷ 10 ∷ 98 ∷ 10 ∷ []
joined_empty_between = refl

-- a newline alone gets no second one
joined_newline : concatenated ((10 ∷ []) ∷ []) ≡ 10 ∷ []
joined_newline = refl
