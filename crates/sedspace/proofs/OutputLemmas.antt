-- Writes, one after another.
use Rattle.std.proofs.Common.{◌≡◌, ℕ, List, length, take, drop, ◌+◌, ◌-◌, ◌≤◌, ◌++◌, Option, arith}
use Rattle.std.proofs.KnownBytes.{Appends-trans}
use Rattle.std.proofs.lemmas.List.{drop-take, take-append-drop, take-take}
use Rattle.std.proofs.lemmas.Grind.{common_steps}
use Rattle.std.specs.Io.KnownBytes.{Appends}

take_add : (i n : ℕ) (xs : List ℕ) → take (i + n) xs ≡ take i xs ++ take n (drop i xs)
take_add i n xs = grind (arith, common_steps, drop-take, take-append-drop {A = ℕ}, take-take {A = ℕ})

-- the bytes done, and n of those left
take_part : (i n : ℕ) (xs : List ℕ) → i ≤ length xs → n ≤ length xs - i → take (i + n) xs ≡ take i xs ++ take n (take (length xs - i) (drop i xs))
take_part i n xs h k = grind (arith, common_steps, take_add)

-- n bytes more were appended, after the first i
pub appended_more : (a b c : Option (List ℕ)) (i n : ℕ) (xs : List ℕ) → i ≤ length xs → n ≤ length xs - i → Appends a b (take i xs) → Appends b c (take n (take (length xs - i) (drop i xs))) → Appends a c (take (i + n) xs)
appended_more a b c i n xs h k first next = rw (take_part i n xs h k) (Appends-trans a b c _ _ first next)
