-- Intervals and where they end.
use Rattle.std.proofs.Common.{◌≡◌, ℕ, ◌+◌, ◌-◌, ◌*◌, ◌<◌, ◌≤◌, min, List, [], ◌∷◌, ◌++◌, length, take, get_or, Bool, true, false, Option, Some, None, IfSome, refl, ap, ◌∙◌, arith}
use Rattle.std.proofs.lemmas.List.{take_more}
use Rattle.sedre.specs.declared.intervals.Interval.{Interval}
use Rattle.sedre.specs.Tokens.{decimal, repeats, interval_token}
use Rattle.sedre.specs.Finished.{IsTokenAfter}

decimal-append : (n d : ℕ) (xs : List ℕ) → decimal n (xs ++ d ∷ []) ≡ 10 * decimal n xs + (d - 48)
decimal-append n d [] = refl
decimal-append n d (x ∷ xs) = decimal-append (10 * n + (x - 48)) d xs

-- one digit more
pub decimal_more : (xs : List ℕ) (i d value new : ℕ) → i < length xs → d ≡ get_or xs i 0 - 48 → value ≡ min 256 (decimal 0 (take i xs)) → new ≡ min (10 * value + d) 256 → new ≡ min 256 (decimal 0 (take (i + 1) xs))
decimal_more xs i d value new h read e f =
    let whole : decimal 0 (take (i + 1) xs) ≡ 10 * decimal 0 (take i xs) + (get_or xs i 0 - 48) = ap (decimal 0) (take_more xs i 0 h) ∙ decimal-append 0 (get_or xs i 0) (take i xs) in
    omega (arith, e, f, whole, read)

pub interval_after : (o : Option Interval) (may : Bool) (at next len left : ℕ) → at < next → next ≤ len → IfSome o (λ i. i.width ≤ left) → next + left ≤ len → IsTokenAfter at len (repeats may at (interval_token o at next))
interval_after None true at next len left h g w k = omega (arith, h, g)
interval_after None false at next len left h g w k = omega (arith, h, g)
interval_after (Some i) true at next len left h g w k = (omega (arith, h), omega (arith, w, k))
interval_after (Some i) false at next len left h g w k = omega (arith, h, g)
