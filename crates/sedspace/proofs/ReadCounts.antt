-- How often a source is read for the bytes that are taken from it.
use Rattle.std.proofs.Common.{◌≡◌, ℕ, ◌+◌, ◌≤◌, List, [], ◌++◌, length, Option, None, Some, option_map, subst, sym, arith, length-append}
use Rattle.std.specs.Io.KnownBytes.{Consumes}
use Rattle.std.proofs.KnownBytes.{Consumes-nil, Consumes-trans}
use Rattle.sedspace.specs.Stream.{ReadsForBytes, RisesAtMost}
use Rattle.sedspace.specs.FailureCounts.{raised}

RisesAtMost-same : (a : Option ℕ) (n : ℕ) → RisesAtMost a a n
RisesAtMost-same None n = tt
RisesAtMost-same (Some k) n = omega arith

-- one read
pub RisesAtMost-once : (a b : Option ℕ) → b ≡ option_map raised a → RisesAtMost a b 1
RisesAtMost-once None b is = tt
RisesAtMost-once (Some k) b is = subst (λ (z : Option ℕ). RisesAtMost (Some k) z 1) (sym is) (omega arith)

RisesAtMost-then : (a b c : Option ℕ) (n m p : ℕ) → n + m ≤ p → RisesAtMost a b n → RisesAtMost b c m → RisesAtMost a c p
RisesAtMost-then None b c n m p le h k = tt
RisesAtMost-then (Some x) None c n m p le h k = absurd h
RisesAtMost-then (Some x) (Some y) None n m p le h k = absurd k
RisesAtMost-then (Some x) (Some y) (Some z) n m p le h k = omega (arith, h, k)

RisesAtMost-more : (a b : Option ℕ) (n m : ℕ) → n ≤ m → RisesAtMost a b n → RisesAtMost a b m
RisesAtMost-more None b n m le h = tt
RisesAtMost-more (Some x) None n m le h = absurd h
RisesAtMost-more (Some x) (Some y) n m le h = omega (arith, h)

module _ {R : Type 0} (remaining : R → Option (List ℕ)) (reads : R → Option ℕ) where
  pub ReadsForBytes-none : (a : R) (n : ℕ) → ReadsForBytes remaining reads a a n
  ReadsForBytes-none a n = ([], Consumes-nil (remaining a), RisesAtMost-same (reads a) _)

  -- one read more, or none
  pub ReadsForBytes-then : (a b m c : R) (more : List ℕ) (n : ℕ) → ReadsForBytes remaining reads a b 0 → m ≡ b → Consumes (remaining m) (remaining c) more → RisesAtMost (reads m) (reads c) 1 → 1 ≤ length more + n → ReadsForBytes remaining reads a c n
  ReadsForBytes-then a b m c more n (taken, gone, rise) same next once some = (
    taken ++ more,
    Consumes-trans _ _ _ taken more gone (subst (λ s. Consumes (remaining s) (remaining c) more) same next),
    RisesAtMost-then (reads a) (reads b) (reads c) _ 1 _ (omega (arith, some, length-append taken more)) rise (subst (λ s. RisesAtMost (reads s) (reads c) 1) same once),
  )

  -- no read more
  pub ReadsForBytes-same : (a b m : R) → ReadsForBytes remaining reads a b 0 → m ≡ b → ReadsForBytes remaining reads a m 1
  ReadsForBytes-same a b m (taken, gone, rise) same =
      subst (λ s. ReadsForBytes remaining reads a s 1) (sym same) (taken, gone, RisesAtMost-more (reads a) (reads b) _ _ (omega arith) rise)
