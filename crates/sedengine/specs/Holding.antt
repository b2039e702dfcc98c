-- Private to the proofs: no contract of a public item cites what is here.
-- What the engine's calls for the hold space promise one another.
use Rattle.std.specs.Prelude.{◌≡◌, ◌<◌, ◌≤◌, Result, Ok, Err, length}
use Rattle.sedacts.specs.Run.{RunState}
use Rattle.sedacts.specs.declared.ends.Ended.{Ended}
use Rattle.sedacts.specs.declared.ends.Ended.TheVariants.{PatternFull, HoldFull}

-- The engine becomes `made`, whose spaces are within the limit; or it stays, and the end names the space that is too
-- long in `made`.
abbrev pub BecomesOrFull : RunState → RunState → RunState → Result Unit Ended → Type 0
BecomesOrFull old made new (Ok u) =
    (new ≡ made) × (length made.state.pattern ≤ old.limits.space) × (length made.state.hold ≤ old.limits.space)
BecomesOrFull old made new (Err (PatternFull n)) =
    (new ≡ old) × (n ≡ old.state.number) × (old.limits.space < length made.state.pattern)
BecomesOrFull old made new (Err (HoldFull n)) =
    (new ≡ old) × (n ≡ old.state.number) × (old.limits.space < length made.state.hold)
BecomesOrFull old made new (Err _) = ⊥
