-- The types of `sedacts` that the definitions speak of, for crates that use this one alone.
pub use Rattle.sedacts.specs.declared.ends.Ended.{Ended}
pub use Rattle.sedacts.specs.declared.ends.Ended.TheVariants.{Done, HoldFull, InputBroken, NoPrevious, OutputBroken, OutputFull, PatternFull, QueueFull, TurnsSpent}
