-- The types of src/ that the definitions speak of.
pub use Rattle.sedscript.specs.declared.types.Command.{Command}
pub use Rattle.sedscript.specs.declared.types.Address.{Address}
pub use Rattle.sedscript.specs.declared.types.Address.TheVariants.{Last, Line, Match}
pub use Rattle.sedscript.specs.declared.types.Action.{Action}
pub use Rattle.sedscript.specs.declared.substitution.Substitution.{Substitution}
pub use Rattle.sedscript.specs.declared.substitution.Piece.{Piece}
pub use Rattle.sedscript.specs.declared.substitution.Piece.TheVariants.{Group as group, Literal as literal, Whole as whole}
pub use Rattle.sedacts.specs.declared.ends.Ended.{Ended}
pub use Rattle.sedacts.specs.declared.ends.Ended.TheVariants.{Done, HoldFull, InputBroken, NoPrevious, OutputBroken, OutputFull, PatternFull, QueueFull, TurnsSpent}
