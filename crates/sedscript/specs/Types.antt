-- The types of src/ that the definitions speak of.
pub use Rattle.sedre.specs.declared.types.Kind.{Kind}
pub use Rattle.sedre.specs.declared.types.ExprReason.{ExprReason}
pub use Rattle.sedscript.specs.declared.types.ScriptFault.{ScriptFault}
pub use Rattle.sedscript.specs.declared.types.Reason.{Reason}
pub use Rattle.sedscript.specs.declared.types.Reason.TheVariants.{BadAddress, BadDelimiter, BadEscape, BadNumber, Expression, FlagOnEmpty, GroupAbsent, LengthsDiffer, MissingLabel, MissingName, MissingText, NoMemory, OpenBlock, OpenDelimiter, RepeatedByte, RepeatedFlag, RepeatedLabel, StrayClose, TooManyAddresses, TrailingBytes, UnknownCommand, UnknownFlag, UnknownLabel}
pub use Rattle.sedscript.specs.declared.types.Address.{Address}
pub use Rattle.sedscript.specs.declared.types.Address.TheVariants.{Last, Line, Match}
pub use Rattle.sedscript.specs.declared.types.Action.{Action}
pub use Rattle.sedscript.specs.declared.types.Command.{Command}
pub use Rattle.sedscript.specs.declared.types.FileUse.{FileUse}
pub use Rattle.sedscript.specs.declared.items.Addresses.{Addresses}
pub use Rattle.sedscript.specs.declared.items.Flags.{Flags}
pub use Rattle.sedscript.specs.declared.letters.Verb.{Verb}
pub use Rattle.sedscript.specs.declared.items.Argument.{Argument}
pub use Rattle.sedscript.specs.declared.items.Argument.TheVariants.{Between, FlaggedPair, Nothing, Pair}
pub use Rattle.sedscript.specs.declared.items.ItemOrEnd.{ItemOrEnd}
pub use Rattle.sedscript.specs.declared.items.ItemOrEnd.TheVariants.{Ends, Is}
pub use Rattle.sedscript.specs.declared.items.Item.{Item}
pub use Rattle.sedscript.specs.declared.items.Strings.{Strings}
pub use Rattle.sedscript.specs.declared.texts.Inside.{Inside}
pub use Rattle.sedscript.specs.declared.texts.Inside.TheVariants.{Due, Escape, InLine}
pub use Rattle.sedscript.specs.declared.bytes.Sort.{Sort}
pub use Rattle.sedscript.specs.declared.substitution.Substitution.{Substitution}
pub use Rattle.sedscript.specs.declared.substitution.Piece.{Piece}
pub use Rattle.sedscript.specs.declared.substitution.Piece.TheVariants.{Group as group, Literal as literal, Whole as whole}
pub use Rattle.sedscript.specs.declared.transliteration.Char.{Char}
