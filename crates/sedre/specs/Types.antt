-- The types of src/ that the definitions speak of.
pub use Rattle.sedre.specs.declared.byte_set.ByteSet.{ByteSet}
pub use Rattle.sedre.specs.declared.class.Class.{Class}
pub use Rattle.sedre.specs.declared.class.Class.TheVariants.{Alnum, Alpha, Blank, Cntrl, Digit, Graph, Lower, Print, Punct, Space, Upper, Xdigit}
pub use Rattle.sedre.specs.declared.types.Node.{Node}
pub use Rattle.sedre.specs.declared.types.Node.TheVariants.{Alt, Begin, Empty, End, Group, Opt, Seq, Set, Star}
pub use Rattle.sedre.specs.declared.types.Kind.{Kind}
pub use Rattle.sedre.specs.declared.types.Kind.TheVariants.{Basic, Extended}
pub use Rattle.sedre.specs.declared.types.ExprFault.{ExprFault}
pub use Rattle.sedre.specs.declared.types.ExprReason.{ExprReason}
pub use Rattle.sedre.specs.declared.types.ExprReason.TheVariants.{BackReference, BadInterval, BadRange, LastBackslash, LongCollating, NothingToRepeat, OpenBracket, OpenGroup, StrayClose, TooDeep, TooManyNodes, UnknownClass, UnknownEscape}
pub use Rattle.sedre.specs.declared.elements.Element.{Element}
pub use Rattle.sedre.specs.declared.elements.Element.TheVariants.{Collating, Delimiter, Equivalent, OfClass, Plain, Unclosed, Wrong}
pub use Rattle.sedre.specs.declared.intervals.Interval.{Interval as Bounds}
pub use Rattle.sedre.specs.declared.syntax.Symbol.{Symbol}
pub use Rattle.sedre.specs.declared.syntax.Symbol.TheVariants.{AnyByte, BracketOpening, Caret, Closing, Dollar, Interval, IntervalEnd, Literal, Opening, Parting, Plus, Question, Star, Unknown}
pub use Rattle.sedre.specs.declared.syntax.Token.{Token}
pub use Rattle.sedre.specs.declared.syntax.Token.TheVariants.{AtBegin, AtEnd, Bar, Byte, Close, Open, Repeat}
pub use Rattle.sedre.specs.declared.syntax.NextToken.{NextToken}
pub use Rattle.sedre.specs.declared.syntax.NextToken.TheVariants.{Bad, Ends, Is}
