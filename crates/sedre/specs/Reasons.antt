-- The numbers and the names of the faults (this project's own).
use Rattle.std.specs.Prelude.{ℕ, List, codes}
use Rattle.sedre.specs.Types.{ExprReason, OpenBracket, UnknownClass, LongCollating, BadRange, OpenGroup, StrayClose, BadInterval, NothingToRepeat, LastBackslash, UnknownEscape, BackReference, TooManyNodes, TooDeep}
use Rattle.sedre.specs.declared.types.ExprReason.TheVariants.{NoMemory}

abbrev pub number : ExprReason → ℕ
number OpenBracket = 1
number UnknownClass = 2
number LongCollating = 3
number BadRange = 4
number OpenGroup = 5
number StrayClose = 6
number BadInterval = 7
number NothingToRepeat = 8
number LastBackslash = 9
number UnknownEscape = 10
number BackReference = 11
number TooManyNodes = 12
number TooDeep = 13
number NoMemory = 14

abbrev pub name : ExprReason → List ℕ
name OpenBracket = codes "OpenBracket"
name UnknownClass = codes "UnknownClass"
name LongCollating = codes "LongCollating"
name BadRange = codes "BadRange"
name OpenGroup = codes "OpenGroup"
name StrayClose = codes "StrayClose"
name BadInterval = codes "BadInterval"
name NothingToRepeat = codes "NothingToRepeat"
name LastBackslash = codes "LastBackslash"
name UnknownEscape = codes "UnknownEscape"
name BackReference = codes "BackReference"
name TooManyNodes = codes "TooManyNodes"
name TooDeep = codes "TooDeep"
name NoMemory = codes "NoMemory"
