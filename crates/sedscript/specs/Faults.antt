-- The numbers and the names of the reasons (this project's own).
use Rattle.std.specs.Prelude.{ℕ, List, codes}
use Rattle.sedscript.specs.Types.{Reason, UnknownCommand, TooManyAddresses, BadAddress, MissingText, OpenDelimiter, BadDelimiter, UnknownFlag, RepeatedFlag, BadNumber, UnknownLabel, RepeatedLabel, MissingLabel, OpenBlock, StrayClose, TrailingBytes, LengthsDiffer, RepeatedByte, BadEscape, MissingName, GroupAbsent, Expression, NoMemory, FlagOnEmpty}

abbrev pub number_of : Reason → ℕ
number_of UnknownCommand = 1
number_of TooManyAddresses = 2
number_of BadAddress = 3
number_of MissingText = 4
number_of OpenDelimiter = 5
number_of BadDelimiter = 6
number_of UnknownFlag = 7
number_of RepeatedFlag = 8
number_of BadNumber = 9
number_of UnknownLabel = 10
number_of RepeatedLabel = 11
number_of MissingLabel = 12
number_of OpenBlock = 13
number_of StrayClose = 14
number_of TrailingBytes = 15
number_of LengthsDiffer = 16
number_of RepeatedByte = 17
number_of BadEscape = 18
number_of MissingName = 19
number_of GroupAbsent = 20
number_of (Expression f) = 21
number_of NoMemory = 22
number_of FlagOnEmpty = 23

abbrev pub name_of : Reason → List ℕ
name_of UnknownCommand = codes "UnknownCommand"
name_of TooManyAddresses = codes "TooManyAddresses"
name_of BadAddress = codes "BadAddress"
name_of MissingText = codes "MissingText"
name_of OpenDelimiter = codes "OpenDelimiter"
name_of BadDelimiter = codes "BadDelimiter"
name_of UnknownFlag = codes "UnknownFlag"
name_of RepeatedFlag = codes "RepeatedFlag"
name_of BadNumber = codes "BadNumber"
name_of UnknownLabel = codes "UnknownLabel"
name_of RepeatedLabel = codes "RepeatedLabel"
name_of MissingLabel = codes "MissingLabel"
name_of OpenBlock = codes "OpenBlock"
name_of StrayClose = codes "StrayClose"
name_of TrailingBytes = codes "TrailingBytes"
name_of LengthsDiffer = codes "LengthsDiffer"
name_of RepeatedByte = codes "RepeatedByte"
name_of BadEscape = codes "BadEscape"
name_of MissingName = codes "MissingName"
name_of GroupAbsent = codes "GroupAbsent"
name_of (Expression f) = codes "Expression"
name_of NoMemory = codes "NoMemory"
name_of FlagOnEmpty = codes "FlagOnEmpty"
