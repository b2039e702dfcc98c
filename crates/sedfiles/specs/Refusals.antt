-- Why words are refused.
use Rattle.std.specs.Prelude.{List}
use Rattle.clap.specs.Words.{IsAmong, Text, fault_of, kind_of}
use Rattle.sedfiles.specs.Types.{NoMemory, Refused, Words}
use Rattle.sedfiles.specs.CommandLine.{sed_command}

-- the words are refused for a fault that clap finds in them, or there was no memory
abbrev pub IsRefusal : List Text → Refused → Type 0
IsRefusal words (Words e) = IsAmong (kind_of e) (fault_of sed_command words)
IsRefusal words NoMemory = Unit {0}
