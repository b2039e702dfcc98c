mod AddressFaultExamples
mod AddressRunExamples
mod BackslashLemmas
mod BracesMatched
mod CaseRunExamples
mod ClassExamples
mod CommandLineExamples
pub mod ComputedEnds
pub mod ComputedReading
pub mod ComputedRun
pub mod ComputedScript
mod ComputedSearch
mod CycleExamples
mod DelimitedExamples
mod DeviceRunExamples
mod EndRunExamples
mod ExampleWords
mod ExpressionMemoryFaultExamples
mod FaultExamples
mod FaultLemmas
mod FlagReading
mod FoldedExamples
mod FunctionFaultExamples
mod GroupExamples
mod HostileExamples
mod JoinedExamples
mod JoinedLinesRunExamples
mod LabelEnds
mod LimitExamples
mod LimitWords
pub mod LineLaws
mod ListExamples
mod ListReading
mod ListingExamples
mod ManyBlockRunExamples
mod ManyBlocks
mod ManyBracesExamples
mod ManyGroupsExamples
mod MatchExamples
mod MatchingExamples
mod MissedExamples
mod MissingText
mod MoveExamples
mod NamesOnce
mod NestedGroupExamples
mod NestedStarExamples
mod NestedStarRunExamples
mod OccurrenceExamples
mod PartWords
pub mod PieceReading
mod ProgramExamples
mod ReadFunctions
mod RepeatedBytes
mod ReportExamples
mod RunExamples
mod ScriptExamples
mod ScriptMemoryFaultExamples
pub mod ScriptWords
mod SearchExamples
mod SpaceRunExamples
mod StandardExamples
mod StringEnds
mod StringPlaces
pub mod StringReading
mod SubstitutionFaultExamples
mod SubstitutionRunExamples
mod SymbolExamples
mod TextEnds
mod TextExamples
mod TextReading
mod TextRunExamples
mod WrongEscapes
pub mod WrittenEnds
mod WrittenExamples
pub mod WrittenFaults
