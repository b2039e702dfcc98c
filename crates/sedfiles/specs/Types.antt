-- The types of src/ that the definitions speak of.
pub use Rattle.clap.specs.declared.builder.action.ArgAction.{ArgAction}
pub use Rattle.clap.specs.declared.builder.action.ArgAction.TheVariants.{Append, Count}
pub use Rattle.sedfiles.specs.declared.asked.Line.{Line}
pub use Rattle.sedfiles.specs.declared.asked.Part.{Part}
pub use Rattle.sedfiles.specs.declared.asked.Part.TheVariants.{File, Script}
pub use Rattle.sedfiles.specs.declared.asked.Refused.{Refused}
pub use Rattle.sedfiles.specs.declared.asked.Refused.TheVariants.{NoMemory, Words}
pub use Rattle.sedfiles.specs.declared.memory_inputs.CurrentFile.{CurrentFile}
pub use Rattle.sedfiles.specs.declared.memory_inputs.CurrentFile.TheVariants.{Nothing, Number, Standard}
