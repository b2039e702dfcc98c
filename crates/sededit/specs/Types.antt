-- The types of src/ that the definitions speak of.
pub use Rattle.clap.specs.declared.error.kind.ErrorKind.TheVariants.{DisplayHelp}
pub use Rattle.sedre.specs.declared.types.Kind.{Kind}
pub use Rattle.sedre.specs.declared.types.Kind.TheVariants.{Basic, Extended}
pub use Rattle.sedengine.specs.Types.{Ended, Done, InputBroken, OutputBroken, OutputFull}
pub use Rattle.sedfiles.specs.declared.asked.Line.{Line}
pub use Rattle.sedfiles.specs.declared.asked.Part.{Part}
pub use Rattle.sedfiles.specs.declared.asked.Part.TheVariants.{File, Script}
