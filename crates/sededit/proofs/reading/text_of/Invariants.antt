use Rattle.std.proofs.Common.{ℕ, List, [], drop}
use Rattle.sededit.specs.Program.{MakesText}
use Rattle.sedfiles.specs.Files.{OnlyReadsScripts}
use Rattle.sededit.proofs.reading.text_of.Given as goal

-- what the parts left make of the text is what all parts make
abbrev pub invariant-loop-part : goal.invariant-loop-part
invariant-loop-part g l = record {
  makes : (whole : List ℕ) → MakesText (g.I.Inputs.text l.inputs) l.text.items (drop l.part-index l.parts) whole →
      MakesText (g.I.Inputs.text l.fn.inputs) [] l.parts whole;
  inputs : OnlyReadsScripts g.I.Inputs.current g.I.Inputs.ahead g.I.Inputs.text g.I.Inputs.refusals g.I.Inputs.failures g.I.Inputs.reference l.fn.inputs l.inputs;
}
