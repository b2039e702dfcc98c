use Rattle.std.proofs.Common.{◌≡◌, ◌<◌, ◌≤◌, ℕ, List}
use Rattle.sededit.specs.Program.{texts_by_name}
use Rattle.sededit.proofs.program.name_files.Given as goal

-- the texts of the numbers gone by are the files of their names, and those after them are as they were
abbrev pub invariant-loop-number : goal.invariant-loop-number
invariant-loop-number g l = record {
  named : g.N.Names.named l.names ≡ l.number;
  shown : (k : ℕ) → k < l.number → g.N.Texts.text l.names k ≡ texts_by_name (g.N.Names.file l.fn.names) (g.N.Texts.text l.fn.names) l.script k;
  others : (k : ℕ) → l.number ≤ k → g.N.Texts.text l.names k ≡ g.N.Texts.text l.fn.names k;
  files : (name : List ℕ) → g.N.Names.file l.names name ≡ g.N.Names.file l.fn.names name;
}
