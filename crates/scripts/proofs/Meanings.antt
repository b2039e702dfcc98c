-- What the famous scripts mean, computed by the definitions.
use Rattle.std.proofs.Common.{◌≡◌, ℕ, List, [], false, subst}
use Rattle.sedre.specs.declared.types.Kind.TheVariants.{Basic}
use Rattle.sedscript.specs.declared.types.Command.{Command}
use Rattle.sedscript.specs.Script.{Means}
use Rattle.sedscript.specs.Program.{Program}
use Rattle.examples.proofs.ComputedScript.{verdict, means, Verdict, IsSo, verdict_so}

-- a script of these commands, without expressions and strings, that writes to these files
abbrev pub of_commands : List Command → List (List ℕ) → Program
of_commands commands files = record {
  commands = commands;
  expressions = [];
  texts = [];
  substitutions = [];
  tables = [];
  rfiles = [];
  wfiles = files;
  quiet = false;
  max_nodes = 65536;
}

-- a text that the computation comes to means that script
pub meant : (text : List ℕ) (p : Program) → verdict text Basic 65536 ≡ means p → Means text Basic 65536 p
meant text p e = subst_so
  where
    so : (v : Verdict) → IsSo text Basic 65536 v → v ≡ means p → Means text Basic 65536 p
    so v h e = subst (IsSo text Basic 65536) e h

    subst_so : Means text Basic 65536 p
    subst_so = so (verdict text Basic 65536) (verdict_so text Basic 65536) e
