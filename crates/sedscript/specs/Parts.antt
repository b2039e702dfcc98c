-- Private to the proofs: no contract of a public item cites what is here.
-- The parts that a script is kept in.
use Rattle.std.specs.Prelude.{◌≡◌, ℕ, List, Bool, map}
use Rattle.sedscript.specs.Types.{Item, Command}
use Rattle.sedscript.specs.declared.script.Named.{Named}
use Rattle.sedscript.specs.declared.script.Operands.{Operands}
use Rattle.sedscript.specs.Script.{texts_of, substitutions_of, tables_of}
use Rattle.sedscript.specs.Program.{Program}

-- the script of these parts
abbrev pub program_of : List Command → Named → Bool → ℕ → Program
program_of commands named quiet max_nodes = record {
  commands = commands;
  expressions = named.exprs.items;
  texts = map (λ t. t.items) named.operands.texts.items;
  substitutions = named.operands.substitutions.items;
  tables = map (λ t. t.items) named.operands.tables.items;
  rfiles = map (λ n. n.items) named.rfiles.items;
  wfiles = map (λ n. n.items) named.wfiles.items;
  quiet = quiet;
  max_nodes = max_nodes;
}

-- these are the texts, substitutions and tables of these items among all items
pub record OperandsAre (text : List ℕ) (all items : List Item) (o : Operands) : Type 0 where
  pub texts : map (λ t. t.items) o.texts.items ≡ texts_of text items
  pub substitutions : o.substitutions.items ≡ substitutions_of text all items
  pub tables : map (λ t. t.items) o.tables.items ≡ tables_of text items
