use Rattle.std.proofs.Common.{refl}
use Rattle.sedscript.proofs.Bounds.{means_in_range}
use Rattle.sedscript.proofs.reader.script_of.Goals as goal

pub with_files-requires : goal.with_files-requires
with_files-requires c =
    means_in_range c.args.source.now.text.now c.args.source.now.kind c.args.source.now.max_nodes _ (record {
      items = c.args.items.now;
      to = c.requires.judged.to;
      judged = c.requires.judged.judged;
      commands = c.in-Ok.ensures.commands;
      texts = c.in-Ok.ensures.operands.texts;
      substitutions = c.in-Ok.ensures.operands.substitutions;
      tables = c.in-Ok.ensures.operands.tables;
      rfiles = c.in_ok-files.ensures.read.names_are;
      wfiles = c.in_ok-files.ensures.written.names_are;
      quiet = refl;
      nodes = refl;
    })
