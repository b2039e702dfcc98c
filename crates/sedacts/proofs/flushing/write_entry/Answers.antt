use Rattle.std.proofs.Common.{[], ◌∷◌, ◌∙◌, Some, ap, refl, sym}
use Rattle.std.specs.Option.{unwrap_or}
use Rattle.sedscript.specs.declared.types.Action.TheVariants.{File, Text}
use Rattle.sedacts.specs.State.{flush, copy, text_entry}
use Rattle.sedacts.specs.Keeping.{entry_by}
use Rattle.sedacts.proofs.Entries.{entry_is, at_entries, text_written, file_written}
use Rattle.std.proofs.KnownBytes.{Keeps-refl}
use Rattle.sedacts.proofs.Writing.{writes_alone}
use Rattle.sedacts.proofs.DecidingGroups.{le_same}
use Rattle.sedacts.proofs.flushing.write_entry.Goals as goal

pub returns-in-Text : goal.returns-in-Text
returns-in-Text g c =
    let alone = writes_alone c.write_line.ensures in
    record {
      moves = λ setting shown s now rest later at queue turns fits same lines.
          text_written c.args.limits.now setting s rest _ later at queue fits c.text.result.now now _ _ c.args.turns.now c.write_line.result
          (ap (entry_by c.args.script.now.texts) c.command.ensures.is ∙ entry_is c.args.script.now.texts (Some c.command.result.now) (Text _ c.in-Text.text) c.in-Text.is ∙ ap (λ b. text_entry (unwrap_or b [])) c.text.ensures) (sym turns) same lines c.write_line.ensures.puts;
      devices = alone;
      limit = refl;
      later = le_same;
      within = c.requires.before;
      kept = λ j. Keeps-refl _;
    }

pub returns-in-File : goal.returns-in-File
returns-in-File g c =
    let w = c.copy_file.ensures in
    record {
      moves = λ setting shown s now rest later at queue turns fits same lines.
          file_written c.args.limits.now setting s rest _ later at queue fits c.in-File.file now _ _ c.copy_file.new.turns c.copy_file.result
          (ap (entry_by c.args.script.now.texts) c.command.ensures.is ∙ entry_is c.args.script.now.texts (Some c.command.result.now) (File _ c.in-File.file) c.in-File.is) same
          (λ fits_there same_there. w.moves setting shown (at_entries s later (copy c.in-File.file 0 ∷ flush ∷ rest) s.turns) now (flush ∷ rest) later refl refl turns fits_there same_there lines);
      devices = w.devices;
      limit = w.limit;
      later = w.later;
      within = w.within;
      kept = w.kept;
    }
