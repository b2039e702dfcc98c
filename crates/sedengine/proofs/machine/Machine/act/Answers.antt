use Rattle.std.proofs.Common.{rules, Bool, Option, ap, ◌∙◌}
use Rattle.sedscript.specs.declared.types.Action.{Action}
use Rattle.sedscript.specs.declared.types.Action.TheVariants.{Plain}
use Rattle.sedacts.specs.State.{Move, Setting, MachineState}
use Rattle.sedacts.specs.Ends.{is_next_line}
use Rattle.sedacts.specs.Move.{acts}
use Rattle.sedengine.proofs.Acts.{acts_here, lines_by, some_sink}
use Rattle.sedengine.proofs.machine.Machine.act.Goals as goal

abbrev made : Bool → Action → Setting → MachineState → Option Move
made writes_text action g s = acts g s writes_text action

pub returns-in_default : goal.returns-in_default
returns-in_default g c = acts_here (is_next_line c.args.action) c.act_here.ensures

pub returns-in-Plain-AppendNext : goal.returns-in-Plain-AppendNext
returns-in-Plain-AppendNext g c =
    let w = c.in-Plain-AppendNext in
    lines_by (made c.args.writes_text) (w.is ∙ ap Plain (rw w.is at w.field-0-is)) c.act_append_next.ensures

pub returns-in-Plain-NextLine : goal.returns-in-Plain-NextLine
returns-in-Plain-NextLine g c =
    let w = c.in-Plain-NextLine in
    lines_by (made c.args.writes_text) (w.is ∙ ap Plain (rw w.is at w.field-0-is)) c.act_next_line.ensures

pub act_append_next-requires : goal.act_append_next-requires
act_append_next-requires g c = record {
  at = c.requires.at;
  number = c.requires.number;
  sink = some_sink c.requires.sinks;
}

pub act_next_line-requires : goal.act_next_line-requires
act_next_line-requires g c = record {
  at = c.requires.at;
  number = c.requires.number;
  sink = some_sink c.requires.sinks;
}

pub act_here-requires : goal.act_here-requires
act_here-requires g c = record {
  at = c.requires.at;
  within = c.requires.within;
  action = c.requires.action;
  here = search rules;
  sinks = c.requires.sinks;
}
