use Rattle.std.proofs.Common.{Bool, Option, ◌≡◌, ◌∷◌, ◌∙◌, ap, refl, sym, arith}
use Rattle.std.proofs.KnownBytes.{Keeps-refl}
use Rattle.sedscript.specs.declared.types.Action.{Action}
use Rattle.sedscript.specs.declared.types.Action.TheVariants.{Branch, File, Text}
use Rattle.sedscript.specs.declared.types.FileUse.TheVariants.{Read}
use Rattle.sedscript.specs.declared.types.TextUse.TheVariants.{Append}
use Rattle.std.specs.Prelude.{[], slice_get}
use Rattle.std.specs.Option.{unwrap_or}
use Rattle.sedacts.specs.State.{do_at, MachineState, Move, Setting}
use Rattle.sedacts.specs.Keeping.{entry_for, queues}
use Rattle.sedengine.specs.declared.next_step.NextStep.TheVariants as p
use Rattle.sedacts.specs.Move.{acts, line_to, quietly, then_do}
use Rattle.sedengine.specs.Queueing.{queueing}
use Rattle.sedacts.specs.Run.{RunState, at_lines}
use Rattle.sedengine.proofs.Acting.{acts_by, acts_going, acts_nothing, acts_queueing, acts_testing, acts_translating, acts_writing}
use Rattle.sedacts.proofs.Entries.{entry_is}
use Rattle.sedengine.proofs.Acts.{queues_action, some_sink}
use Rattle.sedengine.proofs.Tasks.{placed}
use Rattle.sedengine.proofs.Ending.{writes_seen}
use Rattle.sedengine.proofs.Leaving.{falls_more}
use Rattle.sedengine.proofs.machine.Machine.act_here.Goals as goal

abbrev here : Bool → Action → Setting → MachineState → Option Move
here writes_text action g s = acts g s writes_text action

pub returns-in-Plain : goal.returns-in-Plain
returns-in-Plain g c = acts_by (here c.args.writes_text) c.in-Plain.is (c.act_plain.ensures c.args.writes_text)

pub returns-in-Text-Insert-default : goal.returns-in-Text-Insert-default
returns-in-Text-Insert-default g c =
    let w = c.in-Text-Insert-default in
    acts_by (here c.args.writes_text) (w.is ∙ ap (λ u. Text u w.text) (rw w.is at w.field-0-is)) (acts_writing c.args.self.now c.is_within_limits.ensures (λ files ls. refl)
    (writes_seen c.self.inside c.args.self.now (λ (e : RunState). line_to 0 (unwrap_or (slice_get e.script.texts w.text) [])) c.self.view_is (rw c.text.ensures c.write_line.ensures)))

pub returns-in-Text-Change-default : goal.returns-in-Text-Change-default
returns-in-Text-Change-default g c =
    let w = c.in-Text-Change-default in
    acts_by (here c.args.writes_text) (w.is ∙ ap (λ u. Text u w.text) (rw w.is at w.field-0-is)) c.act_change.ensures

pub returns-in-File-Write-default : goal.returns-in-File-Write-default
returns-in-File-Write-default g c =
    let w = c.in-File-Write-default in
    acts_by (here c.args.writes_text) (w.is ∙ ap (λ u. File u w.sink) (rw w.is at w.field-0-is)) (acts_writing c.args.self.now c.is_within_limits.ensures (λ files ls. refl) c.act_write.ensures)

pub returns-in-Block : goal.returns-in-Block
returns-in-Block g c = acts_by (here c.args.writes_text) c.in-Block.is (acts_nothing c.args.self.now c.is_within_limits.ensures (λ files ls. refl))

pub returns-in-Branch-Always-default : goal.returns-in-Branch-Always-default
returns-in-Branch-Always-default g c =
    let w = c.in-Branch-Always-default in
    acts_by (here c.args.writes_text) (w.is ∙ ap (λ u. Branch u w.target) (rw w.is at w.field-0-is)) (acts_going c.args.self.now c.is_within_limits.ensures (do_at w.target ∷ []) _
    (ap (λ (e : RunState). record e { state = then_do (do_at w.target ∷ []) e.state }) c.self.view_is) (omega arith) (λ files ls. refl))

pub returns-in-Branch-IfReplaced-default : goal.returns-in-Branch-IfReplaced-default
returns-in-Branch-IfReplaced-default g c =
    let w = c.in-Branch-IfReplaced-default in
    acts_by (here c.args.writes_text) (w.is ∙ ap (λ u. Branch u w.target) (rw w.is at w.field-0-is)) (acts_testing c.args.self.now c.is_within_limits.ensures w.target _ c.act_test.ensures (λ files ls. refl))

pub returns-in-Transliterate : goal.returns-in-Transliterate
returns-in-Transliterate g c =
    acts_by (here c.args.writes_text) c.in-Transliterate.is (acts_translating c.args.self.now c.is_within_limits.ensures (slice_get c.args.self.now.script.tables c.in-Transliterate.k) _ c.act_transliterate.ensures (λ files ls. refl))

pub returns-in-Text-Append-default : goal.returns-in-Text-Append-default
returns-in-Text-Append-default g c =
    let e = c.args.self.now in
    let w = c.in-Text-Append-default in
    let is : c.args.action ≡ Text Append w.field-1 = w.is ∙ ap (λ u. Text u w.field-1) (rw w.is at w.field-0-is) in
    acts_by (here c.args.writes_text) is (acts_queueing e c.is_within_limits.ensures _ _ _ c.act_queue.ensures
    (λ files ls. ap (λ entry. quietly (queueing entry (at_lines e ls))) (sym (entry_is e.script.texts (slice_get e.script.commands c.args.k) c.args.action c.requires.action ∙ ap (entry_for e.script.texts) is))))

pub returns-in-File-Read-default : goal.returns-in-File-Read-default
returns-in-File-Read-default g c =
    let e = c.args.self.now in
    let w = c.in-File-Read-default in
    let is : c.args.action ≡ File Read w.field-1 = w.is ∙ ap (λ u. File u w.field-1) (rw w.is at w.field-0-is) in
    acts_by (here c.args.writes_text) is (acts_queueing e c.is_within_limits.ensures _ _ _ c.act_queue-in-File-Read-default.ensures
    (λ files ls. ap (λ entry. quietly (queueing entry (at_lines e ls))) (sym (entry_is e.script.texts (slice_get e.script.commands c.args.k) c.args.action c.requires.action ∙ ap (entry_for e.script.texts) is))))

pub returns-in-Substitute : goal.returns-in-Substitute
returns-in-Substitute g c =
    let w = c.act_substitute.ensures in
    acts_by (here c.args.writes_text) c.in-Substitute.is (record {
      acts = λ files shown ls. w.acts files ls;
      falls = falls_more w.falls;
      leaves = record { devices = w.devices; same = w.same; kept = λ j. Keeps-refl _ };
    })

pub act_plain-requires : goal.act_plain-requires
act_plain-requires g c = record {
  at = c.requires.at;
  limits = c.is_within_limits.ensures;
  action = rw c.in-Plain.is at c.requires.action;
  here = rw c.in-Plain.is at c.requires.here;
  sink = some_sink c.requires.sinks;
}

pub act_queue-requires : goal.act_queue-requires
act_queue-requires g c =
    let w = c.in-Text-Append-default in
    let is = w.is ∙ ap (λ u. Text u w.field-1) (rw w.is at w.field-0-is) in
    queues_action _ c.args.action c.requires.action (ap queues is)

pub act_queue-requires-in-File-Read-default : goal.act_queue-requires-in-File-Read-default
act_queue-requires-in-File-Read-default g c =
    let w = c.in-File-Read-default in
    let is = w.is ∙ ap (λ u. File u w.field-1) (rw w.is at w.field-0-is) in
    queues_action _ c.args.action c.requires.action (ap queues is)

pub act_change-requires : goal.act_change-requires
act_change-requires g c = record {
  text = let w = c.in-Text-Change-default in
      let is = w.is ∙ ap (λ u. Text u w.text) (rw w.is at w.field-0-is) in
      rw is at c.requires.within;
  sink = some_sink c.requires.sinks;
}

pub write_line-requires : goal.write_line-requires
write_line-requires g c = some_sink c.requires.sinks

pub invariant_of-self : goal.invariant_of-self
invariant_of-self g c = placed c.self.inside c.self.inside.pattern (p.Do c.in-Branch-Always-default.target) c.self.invariant refl c.self.invariant.pattern tt

pub act_substitute-requires : goal.act_substitute-requires
act_substitute-requires g c = record {
  at = c.requires.at;
  limits = c.is_within_limits.ensures;
  number = rw c.in-Substitute.is at c.requires.within;
  sinks = c.requires.sinks;
}

pub act_transliterate-requires : goal.act_transliterate-requires
act_transliterate-requires g c = rw c.in-Transliterate.is at c.requires.within
