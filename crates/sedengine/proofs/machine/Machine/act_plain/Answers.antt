use Rattle.std.proofs.Common.{Bool, Option, ◌∷◌, ◌++◌, ap, refl, arith}
use Rattle.sedscript.specs.declared.types.Action.TheVariants.{Plain}
use Rattle.sedscript.specs.declared.types.Simple.{Simple}
use Rattle.std.specs.Prelude.{[], decimal}
use Rattle.std.specs.List.{before_first}
use Rattle.sedspace.specs.Lines.{is_newline}
use Rattle.sedacts.specs.State.{flush, print_pattern, MachineState, Move, Setting}
use Rattle.sedacts.specs.Listing.{listed}
use Rattle.sedacts.specs.Keeping.{keeps_in_hold}
use Rattle.sedacts.specs.Move.{acts, line_to, newline, to_sink}
use Rattle.sedacts.specs.Run.{RunState}
use Rattle.sedengine.proofs.Acting.{acts_by, acts_going, acts_growing, acts_holding, acts_writing}
use Rattle.sedengine.proofs.Acts.{fills}
use Rattle.sedengine.proofs.Ending.{writes_seen}
use Rattle.sedengine.proofs.machine.Machine.act_plain.Goals as goal

abbrev plain : Bool → Simple → Setting → MachineState → Option Move
plain writes_text simple g s = acts g s writes_text (Plain simple)

pub returns-in-CopyHold : goal.returns-in-CopyHold
returns-in-CopyHold g c = λ writes_text.
    let e = c.args.self.now in
    let f = c.requires.limits [] in
    acts_by (plain writes_text) c.in-CopyHold.is (acts_holding e c.requires.limits e.state.hold e.state.hold _ c.act_copy_hold.ensures f.hold f.hold (λ files ls. refl))

pub returns-in-Hold : goal.returns-in-Hold
returns-in-Hold g c = λ writes_text.
    let e = c.args.self.now in
    let f = c.requires.limits [] in
    acts_by (plain writes_text) c.in-Hold.is (acts_holding e c.requires.limits e.state.pattern e.state.pattern _ c.act_hold.ensures f.pattern f.pattern (λ files ls. refl))

pub returns-in-Exchange : goal.returns-in-Exchange
returns-in-Exchange g c = λ writes_text.
    let e = c.args.self.now in
    let f = c.requires.limits [] in
    acts_by (plain writes_text) c.in-Exchange.is (acts_holding e c.requires.limits e.state.hold e.state.pattern _ c.act_exchange.ensures f.hold f.pattern (λ files ls. refl))

pub returns-in-AppendHold : goal.returns-in-AppendHold
returns-in-AppendHold g c = λ writes_text.
    let e = c.args.self.now in
    acts_by (plain writes_text) c.in-AppendHold.is (acts_growing e c.requires.limits (e.state.pattern ++ newline ∷ e.state.hold) e.state.hold _ _ c.act_append_hold.ensures (λ files ls. refl))

pub returns-in-HoldMore : goal.returns-in-HoldMore
returns-in-HoldMore g c = λ writes_text.
    let e = c.args.self.now in
    acts_by (plain writes_text) c.in-HoldMore.is (acts_growing e c.requires.limits e.state.pattern (e.state.hold ++ newline ∷ e.state.pattern) _ _ c.act_hold_more.ensures (λ files ls. refl))

pub returns-in-Quit : goal.returns-in-Quit
returns-in-Quit g c = λ writes_text.
    acts_by (plain writes_text) c.in-Quit.is (acts_going c.args.self.now c.requires.limits (print_pattern ∷ flush ∷ []) _ c.act_quit.ensures (omega arith) (λ files ls. refl))

pub returns-in-Delete : goal.returns-in-Delete
returns-in-Delete g c = λ writes_text. acts_by (plain writes_text) c.in-Delete.is c.act_delete.ensures

pub returns-in-DeleteFirst : goal.returns-in-DeleteFirst
returns-in-DeleteFirst g c = λ writes_text. acts_by (plain writes_text) c.in-DeleteFirst.is c.act_delete_first.ensures

pub returns-in-LineNumber : goal.returns-in-LineNumber
returns-in-LineNumber g c = λ writes_text.
    acts_by (plain writes_text) c.in-LineNumber.is (acts_writing c.args.self.now c.requires.limits (λ files ls. refl)
    (writes_seen c.self.inside c.args.self.now (λ (e : RunState). line_to 0 (decimal e.state.number)) c.self.view_is (rw (c.as_bytes.ensures.value, c.format.ensures.text) at c.write_line.ensures)))

pub returns-in-List : goal.returns-in-List
returns-in-List g c = λ writes_text.
    acts_by (plain writes_text) c.in-List.is (acts_writing c.args.self.now c.requires.limits (λ files ls. refl)
    (writes_seen c.self-in-List.inside c.args.self.now (λ (e : RunState). to_sink 0 (listed e.state.pattern)) c.self-in-List.view_is (rw c.bytes.ensures.value at c.write_listing.ensures)))

pub returns-in-Print : goal.returns-in-Print
returns-in-Print g c = λ writes_text.
    acts_by (plain writes_text) c.in-Print.is (acts_writing c.args.self.now c.requires.limits (λ files ls. refl) c.act_write.ensures)

pub returns-in-PrintFirst : goal.returns-in-PrintFirst
returns-in-PrintFirst g c = λ writes_text.
    acts_by (plain writes_text) c.in-PrintFirst.is (acts_writing c.args.self.now c.requires.limits (λ files ls. refl)
    (writes_seen c.self-in-PrintFirst.inside c.args.self.now (λ (e : RunState). line_to 0 (before_first is_newline e.state.pattern)) c.self-in-PrintFirst.view_is (rw c.first_line.ensures.value at c.write_all.ensures)))

pub act_hold-requires : goal.act_hold-requires
act_hold-requires g c = fills c.args.self.now.script c.args.k (Plain c.args.simple) c.requires.action (ap (λ s. keeps_in_hold (Plain s)) c.in-Hold.is)

pub act_hold_more-requires : goal.act_hold_more-requires
act_hold_more-requires g c = fills c.args.self.now.script c.args.k (Plain c.args.simple) c.requires.action (ap (λ s. keeps_in_hold (Plain s)) c.in-HoldMore.is)

pub act_exchange-requires-clause-holds : goal.act_exchange-requires-clause-holds
act_exchange-requires-clause-holds g c = fills c.args.self.now.script c.args.k (Plain c.args.simple) c.requires.action (ap (λ s. keeps_in_hold (Plain s)) c.in-Exchange.is)
