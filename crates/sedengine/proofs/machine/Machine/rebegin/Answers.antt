use Rattle.std.proofs.Common.{sym, ap, refl, ◌∙◌, ◌+◌, ◌∷◌, []}
use Rattle.sedacts.specs.Run.{RunState}
use Rattle.sedacts.specs.State.{do_at}
use Rattle.sedengine.proofs.Ending.{rebegins, rebegin_spent}
use Rattle.sedengine.proofs.Runs.{same_seen}
use Rattle.sedacts.proofs.Streams.{names_ok, names_spent}
use Rattle.sedengine.proofs.Tasks.{rebegun_falls}
use Rattle.sedengine.proofs.machine.Machine.rebegin.Goals as goal

pub returns-then-self-turns : goal.returns-then-self-turns
returns-then-self-turns c = record {
  moves = λ files ls sinks.
      rebegin_spent c.self.inside c.args.self.now _ ls sinks c.self.view_is c.self.invariant c.requires (c.if-self-turns.true ∙ c.turns.ensures);
  devices = names_spent;
  falls = tt;
  same = record { script = refl; same_limits = refl };
}

pub returns : goal.returns
returns c = record {
  moves = λ files ls sinks.
      rebegins c.self.inside c.args.self.now _ ls sinks _ c.self.view_is c.self.invariant c.requires (λ e. c.if-self-turns.false (e ∙ sym c.turns.ensures))
      (ap (λ (e : RunState). record e { state = record e.state { tasks = do_at 0 ∷ []; turns = e.state.turns + 1 } }) c.self.view_is);
  devices = names_ok;
  falls = rebegun_falls c.self.inside c.args.self.now c.self.view_is c.self.invariant c.requires (λ e. c.if-self-turns.false (e ∙ sym c.turns.ensures));
  same = same_seen c.self.inside c.args.self.now _ c.self.view_is refl refl;
}
