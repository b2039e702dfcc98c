use Rattle.std.proofs.Common.{rules, Some, ap, refl}
use Rattle.sedacts.specs.Run.{RunState}
use Rattle.sedengine.specs.Judging.{with_used}
use Rattle.sedacts.proofs.Fitting.{sought, sought_at}
use Rattle.sedacts.proofs.Streams.{names_ok}
use Rattle.sedengine.proofs.Tried.{answered, tried_within, tried_short}
use Rattle.sedengine.proofs.machine.Machine.finds.Goals as goal

pub finds-requires-clause-number : goal.finds-requires-clause-number
finds-requires-clause-number c =
    let a = c.self.inside in
    sought_at a.script.expressions a.limits.nodes a.matchers.items c.in-Some.k c.self.invariant.matchers
    (tried_within a c.args.self.now c.args.named c.in-Some.k c.self.view_is c.self.invariant c.requires c.in-Some.ensures)

pub finds-requires-clause-fit : goal.finds-requires-clause-fit
finds-requires-clause-fit c = c.self.invariant.scratch_nodes

pub returns-in-None : goal.returns-in-None
returns-in-None c = record { answers = search rules; devices = record { output = tt; input = λ is. cc }; same = refl; err = refl }

pub returns-in-Some : goal.returns-in-Some
returns-in-Some c = record {
  answers = λ last.
      let a = c.self.inside in
      answered a c.args.self.now c.args.named c.in-Some.k a.matchers.items c.finds.result last c.self.view_is
      (sought a.script.expressions a.limits.nodes a.matchers.items c.self.invariant.matchers) c.in-Some.ensures c.finds.ensures.finds;
  devices = names_ok;
  same = ap (λ (e : RunState). with_used e (Some c.in-Some.k)) c.self.view_is;
  err = tt;
}

pub finds-requires-clause-text : goal.finds-requires-clause-text
finds-requires-clause-text c = tried_short c.self.inside c.in-Some.k c.self.invariant (tried_within c.self.inside c.args.self.now c.args.named c.in-Some.k c.self.view_is c.self.invariant c.requires c.in-Some.ensures)
