use Rattle.std.proofs.Common.{refl}
use Rattle.sedengine.proofs.Passes.{nothing_passed}
use Rattle.sedacts.proofs.Streams.{ReadsLines-none}
use Rattle.sedacts.proofs.DecidingGroups.{le_same}
use Rattle.sedacts.proofs.Writing.{Delivers-none}
use Rattle.sedengine.proofs.machine.Machine.pass_over.Goals as goal

pub returns-then-may_pass : goal.returns-then-may_pass
returns-then-may_pass g c = rw (← c.may_pass.ensures.same) c.pass_ahead.ensures

pub returns : goal.returns
returns g c = record {
  steps = λ ls known files.
      nothing_passed g.R.ByteSource.remaining c.args.lines.now ls c.args.self.now c.may_pass.new.self _ _ known (c.is_within_limits.ensures ls) c.may_pass.ensures.same;
  input = ReadsLines-none _ _ _ _;
  output = Delivers-none _ _ _;
  falls = rw c.may_pass.ensures.same le_same;
  same = rw c.may_pass.ensures.same (record { script = refl; same_limits = refl });
}

pub pass_ahead-requires : goal.pass_ahead-requires
pass_ahead-requires g c = record {
  begins = rw c.may_pass.ensures.same (c.may_pass.ensures.begins c.if-may_pass.true);
  emptied = rw c.may_pass.ensures.same (c.may_pass.ensures.emptied c.if-may_pass.true);
  limits = rw c.may_pass.ensures.same c.is_within_limits.ensures;
  sink = c.requires;
}
