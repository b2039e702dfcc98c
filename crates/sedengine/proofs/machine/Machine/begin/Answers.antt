use Rattle.std.proofs.Common.{Bool, ◌∙◌, refl, sym, ap, Ok, Err}
use Rattle.sedspace.specs.declared.lines.Got.{Got}
use Rattle.sedengine.proofs.Runs.{same_seen}
use Rattle.sedacts.proofs.Streams.{broken_long, kept_long, last_shown, names_long, names_ok, names_spent, reads_broken, reads_long, reads_shown, some_shown}
use Rattle.sedengine.specs.declared.next_step.NextStep.TheVariants as p
use Rattle.sedengine.proofs.Tasks.{begun_falls, begun_is_run, ended_falls, placed, begins_last, begins_none, begins_takes, begins_stops, begins_spent, begins_broken, begins_failed}
use Rattle.sedengine.proofs.machine.Machine.begin.Goals as goal

pub returns-in-Ok-true : goal.returns-in-Ok-true
returns-in-Ok-true g c = record {
  steps = λ sound ls known files sinks.
      let w = c.is_last.ensures in
      let none = last_shown _ ls c.in-Ok-true.field-0 known c.in-Ok-true.ensures.last c.in-Ok-true.field-0-test in
      begins_last g.R.ByteSource.remaining c.args.lines.now c.is_last.new.self c.self.inside _ c.self.view_is c.self.invariant c.requires ls known files sinks
      none w.lines w.left;
  reads = let w = c.in-Ok-true.ensures in
      reads_shown _ _ c.in-Ok-true.field-0 _ names_ok w.reads w.taken w.fault w.failed;
  falls = ended_falls c.self.inside c.args.self.now c.self.inside.pattern c.self.view_is c.requires;
  same = same_seen c.self.inside c.args.self.now _ c.self.view_is refl refl;
}

pub returns-in-Ok-false : goal.returns-in-Ok-false
returns-in-Ok-false g c = record {
  steps = λ sound ls known files sinks.
      let w = c.is_last.ensures in
      let some = some_shown _ ls c.in-Ok-false.field-0 known c.in-Ok-false.ensures.last c.in-Ok-false.field-0-test in
      begins_spent g.R.ByteSource.remaining c.args.lines.now c.is_last.new.self c.self.inside _ c.self.view_is c.self.invariant c.requires ls known files sinks
      some (c.if-self-turns.true ∙ c.turns.ensures) w.left;
  reads = let w = c.in-Ok-false.ensures in
      reads_shown _ _ c.in-Ok-false.field-0 _ names_spent w.reads w.taken w.fault w.failed;
  falls = tt;
  same = record { script = refl; same_limits = refl };
}

pub returns-in-Err : goal.returns-in-Err
returns-in-Err g c = record {
  steps = λ sound ls known files sinks.
      let w = c.is_last.ensures in
      begins_failed g.R.ByteSource.remaining c.args.lines.now c.is_last.new.self c.self.inside _ c.self.view_is c.self.invariant c.requires ls known files sinks
      w.left;
  reads = let w = c.in-Err.ensures in
      reads_broken Bool _ c.in-Err.field-0 (kept_long Bool w.too_long) w.reads w.taken w.failed (λ is. w.broken (ap Err is));
  falls = tt;
  same = record { script = refl; same_limits = refl };
}

pub returns-in-Ok-Line : goal.returns-in-Ok-Line
returns-in-Ok-Line g c = record {
  steps = λ sound ls known files sinks.
      let w = c.in-Ok-Line.ensures in
      let h = w.line (ap Ok c.in-Ok-Line.field-0-is) in
      begins_takes g.R.ByteSource.remaining c.args.lines.now c.next_into.new.self c.self.inside _ c.self.view_is c.self.invariant c.requires ls known files sinks
      c.next_into.new.space h.0 (λ e. c.if-self-turns.false (e ∙ sym c.turns.ensures)) h.1 w.fits h.2 h.3;
  reads = let w = c.in-Ok-Line.ensures in
      reads_shown _ _ c.in-Ok-Line.field-0 _ names_ok w.reads w.taken w.fault w.failed;
  falls = begun_falls c.self.inside c.args.self.now c.next_into.new.space c.self.view_is c.self.invariant c.requires (λ e. c.if-self-turns.false (e ∙ sym c.turns.ensures));
  same = same_seen c.self.inside c.args.self.now _ c.self.view_is refl refl;
}

pub returns-in-Ok-End : goal.returns-in-Ok-End
returns-in-Ok-End g c = record {
  steps = λ sound ls known files sinks.
      let w = c.in-Ok-End.ensures in
      let h = w.end (ap Ok c.in-Ok-End.field-0-is) in
      begins_none g.R.ByteSource.remaining c.args.lines.now c.next_into.new.self c.self.inside _ c.self.view_is c.self.invariant c.requires ls known files sinks
      _ c.next_into.new.space h.0 w.taken h.1 h.2;
  reads = let w = c.in-Ok-End.ensures in
      reads_shown _ _ c.in-Ok-End.field-0 _ names_ok w.reads w.taken w.fault w.failed;
  falls = ended_falls c.self.inside c.args.self.now c.next_into.new.space c.self.view_is c.requires;
  same = same_seen c.self.inside c.args.self.now _ c.self.view_is refl refl;
}

pub returns-in-Err-TooLong : goal.returns-in-Err-TooLong
returns-in-Err-TooLong g c = record {
  steps = λ sound ls known files sinks.
      let w = c.in-Err-TooLong.ensures in
      begins_stops g.R.ByteSource.remaining c.args.lines.now c.next_into.new.self c.self.inside _ c.self.view_is c.self.invariant c.requires ls known files sinks
      c.next_into.new.space w.err.0 (λ e. c.if-self-turns.false (e ∙ sym c.turns.ensures)) (w.too_long (ap Err c.in-Err-TooLong.field-0-is) sound) w.err.1;
  reads = let w = c.in-Err-TooLong.ensures in
      reads_long Got _ c.in-Err-TooLong.field-0 _ c.in-Err-TooLong.field-0-is names_long w.reads w.taken w.failed;
  falls = tt;
  same = same_seen c.self.inside c.args.self.now _ c.self.view_is refl refl;
}

pub returns-in-Err-Broken : goal.returns-in-Err-Broken
returns-in-Err-Broken g c = record {
  steps = λ sound ls known files sinks.
      let w = c.in-Err-Broken.ensures in
      begins_broken g.R.ByteSource.remaining c.args.lines.now c.next_into.new.self c.self.inside _ c.self.view_is c.self.invariant c.requires ls known files sinks
      c.next_into.new.space w.err.0 (rw c.self.invariant.pattern_limit at w.err.1);
  reads = let w = c.in-Err-Broken.ensures in
      reads_broken Got _ c.in-Err-Broken.field-0 (broken_long c.in-Err-Broken.field-0-is) w.reads w.taken w.failed (λ is sound. (w.broken (ap Err is) sound).0);
  falls = tt;
  same = same_seen c.self.inside c.args.self.now _ c.self.view_is refl refl;
}

pub invariant_of-self : goal.invariant_of-self
invariant_of-self g c = placed c.self.inside c.self.inside.pattern p.Ended c.self.invariant refl c.self.invariant.pattern tt

pub invariant_of-self-in-Ok-End : goal.invariant_of-self-in-Ok-End
invariant_of-self-in-Ok-End g c =
    let w = c.in-Ok-End.ensures.end (ap Ok c.in-Ok-End.field-0-is) in
    rw w.0 (placed c.self.inside c.self.inside.pattern p.Ended c.self.invariant refl c.self.invariant.pattern tt)

pub invariant_of-self-in-Err-TooLong : goal.invariant_of-self-in-Err-TooLong
invariant_of-self-in-Err-TooLong g c = rw c.in-Err-TooLong.ensures.err.0 c.self.invariant

pub invariant_of-self-in-Err-Broken : goal.invariant_of-self-in-Err-Broken
invariant_of-self-in-Err-Broken g c = rw c.in-Err-Broken.ensures.err.0 c.self.invariant

pub invariant_of-self-in-Ok-Line : goal.invariant_of-self-in-Ok-Line
invariant_of-self-in-Ok-Line g c =
    let w = c.in-Ok-Line.ensures in
    let h = w.line (ap Ok c.in-Ok-Line.field-0-is) in
    begun_is_run c.self.inside c.next_into.new.space h.0 c.self.invariant (λ e. c.if-self-turns.false (e ∙ sym c.turns.ensures)) h.1 w.fits
