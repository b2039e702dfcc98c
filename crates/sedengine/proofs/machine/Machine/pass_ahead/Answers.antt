use Rattle.std.proofs.Common.{rules, refl, List, ℕ, length-drop, subst, take, arith}
use Rattle.sedspace.specs.Stream.{AreWholeLines}
use Rattle.sedacts.proofs.Streams.{names_ok, ReadsLines-none}
use Rattle.sedacts.proofs.DecidingGroups.{le_same}
use Rattle.sedacts.proofs.Writing.{Delivers-none}
use Rattle.sedengine.proofs.Passes.{breaks_seen, brought_same, counted_falls, counted_same, nothing_passed, passes_seen, reads_ahead, reads_broken}
use Rattle.sedengine.proofs.machine.Machine.pass_ahead.Goals as goal

pub returns-in_default : goal.returns-in_default
returns-in_default g c = record {
  steps = λ ls known files.
      nothing_passed g.R.ByteSource.remaining c.args.lines.now ls c.args.self.now c.find_block.new.self _ _ known (c.requires.limits ls) c.in_default.ensures.same;
  input = ReadsLines-none _ _ _ _;
  output = Delivers-none _ _ _;
  falls = rw c.in_default.ensures.same le_same;
  same = rw c.in_default.ensures.same (record { script = refl; same_limits = refl });
}

pub returns-in-Ok : goal.returns-in-Ok
returns-in-Ok g c = record {
  steps = λ ls known files.
      passes_seen g.R.ByteSource.remaining c.args.lines.now c.take_lines.new.self ls c.args.self.now c.find_block.new.self c.count_block.new.self files c.in-Some.block c.ahead-ahead.result.now _ _ known c.in-Some.ensures.same c.ahead-ahead.ensures.value c.in-Some.ensures.block
      (c.requires.limits ls) c.requires.begins c.requires.emptied c.take_lines.ensures.taken c.count_block.ensures c.in-Ok.ensures.puts;
  input = reads_ahead g.R.ByteSource.remaining g.R.ByteSource.failures g.R.ByteSource.reference c.args.lines.now c.take_lines.new.self _ _ c.take_lines.ensures.taken (omega (arith, length-drop c.in-Some.block.bytes c.args.lines.now.ahead)) (names_ok {x = tt {0}}).input;
  output = c.in-Ok.ensures.devices;
  falls = counted_falls c.args.self.now c.find_block.new.self c.count_block.new.self c.in-Some.block c.count_block.ensures c.in-Some.ensures.same;
  same = counted_same c.args.self.now c.find_block.new.self c.count_block.new.self c.in-Some.block c.count_block.ensures c.in-Some.ensures.same;
}

pub returns-in-Err : goal.returns-in-Err
returns-in-Err g c = record {
  steps = λ ls known files.
      breaks_seen g.R.ByteSource.remaining c.args.lines.now c.break_off.new.lines ls c.args.self.now c.find_block.new.self c.break_off.new.self files c.in-Some.block c.ahead-ahead.result.now c.in-Err.cut _ _ known c.in-Some.ensures.same c.ahead-ahead.ensures.value c.in-Some.ensures.block
      (c.requires.limits ls) c.requires.begins c.requires.emptied c.break_off.ensures c.in-Err.ensures.puts;
  input = reads_broken g.R.ByteSource.remaining g.R.ByteSource.failures g.R.ByteSource.reference c.args.lines.now c.break_off.new.lines c.find_block.new.self c.break_off.new.self c.in-Err.cut.done c.in-Some.block.bytes c.in-Err.cut.end c.break_off.ensures c.in-Err.ensures.puts.1.1;
  output = c.in-Err.ensures.devices;
  falls = tt;
  same = brought_same c.args.self.now c.find_block.new.self c.break_off.new.self c.break_off.ensures.0.line c.break_off.ensures.0.brought c.in-Some.ensures.same;
}

pub take_lines-requires : goal.take_lines-requires
take_lines-requires g c = record {
  within = rw (← c.ahead-ahead.ensures.value) c.in-Some.ensures.block.within;
  whole = subst (λ (w : List ℕ). AreWholeLines (take c.in-Some.block.bytes w)) c.ahead-ahead.ensures.value c.in-Some.ensures.block.whole;
}

pub break_off-requires : goal.break_off-requires
break_off-requires g c = record {
  within = rw (← c.ahead-ahead.ensures.value) c.in-Some.ensures.block.within;
  whole = subst (λ (w : List ℕ). AreWholeLines (take c.in-Some.block.bytes w)) c.ahead-ahead.ensures.value c.in-Some.ensures.block.whole;
  short = rw c.in-Some.ensures.same c.in-Some.ensures.block.short;
  done = search rules;
}

pub count_block-requires : goal.count_block-requires
count_block-requires g c = record {
  turns = rw c.in-Some.ensures.same c.in-Some.ensures.block.turns;
  few = c.in-Some.ensures.block.few;
  judged = rw c.in-Some.ensures.same c.in-Some.ensures.block.one;
}
