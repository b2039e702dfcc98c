use Rattle.sedacts.proofs.Writing.{PutsBytes-cut}
use Rattle.sedacts.proofs.meter.MeteredMeteredSinks.write_all.Goals as goal

pub returns-in-Err : goal.returns-in-Err
returns-in-Err g c = record {
  puts = let w = c.in-Err.ensures.puts in
      PutsBytes-cut _ _ c.args.sink c.in-Err.cut.done c.args.bytes.now c.in-Err.cut.end w.1 w.0 w.2;
  devices = c.in-Err.ensures.devices;
}
