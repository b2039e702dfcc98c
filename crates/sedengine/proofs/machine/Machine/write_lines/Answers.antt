use Rattle.std.proofs.Common.{◌≡◌, Bool, ℕ, List, Result, Ok, Err, false, rules}
use Rattle.sedacts.specs.Meters.{SinkView}
use Rattle.sedacts.specs.Calls.{PutsPart}
use Rattle.sedengine.specs.Passing.{PutsLines}
use Rattle.sedacts.specs.declared.meter.CutShort.{CutShort}
use Rattle.sedengine.proofs.machine.Machine.write_lines.Goals as goal

-- lines are written where default output isn't suppressed
lines_written : (old new : SinkView) (quiet : Bool) (bytes : List ℕ) (r : Result Unit CutShort) → quiet ≡ false → PutsPart old new 0 bytes r → PutsLines old new quiet bytes r
lines_written old new quiet bytes (Ok u) loud h = rw loud h
lines_written old new quiet bytes (Err cut) loud h = (loud, h)

pub returns : goal.returns
returns g c = record {
  puts = let loud : c.args.self.now.script.quiet ≡ false = search rules in
      lines_written _ _ c.args.self.now.script.quiet c.args.bytes.now c.write_part.result loud c.write_part.ensures.puts;
  devices = c.write_part.ensures.devices;
}

pub write_part-requires : goal.write_part-requires
write_part-requires g c = c.requires
