use Rattle.std.proofs.Common.{◌≡◌, ◌+◌, ◌++◌, ℕ, take}
use Rattle.sededit.proofs.program.create_files.Given as goal

-- a sink more for each name gone by, and nothing else has changed
abbrev pub invariant-loop-name : goal.invariant-loop-name
invariant-loop-name g l = record {
  count : g.O.Outputs.count l.sinks ≡ 1 + l.name-index;
  names : g.O.Outputs.names l.sinks ≡ g.O.Outputs.names l.fn.sinks ++ take l.name-index l.script.wfiles;
  contents : (k : ℕ) → g.O.Outputs.contents l.sinks k ≡ g.O.Outputs.contents l.fn.sinks k;
  failed : (k : ℕ) → g.O.Outputs.failures l.sinks k ≡ g.O.Outputs.failures l.fn.sinks k;
}
