use Rattle.std.proofs.Common.{◌≡◌, drop}
use Rattle.sedfiles.specs.MemoryFiles.{file_of}
use Rattle.sedfiles.proofs.memory_inputs.find.Given as goal

-- the files that were passed by have another name
abbrev pub invariant-loop-k : goal.invariant-loop-k
invariant-loop-k l = file_of (drop l.k l.files) l.name ≡ file_of l.files l.name
