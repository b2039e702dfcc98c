-- Private to the proofs: no contract that `sedengine` makes public cites what is here.
-- The parts of a machine at the start of a run.
use Rattle.std.specs.Prelude.{◌≡◌, ◌<◌, ◌≤◌, false, [], length, replicate, IfSome}
use Rattle.sedscript.specs.Program.{Program}
use Rattle.sedacts.specs.State.{LimitsView}
use Rattle.sedacts.specs.Fitting.{AllFit, RoomToSeek, Seek}
use Rattle.sedacts.specs.Keeping.{FillsHold}
use Rattle.sedacts.specs.Idle.{IsIdleOf}
use Rattle.sedacts.specs.declared.parts.Parts.{Parts}
use Rattle.sedacts.specs.declared.parts.Store.{Store}
use Rattle.sedacts.specs.declared.parts.Seekers.{Seekers}

-- spaces and a queue that are empty, with as much room as the script needs
abbrev pub IsStore : Program → LimitsView → Store → Type 0
IsStore p l s = (s.pattern ≡ record { bytes = []; limit = l.space })
    × (s.hold.bytes ≡ []) × (FillsHold p → s.hold.limit ≡ l.space)
    × (0 < length p.substitutions → s.build.limit ≡ l.space) × (s.build.limit ≤ l.space)
    × (0 < length p.rfiles → s.build.limit ≡ l.space)
    × (s.queue ≡ record { items = []; limit = l.queue })

-- matchers for the script's expressions, with room for their searches
abbrev pub AreSeekers : Program → LimitsView → Seekers → Type 0
AreSeekers p l s = Seek p.expressions l.nodes s.matchers.items
    × (0 < length p.expressions → s.scratch.text ≡ l.space) × AllFit s.scratch.nodes s.matchers.items
    × RoomToSeek p.substitutions p.expressions l.space s.seeking

-- all of them, what was found out of the commands, and no range active
abbrev pub AreEngineParts : Program → LimitsView → Parts → Type 0
AreEngineParts p l s = (s.ranges.items ≡ replicate (length p.commands) false) × IfSome s.idle (IsIdleOf p)
    × IsStore p l s.store × AreSeekers p l s.seekers
