-- Private to the proofs: no contract of a public item cites what is here.
-- What the engine's calls for a substitution promise one another.
use Rattle.std.specs.Prelude.{◌≡◌, ℕ, ◌<◌, ◌≤◌, Bool, true, false, Option, Some, None, Result, Ok, Err, OnErr, List, [], ◌++◌, length, slice_get, if◌then◌else◌}
use Rattle.std.specs.Option.{option_map_or}
use Rattle.sedacts.specs.Types.{Substitution}
use Rattle.sedacts.specs.declared.ends.Ended.{Ended}
use Rattle.sedacts.specs.declared.ends.Ended.TheVariants.{PatternFull, NoPrevious}
use Rattle.sedspace.specs.declared.errors.Full.{Full}
use Rattle.sedspace.specs.Spaces.{SpaceView}
use Rattle.sedacts.specs.State.{LimitsView, MachineState, Move, Setting}
use Rattle.sedacts.specs.Substitute.{Occurrence, each_occurrence, to_replace, replaced_from}
use Rattle.sedacts.specs.Move.{line_to, quietly, substitutes, writing}
use Rattle.sedacts.specs.Calls.{NamesNone}
use Rattle.sedacts.specs.Steps.{Leads}
use Rattle.sedacts.specs.Run.{RunState, at_lines, run_setting}

-- what a substitution that made the text w writes, by its flags `p` and `w`
abbrev pub written_by : Substitution → List ℕ → List (ℕ × ℕ)
written_by t w = (if t.print then line_to 0 w else []) ++ option_map_or (λ k. line_to k w) t.file []

-- what the substitution of number k writes of the pattern space
abbrev pub written_of : RunState → ℕ → List (ℕ × ℕ)
written_of e k = option_map_or (λ t. written_by t e.state.pattern) (slice_get e.script.substitutions k) []

-- the occurrences in a text that a substitution with the expression e replaces
abbrev pub to_replace_in : Setting → Substitution → ℕ → List ℕ → List Occurrence
to_replace_in g t e w = to_replace t.number t.global (each_occurrence (g.search e w) (length w))

-- A call replaces these occurrences in a space, and says whether there are any. Where there are none the space stays as
-- it was; Full where it has no room for what would be made.
abbrev pub ReplacesIn : Substitution → List Occurrence → SpaceView → SpaceView → Result Bool Full → Type 0
ReplacesIn t ms old new (Ok false) = (ms ≡ []) × (new ≡ old)
ReplacesIn t ms old new (Ok true) =
    (0 < length ms) × (new ≡ record old { bytes = replaced_from old.bytes t.replacement 0 ms })
ReplacesIn t ms old new (Err f) =
    (0 < length ms) × (old.limit < length (replaced_from old.bytes t.replacement 0 ms))

-- What a call answers that makes the move o of a substitution, but for its writing: whether anything was replaced.
abbrev pub MakesSubstitution : LimitsView → Option Move → Substitution → MachineState → MachineState → Result Bool Ended → Type 0
MakesSubstitution l o t s now (Ok false) = o ≡ quietly now
MakesSubstitution l o t s now (Ok true) = o ≡ writing (written_by t now.pattern) now
MakesSubstitution l o t s now (Err (NoPrevious n)) = (o ≡ None) × (n ≡ s.number)
MakesSubstitution l o t s now (Err (PatternFull n)) = Leads o (λ m. l.space < length m.next.pattern) × (n ≡ s.number)
MakesSubstitution l o t s now (Err _) = ⊥

-- the engine with nothing changed but what a substitution may change
abbrev pub same_but_replaced : RunState → MachineState → RunState
same_but_replaced e s = record e {
  state = record e.state { pattern = s.pattern; used = s.used; replaced = s.replaced };
}

-- What a call answers that makes the move of the substitution of number k, but for its writing. At an end the pattern space stays.
pub record ReplacesOccurrences (k : ℕ) (old new : RunState) (result : Result Bool Ended) : Type 0 where
  pub makes : (t : Substitution) → slice_get old.script.substitutions k ≡ Some t → (files : ℕ → List ℕ) (ls : List (List ℕ)) →
      MakesSubstitution old.limits (substitutes (run_setting old files) (at_lines old ls) (Some t)) t (at_lines old ls) (at_lines new ls) result
  pub err : OnErr result (new.state.pattern ≡ old.state.pattern)
  pub devices : NamesNone result
  pub fits : length new.state.pattern ≤ new.limits.space
  pub same : new ≡ same_but_replaced old new.state
