-- Private to the proofs: no contract of a public item cites what is here.
-- The fields of the machine, and what they stand for.
use Rattle.std.specs.Prelude.{◌≡◌, ℕ, ◌<◌, ◌≤◌, None, List, [], ◌∷◌, length, IfSome}
use Rattle.sedscript.specs.Ranges.{IsOneOf}
use Rattle.sedacts.specs.State.{Task, begin, rebegin, do_at, print_pattern, flush}
use Rattle.sedacts.specs.Run.{RunState}
use Rattle.sedacts.specs.Fitting.{AllFit, RoomToSeek, Seek}
use Rattle.sedacts.specs.Idle.{IsIdleOf}
use Rattle.sedengine.specs.declared.next_step.NextStep.{NextStep}
use Rattle.sedengine.specs.declared.next_step.NextStep.TheVariants as p
use Rattle.sedengine.specs.declared.machine.Machine.TheInside.{Inside}
use Rattle.sedacts.specs.Keeping.{AllQueue, FillsHold, entries_of}

-- the tasks that a next step stands for
abbrev pub tasks_of : NextStep → List Task
tasks_of p.Begin = begin ∷ []
tasks_of p.Rebegin = rebegin ∷ []
tasks_of (p.Do k) = do_at k ∷ []
tasks_of p.WriteLast = print_pattern ∷ flush ∷ []
tasks_of p.Ended = []

abbrev pub run_state_of : Inside → RunState
run_state_of a = record {
  script = a.script;
  limits = a.limits;
  state = record {
    lines = [];
    number = a.number;
    pattern = a.pattern.bytes;
    hold = a.hold.bytes;
    replaced = a.replaced;
    queue = entries_of a.script a.queue.items;
    ranges = a.ranges.items;
    used = a.used;
    tasks = tasks_of a.next_step;
    turns = a.turns;
  };
  sent = [];  -- what the sinks gained and how the run ended is kept beside the machine
  ended = None;
}

-- The pattern space is empty where the next line is to replace it.
abbrev pub IsEmptied : NextStep → List ℕ → Type 0
IsEmptied p.Begin bytes = bytes ≡ []
IsEmptied other bytes = Unit {0}

pub record IsConsistent (a : Inside) : Type 0 where
  pub number : a.number ≤ a.turns
  pub turns : a.turns ≤ a.limits.turns
  pub pattern_limit : a.pattern.limit ≡ a.limits.space
  pub pattern : length a.pattern.bytes ≤ a.limits.space
  pub hold_limit : FillsHold a.script → a.hold.limit ≡ a.limits.space
  pub hold : length a.hold.bytes ≤ a.limits.space
  pub build_limit : 0 < length a.script.substitutions → a.build.limit ≡ a.limits.space
  pub build_within : a.build.limit ≤ a.limits.space
  pub copy_limit : 0 < length a.script.rfiles → a.build.limit ≡ a.limits.space
  pub queue_limit : a.queue.limit ≡ a.limits.queue
  pub queue : length a.queue.items ≤ a.limits.queue
  pub queued : AllQueue a.script a.queue.items
  pub empty : IsEmptied a.next_step a.pattern.bytes
  pub ranges : length a.ranges.items ≡ length a.script.commands
  pub used : IsOneOf (length a.script.expressions) a.used
  pub scratch_text : 0 < length a.script.expressions → a.scratch.text ≡ a.limits.space
  pub scratch_nodes : AllFit a.scratch.nodes a.matchers.items
  pub matchers : Seek a.script.expressions a.limits.nodes a.matchers.items
  pub seeking : RoomToSeek a.script.substitutions a.script.expressions a.limits.space a.seeking
  pub nodes : a.script.max_nodes ≤ a.limits.nodes
  pub idle : IfSome a.idle (IsIdleOf a.script)
