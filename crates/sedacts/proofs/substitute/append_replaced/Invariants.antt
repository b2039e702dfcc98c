use Rattle.std.proofs.Common.{◌≡◌, ◌≤◌, ℕ, ◌+◌, ◌-◌, ◌*◌, ◌++◌, Option, Some, None, length}
use Rattle.std.specs.Prelude.{IfSome}
use Rattle.sedmatch.specs.Occurrences.{KeepsRoom, ServesFrom, owed, owed_after}
use Rattle.sedacts.specs.Substitute.{replaced_from}
use Rattle.sedacts.specs.SubstituteParts.{GroupsOf, names_group, later_cost, owed_groups, owed_groups_after, pending}
use Rattle.sedacts.proofs.substitute.append_replaced.Given as goal

-- what the groups of one occurrence take at most, for m nodes and n bytes
abbrev each : ℕ → ℕ → ℕ
each m n = 51 * m * m * (n + 1) * (n + 1)

abbrev pub invariant-occurrences : goal.invariant-occurrences
invariant-occurrences l = record {
  matcher : l.matcher ≡ l.fn.matcher;
  scratch : l.scratch ≡ l.fn.scratch;
  kept : KeepsRoom l.fn.matcher l.fn.seeking l.seeking;
  serves : IfSome l.occurrence (λ f. ServesFrom l.fn.matcher l.text (Some f.1) l.seeking);
  grows : l.fn.findings.steps ≤ l.findings.steps;
  cost : l.findings.steps + owed_after (length l.fn.matcher.nodes) (length l.text) l.occurrence l.seeking
      ≤ l.fn.findings.steps + owed (length l.fn.matcher.nodes) (length l.text) (Some l.fn.first.1) l.fn.seeking;
  groups_grow : l.fn.findings.group_steps ≤ l.findings.group_steps;
  group_cost : l.findings.group_steps
      + later_cost (each (length l.fn.matcher.nodes) (length l.text)) (pending l.fn.matcher l.text l.substitution.global l.occurrence)
      ≤ l.fn.findings.group_steps
      + later_cost (each (length l.fn.matcher.nodes) (length l.text)) (pending l.fn.matcher l.text l.substitution.global (Some l.fn.first));
  linear_group_cost : l.findings.group_steps + owed_groups_after l.fn.matcher (length l.text) l.occurrence
      ≤ l.fn.findings.group_steps + owed_groups l.fn.matcher (length l.text) (Some l.fn.first.1);
  limit : l.build.limit ≡ l.fn.build.limit;
  copied : l.copied ≤ length l.text;
  lies : IfSome l.occurrence (λ span. (l.copied ≤ span.0) × (span.0 ≤ span.1) × (span.1 ≤ length l.text));
  groups : GroupsOf l.fn.matcher l.text (names_group l.substitution.replacement) l.occurrence l.findings.groups;
  made : l.build.bytes ++ replaced_from l.text l.substitution.replacement l.copied
      (pending l.fn.matcher l.text l.substitution.global l.occurrence)
      ≡ l.fn.build.bytes ++ replaced_from l.text l.substitution.replacement 0
      (pending l.fn.matcher l.text l.substitution.global (Some l.fn.first));
}

-- how many places an occurrence leaves after it in a text of n bytes
abbrev places_left : ℕ → Option (ℕ × ℕ) → ℕ
places_left n None = 0
places_left n (Some span) = n + 1 - span.1

abbrev pub decreases-occurrences : goal.decreases-occurrences
decreases-occurrences l = places_left (length l.text) l.occurrence
