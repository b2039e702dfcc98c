-- Private to the proofs: no contract that `sedengine` makes public cites what is here.
-- What the parts of a substitution answer.
use Rattle.std.specs.Prelude.{◌≡◌, ℕ, ◌+◌, ◌-◌, ◌*◌, ◌<◌, List, [], ◌∷◌, ◌++◌, length, drop, Bool, true, false, Option, Some, None, option_map, IfSome, Result, Ok, Err, if◌then◌else◌}
use Rattle.sedre.specs.Tree.{WrittenExpression, expression_tree}
use Rattle.sedmatch.specs.Groups.{SpansOfGroups, group_depth, span_of}
use Rattle.sedmatch.specs.Matching.{next_match, reported_groups}
use Rattle.sedmatch.specs.Answer.{SpanIn}
use Rattle.sedmatch.specs.Following.{EndsWithin, LiesOn}
use Rattle.sedmatch.specs.Occurrences.{KeepsRoom, ServesFrom, owed}
use Rattle.sedmatch.specs.SearchRoom.{SearchRoom}
use Rattle.sedmatch.specs.declared.occurrences.Occurrences.{Occurrences}
use Rattle.sedacts.specs.Types.{Piece, group}
use Rattle.sedspace.specs.Spaces.{SpaceView}
use Rattle.sedspace.specs.declared.errors.Full.{Full}
use Rattle.sedacts.specs.Substitute.{Occurrence, occurrences_from, each_occurrence, replaced_from}
use Rattle.sedacts.specs.State.{occurrence_at_span, search_for}

-- The next occurrence in a text of n bytes, after one that ended at a place, where there was one; `search` gives the match
-- sought from a place.
abbrev pub next_occurrence : (ℕ → Option Occurrence) → ℕ → Option ℕ → Option Occurrence
next_occurrence search n last = next_match (λ m. (m.start, m.end)) search n last

-- what a substitution answers where these occurrences are to be replaced in the text w: whether there are any, and then
-- the text made; Full where that would be longer than the space
abbrev pub ReplacesThese : List ℕ → List Piece → List Occurrence → ℕ → List ℕ → Result Bool Full → Type 0
ReplacesThese w ps ms limit made (Ok false) = ms ≡ []
ReplacesThese w ps ms limit made (Ok true) = (0 < length ms) × (made ≡ replaced_from w ps 0 ms)
ReplacesThese w ps ms limit made (Err f) = (0 < length ms) × (limit < length (replaced_from w ps 0 ms))

-- bytes were appended to a space, or they don't fit
abbrev pub Appends : SpaceView → SpaceView → List ℕ → Result Unit Full → Type 0
Appends old new bytes (Ok u) = new ≡ record old { bytes = old.bytes ++ bytes }
Appends old new bytes (Err f) = (old.limit < length old.bytes + length bytes) × (new.limit ≡ old.limit)

-- whether one of the pieces is a group of the match
abbrev pub names_group : List Piece → Bool
names_group [] = false
names_group (group k ∷ ps) = true
names_group (other ∷ ps) = names_group ps

-- every group's span lies in a text of n bytes
abbrev pub GroupsIn : ℕ → SpansOfGroups → Type 0
GroupsIn n groups = (k : ℕ) → SpanIn n (span_of groups k)

-- the match with this span and these groups
abbrev pub with_groups : ℕ × ℕ → SpansOfGroups → Occurrence
with_groups span groups = record { start = span.0; end = span.1; groups = groups }

-- where they are wanted, the groups are those of the occurrence that has the span, if there is one, and lie in the text
abbrev pub GroupsOf : WrittenExpression → List ℕ → Bool → Option (ℕ × ℕ) → SpansOfGroups → Type 0
GroupsOf e w wanted None groups = Unit {0}
GroupsOf e w wanted (Some span) groups =
    wanted ≡ true → (groups ≡ reported_groups (expression_tree e) w span.0 span.1) × GroupsIn (length w) groups

-- what was found is the next occurrence in the text w after the one that ended at a place, or none where there is none; its
-- span lies after that place
abbrev pub IsNextOccurrence : WrittenExpression → List ℕ → Option ℕ → Option (ℕ × ℕ) → Type 0
IsNextOccurrence e w last found =
    (option_map (occurrence_at_span e w) found ≡ next_occurrence (search_for e w) (length w) last) × IfSome found (LiesOn (length w) last)

-- the occurrences after the one that ended at a place, or all
abbrev pub occurrences_after : WrittenExpression → List ℕ → Option ℕ → List Occurrence
occurrences_after e w None = each_occurrence (search_for e w) (length w)
occurrences_after e w (Some q) = occurrences_from (search_for e w) (length w) (length w - q) (Some q)

-- the occurrences after a number of them, where the last of these ended if there are so many
abbrev pub Skips : WrittenExpression → List ℕ → ℕ → Option (Option ℕ) → Type 0
Skips e w count None = drop count (occurrences_after e w None) ≡ []
Skips e w count (Some last) =
    (drop count (occurrences_after e w None) ≡ occurrences_after e w last) × EndsWithin (length w) last

-- the occurrences that are still to be replaced: the one that has the span, if there is one, and with the flag `g` all
-- after it
abbrev pub pending : WrittenExpression → List ℕ → Bool → Option (ℕ × ℕ) → List Occurrence
pending e w global None = []
pending e w global (Some span) = occurrence_at_span e w span ∷ (if global then occurrences_after e w (Some span.1) else [])

-- what seeks, and the room for its searches, are as before
abbrev pub SeeksAsBefore : {T : Type 0} → T → T → SearchRoom → SearchRoom → Type 0
SeeksAsBefore old new before after = (new ≡ old) × (after ≡ before)

-- there is as much room as before, and what is kept serves to search after the occurrences skipped, if there are so many
abbrev pub ServesAfter : WrittenExpression → List ℕ → Option (Option ℕ) → Occurrences → Occurrences → Type 0
ServesAfter e w skipped old new = KeepsRoom e old new × IfSome skipped (λ last. ServesFrom e w last new)

-- the steps that the searches may still take after the occurrences skipped: none where there are fewer
abbrev pub owed_skipped : ℕ → ℕ → Option (Option ℕ) → Occurrences → ℕ
owed_skipped m n None o = 0
owed_skipped m n (Some last) o = owed m n last o

-- the most that deciding the groups of the occurrence found takes, if they are wanted, where those of one take k
abbrev pub groups_cost : Option (ℕ × ℕ) → Bool → ℕ → ℕ
groups_cost None wanted k = 0
groups_cost (Some span) wanted k = if wanted then k else 0

-- what deciding the groups of an occurrence takes for each place that it takes; a null match takes 2 for each node
abbrev pub place_cost : WrittenExpression → ℕ
place_cost e = 172 * length e.nodes * group_depth (expression_tree e) + 2 * length e.nodes

-- The steps that deciding groups may still take after an occurrence that ended at the place, if there is one, in a text of n bytes:
-- each takes places that no other does, but for a null match at the beginning.
abbrev pub owed_groups : WrittenExpression → ℕ → Option ℕ → ℕ
owed_groups e n None = place_cost e * n + 2 * length e.nodes
owed_groups e n (Some q) = place_cost e * (n - q)

-- the steps that deciding groups may still take after an answer: none where there is no occurrence
abbrev pub owed_groups_after : WrittenExpression → ℕ → Option (ℕ × ℕ) → ℕ
owed_groups_after e n None = 0
owed_groups_after e n (Some span) = owed_groups e n (Some span.1)

-- the most that deciding the groups of all occurrences but the first takes, where those of one take k
abbrev pub later_cost : ℕ → List Occurrence → ℕ
later_cost k [] = 0
later_cost k (m ∷ ms) = k * length ms
