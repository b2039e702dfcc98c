-- Private to the proofs: no contract that `sedmatch` makes public cites what is here.
-- Passes for the whole expression in which the root's ends alone are kept.
use Rattle.std.specs.Prelude.{◌≡◌, ℕ, ◌+◌, ◌/◌, ◌^◌, ◌<◌, ◌≤◌, Bool, false, cond, List, length, Option, Some, None, IsTrue}
use Rattle.sedre.specs.declared.types.Node.{Node}
use Rattle.sedtext.specs.Reach.{SomeSpan, Starts}
use Rattle.sedpass.specs.Rows.{nodes_of, root_of}
use Rattle.sedpass.specs.Table.{PassState, state_of, StateAt}
use Rattle.sedpass.specs.declared.cells.StateFlags.{StateFlags}
use Rattle.sedre.specs.Tree.{WrittenExpression}
use Rattle.sedpass.specs.declared.rows.Way.{Way}
use Rattle.sedpass.specs.declared.table.Table.{Table}
use Rattle.sedpass.specs.declared.forwards.Passed.{Passed}

-- the starts of a pass from a place: this place, or with all starts each from it on
abbrev pub starts_of : Bool → ℕ → List ℕ → Starts
starts_of all_starts from w = record { first = from; last = cond all_starts (length w) from }

-- the last place below n at which a match from one of the starts ends; None: none ends there
abbrev pub LastBelow : List Node → List ℕ → ℕ → Starts → ℕ → Option ℕ → Type 0
LastBelow nodes w r s n None = (k : ℕ) → k < n → SomeSpan nodes w r s k → ⊥
LastBelow nodes w r s n (Some j) = (j < n) × SomeSpan nodes w r s j × ((k : ℕ) → k < n → SomeSpan nodes w r s k → k ≤ j)

-- the last place of all, or with all starts some place
abbrev pub IsPassEnd : Bool → List Node → List ℕ → ℕ → Starts → Option ℕ → Type 0
IsPassEnd all_starts nodes w r s None = (k : ℕ) → SomeSpan nodes w r s k → ⊥
IsPassEnd all_starts nodes w r s (Some j) = SomeSpan nodes w r s j × (all_starts ≡ false → (k : ℕ) → SomeSpan nodes w r s k → k ≤ j)

-- whether a pass needn't go on at a state that shows this: with all starts where its root ends, and else where no leaf is entered
abbrev pub is_over : Bool → StateFlags → Bool
is_over all_starts flags = cond all_starts flags.ends flags.dead

-- the state is that of the place, in a pass from `start` for the whole expression
abbrev pub Arrives : WrittenExpression → Way → List ℕ → ℕ → ℕ → PassState → Type 0
Arrives e way w start place a = (a.root ≡ root_of e) × StateAt (nodes_of way e) w (starts_of way.all_starts start w) way.mirrored place a

-- the end is the last below the place, in such a pass
abbrev pub EndsBelow : WrittenExpression → Way → List ℕ → ℕ → ℕ → Option ℕ → Type 0
EndsBelow e way w start place end = LastBelow (nodes_of way e) w (root_of e) (starts_of way.all_starts start w) place end

-- a pass from `start` is at a place: its state there, the last end so far, and whether it needn't go on
pub record PassIs (e : WrittenExpression) (t : Table) (w : List ℕ) (start : ℕ) (at : Passed) : Type 0 where
  pub after : start ≤ at.place
  pub within : at.place ≤ length w
  pub arrived : Arrives e t.way w start at.place (state_of (length e.nodes) t (at.offset / 2 ^ t.layout.shift))
  pub last : EndsBelow e t.way w start (at.place + 1) at.end
  pub over : IsTrue at.over → IsPassEnd t.way.all_starts (nodes_of t.way e) w (root_of e) (starts_of t.way.all_starts start w) at.end
