-- The definition of a move computes. No run leads to these states.
use Rattle.std.proofs.Common.{◌≡◌, List, [], ◌∷◌, None, refl}
use Rattle.sedengine.specs.State.{Task, fetch, join, MachineState, Setting}
use Rattle.sedengine.specs.Move.{next_move, quietly}

-- a fetch for which no line is left ends the run, whatever else was to be done
example_fetch : (g : Setting) (s : MachineState) (rest : List Task) → next_move g (record s { lines = []; tasks = fetch ∷ rest }) ≡ quietly (record s { lines = []; tasks = [] })
unfolding next_move
example_fetch g s rest = refl

-- and so does one whose line would be joined to the pattern space
example_join : (g : Setting) (s : MachineState) (rest : List Task) → next_move g (record s { lines = []; tasks = join ∷ rest }) ≡ quietly (record s { lines = []; tasks = [] })
unfolding next_move
example_join g s rest = refl

-- a state without tasks has no move
example_ended : (g : Setting) (s : MachineState) → next_move g (record s { tasks = [] }) ≡ None
unfolding next_move
example_ended g s = refl
