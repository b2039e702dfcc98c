-- Moves one after another, and runs to their end.
use Rattle.std.proofs.Common.{◌≡◌, ℕ, ◌+◌, List, [], ◌∷◌, ◌++◌, Bool, false, Option, refl, sym, ap, ap₂, subst, ◌∙◌, append_assoc, append-nil}
use Rattle.std.specs.Prelude.{slice_get, if◌then◌else◌, None}
use Rattle.sedengine.specs.State.{begin, do_at, flush, MachineState, Setting}
use Rattle.sedengine.specs.Move.{next_move, after, written, newline, to_sink, line_to, writing}
use Rattle.sedengine.proofs.Moves.{after-add, written-add}
use Rattle.sedengine.proofs.Gains.{to_sink-append}
use Rattle.sededit.specs.Editing.{IsOutput}
use Rattle.scripts.specs.Edited.{text_of}
use Rattle.sedengine.specs.Steps.{at_end, next_or_stay, writes_of}

-- moves lead from a state to another one, and write this
pub record Goes (g : Setting) (s now : MachineState) (out : List (ℕ × ℕ)) : Type 0 where
  pub moves : ℕ
  pub is : after g s moves ≡ now
  pub wrote : written g s moves ≡ out

-- one move
pub goes_one : {g : Setting} {s next : MachineState} {out : List (ℕ × ℕ)} → next_move g s ≡ writing out next → Goes g s next out
unfolding after written
goes_one {s = s} h = record { moves = 1; is = ap (next_or_stay s) h; wrote = ap writes_of h }

module _ {g : Setting} where
  pub goes_on : {s mid now : MachineState} {out more : List (ℕ × ℕ)} → Goes g s mid out → Goes g mid now more → Goes g s now (out ++ more)
  goes_on {s = s} {now = now} {more = more} a b =
      let c = subst (λ (x : MachineState). Goes g x now more) (sym a.is) b in
      record { moves = a.moves + c.moves; is = after-add g s a.moves c.moves ∙ c.is; wrote = written-add g s a.moves c.moves ∙ ap₂ (λ x y. x ++ y) a.wrote c.wrote }

  pub ends_on : {s mid : MachineState} {out more : List (ℕ × ℕ)} → Goes g s mid out → IsOutput g mid more → IsOutput g s (out ++ more)
  ends_on {s = s} {more = more} a b =
      let c = subst (λ (x : MachineState). IsOutput g x more) (sym a.is) b in
      record { moves = a.moves + c.moves; ended = ap (λ (x : MachineState). x.tasks) (after-add g s a.moves c.moves) ∙ c.ended; wrote = written-add g s a.moves c.moves ∙ ap₂ (λ x y. x ++ y) a.wrote c.wrote }

-- a state between two cycles
abbrev pub between : (lines : List (List ℕ)) (number : ℕ) (hold : List ℕ) (replaced : Bool) (ranges : List Bool) (used : Option ℕ) (turns : ℕ) → MachineState
between lines number hold replaced ranges used turns = record {
  lines = lines;
  number = number;
  pattern = [];
  hold = hold;
  replaced = replaced;
  queue = [];
  ranges = ranges;
  used = used;
  tasks = begin ∷ [];
  turns = turns;
}

-- a state within a cycle, which reaches command k
abbrev pub within : (lines : List (List ℕ)) (number : ℕ) (pattern hold : List ℕ) (replaced : Bool) (ranges : List Bool) (used : Option ℕ) (k turns : ℕ) → MachineState
within lines number pattern hold replaced ranges used k turns =
    record (between lines number hold replaced ranges used turns) { pattern = pattern; tasks = do_at k ∷ [] }

-- what is written at the end of a script
abbrev pub printed : Bool → List ℕ → List (ℕ × ℕ)
printed quiet pattern = if quiet then [] else line_to 0 pattern

-- a cycle begins with a line
pub begins_line : (g : Setting) (line : List ℕ) (lines : List (List ℕ)) (number : ℕ) (hold : List ℕ) (replaced : Bool) (ranges : List Bool) (used : Option ℕ) (turns : ℕ) →
    Goes g (between (line ∷ lines) number hold replaced ranges used turns) (within lines (number + 1) line hold false ranges used 0 (turns + 1)) []
unfolding next_move after written
begins_line g line lines number hold replaced ranges used turns = record { moves = 1; is = refl; wrote = refl }

-- it ends behind the last command, or with `d`
script_ends : (g : Setting) (lines : List (List ℕ)) (number : ℕ) (pattern hold : List ℕ) (replaced : Bool) (ranges : List Bool) (used : Option ℕ) (k turns : ℕ) → slice_get g.commands k ≡ None →
    Goes g (within lines number pattern hold replaced ranges used k turns) (record (within lines number pattern hold replaced ranges used k turns) { tasks = at_end }) []
unfolding next_move
script_ends g lines number pattern hold replaced ranges used k turns e = goes_one (rw e refl)

line_ends : (g : Setting) (lines : List (List ℕ)) (number : ℕ) (pattern hold : List ℕ) (replaced : Bool) (ranges : List Bool) (used : Option ℕ) (k turns : ℕ) →
    Goes g (record (within lines number pattern hold replaced ranges used k turns) { tasks = at_end }) (between lines number hold replaced ranges used turns) (printed g.quiet pattern)
unfolding next_move after written
line_ends g lines number pattern hold replaced ranges used k turns = record { moves = 3; is = refl; wrote = simp append-nil refl }

pub ends_line : (g : Setting) (lines : List (List ℕ)) (number : ℕ) (pattern hold : List ℕ) (replaced : Bool) (ranges : List Bool) (used : Option ℕ) (k turns : ℕ) → slice_get g.commands k ≡ None →
    Goes g (within lines number pattern hold replaced ranges used k turns) (between lines number hold replaced ranges used turns) (printed g.quiet pattern)
ends_line g lines number pattern hold replaced ranges used k turns e =
    goes_on (script_ends g lines number pattern hold replaced ranges used k turns e) (line_ends g lines number pattern hold replaced ranges used k turns)

abbrev pub deleted : (lines : List (List ℕ)) (number : ℕ) (hold : List ℕ) (replaced : Bool) (ranges : List Bool) (used : Option ℕ) (turns : ℕ) → MachineState
deleted lines number hold replaced ranges used turns = record (between lines number hold replaced ranges used turns) { tasks = flush ∷ begin ∷ [] }

pub deletes_line : (g : Setting) (lines : List (List ℕ)) (number : ℕ) (hold : List ℕ) (replaced : Bool) (ranges : List Bool) (used : Option ℕ) (turns : ℕ) →
    Goes g (deleted lines number hold replaced ranges used turns) (between lines number hold replaced ranges used turns) []
unfolding next_move
deletes_line g lines number hold replaced ranges used turns = goes_one refl

-- where no line is left the run ends there
pub ends_there : (g : Setting) (number : ℕ) (hold : List ℕ) (replaced : Bool) (ranges : List Bool) (used : Option ℕ) (turns : ℕ) →
    IsOutput g (between [] number hold replaced ranges used turns) []
unfolding next_move after written
ends_there g number hold replaced ranges used turns = record { moves = 1; ended = refl; wrote = refl }

-- a line is written before others
pub line_first : (line : List ℕ) (more : List (List ℕ)) → line_to 0 line ++ to_sink 0 (text_of more) ≡ to_sink 0 (text_of (line ∷ more))
line_first line more = sym (to_sink-append 0 (line ++ newline ∷ []) (text_of more)) ∙ ap (to_sink 0) (append_assoc line (newline ∷ []) (text_of more))

pub text_of-append : (a b : List (List ℕ)) → text_of (a ++ b) ≡ text_of a ++ text_of b
text_of-append [] b = refl
text_of-append (line ∷ a) b = ap (λ (x : List ℕ). line ++ newline ∷ x) (text_of-append a b) ∙ sym (append_assoc line (newline ∷ text_of a) (text_of b))

pub texts_first : (a b : List (List ℕ)) → to_sink 0 (text_of a) ++ to_sink 0 (text_of b) ≡ to_sink 0 (text_of (a ++ b))
texts_first a b = sym (to_sink-append 0 (text_of a) (text_of b)) ∙ ap (to_sink 0) (sym (text_of-append a b))

-- Where each cycle takes a line, writes what is written of it, and leads to such a state again, the run writes all of that. `out`
-- is what is written of lines after so many.
pub each_line : {X : Type 0} (g : Setting) (at : List (List ℕ) → ℕ → X → MachineState) (out : ℕ → List (List ℕ) → List (List ℕ)) (f : ℕ → List ℕ → List (List ℕ) → List (List ℕ)) →
    ((number : ℕ) → out number [] ≡ []) → ((number : ℕ) (line : List ℕ) (rest : List (List ℕ)) → out number (line ∷ rest) ≡ f number line rest ++ out (number + 1) rest) →
    ((number : ℕ) (x : X) → IsOutput g (at [] number x) []) →
    ((number : ℕ) (line : List ℕ) (rest : List (List ℕ)) (x : X) → (y : X) × Goes g (at (line ∷ rest) number x) (at rest (number + 1) y) (to_sink 0 (text_of (f number line rest)))) →
    (lines : List (List ℕ)) (number : ℕ) (x : X) → IsOutput g (at lines number x) (to_sink 0 (text_of (out number lines)))
each_line g at out f none one last cycle [] number x = subst (λ (ls : List (List ℕ)). IsOutput g (at [] number x) (to_sink 0 (text_of ls))) (sym (none number)) (last number x)
each_line g at out f none one last cycle (line ∷ rest) number x =
    let first = cycle number line rest x in
    let all = ends_on first.1 (each_line g at out f none one last cycle rest (number + 1) first.0) in
    subst (λ (bytes : List (ℕ × ℕ)). IsOutput g (at (line ∷ rest) number x) bytes) (texts_first (f number line rest) (out (number + 1) rest) ∙ ap (λ ls. to_sink 0 (text_of ls)) (sym (one number line rest))) all
