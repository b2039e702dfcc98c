-- Runs as a computation, so that examples of them can be computed: a script from its bytes, and then moves one after the
-- other.
use Rattle.std.proofs.Common.{◌≡◌, ℕ, zero, suc, true, List, [], ◌++◌, Option, Some, None, refl, ap, sym, ◌∙◌, append_assoc, append-nil}
use Rattle.sedre.specs.declared.types.Kind.{Kind}
use Rattle.sedre.specs.declared.types.Kind.TheVariants.{Basic}
use Rattle.sedscript.specs.Program.{Program}
use Rattle.examples.proofs.ComputedScript.{Script}
use Rattle.sedspace.specs.Lines.{split_lines}
use Rattle.sedengine.specs.State.{MachineState, Move, Setting, setting_of}
use Rattle.sedengine.specs.Move.{next_move, after, written, start, to_sink}
use Rattle.sededit.specs.Editing.{IsOutput}
use Rattle.sedengine.specs.Steps.{next_or_stay, writes_of}

-- what moves write, and the state that they lead to
pub record Course : Type 0 where
  pub writes : List (ℕ × ℕ)
  pub last : MachineState

abbrev pub onwards : MachineState → (MachineState → Course) → Option Move → Course
onwards s rest None = record { writes = []; last = s }
onwards s rest (Some m) = record { writes = m.writes ++ (rest m.next).writes; last = (rest m.next).last }

-- so many moves, as far as there are any
unfoldable pub course : Setting → ℕ → MachineState → Course
course g zero s = record { writes = []; last = s }
course g (suc n) s = onwards s (course g n) (next_move g s)

module _ (g : Setting) where
  -- a state without a move stays, and writes nothing
  pub stays : (s : MachineState) (n : ℕ) → next_move g s ≡ None → after g s n ≡ s
  unfolding after
  stays s zero e = refl
  stays s (suc n) e = rw (stays s n e, e) refl

  pub stays_still : (s : MachineState) (n : ℕ) → next_move g s ≡ None → written g s n ≡ []
  unfolding written
  stays_still s zero e = refl
  stays_still s (suc n) e = rw (stays_still s n e, stays s n e, e) refl

  -- the moves after the first one
  pub after_first : (s : MachineState) (m : Move) (n : ℕ) → next_move g s ≡ Some m → after g s (suc n) ≡ after g m.next n
  unfolding after
  after_first s m zero e = ap (next_or_stay s) e
  after_first s m (suc n) e = ap (λ x. next_or_stay x (next_move g x)) (after_first s m n e)

  pub written_first : (s : MachineState) (m : Move) (n : ℕ) → next_move g s ≡ Some m → written g s (suc n) ≡ m.writes ++ written g m.next n
  unfolding written after
  written_first s m zero e = ap writes_of e ∙ sym (append-nil m.writes)
  written_first s m (suc n) e =
      rw (written_first s m n e, after_first s m n e) (append_assoc m.writes (written g m.next n) (writes_of (next_move g (after g m.next n))))

  abbrev Agrees : ℕ → MachineState → Course → Type 0
  Agrees n s c = (written g s n ≡ c.writes) × (after g s n ≡ c.last)

  onwards_so : (n : ℕ) (s : MachineState) (o : Option Move) → next_move g s ≡ o → ((next : MachineState) → Agrees n next (course g n next)) →
      Agrees (suc n) s (onwards s (course g n) o)
  onwards_so n s None e on = (stays_still s (suc n) e, stays s (suc n) e)
  onwards_so n s (Some m) e on =
      (written_first s m n e ∙ ap (λ w. m.writes ++ w) (on m.next).0, after_first s m n e ∙ (on m.next).1)

  pub course_so : (n : ℕ) (s : MachineState) → Agrees n s (course g n s)
  unfolding course written after
  course_so zero s = (refl, refl)
  course_so (suc n) s = onwards_so n s (next_move g s) refl (course_so n)

-- a run ends, and wrote these bytes
pub ends_after : {g : Setting} {s : MachineState} {out : List (ℕ × ℕ)} (n : ℕ) → (course g n s).writes ≡ out →
    (course g n s).last.tasks ≡ [] → IsOutput g s out
ends_after {g = g} {s = s} n w e = record {
  moves = n;
  wrote = (course_so g n s).0 ∙ w;
  ended = ap (λ (x : MachineState). x.tasks) (course_so g n s).1 ∙ e;
}

-- The script of a text, over the lines of an input and with these files, writes these bytes, each to its sink, and ends.
abbrev pub Edits : Kind → (Program → Program) → (ℕ → List ℕ) → List ℕ → List ℕ → List (ℕ × ℕ) → Type 0
Edits kind asked files text input out =
    Script text kind (λ p. IsOutput (setting_of (asked p) files) (start p.commands (split_lines input)) out)

-- the script as it is, and with `-n`
abbrev pub plain : Program → Program
plain p = p

abbrev pub quiet : Program → Program
quiet p = record p { quiet = true }

abbrev pub no_files : ℕ → List ℕ
no_files k = []

-- the same, of a script with basic expressions, for the standard output alone; the second with `-n`
abbrev pub Writes : (text input output : List ℕ) → Type 0
Writes text input output = Edits Basic plain no_files text input (to_sink 0 output)

abbrev pub QuietlyWrites : (text input output : List ℕ) → Type 0
QuietlyWrites text input output = Edits Basic quiet no_files text input (to_sink 0 output)
