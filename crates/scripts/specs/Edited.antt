-- What a script makes of an input, from the bytes of both (XCU sed, Extended Description).
use Rattle.std.specs.Prelude.{ℕ, Bool, ◌||◌, List, [], ◌∷◌, ◌++◌}
use Rattle.sedre.specs.declared.types.Kind.TheVariants.{Basic}
use Rattle.sedscript.specs.Script.{Means}
use Rattle.sedscript.specs.Program.{Program}
use Rattle.sedengine.specs.Move.{newline, to_sink}
use Rattle.sedengine.specs.State.{setting_of}
use Rattle.sededit.specs.Editing.{IsOutput, start_over}

-- a run of this script over the lines of these bytes comes to its end, and has written these, each to its sink
abbrev pub RunsTo : Program → (ℕ → List ℕ) → (input : List ℕ) → (out : List (ℕ × ℕ)) → Type 0
RunsTo p files input out = IsOutput (setting_of p files) (start_over p input) out

-- a script with the option -n, where that is given
abbrev pub with_option : Bool → Program → Program
with_option quiet p = record p { quiet = quiet || p.quiet }

-- The text means a script, and whatever the files are that it reads, a run of it ends and has written these bytes.
pub record EditsInto (quiet : Bool) (text input : List ℕ) (out : List (ℕ × ℕ)) : Type 0 where
  pub meaning : (p : Program) × Means text Basic 65536 p
  pub runs : (p : Program) (files : ℕ → List ℕ) → Means text Basic 65536 p → RunsTo (with_option quiet p) files input out

-- lines, each with its newline
abbrev pub text_of : List (List ℕ) → List ℕ
text_of [] = []
text_of (line ∷ more) = line ++ newline ∷ text_of more

-- it has written these lines to the standard output
abbrev pub EditsIntoLines : (quiet : Bool) (text input : List ℕ) (out : List (List ℕ)) → Type 0
EditsIntoLines quiet text input out = EditsInto quiet text input (to_sink 0 (text_of out))
