-- Runs that the definition of a move computes by itself.
use Rattle.std.proofs.Common.{◌≡◌, ℕ, [], ◌∷◌, List, false, Some, None, refl}
use Rattle.sedscript.specs.declared.types.Address.TheVariants.{Line}
use Rattle.sedscript.specs.declared.types.Command.{Command}
use Rattle.sedscript.specs.declared.types.Action.{Action}
use Rattle.sedscript.specs.declared.types.Action.TheVariants.{File, Plain, Text}
use Rattle.sedscript.specs.declared.types.FileUse.TheVariants.{Read}
use Rattle.sedscript.specs.declared.types.Simple.TheVariants.{AppendNext, Delete, DeleteFirst, NextLine, PrintFirst, Quit}
use Rattle.sedscript.specs.declared.types.TextUse.TheVariants.{Append}
use Rattle.sedengine.specs.State.{Setting}
use Rattle.sedengine.specs.Select.{selects}
use Rattle.sedengine.specs.Move.{after, next_move, start, to_sink, written}

-- a command for all lines, and one for the first
abbrev all_lines : Action → Command
all_lines a = record { first = None; second = None; negate = false; action = a }

abbrev first_line : Action → Command
first_line a = record { first = Some (Line 1); second = None; negate = false; action = a }

-- these commands, with the text X and with the file that is the byte F
abbrev runs : List Command → Setting
runs commands = record {
  commands = commands;
  texts = (88 ∷ []) ∷ [];
  substitutions = [];
  tables = [];
  finds = λ k w. false;
  search = λ k w from. None;
  quiet = false;
  files = λ k. 70 ∷ [];
}

-- the first t moves over the lines 1, 2 and 3
abbrev writes : List Command → ℕ → List (ℕ × ℕ)
writes commands t = written (runs commands) (start commands ((49 ∷ []) ∷ (50 ∷ []) ∷ (51 ∷ []) ∷ [])) t

-- `N` writes 1 and 2; on the last line it ends the run without writing
example_append_next : writes (all_lines (Plain AppendNext) ∷ []) 16 ≡ to_sink 0 (49 ∷ 10 ∷ 50 ∷ 10 ∷ [])
unfolding written after next_move selects
example_append_next = refl

-- `n;d` writes 1 and 3
example_next_line : writes (all_lines (Plain NextLine) ∷ all_lines (Plain Delete) ∷ []) 20 ≡ to_sink 0 (49 ∷ 10 ∷ 51 ∷ 10 ∷ [])
unfolding written after next_move selects
example_next_line = refl

-- `1a X` and `1q`: 1, and then X
example_queue : writes (first_line (Text Append 0) ∷ first_line (Plain Quit) ∷ []) 8 ≡ to_sink 0 (49 ∷ 10 ∷ 88 ∷ 10 ∷ [])
unfolding written after next_move selects
example_queue = refl

-- `1r f` and `1q`: 1, and then F without a newline
example_file : writes (first_line (File Read 0) ∷ first_line (Plain Quit) ∷ []) 9 ≡ to_sink 0 (49 ∷ 10 ∷ 70 ∷ [])
unfolding written after next_move selects
example_file = refl

-- `N;P;D` writes 1 and 2, each once
example_delete_first : writes (all_lines (Plain AppendNext) ∷ all_lines (Plain PrintFirst) ∷ all_lines (Plain DeleteFirst) ∷ []) 18 ≡ to_sink 0 (49 ∷ 10 ∷ 50 ∷ 10 ∷ [])
unfolding written after next_move selects
example_delete_first = refl
