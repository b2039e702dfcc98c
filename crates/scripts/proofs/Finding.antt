-- Scripts that seek an expression, and `y`.
use Rattle.std.proofs.Common.{◌≡◌, ℕ, ◌+◌, List, [], ◌∷◌, ◌++◌, length, map, Bool, true, false, not, cond, Option, None, Some, refl, subst, append-nil}
use Rattle.std.specs.List.{filter}
use Rattle.sedscript.specs.declared.types.Command.{Command}
use Rattle.sedscript.specs.declared.types.Action.TheVariants.{Plain, Substitute, Transliterate}
use Rattle.sedscript.specs.declared.types.Simple.TheVariants.{Delete, Print}
use Rattle.sedscript.specs.declared.types.Address.TheVariants.{Match}
use Rattle.sedscript.specs.declared.substitution.Piece.{Piece}
use Rattle.sedscript.specs.declared.substitution.Substitution.{Substitution}
use Rattle.sedengine.specs.State.{MachineState, Setting}
use Rattle.sedengine.specs.Substitute.{Occurrence, each_occurrence, replaced_from, to_replace}
use Rattle.sedengine.specs.Select.{selects}
use Rattle.sedengine.specs.Move.{next_move, after, written, to_sink, line_to, in_table}
use Rattle.sededit.specs.Editing.{IsOutput}
use Rattle.scripts.specs.Edited.{text_of}
use Rattle.scripts.proofs.Cycles.{Goes, goes_one, goes_on, between, within, deleted, begins_line, ends_line, deletes_line, ends_there, each_line}
use Rattle.examples.proofs.ScriptWords.{always, at, unless}

-- what is replaced by the pieces: an occurrence of the first expression from a number on, and with `g` all from there
abbrev pub replacing : ℕ → Bool → List Piece → Substitution
replacing number global pieces = record {
  expression = Some 0;
  replacement = pieces;
  number = number;
  global = global;
  print = false;
  file = None;
}

module _ (finds : ℕ → List ℕ → Bool) (search : ℕ → List ℕ → ℕ → Option Occurrence) (files : ℕ → List ℕ) where
  abbrev pub seeks : Bool → List Command → List Substitution → List (List ℕ) → Setting
  seeks quiet commands substitutions tables = record {
    commands = commands;
    texts = [];
    substitutions = substitutions;
    tables = tables;
    finds = finds;
    search = search;
    quiet = quiet;
    files = files;
  }

  -- before a cycle, by whether something was replaced, the expression last used and the turns
  abbrev pub seen_at : List (List ℕ) → ℕ → Bool × Option ℕ × ℕ → MachineState
  seen_at lines number x = between lines number [] x.0 (false ∷ []) x.1 x.2

  -- ---- `/RE/d`, and `/RE/!p` with -n

  abbrev pub deletes : Setting
  deletes = seeks false (at (Match (Some 0)) (Plain Delete) ∷ []) [] []

  abbrev pub prints : Setting
  prints = seeks true (unless (at (Match (Some 0)) (Plain Print)) ∷ []) [] []

  abbrev kept : Bool → List ℕ → List (List ℕ)
  kept true line = []
  kept false line = line ∷ []

  abbrev not_found : List ℕ → Bool
  not_found line = not (finds 0 line)

  kept_first : (t : Bool) (line : List ℕ) (rest : List (List ℕ)) → cond (not t) (line ∷ rest) rest ≡ kept t line ++ rest
  kept_first true line rest = refl
  kept_first false line rest = refl

  deletes_here : (number : ℕ) (line : List ℕ) (rest : List (List ℕ)) (used : Option ℕ) (turns : ℕ) → finds 0 line ≡ true →
      Goes deletes (within rest number line [] false (false ∷ []) used 0 turns) (deleted rest number [] false (false ∷ []) (Some 0) (turns + 1)) []
  unfolding next_move selects
  deletes_here number line rest used turns e = goes_one (rw e refl)

  keeps_here : (number : ℕ) (line : List ℕ) (rest : List (List ℕ)) (used : Option ℕ) (turns : ℕ) → finds 0 line ≡ false →
      Goes deletes (within rest number line [] false (false ∷ []) used 0 turns) (within rest number line [] false (false ∷ []) (Some 0) 1 (turns + 1)) []
  unfolding next_move selects
  keeps_here number line rest used turns e = goes_one (rw e refl)

  deletes_cycle : (number : ℕ) (line : List ℕ) (rest : List (List ℕ)) (x : Bool × Option ℕ × ℕ) (t : Bool) → finds 0 line ≡ t →
      Goes deletes (seen_at (line ∷ rest) number x) (seen_at rest (number + 1) (false, Some 0, x.2 + 1 + 1)) (to_sink 0 (text_of (kept t line)))
  deletes_cycle number line rest x true e =
      goes_on (begins_line deletes line rest number [] x.0 (false ∷ []) x.1 x.2) (goes_on (deletes_here (number + 1) line rest x.1 (x.2 + 1) e)
      (deletes_line deletes rest (number + 1) [] false (false ∷ []) (Some 0) (x.2 + 1 + 1)))
  deletes_cycle number line rest x false e =
      goes_on (begins_line deletes line rest number [] x.0 (false ∷ []) x.1 x.2) (goes_on (keeps_here (number + 1) line rest x.1 (x.2 + 1) e)
      (ends_line deletes rest (number + 1) line [] false (false ∷ []) (Some 0) 1 (x.2 + 1 + 1) refl))

  pub deletes_run : (lines : List (List ℕ)) (number : ℕ) (x : Bool × Option ℕ × ℕ) → IsOutput deletes (seen_at lines number x) (to_sink 0 (text_of (filter not_found lines)))
  deletes_run = each_line deletes seen_at (λ n ls. filter not_found ls) (λ n line rest. kept (finds 0 line) line) (λ n. refl) (λ n line rest. kept_first (finds 0 line) line (filter not_found rest))
      (λ n x. ends_there deletes n [] x.0 (false ∷ []) x.1 x.2) (λ n line rest x. ((false, Some 0, x.2 + 1 + 1), deletes_cycle n line rest x (finds 0 line) refl))

  -- a line in which it is found isn't printed
  passes_here : (number : ℕ) (line : List ℕ) (rest : List (List ℕ)) (used : Option ℕ) (turns : ℕ) (t : Bool) → finds 0 line ≡ t →
      Goes prints (within rest number line [] false (false ∷ []) used 0 turns) (within rest number line [] false (false ∷ []) (Some 0) 1 (turns + 1)) (to_sink 0 (text_of (kept t line)))
  unfolding next_move selects
  passes_here number line rest used turns true e = goes_one (rw e refl)
  passes_here number line rest used turns false e = goes_one (rw e refl)

  prints_cycle : (number : ℕ) (line : List ℕ) (rest : List (List ℕ)) (x : Bool × Option ℕ × ℕ) (t : Bool) → finds 0 line ≡ t →
      Goes prints (seen_at (line ∷ rest) number x) (seen_at rest (number + 1) (false, Some 0, x.2 + 1 + 1)) (to_sink 0 (text_of (kept t line)))
  prints_cycle number line rest x t e =
      subst (Goes prints (seen_at (line ∷ rest) number x) (seen_at rest (number + 1) (false, Some 0, x.2 + 1 + 1))) (append-nil (to_sink 0 (text_of (kept t line))))
      (goes_on (begins_line prints line rest number [] x.0 (false ∷ []) x.1 x.2) (goes_on (passes_here (number + 1) line rest x.1 (x.2 + 1) t e)
      (ends_line prints rest (number + 1) line [] false (false ∷ []) (Some 0) 1 (x.2 + 1 + 1) refl)))

  pub prints_run : (lines : List (List ℕ)) (number : ℕ) (x : Bool × Option ℕ × ℕ) → IsOutput prints (seen_at lines number x) (to_sink 0 (text_of (filter not_found lines)))
  prints_run = each_line prints seen_at (λ n ls. filter not_found ls) (λ n line rest. kept (finds 0 line) line) (λ n. refl) (λ n line rest. kept_first (finds 0 line) line (filter not_found rest))
      (λ n x. ends_there prints n [] x.0 (false ∷ []) x.1 x.2) (λ n line rest x. ((false, Some 0, x.2 + 1 + 1), prints_cycle n line rest x (finds 0 line) refl))

  -- ---- `s/RE/text/`, with a number or `g`

  abbrev pub replaces_by : ℕ → Bool → List Piece → Setting
  replaces_by number global pieces = seeks false (always (Substitute 0) ∷ []) (replacing number global pieces ∷ []) []

  -- a line with what is replaced in it
  abbrev pub with_replaced : ℕ → Bool → List Piece → List ℕ → List ℕ
  with_replaced n global pieces line = replaced_from line pieces 0 (to_replace n global (each_occurrence (search 0 line) (length line)))

  abbrev any_replaced : List Occurrence → Bool
  any_replaced [] = false
  any_replaced (m ∷ ms) = true

  replaces_here : (n : ℕ) (global : Bool) (pieces : List Piece) (number : ℕ) (line : List ℕ) (rest : List (List ℕ)) (used : Option ℕ) (turns : ℕ) (ms : List Occurrence) →
      to_replace n global (each_occurrence (search 0 line) (length line)) ≡ ms →
      Goes (replaces_by n global pieces) (within rest number line [] false (false ∷ []) used 0 turns)
      (within rest number (replaced_from line pieces 0 ms) [] (any_replaced ms) (false ∷ []) (Some 0) 1 (turns + 1)) []
  unfolding next_move selects
  replaces_here n global pieces number line rest used turns [] e = goes_one (rw e refl)
  replaces_here n global pieces number line rest used turns (m ∷ ms) e = goes_one (rw e refl)

  replaces_cycle : (n : ℕ) (global : Bool) (pieces : List Piece) (number : ℕ) (line : List ℕ) (rest : List (List ℕ)) (x : Bool × Option ℕ × ℕ) (ms : List Occurrence) →
      to_replace n global (each_occurrence (search 0 line) (length line)) ≡ ms →
      Goes (replaces_by n global pieces) (seen_at (line ∷ rest) number x) (seen_at rest (number + 1) (any_replaced ms, Some 0, x.2 + 1 + 1)) (line_to 0 (replaced_from line pieces 0 ms))
  replaces_cycle n global pieces number line rest x ms e =
      goes_on (begins_line (replaces_by n global pieces) line rest number [] x.0 (false ∷ []) x.1 x.2) (goes_on (replaces_here n global pieces (number + 1) line rest x.1 (x.2 + 1) ms e)
      (ends_line (replaces_by n global pieces) rest (number + 1) (replaced_from line pieces 0 ms) [] (any_replaced ms) (false ∷ []) (Some 0) 1 (x.2 + 1 + 1) refl))

  pub replaces_run : (n : ℕ) (global : Bool) (pieces : List Piece) (lines : List (List ℕ)) (number : ℕ) (x : Bool × Option ℕ × ℕ) →
      IsOutput (replaces_by n global pieces) (seen_at lines number x) (to_sink 0 (text_of (map (with_replaced n global pieces) lines)))
  replaces_run n global pieces = each_line (replaces_by n global pieces) seen_at (λ i ls. map (with_replaced n global pieces) ls) (λ i line rest. with_replaced n global pieces line ∷ []) (λ i. refl) (λ i line rest. refl)
      (λ i x. ends_there (replaces_by n global pieces) i [] x.0 (false ∷ []) x.1 x.2)
      (λ i line rest x. let ms = to_replace n global (each_occurrence (search 0 line) (length line)) in ((any_replaced ms, Some 0, x.2 + 1 + 1), replaces_cycle n global pieces i line rest x ms refl))

  -- ---- `y`

  abbrev pub turns_bytes : List ℕ → Setting
  turns_bytes table = seeks false (always (Transliterate 0) ∷ []) [] (table ∷ [])

  abbrev pub with_bytes : List ℕ → List ℕ → List ℕ
  with_bytes table line = map (in_table (Some table)) line

  bytes_cycle : (table : List ℕ) (number : ℕ) (line : List ℕ) (rest : List (List ℕ)) (x : Bool × Option ℕ × ℕ) →
      Goes (turns_bytes table) (seen_at (line ∷ rest) number x) (seen_at rest (number + 1) (false, x.1, x.2 + 1 + 1)) (line_to 0 (with_bytes table line))
  unfolding next_move after written selects
  bytes_cycle table number line rest x = record { moves = 6; is = refl; wrote = simp append-nil refl }

  pub bytes_run : (table : List ℕ) (lines : List (List ℕ)) (number : ℕ) (x : Bool × Option ℕ × ℕ) → IsOutput (turns_bytes table) (seen_at lines number x) (to_sink 0 (text_of (map (with_bytes table) lines)))
  bytes_run table = each_line (turns_bytes table) seen_at (λ n ls. map (with_bytes table) ls) (λ n line rest. with_bytes table line ∷ []) (λ n. refl) (λ n line rest. refl)
      (λ n x. ends_there (turns_bytes table) n [] x.0 (false ∷ []) x.1 x.2) (λ n line rest x. ((false, x.1, x.2 + 1 + 1), bytes_cycle table n line rest x))
