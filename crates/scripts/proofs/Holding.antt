-- `1!G;h;$!d`, and `$!N;P;D`.
use Rattle.std.proofs.Common.{◌≡◌, ℕ, suc, zero, ◌+◌, List, [], ◌∷◌, ◌++◌, Bool, false, Option, None, refl, sym, ap, subst, ◌∙◌, append_assoc, append-nil, arith}
use Rattle.std.specs.Prelude.{nat_eq, reverse}
use Rattle.std.specs.List.{list_any}
use Rattle.std.proofs.lemmas.Bool.Decides.{nat_tests}
use Rattle.std.proofs.lemmas.Grind.{reverse_onto}
use Rattle.sedspace.specs.Lines.{is_newline}
use Rattle.sedscript.specs.declared.types.Action.TheVariants.{Plain}
use Rattle.sedscript.specs.declared.types.Simple.TheVariants.{AppendHold, AppendNext, Delete, DeleteFirst, Hold, PrintFirst}
use Rattle.sedscript.specs.declared.types.Address.TheVariants.{Last, Line}
use Rattle.sedengine.specs.State.{begin, rebegin, do_at, flush, MachineState, Setting}
use Rattle.sedengine.specs.Substitute.{Occurrence}
use Rattle.sedengine.specs.Select.{selects}
use Rattle.sedengine.specs.Move.{next_move, after, written, newline, to_sink, line_to}
use Rattle.sededit.specs.Editing.{IsOutput}
use Rattle.scripts.specs.Edited.{text_of}
use Rattle.scripts.proofs.Cycles.{Goes, goes_one, goes_on, ends_on, between, ends_there, line_first, text_of-append}
use Rattle.examples.proofs.ScriptWords.{always, at, unless}
use Rattle.scripts.proofs.Plain.{runs}
use Rattle.examples.proofs.LineLaws.{before_it, after_it, has_it, all_of_it}
use Rattle.scripts.proofs.LineLaws.{NoneBroken}

module _ (finds : ℕ → List ℕ → Bool) (search : ℕ → List ℕ → ℕ → Option Occurrence) (files : ℕ → List ℕ) where
  abbrev pub turns_round : Setting
  turns_round = runs finds search files false (unless (at (Line 1) (Plain AppendHold)) ∷ always (Plain Hold) ∷ unless (at Last (Plain Delete)) ∷ [])

  abbrev held_at : List (List ℕ) → ℕ → List ℕ → ℕ → MachineState
  held_at lines number hold turns = between lines number hold false (false ∷ false ∷ false ∷ []) None turns

  -- what is in the pattern space once a line has come
  abbrev pub onto : ℕ → List ℕ → List ℕ → List ℕ
  onto zero line hold = line
  onto (suc number) line hold = line ++ newline ∷ hold

  pub not_first : (number : ℕ) → nat_eq 1 (suc number + 1) ≡ false
  not_first number = let n : suc number + 1 ≡ suc (suc number) = omega arith in grind (arith, nat_tests)

  hold_cycle : (number : ℕ) (line next : List ℕ) (more : List (List ℕ)) (hold : List ℕ) (turns : ℕ) →
      Goes turns_round (held_at (line ∷ next ∷ more) number hold turns) (held_at (next ∷ more) (number + 1) (onto number line hold) (turns + 1 + 1 + 1 + 1)) []
  unfolding next_move after written selects
  hold_cycle zero line next more hold turns = record { moves = 5; is = refl; wrote = refl }
  hold_cycle (suc number) line next more hold turns = record { moves = 5; is = rw (not_first number) refl; wrote = rw (not_first number) refl }

  hold_last : (number : ℕ) (line : List ℕ) (hold : List ℕ) (turns : ℕ) →
      Goes turns_round (held_at (line ∷ []) number hold turns) (held_at [] (number + 1) (onto number line hold) (turns + 1 + 1 + 1 + 1)) (line_to 0 (onto number line hold))
  unfolding next_move after written selects
  hold_last zero line hold turns = record { moves = 8; is = refl; wrote = simp append-nil refl }
  hold_last (suc number) line hold turns = record { moves = 8; is = rw (not_first number) refl; wrote = rw (not_first number) (simp append-nil refl) }

  -- the lines held so far, with their newlines
  abbrev pub held : ℕ → List ℕ → List ℕ
  held zero hold = []
  held (suc number) hold = hold ++ newline ∷ []

  pub onto_held : (number : ℕ) (line hold : List ℕ) → held (number + 1) (onto number line hold) ≡ line ++ newline ∷ held number hold
  onto_held zero line hold = refl
  onto_held (suc number) line hold = let n : suc number + 1 ≡ suc (suc number) = omega arith in rw n (append_assoc line (newline ∷ hold) (newline ∷ []))

  pub onto_last : (number : ℕ) (line hold : List ℕ) → onto number line hold ++ newline ∷ [] ≡ line ++ newline ∷ held number hold
  onto_last zero line hold = refl
  onto_last (suc number) line hold = append_assoc line (newline ∷ hold) (newline ∷ [])

  pub more_turned : (line : List ℕ) (rest : List (List ℕ)) (old : List ℕ) → text_of (reverse rest) ++ (line ++ newline ∷ old) ≡ text_of (reverse (line ∷ rest)) ++ old
  more_turned line rest old =
      sym (ap (λ ls. text_of ls ++ old) (reverse_onto rest line []) ∙ ap (λ bs. bs ++ old) (text_of-append (reverse rest) (line ∷ [])) ∙ append_assoc (text_of (reverse rest)) (line ++ newline ∷ []) old
      ∙ ap (λ bs. text_of (reverse rest) ++ bs) (append_assoc line (newline ∷ []) old))

  pub turned : (line : List ℕ) (rest : List (List ℕ)) (number : ℕ) (hold : List ℕ) (turns : ℕ) →
      IsOutput turns_round (held_at (line ∷ rest) number hold turns) (to_sink 0 (text_of (reverse (line ∷ rest)) ++ held number hold))
  turned line [] number hold turns =
      let run = ends_on (hold_last number line hold turns) (ends_there turns_round (number + 1) (onto number line hold) false (false ∷ false ∷ false ∷ []) None (turns + 1 + 1 + 1 + 1)) in
      let out : line_to 0 (onto number line hold) ++ [] ≡ to_sink 0 ((line ++ newline ∷ []) ++ held number hold) = append-nil (line_to 0 (onto number line hold)) ∙ ap (to_sink 0) (onto_last number line hold ∙ sym (append_assoc line (newline ∷ []) (held number hold))) in
      subst (IsOutput turns_round (held_at (line ∷ []) number hold turns)) out run
  turned line (next ∷ more) number hold turns =
      let run = ends_on (hold_cycle number line next more hold turns) (turned next more (number + 1) (onto number line hold) (turns + 1 + 1 + 1 + 1)) in
      let out = ap (to_sink 0) (ap (λ bs. text_of (reverse (next ∷ more)) ++ bs) (onto_held number line hold) ∙ more_turned line (next ∷ more) (held number hold)) in
      subst (IsOutput turns_round (held_at (line ∷ next ∷ more) number hold turns)) out run

  pub turned_run : (lines : List (List ℕ)) → IsOutput turns_round (held_at lines 0 [] 0) (to_sink 0 (text_of (reverse lines)))
  turned_run [] = ends_there turns_round 0 [] false (false ∷ false ∷ false ∷ []) None 0
  turned_run (line ∷ rest) = subst (λ (bs : List ℕ). IsOutput turns_round (held_at (line ∷ rest) 0 [] 0) (to_sink 0 bs)) (append-nil (text_of (reverse (line ∷ rest)))) (turned line rest 0 [] 0)

  -- ---- `$!N;P;D`

  abbrev pub pairs : Setting
  pairs = runs finds search files false (unless (at Last (Plain AppendNext)) ∷ always (Plain PrintFirst) ∷ always (Plain DeleteFirst) ∷ [])

  abbrev pair_at : ℕ → List (List ℕ) → ℕ → List ℕ → ℕ → MachineState
  pair_at k lines number pattern turns = record (between lines number [] false (false ∷ false ∷ false ∷ []) None turns) { pattern = pattern; tasks = do_at k ∷ [] }

  pair_joins : (number : ℕ) (line next : List ℕ) (rest : List (List ℕ)) (turns : ℕ) →
      Goes pairs (pair_at 0 (next ∷ rest) number line turns) (pair_at 1 rest (number + 1) (line ++ newline ∷ next) (turns + 1)) []
  unfolding next_move after written selects
  pair_joins number line next rest turns = record { moves = 3; is = refl; wrote = refl }

  pair_prints : (number : ℕ) (line next : List ℕ) (rest : List (List ℕ)) (turns : ℕ) → list_any is_newline line ≡ false →
      Goes pairs (pair_at 1 rest number (line ++ newline ∷ next) turns) (pair_at 2 rest number (line ++ newline ∷ next) (turns + 1)) (line_to 0 line)
  unfolding next_move selects
  pair_prints number line next rest turns none = goes_one (rw (before_it line next none) refl)

  pair_deletes : (number : ℕ) (line next : List ℕ) (rest : List (List ℕ)) (turns : ℕ) → list_any is_newline line ≡ false →
      Goes pairs (pair_at 2 rest number (line ++ newline ∷ next) turns) (record (pair_at 2 rest number next (turns + 1)) { tasks = flush ∷ rebegin ∷ [] }) []
  unfolding next_move selects
  pair_deletes number line next rest turns none = goes_one (rw (has_it line next, after_it line next none) refl)

  pair_again : (number : ℕ) (next : List ℕ) (rest : List (List ℕ)) (turns : ℕ) →
      Goes pairs (record (pair_at 2 rest number next turns) { tasks = flush ∷ rebegin ∷ [] }) (pair_at 0 rest number next (turns + 1)) []
  unfolding next_move after written
  pair_again number next rest turns = record { moves = 2; is = refl; wrote = refl }

  pair_cycle : (number : ℕ) (line next : List ℕ) (rest : List (List ℕ)) (turns : ℕ) → list_any is_newline line ≡ false →
      Goes pairs (pair_at 0 (next ∷ rest) number line turns) (pair_at 0 rest (number + 1) next (turns + 1 + 1 + 1 + 1)) (line_to 0 line)
  pair_cycle number line next rest turns none =
      subst (Goes pairs (pair_at 0 (next ∷ rest) number line turns) (pair_at 0 rest (number + 1) next (turns + 1 + 1 + 1 + 1))) (append-nil (line_to 0 line))
      (goes_on (pair_joins number line next rest turns) (goes_on (pair_prints (number + 1) line next rest (turns + 1) none)
      (goes_on (pair_deletes (number + 1) line next rest (turns + 1 + 1) none) (pair_again (number + 1) next rest (turns + 1 + 1 + 1)))))

  pair_passes : (number : ℕ) (line : List ℕ) (turns : ℕ) → Goes pairs (pair_at 0 [] number line turns) (pair_at 1 [] number line (turns + 1)) []
  unfolding next_move selects
  pair_passes number line turns = goes_one refl

  pair_prints_last : (number : ℕ) (line : List ℕ) (turns : ℕ) → list_any is_newline line ≡ false → Goes pairs (pair_at 1 [] number line turns) (pair_at 2 [] number line (turns + 1)) (line_to 0 line)
  unfolding next_move selects
  pair_prints_last number line turns none = goes_one (rw (all_of_it line none) refl)

  pair_deletes_last : (number : ℕ) (line : List ℕ) (turns : ℕ) → list_any is_newline line ≡ false →
      Goes pairs (pair_at 2 [] number line turns) (record (pair_at 2 [] number [] (turns + 1)) { tasks = flush ∷ begin ∷ [] }) []
  unfolding next_move selects
  pair_deletes_last number line turns none = goes_one (rw none refl)

  pair_ends : (number turns : ℕ) → IsOutput pairs (record (pair_at 2 [] number [] turns) { tasks = flush ∷ begin ∷ [] }) []
  unfolding next_move after written
  pair_ends number turns = record { moves = 2; ended = refl; wrote = refl }

  pair_last : (number : ℕ) (line : List ℕ) (turns : ℕ) → list_any is_newline line ≡ false → IsOutput pairs (pair_at 0 [] number line turns) (line_to 0 line)
  pair_last number line turns none =
      subst (IsOutput pairs (pair_at 0 [] number line turns)) (append-nil (line_to 0 line))
      (ends_on (pair_passes number line turns) (ends_on (pair_prints_last number line (turns + 1) none)
      (ends_on (pair_deletes_last number line (turns + 1 + 1) none) (pair_ends number (turns + 1 + 1 + 1)))))

  pairs_run : (line : List ℕ) (rest : List (List ℕ)) (number turns : ℕ) → NoneBroken (line ∷ rest) → IsOutput pairs (pair_at 0 rest number line turns) (to_sink 0 (text_of (line ∷ rest)))
  pairs_run line [] number turns none = pair_last number line turns none.0
  pairs_run line (next ∷ rest) number turns none =
      subst (IsOutput pairs (pair_at 0 (next ∷ rest) number line turns)) (line_first line (next ∷ rest))
      (ends_on (pair_cycle number line next rest turns none.0) (pairs_run next rest (number + 1) (turns + 1 + 1 + 1 + 1) none.1))

  pair_start : (line : List ℕ) (rest : List (List ℕ)) → Goes pairs (between (line ∷ rest) 0 [] false (false ∷ false ∷ false ∷ []) None 0) (pair_at 0 rest 1 line 1) []
  unfolding next_move after written
  pair_start line rest = record { moves = 1; is = refl; wrote = refl }

  pub pair_run : (lines : List (List ℕ)) → NoneBroken lines → IsOutput pairs (between lines 0 [] false (false ∷ false ∷ false ∷ []) None 0) (to_sink 0 (text_of lines))
  pair_run [] none = ends_there pairs 0 [] false (false ∷ false ∷ false ∷ []) None 0
  pair_run (line ∷ rest) none = ends_on (pair_start line rest) (pairs_run line rest 1 1 none)
