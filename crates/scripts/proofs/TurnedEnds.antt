-- `1!G;h;$!d` within limits that are ample.
use Rattle.std.proofs.Common.{◌≡◌, ℕ, zero, suc, ◌+◌, ◌-◌, ◌*◌, ◌<◌, ◌≤◌, Bool, true, false, List, [], ◌∷◌, ◌++◌, length, length-append, Option, None, refl, sym, ap, subst, ◌∙◌, append-nil, append_assoc, arith}
use Rattle.std.specs.Prelude.{codes, reverse}
use Rattle.sedre.specs.declared.types.Kind.TheVariants.{Basic}
use Rattle.sedscript.specs.Script.{Means}
use Rattle.sedscript.specs.Program.{Program}
use Rattle.std.specs.List.{onto_first}
use Rattle.sedspace.specs.Lines.{is_newline, split_lines}
use Rattle.sedspace.proofs.LineLemmas.{lines_nil}
use Rattle.scripts.proofs.Cutting.{lines_yes, lines_no}
use Rattle.sedengine.specs.State.{LimitsView, Task, begin, flush, empty_pattern, MachineState, Setting, finds_in, search_in, setting_of}
use Rattle.sedengine.specs.Substitute.{Occurrence}
use Rattle.sedengine.specs.Select.{selects}
use Rattle.sedengine.specs.Move.{after, line_to, next_move, newline, start, to_sink, writing, written}
use Rattle.sedengine.specs.Steps.{at_end}
use Rattle.sedengine.specs.Ends.{size_of, IsCause, RanWhole, StaysWithin, WithinLimits}
use Rattle.sedengine.specs.Types.{Ended, Done}
use Rattle.examples.proofs.ComputedEnds.{whole_first}
use Rattle.scripts.specs.Ampleness.{Ample, NoDevice}
use Rattle.scripts.specs.Edited.{text_of}
use Rattle.scripts.proofs.Ample.{ends_done}
use Rattle.scripts.proofs.Cycles.{between, within, deleted}
use Rattle.scripts.proofs.Links.{OneMeaning, same_run}
use Rattle.scripts.proofs.Famous.{turned_means, turned_program}
use Rattle.scripts.proofs.Holding.{turns_round, onto, held, onto_held, onto_last, more_turned, not_first}

module _ (l : LimitsView) (finds : ℕ → List ℕ → Bool) (search : ℕ → List ℕ → ℕ → Option Occurrence) (files : ℕ → List ℕ) where
  abbrev round : Setting
  round = turns_round finds search files

  abbrev three : List Bool
  three = false ∷ false ∷ false ∷ []

  abbrev held_at : List (List ℕ) → ℕ → List ℕ → ℕ → MachineState
  held_at ls number hold turns = between ls number hold false three None turns

  abbrev in_line : List (List ℕ) → ℕ → List ℕ → List ℕ → ℕ → ℕ → MachineState
  in_line ls number pattern hold k turns = within ls number pattern hold false three None k turns

  abbrev ending : ℕ → List ℕ → List ℕ → List Task → ℕ → MachineState
  ending number pattern hold tasks turns = record (in_line [] number pattern hold 3 turns) { tasks = tasks }

  abbrev onto' : ℕ → List ℕ → List ℕ → List ℕ
  onto' number line hold = onto finds search files number line hold

  -- ---- the moves

  begins : (line : List ℕ) (rest : List (List ℕ)) (number : ℕ) (hold : List ℕ) (turns : ℕ) → next_move round (held_at (line ∷ rest) number hold turns) ≡ writing [] (in_line rest (number + 1) line hold 0 (turns + 1))
  unfolding next_move
  begins line rest number hold turns = refl

  gets : (line : List ℕ) (rest : List (List ℕ)) (number : ℕ) (hold : List ℕ) (turns : ℕ) → next_move round (in_line rest (number + 1) line hold 0 turns) ≡ writing [] (in_line rest (number + 1) (onto' number line hold) hold 1 (turns + 1))
  unfolding next_move selects
  gets line rest zero hold turns = refl
  gets line rest (suc number) hold turns = rw (not_first finds search files number) refl

  holds : (pattern : List ℕ) (rest : List (List ℕ)) (number : ℕ) (hold : List ℕ) (turns : ℕ) → next_move round (in_line rest number pattern hold 1 turns) ≡ writing [] (in_line rest number pattern pattern 2 (turns + 1))
  unfolding next_move selects
  holds pattern rest number hold turns = refl

  deletes : (pattern next : List ℕ) (rest : List (List ℕ)) (number : ℕ) (turns : ℕ) → next_move round (in_line (next ∷ rest) number pattern pattern 2 turns) ≡ writing [] (deleted (next ∷ rest) number pattern false three None (turns + 1))
  unfolding next_move selects
  deletes pattern next rest number turns = refl

  flushes : (hold : List ℕ) (ls : List (List ℕ)) (number turns : ℕ) → next_move round (deleted ls number hold false three None turns) ≡ writing [] (held_at ls number hold turns)
  unfolding next_move
  flushes hold ls number turns = refl

  keeps : (pattern : List ℕ) (number turns : ℕ) → next_move round (in_line [] number pattern pattern 2 turns) ≡ writing [] (in_line [] number pattern pattern 3 (turns + 1))
  unfolding next_move selects
  keeps pattern number turns = refl

  leaves : (pattern : List ℕ) (number turns : ℕ) → next_move round (in_line [] number pattern pattern 3 turns) ≡ writing [] (ending number pattern pattern at_end turns)
  unfolding next_move
  leaves pattern number turns = refl

  prints : (pattern : List ℕ) (number turns : ℕ) → next_move round (ending number pattern pattern at_end turns) ≡ writing (line_to 0 pattern) (ending number pattern pattern (flush ∷ empty_pattern ∷ begin ∷ []) turns)
  unfolding next_move
  prints pattern number turns = refl

  flushes_last : (pattern : List ℕ) (number turns : ℕ) → next_move round (ending number pattern pattern (flush ∷ empty_pattern ∷ begin ∷ []) turns) ≡ writing [] (ending number pattern pattern (empty_pattern ∷ begin ∷ []) turns)
  unfolding next_move
  flushes_last pattern number turns = refl

  empties : (pattern : List ℕ) (number turns : ℕ) → next_move round (ending number pattern pattern (empty_pattern ∷ begin ∷ []) turns) ≡ writing [] (held_at [] number pattern turns)
  unfolding next_move
  empties pattern number turns = refl

  ends : (hold : List ℕ) (number turns : ℕ) → next_move round (held_at [] number hold turns) ≡ writing [] (record (held_at [] number hold turns) { tasks = [] })
  unfolding next_move
  ends hold number turns = refl

  -- ---- within the limits

  fits : {ls : List (List ℕ)} {number : ℕ} {pattern hold : List ℕ} {tasks : List Task} {turns : ℕ} → length pattern ≤ l.space → length hold ≤ l.space → turns ≤ l.turns →
      WithinLimits l (record (in_line ls number pattern hold 0 turns) { tasks = tasks })
  fits p h t = record { pattern = p; hold = h; queue = omega arith; turns = t }

  abbrev Comes : MachineState → List (ℕ × ℕ) → Type 0
  Comes s out = (t : ℕ) × RanWhole l round s out Done t

  next : {s m : MachineState} {bytes out : List (ℕ × ℕ)} → next_move round s ≡ writing bytes m → WithinLimits l s → Comes m out → Comes s (bytes ++ out)
  next go fit rest = (suc rest.0, whole_first go fit rest.1)

  at_last : (hold : List ℕ) (number turns : ℕ) → length hold ≤ l.space → turns ≤ l.turns → Comes (record (held_at [] number hold turns) { tasks = [] }) []
  unfolding after written StaysWithin
  at_last hold number turns h t = (0, record { within = λ k low. let none : k ≡ 0 = omega arith in rw none (fits (omega arith) h t); wrote = refl; cause = refl })

  length-onto : (number : ℕ) (line hold : List ℕ) → length (onto' number line hold) ≤ length line + 1 + length hold
  length-onto zero line hold = omega arith
  length-onto (suc number) line hold = omega (arith, length-append line (newline ∷ hold))

  round_comes : (line : List ℕ) (rest : List (List ℕ)) (number : ℕ) (hold : List ℕ) (turns : ℕ) → length hold + size_of (line ∷ rest) ≤ l.space → turns + 4 * (1 + length rest) ≤ l.turns →
      Comes (held_at (line ∷ rest) number hold turns) (to_sink 0 (text_of (reverse (line ∷ rest)) ++ held finds search files number hold))
  round_comes line [] number hold turns small few =
      let p : List ℕ = onto' number line hold in
      let long = length-onto number line hold in
      let out : line_to 0 p ++ [] ≡ to_sink 0 ((line ++ newline ∷ []) ++ held finds search files number hold) =
      append-nil (line_to 0 p) ∙ ap (to_sink 0) (onto_last finds search files number line hold ∙ sym (append_assoc line (newline ∷ []) (held finds search files number hold))) in
      subst (Comes (held_at (line ∷ []) number hold turns)) out
      (next (begins line [] number hold turns) (fits (omega arith) (omega (arith, small)) (omega (arith, few)))
      (next (gets line [] number hold (turns + 1)) (fits (omega (arith, small)) (omega (arith, small)) (omega (arith, few)))
      (next (holds p [] (number + 1) hold (turns + 1 + 1)) (fits (omega (arith, small, long)) (omega (arith, small)) (omega (arith, few)))
      (next (keeps p (number + 1) (turns + 1 + 1 + 1)) (fits (omega (arith, small, long)) (omega (arith, small, long)) (omega (arith, few)))
      (next (leaves p (number + 1) (turns + 1 + 1 + 1 + 1)) (fits (omega (arith, small, long)) (omega (arith, small, long)) (omega (arith, few)))
      (next (prints p (number + 1) (turns + 1 + 1 + 1 + 1)) (fits (omega (arith, small, long)) (omega (arith, small, long)) (omega (arith, few)))
      (next (flushes_last p (number + 1) (turns + 1 + 1 + 1 + 1)) (fits (omega (arith, small, long)) (omega (arith, small, long)) (omega (arith, few)))
      (next (empties p (number + 1) (turns + 1 + 1 + 1 + 1)) (fits (omega (arith, small, long)) (omega (arith, small, long)) (omega (arith, few)))
      (next (ends p (number + 1) (turns + 1 + 1 + 1 + 1)) (fits (omega arith) (omega (arith, small, long)) (omega (arith, few)))
      (at_last p (number + 1) (turns + 1 + 1 + 1 + 1) (omega (arith, small, long)) (omega (arith, few))))))))))))
  round_comes line (after_it ∷ rest) number hold turns small few =
      let p : List ℕ = onto' number line hold in
      let long = length-onto number line hold in
      let out = ap (to_sink 0) (ap (λ bs. text_of (reverse (after_it ∷ rest)) ++ bs) (onto_held finds search files number line hold) ∙ more_turned finds search files line (after_it ∷ rest) (held finds search files number hold)) in
      subst (Comes (held_at (line ∷ after_it ∷ rest) number hold turns)) out
      (next (begins line (after_it ∷ rest) number hold turns) (fits (omega arith) (omega (arith, small)) (omega (arith, few)))
      (next (gets line (after_it ∷ rest) number hold (turns + 1)) (fits (omega (arith, small)) (omega (arith, small)) (omega (arith, few)))
      (next (holds p (after_it ∷ rest) (number + 1) hold (turns + 1 + 1)) (fits (omega (arith, small, long)) (omega (arith, small)) (omega (arith, few)))
      (next (deletes p after_it rest (number + 1) (turns + 1 + 1 + 1)) (fits (omega (arith, small, long)) (omega (arith, small, long)) (omega (arith, few)))
      (next (flushes p (after_it ∷ rest) (number + 1) (turns + 1 + 1 + 1 + 1)) (fits (omega arith) (omega (arith, small, long)) (omega (arith, few)))
      (round_comes after_it rest (number + 1) p (turns + 1 + 1 + 1 + 1) (omega (arith, small, long)) (omega (arith, few))))))))

  round_run : (ls : List (List ℕ)) → size_of ls ≤ l.space → 4 * length ls ≤ l.turns → Comes (held_at ls 0 [] 0) (to_sink 0 (text_of (reverse ls)))
  round_run [] small few = next (ends [] 0 0) (fits (omega arith) (omega arith) (omega arith)) (at_last [] 0 0 (omega arith) (omega arith))
  round_run (line ∷ rest) small few =
      subst (λ (bs : List ℕ). Comes (held_at (line ∷ rest) 0 [] 0) (to_sink 0 bs)) (append-nil (text_of (reverse (line ∷ rest))))
      (round_comes line rest 0 [] 0 (omega (arith, small)) (omega (arith, few)))

-- the lines of bytes are no larger than these, and a newline more
pub size_of_lines : (bytes : List ℕ) → size_of (split_lines bytes) ≤ length bytes + 1
size_of_lines [] = rw lines_nil (omega arith)
size_of_lines (b ∷ bs) = by_test (is_newline b) refl (size_of_lines bs)
  where
    onto_size : (ls : List (List ℕ)) → size_of ls ≤ length bs + 1 → size_of (onto_first b ls) ≤ suc (length bs) + 1
    onto_size [] h = omega arith
    onto_size (line ∷ rest) h = omega (arith, h)

    by_test : (t : Bool) → is_newline b ≡ t → size_of (split_lines bs) ≤ length bs + 1 → size_of (split_lines (b ∷ bs)) ≤ suc (length bs) + 1
    by_test true e h = rw (lines_yes b bs e) (omega (arith, h))
    by_test false e h = rw (lines_no b bs e) (onto_size (split_lines bs) h)

lines_size : (ls : List (List ℕ)) → length ls ≤ size_of ls
lines_size [] = omega arith
lines_size (line ∷ rest) = let more = lines_size rest in omega (arith, more)

-- A run within ample limits ends in the ordinary way, and has written the lines in reverse order, where no device has failed or
-- is full.
pub turned_done : (l : LimitsView) (input : List ℕ) (finds : ℕ → List ℕ → Bool) (search : ℕ → List ℕ → ℕ → Option Occurrence) (files : ℕ → List ℕ) (out : List (ℕ × ℕ)) (end : Ended) (t : ℕ) → Ample l 4 input → NoDevice end →
    IsCause l (turns_round finds search files) (between (split_lines input) 0 [] false (false ∷ false ∷ false ∷ []) None 0) out end t → (end ≡ Done) × (out ≡ to_sink 0 (text_of (reverse (split_lines input))))
unfolding StaysWithin
turned_done l input finds search files out end t ample free cause =
    let small = size_of_lines input in
    let few = lines_size (split_lines input) in
    let some : 0 < l.turns = omega (arith, ample.turns_left) in
    let low : LimitsView = record l { turns = l.turns - 1 } in
    let fewer : 4 * length (split_lines input) ≤ l.turns - 1 = omega (arith, ample.turns_left, small, few) in
    let come = round_run low finds search files (split_lines input) (omega (arith, ample.space, small)) fewer in
    ends_done l (turns_round finds search files) (between (split_lines input) 0 [] false (false ∷ false ∷ false ∷ []) None 0) out come.0 (to_sink 0 (text_of (reverse (split_lines input)))) come.1.cause come.1.wrote
    (λ k h. let f = come.1.within k h in record { pattern = f.pattern; hold = f.hold; queue = f.queue; turns = omega (arith, f.turns) })
    (λ k h. let f = come.1.within k h in omega (arith, f.turns, some)) end t free cause

-- the same of any script that the text means
pub turned_ends : OneMeaning → (l : LimitsView) (p : Program) (files : ℕ → List ℕ) (input : List ℕ) (out : List (ℕ × ℕ)) (end : Ended) (t : ℕ) → Means (codes "1!G;h;$!d") Basic 65536 p → Ample l 4 input → NoDevice end →
    IsCause l (setting_of p files) (start p.commands (split_lines input)) out end t → (end ≡ Done) × (out ≡ to_sink 0 (text_of (reverse (split_lines input))))
turned_ends one l p files input out end t m ample free cause =
    let q : Program = turned_program in
    let same = one (codes "1!G;h;$!d") Basic 65536 p q m turned_means in
    let moved = same_run (λ g s. IsCause l g s out end t) p.commands q.commands p.texts q.texts p.substitutions q.substitutions p.tables q.tables p.quiet q.quiet p.expressions files (split_lines input) same.0 same.1 same.2 same.3 same.6 cause in
    turned_done l input (finds_in p.expressions) (search_in p.expressions) files out end t ample free moved
