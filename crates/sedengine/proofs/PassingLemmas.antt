-- Cycles in which no command does anything.
use Rattle.std.proofs.Common.{◌≡◌, ℕ, suc, zero, ◌<◌, ◌+◌, ◌*◌, ◌-◌, ◌≤◌, ◌⊎◌, inl, inr, Bool, true, false, cond, List, [], ◌∷◌, ◌++◌, length, length-append, take, get_or, Option, Some, None, refl, subst, sym, ap, ap₂, ◌∙◌, arith, add-zero, add-one, append-nil, append_assoc}
use Rattle.std.proofs.Math.Seq.{drop-nil}
use Rattle.std.proofs.Math.Nat.{suc-mul}
use Rattle.std.specs.Prelude.{is_some, nat_eq, slice_get, slice_set, slice_index_or, option_and_then}
use Rattle.std.specs.Option.{option_or, option_map, option_map_or}
use Rattle.std.specs.List.{All}
use Rattle.std.proofs.lemmas.List.{set-get_or, take-append-le}
use Rattle.std.proofs.lemmas.List.Elements.{All-cons, All-head, All-nil, All-tail}
use Rattle.std.proofs.lemmas.Bool.Decides.{nat_tests}
use Rattle.sedre.specs.Tree.{WrittenExpression, expression_tree}
use Rattle.sedmatch.specs.Matching.{leftmost_longest}
use Rattle.sedscript.specs.Program.{Program}
use Rattle.sedscript.specs.declared.types.Address.{Address}
use Rattle.sedscript.specs.declared.types.Address.TheVariants.{Line, Last, Match}
use Rattle.sedscript.specs.declared.types.Command.{Command}
use Rattle.sedscript.specs.declared.types.Action.{Action}
use Rattle.sedscript.specs.declared.types.Action.TheVariants.{Block, Branch, Substitute}
use Rattle.sedscript.specs.declared.types.BranchUse.TheVariants.{Always, IfReplaced}
use Rattle.sedscript.specs.declared.substitution.Substitution.{Substitution}
use Rattle.sedacts.specs.State.{LimitsView, Task, begin, do_at, flush, empty_pattern, MachineState, Move, Setting, search_for, setting_of, occurrence_at_span}
use Rattle.sedacts.specs.Select.{CurrentLine, Selection, answer, selects, stands_for}
use Rattle.sedacts.specs.Substitute.{Occurrence, each_occurrence, occurrences_from, to_replace}
use Rattle.sedacts.specs.Move.{acts, after, begun_cycle, current_of, flushes, line_to, next_move, newline, none_left, goes_past, quietly, reach, having_reached, replaces, substitutes, writes_text_at, then_do, to_sink, writing, written}
use Rattle.sedacts.specs.Meters.{WereSent, SinkView}
use Rattle.sedacts.specs.Ends.{BrokenOff, WithinLimits, StaysWithin, named_sink}
use Rattle.sedacts.specs.Held.{HoldsAt, SameLengths}
use Rattle.sedacts.specs.declared.ends.Ended.{Ended}
use Rattle.sedacts.specs.declared.idle.Need.{Need}
use Rattle.sedacts.specs.declared.idle.Need.TheVariants.{NoMatch, OtherNumber, NotLast, Nothing}
use Rattle.sedacts.proofs.Writing.{slice_get-append_add}
use Rattle.sedacts.specs.Idle.{need_of_address, need_of_substitution, need_of_action, need_of, behind_by, behind, place_at, need_at, judged_by, bytes_of_lines}
use Rattle.sedengine.specs.Passing.{IsIdleIn, judged_in, MeetsNeed, LeftAlone, AllLeftAlone, BlockLeftAlone, FindsAsItSearches, passed_out, after_passing, moves_of, line_due, Went, CanPass, MovesLedTo, StoppedPassing}
use Rattle.sedacts.proofs.Gains.{to_sink-append}
use Rattle.sedacts.proofs.Moves.{after-add, written-add, StaysWithin-add, move_at, after_none}
use Rattle.sedacts.specs.Choose.{performs, is_active}
use Rattle.sedengine.specs.SubstituteCalls.{to_replace_in}
use Rattle.sedacts.proofs.Occurrences.{with_rest}
use Rattle.sedacts.specs.Steps.{at_end, WholeOrBrokenOff, next_or_stay, writes_of}
use Rattle.sedacts.proofs.Walking.{judged_suc, judged_zero, place_suc, place_zero}

pub went_on : (l : LimitsView) (g : Setting) (s m now : MachineState) (out more : List (ℕ × ℕ)) (t u : ℕ) → Went l g s m out t → Went l g m now more u → Went l g s now (out ++ more) (t + u)
went_on l g s m now out more t u a b =
    let c : Went l g (after g s t) now more u = rw a.is b in
    record { is = after-add g s t u ∙ c.is; wrote = written-add g s t u ∙ ap₂ (λ x y. x ++ y) a.wrote c.wrote; within = StaysWithin-add l g s t u a.within c.within }

one_is : (g : Setting) (s : MachineState) (m : Move) → next_move g s ≡ Some m → after g s 1 ≡ m.next
unfolding after
one_is g s m h = ap (next_or_stay s) h

one_wrote : (g : Setting) (s : MachineState) (m : Move) → next_move g s ≡ Some m → written g s 1 ≡ m.writes
unfolding written after
one_wrote g s m h = ap writes_of h

none_or_one : (k : ℕ) → k ≤ 1 → (k ≡ 0) ⊎ (k ≡ 1)
none_or_one zero h = inl refl
none_or_one (suc k) h = inr (omega arith)

one_within : (l : LimitsView) (g : Setting) (s : MachineState) → WithinLimits l s → WithinLimits l (after g s 1) → StaysWithin l g s 1
unfolding StaysWithin
one_within l g s f n = λ k h. elim (none_or_one k h) [ inl none ↦ rw (none, after_none g s) f | inr one ↦ rw one n ]

-- one move
pub went_one : (l : LimitsView) (g : Setting) (s now : MachineState) (out : List (ℕ × ℕ)) → WithinLimits l s → next_move g s ≡ writing out now → WithinLimits l now → Went l g s now out 1
went_one l g s now out f is n =
    let m : Move = record { next = now; writes = out } in
    let at : after g s 1 ≡ now = one_is g s m is in
    record { is = at; wrote = one_wrote g s m is; within = one_within l g s f (rw at n) }

-- what a need asks for is met, and it is known
abbrev Allows : Setting → ℕ → Bool → List ℕ → Option Need → Type 0
Allows g number last line None = ⊥
Allows g number last line (Some need) = MeetsNeed g number last line need

-- how an address answers that selects nothing
answers_no : (g : Setting) (s : MachineState) (a : Address) → Allows g s.number (none_left s.lines) s.pattern (need_of_address a) →
    answer (current_of g s) a ≡ Some (record { yes = false; used = option_or (judged_by (need_of_address a)) s.used })
answers_no g s (Line n) h = ap (λ b. Some (record { yes = b; used = s.used })) h
answers_no g s Last h = ap (λ b. Some (record { yes = b; used = s.used })) h
answers_no g s (Match None) h = absurd h
answers_no g s (Match (Some e)) h = ap (λ b. Some (record { yes = b; used = Some e })) h

-- the command of these parts, without `!`
abbrev command_of : Option Address → Option Address → Action → Command
command_of first second action = record { first = first; second = second; negate = false; action = action }

-- it selects nothing
selects_no : (c : CurrentLine) (first : Address) (second : Option Address) (action : Action) (used : Option ℕ) → answer c first ≡ Some (record { yes = false; used = used }) →
    selects c false (command_of (Some first) second action) ≡ Some (record { yes = false; end = false; active = false; used = used })
unfolding selects
selects_no c first None action used h = simp h
selects_no c first (Some second) action used h = simp h

-- it selects all
selects_all : (c : CurrentLine) (second : Option Address) (action : Action) →
    selects c false (command_of None second action) ≡ Some (record { yes = true; end = false; active = false; used = c.used })
unfolding selects
selects_all c second action = refl

-- a command that doesn't apply
passes_by : (s : MachineState) (first : Address) (action : Action) (k : ℕ) → s.tasks ≡ do_at (k + 1) ∷ [] → goes_past s action ≡ quietly (then_do (do_at (behind_by (Some first) action k) ∷ []) s)
passes_by s first (Block next) k t = refl
passes_by s first other k t = ap (λ ts. quietly (then_do ts s)) t

-- a substitution that finds nothing
none_occurs : (search : ℕ → Option Occurrence) (n : ℕ) → search 0 ≡ None → each_occurrence search n ≡ []
unfolding occurrences_from
none_occurs search n h = rw add-one (ap (λ o. with_rest o (λ m. occurrences_from search n n (Some m.end))) h)

none_to_replace : (number : ℕ) (global : Bool) → to_replace number global [] ≡ []
none_to_replace number true = drop-nil (number - 1)
none_to_replace number false = ap (λ ms. take 1 ms) (drop-nil (number - 1))

replaces_none : (g : Setting) (s : MachineState) (t : Substitution) (e : Option ℕ) → FindsAsItSearches g → Allows g s.number (none_left s.lines) s.pattern (option_map NoMatch e) →
    option_and_then (λ e. replaces (record s { used = Some e }) t (to_replace_in g t e s.pattern)) (stands_for e s.used) ≡ quietly (record s { used = option_or (judged_by (option_map NoMatch e)) s.used })
replaces_none g s t None finds h = absurd h
replaces_none g s t (Some e) finds h =
    ap (λ ms. replaces (record s { used = Some e }) t ms) (ap (to_replace t.number t.global) (none_occurs (g.search e s.pattern) (length s.pattern) (finds e s.pattern h)) ∙ none_to_replace t.number t.global)

substitutes_none : (g : Setting) (s : MachineState) (o : Option Substitution) → FindsAsItSearches g → Allows g s.number (none_left s.lines) s.pattern (need_of_substitution o) →
    substitutes g s o ≡ quietly (record s { used = option_or (judged_by (need_of_substitution o)) s.used })
substitutes_none g s None finds h = absurd h
substitutes_none g s (Some t) finds h = replaces_none g s t t.expression finds h

-- a command that applies to each line
acts_by : (g : Setting) (s : MachineState) (writes_text : Bool) (action : Action) (k : ℕ) → FindsAsItSearches g → s.tasks ≡ do_at (k + 1) ∷ [] → s.replaced ≡ false →
    Allows g s.number (none_left s.lines) s.pattern (need_of_action g.substitutions action) →
    acts g s writes_text action ≡ quietly (record s { used = option_or (judged_by (need_of_action g.substitutions action)) s.used; tasks = do_at (behind_by None action k) ∷ [] })
acts_by g s writes_text (Substitute m) k finds t fresh h =
    substitutes_none g s (slice_get g.substitutions m) finds h
    ∙ ap (λ ts. quietly (record s { used = option_or (judged_by (need_of_substitution (slice_get g.substitutions m))) s.used; tasks = ts })) t
acts_by g s writes_text (Branch IfReplaced m) k finds t fresh h =
    ap (λ b. quietly (cond b (then_do (do_at m ∷ []) (record s { replaced = false })) s)) fresh ∙ ap (λ ts. quietly (record s { tasks = ts })) t
acts_by g s writes_text (Block m) k finds t fresh h = ap (λ ts. quietly (record s { tasks = ts })) t
acts_by g s writes_text (Branch Always m) k finds t fresh h = refl
acts_by g s writes_text other k finds t fresh h = absurd h

-- the state in which command k was reached and did nothing
abbrev stepped : Setting → MachineState → ℕ → Option Command → MachineState
stepped g s k o = record s { used = option_or (judged_by (need_of g.substitutions o)) s.used; tasks = do_at (behind o k) ∷ []; turns = s.turns + 1 }

idle_set : (ranges : List Bool) (k : ℕ) → slice_index_or ranges k false ≡ false → slice_set ranges k false ≡ ranges
idle_set ranges k idle = ap (λ b. slice_set ranges k b) (sym idle) ∙ set-get_or ranges k false

reach_parts : (g : Setting) (s : MachineState) (k : ℕ) (first second : Option Address) (negate : Bool) (action : Action) → FindsAsItSearches g → s.replaced ≡ false → is_active s k ≡ false →
    Allows g s.number (none_left s.lines) s.pattern (need_of g.substitutions (Some (record { first = first; second = second; negate = negate; action = action }))) →
    reach g s k (Some (record { first = first; second = second; negate = negate; action = action })) ≡ quietly (stepped g s k (Some (record { first = first; second = second; negate = negate; action = action })))
reach_parts g s k first second true action finds fresh idle h = absurd h
reach_parts g s k (Some first) second false action finds fresh idle h =
    let c : Command = command_of (Some first) second action in
    let used : Option ℕ = option_or (judged_by (need_of_address first)) s.used in
    let none : Selection = record { yes = false; end = false; active = false; used = used } in
    ap (λ b. option_and_then (performs g s k c) (selects (current_of g s) b c)) idle
    ∙ ap (option_and_then (performs g s k c)) (selects_no (current_of g s) first second action used (answers_no g s first h))
    ∙ passes_by (having_reached s k none) first action k refl
    ∙ ap (λ rs. quietly (record s { ranges = rs; used = used; tasks = do_at (behind_by (Some first) action k) ∷ []; turns = s.turns + 1 })) (idle_set s.ranges k idle)
reach_parts g s k None second false action finds fresh idle h =
    let c : Command = command_of None second action in
    let all : Selection = record { yes = true; end = false; active = false; used = s.used } in
    ap (λ b. option_and_then (performs g s k c) (selects (current_of g s) b c)) idle
    ∙ ap (option_and_then (performs g s k c)) (selects_all (current_of g s) second action)
    ∙ acts_by g (having_reached s k all) (writes_text_at c false) action k finds refl fresh h
    ∙ ap (λ rs. quietly (record s { ranges = rs; used = option_or (judged_by (need_of_action g.substitutions action)) s.used; tasks = do_at (behind_by None action k) ∷ []; turns = s.turns + 1 })) (idle_set s.ranges k idle)

reach_idle : (g : Setting) (s : MachineState) (k : ℕ) (o : Option Command) → FindsAsItSearches g → s.replaced ≡ false → is_active s k ≡ false → Allows g s.number (none_left s.lines) s.pattern (need_of g.substitutions o) →
    reach g s k o ≡ quietly (stepped g s k o)
reach_idle g s k None finds fresh idle h = absurd h
reach_idle g s k (Some c) finds fresh idle h = reach_parts g s k c.first c.second c.negate c.action finds fresh idle h

allows_of : (g : Setting) (number : ℕ) (last : Bool) (line : List ℕ) (o : Option Need) → is_some o ≡ true → ((need : Need) → o ≡ Some need → MeetsNeed g number last line need) → Allows g number last line o
allows_of g number last line None some h = cc
allows_of g number last line (Some need) some h = h need refl

option_or-assoc : (a b c : Option ℕ) → option_or a (option_or b c) ≡ option_or (option_or a b) c
option_or-assoc None b c = refl
option_or-assoc (Some a) b c = refl

-- no state is changed but in what these are
abbrev in_cycle : MachineState → List ℕ → List (List ℕ) → Option ℕ → ℕ → List Task → MachineState
in_cycle s pattern rest used turns tasks = record s { lines = rest; number = s.number + 1; pattern = pattern; replaced = false; used = used; tasks = tasks; turns = turns }

same_cycle : (s : MachineState) (pattern pattern' : List ℕ) (rest : List (List ℕ)) (used used' : Option ℕ) (turns turns' : ℕ) (tasks tasks' : List Task) → pattern ≡ pattern' → used ≡ used' → turns ≡ turns' → tasks ≡ tasks' →
    in_cycle s pattern rest used turns tasks ≡ in_cycle s pattern' rest used' turns' tasks'
same_cycle s pattern pattern' rest used used' turns turns' tasks tasks' p u n t = cc

-- In a cycle on this line, which is left alone, c commands are reached.
module _ (l : LimitsView) (g : Setting) (c : ℕ) (finds : FindsAsItSearches g) (idle : IsIdleIn g c) (s : MachineState) (can : CanPass l g c s) (line : List ℕ) (rest : List (List ℕ)) (is : s.lines ≡ line ∷ rest)
    (alone : LeftAlone g c (s.number + 1) (none_left rest) line) (short : length line ≤ l.space) (turns : s.turns + 1 + c ≤ l.turns) where
  -- the state before the command that is reached after j others
  abbrev at_command : ℕ → MachineState
  at_command j = in_cycle s line rest (option_or (judged_in g j) s.used) (s.turns + 1 + j) (do_at (place_at g.commands j) ∷ [])

  fits_in : (pattern : List ℕ) (used : Option ℕ) (turns : ℕ) (tasks : List Task) → length pattern ≤ l.space → turns ≤ l.turns → WithinLimits l (in_cycle s pattern rest used turns tasks)
  fits_in pattern used turns tasks p t = record { pattern = p; hold = can.fits.hold; queue = can.fits.queue; turns = t }

  begins_cycle : next_move g s ≡ quietly (at_command 0)
  begins_cycle =
      move_at g s (begin ∷ []) can.begins ∙ ap (begun_cycle s) is
      ∙ ap quietly (same_cycle s line line rest s.used (option_or (judged_in g 0) s.used) (s.turns + 1) (s.turns + 1 + 0) (do_at 0 ∷ []) (do_at (place_at g.commands 0) ∷ []) refl (rw judged_zero refl) (omega arith) (rw place_zero refl))

  command_moves : (j : ℕ) → j < c → next_move g (at_command j) ≡ quietly (at_command (suc j))
  command_moves j less =
      let o : Option Command = slice_get g.commands (place_at g.commands j) in
      move_at g (at_command j) (do_at (place_at g.commands j) ∷ []) refl
      ∙ reach_idle g (at_command j) (place_at g.commands j) o finds refl (can.ranges j less) (allows_of g (s.number + 1) (none_left rest) line (need_at g.commands g.substitutions j) (idle.needs j less) (λ need is. alone need (j, less, is)))
      ∙ ap quietly (same_cycle s line line rest (option_or (judged_by (need_at g.commands g.substitutions j)) (option_or (judged_in g j) s.used)) (option_or (judged_in g (suc j)) s.used) (s.turns + 1 + j + 1) (s.turns + 1 + suc j)
      (do_at (behind o (place_at g.commands j)) ∷ []) (do_at (place_at g.commands (suc j)) ∷ []) refl (rw judged_suc (option_or-assoc (judged_by (need_at g.commands g.substitutions j)) (judged_in g j) s.used)) (omega arith) (rw place_suc refl))

  reaches : (j : ℕ) → j ≤ c → Went l g s (at_command j) [] (1 + j)
  reaches zero h = went_one l g s (at_command 0) [] can.fits begins_cycle (fits_in line (option_or (judged_in g 0) s.used) (s.turns + 1 + 0) (do_at (place_at g.commands 0) ∷ []) short (omega arith))
  reaches (suc j) h =
      let before : WithinLimits l (at_command j) = fits_in line (option_or (judged_in g j) s.used) (s.turns + 1 + j) (do_at (place_at g.commands j) ∷ []) short (omega arith) in
      let behind : WithinLimits l (at_command (suc j)) = fits_in line (option_or (judged_in g (suc j)) s.used) (s.turns + 1 + suc j) (do_at (place_at g.commands (suc j)) ∷ []) short (omega arith) in
      let n : 1 + j + 1 ≡ 1 + suc j = omega arith in
      rw (← n) (went_on l g s (at_command j) (at_command (suc j)) [] [] (1 + j) 1 (reaches j (omega arith)) (went_one l g (at_command j) (at_command (suc j)) [] before (command_moves j (omega arith)) behind))

  -- the state at the end of the script, with these tasks
  abbrev at_last : List ℕ → List Task → MachineState
  at_last pattern tasks = in_cycle s pattern rest (option_or (judged_in g c) s.used) (s.turns + 1 + c) tasks

  fits_last : (pattern : List ℕ) (tasks : List Task) → length pattern ≤ l.space → WithinLimits l (at_last pattern tasks)
  fits_last pattern tasks p = fits_in pattern (option_or (judged_in g c) s.used) (s.turns + 1 + c) tasks p turns

  script_ends : next_move g (at_command c) ≡ quietly (at_last line at_end)
  script_ends = move_at g (at_command c) (do_at (place_at g.commands c) ∷ []) refl ∙ ap (reach g (at_command c) (place_at g.commands c)) idle.ends

  -- the line is about to be written
  pub idle_to_print : Went l g s (at_last line at_end) [] (c + 2)
  idle_to_print =
      let n : 1 + c + 1 ≡ c + 2 = omega arith in
      rw (← n) (went_on l g s (at_command c) (at_last line at_end) [] [] (1 + c) 1 (reaches c (omega arith))
      (went_one l g (at_command c) (at_last line at_end) [] (fits_last line (do_at (place_at g.commands c) ∷ []) short) script_ends (fits_last line at_end short)))

  pub prints : next_move g (at_last line at_end) ≡ writing (passed_out g.quiet (line ∷ [])) (at_last line (flush ∷ empty_pattern ∷ begin ∷ []))
  prints = move_at g (at_last line at_end) at_end refl

  flushes_none : next_move g (at_last line (flush ∷ empty_pattern ∷ begin ∷ [])) ≡ quietly (at_last line (empty_pattern ∷ begin ∷ []))
  flushes_none = move_at g (at_last line (flush ∷ empty_pattern ∷ begin ∷ [])) (flush ∷ empty_pattern ∷ begin ∷ []) refl ∙ ap (flushes (at_last line (flush ∷ empty_pattern ∷ begin ∷ [])) (empty_pattern ∷ begin ∷ [])) can.none

  empties : next_move g (at_last line (empty_pattern ∷ begin ∷ [])) ≡ quietly (at_last [] (begin ∷ []))
  empties = move_at g (at_last line (empty_pattern ∷ begin ∷ [])) (empty_pattern ∷ begin ∷ []) refl

  passed_is : at_last [] (begin ∷ []) ≡ after_passing g c 1 rest s
  passed_is = same_cycle s [] s.pattern rest (option_or (judged_in g c) s.used) (option_or (judged_in g c) s.used) (s.turns + 1 + c) (s.turns + 1 * (c + 1)) (begin ∷ []) s.tasks (sym can.empty) refl (omega arith) (sym can.begins)

  -- one cycle
  pub idle_cycle : Went l g s (after_passing g c 1 rest s) (passed_out g.quiet (line ∷ [])) (moves_of c)
  idle_cycle =
      let a : MachineState = at_last line at_end in
      let b : MachineState = at_last line (flush ∷ empty_pattern ∷ begin ∷ []) in
      let d : MachineState = at_last line (empty_pattern ∷ begin ∷ []) in
      let e : MachineState = at_last [] (begin ∷ []) in
      let out : List (ℕ × ℕ) = passed_out g.quiet (line ∷ []) in
      let fa : WithinLimits l a = fits_last line at_end short in
      let fb : WithinLimits l b = fits_last line (flush ∷ empty_pattern ∷ begin ∷ []) short in
      let fd : WithinLimits l d = fits_last line (empty_pattern ∷ begin ∷ []) short in
      let fe : WithinLimits l e = fits_last [] (begin ∷ []) (omega arith) in
      let all : Went l g s e (out ++ []) (c + 2 + (1 + (1 + 1))) =
      went_on l g s a e [] (out ++ []) (c + 2) (1 + (1 + 1)) idle_to_print (went_on l g a b e out [] 1 (1 + 1) (went_one l g a b out fa prints fb)
      (went_on l g b d e [] [] 1 1 (went_one l g b d [] fb flushes_none fd) (went_one l g d e [] fd empties fe))) in
      let n : c + 2 + (1 + (1 + 1)) ≡ moves_of c = omega arith in
      let W : MachineState → List (ℕ × ℕ) → ℕ → Type 0 = λ m w n. Went l g s m w n in
      subst (λ m. Went l g s m out (moves_of c)) passed_is (subst (λ w. Went l g s e w (moves_of c)) (append-nil out) (subst (λ n. Went l g s e (out ++ []) n) n all))

-- the lines of a block
outs-append : (quiet : Bool) (line : List ℕ) (lines : List (List ℕ)) → passed_out quiet (line ∷ []) ++ passed_out quiet lines ≡ passed_out quiet (line ∷ lines)
outs-append true line lines = refl
outs-append false line lines = sym (to_sink-append 0 (line ++ newline ∷ []) (bytes_of_lines lines)) ∙ ap (to_sink 0) (append_assoc line (newline ∷ []) (bytes_of_lines lines))

used_twice : (a b : Option ℕ) → option_or a (option_or a b) ≡ option_or a b
used_twice None b = refl
used_twice (Some a) b = refl

same_passed : (s : MachineState) (rest : List (List ℕ)) (number number' : ℕ) (used used' : Option ℕ) (turns turns' : ℕ) → number ≡ number' → used ≡ used' → turns ≡ turns' →
    (let a : MachineState = record s { lines = rest; number = number; replaced = false; used = used; turns = turns } in a) ≡ record s { lines = rest; number = number'; replaced = false; used = used'; turns = turns' }
same_passed s rest number number' used used' turns turns' n u t = cc

passed_more : (g : Setting) (c n : ℕ) (more rest : List (List ℕ)) (s : MachineState) → after_passing g c n rest (after_passing g c 1 more s) ≡ after_passing g c (suc n) rest s
passed_more g c n more rest s =
    same_passed s rest (s.number + 1 + n) (s.number + suc n) (option_or (judged_in g c) (option_or (judged_in g c) s.used)) (option_or (judged_in g c) s.used)
    (s.turns + 1 * (c + 1) + n * (c + 1)) (s.turns + suc n * (c + 1)) (omega arith) (used_twice (judged_in g c) s.used) (omega (arith, suc-mul n (c + 1)))

module _ (l : LimitsView) (g : Setting) (c : ℕ) (finds : FindsAsItSearches g) (idle : IsIdleIn g c) where
  pub idle_block : (s : MachineState) (can : CanPass l g c s) (line : List ℕ) (lines rest : List (List ℕ)) → s.lines ≡ line ∷ (lines ++ rest) → AllLeftAlone g c s.number (line ∷ lines) rest →
      All (λ x. length x ≤ l.space) (line ∷ lines) → s.turns + length (line ∷ lines) * (c + 1) ≤ l.turns →
      Went l g s (after_passing g c (length (line ∷ lines)) rest s) (passed_out g.quiet (line ∷ lines)) (length (line ∷ lines) * moves_of c)
  idle_block s can line [] rest is alone short turns =
      let once : 1 * moves_of c ≡ moves_of c = omega arith in
      rw once (idle_cycle l g c finds idle s can line rest is alone.0 (All-head (λ x. length x ≤ l.space) line [] short) (omega arith))
  idle_block s can line (next ∷ lines) rest is alone short turns =
      let more : List (List ℕ) = next ∷ (lines ++ rest) in
      let n : ℕ = length (next ∷ lines) in
      let m : MachineState = after_passing g c 1 more s in
      let there : MachineState = after_passing g c n rest m in
      let fewer : s.turns + 1 * (c + 1) + n * (c + 1) ≤ l.turns = omega (arith, suc-mul n (c + 1)) in
      let fits = can.fits in
      let can' : CanPass l g c m = record { fits = record { pattern = fits.pattern; hold = fits.hold; queue = fits.queue; turns = omega arith }; begins = can.begins; empty = can.empty; none = can.none; ranges = can.ranges } in
      let first = idle_cycle l g c finds idle s can line more is alone.0 (All-head (λ x. length x ≤ l.space) line (next ∷ lines) short) (omega arith) in
      let others = idle_block m can' next lines rest refl alone.1 (All-tail (λ x. length x ≤ l.space) line (next ∷ lines) short) fewer in
      let all = went_on l g s m there (passed_out g.quiet (line ∷ [])) (passed_out g.quiet (next ∷ lines)) (moves_of c) (n * moves_of c) first others in
      let t : moves_of c + n * moves_of c ≡ suc n * moves_of c = omega (arith, suc-mul n (moves_of c)) in
      let out : List (ℕ × ℕ) = passed_out g.quiet (line ∷ []) ++ passed_out g.quiet (next ∷ lines) in
      subst (λ (x : MachineState). Went l g s x (passed_out g.quiet (line ∷ next ∷ lines)) (suc n * moves_of c)) (passed_more g c n more rest s)
      (subst (λ (w : List (ℕ × ℕ)). Went l g s there w (suc n * moves_of c)) (outs-append g.quiet line (next ∷ lines)) (subst (λ (t : ℕ). Went l g s there out t) t all))

other_line : (n number more : ℕ) → (n ≤ number) ⊎ (number + suc more < n) → nat_eq n (number + 1) ≡ false
other_line n number more (inl h) = grind (arith, nat_tests)
other_line n number more (inr h) = grind (arith, nat_tests)

later_line : (n number more : ℕ) → (n ≤ number) ⊎ (number + suc more < n) → (n ≤ number + 1) ⊎ (number + 1 + more < n)
later_line n number more (inl h) = inl (omega arith)
later_line n number more (inr h) = inr (omega arith)

left-append : (lines rest : List (List ℕ)) → none_left rest ≡ false → none_left (lines ++ rest) ≡ false
left-append [] rest h = h
left-append (line ∷ lines) rest h = refl

-- a block that has what is asked of it
pub block_left_alone : (g : Setting) (c number : ℕ) (lines rest : List (List ℕ)) → BlockLeftAlone g c number lines rest → AllLeftAlone g c number lines rest
block_left_alone g c number [] rest h = tt
block_left_alone g c number (line ∷ lines) rest h = (
  alone,
  block_left_alone g c (number + 1) lines rest (record {
    unmatched = λ e asked. All-tail (λ x. g.finds e x ≡ false) line lines (h.unmatched e asked);
    numbers = λ n asked. later_line n number (length lines) (h.numbers n asked);
    last = h.last;
  }),
)
  where
    alone : LeftAlone g c (number + 1) (none_left (lines ++ rest)) line
    alone (NoMatch e) asked = All-head (λ x. g.finds e x ≡ false) line lines (h.unmatched e asked)
    alone (OtherNumber n) asked = other_line n number (length lines) (h.numbers n asked)
    alone NotLast asked = left-append lines rest (h.last asked)
    alone Nothing asked = tt

-- a script's own expressions are found as they are searched for
none_searched : (o : Option WrittenExpression) (w : List ℕ) → option_map_or (λ e. is_some (leftmost_longest (expression_tree e) w 0)) o false ≡ false → option_and_then (λ e. search_for e w 0) o ≡ None
none_searched None w h = refl
none_searched (Some e) w h = none_at (leftmost_longest (expression_tree e) w 0) h
  where
    none_at : (o : Option (ℕ × ℕ)) → is_some o ≡ false → option_map (occurrence_at_span e w) o ≡ None
    none_at None h = refl
    none_at (Some span) h = cc

pub program_finds : (p : Program) (files : ℕ → List ℕ) → FindsAsItSearches (setting_of p files)
program_finds p files = λ e w h. none_searched (slice_get p.expressions e) w h

-- what is left alone in a block, in two parts
alone-append : (g : Setting) (c number : ℕ) (before lines rest : List (List ℕ)) → AllLeftAlone g c number (before ++ lines) rest →
    AllLeftAlone g c number before (lines ++ rest) × AllLeftAlone g c (number + length before) lines rest
alone-append g c number [] lines rest h = (tt, rw add-zero h)
alone-append g c number (line ∷ before) lines rest h =
    let more = alone-append g c (number + 1) before lines rest h.1 in
    let same : number + 1 + length before ≡ number + length (line ∷ before) = omega arith in
    let one : LeftAlone g c (number + 1) (none_left (before ++ (lines ++ rest))) line = subst (λ (ls : List (List ℕ)). LeftAlone g c (number + 1) (none_left ls) line) (append_assoc before lines rest) h.0 in
    ((one, more.0), subst (λ (n : ℕ). AllLeftAlone g c n lines rest) same more.1)

went_fits : (l : LimitsView) (g : Setting) (s now : MachineState) (out : List (ℕ × ℕ)) (t : ℕ) → Went l g s now out t → WithinLimits l now
unfolding StaysWithin
went_fits l g s now out t h = subst (λ (x : MachineState). WithinLimits l x) h.is (h.within t (omega arith))

same_due : (s : MachineState) (line : List ℕ) (rest : List (List ℕ)) (number number' : ℕ) (used used' : Option ℕ) (turns turns' : ℕ) → number ≡ number' → used ≡ used' → turns ≡ turns' →
    (let a : MachineState = record s { lines = rest; number = number; pattern = line; replaced = false; used = used; tasks = at_end; turns = turns } in a)
    ≡ record s { lines = rest; number = number'; pattern = line; replaced = false; used = used'; tasks = at_end; turns = turns' }
same_due s line rest number number' used used' turns turns' n u t = cc

none_out : (quiet : Bool) → passed_out quiet [] ≡ []
none_out true = refl
none_out false = refl

moved : (a b : MachineState) → a ≡ b → (out out' : List (ℕ × ℕ)) → out ≡ out' → (t u : ℕ) → t ≡ u → (l : LimitsView) (g : Setting) (s : MachineState) → Went l g s a out t → Went l g s b out' u
moved a b same out out' wrote t u moves l g s h =
    subst (λ (x : MachineState). Went l g s x out' u) same (subst (λ (w : List (ℕ × ℕ)). Went l g s a w u) wrote (subst (λ (n : ℕ). Went l g s a out n) moves h))

All-apart : {X : Type 0} (P : X → Type 0) (xs ys : List X) → All P (xs ++ ys) → All P xs × All P ys
All-apart {X} P [] ys h = (All-nil P, h)
All-apart {X} P (x ∷ xs) ys h = let rest = All-apart P xs ys (All-tail P x (xs ++ ys) h) in (All-cons P x xs (All-head P x (xs ++ ys) h) rest.0, rest.1)

-- the first bytes of what a line writes
slice_get-to_sink : (k d : ℕ) (bs : List ℕ) → d < length bs → slice_get (to_sink k bs) d ≡ Some (k, get_or bs d 0)
slice_get-to_sink k d [] h = absurd (omega arith)
slice_get-to_sink k zero (b ∷ bs) h = refl
slice_get-to_sink k (suc d) (b ∷ bs) h = slice_get-to_sink k d bs (omega arith)

pub length-to_sink : (k : ℕ) (bs : List ℕ) → length (to_sink k bs) ≡ length bs
length-to_sink k [] = refl
length-to_sink k (b ∷ bs) = ap suc (length-to_sink k bs)

pub bytes_of-append : (before lines : List (List ℕ)) → bytes_of_lines (before ++ lines) ≡ bytes_of_lines before ++ bytes_of_lines lines
bytes_of-append [] lines = refl
bytes_of-append (line ∷ before) lines = ap (λ bs. line ++ newline ∷ bs) (bytes_of-append before lines) ∙ sym (append_assoc line (newline ∷ bytes_of_lines before) (bytes_of_lines lines))

out_parts : (before : List (List ℕ)) (line : List ℕ) (more : List (List ℕ)) → passed_out false (before ++ line ∷ more) ≡ (passed_out false before ++ line_to 0 line) ++ passed_out false more
out_parts before line more =
    ap (to_sink 0) (bytes_of-append before (line ∷ more)) ∙ to_sink-append 0 (bytes_of_lines before) (bytes_of_lines (line ∷ more))
    ∙ ap (λ w. passed_out false before ++ w) (sym (outs-append false line more)) ∙ sym (append_assoc (passed_out false before) (line_to 0 line) (passed_out false more))

-- A sink took no more in the move after those that lead to the state a, which writes this line.
stopped_printing : (l : LimitsView) (g : Setting) (s a b now : MachineState) (out tail : List (ℕ × ℕ)) (line : List ℕ) (t n d : ℕ) (old new : SinkView) (end : Ended) →
    Went l g s a out t → next_move g a ≡ writing (line_to 0 line) b → WithinLimits l b → length out ≡ n → d ≤ length line →
    WereSent old new (take (n + d) ((out ++ line_to 0 line) ++ tail)) → named_sink end ≡ Some 0 → SameLengths a now → a.lines ≡ now.lines → StoppedPassing l g s now old new end
stopped_printing l g s a b now out tail line t n d old new end went is fits long inside took names same lines =
    let piece : List (ℕ × ℕ) = line_to 0 line in
    let next : Went l g s b (out ++ piece) (t + 1) = went_on l g s a b out piece t 1 went (went_one l g a b piece (went_fits l g s a out t went) is fits) in
    let one : t + 1 ≡ suc t = omega arith in
    let there : Went l g s b (out ++ piece) (suc t) = subst (λ (t : ℕ). Went l g s b (out ++ piece) t) one next in
    let within_line : d < length (line ++ newline ∷ []) = omega (arith, length-append line (newline ∷ [])) in
    let due : slice_get (out ++ piece) (n + d) ≡ Some (0, get_or (line ++ newline ∷ []) d 0) =
    ap (λ n. slice_get (out ++ piece) (n + d)) (sym long) ∙ slice_get-append_add out piece d ∙ slice_get-to_sink 0 d (line ++ newline ∷ []) within_line in
    let all : n + d ≤ length (out ++ piece) = omega (arith, length-append out piece, length-to_sink 0 (line ++ newline ∷ [])) in
    let gains : List (ℕ × ℕ) = take (n + d) ((out ++ piece) ++ tail) in
    let cut : BrokenOff l g s gains 0 t = record {
      within = there.within;
      b = n + d;
      byte = get_or (line ++ newline ∷ []) d 0;
      past = rw went.wrote (omega arith);
      due = ap (λ w. slice_get w (n + d)) there.wrote ∙ due;
      wrote = ap (take (n + d)) there.wrote ∙ sym (take-append-le (n + d) (out ++ piece) tail all);
    } in
    let here : SameLengths (after g s t) now = subst (λ (x : MachineState). SameLengths x now) (sym went.is) same in
    record {
      t = t;
      out = gains;
      sinks = took;
      cause = subst (λ (o : Option ℕ). WholeOrBrokenOff l g s gains end t o) (sym names) cut;
      holds = subst (λ (o : Option ℕ). HoldsAt g s t now o) (sym names) (inl here);
      lines = ap (λ (x : MachineState). x.lines) went.is ∙ lines;
    }

module _ (l : LimitsView) (g : Setting) (c : ℕ) (finds : FindsAsItSearches g) (idle : IsIdleIn g c) where
  -- the line after some others is about to be written
  pub line_comes : (s : MachineState) (can : CanPass l g c s) (before : List (List ℕ)) (line : List ℕ) (rest : List (List ℕ)) → s.lines ≡ before ++ line ∷ rest →
      AllLeftAlone g c s.number before (line ∷ rest) → LeftAlone g c (s.number + length before + 1) (none_left rest) line →
      All (λ x. length x ≤ l.space) before → length line ≤ l.space → s.turns + length before * (c + 1) + 1 + c ≤ l.turns →
      Went l g s (line_due g c (length before) line rest s) (passed_out g.quiet before) (length before * moves_of c + (c + 2))
  line_comes s can [] line rest is others alone shorts short turns =
      let here : LeftAlone g c (s.number + 1) (none_left rest) line = let n : s.number + 0 + 1 ≡ s.number + 1 = omega arith in subst (λ (n : ℕ). LeftAlone g c n (none_left rest) line) n alone in
      let went = idle_to_print l g c finds idle s can line rest is here short (omega arith) in
      let now : in_cycle s line rest (option_or (judged_in g c) s.used) (s.turns + 1 + c) at_end ≡ line_due g c 0 line rest s =
      same_due s line rest (s.number + 1) (s.number + 0 + 1) (option_or (judged_in g c) s.used) (option_or (judged_in g c) s.used) (s.turns + 1 + c) (s.turns + 0 * (c + 1) + 1 + c) (omega arith) refl (omega arith) in
      let t : c + 2 ≡ 0 * moves_of c + (c + 2) = omega arith in
      moved (in_cycle s line rest (option_or (judged_in g c) s.used) (s.turns + 1 + c) at_end) (line_due g c 0 line rest s) now [] (passed_out g.quiet []) (sym (none_out g.quiet)) (c + 2) (0 * moves_of c + (c + 2)) t l g s went
  line_comes s can (first ∷ before) line rest is others alone shorts short turns =
      let n : ℕ = length (first ∷ before) in
      let m : MachineState = after_passing g c n (line ∷ rest) s in
      let went = idle_block l g c finds idle s can first before (line ∷ rest) is others shorts (omega arith) in
      let can' : CanPass l g c m = record { fits = went_fits l g s m (passed_out g.quiet (first ∷ before)) (n * moves_of c) went; begins = can.begins; empty = can.empty; none = can.none; ranges = can.ranges } in
      let last = idle_to_print l g c finds idle m can' line rest refl alone short turns in
      let a : MachineState = in_cycle m line rest (option_or (judged_in g c) (option_or (judged_in g c) s.used)) (s.turns + n * (c + 1) + 1 + c) at_end in
      let now : a ≡ line_due g c n line rest s =
      same_due s line rest (s.number + n + 1) (s.number + n + 1) (option_or (judged_in g c) (option_or (judged_in g c) s.used)) (option_or (judged_in g c) s.used) (s.turns + n * (c + 1) + 1 + c) (s.turns + n * (c + 1) + 1 + c) refl (used_twice (judged_in g c) s.used) refl in
      let out : List (ℕ × ℕ) = passed_out g.quiet (first ∷ before) in
      moved a (line_due g c n line rest s) now (out ++ []) out (append-nil out) (n * moves_of c + (c + 2)) (n * moves_of c + (c + 2)) refl l g s
      (went_on l g s m a out [] (n * moves_of c) (c + 2) went last)

  -- a sink took no more inside the line after some others of a block, whose bytes it gained before; `now` has this line in the
  -- pattern space
  pub broken_block : (s : MachineState) (can : CanPass l g c s) (before : List (List ℕ)) (line : List ℕ) (more rest : List (List ℕ)) (now : MachineState) (d : ℕ) (old new : SinkView) (end : Ended) →
      s.lines ≡ (before ++ line ∷ more) ++ rest → AllLeftAlone g c s.number (before ++ line ∷ more) rest → All (λ x. length x ≤ l.space) (before ++ line ∷ more) →
      s.turns + length before * (c + 1) + 1 + c ≤ l.turns → g.quiet ≡ false → d ≤ length line →
      WereSent old new (take (length (bytes_of_lines before) + d) (to_sink 0 (bytes_of_lines (before ++ line ∷ more)))) → named_sink end ≡ Some 0 →
      SameLengths (line_due g c (length before) line (more ++ rest) s) now → now.lines ≡ more ++ rest → StoppedPassing l g s now old new end
  broken_block s can before line more rest now d old new end is alone shorts turns loud inside took names same lines =
      let parts = alone-append g c s.number before (line ∷ more) rest alone in
      let short_parts = All-apart (λ x. length x ≤ l.space) before (line ∷ more) shorts in
      let a : MachineState = line_due g c (length before) line (more ++ rest) s in
      let lines_are : s.lines ≡ before ++ line ∷ (more ++ rest) = is ∙ append_assoc before (line ∷ more) rest in
      let went = line_comes s can before line (more ++ rest) lines_are parts.0 parts.1.0 short_parts.0 (All-head (λ x. length x ≤ l.space) line more short_parts.1) turns in
      let out : passed_out g.quiet before ≡ passed_out false before = ap (λ q. passed_out q before) loud in
      let went' : Went l g s a (passed_out false before) (length before * moves_of c + (c + 2)) = subst (λ (w : List (ℕ × ℕ)). Went l g s a w (length before * moves_of c + (c + 2))) out went in
      let b : MachineState = record a { tasks = flush ∷ empty_pattern ∷ begin ∷ [] } in
      let prints_it : next_move g a ≡ writing (line_to 0 line) b = move_at g a at_end refl ∙ ap (λ q. writing (cond q [] (line_to 0 line)) b) loud in
      let fits = went_fits l g s a (passed_out false before) (length before * moves_of c + (c + 2)) went' in
      stopped_printing l g s a b now (passed_out false before) (passed_out false more) line (length before * moves_of c + (c + 2)) (length (bytes_of_lines before)) d old new end
      went' prints_it (record { pattern = fits.pattern; hold = fits.hold; queue = fits.queue; turns = fits.turns }) (length-to_sink 0 (bytes_of_lines before)) inside
      (subst (λ (w : List (ℕ × ℕ)). WereSent old new (take (length (bytes_of_lines before) + d) w)) (out_parts before line more) took) names same (sym lines)

-- lines of which all that they write was written are passed over
pub all_passed : (l : LimitsView) (g : Setting) (s now : MachineState) (out : List (ℕ × ℕ)) (t : ℕ) (old new : SinkView) → Went l g s now out t → WereSent old new out → MovesLedTo l g s now old new
all_passed l g s now out t old new went took =
    record { t = t; is = went.is; within = went.within; sinks = subst (λ (w : List (ℕ × ℕ)). WereSent old new w) (sym went.wrote) took }
