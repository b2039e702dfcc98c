-- Examples of single cycles, computed by the definitions: the moves of one cycle, what it writes, and how many bytes it may
-- take from the source.
use Rattle.std.proofs.Common.{◌≡◌, ℕ, zero, suc, ◌+◌, ◌<◌, ◌≤◌, true, false, List, [], ◌∷◌, ◌++◌, length, drop, Some, refl, subst, ap, sym, ◌∙◌, length-append, arith}
use Rattle.std.specs.Prelude.{codes}
use Rattle.sedre.specs.declared.types.Kind.TheVariants.{Basic}
use Rattle.sedscript.specs.Items.{address_at, second_at, addresses_at, function_at, item_at}
use Rattle.sedscript.specs.Bytes.{past}
use Rattle.sedscript.specs.Arguments.{name_from, text_from}
use Rattle.sedscript.specs.Program.{Program}
use Rattle.sedspace.specs.Lines.{split_lines, is_newline, HasNoNewline}
use Rattle.sedengine.specs.Ends.{IsCause, reads, BreaksInLine, LosesPartAfter, size_of}
use Rattle.sedengine.specs.State.{LimitsView, setting_of, Setting, MachineState}
use Rattle.sedengine.specs.LimitRanges.{limits_of}
use Rattle.sedengine.specs.Move.{next_move, after, start, to_sink, written}
use Rattle.sedengine.specs.Run.{Cycled, CameToEnd}
use Rattle.sedengine.specs.DevicesAfter.{TakesInput}
use Rattle.sedengine.specs.Select.{selects}
use Rattle.sedengine.specs.Types.{InputBroken}
use Rattle.examples.proofs.ComputedEnds.{all_fit, within_so}
use Rattle.examples.proofs.ComputedRun.{no_files}
use Rattle.examples.proofs.ComputedScript.{verdict, cutting, walked, Script, is_script}

-- the program's own limits, but that one byte is read ahead
abbrev one_ahead : LimitsView
one_ahead = limits_of 1048576 4096 1 18446744073709551615 16384

abbrev input : List ℕ
input = codes "a\nb\nc\n"

-- The moves of one cycle write `out`. What is left of the source then may be `rest`, and in all `left`; it can't be as little
-- as `less`.
record FirstCycle (p : Program) (out : List (ℕ × ℕ)) (left rest less : List ℕ) : Type 0 where
  moves : ℕ
  cycled : Cycled one_ahead (setting_of p no_files) (start p.commands (split_lines input)) out
      (record { source = Some input; all = Some input }) (record { source = Some rest; all = Some left })
      (after (setting_of p no_files) (start p.commands (split_lines input)) moves)
  no_more : TakesInput (setting_of p no_files) (start p.commands (split_lines input)) (Some input) (Some less) one_ahead.look moves → ⊥

-- between the first of six moves and the last
between : (P : ℕ → Type 0) → P 1 → P 2 → P 3 → P 4 → P 5 → (k : ℕ) → 0 < k → k < 6 → P k
between P one two three four five zero some below = absurd (omega arith)
between P one two three four five (suc zero) some below = one
between P one two three four five (suc (suc zero)) some below = two
between P one two three four five (suc (suc (suc zero))) some below = three
between P one two three four five (suc (suc (suc (suc zero)))) some below = four
between P one two three four five (suc (suc (suc (suc (suc zero))))) some below = five
between P one two three four five (suc (suc (suc (suc (suc (suc k)))))) some below = absurd (omega arith)

-- the lines that were taken, where two of three are left
first_alone : (taken : List (List ℕ)) (a b c : List ℕ) → a ∷ b ∷ c ∷ [] ≡ taken ++ b ∷ c ∷ [] → size_of taken ≡ length a + 1
first_alone [] a b c e = absurd (omega (arith, ap length e))
first_alone (x ∷ []) a b c e = (let same : a ≡ x = cc in rw same (omega arith))
first_alone (x ∷ y ∷ rest) a b c e = absurd (omega (arith, ap length e, length-append rest (b ∷ c ∷ [])))

-- Where one of three lines was taken, no more bytes are gone than its own, its newline and so many more.
not_so_many : (g : Setting) (s : MachineState) (a b c old new : List ℕ) (more t : ℕ) → s.lines ≡ a ∷ b ∷ c ∷ [] → (after g s t).lines ≡ b ∷ c ∷ [] →
    length a + 1 + more + length new < length old → TakesInput g s (Some old) (Some new) more t → ⊥
not_so_many g s a b c old new more t before later many takes =
    let lines : a ∷ b ∷ c ∷ [] ≡ takes.lines ++ b ∷ c ∷ [] = sym before ∙ takes.are ∙ ap (λ (rest : List (List ℕ)). takes.lines ++ rest) later in
    let size = first_alone takes.lines a b c lines in
    let taken = takes.bytes in
    omega (arith, size, ap length taken.1, length-append taken.0 new, taken.2, many)

-- Of the six bytes the first line's two are gone, and the one after them may be taken from the source, and no fourth.
abbrev IsFirst : Program → Type 0
IsFirst p = FirstCycle p (to_sink 0 (codes "a\na\n")) (codes "b\nc\n") (codes "\nc\n") (codes "c\n")

first_cycle : Script (codes "p") Basic IsFirst
unfolding verdict cutting walked item_at past function_at addresses_at address_at second_at text_from name_from split_lines after written next_move selects all_fit
first_cycle = is_script {text = codes "p"} {kind = Basic} {Fits = IsFirst} (record {
  moves = 6;
  cycled = record {
    t = 6;
    some = omega arith;
    is = refl;
    next = refl;
    one = between _ refl refl refl refl refl;
    within = within_so one_ahead _ 6 _ refl;
    wrote = refl;
    lines_taken = record {
      input = record { lines = codes "a" ∷ []; are = refl; bytes = (codes "a\nb", refl, omega arith) };
      all = (codes "a\n", refl, (λ k d inside. absurd (omega (arith, inside))), omega arith);
    };
  };
  no_more = not_so_many _ _ (codes "a") (codes "b") (codes "c") input (codes "c\n") 1 6 refl refl (omega arith);
})

-- A line and its newline are no part of a line.
line_no_part : (part line rest new : List ℕ) → HasNoNewline part → part ++ new ≡ line ++ 10 ∷ rest → length new ≤ length rest → ⊥
line_no_part [] line rest new h is less = absurd (omega (arith, ap length is, length-append line (10 ∷ rest)))
line_no_part (b ∷ bs) [] rest new h is less =
    let same : b ≡ 10 = cc in
    let no : is_newline b ≡ false = h 0 0 (omega arith) in
    absurd (let clash : true ≡ false = rw same at no in cc)
line_no_part (b ∷ bs) (l ∷ ls) rest new h is less =
    let tails : bs ++ new ≡ ls ++ 10 ∷ rest = cc in
    line_no_part bs ls rest new (λ j d lt. h (suc j) d (omega (arith, lt))) tails less

none_dropped : (xs ys line : List ℕ) (n m : ℕ) → n ≡ 0 → xs ≡ line ++ 10 ∷ ys → LosesPartAfter (Some xs) (Some ys) n m → ⊥
none_dropped xs ys line n m zero_is is (gone, all, clear, most) =
    line_no_part gone line ys ys (subst (λ k. HasNoNewline (drop k gone)) zero_is clear) (sym all ∙ is) (omega arith)

no_size : (taken ls : List (List ℕ)) → ls ≡ taken ++ ls → size_of taken ≡ 0
no_size [] ls e = refl
no_size (x ∷ xs) ls e = absurd (omega (arith, ap length e, length-append (x ∷ xs) ls))

nothing_front : (xs ys : List (ℕ × ℕ)) → xs ++ ys ≡ [] → xs ≡ []
nothing_front [] ys e = refl
nothing_front (x ∷ xs) ys e = cc

first_two : (g : Setting) (s : MachineState) (n : ℕ) → written g s (suc (suc n)) ≡ [] → written g s 2 ≡ []
unfolding written
first_two g s zero e = e
first_two g s (suc n) e = first_two g s n (nothing_front _ _ e)

-- Where the first move asks for no input and the second writes, a line that is gone was given before the source failed.
dropped_at : (l : LimitsView) (g : Setting) (s : MachineState) (xs ys line : List ℕ) (t : ℕ) → reads g (after g s 1).tasks ≡ false → (written g s 2 ≡ [] → ⊥) → xs ≡ line ++ 10 ∷ ys →
    IsCause l g s [] InputBroken t → BreaksInLine g s (Some xs) (Some ys) l.space t → ⊥
unfolding after
dropped_at l g s xs ys line zero quiet writes is cause (taken, are, part) = none_dropped xs ys line _ _ (no_size taken s.lines are) is part
dropped_at l g s xs ys line (suc zero) quiet writes is cause part = absurd (let clash : true ≡ false = sym cause.cause ∙ quiet in cc)
dropped_at l g s xs ys line (suc (suc n)) quiet writes is cause part = writes (first_two g s n cause.wrote)

-- An engine that takes the first line and throws it away, since the read after it fails, is none that the contracts allow:
-- the failure comes with the line gone and nothing written.
abbrev KeepsItsLine : Program → Type 0
KeepsItsLine p = (now : MachineState) → CameToEnd one_ahead (setting_of p no_files) (start p.commands (split_lines input)) []
    (record { source = Some input; all = Some input }) (record { source = Some (codes "b\nc\n"); all = Some (codes "b\nc\n") }) now InputBroken → ⊥

line_kept : Script (codes "p") Basic KeepsItsLine
unfolding verdict cutting walked item_at past function_at addresses_at address_at second_at text_from name_from split_lines after written next_move selects all_fit
line_kept = is_script {text = codes "p"} {kind = Basic} {Fits = KeepsItsLine} (λ now e.
    dropped_at one_ahead _ _ input (codes "b\nc\n") (codes "a") e.t refl (λ none. cc) refl e.cause (e.broken refl))
