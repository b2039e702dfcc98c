-- From the contract of `edit` to the bytes that a whole edit by `1!G;h;$!d` answers.
use Rattle.std.proofs.Common.{◌≡◌, inl, inr, ℕ, zero, suc, ◌+◌, ◌-◌, ◌<◌, ◌≤◌, ◌==◌, List, [], ◌∷◌, ◌++◌, length, length-append, take, Bool, true, false, if◌then◌else◌, nat_eq, Option, None, Some, Err, refl, sym, ap, ◌∙◌, arith}
use Rattle.std.specs.Prelude.{codes, reverse}
use Rattle.std.proofs.lemmas.Grind.{reverse_onto}
use Rattle.std.proofs.lemmas.Option.{slice_get_within}
use Rattle.sedre.specs.declared.types.Kind.TheVariants.{Basic}
use Rattle.sedscript.specs.Script.{Means}
use Rattle.sedscript.specs.Program.{Program}
use Rattle.sedspace.specs.Lines.{split_lines}
use Rattle.sedspace.specs.Failures.{Rose}
use Rattle.sedengine.specs.State.{LimitsView, MachineState, Setting, setting_of}
use Rattle.sedengine.specs.Move.{after, newline, to_sink, written}
use Rattle.sedengine.specs.Ends.{GainedWithin, SourceAtEnd, bytes_of_sink, BrokenOff, IsCause, size_of}
use Rattle.sedengine.specs.DevicesAfter.{SinksAtEnd}
use Rattle.sedengine.specs.Types.{Ended, Done, PatternFull, HoldFull, QueueFull, TurnsSpent, NoPrevious, InputBroken, OutputBroken, OutputFull}
use Rattle.sedengine.proofs.Gains.{part-same}
use Rattle.sedengine.proofs.Moves.{written-add}
use Rattle.sededit.specs.EditEnds.{EditEnds}
use Rattle.sededit.specs.Editing.{IsOutput, nothing_before, start_over}
use Rattle.scripts.specs.Ampleness.{IsAmple, NoDevice, ample_room}
use Rattle.scripts.specs.Edited.{text_of}
use Rattle.scripts.proofs.Ample.{before_or_not, ended_still}
use Rattle.scripts.proofs.Famous.{turned_law, turned_means, turned_program}
use Rattle.scripts.proofs.Links.{OneMeaning}
use Rattle.scripts.proofs.TurnedEnds.{size_of_lines, turned_ends}

-- ---- how much is written

longest_prefix : (bs : List (ℕ × ℕ)) (n : ℕ) → length (take n bs) ≤ n
longest_prefix bs zero = omega arith
longest_prefix [] (suc n) = omega arith
longest_prefix (b ∷ bs) (suc n) = let more = longest_prefix bs n in omega (arith, more)

part_no_longer : (k : ℕ) (bs : List (ℕ × ℕ)) → length (bytes_of_sink k bs) ≤ length bs
part_no_longer k [] = omega arith
part_no_longer k ((sink, byte) ∷ bs) = by_test (nat_eq sink k) (part_no_longer k bs)
  where
    by_test : (t : Bool) → length (bytes_of_sink k bs) ≤ length bs → length (if t then byte ∷ bytes_of_sink k bs else bytes_of_sink k bs) ≤ suc (length bs)
    by_test true more = omega (arith, more)
    by_test false more = omega (arith, more)

sink_length : (k : ℕ) (bs : List ℕ) → length (to_sink k bs) ≡ length bs
sink_length k [] = refl
sink_length k (b ∷ bs) = ap suc (sink_length k bs)

text_length : (ls : List (List ℕ)) → length (text_of ls) ≡ size_of ls
text_length [] = refl
text_length (line ∷ rest) = let more = text_length rest in omega (arith, more, length-append line (newline ∷ text_of rest))

size_of_both : (a b : List (List ℕ)) → size_of (a ++ b) ≡ size_of a + size_of b
size_of_both [] b = omega arith
size_of_both (line ∷ a) b = let more = size_of_both a b in omega (arith, more)

size_turned : (ls : List (List ℕ)) → size_of (reverse ls) ≡ size_of ls
size_turned [] = refl
size_turned (line ∷ rest) =
    let more = size_turned rest in
    let turned = ap size_of (reverse_onto rest line []) ∙ size_of_both (reverse rest) (line ∷ []) in omega (arith, more, turned)

-- no moves of a run write more than the whole of it
no_more_than : (g : Setting) (s : MachineState) (out : List (ℕ × ℕ)) (t : ℕ) → IsOutput g s out → length (written g s t) ≤ length out
no_more_than g s out t ends = elim (before_or_not g s t ends.moves) [
  | inl less ↦
      let left : ℕ = ends.moves - t in
      let at : t + left ≡ ends.moves = omega arith in
      let all = ap length (sym ends.wrote ∙ ap (written g s) (sym at) ∙ written-add g s t left) in
      omega (arith, all, length-append (written g s t) (written g (after g s t) left))
  | inr more ↦ let same = ap length (ended_still g s ends.moves t ends.ended more ∙ ends.wrote) in omega (arith, same)
]

-- ---- devices

-- what the one sink holds, and how often it failed
abbrev held : List ℕ → ℕ → Option (List ℕ)
held bytes k = if k == 0 then Some bytes else Some []

abbrev failures : ℕ → ℕ → ℕ
failures failed k = if k == 0 then failed else 0

is_not_zero : (k : ℕ) → nat_eq (suc k) 0 ≡ false
is_not_zero k = grind arith

module _ (old bytes : List ℕ) (was failed : ℕ) (nothing : old ≡ []) where
  holds_part : (most : Option ℕ) (end : Ended) (out : List (ℕ × ℕ)) → GainedWithin most nothing_before (held old) (held bytes) (Err end) out → bytes ≡ bytes_of_sink 0 out
  holds_part most end out h = let e = rw nothing at (h.gained.each 0) in e

  -- the sink of an edit that writes less than the room isn't broken
  not_broken : (most : Option ℕ) (l : LimitsView) (g : Setting) (s : MachineState) (out cut_off : List (ℕ × ℕ)) (k t : ℕ) → IsOutput g s out → length out ≤ ample_room → (0 < failed → ample_room ≤ length bytes) →
      SinksAtEnd most (failures was) (failures failed) (Err (OutputBroken k)) → GainedWithin most nothing_before (held old) (held bytes) (Err (OutputBroken k)) cut_off → BrokenOff l g s cut_off k t → ⊥
  not_broken most l g s out cut_off zero t ends fits full sinks gains cut =
      let rose : Rose was failed = sinks.0 in
      let filled = full (omega (arith, rose)) in
      let is = ap length (holds_part most (OutputBroken 0) cut_off gains) in
      let few = part_no_longer 0 cut_off in
      let wrote = ap length cut.wrote in
      let short = longest_prefix (written g s (suc t)) cut.b in
      let due = slice_get_within (written g s (suc t)) cut.b (0, cut.byte) cut.due in
      let all = no_more_than g s out (suc t) ends in
      omega (arith, filled, is, few, wrote, short, due, all, fits)
  not_broken most l g s out cut_off (suc k) t ends fits full sinks gains cut = let rose : Rose 0 0 = rw (is_not_zero k) at sinks.0 in omega (arith, rose)

no_device : (l : LimitsView) (g : Setting) (s : MachineState) (old bytes : List ℕ) (was failed : ℕ) (out gained : List (ℕ × ℕ)) (end : Ended) (t : ℕ) → old ≡ [] → l.output ≡ None → IsOutput g s out → length out ≤ ample_room → (0 < failed → ample_room ≤ length bytes) →
    SourceAtEnd 0 0 end → SinksAtEnd l.output (failures was) (failures failed) (Err end) → GainedWithin l.output nothing_before (held old) (held bytes) (Err end) gained → IsCause l g s gained end t → NoDevice end
no_device l g s old bytes was failed out gained Done t nothing free ends fits full source sinks gains cause = tt
no_device l g s old bytes was failed out gained (PatternFull n) t nothing free ends fits full source sinks gains cause = tt
no_device l g s old bytes was failed out gained (HoldFull n) t nothing free ends fits full source sinks gains cause = tt
no_device l g s old bytes was failed out gained (QueueFull n) t nothing free ends fits full source sinks gains cause = tt
no_device l g s old bytes was failed out gained TurnsSpent t nothing free ends fits full source sinks gains cause = tt
no_device l g s old bytes was failed out gained (NoPrevious n) t nothing free ends fits full source sinks gains cause = tt
no_device l g s old bytes was failed out gained InputBroken t nothing free ends fits full source sinks gains cause = let rose : Rose 0 0 = source in absurd (omega (arith, rose))
no_device l g s old bytes was failed out gained (OutputBroken k) t nothing free ends fits full source sinks gains cause = absurd (not_broken old bytes was failed nothing l.output l g s out gained k t ends fits full sinks gains cause)
no_device l g s old bytes was failed out gained (OutputFull k) t nothing free ends fits full source sinks gains cause = absurd (sinks.0 free)

-- ---- the whole edit

pub no_files : OneMeaning → (p : Program) → Means (codes "1!G;h;$!d") Basic 65536 p → length p.wfiles < 1
no_files one p m = let same = (one (codes "1!G;h;$!d") Basic 65536 p turned_program m turned_means).5 in let none = ap length same in omega (arith, none)

pub whole_edit : OneMeaning → (l : LimitsView) (p : Program) (input old bytes : List ℕ) (was failed : ℕ) (end : Ended) (before left : Option (List ℕ)) → Means (codes "1!G;h;$!d") Basic 65536 p → IsAmple l → length input < ample_room → old ≡ [] →
    (0 < failed → ample_room ≤ length bytes) → SourceAtEnd 0 0 end → SinksAtEnd l.output (failures was) (failures failed) (Err end) →
    (out : List (ℕ × ℕ)) × GainedWithin l.output nothing_before (held old) (held bytes) (Err end) out × EditEnds l (setting_of p (λ k. [])) (start_over p input) out before left end → (end ≡ Done) × (bytes ≡ text_of (reverse (split_lines input)))
whole_edit one l p input old bytes was failed end before left m is small nothing full source sinks (out, gains, edits) =
    let text : List ℕ = text_of (reverse (split_lines input)) in
    let ends : IsOutput (setting_of p (λ k. [])) (start_over p input) (to_sink 0 text) = (turned_law one input).runs p (λ k. []) m in
    let size = size_of_lines input in
    let fits : length (to_sink 0 text) ≤ ample_room = omega (arith, sink_length 0 text, text_length (reverse (split_lines input)), size_turned (split_lines input), size, small) in
    let free = no_device l (setting_of p (λ k. [])) (start_over p input) old bytes was failed (to_sink 0 text) out end edits.t nothing is.output ends fits full source sinks gains edits.cause in
    let done = turned_ends one l p (λ k. []) input out end edits.t m
    (record { space = omega (arith, small, is.space); turns_left = omega (arith, small, is.turns) }) free edits.cause in
    (done.0, holds_part old bytes was failed nothing l.output end out gains ∙ ap (bytes_of_sink 0) done.1 ∙ part-same 0 text)
