-- Examples of runs whose devices fail, computed by the definitions, from the bytes of a script and of the whole input to the
-- end and what the sinks have gained (which ends there are is this project's own). An example whose input breaks says in
-- which move it may: the input is looked at there.
use Rattle.std.proofs.Common.{◌≡◌, ℕ, zero, suc, ◌+◌, ◌<◌, ◌≤◌, Bool, true, false, ◌&&◌, List, [], ◌∷◌, ◌++◌, length, Some, Err, refl, ap, arith}
use Rattle.std.specs.Prelude.{codes, ltb, leb, nat_eq}
use Rattle.std.proofs.lemmas.Bool.{leb-true, ltb-true}
use Rattle.sedre.specs.declared.types.Kind.TheVariants.{Basic}
use Rattle.examples.proofs.ComputedScript.{verdict, cutting, walked, is_script}
use Rattle.sedscript.specs.Program.{Program}
use Rattle.sedscript.specs.Items.{address_at, second_at, addresses_at, function_at, item_at}
use Rattle.sedscript.specs.Bytes.{past}
use Rattle.sedscript.specs.Arguments.{name_from, text_from}
use Rattle.sedspace.specs.Lines.{split_lines}
use Rattle.sedengine.specs.Ends.{bytes_of_sink, GainedWithin}
use Rattle.sedengine.specs.State.{LimitsView}
use Rattle.sedengine.specs.Move.{next_move, to_sink}
use Rattle.sedengine.specs.Select.{selects}
use Rattle.sedengine.specs.Types.{Done, InputBroken, OutputBroken, OutputFull}
use Rattle.sededit.specs.Editing.{nothing_before}
use Rattle.examples.proofs.ComputedEnds.{both, all_fit, stops_after, stops_within, StopsBy, EndsBy}
use Rattle.examples.proofs.ComputedRun.{course, plain, quiet, no_files}
use Rattle.examples.proofs.LimitWords.{own}

-- the program's own limits, with one on what each sink gains
abbrev output : ℕ → LimitsView
output most = record own { output = Some most }

-- Byte by byte, the second read fails.
input_breaks_before_the_first_line : EndsBy own plain no_files (codes "p") (codes "a\nb\n") InputBroken (codes "")
unfolding verdict cutting walked item_at past function_at addresses_at address_at second_at text_from name_from split_lines course next_move selects all_fit
input_breaks_before_the_first_line = is_script (stops_after 0 refl refl refl refl)

-- The third read fails, or a later one before the second line ends.
input_breaks_before_the_second_line : EndsBy own plain no_files (codes "p") (codes "a\nb\n") InputBroken (codes "a\na\n")
unfolding verdict cutting walked item_at past function_at addresses_at address_at second_at text_from name_from split_lines course next_move selects all_fit
input_breaks_before_the_second_line = is_script (stops_after 6 refl refl refl refl)

-- With -n. Whether the line is the last one is asked where the address is judged.
input_breaks_where_the_last_line_is_asked_for : EndsBy own quiet no_files (codes "$p") (codes "a\n") InputBroken (codes "")
unfolding verdict cutting walked item_at past function_at addresses_at address_at second_at text_from name_from split_lines course next_move selects all_fit
input_breaks_where_the_last_line_is_asked_for = is_script (stops_after 1 refl refl refl refl)

-- With -n. The same failure, and nothing asks for the last line before the cycle ends.
input_breaks_after_the_last_line : EndsBy own quiet no_files (codes "p") (codes "a\n") InputBroken (codes "a\n")
unfolding verdict cutting walked item_at past function_at addresses_at address_at second_at text_from name_from split_lines course next_move selects all_fit
input_breaks_after_the_last_line = is_script (stops_after 6 refl refl refl refl)

-- `n` asks whether there is a next line before it writes.
input_breaks_at_a_next_line : EndsBy own plain no_files (codes "n;d") (codes "a\nb\n") InputBroken (codes "")
unfolding verdict cutting walked item_at past function_at addresses_at address_at second_at text_from name_from split_lines course next_move selects all_fit
input_breaks_at_a_next_line = is_script (stops_after 1 refl refl refl refl)

input_breaks_within_a_next_line : EndsBy own plain no_files (codes "n;d") (codes "a\nb\n") InputBroken (codes "a\n")
unfolding verdict cutting walked item_at past function_at addresses_at address_at second_at text_from name_from split_lines course next_move selects all_fit
input_breaks_within_a_next_line = is_script (stops_after 5 refl refl refl refl)

input_breaks_at_a_joined_line : EndsBy own plain no_files (codes "N") (codes "a\nb\n") InputBroken (codes "")
unfolding verdict cutting walked item_at past function_at addresses_at address_at second_at text_from name_from split_lines course next_move selects all_fit
input_breaks_at_a_joined_line = is_script (stops_after 3 refl refl refl refl)

output_breaks_after_three_bytes : EndsBy own plain no_files (codes "p") (codes "ab\n") (OutputBroken 0) (codes "ab\n")
unfolding verdict cutting walked item_at past function_at addresses_at address_at second_at text_from name_from split_lines course next_move selects all_fit
output_breaks_after_three_bytes = is_script (stops_within 3 0 97 refl refl refl refl refl)

output_breaks_at_once : EndsBy own plain no_files (codes "p") (codes "a\n") (OutputBroken 0) (codes "")
unfolding verdict cutting walked item_at past function_at addresses_at address_at second_at text_from name_from split_lines course next_move selects all_fit
output_breaks_at_once = is_script (stops_within 1 0 97 refl refl refl refl refl)

output_breaks_at_a_newline : EndsBy own plain no_files (codes "p") (codes "ab\n") (OutputBroken 0) (codes "ab")
unfolding verdict cutting walked item_at past function_at addresses_at address_at second_at text_from name_from split_lines course next_move selects all_fit
output_breaks_at_a_newline = is_script (stops_within 1 0 10 refl refl refl refl refl)

-- The sink of the file takes nothing, and nothing was written before.
file_breaks : EndsBy own plain no_files (codes "w out") (codes "a\n") (OutputBroken 1) (codes "")
unfolding verdict cutting walked item_at past function_at addresses_at address_at second_at text_from name_from split_lines course next_move selects all_fit
file_breaks = is_script (stops_within 1 1 97 refl refl refl refl refl)

file_breaks_after_the_standard_output : EndsBy own plain no_files (codes "p;w out") (codes "a\n") (OutputBroken 1) (codes "a\n")
unfolding verdict cutting walked item_at past function_at addresses_at address_at second_at text_from name_from split_lines course next_move selects all_fit
file_breaks_after_the_standard_output = is_script (stops_within 2 1 97 refl refl refl refl refl)

file_breaks_at_the_second_line : StopsBy own Basic plain no_files (codes "w out") (codes "a\nb\n") (OutputBroken 1) (to_sink 1 (codes "a\n") ++ to_sink 0 (codes "a\n"))
unfolding verdict cutting walked item_at past function_at addresses_at address_at second_at text_from name_from split_lines course next_move selects all_fit
file_breaks_at_the_second_line = is_script (stops_within 7 1 98 refl refl refl refl refl)

-- The file is written byte by byte.
output_breaks_in_a_file : EndsBy own plain (λ k. codes "FG") (codes "r f") (codes "a\n") (OutputBroken 0) (codes "a\nF")
unfolding verdict cutting walked item_at past function_at addresses_at address_at second_at text_from name_from split_lines course next_move selects all_fit
output_breaks_in_a_file = is_script (stops_within 6 0 71 refl refl refl refl refl)

-- A file of `r` that breaks after FG is given as one that ends there: no end of the run names it.
file_read_in_part : EndsBy own plain (λ k. codes "FG") (codes "r f") (codes "a\n") Done (codes "a\nFG")
unfolding verdict cutting walked item_at past function_at addresses_at address_at second_at text_from name_from split_lines course next_move selects all_fit
file_read_in_part = is_script (stops_after 14 refl refl refl refl)

-- One that can't be opened is given as empty.
file_that_cannot_be_opened : EndsBy own plain no_files (codes "r none") (codes "a\n") Done (codes "a\n")
unfolding verdict cutting walked item_at past function_at addresses_at address_at second_at text_from name_from split_lines course next_move selects all_fit
file_that_cannot_be_opened = is_script (stops_after 14 refl refl refl refl)

-- The sinks 0 and 1 alone gain bytes, and none of them more than so many.
abbrev two_sinks : List (ℕ × ℕ) → Bool
two_sinks [] = true
two_sinks ((sink, byte) ∷ out) = ltb sink 2 && two_sinks out

abbrev no_more : ℕ → List (ℕ × ℕ) → Bool
no_more most out = two_sinks out && (leb (length (bytes_of_sink 0 out)) most && leb (length (bytes_of_sink 1 out)) most)

not_same : (j k : ℕ) → j < k → nat_eq j k ≡ false
not_same j k below = grind (arith, below)

nothing_for : (k : ℕ) (out : List (ℕ × ℕ)) → two_sinks out ≡ true → 2 ≤ k → bytes_of_sink k out ≡ []
nothing_for k [] e later = refl
nothing_for k ((sink, byte) ∷ out) e later =
    let here = both (ltb sink 2) (two_sinks out) e in
    let below = ltb-true sink 2 here.0 in
    rw (not_same sink k (omega (arith, below, later))) (nothing_for k out here.1 later)

each_sink : (most : ℕ) (out : List (ℕ × ℕ)) → two_sinks out ≡ true → length (bytes_of_sink 0 out) ≤ most → length (bytes_of_sink 1 out) ≤ most →
    (k : ℕ) → length (bytes_of_sink k out) ≤ most
each_sink most out e first second zero = first
each_sink most out e first second (suc zero) = second
each_sink most out e first second (suc (suc k)) = rw (nothing_for (suc (suc k)) out e (omega arith)) (omega arith)

no_more_so : (most : ℕ) (out : List (ℕ × ℕ)) → no_more most out ≡ true → (k : ℕ) → length (bytes_of_sink k out) ≤ most
no_more_so most out e k =
    let first = both (two_sinks out) (leb (length (bytes_of_sink 0 out)) most && leb (length (bytes_of_sink 1 out)) most) e in
    let second = both (leb (length (bytes_of_sink 0 out)) most) (leb (length (bytes_of_sink 1 out)) most) first.1 in
    each_sink most out first.0 (leb-true _ _ second.0) (leb-true _ _ second.1) k

-- An output is full: it has gained the limit exactly, and no sink has gained more.
record Fills (most full : ℕ) (asked : Program → Program) (text input : List ℕ) (out : List (ℕ × ℕ)) : Type 0 where
  stops : StopsBy (output most) Basic asked no_files text input (OutputFull full) out
  within : GainedWithin (Some most) nothing_before (λ k. Some []) (λ k. Some (bytes_of_sink k out)) (Err (OutputFull full)) out

fills : {most full : ℕ} {asked : Program → Program} {text input : List ℕ} {out : List (ℕ × ℕ)} →
    StopsBy (output most) Basic asked no_files text input (OutputFull full) out → no_more most out ≡ true →
    most ≡ 0 + length (bytes_of_sink full out) → Fills most full asked text input out
fills {most = most} {full = full} {out = out} stops each exactly = record {
  stops = stops;
  within = record {
    gained = record { each = λ k. refl };
    within = λ k. omega (arith, no_more_so most out each k);
    full = ap (λ (n : ℕ). Some n) exactly;
  };
}

output_full_at_the_second_line : Fills 3 0 plain (codes "p") (codes "ab\n") (to_sink 0 (codes "ab\n"))
unfolding verdict cutting walked item_at past function_at addresses_at address_at second_at text_from name_from split_lines course next_move selects all_fit
output_full_at_the_second_line = fills (is_script (stops_within 3 0 97 refl refl refl refl refl)) refl refl

output_full_within_a_line : Fills 4 0 plain (codes "p") (codes "ab\n") (to_sink 0 (codes "ab\na"))
unfolding verdict cutting walked item_at past function_at addresses_at address_at second_at text_from name_from split_lines course next_move selects all_fit
output_full_within_a_line = fills (is_script (stops_within 3 0 98 refl refl refl refl refl)) refl refl

-- Where nothing more is due, no end names the limit.
output_not_full : EndsBy (output 6) plain no_files (codes "p") (codes "ab\n") Done (codes "ab\nab\n")
unfolding verdict cutting walked item_at past function_at addresses_at address_at second_at text_from name_from split_lines course next_move selects all_fit
output_not_full = is_script (stops_after 14 refl refl refl refl)

output_without_room : Fills 0 0 plain (codes "p") (codes "a\n") (to_sink 0 (codes ""))
unfolding verdict cutting walked item_at past function_at addresses_at address_at second_at text_from name_from split_lines course next_move selects all_fit
output_without_room = fills (is_script (stops_within 1 0 97 refl refl refl refl refl)) refl refl

output_without_room_and_nothing_to_write : EndsBy (output 0) plain no_files (codes "d") (codes "a\n") Done (codes "")
unfolding verdict cutting walked item_at past function_at addresses_at address_at second_at text_from name_from split_lines course next_move selects all_fit
output_without_room_and_nothing_to_write = is_script (stops_after 14 refl refl refl refl)

two_outputs_and_the_first_full : Fills 2 0 plain (codes "p;w out") (codes "a\n") (to_sink 0 (codes "a\n") ++ to_sink 1 (codes "a\n"))
unfolding verdict cutting walked item_at past function_at addresses_at address_at second_at text_from name_from split_lines course next_move selects all_fit
two_outputs_and_the_first_full = fills (is_script (stops_within 4 0 97 refl refl refl refl refl)) refl refl

-- With -n.
file_full : Fills 1 1 quiet (codes "w out") (codes "a\n") (to_sink 1 (codes "a"))
unfolding verdict cutting walked item_at past function_at addresses_at address_at second_at text_from name_from split_lines course next_move selects all_fit
file_full = fills (is_script (stops_within 1 1 10 refl refl refl refl refl)) refl refl
