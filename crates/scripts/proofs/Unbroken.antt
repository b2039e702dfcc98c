-- Texts without a newline, and what `s` and `y` make of them; the lines of texts that are written.
use Rattle.std.proofs.Common.{◌≡◌, ℕ, zero, suc, List, [], ◌∷◌, ◌++◌, length, map, take, drop, Bool, false, ◌||◌, Option, None, Some, refl, ap, ◌∙◌}
use Rattle.std.specs.Prelude.{slice_range}
use Rattle.std.specs.List.{list_any}
use Rattle.std.proofs.lemmas.List.Folds.{list_any-append}
use Rattle.sedspace.specs.Lines.{is_newline, split_lines}
use Rattle.sedspace.proofs.LineLemmas.{lines_nil}
use Rattle.sedre.specs.Tree.{Tree}
use Rattle.std.proofs.lemmas.List.{length-map}
use Rattle.sedmatch.specs.Matching.{leftmost_longest}
use Rattle.sedmatch.specs.Groups.{part_of, span_of}
use Rattle.sedscript.specs.declared.substitution.Piece.{Piece}
use Rattle.sedscript.specs.declared.substitution.Piece.TheVariants.{Literal, Whole, Group}
use Rattle.sedengine.specs.Substitute.{Occurrence, each_occurrence, put_for, replaced_from}
use Rattle.scripts.specs.Edited.{text_of}
use Rattle.scripts.specs.InTurn.{is_break}
use Rattle.examples.proofs.LineLaws.{line_again}
use Rattle.scripts.specs.Words.{match_with, replaced}
use Rattle.scripts.proofs.Truth.{neither}
use Rattle.scripts.proofs.LineLaws.{NoneBroken, lines_none_broken}

abbrev pub Unbroken : List ℕ → Type 0
Unbroken w = list_any is_newline w ≡ false

both_false : (a b : Bool) → a ≡ false → b ≡ false → (a || b) ≡ false
both_false a b e f = rw (e, f) refl

unbroken_both : (a b : List ℕ) → Unbroken a → Unbroken b → Unbroken (a ++ b)
unbroken_both a b e f = list_any-append is_newline a b ∙ both_false (list_any is_newline a) (list_any is_newline b) e f

unbroken_drop : (n : ℕ) (w : List ℕ) → Unbroken w → Unbroken (drop n w)
unbroken_drop zero w h = h
unbroken_drop (suc n) [] h = refl
unbroken_drop (suc n) (b ∷ bs) h = unbroken_drop n bs (neither (is_newline b) (list_any is_newline bs) h).1

unbroken_take : (n : ℕ) (w : List ℕ) → Unbroken w → Unbroken (take n w)
unbroken_take zero w h = refl
unbroken_take (suc n) [] h = refl
unbroken_take (suc n) (b ∷ bs) h =
    let two = neither (is_newline b) (list_any is_newline bs) h in
    both_false (is_newline b) (list_any is_newline (take n bs)) two.0 (unbroken_take n bs two.1)

unbroken_range : (w : List ℕ) (from to : ℕ) → Unbroken w → Unbroken (slice_range w from to)
unbroken_range w from to h = unbroken_take _ (drop from w) (unbroken_drop from w h)

unbroken_part : (w : List ℕ) (span : Option (ℕ × ℕ)) → Unbroken w → Unbroken (part_of w span)
unbroken_part w None h = refl
unbroken_part w (Some span) h = unbroken_range w span.0 span.1 h

unbroken_put : (w : List ℕ) (m : Occurrence) (pieces : List Piece) → Unbroken w → list_any is_break pieces ≡ false → Unbroken (put_for w m pieces)
unbroken_put w m [] h none = refl
unbroken_put w m (Literal b ∷ ps) h none =
    let two = neither (is_newline b) (list_any is_break ps) none in both_false (is_newline b) (list_any is_newline (put_for w m ps)) two.0 (unbroken_put w m ps h two.1)
unbroken_put w m (Whole ∷ ps) h none = unbroken_both (slice_range w m.start m.end) (put_for w m ps) (unbroken_range w m.start m.end h) (unbroken_put w m ps h none)
unbroken_put w m (Group k ∷ ps) h none = unbroken_both (part_of w (span_of m.groups k)) (put_for w m ps) (unbroken_part w (span_of m.groups k) h) (unbroken_put w m ps h none)

-- what a replacement without a newline makes of a text without one has none
pub unbroken_replaced : (w : List ℕ) (pieces : List Piece) (at : ℕ) (ms : List Occurrence) → Unbroken w → list_any is_break pieces ≡ false → Unbroken (replaced_from w pieces at ms)
unbroken_replaced w pieces at [] h none = unbroken_drop at w h
unbroken_replaced w pieces at (m ∷ ms) h none =
    unbroken_both (slice_range w at m.start ++ put_for w m pieces) (replaced_from w pieces m.end ms)
    (unbroken_both (slice_range w at m.start) (put_for w m pieces) (unbroken_range w at m.start h) (unbroken_put w m pieces h none)) (unbroken_replaced w pieces m.end ms h none)

-- nor does a table that makes none of another byte
pub unbroken_map : (f : ℕ → ℕ) → ((b : ℕ) → is_newline b ≡ false → is_newline (f b) ≡ false) → (w : List ℕ) → Unbroken w → Unbroken (map f w)
unbroken_map f keeps [] h = refl
unbroken_map f keeps (b ∷ bs) h =
    let two = neither (is_newline b) (list_any is_newline bs) h in both_false (is_newline (f b)) (list_any is_newline (map f bs)) (keeps b two.0) (unbroken_map f keeps bs two.1)

pub none_broken_map : (f : List ℕ → List ℕ) → ((w : List ℕ) → Unbroken w → Unbroken (f w)) → (ls : List (List ℕ)) → NoneBroken ls → NoneBroken (map f ls)
none_broken_map f keeps [] h = tt
none_broken_map f keeps (line ∷ rest) h = (keeps line h.0, none_broken_map f keeps rest h.1)

-- ---- what is written of lines has these lines

pub lines_again : (ls : List (List ℕ)) → NoneBroken ls → split_lines (text_of ls) ≡ ls
lines_again [] none = lines_nil
lines_again (line ∷ rest) none = line_again line (text_of rest) none.0 ∙ ap (λ (more : List (List ℕ)). line ∷ more) (lines_again rest none.1)

-- `s/RE/text/g` makes one line of each, where the text has no newline
pub line_for_line_law : (e : Tree) (text : List Piece) (input : List ℕ) → list_any is_break text ≡ false → length (split_lines (text_of (map (replaced e text) (split_lines input)))) ≡ length (split_lines input)
line_for_line_law e text input none =
    ap length (lines_again (map (replaced e text) (split_lines input)) (none_broken_map (replaced e text) (λ w h. unbroken_replaced w text 0 (each_occurrence (λ from. match_with e w (leftmost_longest e w from)) (length w)) h none) (split_lines input) (lines_none_broken input)))
    ∙ length-map (split_lines input) (replaced e text)
