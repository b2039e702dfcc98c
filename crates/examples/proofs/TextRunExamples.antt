-- Examples of whole runs, computed by the definitions, from the bytes of a script and of its input: the functions `c`, `i`
-- and `l` (XCU sed, "Editing Commands in sed").
use Rattle.std.proofs.Common.{◌∷◌, [], ◌++◌, refl}
use Rattle.std.specs.Prelude.{codes}
use Rattle.examples.proofs.ComputedScript.{verdict, cutting, walked, is_script}
use Rattle.sedscript.specs.Items.{address_at, second_at, addresses_at, function_at, item_at}
use Rattle.sedscript.specs.Bytes.{past}
use Rattle.sedscript.specs.Arguments.{name_from, text_from}
use Rattle.sedspace.specs.Lines.{split_lines}
use Rattle.sedengine.specs.Move.{next_move}
use Rattle.sedengine.specs.Select.{selects}
use Rattle.examples.proofs.ComputedRun.{course, ends_after, Writes, QuietlyWrites}
use Rattle.sedengine.specs.Listing.{listed}

-- With one address the text is written in place of each line that it selects.
change_a_line : Writes (codes "2c\\\nT") (codes "1\n2\n3\n") (codes "1\nT\n3\n")
unfolding verdict cutting walked item_at past function_at addresses_at address_at second_at text_from name_from split_lines course next_move selects
change_a_line = is_script (ends_after 200 refl refl)

-- A second number that isn't above the line's ends the range at once.
change_a_range_of_one : Writes (codes "2,1c\\\nT") (codes "1\n2\n3\n") (codes "1\nT\n3\n")
unfolding verdict cutting walked item_at past function_at addresses_at address_at second_at text_from name_from split_lines course next_move selects
change_a_range_of_one = is_script (ends_after 200 refl refl)

-- A range that begins on the last line stays open, and no text is written for it.
change_an_open_range : Writes (codes "2,3c\\\nT") (codes "1\n2\n") (codes "1\n")
unfolding verdict cutting walked item_at past function_at addresses_at address_at second_at text_from name_from split_lines course next_move selects
change_an_open_range = is_script (ends_after 200 refl refl)

-- The text is written where the range ends.
change_a_range : Writes (codes "2,3c\\\nT") (codes "1\n2\n3\n4\n") (codes "1\nT\n4\n")
unfolding verdict cutting walked item_at past function_at addresses_at address_at second_at text_from name_from split_lines course next_move selects
change_a_range = is_script (ends_after 200 refl refl)

change_but_a_line : Writes (codes "2!c\\\nT") (codes "1\n2\n3\n") (codes "T\n2\nT\n")
unfolding verdict cutting walked item_at past function_at addresses_at address_at second_at text_from name_from split_lines course next_move selects
change_but_a_line = is_script (ends_after 200 refl refl)

-- The blanks before the first byte of the text stay.
insert_lines : Writes (codes "i\\\n  T\\\nU") (codes "a\n") (codes "  T\nU\na\n")
unfolding verdict cutting walked item_at past function_at addresses_at address_at second_at text_from name_from split_lines course next_move selects
insert_lines = is_script (ends_after 200 refl refl)

-- With -n: 70 bytes `a`.
listing_folded : QuietlyWrites (codes "l") (codes "aaaaaaaaaaaaaaaaaaaaaaaaaaaaaaaaaaaaaaaaaaaaaaaaaaaaaaaaaaaaaaaaaaaaaa\n") (codes "aaaaaaaaaaaaaaaaaaaaaaaaaaaaaaaaaaaaaaaaaaaaaaaaaaaaaaaaaaaaaaaaaaaaa\\\na$\n")
unfolding verdict cutting walked item_at past function_at addresses_at address_at second_at text_from name_from split_lines course next_move selects listed
listing_folded = is_script (ends_after 200 refl refl)

-- With -n: 69 bytes `a`. The `$` causes no fold.
listing_in_one_piece : QuietlyWrites (codes "l") (codes "aaaaaaaaaaaaaaaaaaaaaaaaaaaaaaaaaaaaaaaaaaaaaaaaaaaaaaaaaaaaaaaaaaaaa\n") (codes "aaaaaaaaaaaaaaaaaaaaaaaaaaaaaaaaaaaaaaaaaaaaaaaaaaaaaaaaaaaaaaaaaaaaa$\n")
unfolding verdict cutting walked item_at past function_at addresses_at address_at second_at text_from name_from split_lines course next_move selects listed
listing_in_one_piece = is_script (ends_after 200 refl refl)

-- With -n: 68 bytes `a` and a tab.
listing_with_an_item_uncut : QuietlyWrites (codes "l") (codes "aaaaaaaaaaaaaaaaaaaaaaaaaaaaaaaaaaaaaaaaaaaaaaaaaaaaaaaaaaaaaaaaaaaa\t\n") (codes "aaaaaaaaaaaaaaaaaaaaaaaaaaaaaaaaaaaaaaaaaaaaaaaaaaaaaaaaaaaaaaaaaaaa\\\n\\t$\n")
unfolding verdict cutting walked item_at past function_at addresses_at address_at second_at text_from name_from split_lines course next_move selects listed
listing_with_an_item_uncut = is_script (ends_after 200 refl refl)

-- With -n: a tab and the byte 200.
listing_of_octal_digits : QuietlyWrites (codes "l") (codes "\t" ++ 200 ∷ 10 ∷ []) (codes "\\t\\310$\n")
unfolding verdict cutting walked item_at past function_at addresses_at address_at second_at text_from name_from split_lines course next_move selects listed
listing_of_octal_digits = is_script (ends_after 200 refl refl)
