-- Examples of what bracket expressions match (XBD 9.3.5, 9.4.4) and of the place after them, computed by the definition.
use Rattle.std.proofs.Common.{false, Some, None, refl}
use Rattle.std.specs.Prelude.{codes, ◌≡◌}
use Rattle.sedre.specs.Sets.{set_of}
use Rattle.sedre.specs.Brackets.{list_at}
use Rattle.examples.proofs.ExampleWords.{members, others}

-- Lists and non-matching lists: the bytes that they match, or those that they don't.

three_bytes : members (list_at false None (codes "[abc]d") 0) ≡ Some (codes "abc", 5)
unfolding list_at set_of
three_bytes = refl

all_but_two : others (list_at false None (codes "[^a\n]") 0) ≡ Some (codes "\na", 5)
unfolding list_at set_of
all_but_two = refl

closing_first : members (list_at false None (codes "[]a]") 0) ≡ Some (codes "]a", 4)
unfolding list_at set_of
closing_first = refl

closing_first_of_a_non_matching_list : others (list_at false None (codes "[^]a]") 0) ≡ Some (codes "]a", 5)
unfolding list_at set_of
closing_first_of_a_non_matching_list = refl

caret_not_first : members (list_at false None (codes "[a^]") 0) ≡ Some (codes "^a", 4)
unfolding list_at set_of
caret_not_first = refl

closed_by_the_first_closing : members (list_at false None (codes "[a]]") 0) ≡ Some (codes "a", 3)
unfolding list_at set_of
closed_by_the_first_closing = refl

other_special_bytes : members (list_at false None (codes "[.*[]") 0) ≡ Some (codes "*.[", 5)
unfolding list_at set_of
other_special_bytes = refl

colon_without_a_form : members (list_at false None (codes "[:alpha:]") 0) ≡ Some (codes ":ahlp", 9)
unfolding list_at set_of
colon_without_a_form = refl

-- A backslash is a byte.

backslash : members (list_at false None (codes "[a\\]") 0) ≡ Some (codes "\\a", 4)
unfolding list_at set_of
backslash = refl

backslash_before_the_closing : members (list_at false None (codes "[\\]]") 0) ≡ Some (codes "\\", 3)
unfolding list_at set_of
backslash_before_the_closing = refl

backslash_and_n : members (list_at false None (codes "[\\n]") 0) ≡ Some (codes "\\n", 4)
unfolding list_at set_of
backslash_and_n = refl

backslash_and_slash : members (list_at false None (codes "[\\/]") 0) ≡ Some (codes "/\\", 4)
unfolding list_at set_of
backslash_and_slash = refl

-- Ranges by byte value; a - is a byte where it is first, last or an end of a range.

range : members (list_at false None (codes "[a-d]") 0) ≡ Some (codes "abcd", 5)
unfolding list_at set_of
range = refl

two_ranges : members (list_at false None (codes "[a-dx-z]") 0) ≡ Some (codes "abcdxyz", 8)
unfolding list_at set_of
two_ranges = refl

range_of_one : members (list_at false None (codes "[a-a]") 0) ≡ Some (codes "a", 5)
unfolding list_at set_of
range_of_one = refl

range_from_the_closing : members (list_at false None (codes "[]-a]") 0) ≡ Some (codes "]^_`a", 5)
unfolding list_at set_of
range_from_the_closing = refl

dash_first : members (list_at false None (codes "[-a]") 0) ≡ Some (codes "-a", 4)
unfolding list_at set_of
dash_first = refl

dash_last : members (list_at false None (codes "[a-]") 0) ≡ Some (codes "-a", 4)
unfolding list_at set_of
dash_last = refl

dash_alone : others (list_at false None (codes "[^-]") 0) ≡ Some (codes "-", 4)
unfolding list_at set_of
dash_alone = refl

range_from_a_dash : members (list_at false None (codes "[--/]") 0) ≡ Some (codes "-./", 5)
unfolding list_at set_of
range_from_a_dash = refl

range_to_a_dash : members (list_at false None (codes "[+--]") 0) ≡ Some (codes "+,-", 5)
unfolding list_at set_of
range_to_a_dash = refl

range_of_dashes : members (list_at false None (codes "[---]") 0) ≡ Some (codes "-", 5)
unfolding list_at set_of
range_of_dashes = refl

dash_after_a_range : members (list_at false None (codes "[a-c-]") 0) ≡ Some (codes "-abc", 6)
unfolding list_at set_of
dash_after_a_range = refl

-- Classes, equivalence classes and collating elements.

class_and_byte : members (list_at false None (codes "[[:digit:]a]") 0) ≡ Some (codes "0123456789a", 12)
unfolding list_at set_of
class_and_byte = refl

class_and_dash : members (list_at false None (codes "[[:digit:]-]") 0) ≡ Some (codes "-0123456789", 12)
unfolding list_at set_of
class_and_dash = refl

two_classes : members (list_at false None (codes "[[:digit:][:blank:]]") 0) ≡ Some (codes "\t 0123456789", 20)
unfolding list_at set_of
two_classes = refl

all_but_a_class : others (list_at false None (codes "[^[:digit:]]") 0) ≡ Some (codes "0123456789", 12)
unfolding list_at set_of
all_but_a_class = refl

equivalence_class : members (list_at false None (codes "[[=a=]b]") 0) ≡ Some (codes "ab", 8)
unfolding list_at set_of
equivalence_class = refl

equivalence_class_of_the_closing : members (list_at false None (codes "[[=]=]]") 0) ≡ Some (codes "]", 7)
unfolding list_at set_of
equivalence_class_of_the_closing = refl

collating_begin_of_a_range : members (list_at false None (codes "[[.a.]-c]") 0) ≡ Some (codes "abc", 9)
unfolding list_at set_of
collating_begin_of_a_range = refl

collating_end_of_a_range : members (list_at false None (codes "[a-[.c.]]") 0) ≡ Some (codes "abc", 9)
unfolding list_at set_of
collating_end_of_a_range = refl

collating_dash : members (list_at false None (codes "[[.-.]-/]") 0) ≡ Some (codes "-./", 9)
unfolding list_at set_of
collating_dash = refl

collating_dot : members (list_at false None (codes "[[...]]") 0) ≡ Some (codes ".", 7)
unfolding list_at set_of
collating_dot = refl

collating_closing : members (list_at false None (codes "[[.].]]") 0) ≡ Some (codes "]", 7)
unfolding list_at set_of
collating_closing = refl

-- A backslash and the delimiter are the delimiter as a byte, and a plain delimiter has its meaning in the list (this
-- project's own).

escaped_delimiter : members (list_at false (Some 47) (codes "[\\/]") 0) ≡ Some (codes "/", 4)
unfolding list_at set_of
escaped_delimiter = refl

plain_delimiter : members (list_at false (Some 47) (codes "[a/]") 0) ≡ Some (codes "/a", 4)
unfolding list_at set_of
plain_delimiter = refl

escaped_closing : members (list_at false (Some 93) (codes "[\\]]") 0) ≡ Some (codes "]", 4)
unfolding list_at set_of
escaped_closing = refl

plain_closing_first : members (list_at false (Some 93) (codes "[]a]") 0) ≡ Some (codes "]a", 4)
unfolding list_at set_of
plain_closing_first = refl

range_to_the_escaped_closing : members (list_at false (Some 93) (codes "[Y-\\]]") 0) ≡ Some (codes "YZ[\\]", 6)
unfolding list_at set_of
range_to_the_escaped_closing = refl

range_from_the_escaped_closing : members (list_at false (Some 93) (codes "[\\]-a]") 0) ≡ Some (codes "]^_`a", 6)
unfolding list_at set_of
range_from_the_escaped_closing = refl

escaped_caret : members (list_at false (Some 94) (codes "[\\^a]") 0) ≡ Some (codes "^a", 5)
unfolding list_at set_of
escaped_caret = refl

plain_caret : others (list_at false (Some 94) (codes "[^a]") 0) ≡ Some (codes "a", 4)
unfolding list_at set_of
plain_caret = refl

escaped_dash : members (list_at false (Some 45) (codes "[a\\-c]") 0) ≡ Some (codes "-ac", 6)
unfolding list_at set_of
escaped_dash = refl

plain_dash : members (list_at false (Some 45) (codes "[a-c]") 0) ≡ Some (codes "abc", 5)
unfolding list_at set_of
plain_dash = refl

range_to_the_escaped_dash : members (list_at false (Some 45) (codes "[+-\\-]") 0) ≡ Some (codes "+,-", 6)
unfolding list_at set_of
range_to_the_escaped_dash = refl

escaped_opening : members (list_at false (Some 91) (codes "[\\[:a]") 0) ≡ Some (codes ":[a", 6)
unfolding list_at set_of
escaped_opening = refl

escaped_colon : members (list_at false (Some 58) (codes "[[\\:a:]]") 0) ≡ Some (codes ":[a", 7)
unfolding list_at set_of
escaped_colon = refl
