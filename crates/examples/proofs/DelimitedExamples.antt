-- Examples of where an expression ends that lies between delimiters (XCU sed, "Regular Expressions in sed"), computed
-- by the definition. 47 is the slash.
use Rattle.std.proofs.Common.{Some, None, refl}
use Rattle.std.specs.Prelude.{codes, ◌≡◌}
use Rattle.sedre.specs.Brackets.{list_end, delimiter_at}

-- A delimiter in a bracket expression or after a backslash doesn't end it.

delimiter_in_a_list : delimiter_at (codes "[/]/x/") 0 47 ≡ Some 3
unfolding delimiter_at list_end
delimiter_in_a_list = refl

delimiter_after_a_backslash : delimiter_at (codes "a\\/b/") 0 47 ≡ Some 4
unfolding delimiter_at list_end
delimiter_after_a_backslash = refl

delimiter_after_a_first_closing : delimiter_at (codes "[]/]/") 0 47 ≡ Some 4
unfolding delimiter_at list_end
delimiter_after_a_first_closing = refl

delimiter_after_a_class : delimiter_at (codes "[[:alpha:]/]/") 0 47 ≡ Some 12
unfolding delimiter_at list_end
delimiter_after_a_class = refl

delimiter_at_once : delimiter_at (codes "/x/") 0 47 ≡ Some 0
unfolding delimiter_at list_end
delimiter_at_once = refl

delimiter_from_a_place : delimiter_at (codes "/a/b/") 1 47 ≡ Some 2
unfolding delimiter_at list_end
delimiter_from_a_place = refl

delimiter_in_a_non_matching_list : delimiter_at (codes "[^/]/") 0 47 ≡ Some 4
unfolding delimiter_at list_end
delimiter_in_a_non_matching_list = refl

delimiter_after_an_escaped_bracket : delimiter_at (codes "\\[/]/") 0 47 ≡ Some 2
unfolding delimiter_at list_end
delimiter_after_an_escaped_bracket = refl

delimiter_after_two_backslashes : delimiter_at (codes "\\\\/x/") 0 47 ≡ Some 2
unfolding delimiter_at list_end
delimiter_after_two_backslashes = refl

-- There is none where a newline or the end comes before it, also in a list and after a backslash.

none_at_the_end : delimiter_at (codes "a") 0 47 ≡ None
unfolding delimiter_at list_end
none_at_the_end = refl

none_in_an_open_list : delimiter_at (codes "[/") 0 47 ≡ None
unfolding delimiter_at list_end
none_in_an_open_list = refl

none_of_no_text : delimiter_at (codes "") 0 47 ≡ None
unfolding delimiter_at list_end
none_of_no_text = refl

none_before_a_newline : delimiter_at (codes "a\n/") 0 47 ≡ None
unfolding delimiter_at list_end
none_before_a_newline = refl

none_before_a_newline_in_a_list : delimiter_at (codes "[a\n]/") 0 47 ≡ None
unfolding delimiter_at list_end
none_before_a_newline_in_a_list = refl

none_before_a_newline_after_a_backslash : delimiter_at (codes "a\\\n/") 0 47 ≡ None
unfolding delimiter_at list_end
none_before_a_newline_after_a_backslash = refl

none_after_a_last_backslash : delimiter_at (codes "a\\") 0 47 ≡ None
unfolding delimiter_at list_end
none_after_a_last_backslash = refl

none_from_past_the_text : delimiter_at (codes "a/") 3 47 ≡ None
unfolding delimiter_at list_end
none_from_past_the_text = refl

-- A [ that is the delimiter ends the expression, and a ] closes also where it is the delimiter (this project's own).

bracket_as_delimiter : delimiter_at (codes "a[b[") 0 91 ≡ Some 1
unfolding delimiter_at list_end
bracket_as_delimiter = refl

closing_as_delimiter_closes : delimiter_at (codes "[a]b]") 0 93 ≡ Some 4
unfolding delimiter_at list_end
closing_as_delimiter_closes = refl

letter_as_delimiter : delimiter_at (codes "bxb") 0 120 ≡ Some 1
unfolding delimiter_at list_end
letter_as_delimiter = refl
