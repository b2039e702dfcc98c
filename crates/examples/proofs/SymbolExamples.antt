-- Examples of what symbols mean (XBD 9.3.2, 9.3.3, 9.3.6, 9.3.8, 9.4.2, 9.4.3, 9.4.6 to 9.4.9), computed by the
-- grammar.
use Rattle.std.proofs.Common.{true, false, Some, None, refl}
use Rattle.std.specs.Prelude.{codes}
use Rattle.sedre.specs.declared.types.Kind.TheVariants.{Basic, Extended}
use Rattle.sedre.specs.Tree.{null_string, text_begin, text_end, sequence, either_of, grouped, any_copies, one_or_none}
use Rattle.sedre.specs.Tokens.{token_at, front_interval}
use Rattle.sedre.specs.Brackets.{list_at}
use Rattle.sedre.specs.Grammar.{ReadsAs}
use Rattle.examples.proofs.ComputedReading.{outcome, rest_of, reads_as}
use Rattle.examples.proofs.ExampleWords.{a, b, byte, any, literally, Counts, counted}

-- Groups, alternations and any byte. An alternation in a basic expression is this project's own.

group_basic : ReadsAs Basic false None (codes "\\(a\\)") (grouped 1 a) 1
unfolding outcome rest_of token_at
group_basic = reads_as refl

group_extended : ReadsAs Extended false None (codes "(a)") (grouped 1 a) 1
unfolding outcome rest_of token_at
group_extended = reads_as refl

alternation_basic : ReadsAs Basic false None (codes "a\\|b") (either_of a b) 0
unfolding outcome rest_of token_at
alternation_basic = reads_as refl

alternation_extended : ReadsAs Extended false None (codes "a|b") (either_of a b) 0
unfolding outcome rest_of token_at
alternation_extended = reads_as refl

any_byte_basic : ReadsAs Basic false None (codes ".") any 0
unfolding outcome rest_of token_at
any_byte_basic = reads_as refl

any_byte_extended : ReadsAs Extended false None (codes ".") any 0
unfolding outcome rest_of token_at
any_byte_extended = reads_as refl

-- Empty groups, alternatives and texts match the null string (this project's own).

empty_group : ReadsAs Extended false None (codes "()") (grouped 1 null_string) 1
unfolding outcome rest_of token_at
empty_group = reads_as refl

empty_group_basic : ReadsAs Basic false None (codes "\\(\\)") (grouped 1 null_string) 1
unfolding outcome rest_of token_at
empty_group_basic = reads_as refl

empty_last_alternative : ReadsAs Extended false None (codes "a|") (either_of a null_string) 0
unfolding outcome rest_of token_at
empty_last_alternative = reads_as refl

empty_first_alternative : ReadsAs Extended false None (codes "|a") (either_of null_string a) 0
unfolding outcome rest_of token_at
empty_first_alternative = reads_as refl

empty_alternative_in_a_group : ReadsAs Extended false None (codes "(a|)b") (sequence (grouped 1 (either_of a null_string)) b) 1
unfolding outcome rest_of token_at
empty_alternative_in_a_group = reads_as refl

-- A ^ is an anchor where it is first in a basic expression, and everywhere in an extended one. After a group's
-- opening or an alternation symbol of a basic expression it is so by this project's own rule.

caret_first : ReadsAs Basic false None (codes "^a") (sequence text_begin a) 0
unfolding outcome rest_of token_at
caret_first = reads_as refl

caret_in_a_group : ReadsAs Basic false None (codes "\\(^a\\)") (grouped 1 (sequence text_begin a)) 1
unfolding outcome rest_of token_at
caret_in_a_group = reads_as refl

caret_after_an_alternation : ReadsAs Basic false None (codes "a\\|^b") (either_of a (sequence text_begin b)) 0
unfolding outcome rest_of token_at
caret_after_an_alternation = reads_as refl

caret_elsewhere : ReadsAs Basic false None (codes "a^b") (literally (codes "a^b")) 0
unfolding outcome rest_of token_at
caret_elsewhere = reads_as refl

caret_twice : ReadsAs Basic false None (codes "^^a") (sequence text_begin (literally (codes "^a"))) 0
unfolding outcome rest_of token_at
caret_twice = reads_as refl

caret_everywhere : ReadsAs Extended false None (codes "a^b") (sequence a (sequence text_begin b)) 0
unfolding outcome rest_of token_at
caret_everywhere = reads_as refl

-- A $ is an anchor where an alternative of a basic expression ends, and everywhere in an extended one. Before a group's
-- closing or an alternation symbol of a basic expression it is so by this project's own rule.

dollar_last : ReadsAs Basic false None (codes "a$") (sequence a text_end) 0
unfolding outcome rest_of token_at
dollar_last = reads_as refl

dollar_in_a_group : ReadsAs Basic false None (codes "\\(a$\\)") (grouped 1 (sequence a text_end)) 1
unfolding outcome rest_of token_at
dollar_in_a_group = reads_as refl

dollar_before_an_alternation : ReadsAs Basic false None (codes "a$\\|b") (either_of (sequence a text_end) b) 0
unfolding outcome rest_of token_at
dollar_before_an_alternation = reads_as refl

dollar_elsewhere : ReadsAs Basic false None (codes "a$b") (literally (codes "a$b")) 0
unfolding outcome rest_of token_at
dollar_elsewhere = reads_as refl

dollar_twice : ReadsAs Basic false None (codes "a$$") (sequence a (sequence (byte 36) text_end)) 0
unfolding outcome rest_of token_at
dollar_twice = reads_as refl

dollar_before_a_star : ReadsAs Basic false None (codes "a$*") (sequence a (any_copies (byte 36) true)) 0
unfolding outcome rest_of token_at
dollar_before_a_star = reads_as refl

question_mark_after_an_interval : ReadsAs Basic false None (codes "a\\{2\\}?") (sequence (sequence a a) (byte 63)) 0
unfolding outcome rest_of token_at front_interval
question_mark_after_an_interval = reads_as refl

dollar_everywhere : ReadsAs Extended false None (codes "a$b") (sequence a (sequence text_end b)) 0
unfolding outcome rest_of token_at
dollar_everywhere = reads_as refl

only_anchors : ReadsAs Basic false None (codes "^$") (sequence text_begin text_end) 0
unfolding outcome rest_of token_at
only_anchors = reads_as refl

-- A * is a byte in a basic expression where nothing comes before it that it could repeat.

star_first : ReadsAs Basic false None (codes "*a") (literally (codes "*a")) 0
unfolding outcome rest_of token_at
star_first = reads_as refl

star_first_in_a_group : ReadsAs Basic false None (codes "\\(*a\\)") (grouped 1 (literally (codes "*a"))) 1
unfolding outcome rest_of token_at
star_first_in_a_group = reads_as refl

star_after_an_alternation : ReadsAs Basic false None (codes "a\\|*b") (either_of a (literally (codes "*b"))) 0
unfolding outcome rest_of token_at
star_after_an_alternation = reads_as refl

star_after_an_anchor : ReadsAs Basic false None (codes "^*ab") (sequence text_begin (literally (codes "*ab"))) 0
unfolding outcome rest_of token_at
star_after_an_anchor = reads_as refl

star_after_a_literal_star : ReadsAs Basic false None (codes "**") (any_copies (byte 42) true) 0
unfolding outcome rest_of token_at
star_after_a_literal_star = reads_as refl

-- A repetition of a repetition is accepted (this project's own). A plain ? after one is a byte in a basic expression.

star_of_a_star : ReadsAs Basic false None (codes "a**") (any_copies (any_copies a true) true) 0
unfolding outcome rest_of token_at
star_of_a_star = reads_as refl

star_of_a_star_extended : ReadsAs Extended false None (codes "a**") (any_copies (any_copies a true) true) 0
unfolding outcome rest_of token_at
star_of_a_star_extended = reads_as refl

option_of_a_star : ReadsAs Basic false None (codes "a*\\?") (one_or_none (any_copies a true) true) 0
unfolding outcome rest_of token_at
option_of_a_star = reads_as refl

question_mark_after_a_star : ReadsAs Basic false None (codes "a*?") (sequence (any_copies a true) (byte 63)) 0
unfolding outcome rest_of token_at
question_mark_after_a_star = reads_as refl

plus_of_an_option : ReadsAs Extended false None (codes "a?+") (sequence (one_or_none a true) (any_copies (one_or_none a true) false)) 0
unfolding outcome rest_of token_at
plus_of_an_option = reads_as refl

-- What is a symbol in one kind is a byte in the other, and ] and } outside of what they close are bytes.

bytes_of_basic_expressions : ReadsAs Basic false None (codes "a{+?|()") (literally (codes "a{+?|()")) 0
unfolding outcome rest_of token_at front_interval
bytes_of_basic_expressions = reads_as refl

braces_of_basic_expressions : ReadsAs Basic false None (codes "a{1}") (literally (codes "a{1}")) 0
unfolding outcome rest_of token_at front_interval
braces_of_basic_expressions = reads_as refl

closing_brace_extended : ReadsAs Extended false None (codes "a}") (literally (codes "a}")) 0
unfolding outcome rest_of token_at
closing_brace_extended = reads_as refl

escaped_brace_extended : ReadsAs Extended false None (codes "\\{}") (literally (codes "{}")) 0
unfolding outcome rest_of token_at front_interval
escaped_brace_extended = reads_as refl

closing_bracket_basic : ReadsAs Basic false None (codes "a]") (literally (codes "a]")) 0
unfolding outcome rest_of token_at
closing_bracket_basic = reads_as refl

closing_bracket_extended : ReadsAs Extended false None (codes "a]") (literally (codes "a]")) 0
unfolding outcome rest_of token_at
closing_bracket_extended = reads_as refl

-- \n is a newline, \t a tab (this project's own), and a byte that has no meaning after a backslash is itself.

newline_and_tab : ReadsAs Basic false None (codes "\\n\\t") (sequence (byte 10) (byte 9)) 0
unfolding outcome rest_of token_at
newline_and_tab = reads_as refl

newline_and_tab_extended : ReadsAs Extended false None (codes "\\n\\t") (sequence (byte 10) (byte 9)) 0
unfolding outcome rest_of token_at
newline_and_tab_extended = reads_as refl

escaped_dot_and_star : ReadsAs Basic false None (codes "a\\.\\*") (literally (codes "a.*")) 0
unfolding outcome rest_of token_at
escaped_dot_and_star = reads_as refl

escaped_anchors : ReadsAs Basic false None (codes "\\^\\$") (literally (codes "^$")) 0
unfolding outcome rest_of token_at
escaped_anchors = reads_as refl

escaped_bracket : ReadsAs Basic false None (codes "\\[a]") (literally (codes "[a]")) 0
unfolding outcome rest_of token_at list_at
escaped_bracket = reads_as refl

escaped_backslash : ReadsAs Basic false None (codes "\\\\") (byte 92) 0
unfolding outcome rest_of token_at
escaped_backslash = reads_as refl

escaped_slash : ReadsAs Basic false None (codes "\\/") (byte 47) 0
unfolding outcome rest_of token_at
escaped_slash = reads_as refl

escaped_symbols_extended : ReadsAs Extended false None (codes "\\(\\)\\|\\+\\?\\*") (literally (codes "()|+?*")) 0
unfolding outcome rest_of token_at
escaped_symbols_extended = reads_as refl

-- Numbers of intervals go up to 255 and may begin with zeros (this project's own).

leading_zeros : ReadsAs Extended false None (codes "a{01,002}") (sequence a (one_or_none a false)) 0
unfolding outcome rest_of token_at front_interval
leading_zeros = reads_as refl

many_leading_zeros : ReadsAs Extended false None (codes "a{0000}") null_string 0
unfolding outcome rest_of token_at front_interval
many_leading_zeros = reads_as refl

greatest_number : Counts Extended (codes "a{255}") 509 0
unfolding outcome rest_of token_at front_interval
greatest_number = counted refl

-- A backslash and the delimiter are the delimiter as a byte, whatever it means otherwise (XCU sed, "Regular Expressions
-- in sed").

bar_as_delimiter_basic : ReadsAs Basic false (Some 124) (codes "a\\|b") (literally (codes "a|b")) 0
unfolding outcome rest_of token_at
bar_as_delimiter_basic = reads_as refl

bar_as_delimiter_extended : ReadsAs Extended false (Some 124) (codes "a\\|b") (literally (codes "a|b")) 0
unfolding outcome rest_of token_at
bar_as_delimiter_extended = reads_as refl

dollar_before_a_bar_as_delimiter : ReadsAs Basic false (Some 124) (codes "a$\\|") (literally (codes "a$|")) 0
unfolding outcome rest_of token_at
dollar_before_a_bar_as_delimiter = reads_as refl

caret_after_a_bar_as_delimiter : ReadsAs Basic false (Some 124) (codes "\\|^") (literally (codes "|^")) 0
unfolding outcome rest_of token_at
caret_after_a_bar_as_delimiter = reads_as refl

dollar_before_a_closing_as_delimiter : ReadsAs Basic false (Some 41) (codes "a$\\)") (literally (codes "a$)")) 0
unfolding outcome rest_of token_at
dollar_before_a_closing_as_delimiter = reads_as refl

brace_as_delimiter : ReadsAs Basic false (Some 123) (codes "a\\{2}") (literally (codes "a{2}")) 0
unfolding outcome rest_of token_at front_interval
brace_as_delimiter = reads_as refl

n_as_delimiter : ReadsAs Basic false (Some 110) (codes "\\n") (byte 110) 0
unfolding outcome rest_of token_at
n_as_delimiter = reads_as refl

digit_as_delimiter : ReadsAs Basic false (Some 49) (codes "\\1") (byte 49) 0
unfolding outcome rest_of token_at
digit_as_delimiter = reads_as refl

star_as_delimiter : ReadsAs Basic false (Some 42) (codes "a\\*") (literally (codes "a*")) 0
unfolding outcome rest_of token_at
star_as_delimiter = reads_as refl

caret_as_delimiter : ReadsAs Basic false (Some 94) (codes "\\^a") (literally (codes "^a")) 0
unfolding outcome rest_of token_at
caret_as_delimiter = reads_as refl

plus_as_delimiter : ReadsAs Extended false (Some 43) (codes "a\\+") (literally (codes "a+")) 0
unfolding outcome rest_of token_at
plus_as_delimiter = reads_as refl

bracket_as_delimiter : ReadsAs Basic false (Some 91) (codes "\\[a") (literally (codes "[a")) 0
unfolding outcome rest_of token_at list_at
bracket_as_delimiter = reads_as refl

plain_delimiter_is_a_byte : ReadsAs Basic false (Some 47) (codes "a/b") (literally (codes "a/b")) 0
unfolding outcome rest_of token_at
plain_delimiter_is_a_byte = reads_as refl
