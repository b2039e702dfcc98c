-- Examples of expressions where case is folded (this project's own): a literal byte and each list stand for both cases
-- of their letters, a list before its ^ is applied.
use Rattle.std.proofs.Common.{true, false, Some, None, refl}
use Rattle.std.specs.Prelude.{codes, ◌≡◌}
use Rattle.sedre.specs.declared.types.Kind.TheVariants.{Basic, Extended}
use Rattle.sedre.specs.Tree.{byte_of, text_begin, text_end, sequence, grouped, any_copies}
use Rattle.sedre.specs.Sets.{only, set_of, folded_set}
use Rattle.sedre.specs.Tokens.{token_at}
use Rattle.sedre.specs.Brackets.{list_at}
use Rattle.sedre.specs.Grammar.{ReadsAs}
use Rattle.examples.proofs.ComputedReading.{outcome, rest_of, reads_as}
use Rattle.examples.proofs.ExampleWords.{byte, any}
use Rattle.examples.proofs.ExampleWords.{members, others, members_from}

-- Bytes and groups.

both_cases_of_a_letter : members_from 0 (folded_set (only 97)) ≡ codes "Aa"
unfolding set_of
both_cases_of_a_letter = refl

one_case_of_no_letter : members_from 0 (folded_set (only 42)) ≡ codes "*"
unfolding set_of
one_case_of_no_letter = refl

folded_letters : ReadsAs Basic true None (codes "aB") (sequence (byte_of (folded_set (only 97))) (byte_of (folded_set (only 66)))) 0
unfolding outcome rest_of token_at
folded_letters = reads_as refl

folded_group : ReadsAs Extended true None (codes "(a)+") (sequence (grouped 1 (byte_of (folded_set (only 97)))) (any_copies (grouped 1 (byte_of (folded_set (only 97)))) false)) 1
unfolding outcome rest_of token_at
folded_group = reads_as refl

folded_any_byte : ReadsAs Basic true None (codes ".") any 0
unfolding outcome rest_of token_at
folded_any_byte = reads_as refl

folded_anchors : ReadsAs Basic true None (codes "^$") (sequence text_begin text_end) 0
unfolding outcome rest_of token_at
folded_anchors = reads_as refl

folded_star : ReadsAs Basic true None (codes "^*") (sequence text_begin (byte 42)) 0
unfolding outcome rest_of token_at
folded_star = reads_as refl

-- Lists.

folded_list : members (list_at true None (codes "[abc]") 0) ≡ Some (codes "ABCabc", 5)
unfolding list_at set_of
folded_list = refl

folded_non_matching_list : others (list_at true None (codes "[^a]") 0) ≡ Some (codes "Aa", 4)
unfolding list_at set_of
folded_non_matching_list = refl

folded_class : members (list_at true None (codes "[[:upper:]]") 0) ≡ Some (codes "ABCDEFGHIJKLMNOPQRSTUVWXYZabcdefghijklmnopqrstuvwxyz", 11)
unfolding list_at set_of
folded_class = refl

folded_range : members (list_at true None (codes "[Z-a]") 0) ≡ Some (codes "AZ[\\]^_`az", 5)
unfolding list_at set_of
folded_range = refl

folded_digits : members (list_at true None (codes "[[:digit:]]") 0) ≡ Some (codes "0123456789", 11)
unfolding list_at set_of
folded_digits = refl
