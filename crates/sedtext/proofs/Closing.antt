-- What the proofs of functions take, and the lemmas that close goals of functions, which `lib.rt` names.
pub use Rattle.sedtext.proofs.Words.{◌%◌, ◌*◌, ◌++◌, ◌+◌, ◌-◌, ◌/◌, ◌<◌, ◌^◌, ◌∙◌, ◌≡◌, ◌≤◌, All, Alt, and_le_l, and_mask, AreAlternatives, arith, Begin, bit_and, bit_at_and, Byte, cases_lt, common_steps, drop}
pub use Rattle.sedtext.proofs.Words.{Each1-from_get_or, Each1-get_or, Either, End, expression_tree, Fits, get_or, get_or-map-range_with_len, get_or_default, inl, inr, get_or_past, IsWithin, length, length-set, lt-leb, map, no_copy}
pub use Rattle.sedtext.proofs.Words.{None, PassesSieve, range_with_len, refl, row_of, rules, slice_get, slice_get-get_or, slice_get_read, Some, Star, SwzOk-from_below, sym, take, w8, ℕ}
pub use Rattle.sedtext.proofs.CapsLemmas.{Captures-unique}
pub use Rattle.sedtext.proofs.FewLemmas.{all_gathered, byte_behind, literal_behind, member_behind}
pub use Rattle.sedtext.proofs.FixedRunLemmas.{repeated_before, run_stops, runs_of_bytes, times_here}
pub use Rattle.sedtext.proofs.LinkLemmas.{all_hold, AllLeadTo, at_node, both_ways, branches_last, branches_more, byte_leads, IsLeft, lead_more, left_behind, left_inner, left_parts, one_longer, part_inside, required_first, required_none, run_leads}
pub use Rattle.sedtext.proofs.MatchingLemmas.{groups_after-iff, not_found-iff, some_found-iff, spans-iff}
pub use Rattle.sedtext.proofs.SieveLemmas.{AllMarked, first_marked, lanes_looked_up, lanes_with, lanes_zip, marked_lane, marked_more, none_marked, nonzero_few, nonzero_lane, narrowed_by, first_lies, later_marks, passes_within}
pub use Rattle.sedtext.proofs.SpanLemmas.{CopiesLead-append}
pub use Rattle.sedtext.proofs.WordLemmas.{either_bits, other_bits, padded-get, padded-set, padded-none, padded-same, zero_more, length-padded, length-row, length-rows_of, mark_keeps, mark_read, mark_written, marked_same, Meet, new_bit, row_bit, row_clear, row_there, zero_unmarked}
pub use Rattle.sedtext.proofs.NodeLemmas.{total_size}

pub ruleset closing = (narrowed_by, first_lies, required_none, and_le_l, bit_at_and, either_bits, other_bits, padded-get, padded-set, padded-none, padded-same, zero_more, length-padded, get_or_past, CopiesLead-append, repeated_before, all_gathered, branches_last, byte_leads, Captures-unique, get_or_default, groups_after-iff, length-row, length-rows_of, length-set, mark_read, mark_written, mark_keeps, marked_more, marked_same, new_bit, no_copy, not_found-iff, one_longer, row_bit, row_clear, row_there, run_leads, slice_get-get_or, some_found-iff, spans-iff, times_here, zero_unmarked)
