-- Words and lemmas of std and `sedre`, and words of this crate, that several proofs use: a name here saves a line in each.
pub use Rattle.std.proofs.Common.{◌%◌, ◌&&◌, ◌*◌, ◌++◌, ◌+◌, ◌-◌, ◌/◌, ◌<◌, ◌^◌, ◌||◌, ◌↔◌, ◌∙◌, ◌∷◌, ◌≡◌, ◌≢◌, ◌≤◌, ◌⊎◌, [], ap, append_assoc, arith, bit_and, bit_or, Bool, cond, drop, drop-cons, eqb, false, Fits, get_or, get_or-take, IfSome, inl, inr}
pub use Rattle.std.proofs.Common.{IsTrue, length, length-append, length-drop, length-take-le, List, map, max, mul-le-mul_left, None, not, Option, refl, replicate, reverse, rules, Some, subst, suc, sym, take, true, true≢false, w64, w8, zero, ℕ, ⊎_elim}
pub use Rattle.std.proofs.lemmas.Bool.{agree_below_at, and_from, and_parts, cases_eq, cases_lt, cond_both, eqb-true, lt-leb, ltb-true, ne_eqb, or_left, or_right}
pub use Rattle.std.proofs.lemmas.Bool.Decides.{Decides-and, Decides-below_or, Decides-eqb, Decides-or, nat_tests, same_from_decides}
pub use Rattle.std.proofs.lemmas.Grind.{common_steps}
pub use Rattle.std.proofs.lemmas.List.{append-nil, ext_get_or, get_or-drop, get_or-map, get_or-replicate, get_or-reverse, get_or-set_other, get_or-set_same, get_or_append_left, get_or_default, get_or_past, length-map, length-replicate, length-reverse, length-set, reverse-reverse, take-append-drop, take_more, take_rest}
pub use Rattle.std.proofs.lemmas.List.Elements.{All-append, All-nil, All-pop, All-push}
pub use Rattle.std.proofs.lemmas.List.FromFn.{get_or-map-range_with_len, length-map-range_with_len}
pub use Rattle.std.proofs.lemmas.Nat.{and_le_l, and_mask, one_shl}
pub use Rattle.std.proofs.lemmas.Nat.Bits.{bit_at-lt, bit_at-trailing_zeros, bit_at-zero, bit_at_above, bit_at_and, bit_at_clear_other, bit_at_clear_same, bit_at_not, bit_at_ones, bit_at_ones_above, bit_at_or, bit_at_set_other, bit_at_set_same}
pub use Rattle.std.proofs.lemmas.Option.{get_or_from_slice_get, gets, none-some, slice_get-get_or, slice_get_read, slice_get_within}
pub use Rattle.std.proofs.lemmas.Simd.{bit_mask_l, bitmask_splat, Each1-from_get_or, Each1-get_or, get_or-chunk, get_or-swz_l_below, get_or-zip2, length-swz_l, length-zip2, mask_l-lt, swz_l, SwzOk-from_below}
pub use Rattle.std.specs.Int.{bit_at, bit_not, trailing_zeros}
pub use Rattle.std.specs.List.{All, AllWithin, range_with_len}
pub use Rattle.std.specs.Prelude.{◌==◌, is_some, ltb, option_map, slice_get, slice_index, slice_index_or, slice_set, unwrap_or, Vec}
pub use Rattle.std.specs.Simd.Lanes.{mask_l, top, zip2}
pub use Rattle.memchr.specs.Find.{is_byte, IsFirst, IsFirstByte, Nowhere, OccursAt, Passes}
pub use Rattle.sedre.proofs.ByteLemmas.{length-set_of}
pub use Rattle.sedre.proofs.MirrorLemmas.{mirror-mirror, tree_at-mirror}
pub use Rattle.sedre.proofs.TreeLemmas.{tree_at-node}
pub use Rattle.sedre.specs.Arena.{IsArena, IsExpr, IsPart}
pub use Rattle.sedre.specs.Mirror.{mirror, seen}
pub use Rattle.sedre.specs.Packed.{PartsBelow}
pub use Rattle.sedre.specs.Sets.{has, union}
pub use Rattle.sedre.specs.Steps.{CostsWithin}
unfoldable pub use Rattle.sedre.specs.Steps.{IsCounted, TakesAtLeast}
pub use Rattle.sedre.specs.Tree.{any_copies, byte_of, either_of, expression_tree, grouped, null_string, one_or_none, sequence, size, Tree, tree_at, tree_of, WrittenExpression}
pub use Rattle.sedre.specs.WordLaws.{has-set_of}
unfoldable pub use Rattle.sedre.specs.Words.{is_set}
pub use Rattle.sedre.specs.declared.types.Node.{Node}
pub use Rattle.sedre.specs.declared.types.Node.TheVariants.{Alt, Begin, End, Group, Opt, Seq, Set, Star}
pub use Rattle.sedre.specs.declared.types.NodeId.{NodeId}
pub use Rattle.sedtext.specs.Answer.{SpanIn}
pub use Rattle.sedtext.specs.Branches.{AnyLeads, AreBranches, IsOneByte, LeadsFrom}
pub use Rattle.sedtext.specs.Bytes.{FirstFrom, MemberAt}
pub use Rattle.sedtext.specs.Caps.{Captures, IsReport, LastCopy, LastCut, only, then_copy}
pub use Rattle.sedtext.specs.Few.{AreMembers, HasFew}
pub use Rattle.sedtext.specs.FixedRuns.{AllFixedRuns, FirstFixedRun}
pub use Rattle.sedtext.specs.Following.{EndsWithin, LiesOn, next_span, OccursAfter}
pub use Rattle.sedtext.specs.Groups.{forget, no_groups, span_of, SpansOfGroups}
pub use Rattle.sedtext.specs.Links.{AreAlternatives, ChainLeads, IsContinuation, IsLiteral, IsWithin, LinkLeads}
pub use Rattle.sedtext.specs.Matching.{byte_is_in}
unfoldable pub use Rattle.sedtext.specs.Matching.{any, copies, first_copy, found_from, greatest, greatest_cut, groups_after, last_start, leftmost_longest, longest, reported_groups, spans}
pub use Rattle.sedtext.specs.Nodes.{IsRepetitionOf, parts_of}
pub use Rattle.sedtext.specs.Reach.{after_left, again, at_root, BeginsWith, Enters, HasSpan, IsLongestFrom, IsStart, Starts, with_whole}
pub use Rattle.sedtext.specs.Hints.{IsRequired, Narrowed, Requires}
pub use Rattle.sedtext.specs.Runs.{IsRun, RunBegins, SetRepeats}
pub use Rattle.sedtext.specs.Sieve.{AllPass, HasLanes, IsMarked, MarksPlaces, PassesSieve}
pub use Rattle.sedtext.specs.Spans.{CopiesLead, IsIn, IsLeftmostLongest, Matches, no_copy, NotFound, one_more, SomeFound}
pub use Rattle.sedtext.specs.Words.{KeepsRows, blended, row_of}
pub use Rattle.sedtext.specs.declared.counted.rows.Blend.{Blend}
unfoldable pub use Rattle.sedtext.specs.Words.{padded, row_at, rows_of, tabulated}
pub use Rattle.sedtext.specs.declared.counted.nibbles.TheConstants.{UPPER}
pub use Rattle.sedtext.specs.declared.counted.rows.Rows.TheInside.{Inside}
pub use Rattle.sedtext.specs.declared.counted.set_finder.Few.{Few}
pub use Rattle.sedtext.specs.declared.counted.sieve.Sieve.{Sieve}
pub use Rattle.sedtext.specs.declared.links.Link.{Link}
pub use Rattle.sedtext.specs.declared.links.Link.TheVariants.{Byte, Either, Other, Run}
pub use Rattle.sedtext.specs.declared.hints.RequiredLiteral.{RequiredLiteral}
