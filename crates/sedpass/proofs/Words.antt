-- What proofs here take from other crates, the definitions and the types of the code, in one place.
pub use Rattle.std.proofs.Common.{Bool, Global, IfSome, IsTrue, List, None, Option, Some, Vec, [], ap, arith, bit_and, bit_or, cond, eqb, false, inl, inr, is_some, length, length-append, max, min, mul-le-mul_left, not, refl, replicate, reverse, rules, slice_get, slice_index_or, slice_set, subst, suc, sym, true, true≢false, vec_capacity, w16, zero, ℕ, ◌%◌, ◌&&◌, ◌*◌, ◌++◌, ◌+◌, ◌-◌, ◌/◌, ◌<◌, ◌^◌, ◌||◌, ◌↔◌, ◌∙◌, ◌∷◌, ◌≡◌, ◌≢◌, ◌≤◌, ◌⊎◌, nat_le, nat_lt}
pub use Rattle.std.proofs.Math.Bool.{and-false, beq}
pub use Rattle.std.proofs.Math.Nat.{div-mul-le_self, lt-div-mul-add, mod-eq_of_lt, mul-div-le, mul-le-mul_right, mul-sub, pow-le-pow_right}
pub use Rattle.std.proofs.Math.Pow.{pow_mono}
pub use Rattle.std.proofs.lemmas.Bool.{and_from, and_parts, both_ways, cases_Bool, cases_eq, cases_lt, eq-eqb, eqb-true, le-leb, leb-true, lt-ltb, ltb-true, ne_eqb, not-false, or_cases}
pub use Rattle.std.proofs.lemmas.Bool.Decides.{eqb_tells}
pub use Rattle.std.proofs.lemmas.Grind.{common_steps}
pub use Rattle.std.proofs.lemmas.List.{ext_get_or, get_or-replicate, get_or-set_other, get_or-set_same, get_or_default, get_or_past, length-replicate, length-reverse, length-set, nil_from_length, reverse-append}
pub use Rattle.std.proofs.lemmas.Nat.{and_le_r, same_from_place, shl-shr, shl_whole}
pub use Rattle.std.proofs.lemmas.Nat.Bits.{bit_at-lt, bit_at-pow_other, bit_at-pow_same, bit_at-trailing_zeros, bit_at-zero, bit_at_above, bit_at_and, bit_at_not, bit_at_ones, bit_at_or}
pub use Rattle.std.proofs.lemmas.Option.{cond_some, none-some, same_Some, slice_get_past, slice_get_read, slice_get_within, unwrap_or-slice_get}
pub use Rattle.std.specs.Bool.{then_some}
pub use Rattle.std.specs.Int.{bit_at, from_bool, trailing_zeros}
pub use Rattle.std.specs.List.{AllByRecursion}
pub use Rattle.std.specs.Option.{option_eq, option_or}
pub use Rattle.std.specs.Vec.{with_item}
pub use Rattle.sedre.proofs.MirrorLemmas.{old_node, seen-arena, seen-length, seen-node, tree_at-mirror}
pub use Rattle.sedre.proofs.TreeLemmas.{tree_at-node}
pub use Rattle.sedre.proofs.Written.{size_positive}
pub use Rattle.sedre.specs.Arena.{AreRanges, FollowsParts, IsArena, IsExpr, IsPart}
pub use Rattle.sedre.specs.Mirror.{mirror, mirror_node, seen}
pub use Rattle.sedre.specs.Sets.{has}
pub use Rattle.sedre.specs.Steps.{CostsWithin, Takes}
unfoldable pub use Rattle.sedre.specs.Steps.{IsCounted, TakesAtLeast}
pub use Rattle.sedre.specs.Tree.{Tree, WrittenExpression, any_copies, byte_of, either_of, expression_tree, grouped, null_string, one_or_none, sequence, size, text_begin, text_end, tree_at, tree_of}
pub use Rattle.sedre.specs.declared.types.Node.{Node}
pub use Rattle.sedre.specs.declared.types.Node.TheVariants.{Alt, Group, Opt, Seq, Set, Star}
pub use Rattle.sedre.specs.declared.types.NodeId.{NodeId}
pub use Rattle.sedtext.proofs.CapsLemmas.{Captures-unique}
pub use Rattle.sedtext.proofs.CountLemmas.{least_both, least_less, least_none, least_since, least_up}
pub use Rattle.sedtext.proofs.FixedRunLemmas.{CopiesLead-join}
pub use Rattle.sedtext.proofs.GroupLemmas.{NoGroups}
pub use Rattle.sedtext.proofs.MatchingLemmas.{both-iff, either-iff, groups_after-is}
pub use Rattle.sedtext.proofs.MirrorLemmas.{HasSpan-mirror, get-reverse}
pub use Rattle.sedtext.proofs.NodeLemmas.{node_at, parts_below, size-parts, size-pos, total_size}
pub use Rattle.sedtext.proofs.ReachLemmas.{BeginsWith-part, Enters-from, Enters-inside, Enters-part, Enters-root, FromNode, close_at, open_at, same_node, star_copies, takes_some}
pub use Rattle.sedtext.proofs.SpanLemmas.{CopiesLead-append, CopiesLead-forward, CopiesLead-last, Matches-forward, Matches-within}
pub use Rattle.sedtext.specs.Answer.{SpanAnswer}
pub use Rattle.sedtext.specs.Hints.{Narrowed, NoneIn}
pub use Rattle.sedtext.specs.Caps.{Captures, IsReport, LastCopy, LastCut, only, then_copy}
pub use Rattle.sedtext.specs.Following.{LooksPast}
pub use Rattle.sedtext.specs.Groups.{SpansOfGroups, deeper, forget, group_depth, no_groups}
pub use Rattle.sedtext.specs.Matching.{byte_is_in, groups_after, leftmost_longest}
pub use Rattle.sedtext.specs.Nodes.{IsRepetitionOf, parts_of}
pub use Rattle.sedtext.specs.Places.{Ascending, IsPlace}
pub use Rattle.sedtext.specs.Reach.{BeginsWith, CanEnd, Enters, HasSpan, IsLongestFrom, IsStart, SomeSpan, Starts, after_left, again, at_root, one_start, starts_to, with_whole}
pub use Rattle.sedtext.specs.Spans.{CopiesLead, Matches, NotFound, SomeFound, no_copy, one_more}
pub use Rattle.sedtext.specs.Words.{AgreeBelow, KeepsRows, row_of}
pub use Rattle.sedpass.specs.Classes.{IsFiner, IsNumbering}
pub use Rattle.sedpass.specs.Decide.{AreTables, EndsRegion, HasBlank, HasDesk, HasNoKnownLength, HasSpace, IsAtEnd, IsCopyFrom, IsTaskReady, IsTurn, KeepsGroupDesk, KeepsGroupRoom, LooksAt, NodeMatches, NodeTurned, NoneSettled, Works, entered_at, flags_of, known_groups, match_cost, nodes_in, region_cost, spans_in, subject_text, task_cost, tasks_after, tasks_cost, then_cost, weights}
pub use Rattle.sedpass.specs.Forwards.{Arrives, EndsBelow, IsPassEnd, LastBelow, PassIs, is_over, starts_of}
pub use Rattle.sedpass.specs.Kept.{AllMarked, ComesDown, EdgesFrom, Follows, IsEdge, IsKept, IsLive, IsRegion, KeepsRegion, KeptAt, Meet, PassesDownTo, RowKept, SameKept, SameSpace, due_place, ends_shown, owed_region, starts_shown}
pub use Rattle.sedpass.specs.Prepared.{AreFacts, AreParents, IsFacts, SameNulls, holds, is_one_set, length_of, null_at, null_in, nullable, repeated_set, reported, same_of, sum_of}
pub use Rattle.sedpass.specs.Regions.{CanLeave, CeasesAt, EndsPastIn, EndsWith, IsLastIn, IsLastPart, IsRunOf, IsSetAt, MeetsAt, ReachesEnd, all_of, at_end, before_copies, before_right, in_group, last_of, repeated, with_end}
pub use Rattle.sedpass.specs.Rows.{AddsMarks, AreNull, AreTakers, AreWide, EndsAfter, EndsUpTo, EntersDownTo, InTree, IsApart, IsNodeRange, MarkLeaves, RowFollows, RowOfPlace, SameBytes, ShowTook, TookBy, marks_of, StartsAfter, StartsWith, TakenBy, Took, at_begin, at_edge, bits, ended_by, ends_row, entered_by, is_tree, leaves_row, has_mark, nodes_of, part_of, root_of, takers_row}
pub use Rattle.sedpass.specs.Search.{LooksFrom, Searched, owed_after_search, owed_kept, owed_seeking, search_cost}
pub use Rattle.sedpass.specs.Table.{AddsStates, BeginsIn, Codes, FlagsShow, HasNewRow, HasOrigin, HasRoom, HasRows, HasTakers, IsBase, RowIs, edge_kind, IsForwardOne, IsLayout, IsMade, IsNext, IsOffset, IsOrigin, IsRoomy, IsTable, LeadsBy, LeadsOn, MayBegin, NamesState, PassState, SameRoom, SameShape, StateAt, beginning_at, beginning_of, cell_of, code_of, cell_for, cells_in, column_for, state_of}
pub use Rattle.sedpass.specs.Walks.{EntersGroups, GroupIsIn, GroupState, IsFirstState, NoneDue, WalkEnters, drop_groups, has_group, is_due, settle}
pub use Rattle.sedpass.specs.declared.cells.Layout.{Layout}
pub use Rattle.sedpass.specs.declared.cells.StateFlags.{StateFlags}
pub use Rattle.sedpass.specs.declared.forwards.Passed.{Passed}
pub use Rattle.sedpass.specs.declared.group_set.GroupSet.{GroupSet}
pub use Rattle.sedpass.specs.declared.groups.Decided.{Decided}
pub use Rattle.sedpass.specs.declared.groups.GroupRoom.{GroupRoom}
pub use Rattle.sedpass.specs.declared.groups.GroupTask.{GroupTask}
pub use Rattle.sedpass.specs.declared.groups.GroupTask.TheVariants.{Apart, Forget}
pub use Rattle.sedpass.specs.declared.groups.Matched.{Matched}
pub use Rattle.sedpass.specs.declared.groups.Tables.{Tables}
pub use Rattle.sedpass.specs.declared.groups.Then.{Then}
pub use Rattle.sedpass.specs.declared.groups.Then.TheVariants.{Done, One, Two}
pub use Rattle.sedpass.specs.declared.kept.Kept.{Kept}
pub use Rattle.sedpass.specs.declared.kept.Region.{Region}
pub use Rattle.sedpass.specs.declared.kept.Subject.{Subject}
pub use Rattle.sedpass.specs.declared.nodes.Facts.{Facts}
pub use Rattle.sedpass.specs.declared.nodes.PlaceKind.{PlaceKind}
pub use Rattle.sedpass.specs.declared.rows.Act.{Act}
pub use Rattle.sedpass.specs.declared.rows.Way.{Way}
pub use Rattle.sedpass.specs.declared.search.Seeking.{Seeking}
pub use Rattle.sedpass.specs.declared.table.Beginning.{Beginning}
pub use Rattle.sedpass.specs.declared.table.Table.{Table}
