-- What proofs here take from other crates and from the definitions, in one place.
pub use Rattle.std.proofs.Common.{zero, nat_lt, add-one, Bool, IfSome, IsTrue, List, None, Option, Some, [], ap, arith, drop, drop-cons, false, get_or, inl, inr, length, length-append, max, mul-add, mul-le-mul_left, refl, rules, subst, suc, sym, take, true, true≢false, ℕ, ◌*◌, ◌++◌, ◌+◌, ◌-◌, ◌/◌, ◌<◌, ◌↔◌, ◌∙◌, ◌∷◌, ◌≡◌, ◌≤◌, ◌⊎◌}
pub use Rattle.std.proofs.lemmas.Grind.{common_steps}
pub use Rattle.std.proofs.lemmas.List.{get_or-append-add, get_or_append_left, take_all}
pub use Rattle.std.proofs.lemmas.Option.{IfSome_then, get_or_from_slice_get, gets, slice_get-get_or, slice_get_read, slice_get_within}
pub use Rattle.std.specs.Option.{unwrap_or}
pub use Rattle.std.specs.Prelude.{if◌then◌else◌, slice_get, slice_index_or, slice_set, vec_capacity}
pub use Rattle.memchr.specs.Find.{OccursAt}
pub use Rattle.sedre.specs.Steps.{CostsWithin, StepsWithin, Takes}
unfoldable pub use Rattle.sedre.specs.Steps.{TakesAtLeast}
pub use Rattle.sedtext.proofs.FixedRunLemmas.{repeated_cut}
pub use Rattle.sedtext.proofs.FollowingLemmas.{if_occurs}
pub use Rattle.sedtext.proofs.GroupLemmas.{Captures-none, no_groups_at}
pub use Rattle.sedtext.proofs.MatchingLemmas.{found-iff, not_found-iff, report-iff, same_test}
pub use Rattle.sedtext.proofs.PartLemmas.{report_lies}
pub use Rattle.sedtext.proofs.RunLemmas.{run_forward, run_longest}
pub use Rattle.sedtext.specs.Bytes.{FirstFrom, MemberAt}
pub use Rattle.sedtext.specs.Following.{CanEndEarly, LiesOn, LooksPast, OccursAfter, bytes_passed, next_span}
pub use Rattle.sedtext.specs.Links.{AreAlternatives, ChainLeads, IsChain, LinkLeads}
pub use Rattle.sedtext.specs.Hints.{Narrowed}
pub use Rattle.sedtext.specs.Sieve.{PassesSieve}
pub use Rattle.sedtext.specs.declared.links.Link.{Link}
pub use Rattle.sedtext.specs.Groups.{group_depth}
pub use Rattle.sedpass.proofs.DecideLemmas.{has_desk, space_again}
pub use Rattle.sedpass.proofs.ForwardLemmas.{passes_later}
pub use Rattle.sedpass.proofs.KeptLemmas.{space_same, space_then}
pub use Rattle.sedpass.proofs.OneGroupLemmas.{enters_later, enters_nothing}
pub use Rattle.sedpass.proofs.SearchLemmas.{later_answer, looks_later, looks_past, looks_to_end, search_long, searched_then, some_from, square}
pub use Rattle.sedpass.proofs.TableLemmas.{roomy_fewer, roomy_still}
pub use Rattle.sedpass.proofs.Words.{SpanAnswer, CopiesLead-forward, IsExpr, Matches, Matches-forward, Node, SomeFound, Tree, WrittenExpression, cases_lt, expression_tree, least_less, least_since, least_up, leftmost_longest, lt-div-mul-add, mul-le-mul_right, no_groups}
pub use Rattle.sedpass.specs.Decide.{HasSpace}
pub use Rattle.sedpass.specs.Kept.{KeptRoom, SameSpace}
pub use Rattle.sedpass.specs.Prepared.{IsAnalysis}
pub use Rattle.sedpass.specs.Search.{owed_after_search, owed_behind, owed_seeking, search_cost}
pub use Rattle.sedpass.specs.Table.{IsRoomy, IsTable, SameRoom, SameShape}
pub use Rattle.sedpass.specs.declared.search.Seeking.{Seeking}
pub use Rattle.sedpass.specs.declared.table.Table.{Table}
pub use Rattle.sedmatch.specs.Candidates.{NoMatchBefore}
pub use Rattle.sedmatch.specs.Direct.{IsDirect}
pub use Rattle.sedmatch.specs.Occurrences.{ServesOn, AnswersNext, HasOwn, HasTable, IsLook, IsReady, IsReverseAny, RoomAt, RoomFor, ServesFrom, TakesFirst, owed, owed_after, owed_direct, owed_search}
pub use Rattle.sedmatch.specs.Passes.{AnswersMatch, IsDesk, KeepsDesk}
pub use Rattle.sedmatch.specs.Stretches.{ComesFirst, FirstOf, Follow, StretchSpans, behind_first}
pub use Rattle.sedmatch.specs.declared.occurrences.Occurrences.{Occurrences}
pub use Rattle.sedmatch.specs.declared.scratch.Desk.{Desk}
pub use Rattle.sedmatch.specs.declared.stretches.Anchoring.TheVariants.{AtEnd}
pub use Rattle.sedmatch.specs.declared.stretches.Stretch.{Stretch}
pub use Rattle.sedpass.proofs.OwedLemmas.{owed_falls}
