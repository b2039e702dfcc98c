use Rattle.std.proofs.Common.{rules, ap, ◌∙◌, length, None, Some, arith, refl, sym}
use Rattle.std.proofs.lemmas.Bool.{false≢true}
use Rattle.sedacts.proofs.DecidingGroups.{takes_none, shown_paid, none_paid}
use Rattle.std.specs.Option.{option_map}
use Rattle.sedacts.proofs.Occurrences.{occurrence_as}
use Rattle.sedacts.specs.State.{occurrence_at_span}
use Rattle.sedacts.specs.SubstituteParts.{IsNextOccurrence}
use Rattle.sedacts.proofs.substitute.next_occurrence.Goals.{In_ok-span}
use Rattle.sedacts.proofs.substitute.next_occurrence.Goals as goal

found : (c : In_ok-span) → IsNextOccurrence c.args.matcher.now c.args.text.now c.args.last (Some c.in_ok-span.span)
found c =
    let e = c.args.matcher.now in
    let w = c.args.text.now in
    let next = rw c.new.ensures at c.in_ok-span.ensures.next in
    (ap (option_map (occurrence_at_span e w)) next ∙ occurrence_as e w c.args.last, (rw c.new.ensures at c.in_ok-span.ensures.occurs).1)

pub returns-then-wanted : goal.returns-then-wanted
returns-then-wanted c = record {
  next = found (goal.at.returns-then-wanted c).In_ok-span;
  groups = λ shown. let w = c.decide_groups.ensures in (rw c.in_ok-span.ensures.same at w.groups, w.groups_in);
  same = let w = c.decide_groups.ensures in (w.same ∙ c.in_ok-span.ensures.same, w.scratch ∙ c.in_ok-span.ensures.scratch);
  serves = rw c.new.ensures at c.in_ok-span.ensures.serves;
  cost = rw c.decide_groups.ensures.searches (rw c.new.ensures at c.in_ok-span.ensures.cost);
  group_cost = rw c.if-wanted.true (rw c.in_ok-span.ensures.same at c.decide_groups.ensures.cost);
  linear_group_cost = shown_paid c.args.matcher.now (length c.args.text.now) _ _ c.args.last c.in_ok-span.span
      (rw c.new.ensures at c.in_ok-span.ensures.occurs.1) (rw c.in_ok-span.ensures.same at c.decide_groups.ensures.linear_cost);
}

pub returns-else-wanted : goal.returns-else-wanted
returns-else-wanted c = record {
  next = found (goal.at.returns-else-wanted c).In_ok-span;
  groups = λ shown. absurd (false≢true (sym c.if-wanted.false ∙ shown));
  same = (c.in_ok-span.ensures.same, c.in_ok-span.ensures.scratch);
  serves = rw c.new.ensures at c.in_ok-span.ensures.serves;
  cost = rw c.new.ensures at c.in_ok-span.ensures.cost;
  group_cost = rw c.if-wanted.false (omega arith, omega arith);
  linear_group_cost = none_paid c.args.matcher.now (length c.args.text.now) _ c.args.last (Some c.in_ok-span.span)
      (rw c.new.ensures at c.in_ok-span.ensures.occurs.1);
}

pub next_occurrence-requires : goal.next_occurrence-requires
next_occurrence-requires c = record {
  last = rw c.new.ensures c.requires.last;
  fits = rw c.new.ensures c.requires.fits;
  serves = rw c.new.ensures c.requires.serves;
}

pub decide_groups-requires-clause-text : goal.decide_groups-requires-clause-text
decide_groups-requires-clause-text c = rw c.in_ok-span.ensures.scratch c.requires.fits.0

pub decide_groups-requires-clause-nodes : goal.decide_groups-requires-clause-nodes
decide_groups-requires-clause-nodes c = rw (c.in_ok-span.ensures.scratch, c.in_ok-span.ensures.same) c.requires.fits.1

pub returns-in_err-span : goal.returns-in_err-span
returns-in_err-span c = record {
  next = search rules;
  groups = rw c.from_residual.ensures tt;
  same = (c.in_err-span.ensures.same, c.in_err-span.ensures.scratch);
  serves = rw c.from_residual.ensures (c.in_err-span.ensures.serves.0, tt);
  cost = rw c.from_residual.ensures (rw c.new.ensures at c.in_err-span.ensures.cost);
  group_cost = rw c.from_residual.ensures (takes_none 0 refl);
  linear_group_cost = rw c.from_residual.ensures (none_paid c.args.matcher.now (length c.args.text.now) c.args.findings.now.group_steps c.args.last None tt);
}
