use Rattle.std.proofs.Common.{rules, ◌∙◌, Some, None, ap, length, refl, arith}
use Rattle.sedspace.specs.Spaces.{SpaceView}
use Rattle.sedacts.proofs.Fitting.{keeps_trans, kept_on}
use Rattle.sedacts.specs.SubstituteParts.{names_group, pending}
use Rattle.sedacts.proofs.Due.{to_replace_is, groups_took, replaces_full, replaces_made}
use Rattle.sedacts.proofs.DecidingGroups.{all_took, searches_none, searches_three, searches_two, takes_few, takes_none, together}
use Rattle.sedacts.proofs.substitute.build_text.Goals as goal

pub returns-in_default-next_occurrence : goal.returns-in_default-next_occurrence
returns-in_default-next_occurrence c = record {
  replaces = let s = c.args.substitution.now in
      to_replace_is c.args.matcher.now c.args.text.now s.number s.global c.in-Some.last None c.in-Some.ensures.skips
      (rw c.in-Some.ensures.same.0 at c.in_default-next_occurrence.ensures.next.0);
  limit = refl;
  same = let w = c.in_default-next_occurrence.ensures.same in (w.0 ∙ c.in-Some.ensures.same.0, w.1 ∙ c.in-Some.ensures.same.1);
  kept = keeps_trans c.args.matcher.now c.args.seeking.now c.end_of_skipped.new.seeking _ c.in-Some.ensures.serves.0
      (rw c.in-Some.ensures.same.0 at c.in_default-next_occurrence.ensures.serves.0);
  cost = searches_two _ _ _ c.in-Some.ensures.cost (rw c.in-Some.ensures.same.0 at c.in_default-next_occurrence.ensures.cost);
  group_cost = takes_few _ c.in-Some.ensures.no_groups c.in_default-next_occurrence.ensures.group_cost;
  linear_group_cost = takes_few _ c.in-Some.ensures.no_groups c.in_default-next_occurrence.ensures.group_cost;
  cost_together = together (length c.args.matcher.now.nodes) _ (length c.args.text.now) _ _ _ _
      (searches_two _ _ _ c.in-Some.ensures.cost (rw c.in-Some.ensures.same.0 at c.in_default-next_occurrence.ensures.cost)) (takes_few _ c.in-Some.ensures.no_groups c.in_default-next_occurrence.ensures.group_cost);
}

pub returns-in_err-append_replaced : goal.returns-in_err-append_replaced
returns-in_err-append_replaced c =
    let searches = searches_three _ _ _ c.in-Some.ensures.cost (rw c.in-Some.ensures.same.0 at c.in-Some-next_occurrence.ensures.cost) (rw (c.in-Some-next_occurrence.ensures.same.0, c.in-Some.ensures.same.0) at c.in_err-append_replaced.ensures.cost) in
    let groups = all_took c.args.matcher.now (length c.args.text.now) _ _ _ c.in-Some.last c.in-Some-next_occurrence.first
    (rw (c.in-Some.ensures.same.0, c.in-Some.ensures.no_groups) at c.in-Some-next_occurrence.ensures.linear_group_cost)
    (rw (c.in-Some-next_occurrence.ensures.same.0, c.in-Some.ensures.same.0) at c.in_err-append_replaced.ensures.linear_group_cost) in
    record {
      replaces = let s = c.args.substitution.now in
          let e = c.args.matcher.now in
          let w = c.args.text.now in
          let first = Some c.in-Some-next_occurrence.first in
          let same = to_replace_is e w s.number s.global c.in-Some.last first c.in-Some.ensures.skips
          (rw c.in-Some.ensures.same.0 at c.in-Some-next_occurrence.ensures.next.0) in
          replaces_full w s.replacement _ (pending e w s.global first) c.args.build.now c.clear.new.self c.append_replaced.new.build
          c.in_err-append_replaced.field-0.0 c.from_residual.result c.from_residual.ensures.0 same (omega arith) c.clear.ensures
          (rw (c.in-Some-next_occurrence.ensures.same.0, c.in-Some.ensures.same.0) at c.in_err-append_replaced.ensures.appends);
      limit = c.in_err-append_replaced.ensures.appends.1 ∙ ap (λ (s : SpaceView). s.limit) c.clear.ensures;
      same = let w = c.in_err-append_replaced.ensures.same in
          let v = c.in-Some-next_occurrence.ensures.same in
          (w.0 ∙ v.0 ∙ c.in-Some.ensures.same.0, w.1 ∙ v.1 ∙ c.in-Some.ensures.same.1);
      kept = kept_on c.args.matcher.now _ _ c.args.seeking.now _ _ _ c.in-Some.ensures.same.0 c.in-Some-next_occurrence.ensures.same.0
          c.in-Some.ensures.serves.0 c.in-Some-next_occurrence.ensures.serves.0 c.in_err-append_replaced.ensures.kept;
      cost = searches;
      group_cost = let s = c.args.substitution.now in
          let e = c.args.matcher.now in
          let w = c.args.text.now in
          let first = c.in-Some-next_occurrence.first in
          let same = to_replace_is e w s.number s.global c.in-Some.last (Some first) c.in-Some.ensures.skips
          (rw c.in-Some.ensures.same.0 at c.in-Some-next_occurrence.ensures.next.0) in
          groups_took _ _ _ _ e w s.global c.needs_groups-wanted.result first _ same
          (rw (c.in-Some.ensures.same.0, c.in-Some.ensures.no_groups) at c.in-Some-next_occurrence.ensures.group_cost)
          (rw (c.in-Some-next_occurrence.ensures.same.0, c.in-Some.ensures.same.0) at c.in_err-append_replaced.ensures.group_cost);
      linear_group_cost = groups;
      cost_together = together (length c.args.matcher.now.nodes) _ (length c.args.text.now) _ _ _ _ searches groups;
    }

pub returns : goal.returns
returns c =
    let searches = searches_three _ _ _ c.in-Some.ensures.cost (rw c.in-Some.ensures.same.0 at c.in-Some-next_occurrence.ensures.cost) (rw (c.in-Some-next_occurrence.ensures.same.0, c.in-Some.ensures.same.0) at c.in_ok-append_replaced.ensures.cost) in
    let groups = all_took c.args.matcher.now (length c.args.text.now) _ _ _ c.in-Some.last c.in-Some-next_occurrence.first
    (rw (c.in-Some.ensures.same.0, c.in-Some.ensures.no_groups) at c.in-Some-next_occurrence.ensures.linear_group_cost)
    (rw (c.in-Some-next_occurrence.ensures.same.0, c.in-Some.ensures.same.0) at c.in_ok-append_replaced.ensures.linear_group_cost) in
    record {
      replaces = let s = c.args.substitution.now in
          let e = c.args.matcher.now in
          let w = c.args.text.now in
          let first = Some c.in-Some-next_occurrence.first in
          let same = to_replace_is e w s.number s.global c.in-Some.last first c.in-Some.ensures.skips
          (rw c.in-Some.ensures.same.0 at c.in-Some-next_occurrence.ensures.next.0) in
          replaces_made w s.replacement _ (pending e w s.global first) c.args.build.now c.clear.new.self c.append_replaced.new.build
          same (omega arith) c.clear.ensures (rw (c.in-Some-next_occurrence.ensures.same.0, c.in-Some.ensures.same.0) at c.in_ok-append_replaced.ensures.appends);
      limit = ap (λ (s : SpaceView). s.limit) c.in_ok-append_replaced.ensures.appends ∙ ap (λ (s : SpaceView). s.limit) c.clear.ensures;
      same = let w = c.in_ok-append_replaced.ensures.same in
          let v = c.in-Some-next_occurrence.ensures.same in
          (w.0 ∙ v.0 ∙ c.in-Some.ensures.same.0, w.1 ∙ v.1 ∙ c.in-Some.ensures.same.1);
      kept = kept_on c.args.matcher.now _ _ c.args.seeking.now _ _ _ c.in-Some.ensures.same.0 c.in-Some-next_occurrence.ensures.same.0
          c.in-Some.ensures.serves.0 c.in-Some-next_occurrence.ensures.serves.0 c.in_ok-append_replaced.ensures.kept;
      cost = searches;
      group_cost = let s = c.args.substitution.now in
          let e = c.args.matcher.now in
          let w = c.args.text.now in
          let first = c.in-Some-next_occurrence.first in
          let same = to_replace_is e w s.number s.global c.in-Some.last (Some first) c.in-Some.ensures.skips
          (rw c.in-Some.ensures.same.0 at c.in-Some-next_occurrence.ensures.next.0) in
          groups_took _ _ _ _ e w s.global c.needs_groups-wanted.result first _ same
          (rw (c.in-Some.ensures.same.0, c.in-Some.ensures.no_groups) at c.in-Some-next_occurrence.ensures.group_cost)
          (rw (c.in-Some-next_occurrence.ensures.same.0, c.in-Some.ensures.same.0) at c.in_ok-append_replaced.ensures.group_cost);
      linear_group_cost = groups;
      cost_together = together (length c.args.matcher.now.nodes) _ (length c.args.text.now) _ _ _ _ searches groups;
    }

pub returns-in_default : goal.returns-in_default
returns-in_default c = record {
  replaces = search rules;
  limit = refl;
  same = c.in_default.ensures.same;
  kept = c.in_default.ensures.serves.0;
  cost = searches_none _ c.in_default.ensures.cost;
  group_cost = takes_none _ c.in_default.ensures.no_groups;
  linear_group_cost = takes_none _ c.in_default.ensures.no_groups;
  cost_together = together (length c.args.matcher.now.nodes) _ (length c.args.text.now) _ _ _ _ (searches_none _ c.in_default.ensures.cost) (takes_none _ c.in_default.ensures.no_groups);
}

pub next_occurrence-requires : goal.next_occurrence-requires
next_occurrence-requires c = record {
  last = c.in-Some.ensures.skips.1;
  fits = rw (c.in-Some.ensures.same.0, c.in-Some.ensures.same.1) c.requires.fits;
  serves = rw c.in-Some.ensures.same.0 c.in-Some.ensures.serves.1;
}

pub append_replaced-requires : goal.append_replaced-requires
append_replaced-requires c = record {
  fits = let w = c.in-Some-next_occurrence.ensures.same in
      rw (w.0, c.in-Some.ensures.same.0, w.1, c.in-Some.ensures.same.1) c.requires.fits;
  lies = let lies = c.in-Some-next_occurrence.ensures.next.1 in (lies.0, lies.1, tt);
  groups = search rules;
  serves = let w = c.in-Some-next_occurrence.ensures in rw w.same.0 w.serves.1;
  wanted = c.needs_groups-wanted.ensures ∙ ap names_group c.parts.ensures.pieces;
}
