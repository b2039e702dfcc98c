use Rattle.std.proofs.Common.{rules, arith, ◌-◌, ◌∙◌, Bool, Err, ap, drop, length, refl, subst, sym, take}
use Rattle.std.specs.Prelude.{slice_range}
use Rattle.sedacts.specs.SubstituteParts.{GroupsOf, names_group}
use Rattle.sedacts.proofs.Due.{appended, due_after, due_cut, due_full, due_next, due_rest, groups_paid, lies_on, more_pending, none_pending}
use Rattle.sedacts.proofs.Fitting.{keeps_trans}
use Rattle.sedacts.proofs.DecidingGroups.{le_same, le_zero, takes_paid}
use Rattle.sedacts.proofs.substitute.append_replaced.Goals as goal

pub put-requires : goal.put-requires
put-requires c = record {
  within = search rules;
  lies = let lies = rw c.in-Some.is at c.occurrences.invariant.lies in (lies.1, lies.2, tt);
  groups_in = λ some.
      let shown = rw c.in-Some.is at c.occurrences.invariant.groups in
      (shown (ap names_group (sym c.parts-parts.ensures.pieces) ∙ some)).1;
}

pub returns-in_err-append : goal.returns-in_err-append
returns-in_err-append c = record {
  appends = let l = c.occurrences in
      let i = l.invariant in
      let s = c.args.replacing.substitution.now in
      let due = due_next c.args.build.now l.build _ c.args.matcher.now c.args.replacing.text.now s.replacement s.global l.copied
      l.findings.groups l.occurrence c.in-Some.span c.in-Some.is i.groups (i.limit, i.made) in
      let before = slice_range c.args.replacing.text.now l.copied c.in-Some.span.0 in
      let a = c.in_err-append.ensures in
      let f = c.in_err-append.field-0.0 in
      let full = appended l.build c.append.new.self before before (Err f) refl a.ok a.full a.err in
      due_full c.args.build.now l.build c.append.new.self _ before _ f c.from_residual.result
      c.from_residual.ensures.0 due full;
  same = let i = c.occurrences.invariant in (i.matcher, i.scratch);
  kept = c.occurrences.invariant.kept;
  cost = let i = c.occurrences.invariant in takes_paid _ _ i.grows i.cost;
  group_cost = let i = c.occurrences.invariant in takes_paid _ _ i.groups_grow i.group_cost;
  linear_group_cost = let i = c.occurrences.invariant in takes_paid _ _ i.groups_grow i.linear_group_cost;
}

pub returns-in_err-put : goal.returns-in_err-put
returns-in_err-put c = record {
  appends = let l = c.occurrences in
      let i = l.invariant in
      let s = c.args.replacing.substitution.now in
      let cut = c.append.new.self in
      let due = due_cut c.args.build.now l.build cut _ c.args.matcher.now c.args.replacing.text.now s.replacement _ s.global l.copied
      l.findings.groups l.occurrence c.in-Some.span c.in-Some.is i.groups c.parts-parts.ensures.pieces (i.limit, i.made)
      c.in_ok-append.ensures.ok in
      due_full c.args.build.now cut c.put.new.build _ _ _ c.in_err-put.field-0.0 c.from_residual-in_err-put.result
      c.from_residual-in_err-put.ensures.0 due c.in_err-put.ensures;
  same = let i = c.occurrences.invariant in (i.matcher, i.scratch);
  kept = c.occurrences.invariant.kept;
  cost = let i = c.occurrences.invariant in takes_paid _ _ i.grows i.cost;
  group_cost = let i = c.occurrences.invariant in takes_paid _ _ i.groups_grow i.group_cost;
  linear_group_cost = let i = c.occurrences.invariant in takes_paid _ _ i.groups_grow i.linear_group_cost;
}

pub occurrences-preserved-then-substitution : goal.occurrences-preserved-then-substitution
occurrences-preserved-then-substitution c =
    let l = c.occurrences in
    let i = l.invariant in
    let e = c.args.matcher.now in
    let w = c.args.replacing.text.now in
    let s = c.args.replacing.substitution.now in
    let span = c.in-Some.span in
    let lies = rw c.in-Some.is at i.lies in
    let next = c.next_occurrence-occurrence in
    let more = more_pending e w s.global span.1 next.result c.if-substitution.true lies.2 (rw i.matcher at next.ensures.next.0) in
    let due = due_after c.args.build.now l.build c.append.new.self c.put.new.build _ e w s.replacement _ s.global
    l.copied l.findings.groups l.occurrence span _ c.in-Some.is i.groups c.parts-parts.ensures.pieces (i.limit, i.made)
    c.in_ok-append.ensures.ok c.in_ok-put.ensures more in
    record {
      matcher = next.ensures.same.0 ∙ i.matcher;
      scratch = next.ensures.same.1 ∙ i.scratch;
      kept = keeps_trans e c.args.seeking.now l.seeking _ i.kept (rw i.matcher at next.ensures.serves.0);
      serves = rw i.matcher at next.ensures.serves.1;
      grows = omega (arith, i.grows, next.ensures.cost.0);
      cost =
          let paid = rw i.matcher at next.ensures.cost.1 in
          let before = rw c.in-Some.is at i.cost in
          omega (arith, paid, before);
      groups_grow = omega (arith, i.groups_grow, next.ensures.group_cost.0);
      group_cost = groups_paid _ _ _ _ e w s.global c.args.replacing.wanted l.occurrence span next.result c.in-Some.is more i.group_cost
          (rw i.matcher at next.ensures.group_cost.1);
      linear_group_cost =
          let paid = rw i.matcher at next.ensures.linear_group_cost.1 in
          let before = rw c.in-Some.is at i.linear_group_cost in
          omega (arith, paid, before);
      limit = due.0;
      copied = lies.2;
      lies = lies_on (length w) span.1 next.result next.ensures.next.1;
      groups = subst (λ (b : Bool). GroupsOf e w b next.result next.new.findings.groups) c.requires.wanted (rw i.matcher at next.ensures.groups);
      made = due.1;
    }

pub occurrences-preserved : goal.occurrences-preserved
occurrences-preserved c =
    let l = c.occurrences in
    let i = l.invariant in
    let e = c.args.matcher.now in
    let w = c.args.replacing.text.now in
    let s = c.args.replacing.substitution.now in
    let span = c.in-Some.span in
    let lies = rw c.in-Some.is at i.lies in
    let none = none_pending e w s.global span.1 c.if-substitution.false in
    let due = due_after c.args.build.now l.build c.append.new.self c.put.new.build _ e w s.replacement _ s.global
    l.copied l.findings.groups l.occurrence span _ c.in-Some.is i.groups c.parts-parts.ensures.pieces (i.limit, i.made)
    c.in_ok-append.ensures.ok c.in_ok-put.ensures none in
    record {
      matcher = i.matcher;
      scratch = i.scratch;
      kept = i.kept;
      serves = tt;
      grows = i.grows;
      cost = (let before = i.cost in omega (arith, before));
      groups_grow = i.groups_grow;
      group_cost = (let before = i.group_cost in omega (arith, before));
      linear_group_cost = (let before = i.linear_group_cost in omega (arith, before));
      limit = due.0;
      copied = lies.2;
      lies = tt;
      groups = tt;
      made = due.1;
    }

pub returns : goal.returns
returns c = record {
  appends = let l = c.occurrences in
      let i = l.invariant in
      let w = c.args.replacing.text.now in
      let s = c.args.replacing.substitution.now in
      let new = c.append-2.new.self in
      let a = c.append-2.ensures in
      let rest = take (length w - l.copied) (drop l.copied w) in
      due_rest c.args.build.now l.build new _ c.args.matcher.now w s.replacement s.global l.copied l.occurrence
      c.append-2.result c.in_default.is (i.limit, i.made)
      (appended l.build new rest rest c.append-2.result refl a.ok a.full a.err);
  same = let i = c.occurrences.invariant in (i.matcher, i.scratch);
  kept = c.occurrences.invariant.kept;
  cost = let i = c.occurrences.invariant in takes_paid _ _ i.grows i.cost;
  group_cost = let i = c.occurrences.invariant in takes_paid _ _ i.groups_grow i.group_cost;
  linear_group_cost = let i = c.occurrences.invariant in takes_paid _ _ i.groups_grow i.linear_group_cost;
}

pub occurrences-init : goal.occurrences-init
occurrences-init c = record {
  matcher = refl;
  scratch = refl;
  kept = (refl, λ text es at room. room);
  serves = c.requires.serves;
  grows = le_same;
  cost = le_same;
  groups_grow = le_same;
  group_cost = le_same;
  linear_group_cost = le_same;
  limit = refl;
  copied = le_zero;
  lies = (le_zero, c.requires.lies.0, c.requires.lies.1);
  groups = c.requires.groups;
  made = refl;
}

pub next_occurrence-occurrence-requires : goal.next_occurrence-occurrence-requires
next_occurrence-occurrence-requires c = record {
  last = let i = c.occurrences.invariant in
      let lies = rw c.in-Some.is at i.lies in
      lies.2;
  fits = let i = c.occurrences.invariant in rw (i.matcher, i.scratch) c.requires.fits;
  serves = let i = c.occurrences.invariant in rw i.matcher (rw c.in-Some.is at i.serves);
}
