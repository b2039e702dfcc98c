use Rattle.sedpass.proofs.Words.{rules, ◌≡◌, ◌+◌, ◌≤◌, Some, refl, inl, ◌∙◌, HasBlank, known_groups, spans_in, last_of, settle, arith, length, ◌↔◌, IsTrue, IsCounted, TakesAtLeast, CostsWithin, HasSpan, one_start, KeepsGroupDesk, SameKept, nodes_in, subject_text, owed_region}
use Rattle.sedpass.proofs.DecideLemmas.{flags_at, settled}
use Rattle.sedpass.proofs.TurnLemmas.{alt_turned, group_turned, leaf_turned, opt_done, opt_turned, seq_turned, star_done, star_turned}
use Rattle.sedpass.proofs.groups.turn_node.Goals as goal
use Rattle.sedpass.proofs.groups.turn_node.Goals.{In-Alt, Joined-spans, then-has, else-has, then-here, else-here}
use Rattle.sedpass.proofs.KeptLemmas.{space_then}
use Rattle.sedpass.proofs.LeaveLemmas.{reaches_ends}

pub returns-in-Seq-clause-turned : goal.returns-in-Seq-clause-turned
returns-in-Seq-clause-turned c =
    rw (c.in-Seq.is, c.index-node.ensures, c.index-node-in-Seq.ensures)
    (seq_turned _ _ _ _ _ _ _ _ _ _ (rw c.in-Seq.is at c.requires.at).stands (search rules) c.last_cut-stop.ensures.cut c.last_cut-stop.ensures.cost c.last_cut-stop.ensures.counts)

-- whether it matches, in what was looked at
looked : (c : Joined-spans) → (IsTrue c.if-here.spans ↔ HasSpan (nodes_in c.args.subject) (subject_text c.args.subject) c.in-Alt.a.index c.args.here.start c.args.here.stop)
    × KeepsGroupDesk c.args.subject c.args.tables.now c.if-here.tables c.args.kept.now c.if-here.kept × SameKept c.args.kept.now c.if-here.kept
    × CostsWithin c.args.steps.now c.if-here.steps (owed_region (length (nodes_in c.args.subject)) c.args.kept.now.region c.args.here.start + 1) (owed_region (length (nodes_in c.args.subject)) c.if-here.kept.region c.args.here.start)
    × TakesAtLeast c.args.steps.now c.if-here.steps 1
unfolding TakesAtLeast IsCounted
looked c =
    let here = c.args.here in
    let at = rw c.in-Alt.is at c.requires.at in
    elim c.if-here.branch [
      | then-here w ↦
          let null = rw c.index-left.ensures at w.is_null-spans.ensures.null in
          rw (w.spans-is, w.tables-is, w.kept-is, w.steps-is) (rw (← w.if-here.true) null, search (rules, at.desk), search rules, omega (arith, w.is_null-spans.ensures.cost), omega (arith, w.is_null-spans.ensures.cost))
      | else-here w ↦
          let both = reaches_ends _ (subject_text c.args.subject) _ c.in-Alt.a.index here.start (one_start c.args.kept.now.region.end) at.stands.arena (last_of here.node c.in-Alt.a.index _ at.stands.is (inl refl) at.ends.0) in
          let look = w.marks-spans.ensures in
          let shown = rw (c.index-left.ensures, at.desk.one_end) at look.marked in
          let spans : IsTrue w.marks-spans.result ↔ HasSpan (nodes_in c.args.subject) (subject_text c.args.subject) c.in-Alt.a.index here.start here.stop = (
            λ h. let there = both.0 (shown.0 h) in let to : there.0 ≡ here.stop = omega (arith, there.1, at.ends.1) in rw to at there.2,
            λ span. shown.1 (both.1 (here.stop, (omega arith, omega arith), span, inl (omega arith))),
          ) in
          rw (w.spans-is, w.tables-is, w.kept-is, w.steps-is) (spans, search (rules, at.desk, look.keeps), look.keeps.same, look.cost, look.counts)
    ]

pub returns-after-spans-clause-turned : goal.returns-after-spans-clause-turned
returns-after-spans-clause-turned c =
    let look = looked (goal.at.returns-after-spans-clause-turned c).Joined-spans in
    rw (c.in-Alt.is, c.index-node-in-Alt.ensures)
    (alt_turned c.args.subject c.args.here c.in-Alt.a c.in-Alt.b c.if-spans.index.index _ c.args.kept.now.region c.if-here.kept.region c.args.steps.now c.if-here.steps (rw c.in-Alt.is at c.requires.at).stands (search rules)
    (search (rules, look.0)) look.3 look.4)

pub returns-after-spans-clause-desk : goal.returns-after-spans-clause-desk
returns-after-spans-clause-desk c = (looked (goal.at.returns-after-spans-clause-desk c).Joined-spans).1

-- the group has its span, if it was due
settled_in : (c : goal.After-index-node-in-Group) → HasBlank c.if-has.decided
    × (known_groups c.if-has.decided ≡ settle c.in-Group.k (Some (c.args.here.start, c.args.here.stop)) (known_groups c.args.decided.now))
    × (spans_in c.if-has.decided.spans ≤ spans_in c.args.decided.now.spans + 1)
settled_in c =
    elim c.if-has.branch [
      | then-has w ↦ rw w.decided-is (settled _ _ _ _ _ c.requires.decided (search rules) w.one.ensures w.without-decided.ensures)
      | else-has w ↦ search (rules, flags_at c.args.decided.now.due c.in-Group.k, w.decided-is)
    ]

pub returns-after-has-clause-turned : goal.returns-after-has-clause-turned
returns-after-has-clause-turned c = rw (c.in-Group.is, (settled_in c).1, c.index-node-in-Group.ensures) (group_turned _ _ _ _ _ _ _ (rw c.in-Group.is at c.requires.at).stands c.requires.at.ends)

pub returns-after-has-clause-decided : goal.returns-after-has-clause-decided
returns-after-has-clause-decided c = (settled_in c).0

pub returns-after-has-clause-few : goal.returns-after-has-clause-few
returns-after-has-clause-few c = (settled_in c).2

pub returns-in-None-clause-turned : goal.returns-in-None-clause-turned
returns-in-None-clause-turned c = rw c.in-Star.is (star_done _ _ _ _ _ _ _ _ _ (rw c.in-Star.is at c.requires.at).stands c.in-None.ensures.copy c.last_copy.ensures.cost c.last_copy.ensures.counts)

pub returns-in-Some-clause-turned : goal.returns-in-Some-clause-turned
returns-in-Some-clause-turned c =
    rw (c.in-Star.is, c.index-node-in-Some.ensures)
    (star_turned _ _ _ _ _ _ _ _ _ _ (rw c.in-Star.is at c.requires.at).stands c.in-Some.ensures.copy (c.begin.ensures.root ∙ c.index-node-in-Some.ensures) c.begin.ensures.end
    c.last_copy.ensures.cost c.last_copy.ensures.counts)

pub returns-in-Some-clause-desk : goal.returns-in-Some-clause-desk
returns-in-Some-clause-desk c = search (rules, space_then)

pub returns-then-is_null-clause-turned : goal.returns-then-is_null-clause-turned
returns-then-is_null-clause-turned c =
    rw (c.in-Opt.is, c.index-node-in-Opt.ensures) (opt_turned _ _ _ _ _ _ _ _ (rw c.in-Opt.is at c.requires.at).stands c.requires.at.ends (search rules) (search rules))

pub returns-else-is_null-clause-turned : goal.returns-else-is_null-clause-turned
returns-else-is_null-clause-turned c = rw c.in-Opt.is (opt_done _ _ _ _ _ _ _ _ (rw c.in-Opt.is at c.requires.at).stands (search rules) (search rules) (search rules))

pub returns-in_default-clause-turned : goal.returns-in_default-clause-turned
returns-in_default-clause-turned c = search (rules, leaf_turned)
