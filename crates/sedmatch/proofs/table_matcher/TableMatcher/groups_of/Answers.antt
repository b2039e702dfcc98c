use Rattle.sedmatch.proofs.Words.{ℕ, ◌+◌, ◌-◌, ◌*◌, ◌≤◌, arith, expression_tree, group_depth, length, mul-le-mul_left, mul-le-mul_right, report-iff, report_lies, rules, common_steps}
use Rattle.sedmatch.specs.Passes.{AnswersGroups}
use Rattle.sedmatch.proofs.table_matcher.TableMatcher.groups_of.Goals as goal

square : (n : ℕ) → 4 * n ≤ (n + 1) * (n + 1)
square n = grind (arith, common_steps)

-- the groups of a match of so many bytes, in a text of n bytes
groups_within : (m d n long : ℕ) → d + 1 ≤ m → long ≤ n → 172 * m * d * long + 2 * m ≤ 51 * m * m * (n + 1) * (n + 1)
groups_within m d n long deep few =
    omega (arith, mul-le-mul_left (172 * m * d) few, mul-le-mul_left m (square n), mul-le-mul_left (m * d) (square n), mul-le-mul_right (51 * (n + 1) * (n + 1)) (mul-le-mul_left m deep))

answered : (c : goal.Joined-self) → AnswersGroups c.args.self.now c.args.text.now (c.args.start, c.args.end) c.args.steps.now c.match-self.steps c.match-self.result
answered c =
    elim c.match-self.branch [
      | goal.in-Direct w ↦
          let is = rw (c.self.view_is, w.in-Direct.is) at c.self.invariant in
          rw (w.result-is, w.steps-is) (w.whole_alone.ensures c.args.self.now c.args.text.now c.args.steps.now is.2 is.1 c.requires.spans)
      | goal.in-Passes w ↦ rw (w.result-is, w.steps-is) (rw c.self.view_is at w.groups_by.ensures.answered)
    ]

pub returns : goal.returns
returns c =
    let all = answered c in
    let e = expression_tree c.args.self.now in
    let n = length c.args.text.now in
    search (
      rules,
      all,
      (report-iff e c.args.text.now c.args.start c.args.end c.match-self.result c.requires.spans).1 all.report,
      report_lies n e c.args.text.now c.args.start c.args.end c.match-self.result c.requires.order c.requires.inside all.report,
      groups_within (length c.args.self.now.nodes) (group_depth e) n (c.args.end - c.args.start) (omega (arith, all.deep)) (omega (arith, c.requires.inside)),
    )
