use Rattle.sedpass.proofs.Words.{ℕ, ◌+◌, ◌∙◌, ◌≡◌, rules, refl, arith, sym, true≢false, TakesAtLeast, IsCounted, PassIs}
use Rattle.sedpass.proofs.TableLemmas.{names_offset, small_offset_at}
use Rattle.sedpass.proofs.ForwardLemmas.{arrive_at, goes_on, not_last, plain_shows}
use Rattle.sedpass.proofs.table.Table.follow.Goals as goal
use Rattle.sedpass.proofs.table.Table.follow.Goals.{else-loop-at-test, then-loop-at-test+else-is_plain+else-cell-eq0+then-at, then-loop-at-test+else-is_plain+then-cell-eq0}

pub plain_code-code-requires : goal.plain_code-code-requires
plain_code-code-requires c = small_offset_at _ _ c.requires.table _ c.requires.offset

pub plain_code-code-requires-else-is_plain : goal.plain_code-code-requires-else-is_plain
plain_code-code-requires-else-is_plain c = small_offset_at _ _ c.requires.table _ c.arrive-at.ensures.offset

pub loop-at-preserved-then-is_plain : goal.loop-at-preserved-then-is_plain
unfolding TakesAtLeast IsCounted
loop-at-preserved-then-is_plain c =
    let at = c.loop-at.at in
    let old = c.loop-at.invariant in
    let same : c.plain_offset.result ≡ at.offset = omega (arith, c.plain_offset.ensures, old.code) in
    let names = rw same at (c.known-cell.ensures.leads (c.is_plain.ensures.some c.if-is_plain.true)) in
    let shows = plain_shows _ _ c.plain_offset-then-is_plain.ensures (c.is_plain.ensures.plain c.if-is_plain.true) in
    let offset = names_offset _ _ c.requires.table _ _ _ names (λ f u small is. (shows f u small is).0) in
    let passes : (start : ℕ) → PassIs c.args.prepared.now c.args.self.now c.args.text.now start c.args.from →
    PassIs c.args.prepared.now c.args.self.now c.args.text.now start (record { offset = c.plain_offset-then-is_plain.result; place = at.place + 1; end = at.end; over = at.over }) = λ start pass.
    goes_on _ _ _ _ _ _ _ _ _ _ c.requires.table.expr refl (old.passes start pass) c.byte-byte.ensures.byte (not_last _ _ _ c.loop-at-test.true c.requires.to) names
    (λ after within named last. arrive_at _ _ _ _ _ _ _ _ _ c.requires.table after within (λ f u small is. (shows f u small is).0) (λ f u small is. (shows f u small is).1) named last _ _ refl (λ h. absurd (true≢false (sym h ∙ old.over)))) in
    search (rules, old, c.byte-byte.ensures.cost, offset, passes, c.requires.to, c.plain_offset-then-is_plain.ensures)

pub loop-at-preserved : goal.loop-at-preserved
unfolding TakesAtLeast IsCounted
loop-at-preserved c =
    let old = c.loop-at.invariant in
    let next = c.arrive-at.ensures in
    let same : c.plain_offset.result ≡ c.loop-at.at.offset = omega (arith, c.plain_offset.ensures, old.code) in
    let passes : (start : ℕ) → PassIs c.args.prepared.now c.args.self.now c.args.text.now start c.args.from → PassIs c.args.prepared.now c.args.self.now c.args.text.now start c.arrive-at.result = λ start pass.
    goes_on _ _ _ _ _ _ _ _ _ _ c.requires.table.expr refl (old.passes start pass) c.byte-byte.ensures.byte (not_last _ _ _ c.loop-at-test.true c.requires.to) (rw same at (c.known-cell.ensures.leads (omega (arith, c.if-cell-eq0.false)))) (next.passes start) in
    search (rules, old, next, c.byte-byte.ensures, passes, c.plain_code-code-else-is_plain.ensures)

pub returns-clause-passes : goal.returns-clause-passes
returns-clause-passes c start pass =
    let before = c.loop-at.invariant.passes start pass in
    elim c.loop-at-test.branch [
      | else-loop-at-test w ↦ rw w.at-is before
      | then-loop-at-test+else-is_plain+then-cell-eq0 w ↦ rw w.at-is before
      | then-loop-at-test+else-is_plain+else-cell-eq0+then-at w ↦
          let same : w.plain_offset.result ≡ c.loop-at.at.offset = omega (arith, w.plain_offset.ensures, c.loop-at.invariant.code) in
          rw w.at-is (goes_on _ _ _ _ _ _ _ _ _ _ c.requires.table.expr refl before w.byte-byte.ensures.byte (not_last _ _ _ w.loop-at-test.true c.requires.to)
          (rw same at (w.known-cell.ensures.leads (omega (arith, w.if-cell-eq0.false)))) (w.arrive-at.ensures.passes start))
    ]
