use Rattle.std.proofs.Common.{◌≡◌, ◌<◌, rules, ℕ, List, ◌∷◌, subst, Ok, refl, ◌∙◌, ap, [], ◌++◌, length, arith, inl, inr, length-append}
use Rattle.sedspace.specs.Spaces.{SpaceView}
use Rattle.sedspace.specs.Gathering.{Gathered}
use Rattle.sedspace.proofs.ReadCounts.{ReadsForBytes-none, ReadsForBytes-same, ReadsForBytes-then}
use Rattle.sedspace.proofs.StreamLemmas.{same_source, Gathered-start, Gathered-moved, Gathered-line, Gathered-refilled}
use Rattle.sedspace.proofs.lines.Lines.gather.Goals as goal

empty : (bytes : List ℕ) → length bytes ≡ 0 → bytes ≡ []
empty [] e = refl
empty (b ∷ bytes) e = absurd (omega arith)

pub loop-self-init : goal.loop-self-init
loop-self-init g c = (refl, omega (arith, c.len-start.ensures.value), refl, [], [], Gathered-start _ _ _, ReadsForBytes-none g.R.ByteSource.remaining g.R.ByteSource.reads c.args.self.now.source 0)

pub returns-in-Ok-true-clause-gathers : goal.returns-in-Ok-true-clause-gathers
returns-in-Ok-true-clause-gathers g c =
    let h = c.loop-self.invariant in
    let m = c.in-Ok-true.ensures in
    let l = m.line (ap Ok c.in-Ok-true.field-0-test) in
    (same_source g.R.ByteSource.failures c.loop-self.self c.move_ahead.new.self m.rest ∙ h.0, h.3 ++ l.0, h.4, inl (Gathered-line _ _ _ _ _ _ _ h.3 h.4 l.0 h.5 l.1 l.2 m.rest l.3))

pub returns-in-Err-clause-gathers : goal.returns-in-Err-clause-gathers
returns-in-Err-clause-gathers g c =
    let h = c.loop-self.invariant in
    let m = c.in-Err.ensures in
    let same = m.err.1 in
    let kept = m.err.0 in (
      ap (λ z. g.R.ByteSource.failures z.source) same ∙ h.0,
      h.3,
      h.4,
      rw (same, kept) h.5,
      rw kept h.1,
      rw (same, kept) m.full,
    )

pub loop-self-preserved : goal.loop-self-preserved
loop-self-preserved g c =
    let h = c.loop-self.invariant in
    let m = c.in-Ok-false.ensures in
    let a = m.all (ap Ok c.in-Ok-false.field-0-test) in
    let r = c.in-Ok-true-refill.ensures in
    let moved = Gathered-moved _ _ _ _ _ _ _ h.3 h.4 h.5 a.0 a.1 m.rest a.2 in
    let more : 0 < length c.refill.new.self.ahead = r.given.0 (search rules) in (
      r.failed ∙ (same_source g.R.ByteSource.failures c.loop-self.self c.move_ahead.new.self m.rest ∙ h.0),
      m.fits,
      r.reads.2 ∙ (same_source g.R.ByteSource.reference c.loop-self.self c.move_ahead.new.self m.rest ∙ h.2),
      _,
      _,
      Gathered-refilled _ _ _ _ _ _ _ _ moved a.1 r.left r.taken r.reads.1 r.fault (λ e. (r.unread e).1),
      ReadsForBytes-then g.R.ByteSource.remaining g.R.ByteSource.reads c.args.self.now.source c.loop-self.self.source c.move_ahead.new.self.source c.refill.new.self.source c.refill.new.self.ahead 0 h.6 (same_source (λ s. s) c.loop-self.self c.move_ahead.new.self m.rest) r.taken r.once (omega (arith, more)),
    )

pub returns-in-Ok-false-refill-clause-gathers : goal.returns-in-Ok-false-refill-clause-gathers
returns-in-Ok-false-refill-clause-gathers g c =
    let h = c.loop-self.invariant in
    let m = c.in-Ok-false.ensures in
    let a = m.all (ap Ok c.in-Ok-false.field-0-test) in
    let r = c.in-Ok-false-refill.ensures in
    let moved = Gathered-moved _ _ _ _ _ _ _ h.3 h.4 h.5 a.0 a.1 m.rest a.2 in
    let e = r.end (ap Ok c.in-Ok-false-refill.field-0-test) in
    let grown : c.move_ahead.new.space.bytes ≡ c.args.space.now.bytes ++ (h.3 ++ c.loop-self.self.ahead) = ap (λ (z : SpaceView). z.bytes) moved.space in
    let some : 0 < length (h.3 ++ c.loop-self.self.ahead) = omega (arith, ap length grown, length-append c.args.space.now.bytes (h.3 ++ c.loop-self.self.ahead), c.len-start.ensures.value, c.len.ensures.value, c.if-len-start.true) in (
      r.failed ∙ (same_source g.R.ByteSource.failures c.loop-self.self c.move_ahead.new.self m.rest ∙ h.0),
      h.3 ++ c.loop-self.self.ahead,
      _,
      inr (Gathered-refilled _ _ _ _ _ _ _ _ moved a.1 r.left r.taken r.reads.1 r.fault (λ e. (r.unread e).1), some, e.1, e.0),
    )

pub returns-in-Err-refill-clause-gathers : goal.returns-in-Err-refill-clause-gathers
returns-in-Err-refill-clause-gathers g c =
    let h = c.loop-self.invariant in
    let m = c.in-Ok-false.ensures in
    let a = m.all (ap Ok c.in-Ok-false.field-0-test) in
    let r = c.in-Err-refill.ensures in
    let moved = Gathered-moved _ _ _ _ _ _ _ h.3 h.4 h.5 a.0 a.1 m.rest a.2 in
    let quiet = same_source g.R.ByteSource.failures c.loop-self.self c.move_ahead.new.self m.rest ∙ h.0 in (
      rw (← quiet) r.failed,
      _,
      _,
      Gathered-refilled _ _ _ _ _ _ _ _ moved a.1 r.left r.taken r.reads.1 r.fault (λ e. (r.unread e).1),
      m.fits,
      r.err.0,
    )

pub returns-in-Ok-false-2-clause-gathers : goal.returns-in-Ok-false-2-clause-gathers
returns-in-Ok-false-2-clause-gathers g c =
    let h = c.loop-self.invariant in
    let m = c.in-Ok-false.ensures in
    let a = m.all (ap Ok c.in-Ok-false.field-0-test) in
    let r = c.in-Ok-false-refill.ensures in
    let moved = Gathered-moved _ _ _ _ _ _ _ h.3 h.4 h.5 a.0 a.1 m.rest a.2 in
    let e = r.end (ap Ok c.in-Ok-false-refill.field-0-test) in
    let gathered = Gathered-refilled _ _ _ _ _ _ _ _ moved a.1 r.left r.taken r.reads.1 r.fault (λ e. (r.unread e).1) in
    let grown : c.move_ahead.new.space.bytes ≡ c.args.space.now.bytes ++ (h.3 ++ c.loop-self.self.ahead) = ap (λ (z : SpaceView). z.bytes) moved.space in
    let none : h.3 ++ c.loop-self.self.ahead ≡ [] = empty (h.3 ++ c.loop-self.self.ahead) (omega (arith, ap length grown, length-append c.args.space.now.bytes (h.3 ++ c.loop-self.self.ahead), c.len-start.ensures.value, c.len.ensures.value, c.if-len-start.false)) in (
      r.failed ∙ (same_source g.R.ByteSource.failures c.loop-self.self c.move_ahead.new.self m.rest ∙ h.0),
      _,
      subst (λ part. Gathered g.R.ByteSource.remaining c.args.self.now c.refill.new.self c.args.space.now c.move_ahead.new.space part (h.4 ++ c.refill.new.self.ahead)) none gathered,
      e.1,
      e.0,
    )

pub loop-self-smaller : goal.loop-self-smaller
loop-self-smaller g c =
    let m = c.in-Ok-false.ensures in
    let a = m.all (ap Ok c.in-Ok-false.field-0-test) in
    let more : 0 < length c.refill.new.self.ahead = c.in-Ok-true-refill.ensures.given.0 (search rules) in
    omega (arith, ap (λ (z : SpaceView). length z.bytes) a.2, ap (λ (z : SpaceView). z.limit) a.2, length-append c.loop-self.space.bytes c.loop-self.self.ahead, m.fits, more)

pub returns-in-Ok-true-clause-once : goal.returns-in-Ok-true-clause-once
returns-in-Ok-true-clause-once g c =
    ReadsForBytes-same g.R.ByteSource.remaining g.R.ByteSource.reads c.args.self.now.source c.loop-self.self.source c.move_ahead.new.self.source c.loop-self.invariant.6
    (same_source (λ s. s) c.loop-self.self c.move_ahead.new.self c.in-Ok-true.ensures.rest)

pub returns-in-Err-clause-once : goal.returns-in-Err-clause-once
returns-in-Err-clause-once g c =
    ReadsForBytes-same g.R.ByteSource.remaining g.R.ByteSource.reads c.args.self.now.source c.loop-self.self.source c.move_ahead.new.self.source c.loop-self.invariant.6
    (same_source (λ s. s) c.loop-self.self c.move_ahead.new.self c.in-Err.ensures.rest)

pub returns-in-Ok-false-refill-clause-once : goal.returns-in-Ok-false-refill-clause-once
returns-in-Ok-false-refill-clause-once g c =
    ReadsForBytes-then g.R.ByteSource.remaining g.R.ByteSource.reads c.args.self.now.source c.loop-self.self.source c.move_ahead.new.self.source c.refill.new.self.source c.refill.new.self.ahead 1 c.loop-self.invariant.6
    (same_source (λ s. s) c.loop-self.self c.move_ahead.new.self c.in-Ok-false.ensures.rest) c.in-Ok-false-refill.ensures.taken c.in-Ok-false-refill.ensures.once (omega arith)

pub returns-in-Err-refill-clause-once : goal.returns-in-Err-refill-clause-once
returns-in-Err-refill-clause-once g c =
    ReadsForBytes-then g.R.ByteSource.remaining g.R.ByteSource.reads c.args.self.now.source c.loop-self.self.source c.move_ahead.new.self.source c.refill.new.self.source c.refill.new.self.ahead 1 c.loop-self.invariant.6
    (same_source (λ s. s) c.loop-self.self c.move_ahead.new.self c.in-Ok-false.ensures.rest) c.in-Err-refill.ensures.taken c.in-Err-refill.ensures.once (omega arith)

pub returns-in-Ok-false-2-clause-once : goal.returns-in-Ok-false-2-clause-once
returns-in-Ok-false-2-clause-once g c =
    ReadsForBytes-then g.R.ByteSource.remaining g.R.ByteSource.reads c.args.self.now.source c.loop-self.self.source c.move_ahead.new.self.source c.refill.new.self.source c.refill.new.self.ahead 1 c.loop-self.invariant.6
    (same_source (λ s. s) c.loop-self.self c.move_ahead.new.self c.in-Ok-false.ensures.rest) c.in-Ok-false-refill.ensures.taken c.in-Ok-false-refill.ensures.once (omega arith)
