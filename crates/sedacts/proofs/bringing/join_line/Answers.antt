use Rattle.std.proofs.Common.{◌<◌, ◌∷◌, [], ◌++◌, Ok, Err, refl, length, subst, sym, ap, arith, length-append}
use Rattle.std.proofs.lemmas.Result.{err_from_is_err_and}
use Rattle.sedspace.specs.Spaces.{SpaceView}
use Rattle.sedspace.specs.declared.lines.Got.TheVariants.{End, Line}
use Rattle.sedacts.specs.Move.{newline}
use Rattle.sedacts.specs.Bringing.{BringsNext}
use Rattle.sedacts.proofs.BroughtLines.{brings_none, brings_too_long, brings_broken, joins_line, joins_none, no_line_at_end, no_line_stopped}
use Rattle.sedacts.proofs.Streams.{names_long, names_ok, reads_on, ReadsAlone-ended}
use Rattle.sedacts.proofs.bringing.join_line.Goals as goal

pub returns-then-branch : goal.returns-then-branch
returns-then-branch g c = record {
  brings = λ sound ls known.
      let w = c.in_ok-is_last.ensures in
      rw c.in-Err.ensures.err (brings_none g.R.ByteSource.remaining c.args.lines.now c.is_last.new.lines ls (c.args.space.now.bytes ++ newline ∷ []) c.args.number c.args.space.now c.in_ok-is_last.field-0 (w.reads.left ls known) (w.last sound ls known) c.if-branch.true);
  reads = reads_on c.in_ok-is_last.field-0 _ names_ok c.in_ok-is_last.ensures.reads.alone;
  limit = ap (λ (s : SpaceView). s.limit) c.in-Err.ensures.err;
  fits = λ short. rw c.in-Err.ensures.err short;
  stays = λ other. c.in-Err.ensures.err;
}

pub returns-in-Err : goal.returns-in-Err
returns-in-Err g c = record {
  brings = λ sound ls known.
      let w = c.in_ok-is_last.ensures in
      let full = c.in-Err.ensures.full in
      let more : c.args.space.now.limit < length (c.args.space.now.bytes ++ newline ∷ []) = omega (arith, length-append c.args.space.now.bytes (newline ∷ [])) in
      rw c.in-Err.ensures.err (brings_too_long g.R.ByteSource.remaining c.args.lines.now c.is_last.new.lines ls (c.args.space.now.bytes ++ newline ∷ []) c.args.number c.args.space.now c.in_ok-is_last.field-0 (w.reads.left ls known) (w.last sound ls known) c.if-branch.false more);
  reads = reads_on c.in_ok-is_last.field-0 _ names_long c.in_ok-is_last.ensures.reads.alone;
  limit = ap (λ (s : SpaceView). s.limit) c.in-Err.ensures.err;
  fits = λ short. rw c.in-Err.ensures.err short;
  stays = λ other. c.in-Err.ensures.err;
}

pub returns-in_err-is_last : goal.returns-in_err-is_last
returns-in_err-is_last g c =
    let p = err_from_is_err_and c.from_residual.result c.from_residual.ensures.1 in
    record {
      brings = λ sound ls known.
          let w = c.in_err-is_last.ensures in
          let Q : SpaceView → Type 0 = λ s. BringsNext g.R.ByteSource.remaining c.args.lines.now c.is_last.new.lines ls (c.args.space.now.bytes ++ newline ∷ []) c.args.number c.args.space.now s (Err c.in_err-is_last.field-0.0) in
          rw (p.1, p.2) (subst Q (sym c.in-Err.ensures.err) (brings_broken g.R.ByteSource.remaining c.args.lines.now c.is_last.new.lines ls (c.args.space.now.bytes ++ newline ∷ []) c.args.number c.args.space.now c.in_err-is_last.field-0.0 (w.reads.left ls known) (w.last sound ls known)));
      reads = rw (p.1, p.2) (ReadsAlone-ended c.in_err-is_last.field-0.0 c.in_err-is_last.ensures.reads.alone);
      limit = ap (λ (s : SpaceView). s.limit) c.in-Err.ensures.err;
      fits = λ short. rw c.in-Err.ensures.err short;
      stays = λ other. c.in-Err.ensures.err;
    }

pub returns-in-Ok-Line : goal.returns-in-Ok-Line
returns-in-Ok-Line g c =
    let w = rw c.in-Ok-Line.field-0-is at c.in-Ok-Line.ensures in
    joins_line _ _ _ _ _ c.args.number c.args.space.now c.append.new.self c.bring_line.new.space (Ok Line) c.in_default.ensures.ok w refl c.in_default.ensures.fits

pub returns-in-Ok-End : goal.returns-in-Ok-End
returns-in-Ok-End g c =
    let w = rw c.in-Ok-End.field-0-is at c.in-Ok-End.ensures in
    joins_none _ _ _ _ _ c.args.number c.args.space.now c.append.new.self c.bring_line.new.space (Ok End) c.in_default.ensures.ok w
    c.truncate.new.self c.len-len.result c.len-len.ensures.value c.truncate.ensures no_line_at_end

pub returns-in-Err-bring_line : goal.returns-in-Err-bring_line
returns-in-Err-bring_line g c =
    joins_none _ _ _ _ _ c.args.number c.args.space.now c.append.new.self c.bring_line.new.space (Err c.in-Err-bring_line.end) c.in_default.ensures.ok c.in-Err-bring_line.ensures
    c.truncate-in-Err-bring_line.new.self c.len-len.result c.len-len.ensures.value c.truncate-in-Err-bring_line.ensures (no_line_stopped c.in-Err-bring_line.end)
