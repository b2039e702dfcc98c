use Rattle.std.proofs.Common.{Err, Ok, ap}
use Rattle.sedspace.specs.declared.lines.Got.{Got}
use Rattle.sedspace.specs.Spaces.{SpaceView}
use Rattle.sedacts.proofs.BroughtLines.{brings_got, brings_long, got_limit, got_stays}
use Rattle.sedacts.proofs.Streams.{broken_long, names_long, names_ok, reads_broken, reads_long, reads_shown}
use Rattle.sedacts.proofs.bringing.bring_line.Goals as goal

pub returns-in-Ok : goal.returns-in-Ok
returns-in-Ok g c = record {
  brings = λ sound ls known.
      let w = c.in-Ok.ensures in
      brings_got g.R.ByteSource.remaining c.args.lines.now c.next_into.new.self ls c.args.number _ c.args.space.now c.next_into.new.space c.in-Ok.got known
      (λ is. w.line (ap Ok is)) w.fits (λ is. let e = w.end (ap Ok is) in (e.0, e.1, e.2)) w.taken;
  reads = let w = c.in-Ok.ensures in
      reads_shown _ _ c.in-Ok.got _ names_ok w.reads w.taken w.fault w.failed;
  limit = let w = c.in-Ok.ensures in
      got_limit c.args.space.now c.next_into.new.space c.in-Ok.got (λ is. let h = w.line (ap Ok is) in (h.0, h.1)) (λ is. (w.end (ap Ok is)).0);
  fits = λ short. c.in-Ok.ensures.fits;
  stays = λ other.
      let w = c.in-Ok.ensures in
      got_stays c.args.space.now c.next_into.new.space c.in-Ok.got (λ is. let h = w.line (ap Ok is) in (h.0, h.1)) (λ is. (w.end (ap Ok is)).0) other;
}

pub returns-in-Err-TooLong : goal.returns-in-Err-TooLong
returns-in-Err-TooLong g c = record {
  brings = λ sound ls known.
      let w = c.in-Err-TooLong.ensures in
      brings_long g.R.ByteSource.remaining c.args.lines.now c.next_into.new.self ls c.args.number c.args.space.now c.next_into.new.space known (w.too_long (ap Err c.in-Err-TooLong.field-0-is) sound) w.err;
  reads = let w = c.in-Err-TooLong.ensures in
      reads_long Got _ c.in-Err-TooLong.field-0 _ c.in-Err-TooLong.field-0-is names_long w.reads w.taken w.failed;
  limit = ap (λ (s : SpaceView). s.limit) c.in-Err-TooLong.ensures.err.0;
  fits = λ short. rw c.in-Err-TooLong.ensures.err.0 short;
  stays = λ other. c.in-Err-TooLong.ensures.err.0;
}

pub returns-in-Err-Broken : goal.returns-in-Err-Broken
returns-in-Err-Broken g c = record {
  brings = λ sound ls known. let w = c.in-Err-Broken.ensures.err in (w.0, w.1);
  reads = let w = c.in-Err-Broken.ensures in
      reads_broken Got _ c.in-Err-Broken.field-0 (broken_long c.in-Err-Broken.field-0-is) w.reads w.taken w.failed (λ is sound. (w.broken (ap Err is) sound).0);
  limit = ap (λ (s : SpaceView). s.limit) c.in-Err-Broken.ensures.err.0;
  fits = λ short. rw c.in-Err-Broken.ensures.err.0 short;
  stays = λ other. c.in-Err-Broken.ensures.err.0;
}
