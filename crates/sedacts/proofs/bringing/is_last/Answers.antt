use Rattle.std.proofs.Common.{rules, Bool, Err, ap}
use Rattle.sedacts.proofs.Streams.{kept_long, names_ok, reads_broken, reads_shown}
use Rattle.sedacts.proofs.bringing.is_last.Goals as goal

pub returns-in-Ok : goal.returns-in-Ok
returns-in-Ok g c =
    let w = c.in-Ok.ensures in
    record {
      last = search rules;
      reads = record { left = search rules; alone = reads_shown _ _ c.in-Ok.last _ names_ok w.reads w.taken w.fault w.failed };
    }

pub returns-in-Err : goal.returns-in-Err
returns-in-Err g c =
    let w = c.in-Err.ensures in
    record {
      last = λ sound ls known. tt;
      reads = record {
        left = search rules;
        alone = reads_broken Bool _ c.in-Err.field-0 (kept_long Bool w.too_long) w.reads w.taken w.failed (λ is. w.broken (ap Err is));
      };
    }
