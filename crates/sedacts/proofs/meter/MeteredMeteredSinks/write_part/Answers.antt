use Rattle.std.proofs.Common.{◌≡◌, ◌<◌, ◌≤◌, length, take, refl, arith, rules, take-take, length-take-le}
use Rattle.std.proofs.Math.Seq.{take-length}
use Rattle.sedacts.proofs.Sending.{WereSent-one, below_both}
use Rattle.sedacts.proofs.meter.MeteredMeteredSinks.write_part.Goals as goal

pub returns-in-Err : goal.returns-in-Err
returns-in-Err g c =
    let w = c.in-Err.ensures in
    let a = c.add.ensures in
    let bytes = c.args.bytes.now in
    let room = c.room-room.result in
    let done = c.in-Err.done in
    let most : room ≤ length bytes = c.room-room.ensures.most in
    let less : done < room = omega (arith, w.part, length-take-le room bytes most) in
    let piece = take-take done room bytes (omega arith) in
    let long = length-take-le done bytes (omega arith) in
    record {
      puts = (omega (arith, less, most), refl, WereSent-one _ _ c.args.sink (take done bytes) (rw piece at w.appends) w.others (rw long a.counts) a.others);
      devices = search rules;
    }

pub returns-then-room-bytes : goal.returns-then-room-bytes
returns-then-room-bytes g c =
    let w = c.in_default.ensures in
    let a = c.add-2.ensures in
    let bytes = c.args.bytes.now in
    let room = c.room-room.result in
    let long = length-take-le room bytes c.room-room.ensures.most in
    record {
      puts = (c.if-room-bytes.true, refl, WereSent-one _ _ c.args.sink (take room bytes) w.appends w.others (rw long a.counts) a.others);
      devices = search rules;
    }

pub returns : goal.returns
returns g c =
    let w = c.in_default.ensures in
    let a = c.add-2.ensures in
    let bytes = c.args.bytes.now in
    let room = c.room-room.result in
    let all : room ≡ length bytes = omega (arith, c.room-room.ensures.most, c.if-room-bytes.false) in
    record {
      puts = WereSent-one _ _ c.args.sink bytes (rw (all, take-length) at w.appends) w.others (rw all at a.counts) a.others;
      devices = search rules;
    }

pub room-room-requires : goal.room-room-requires
room-room-requires g c = (below_both c.requires).0

pub write_all-requires : goal.write_all-requires
write_all-requires g c = (below_both c.requires).1

pub add-requires-clause-sink : goal.add-requires-clause-sink
add-requires-clause-sink g c = (below_both c.requires).0

pub add-requires-2-clause-sink : goal.add-requires-2-clause-sink
add-requires-2-clause-sink g c = (below_both c.requires).0
