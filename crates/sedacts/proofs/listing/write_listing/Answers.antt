use Rattle.std.proofs.Common.{◌≡◌, ◌++◌, Ok, ap, take-append-drop}
use Rattle.std.proofs.lemmas.Result.{err_from_is_err_and}
use Rattle.sedacts.specs.ListingParts.{Listing}
use Rattle.sedacts.proofs.ListingLemmas.{written_none, written_more, written_not, written_end}
use Rattle.sedacts.proofs.Writing.{Delivers-none, Delivers-then}
use Rattle.sedacts.proofs.listing.write_listing.Goals as goal

pub parts-init : goal.parts-init
parts-init g c = record {
  empty = cc;
  written = written_none (g.O.MeteredSinks.tally c.args.outputs.now) c.args.bytes.now c.new-gathered.result.column cc;
  devices = Delivers-none _ _ _;
}

pub returns-in_err-write_all : goal.returns-in_err-write_all
returns-in_err-write_all g c =
    let tally = g.O.MeteredSinks.tally in
    let l = c.parts in
    let part = c.split_at.result.0.now in
    let after = c.split_at.result.1.now in
    let split : l.rest.now ≡ part ++ after = cc (take-append-drop 169 l.rest.now) in
    let p = err_from_is_err_and c.from_residual.result c.from_residual.ensures.1 in
    let out = rw c.bytes.ensures at c.in_err-write_all.ensures.puts in
    rw (p.1, p.2) (record {
      puts = written_not (tally c.args.outputs.now) (tally l.outputs) (tally c.write_all.new.self)
          c.args.bytes.now l.rest.now part after l.gathered c.list.new.self _ l.invariant.written l.invariant.empty split
          c.list.ensures.lists out;
      devices = Delivers-then _ _ _ _ _ _ l.invariant.devices c.in_err-write_all.ensures.devices;
    })

pub parts-preserved : goal.parts-preserved
parts-preserved g c =
    let tally = g.O.MeteredSinks.tally in
    let l = c.parts in
    let part = c.split_at.result.0.now in
    let after = c.split_at.result.1.now in
    let split : l.rest.now ≡ part ++ after = cc (take-append-drop 169 l.rest.now) in
    let out = rw c.bytes.ensures at c.in_ok-write_all.ensures.puts in
    let w = written_more (tally c.args.outputs.now) (tally l.outputs) (tally c.write_all.new.self)
    c.args.bytes.now l.rest.now part after l.gathered c.list.new.self l.invariant.written l.invariant.empty split
    c.list.ensures.lists out in
    record {
      empty = ap (λ (x : Listing). x.bytes) c.clear.ensures;
      written = rw c.clear.ensures w;
      devices = Delivers-then tally g.O.MeteredSinks.count c.args.outputs.now l.outputs c.write_all.new.self (Ok tt) l.invariant.devices c.in_ok-write_all.ensures.devices;
    }

pub returns : goal.returns
returns g c =
    let tally = g.O.MeteredSinks.tally in
    let l = c.parts in
    let out = rw (c.bytes-2.ensures, c.append.ensures) at c.write_all-2.ensures.puts in
    record {
      puts = written_end (tally c.args.outputs.now) (tally l.outputs) (tally c.write_all-2.new.self) c.args.bytes.now
          l.rest.now l.gathered c.list-2.new.self c.write_all-2.result l.invariant.written l.invariant.empty
          c.list-2.ensures.lists out;
      devices = Delivers-then _ _ _ _ _ _ l.invariant.devices c.write_all-2.ensures.devices;
    }
