use Rattle.std.proofs.Common.{◌∷◌, ◌∙◌, Ok, Err, drop, refl, arith}
use Rattle.std.proofs.KnownBytes.{Keeps-refl, Keeps-trans}
use Rattle.std.proofs.lemmas.Result.{err_from_is_err_and}
use Rattle.sedacts.specs.State.{flush, MachineState}
use Rattle.sedacts.specs.Keeping.{entries_of}
use Rattle.sedacts.proofs.Writing.{Delivers-none, Delivers-then}
use Rattle.sedacts.proofs.Moves.{same_self}
use Rattle.sedacts.proofs.Queueing.{queued_at, entries_left, entries_none, entries_fewer}
use Rattle.sedacts.proofs.Entries.{gives_on, at_entries, fits_later, same_later, reached_more, reached_last, flush_begun, flush_done}
use Rattle.sedacts.proofs.Streams.{names_ok}
use Rattle.sedacts.proofs.flushing.flush_queue.Goals as goal

pub loop-index-init : goal.loop-index-init
loop-index-init g c = record {
  limit = refl;
  later = omega arith;
  most = c.requires.before;
  kept = λ j. Keeps-refl _;
  output = Delivers-none _ _ _;
  reached = λ setting shown s rest at queue turns fits. flush_begun c.args.limits.now setting s _ rest _ _ at queue turns fits;
}

pub write_entry-requires-clause-queued : goal.write_entry-requires-clause-queued
write_entry-requires-clause-queued g c = rw c.entry.ensures (queued_at c.args.script.now c.args.queue.now.items c.loop-index.index c.requires.queued (omega arith))

pub returns-in_err-write_entry : goal.returns-in_err-write_entry
returns-in_err-write_entry g c =
    let p = err_from_is_err_and c.from_residual.result c.from_residual.ensures.1 in
    let tally = g.O.MeteredSinks.tally in
    let script = c.args.script.now in
    let items = c.args.queue.now.items in
    let h = c.loop-index.invariant in
    let w = c.in_err-write_entry.ensures in
    rw (p.1, p.2) (record {
      moves = λ setting shown s now rest rest_entries at queue turns fits same lines.
          let later = entries_of script (drop c.loop-index.index items) in
          let m : MachineState = at_entries s later (flush ∷ rest) c.loop-index.turns in
          let fewer = entries_fewer script items c.loop-index.index s.queue queue in
          let left = entries_left script items c.loop-index.index c.entry.result (omega arith) c.entry.ensures in
          let call = w.moves setting (gives_on _ _ _ shown h.kept) m now rest _ refl left refl
          (fits_later c.args.limits.now s later (flush ∷ rest) c.loop-index.turns fits fewer h.most) (same_later s now later rest c.loop-index.turns same fewer) lines in
          reached_last c.args.limits.now setting s m now (tally c.args.outputs.now) (tally c.loop-index.outputs) (tally c.write_entry.new.outputs) (Err c.in_err-write_entry.field-0.0)
          (h.reached setting shown s rest at queue turns fits) call;
      devices = record {
        output = Delivers-then g.O.MeteredSinks.tally g.O.MeteredSinks.count c.args.outputs.now c.loop-index.outputs c.write_entry.new.outputs (Err c.in_err-write_entry.field-0.0) h.output w.devices.output;
        input = w.devices.input;
      };
      limit = w.limit ∙ h.limit;
      later = omega (arith, h.later, w.later);
      within = w.within;
      kept = λ j. Keeps-trans _ _ _ (h.kept j) (w.kept j);
    })

pub loop-index-preserved : goal.loop-index-preserved
loop-index-preserved g c =
    let tally = g.O.MeteredSinks.tally in
    let script = c.args.script.now in
    let items = c.args.queue.now.items in
    let h = c.loop-index.invariant in
    let e = c.in_ok-write_entry.ensures in
    record {
      limit = e.limit ∙ h.limit;
      later = omega (arith, e.later);
      most = e.within;
      kept = λ j. Keeps-trans _ _ _ (h.kept j) (e.kept j);
      output = Delivers-then g.O.MeteredSinks.tally g.O.MeteredSinks.count c.args.outputs.now c.loop-index.outputs c.write_entry.new.outputs (Ok tt) h.output e.devices.output;
      reached = λ setting shown s rest at queue turns fits.
          let later = entries_of script (drop c.loop-index.index items) in
          let m : MachineState = at_entries s later (flush ∷ rest) c.loop-index.turns in
          let fewer = entries_fewer script items c.loop-index.index s.queue queue in
          let left = entries_left script items c.loop-index.index c.entry.result (omega arith) c.entry.ensures in
          let call = e.moves setting (gives_on _ _ _ shown h.kept) m m rest _ refl left refl
          (fits_later c.args.limits.now s later (flush ∷ rest) c.loop-index.turns fits fewer h.most) (same_self m) refl in
          reached_more c.args.limits.now setting s m _ (tally c.args.outputs.now) (tally c.loop-index.outputs) (tally c.write_entry.new.outputs)
          (h.reached setting shown s rest at queue turns fits) call refl;
    }

pub returns : goal.returns
returns g c =
    let h = c.loop-index.invariant in
    record {
      moves = λ setting shown s now rest rest_entries at queue turns fits same lines.
          flush_done c.args.limits.now setting s _ rest c.loop-index.turns _ _ fits h.most (entries_none c.args.script.now c.args.queue.now.items c.loop-index.index (omega arith))
          (h.reached setting shown s rest at queue turns fits);
      devices = record { output = h.output; input = names_ok.input };
      limit = h.limit;
      later = h.later;
      within = h.most;
      kept = h.kept;
    }

pub write_entry-requires-clause-room : goal.write_entry-requires-clause-room
write_entry-requires-clause-room g c = λ some. c.loop-index.invariant.limit ∙ c.requires.room some
