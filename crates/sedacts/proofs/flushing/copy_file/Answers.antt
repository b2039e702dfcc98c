use Rattle.std.proofs.Common.{rules, ◌+◌, ◌∙◌, Ok, Err, arith}
use Rattle.std.proofs.lemmas.Result.{err_from_is_err_and}
use Rattle.std.proofs.KnownBytes.{Keeps-trans}
use Rattle.sedacts.proofs.Streams.{names_ok}
use Rattle.sedacts.proofs.DecidingGroups.{le_added}
use Rattle.sedacts.proofs.Writing.{Delivers-then}
use Rattle.sedacts.proofs.Copies.{reads_on, reads_end, put_on, copied_all, copied_spent, copied_broken}
use Rattle.sedacts.proofs.flushing.copy_file.Goals as goal

pub returns-then-count-eq0 : goal.returns-then-count-eq0
returns-then-count-eq0 g c = record {
  moves = λ setting shown s now rest later at queue turns fits same lines.
      let h = c.pieces.invariant in
      let file = c.args.file in
      let so_far = h.copied (setting.files file) (shown file) in
      let over = reads_end _ _ _ _ _ (shown file) (h.kept file) c.fill-count.ensures.progress c.if-count-eq0.true in
      rw (← queue) (copied_all setting s file rest at c.args.limits.now _ _ c.pieces.offset c.pieces.turns fits (omega arith) h.most so_far.0 over so_far.1);
  devices = record { output = c.pieces.invariant.output; input = names_ok.input };
  limit = c.fill-count.ensures.limit ∙ c.pieces.invariant.limit;
  later = le_added _ c.pieces.invariant.turns;
  within = c.pieces.invariant.most;
  kept = λ j. Keeps-trans _ _ _ (c.pieces.invariant.kept j) (c.fill-count.ensures.kept j);
}

pub returns-then-left-eq0 : goal.returns-then-left-eq0
returns-then-left-eq0 g c = record {
  moves = λ setting shown s now rest later at queue turns fits same lines.
      let h = c.pieces.invariant in
      let file = c.args.file in
      let so_far = h.copied (setting.files file) (shown file) in
      let piece = reads_on _ _ _ _ _ _ (shown file) (h.kept file) c.fill-count.ensures.bytes c.fill-count.ensures.count so_far.0 in
      copied_spent setting s file rest at c.args.limits.now now _ _ c.pieces.offset fits (omega arith) (omega (arith, piece.1)) so_far.1 same lines;
  devices = search rules;
  limit = c.fill-count.ensures.limit ∙ c.pieces.invariant.limit;
  later = le_added _ c.pieces.invariant.turns;
  within = c.pieces.invariant.most;
  kept = λ j. Keeps-trans _ _ _ (c.pieces.invariant.kept j) (c.fill-count.ensures.kept j);
}

pub returns-in_err-write_all : goal.returns-in_err-write_all
returns-in_err-write_all g c = record {
  moves = λ setting shown s now rest later at queue turns fits same lines.
      let p = err_from_is_err_and c.from_residual.result c.from_residual.ensures.1 in
      let h = c.pieces.invariant in
      let file = c.args.file in
      let so_far = h.copied (setting.files file) (shown file) in
      let piece = reads_on _ _ _ _ _ _ (shown file) (h.kept file) c.fill-count.ensures.bytes c.fill-count.ensures.count so_far.0 in
      let tally = g.O.MeteredSinks.tally in
      let put = put_on (tally c.args.outputs.now) (tally c.pieces.outputs) (tally c.write_all.new.self) _ _ _ c.fill-count.result (Err c.in_err-write_all.field-0.0) so_far.1 (c.bytes.ensures.value ∙ piece.0) c.in_err-write_all.ensures.puts in
      rw (p.1, p.2) (copied_broken setting s file rest at c.args.limits.now now _ _ (c.pieces.offset + c.fill-count.result) _ fits (omega arith) piece.1 put same lines);
  devices = search rules;
  limit = c.fill-count.ensures.limit ∙ c.pieces.invariant.limit;
  later = le_added _ c.pieces.invariant.turns;
  within = c.pieces.invariant.most;
  kept = λ j. Keeps-trans _ _ _ (c.pieces.invariant.kept j) (c.fill-count.ensures.kept j);
}

pub pieces-preserved : goal.pieces-preserved
pieces-preserved g c =
    let tally = g.O.MeteredSinks.tally in
    let h = c.pieces.invariant in
    record {
      limit = c.fill-count.ensures.limit ∙ h.limit;
      turns = omega arith;
      most = omega arith;
      kept = λ j. Keeps-trans _ _ _ (h.kept j) (c.fill-count.ensures.kept j);
      output = Delivers-then g.O.MeteredSinks.tally g.O.MeteredSinks.count c.args.outputs.now c.pieces.outputs c.write_all.new.self (Ok tt) h.output c.in_ok-write_all.ensures.devices;
      copied = λ bytes shown.
          let so_far = h.copied bytes shown in
          let piece = reads_on _ _ _ _ _ _ shown (h.kept c.args.file) c.fill-count.ensures.bytes c.fill-count.ensures.count so_far.0 in
          (piece.1, put_on (tally c.args.outputs.now) (tally c.pieces.outputs) (tally c.write_all.new.self) _ _ _ c.fill-count.result (Ok tt) so_far.1 (c.bytes.ensures.value ∙ piece.0) c.in_ok-write_all.ensures.puts);
    }
