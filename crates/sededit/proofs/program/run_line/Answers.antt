use Rattle.std.proofs.Common.{◌∙◌, ap, inl, inr, map, refl}
use Rattle.std.specs.String.{string_bytes}
use Rattle.sededit.specs.Program.{or_standard, texts_by_name}
use Rattle.sededit.proofs.RunLemmas.{Ran-from, Ready}
use Rattle.sededit.proofs.program.run_line.Goals as goal

pub returns-in-Err : goal.returns-in-Err
returns-in-Err g c =
    inl (record { says_refused = c.refuse.ensures; contents = λ k. refl; failures = λ k. refl; unread = c.in-Err.ensures.inputs; created = inl refl })

pub returns-then-not-create_files : goal.returns-then-not-create_files
returns-then-not-create_files g c =
    let f = c.create_files.ensures in
    inl (record {
      says_refused = refl;
      contents = f.contents;
      failures = f.failed;
      unread = c.in-Ok.ensures.inputs;
      created = inr (c.in-Ok.script, rw (← c.nodes.ensures.value) c.in-Ok.ensures.gives, f.first);
    })

pub returns-in-Err-name_files : goal.returns-in-Err-name_files
returns-in-Err-name_files g c =
    let f = c.create_files.ensures in
    inl (record {
      says_refused = c.out_of_memory.ensures;
      contents = f.contents;
      failures = f.failed;
      unread = c.in-Ok.ensures.inputs;
      created = inr (c.in-Ok.script, rw (← c.nodes.ensures.value) c.in-Ok.ensures.gives, f.first);
    })

pub returns-in-Err-run : goal.returns-in-Err-run
returns-in-Err-run g c =
    let f = c.create_files.ensures in
    let same = c.in-Err-run.ensures.untouched in
    inl (record {
      says_refused = c.out_of_memory-in-Err-run.ensures;
      contents = λ k. ap (λ s. g.O.Outputs.contents s k) same.1 ∙ f.contents k;
      failures = λ k. ap (λ s. g.O.Outputs.failures s k) same.1 ∙ f.failed k;
      unread = rw same.0 c.in-Ok.ensures.inputs;
      created = inr (c.in-Ok.script, rw (← c.nodes.ensures.value) c.in-Ok.ensures.gives, rw same.1 f.first);
    })

pub returns-in-Ok-run : goal.returns-in-Ok-run
returns-in-Ok-run g c =
    let f = c.create_files.ensures in
    let r = c.in-Ok.ensures in
    let names = or_standard (map string_bytes c.args.line.now.operands.items) in
    let ready : Ready (g.I.Inputs.ahead c.args.inputs.now names) (g.I.Inputs.ahead c.read_script.new.inputs (or_standard (map string_bytes c.as_slice.result.now)))
    (texts_by_name (g.N.Names.file c.args.names.now) (g.N.Texts.text c.args.names.now) c.in-Ok.script) (g.N.Texts.text c.name_files.new.names)
    (g.O.Outputs.contents c.args.sinks.now) (g.O.Outputs.contents c.create_files.new.sinks) =
    record { kept = rw c.as_slice.ensures.value (r.inputs.same_ahead names); same_texts = c.in_default.ensures; same_sinks = f.contents } in
    inr (
      c.in-Ok.script,
      rw (← c.nodes.ensures.value) r.gives,
      (
        c.in-Ok-run.ensures.names ∙ (f.all c.if-not-create_files.false).0,
        Ran-from c.args.limits c.in-Ok.script _ _ _ _ _ _ _ _ _ _ _ _ _ _ _ _ _ ready r.inputs.refused r.inputs.failed f.failed _ c.in-Ok-run.ensures.ran,
      ),
    )
