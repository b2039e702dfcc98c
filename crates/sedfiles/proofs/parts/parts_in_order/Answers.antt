use Rattle.std.proofs.Common.{◌≡◌, ◌∙◌, map, rules, sym, arith}
use Rattle.std.proofs.lemmas.List.{length-map}
use Rattle.sedfiles.specs.CommandLineParts.{given, in_order, texts_in}
use Rattle.sedfiles.proofs.PartsLemmas.{all_made, are_parts, file_added, script_added, some_below}
use Rattle.sedfiles.proofs.parts.parts_in_order.Goals as goal

pub loop-scripted-preserved-then-comes_first : goal.loop-scripted-preserved-then-comes_first
loop-scripted-preserved-then-comes_first c =
    let h = c.loop-scripted.invariant in
    record {
      all = rw c.push_reserved.ensures.items (script_added _ _ _ _ c.loop-scripted.scripted c.loop-scripted.filed _ _ _ _ c.word.ensures (sym c.comes_first.ensures ∙ c.if-comes_first.true) (search rules) h.all);
      scripts = omega (arith, some_below (texts_in c.args.scripts) c.loop-scripted.scripted _ c.word.ensures, length-map c.args.scripts.words.now (λ s. s.now));
      files = h.files;
      count = omega (arith, h.count, c.push_reserved.ensures.len);
      room = omega (arith, h.room, c.push_reserved.ensures.capacity);
    }

pub loop-scripted-preserved : goal.loop-scripted-preserved
loop-scripted-preserved c =
    let h = c.loop-scripted.invariant in
    record {
      all = rw c.push_reserved-else-comes_first.ensures.items (file_added _ _ _ _ c.loop-scripted.scripted c.loop-scripted.filed _ _ _ _ c.word-else-comes_first.ensures (sym c.comes_first.ensures ∙ c.if-comes_first.false) (search rules) h.all);
      scripts = h.scripts;
      files = omega (arith, some_below (texts_in c.args.files) c.loop-scripted.filed _ c.word-else-comes_first.ensures, length-map c.args.files.words.now (λ s. s.now));
      count = omega (arith, h.count, c.push_reserved-else-comes_first.ensures.len);
      room = omega (arith, h.room, c.push_reserved-else-comes_first.ensures.capacity);
    }

pub returns-clause-all : goal.returns-clause-all
returns-clause-all c =
    let scripts = c.args.scripts in
    let files = c.args.files in
    let made : map given c.loop-scripted.parts.items ≡ in_order (texts_in scripts) scripts.places.now (texts_in files) files.places.now =
    all_made _ (texts_in scripts) scripts.places.now (texts_in files) files.places.now c.loop-scripted.scripted c.loop-scripted.filed
    (omega (arith, length-map scripts.words.now (λ s. s.now))) (omega (arith, length-map files.words.now (λ s. s.now))) c.loop-scripted.invariant.all in
    are_parts _ (texts_in scripts) scripts.places.now (texts_in files) files.places.now made

pub push_reserved-requires : goal.push_reserved-requires
push_reserved-requires c =
    let h = c.loop-scripted.invariant in
    omega (arith, h.count, h.room, h.files, some_below (texts_in c.args.scripts) c.loop-scripted.scripted _ c.word.ensures, length-map c.args.scripts.words.now (λ s. s.now))

pub push_reserved-requires-else-comes_first : goal.push_reserved-requires-else-comes_first
push_reserved-requires-else-comes_first c =
    let h = c.loop-scripted.invariant in
    omega (arith, h.count, h.room, h.scripts, some_below (texts_in c.args.files) c.loop-scripted.filed _ c.word-else-comes_first.ensures, length-map c.args.files.words.now (λ s. s.now))
