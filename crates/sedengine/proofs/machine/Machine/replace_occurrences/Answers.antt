use Rattle.std.proofs.Common.{◌∙◌, Some, Ok, Err, ap, true, false, length, refl, rules, sym}
use Rattle.sedspace.specs.Spaces.{SpaceView}
use Rattle.sedacts.specs.Steps.{reaches}
use Rattle.sedacts.specs.Run.{RunState, at_lines}
use Rattle.sedacts.proofs.Fitting.{sought, sought_at}
use Rattle.sedacts.proofs.Streams.{names_long, names_ok}
use Rattle.sedengine.proofs.SubstituteMoves.{fits_build, fits_scratch, fits_seeking, limit_exchanged, made_by, made_exchanged, makes_full, makes_none, makes_some, one_sought, replaced_is_run, room_kept, some_substitution, stands}
use Rattle.sedengine.proofs.Tried.{matchers_kept, replaces_by, within_by}
use Rattle.sedengine.proofs.machine.Machine.replace_occurrences.Goals as goal

pub returns-in_default : goal.returns-in_default
returns-in_default c = record {
  makes = λ t is files ls.
      (rw (stands c.self.inside c.args.self.now c.args.k c.or.result t c.substitution-substitution.result.now c.self.view_is is c.substitution-substitution.ensures.is c.or.ensures ∙ c.in_default.is) refl, ap (λ (e : RunState). e.state.number) c.self.view_is);
  err = refl;
  devices = record { output = tt; input = λ is. cc };
  fits = rw (← c.self.view_is) c.self.invariant.pattern;
  same = refl;
}

pub index_mut-requires : goal.index_mut-requires
index_mut-requires c =
    let a = c.self.inside in
    let i = c.self.invariant in
    let inside = within_by (length a.script.expressions) c.substitution-substitution.result.now.expression a.used c.in-Some.e c.substitution-substitution.ensures.within.expression i.used c.in-Some.ensures in
    let there = sought_at a.script.expressions a.limits.nodes a.matchers.items c.in-Some.e i.matchers inside in
    search (rules, there)

pub build_text-built-requires : goal.build_text-built-requires
build_text-built-requires c = record {
  fits = let a = c.self.inside in
      let i = c.self.invariant in
      let inside = within_by (length a.script.expressions) c.substitution-substitution.result.now.expression a.used c.in-Some.e c.substitution-substitution.ensures.within.expression i.used c.in-Some.ensures in
      fits_scratch a i c.bytes.result.now c.bytes.ensures.value c.in-Some.e c.index_mut.result.now inside c.index_mut.ensures.value;
  short = let a = c.self.inside in
      let i = c.self.invariant in
      let some = some_substitution a c.args.self.now c.args.k c.self.view_is c.requires.number in
      fits_build a i c.bytes.result.now c.bytes.ensures.value some;
  number = search rules;
  serves = let a = c.self.inside in
      let i = c.self.invariant in
      let some = some_substitution a c.args.self.now c.args.k c.self.view_is c.requires.number in
      let inside = within_by (length a.script.expressions) c.substitution-substitution.result.now.expression a.used c.in-Some.e c.substitution-substitution.ensures.within.expression i.used c.in-Some.ensures in
      c.begin.ensures.serves c.bytes.result.now a.script.expressions c.index_mut.result.now (one_sought a c.in-Some.e c.index_mut.result.now i inside c.index_mut.ensures.value)
      (fits_seeking a i c.bytes.result.now c.bytes.ensures.value some);
}

pub invariant_of-self : goal.invariant_of-self
invariant_of-self c =
    let a = c.self.inside in
    let i = c.self.invariant in
    let some = some_substitution a c.args.self.now c.args.k c.self.view_is c.requires.number in
    let inside = within_by (length a.script.expressions) c.substitution-substitution.result.now.expression a.used c.in-Some.e c.substitution-substitution.ensures.within.expression i.used c.in-Some.ensures in
    let w = c.build_text-built.ensures in
    let m = c.index_mut.result.now in
    replaced_is_run a _ _ _ _ _ _ c.in-Some.e true i (ap (λ (e : RunState). reaches e.state.tasks) c.self.view_is ∙ c.requires.at) inside
    (limit_exchanged a c.swap.new.self c.build_text-built.new.build i some c.swap.ensures.here w.limit) (rw c.swap.ensures.here c.is_within.ensures)
    (ap (λ (s : SpaceView). s.limit) c.swap.ensures.there ∙ i.pattern_limit ∙ sym (i.build_limit some)) w.same.1
    (room_kept a c.in-Some.e m c.begin.new.self _ i (one_sought a c.in-Some.e m i inside c.index_mut.ensures.value) c.begin.ensures.room c.begin.ensures.number w.kept)
    (matchers_kept a.matchers.items c.in-Some.e m c.build_text-built.new.matcher c.index_mut.ensures.value w.same.0)

pub invariant_of-self-in-Ok-false : goal.invariant_of-self-in-Ok-false
invariant_of-self-in-Ok-false c =
    let a = c.self.inside in
    let i = c.self.invariant in
    let inside = within_by (length a.script.expressions) c.substitution-substitution.result.now.expression a.used c.in-Some.e c.substitution-substitution.ensures.within.expression i.used c.in-Some.ensures in
    let w = c.build_text-built.ensures in
    let m = c.index_mut.result.now in
    replaced_is_run a _ _ _ _ _ _ c.in-Some.e a.replaced i (ap (λ (e : RunState). reaches e.state.tasks) c.self.view_is ∙ c.requires.at) inside
    refl (rw i.pattern_limit i.pattern) w.limit w.same.1
    (room_kept a c.in-Some.e m c.begin.new.self _ i (one_sought a c.in-Some.e m i inside c.index_mut.ensures.value) c.begin.ensures.room c.begin.ensures.number w.kept)
    (matchers_kept a.matchers.items c.in-Some.e m c.build_text-built.new.matcher c.index_mut.ensures.value w.same.0)

pub invariant_of-self-in-Err : goal.invariant_of-self-in-Err
invariant_of-self-in-Err c =
    let a = c.self.inside in
    let i = c.self.invariant in
    let inside = within_by (length a.script.expressions) c.substitution-substitution.result.now.expression a.used c.in-Some.e c.substitution-substitution.ensures.within.expression i.used c.in-Some.ensures in
    let w = c.build_text-built.ensures in
    let m = c.index_mut.result.now in
    replaced_is_run a _ _ _ _ _ _ c.in-Some.e a.replaced i (ap (λ (e : RunState). reaches e.state.tasks) c.self.view_is ∙ c.requires.at) inside
    refl (rw i.pattern_limit i.pattern) w.limit w.same.1
    (room_kept a c.in-Some.e m c.begin.new.self _ i (one_sought a c.in-Some.e m i inside c.index_mut.ensures.value) c.begin.ensures.room c.begin.ensures.number w.kept)
    (matchers_kept a.matchers.items c.in-Some.e m c.build_text-built.new.matcher c.index_mut.ensures.value w.same.0)

pub returns-in-Ok-true : goal.returns-in-Ok-true
returns-in-Ok-true c = record {
  makes = λ t is files ls.
      let a = c.self.inside in
      let i = c.self.invariant in
      let some = some_substitution a c.args.self.now c.args.k c.self.view_is c.requires.number in
      let inside = within_by (length a.script.expressions) c.substitution-substitution.result.now.expression a.used c.in-Some.e c.substitution-substitution.ensures.within.expression i.used c.in-Some.ensures in
      let there = sought_at a.script.expressions a.limits.nodes a.matchers.items c.in-Some.e i.matchers inside in
      let u = c.substitution-substitution.result.now in
      let all = replaces_by a.matchers.items c.in-Some.e c.index_mut.result.now c.bytes.result.now u a.build.limit c.build_text-built.new.build.bytes (Ok true) there c.index_mut.ensures.value (rw c.in-Ok-true.field-0-test at c.in-Ok-true.ensures.replaces) in
      let made = made_by a i c.bytes.result.now c.bytes.ensures.value a.matchers.items c.args.k c.in-Some.e u c.swap.new.self a.build.limit c.build_text-built.new.build.bytes (Ok true) c.substitution-substitution.ensures.is (made_exchanged a c.swap.new.self c.build_text-built.new.build i some c.swap.ensures.here c.build_text-built.ensures.limit) all in
      rw (stands a c.args.self.now c.args.k (Some c.in-Some.e) t c.substitution-substitution.result.now c.self.view_is is c.substitution-substitution.ensures.is c.in-Some.ensures)
      (makes_some a c.args.self.now c.self.view_is a.matchers.items (sought a.script.expressions a.limits.nodes a.matchers.items i.matchers) c.args.k c.in-Some.e files ls t c.swap.new.self is made);
  err = tt;
  devices = names_ok;
  fits = let a = c.self.inside in
      let i = c.self.invariant in
      let some = some_substitution a c.args.self.now c.args.k c.self.view_is c.requires.number in
      rw c.swap.ensures.here (rw (c.build_text-built.ensures.limit, i.build_limit some) at c.is_within.ensures);
  same = search rules;
}

pub returns-in-Ok-false : goal.returns-in-Ok-false
returns-in-Ok-false c = record {
  makes = λ t is files ls.
      let a = c.self.inside in
      let i = c.self.invariant in
      let inside = within_by (length a.script.expressions) c.substitution-substitution.result.now.expression a.used c.in-Some.e c.substitution-substitution.ensures.within.expression i.used c.in-Some.ensures in
      let there = sought_at a.script.expressions a.limits.nodes a.matchers.items c.in-Some.e i.matchers inside in
      let u = c.substitution-substitution.result.now in
      let all = replaces_by a.matchers.items c.in-Some.e c.index_mut.result.now c.bytes.result.now u a.build.limit c.build_text-built.new.build.bytes (Ok false) there c.index_mut.ensures.value (rw c.in-Ok-false.field-0-test at c.in-Ok-false.ensures.replaces) in
      let made = made_by a i c.bytes.result.now c.bytes.ensures.value a.matchers.items c.args.k c.in-Some.e u a.pattern a.build.limit c.build_text-built.new.build.bytes (Ok false) c.substitution-substitution.ensures.is refl all in
      rw (stands a c.args.self.now c.args.k (Some c.in-Some.e) t c.substitution-substitution.result.now c.self.view_is is c.substitution-substitution.ensures.is c.in-Some.ensures)
      (makes_none a c.args.self.now c.self.view_is a.matchers.items (sought a.script.expressions a.limits.nodes a.matchers.items i.matchers) c.args.k c.in-Some.e files ls t a.pattern is made);
  err = tt;
  devices = names_ok;
  fits = c.self.invariant.pattern;
  same = search rules;
}

pub returns-in-Err : goal.returns-in-Err
returns-in-Err c = record {
  makes = λ t is files ls.
      let a = c.self.inside in
      let i = c.self.invariant in
      let some = some_substitution a c.args.self.now c.args.k c.self.view_is c.requires.number in
      let inside = within_by (length a.script.expressions) c.substitution-substitution.result.now.expression a.used c.in-Some.e c.substitution-substitution.ensures.within.expression i.used c.in-Some.ensures in
      let there = sought_at a.script.expressions a.limits.nodes a.matchers.items c.in-Some.e i.matchers inside in
      let u = c.substitution-substitution.result.now in
      let all = replaces_by a.matchers.items c.in-Some.e c.index_mut.result.now c.bytes.result.now u a.build.limit c.build_text-built.new.build.bytes (Err c.in-Err.field-0) there c.index_mut.ensures.value c.in-Err.ensures.replaces in
      let made = made_by a i c.bytes.result.now c.bytes.ensures.value a.matchers.items c.args.k c.in-Some.e u a.pattern a.build.limit c.build_text-built.new.build.bytes (Err c.in-Err.field-0) c.substitution-substitution.ensures.is (i.build_limit some ∙ sym i.pattern_limit) all in
      rw (stands a c.args.self.now c.args.k (Some c.in-Some.e) t c.substitution-substitution.result.now c.self.view_is is c.substitution-substitution.ensures.is c.in-Some.ensures)
      (makes_full a c.args.self.now c.self.view_is a.matchers.items (sought a.script.expressions a.limits.nodes a.matchers.items i.matchers) c.args.k c.in-Some.e files ls t a.pattern (at_lines c.args.self.now ls) c.in-Err.field-0 i.pattern_limit is made);
  err = ap (λ (e : RunState). e.state.pattern) c.self.view_is;
  devices = names_long;
  fits = c.self.invariant.pattern;
  same = search rules;
}
