use Rattle.std.proofs.Common.{◌≡◌, ap, arith, length, map, rules}
use Rattle.std.proofs.lemmas.List.{length-map}
use Rattle.hosts.proofs.by_cycles.run.Goals as goal

pub first_cycles-end-requires-clause-sinks : goal.first_cycles-end-requires-clause-sinks
first_cycles-end-requires-clause-sinks c =
    let none : length c.wfiles.result.now ≡ 0 = search rules in
    let same : length (map (λ n. n.items) c.wfiles.result.now) ≡ length c.in-Ok.script.wfiles = ap length c.wfiles.ensures in
    let kept : length c.in_ok-engine.engine.script.wfiles ≡ length c.in-Ok.script.wfiles = ap (λ e. length e.script.wfiles) c.in_ok-engine.ensures in
    omega (arith, none, same, kept, length-map c.wfiles.result.now (λ n. n.items))
