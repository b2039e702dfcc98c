use Rattle.std.proofs.Common.{◌≡◌, ◌∙◌, arith, map, sym, true}
use Rattle.std.proofs.lemmas.List.{length-map}
use Rattle.sedfiles.specs.MemorySinks.{is_created_next}
use Rattle.sedfiles.proofs.MemorySinkLemmas.{created_keeps, names_grow, next_inside}
use Rattle.sedfiles.proofs.memory_sinks.MemorySinksSinks.create.Goals as goal

pub returns-clause-names : goal.returns-clause-names
returns-clause-names c =
    let s = c.self.inside in
    let names = map (λ name. name.items) s.names.items in
    let next : is_created_next c.args.self.now c.args.name.now ≡ true = sym c.is_next.ensures ∙ c.if-not-is_next.false in
    rw (← c.self.view_is) (names_grow names s.created c.args.name.now (rw (← c.self.view_is) at next))

pub returns-clause-contents : goal.returns-clause-contents
returns-clause-contents c = λ k.
    let s = c.self.inside in
    let names = map (λ name. name.items) s.names.items in
    let next : is_created_next c.args.self.now c.args.name.now ≡ true = sym c.is_next.ensures ∙ c.if-not-is_next.false in
    let inside = next_inside names s.created c.args.name.now (rw (← c.self.view_is) at next) in
    let h = c.self.invariant in
    let long = length-map s.names.items (λ name. name.items) in
    rw (← c.self.view_is) (created_keeps (record { outputs = s.outputs; names = names; created = s.created }) k (omega (arith, inside, long, h.0)) h.2)
