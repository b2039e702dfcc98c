use Rattle.std.proofs.Common.{◌∙◌, ap, sym, ◌≡◌, ◌<◌, length, map, refl, arith}
use Rattle.std.proofs.lemmas.List.{length-map}
use Rattle.std.specs.String.{string_bytes}
use Rattle.sedfiles.proofs.JoinLemmas.{name_at, next_opened}
use Rattle.sedfiles.proofs.joined.Joined.open_next.Goals as goal

pub returns-clause-opened : goal.returns-clause-opened
returns-clause-opened g c =
    let s = c.self.inside in
    let name = c.as_str-name.result.now in
    let at = name_at s.names.now s.next c.index-self-self.result name c.index-self-self.is (c.as_str-name.ensures.value ∙ ap string_bytes (sym c.index-self-self.is)) in
    let inside : s.next < length (map string_bytes s.names.now) = omega (arith, length-map s.names.now string_bytes) in
    let same : length s.missed.items ≡ length (map string_bytes s.names.now) = omega (arith, length-map s.names.now string_bytes) in
    λ _. next_opened g.I.Inputs.current g.I.Inputs.ahead _ _ _ _ s.missed.items s.next _ c.open-is_open.result c.self.view_is refl refl inside same at refl refl refl refl c.open-is_open.ensures.opens
