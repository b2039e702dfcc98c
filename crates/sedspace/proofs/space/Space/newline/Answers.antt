use Rattle.std.proofs.Common.{◌≡◌, ◌∙◌, sym, ap, Some, None, drop, take, position}
use Rattle.sedspace.specs.Lines.{is_newline}
use Rattle.sedspace.proofs.ClearLemmas.{newline_at, newline_past, no_newline_past, rest_is}
use Rattle.sedspace.proofs.space.Space.newline.Goals as goal

pub returns : goal.returns
returns c =
    let s = c.self.inside in
    let bytes = drop s.front (take s.end s.held.items) in
    let clear = c.self.invariant.5 in
    let found : Some c.in_ok-at.at ≡ position is_newline (drop s.clear_first bytes) = rw (c.bytes-bytes.ensures.value, ← c.self.view_is, rest_is s.clear_first bytes) at c.in_ok-at.ensures in
    rw (← c.self.view_is) (newline_past bytes s.clear_first c.in_ok-at.at clear.first_within clear.first_clear found)

pub returns-in_err-at : goal.returns-in_err-at
returns-in_err-at c =
    let none : c.from_residual.result ≡ None = cc in
    let s = c.self.inside in
    let bytes = drop s.front (take s.end s.held.items) in
    let clear = c.self.invariant.5 in
    let found : None ≡ position is_newline (drop s.clear_first bytes) = rw (c.bytes-bytes.ensures.value, ← c.self.view_is, rest_is s.clear_first bytes) at c.in_err-at.ensures in
    rw (none, ← c.self.view_is) (no_newline_past bytes s.clear_first clear.first_within clear.first_clear found)

pub returns-then-bytes-first-eq10 : goal.returns-then-bytes-first-eq10
returns-then-bytes-first-eq10 c =
    let s = c.self.inside in
    let bytes = drop s.front (take s.end s.held.items) in
    let same : c.bytes-bytes.result.now ≡ bytes = c.bytes-bytes.ensures.value ∙ sym (ap (λ v. v.bytes) c.self.view_is) in
    let clear = c.self.invariant.5 in
    rw (← c.self.view_is) (newline_at bytes s.clear_first (rw same at c.if-first-bytes.true) (rw same at c.if-bytes-first-eq10.true) clear.first_clear)
