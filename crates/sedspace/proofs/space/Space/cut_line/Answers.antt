use Rattle.std.proofs.Common.{◌≡◌, ◌+◌, ◌-◌, Some, ap, arith, sym, ◌∙◌, rules, take, drop, length, length-drop, length-take, position}
use Rattle.std.specs.List.{after_first}
use Rattle.std.proofs.lemmas.List.{drop-drop}
use Rattle.sedspace.specs.Lines.{is_newline}
use Rattle.sedspace.proofs.ClearLemmas.{clear_drop}
use Rattle.sedspace.proofs.LineLemmas.{newline_at, newline_none, contains_newline}
use Rattle.sedspace.proofs.space.Space.cut_line.Goals as goal

pub returns-in-Some-clause-cut : goal.returns-in-Some-clause-cut
returns-in-Some-clause-cut c = λ _.
    let s = c.self.inside in
    let i = c.in-Some.at in
    let held = take s.end s.held.items in
    let bytes = drop s.front held in
    let found : Some i ≡ position is_newline bytes = rw (← c.self.view_is) at c.in-Some.ensures in
    let n = newline_at bytes i found in
    let rest : drop (s.front + (i + 1)) held ≡ after_first is_newline bytes = sym (drop-drop (i + 1) s.front held) ∙ sym n.after in
    rw (← c.self.view_is) (contains_newline bytes i n, ap (λ z. record { bytes = z; limit = s.most }) rest)

pub returns-in-None-clause-whole : goal.returns-in-None-clause-whole
returns-in-None-clause-whole c = λ _.
    (newline_none c.args.self.now.bytes c.in-None.ensures, search rules)

pub invariant_of-self : goal.invariant_of-self
invariant_of-self c =
    let s = c.self.inside in
    let i = c.in-Some.at in
    let held = take s.end s.held.items in
    let bytes = drop s.front held in
    let h = c.self.invariant in
    let found : Some i ≡ position is_newline bytes = rw (← c.self.view_is) at c.in-Some.ensures in
    let n = newline_at bytes i found in
    let size : length bytes ≡ s.end - s.front = omega (arith, length-drop s.front held, length-take s.end s.held.items, h.0, h.1) in
    let clear = clear_drop s.clear_first s.clear_last (i + 1) (s.end - (s.front + (i + 1))) bytes (omega (arith, n.within, size)) h.5 in
    (omega (arith, n.within, size), h.1, h.2, h.3, h.4, rw (c.clear_of_rest-self-inside.ensures, c.min-self-inside.ensures, ← drop-drop (i + 1) s.front held) clear)
